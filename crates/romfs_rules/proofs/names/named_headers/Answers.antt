use borrow.Author.Count.{falls}
use Rattle.std.proofs.Common.{◌<◌, ◌∙◌, sym, refl, length, arith}
use Rattle.romfs_sets.proofs.Keyed.{none_some, one_named, one_without, all_held}
use Rattle.romfs_rules.specs.Names.{kept_names}
use Rattle.romfs_rules.proofs.names.named_headers.Goals as goal
use Rattle.romfs_rules.proofs.names.named_headers.Goals.{in-Some+in_ok-push, in_default}

pub loop-number-preserved-then-once-number : goal.loop-number-preserved-then-once-number
loop-number-preserved-then-once-number g c =
    let at = c.loop-number.number in
    let lt : at < length c.args.heads.now = omega arith in
    one_without (kept_names c.args.volume.now.bytes.now c.args.heads.now) (length c.args.heads.now) at c.loop-number.named.items
    (λ q e. c.requires.once at q lt c.if-once-number.true e) c.loop-number.invariant

pub loop-number-preserved : goal.loop-number-preserved
loop-number-preserved g c =
    let name = kept_names c.args.volume.now.bytes.now c.args.heads.now in
    let n = length c.args.heads.now in
    elim c.match-kept_name.branch [
      | in-Some+in_ok-push w ↦
          rw w.named-is (rw w.in_ok-push.ensures.items
          (one_named name n c.loop-number.number c.loop-number.named.items
          (record { hash = w.hash_of.result; name = w.in-Some.name; number = c.loop-number.number })
          (omega arith) refl (sym w.in-Some.ensures) w.hash_of.ensures c.loop-number.invariant))
      | in_default w ↦
          rw w.named-is (one_without name n c.loop-number.number c.loop-number.named.items
          (λ q e. absurd (none_some q (w.in_default.ensures ∙ e))) c.loop-number.invariant)
    ]

pub returns : goal.returns
returns g c =
    all_held (kept_names c.args.volume.now.bytes.now c.args.heads.now) (length c.args.heads.now) c.loop-number.number
    c.loop-number.named.items (omega arith) c.loop-number.invariant

pub loop-number-smaller-then-once-number : goal.loop-number-smaller-then-once-number
loop-number-smaller-then-once-number g c = falls _ _ c.loop-number-test.true

pub loop-number-smaller : goal.loop-number-smaller
loop-number-smaller g c = falls _ _ c.loop-number-test.true
