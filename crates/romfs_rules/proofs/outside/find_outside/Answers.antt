use Rattle.std.proofs.Common.{◌≡◌, ◌*◌, ◌/◌, ℕ, Option, None, subst, arith, length}
use Rattle.romfs_rules.specs.Outside.{IsBeforeRoot, IsPastEnd, Names, Notes}
use Rattle.romfs_rules.proofs.Slots.{clear_gap, slot_inside, slot_behind, root_slot, cleared_root, inside_root}
use Rattle.romfs_rules.proofs.Reach.{IsFoundBefore, nothing, scans, scanned_to, all_scanned}
use Rattle.romfs_rules.proofs.outside.find_outside.Goals as goal

pub note_named-found-requires : goal.note_named-found-requires
note_named-found-requires g c = root_slot c.args.volume.now.bytes.now c.args.volume.now.keeps c.args.volume.now.root
    c.args.volume.now.rooted

pub note_named-found-requires-in-Some : goal.note_named-found-requires-in-Some
note_named-found-requires-in-Some g c =
    let n = c.in-Some.ensures.next in
    slot_behind c.args.volume.now.bytes.now c.args.chains.now.headers c.loop-slot.from c.in-Some.slot
    c.requires.chains.headers.sized c.loop-slot.invariant.behind n.low n.high

pub loop-slot-init : goal.loop-slot-init
loop-slot-init g c =
    let a = c.args.volume.now.bytes.now in
    let slot = c.args.volume.now.root / 16 in
    let t = c.args.volume.now.rooted in
    let k = cleared_root a in
    let e : c.args.volume.now.root ≡ slot * 16 = omega arith in
    let v = c.args.volume.now.keeps.inside in
    let s = c.requires.chains.headers.sized in
    let inside = slot_inside a slot (omega arith) (omega arith) in
    let after = c.note_named-found in
    record {
      behind = omega arith;
      low = omega arith;
      below = scans a (IsBeforeRoot a) slot None after.result.below inside
          (nothing a (IsBeforeRoot a) slot (omega arith)) (subst
          (λ h. Notes (Names a h) (IsBeforeRoot a) None after.result.below) e after.ensures.0);
      above = scans a (IsPastEnd a) slot None after.result.above inside
          (nothing a (IsPastEnd a) slot (omega arith)) (subst
          (λ h. Notes (Names a h) (IsPastEnd a) None after.result.above) e after.ensures.1);
    }

pub loop-slot-preserved : goal.loop-slot-preserved
loop-slot-preserved g c =
    let a = c.args.volume.now.bytes.now in
    let slot = c.in-Some.slot in
    let n = c.in-Some.ensures.next in
    let l = n.low in
    let h = n.high in
    let s = c.requires.chains.headers.sized in
    let b = c.loop-slot.invariant.behind in
    let inside = (slot_behind a c.args.chains.now.headers c.loop-slot.from slot s b l h).inside in
    let before = c.loop-slot.found in
    let after = c.note_named-found-in-Some in
    let chains = clear_gap c.requires.chains.headers l n.one_clear in
    let targets = clear_gap c.requires.targets l n.other_clear in
    record {
      behind = omega arith;
      low = omega arith;
      below = scans a (IsBeforeRoot a) slot before.below after.result.below inside
          (scanned_to a (IsBeforeRoot a) before.below b chains targets c.loop-slot.invariant.below)
          after.ensures.0;
      above = scans a (IsPastEnd a) slot before.above after.result.above inside
          (scanned_to a (IsPastEnd a) before.above b chains targets c.loop-slot.invariant.above)
          after.ensures.1;
    }

pub returns : goal.returns
returns g c =
    let a = c.args.volume.now.bytes.now in
    let headers = c.args.chains.now.headers in
    let s = c.requires.chains.headers.sized in
    let b = c.loop-slot.invariant.behind in
    let l = c.loop-slot.invariant.low in
    let chains = clear_gap c.requires.chains.headers l c.in_default.ensures.next.0 in
    let targets = clear_gap c.requires.targets l c.in_default.ensures.next.1 in
    let all : (Q : ℕ → Type 0) → (found : Option ℕ) → IsFoundBefore a Q c.loop-slot.from found
    → IsFoundBefore a Q (length headers) found = λ Q found f. scanned_to a Q found b chains targets f in
    record {
      below = all_scanned a (IsBeforeRoot a) c.args.volume.now.keeps (length headers) c.loop-slot.found.below
          (omega arith) (λ g q e. omega arith) (all (IsBeforeRoot a) c.loop-slot.found.below
          c.loop-slot.invariant.below);
      above = all_scanned a (IsPastEnd a) c.args.volume.now.keeps (length headers) c.loop-slot.found.above
          (omega arith) (λ g q e. (let i = inside_root a c.args.volume.now.keeps in omega arith))
          (all (IsPastEnd a) c.loop-slot.found.above c.loop-slot.invariant.above);
    }
