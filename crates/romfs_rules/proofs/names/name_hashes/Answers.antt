use borrow.Author.Count.{falls}
use Rattle.std.proofs.Common.{◌≡◌, ◌∙◌, sym, ap, ℕ, List, Some}
use Rattle.romfs_sets.specs.Names.{name_hash}
use Rattle.romfs_rules.specs.Names.{kept_names}
use Rattle.romfs_rules.proofs.NameHashes.{one_hash, same_some, some_none}
use Rattle.romfs_rules.proofs.names.name_hashes.Goals as goal
use Rattle.romfs_rules.proofs.names.name_hashes.Goals.{in-Some, in-None}

pub loop-at-preserved : goal.loop-at-preserved
loop-at-preserved g c =
    let name = kept_names c.args.volume.now.bytes.now c.args.heads.now in
    let i = c.loop-at.at-index in
    let own : (q : List ℕ) → name i ≡ Some q → c.match-kept_name.hash ≡ name_hash q = λ q e. elim c.match-kept_name.branch [
      | in-Some w ↦ w.hash-is ∙ w.hash_of-hash.ensures ∙ ap name_hash (same_some _ q (w.in-Some.ensures ∙ e))
      | in-None w ↦ absurd (some_none q (sym e ∙ sym w.in-None.ensures))
    ] in
    one_hash name i c.match-kept_name.hash c.loop-at.hashes.items c.push.new.self.items own c.in_ok-push.ensures.items c.loop-at.invariant

pub loop-at-smaller : goal.loop-at-smaller
loop-at-smaller g c = falls _ _ c.loop-at-test.true
