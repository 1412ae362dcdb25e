use Rattle.std.proofs.Common.{arith}
use Rattle.romfs_sets.proofs.Marks.{marks_fall}
use Rattle.romfs_sets.proofs.Rounds.{sets_out, walks, meets}
use Rattle.romfs_sets.proofs.climb.seek.Goals as goal

pub loop-visited-init : goal.loop-visited-init
loop-visited-init c = record { inside = c.requires.from; walk = λ e k b f. sets_out _ e _ _ b f }

pub loop-visited-smaller : goal.loop-visited-smaller
loop-visited-smaller c =
    let i = c.loop-visited.invariant.inside in
    let k = marks_fall c.loop-visited.visited c.loop-visited.at (omega arith) c.loop-visited-test.true in
    omega arith

pub loop-visited-preserved : goal.loop-visited-preserved
loop-visited-preserved c =
    let l = c.loop-visited.invariant in
    record {
      inside = c.requires.next.each _ l.inside;
      walk = λ e k b f. walks _ e _ _ _ l.inside (let i = l.inside in omega arith) k (l.walk e k b f);
    }

pub returns : goal.returns
returns c =
    let l = c.loop-visited.invariant in
    record {
      inside = l.inside;
      walk = l.walk;
      cycle = λ e k b f. meets _ e _ _ _ c.loop-visited-test.false (l.walk e k b f);
    }
