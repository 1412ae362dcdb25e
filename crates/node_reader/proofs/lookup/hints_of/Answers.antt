use Rattle.std.proofs.Common.{◌≡◌, ◌+◌, subst, length, arith}
use Rattle.node_reader.specs.Held.{AreNotedUpTo}
use Rattle.node_reader.proofs.Noting.{one_more, no_more}
use Rattle.node_reader.proofs.lookup.hints_of.Goals.{in-Some, in_default}
use Rattle.node_reader.proofs.lookup.hints_of.Goals as goal

pub loop-at-preserved : goal.loop-at-preserved
loop-at-preserved g c = elim c.match-directory_at.branch [
  | in-Some w ↦ record {
    noted = rw w.filter-is (one_more c.args.nodes.now c.args.directories.now c.loop-at.filter _ c.loop-at.at _
        c.loop-at.invariant.noted w.note_all.ensures.kept w.in-Some.ensures (rw w.keys_of.ensures at w.note_all.ensures.noted));
    guesses = rw (w.guesses-is, w.note_rows.ensures) c.loop-at.invariant.guesses;
    filter = rw (w.filter-is, w.note_all.ensures.kept.level) c.loop-at.invariant.filter;
  }
  | in_default w ↦ record {
    noted = rw w.filter-is (no_more c.args.nodes.now c.args.directories.now c.loop-at.filter c.loop-at.at
        c.loop-at.invariant.noted w.in_default.ensures);
    guesses = rw w.guesses-is c.loop-at.invariant.guesses;
    filter = rw w.filter-is c.loop-at.invariant.filter;
  }
]

pub keys_of-requires-clause-start : goal.keys_of-requires-clause-start
keys_of-requires-clause-start g c = (c.requires.each (c.loop-at.at + 1) c.in-Some.directory.now c.in-Some.ensures).0

pub keys_of-requires-clause-end : goal.keys_of-requires-clause-end
keys_of-requires-clause-end g c = (c.requires.each (c.loop-at.at + 1) c.in-Some.directory.now c.in-Some.ensures).1

pub returns-clause-noted : goal.returns-clause-noted
returns-clause-noted g c =
    let end : c.loop-at.at ≡ length c.args.nodes.now = omega arith in
    subst (AreNotedUpTo c.args.nodes.now c.args.directories.now c.loop-at.filter) end c.loop-at.invariant.noted

pub returns-clause-guesses : goal.returns-clause-guesses
returns-clause-guesses g c = c.loop-at.invariant.guesses

pub returns-clause-filter : goal.returns-clause-filter
returns-clause-filter g c = c.loop-at.invariant.filter
