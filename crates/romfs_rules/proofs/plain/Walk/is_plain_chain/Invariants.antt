use Rattle.std.proofs.Common.{length}
use Rattle.romfs_rules.specs.Names.{kept_names, AreNameHashes}
use Rattle.romfs_rules.proofs.PlainChain.{Chained}
use Rattle.romfs_sets.proofs.Marks.{unmarked}
use Rattle.romfs_rules.proofs.plain.Walk.is_plain_chain.Given as goal

-- the headers before the next one were passed, and these are the hashes of their names
abbrev pub invariant-loop-next : goal.invariant-loop-next
invariant-loop-next g l = record {
  chained : Chained l.volume.bytes.now l.folder l.fn.self (record {
    marks = l.self-inside.marks;
    todo = l.self-inside.todo.items;
    heads = l.self-inside.heads.items;
    hashes = l.self-inside.hashes.items;
  }) l.next;
  hashed : AreNameHashes (kept_names l.volume.bytes.now l.self-inside.heads.items) (length l.self-inside.heads.items)
      l.self-inside.hashes.items;
}

-- how many slots have no mark
abbrev pub decreases-loop-next : goal.decreases-loop-next
decreases-loop-next g l = unmarked l.self-inside.marks
