use Rattle.std.proofs.Common.{◌∙◌, ◌/◌, refl, arith}
use Rattle.romfs_rules.specs.Plain.{WalkState}
use Rattle.romfs_rules.proofs.PlainChain.{begun, none_hashed, steps, hashed_more, ended}
use Rattle.romfs_sets.proofs.Marks.{marks_fall}
use Rattle.romfs_rules.proofs.plain.Walk.is_plain_chain.Goals as goal

pub loop-next-init : goal.loop-next-init
loop-next-init g c = record {
  chained = rw (← c.self.view_is)
      (begun c.args.volume.now.bytes.now c.args.folder _ c.clear.new.self.items c.clear-2.new.self.items
      c.first_of-next.result c.clear.ensures.items c.first_of-next.ensures);
  hashed = none_hashed c.args.volume.now.bytes.now c.clear.new.self.items c.clear-2.new.self.items c.clear.ensures.items
      c.clear-2.ensures.items;
}

pub loop-next-smaller : goal.loop-next-smaller
loop-next-smaller g c =
    let f = c.if-not-is_new.ensures refl in
    let less = marks_fall c.loop-next.self-inside.marks (c.in-Some.head / 16) f.1 f.2 in
    rw c.insert.ensures (omega arith)

pub loop-next-preserved : goal.loop-next-preserved
loop-next-preserved g c =
    let f = c.if-not-is_new.ensures refl in
    let x = c.in-Some-find_plain.ensures in
    let now : WalkState = record {
      marks = c.loop-next.self-inside.marks;
      todo = c.loop-next.self-inside.todo.items;
      heads = c.loop-next.self-inside.heads.items;
      hashes = c.loop-next.self-inside.hashes.items;
    } in
    record {
      chained = rw (c.insert.ensures, c.in_ok-push.ensures.items)
          (steps c.args.volume.now.bytes.now c.args.folder c.args.self.now now c.in-Some.head
          (rw c.in-Some.is at c.loop-next.invariant.chained)
          x.plain f.1 f.2 c.push_below.new.todo.items c.in_ok-push_below.ensures c.push-in-Some.new.self.items
          c.next_by-next.result c.next_by-next.ensures);
      hashed = rw (c.in_ok-push.ensures.items, c.in_ok-push-2.ensures.items)
          (hashed_more c.args.volume.now.bytes.now c.in-Some.head c.in-Some-find_plain.found.hash c.loop-next.self-inside.heads.items
          c.loop-next.self-inside.hashes.items x.mixed c.loop-next.invariant.hashed);
    }

pub returns : goal.returns
returns g c = λ _. ended c.args.volume.now.bytes.now c.args.folder c.args.self.now _
    (rw c.in_default.is at c.loop-next.invariant.chained) c.loop-next.invariant.hashed

pub first_of-next-requires : goal.first_of-next-requires
first_of-next-requires g c = record { inside = c.requires.inside }

pub is_new-requires-clause-sized : goal.is_new-requires-clause-sized
is_new-requires-clause-sized g c = c.loop-next.invariant.chained.front.sized ∙ c.requires.sized

pub find_plain-requires : goal.find_plain-requires
find_plain-requires g c = (c.if-not-is_new.ensures refl).0

pub insert-requires : goal.insert-requires
insert-requires g c = (c.if-not-is_new.ensures refl).1

pub push_below-requires-clause-inside : goal.push_below-requires-clause-inside
push_below-requires-clause-inside g c = (c.if-not-is_new.ensures refl).0

pub push_below-requires-clause-names : goal.push_below-requires-clause-names
push_below-requires-clause-names g c = let depth = c.in-Some-find_plain.ensures.plain.depth in omega arith

pub push_below-requires-clause-opens : goal.push_below-requires-clause-opens
push_below-requires-clause-opens g c = c.in-Some-find_plain.ensures.opening

pub next_by-next-requires-clause-inside : goal.next_by-next-requires-clause-inside
next_by-next-requires-clause-inside g c = (c.if-not-is_new.ensures refl).0

pub next_by-next-requires-clause-next : goal.next_by-next-requires-clause-next
next_by-next-requires-clause-next g c = c.in-Some-find_plain.ensures.follows
