use Rattle.std.proofs.Common.{arith, length}
use Rattle.romfs_rules.proofs.Closure.{unseeded, passed_to, seeds_more, all_seeded}
use Rattle.romfs_rules.proofs.chains.seeds.Goals as goal

pub loop-slot-init : goal.loop-slot-init
loop-slot-init g c = record {
  low = omega arith;
  seeded = rw c.new-todo.ensures.items (unseeded c.args.volume.now.bytes.now c.args.root_chain.now c.requires.root_chain);
}

pub loop-slot-preserved : goal.loop-slot-preserved
loop-slot-preserved g c =
    let a = c.args.volume.now.bytes.now in
    let set = c.args.root_chain.now in
    let n = c.in-Some.ensures.next in
    let h = n.high in
    let before = passed_to a set c.requires.root_chain c.loop-slot.from c.in-Some.slot c.loop-slot.todo.items n.low n.clear
    c.loop-slot.invariant.seeded in
    record {
      low = omega arith;
      seeded = seeds_more a set c.requires.root_chain c.in-Some.slot c.loop-slot.todo.items before n.is
          c.first_below.result c.push_some.new.todo.items c.first_below.ensures c.in_ok-push_some.ensures;
    }

pub returns : goal.returns
returns g c =
    let a = c.args.volume.now.bytes.now in
    let set = c.args.root_chain.now in
    all_seeded a set c.requires.root_chain (length set) c.loop-slot.todo.items (omega arith)
    (passed_to a set c.requires.root_chain c.loop-slot.from (length set) c.loop-slot.todo.items
    c.loop-slot.invariant.low c.in_default.ensures.next c.loop-slot.invariant.seeded)
