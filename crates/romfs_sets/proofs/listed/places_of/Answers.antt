use Rattle.std.proofs.Common.{length, arith}
use Rattle.romfs_sets.proofs.Listing.{collects_none, collects_marked, collects_to}
use Rattle.romfs_sets.proofs.listed.places_of.Goals as goal

pub loop-slot-init : goal.loop-slot-init
loop-slot-init g c = rw c.new-places.ensures.items (record { low = omega arith; collected = collects_none c.args.set.now })

pub loop-slot-preserved : goal.loop-slot-preserved
loop-slot-preserved g c =
    let set = c.args.set.now in
    let n = c.in-Some.ensures.next in
    let h = n.high in
    let places = c.loop-slot.places.items in
    record {
      low = omega arith;
      collected = rw c.in_ok-push.ensures.items (collects_marked set c.in-Some.slot places
          (collects_to set c.loop-slot.from c.in-Some.slot places n.low n.clear
          c.loop-slot.invariant.collected) n.is);
    }

pub returns : goal.returns
returns g c =
    let set = c.args.set.now in
    collects_to set c.loop-slot.from (length set) c.loop-slot.places.items c.loop-slot.invariant.low c.in_default.ensures.next
    c.loop-slot.invariant.collected
