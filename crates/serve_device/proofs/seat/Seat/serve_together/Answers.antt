use denote.RattleType.{RattleType}
use denote.Ref.{NamedLft}
use denote.Exit.{no}
use denote.Struct.Struct.{Struct}
use denote.Struct.Declared.{shape}
use denote.Struct.Tuple.{TupleAt, type_at}
use denote.Param.Send.{IsSync, sendable, param_sync, arg_sync, recorded_sync, struct_sync, shr_sync}
use Rattle.std.specs.declared.alloc.Allocator.{Ghosts}
use Rattle.std.proofs.Crossing as crossing
use Rattle.std.proofs.CrossingOver as over
use Rattle.std.proofs.Common.{List, ℕ, [], ◌∷◌, rules, sym, subst, slice_index_or, arith}
use Rattle.node_reader.proofs.Shared.{tables_are_shared}
use Rattle.serve_core.specs.contracts.running.Serving as Serving
use Rattle.fuse_answer.specs.Puts.{sourced_by}
use Rattle.serve_core.specs.Headline.{bounds_of}
use Rattle.serve_loop.specs.Serving.{AreReady}
use Rattle.serve_device.specs.Readers.{HasServed}
use Rattle.serve_device.specs.Seats.{SeatState, devices_of, seat_of}
use Rattle.serve_device.proofs.Reading.{at_place, zipped}
use Rattle.serve_device.proofs.seat.Seat.serve_together.Goals as goal

pub for_each_mut-requires-clause-accepts : goal.for_each_mut-requires-clause-accepts
for_each_mut-requires-clause-accepts g c = λ κs lives i p lt is.
    let seat = seat_of {O = g.row.O.Denot} {A = g.row.A.Denot} g.I.Read.remaining in
    let ready = λ (s : SeatState g.row.A.Denot). AreReady c.args.serving.now.terms.turns (devices_of s) in
    let met = c.type_bounds in
    let here = subst (λ s. ready (seat s)) (sym is) (at_place ready seat c.args.seats.now i p.now lt c.requires.ready) in (
      (search rules, search rules, search rules, search rules, search rules, search rules, here),
      (met.send-I, met.send-O, met.send-A, search rules, search rules, search rules, search rules, search rules),
    )

-- what serves may be shared, if the allocator, the files and the gate may: a search through the table is long
servings_are_shared : (κ ν : NamedLft) (A D G : RattleType) (g : Ghosts A.Denot) → IsSync A → IsSync D → IsSync G
    → IsSync (Serving.the_row κ ν A D G g)
servings_are_shared κ ν A D G g allocator files gate =
    let table = tables_are_shared A g allocator in
    search (crossing.crosses, over.crosses, sendable) depth 60 fits 20000

-- a closure may be shared, if each of its three captures may
captures_are_shared : (name : List ℕ) (A B C : RattleType) → IsSync A → IsSync B → IsSync C → IsSync (TupleAt name (A ∷ B ∷ C ∷ []))
captures_are_shared name A B C a b c =
    let closure = type_at name (A ∷ B ∷ C ∷ []) in
    recorded_sync (Struct (shape closure)) closure.D closure.to closure.to_one (struct_sync (shape closure) (a, (b, (c, tt))))

pub for_each_mut-requires-sync-F : goal.for_each_mut-requires-sync-F
for_each_mut-requires-sync-F g c κs within =
    let met = c.type_bounds in
    let runtime = shr_sync _ _ _ met.sync-R in
    let serving = shr_sync _ _ _ (servings_are_shared _ _ _ _ _ g.A.Allocator met.sync-A met.sync-D met.sync-G) in
    param_sync 2 _ (arg_sync _ no _ (captures_are_shared _ _ _ _ runtime met.sync-A serving))

pub returns : goal.returns
returns g c =
    let serving = c.args.serving.now in
    let by = sourced_by g.D.Contents.source serving.served in
    let within = bounds_of g.D.Contents.source serving in
    let seat = seat_of {O = g.row.O.Denot} {A = g.row.A.Denot} g.I.Read.remaining in
    let served = HasServed {A = g.row.A.Denot} serving.terms.first by within in
    zipped served seat c.args.seats.now c.for_each_mut.new.s (omega (arith, c.for_each_mut.auto.s)) (λ i d lt.
    let at = (c.for_each_mut.ensures i d lt).1 in
    let new = slice_index_or c.for_each_mut.new.s i d in
    subst (λ s. served (seat s) (seat new)) at.argument_is (subst (λ s. served (seat at.argument.now) (seat s)) at.left at.call))
