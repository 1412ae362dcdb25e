-- The readers of one open /dev/fuse. `are_as_many` says that as many are left as began, `shared_with` that a Vec which lent
-- them holds them as they were left.
use Rattle.std.proofs.Common.{◌≡◌, ◌∙◌, sym, ap, subst, ℕ, List, ◌∷◌, length, map, Option, Some, None, Vec}
use Rattle.std.specs.Vec.{with_items}
use Rattle.std.proofs.lemmas.List.{length-map, with_items_is}
use Rattle.std.proofs.lemmas.List.Elements.{length_all_zip}
use Rattle.serve_device.specs.declared.seat.Seat.{Seat}
use Rattle.serve_device.specs.Readers.{AreServedBy, HasServed, Shared}
use Rattle.serve_device.specs.Seats.{SeatState, seat_of}
use Rattle.reply_model.specs.declared.session.Session.{Session}
use Rattle.serve_loop.specs.declared.done.Done.{Done}

are_as_many : {A : Type 0} (first : Session) (over : Shared) (old new : List (SeatState A)) (before : Option (Done A))
    → AreServedBy first over old new before → length new ≡ length old
are_as_many first over old new (Some done) s =
    sym (length_all_zip (HasServed s.begun.session over.by over.within) (s.began ∷ s.others) new s.each) ∙ sym (ap length s.old_is)
are_as_many first over old new None s = ap length s.new_is ∙ sym (ap length s.old_is)

pub shared_with : {I O A B : Type 0} (remaining : I → Option (List ℕ)) (first : Session) (over : Shared)
    (seats : Vec (Seat I O A) B) (lent new : List (Seat I O A)) (before : Option (Done A)) → lent ≡ seats.items
    → AreServedBy first over (map (seat_of remaining) lent) (map (seat_of remaining) new) before
    → AreServedBy first over (map (seat_of remaining) seats.items) (map (seat_of remaining) (with_items seats new).items) before
shared_with {I} {O} {A} remaining first over seats lent new before e s =
    let seat = seat_of {O = O} {A = A} remaining in
    let many : length new ≡ seats.len = sym (length-map new seat)
    ∙ are_as_many first over (map seat lent) (map seat new) before s
    ∙ length-map lent seat ∙ ap length e ∙ sym seats.ok.0 in
    subst (λ items. AreServedBy first over (map seat seats.items) (map seat items) before)
    (sym (with_items_is seats new many))
    (subst (λ items. AreServedBy first over (map seat items) (map seat new) before) e s)
