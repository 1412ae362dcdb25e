-- The results of all readers, seat by seat. A call at each place of a list makes a relation of both lists (`zipped`); seats that are new,
-- except the first, which has served, may serve on (`ready_all`); and what the opening and then all of them did is what is promised for
-- readers (`served_by_one`, `served_by_all`).
use Rattle.std.proofs.Common.{◌≡◌, sym, ap, subst, refl, ℕ, zero, suc, ◌<◌, ◌≤◌, List, [], ◌∷◌, length, map, drop, replicate, slice_index_or, slice_set, Option, None, Some, arith}
use Rattle.std.specs.List.{AllByRecursion, AllZip}
use Rattle.devices.specs.declared.limits.TheConstants.{MAX_TURNS}
use Rattle.reply_model.specs.declared.session.Session.{Session}
use Rattle.reply_model.specs.Readings.{Sourced}
use Rattle.serve_loop.specs.declared.opening.Begun.{Begun}
use Rattle.serve_loop.specs.Serving.{AreReady}
use Rattle.serve_core.specs.Headline.{Bounds}
use Rattle.serve_device.specs.Readers.{AreServedByAll, HasOpened, HasServed, IsServedByOne, shared}
use Rattle.serve_device.specs.Seats.{AreNew, SeatState, devices_of, new_seat}

-- a relation of two lists, place by place, of what a function makes of them
pub zipped : {X Y : Type 0} (R : Y → Y → Type 0) (f : X → Y) (xs ys : List X) → length ys ≡ length xs
    → ((i : ℕ) (d : X) → i < length xs → R (f (slice_index_or xs i d)) (f (slice_index_or ys i d)))
    → AllZip R (map f xs) (map f ys)
zipped R f [] [] same each = tt
zipped R f [] (y ∷ ys) same each = absurd (omega (arith, same))
zipped R f (x ∷ xs) [] same each = absurd (omega (arith, same))
zipped R f (x ∷ xs) (y ∷ ys) same each =
    (each zero x (omega arith), zipped R f xs ys (omega (arith, same)) (λ i d lt. each (suc i) d (omega (arith, lt))))

-- what holds of each of a list holds of the one at a place
pub at_place : {X Y : Type 0} (P : Y → Type 0) (f : X → Y) (xs : List X) (i : ℕ) (d : X) → i < length xs
    → AllByRecursion P (map f xs) → P (f (slice_index_or xs i d))
at_place P f [] i d lt all = absurd (omega (arith, lt))
at_place P f (x ∷ xs) zero d lt all = all.0
at_place P f (x ∷ xs) (suc i) d lt all = at_place P f xs i d (omega (arith, lt)) all.1

-- seats of one reader after another are new, and as many
pub all_new : (A : Type 0) (n : ℕ) (left : Option (List ℕ)) → AreNew {A = A} (replicate n (new_seat left))
all_new A zero left = tt
all_new A (suc n) left = ((left, refl), all_new A n left)

pub as_many : {X Y : Type 0} (f : X → Y) (xs : List X) (n : ℕ) (y : Y) → map f xs ≡ replicate n y → length xs ≡ n
as_many f [] zero y e = refl
as_many f [] (suc n) y e = absurd (let k = ap length e in omega arith)
as_many f (x ∷ xs) zero y e = absurd (let k = ap length e in omega arith)
as_many f (x ∷ xs) (suc n) y e = let k = as_many f xs n y (ap (drop 1) e) in omega arith

module _ {A : Type 0} (turns : ℕ) where
  -- devices that were not used so far may be
  pub ready_new : (seat : SeatState A) → (left : Option (List ℕ)) × (seat ≡ new_seat left) → turns ≤ MAX_TURNS
      → AreReady turns (devices_of seat)
  ready_new seat (left, e) few =
      subst (λ s. AreReady turns (devices_of s)) (sym e)
      (record { few = few; pulls = omega arith; ends = omega arith; source_failures = omega arith; sink_failures = omega arith })

  all_ready : (seats : List (SeatState A)) → AreNew seats → turns ≤ MAX_TURNS
      → AllByRecursion (λ seat. AreReady turns (devices_of seat)) seats
  all_ready [] new few = tt
  all_ready (seat ∷ seats) new few = (ready_new seat new.0 few, all_ready seats new.1 few)

  -- and so may those of a seat that replaced the first
  pub ready_all : {X : Type 0} (f : X → SeatState A) (xs : List X) (y : X) → 0 < length xs → AreNew (map f xs) → turns ≤ MAX_TURNS
      → AreReady turns (devices_of (f y)) → AllByRecursion (λ seat. AreReady turns (devices_of seat)) (map f (slice_set xs 0 y))
  ready_all f [] y some new few ready = absurd (omega (arith, some))
  ready_all f (x ∷ xs) y some new few ready = (ready, all_ready (map f xs) new.1 few)

module _ {A : Type 0} (first : Session) (by : Sourced) (within : Bounds) where
  -- if the session has begun, the devices may be used on
  pub ready_on : (old new : SeatState A) (begun : Begun A) → (left : Option (List ℕ)) × (old ≡ new_seat left)
      → within.turns ≤ MAX_TURNS → HasOpened first (shared by within) old new (Some begun) → AreReady within.turns (devices_of new)
  ready_on old new begun (left, e) few (got, put, took, held, b) =
      let p = ap (λ s. (devices_of s).source.counts.pulls) e in let n = ap (λ s. (devices_of s).source.counts.ends) e in
      let f = ap (λ s. (devices_of s).source.counts.failures) e in let g = ap (λ s. (devices_of s).sink.counts.failures) e in
      let c = b.counted in
      let k = c.pulls in let l = c.ends in let m = c.read in let w = c.write in
      record { few = few; pulls = omega arith; ends = omega arith; source_failures = omega arith; sink_failures = omega arith }

  module _ {X : Type 0} (f : X → SeatState A) where
    pub served_by_one : (xs : List X) (d y : X) → 0 < length xs
        → HasOpened first (shared by within) (f (slice_index_or xs 0 d)) (f y) None
        → IsServedByOne first by within (map f xs) (map f (slice_set xs 0 y))
    served_by_one [] d y some o = absurd (omega (arith, some))
    served_by_one (x ∷ xs) d y some o = record {
      leader = f x;
      others = map f xs;
      old_is = refl;
      ended = f y;
      new_is = refl;
      opened = o;
    }

    pub served_by_all : (xs : List X) (d y : X) (begun : Begun A) (new : List (SeatState A)) → 0 < length xs
        → HasOpened first (shared by within) (f (slice_index_or xs 0 d)) (f y) (Some begun)
        → AllZip (HasServed begun.session by within) (map f (slice_set xs 0 y)) new
        → AreServedByAll first by within (map f xs) new begun.done
    served_by_all [] d y begun new some o each = absurd (omega (arith, some))
    served_by_all (x ∷ xs) d y begun new some o each = record {
      leader = f x;
      others = map f xs;
      old_is = refl;
      began = f y;
      begun = begun;
      done_is = refl;
      opened = o;
      each = each;
    }
