-- As many rows as fit are a front of all of them, and fit. `front` is the main lemma, row by row: a first row that fits precedes those that
-- fit in the room that it leaves (`one_more`), and if it does not fit there is none (`none`).
use Rattle.std.proofs.Common.{◌≡◌, ap, ℕ, suc, ◌-◌, ◌<◌, ◌≤◌, List, [], ◌∷◌, length, Bool, true, false, cond, refl, arith, length-append}
use Rattle.std.specs.Prelude.{nat_le}
use Rattle.std.specs.List.{flat_map}
use Rattle.std.proofs.lemmas.Bool.{leb-true, leb-false}
use Rattle.reply_model.specs.Rows.{Row, fitting}
use Rattle.reply_model.specs.Laws.{AreFirstThatFit}

module _ (form : Row → List ℕ) where
  one_more : (room : ℕ) (r : Row) (rows : List Row) → length (form r) ≤ room
      → AreFirstThatFit form (room - length (form r)) rows (fitting form (room - length (form r)) rows)
      → AreFirstThatFit form room (r ∷ rows) (r ∷ fitting form (room - length (form r)) rows)
  one_more room r rows l f =
      let e = length-append (form r) (flat_map form (fitting form (room - length (form r)) rows)) in
      record {
        count = suc f.count;
        is = ap (λ v. r ∷ v) f.is;
        fits = (let g = f.fits in omega arith);
        full = λ next is. (let g = f.full next is in omega arith);
      }

  none : (room : ℕ) (r : Row) (rows : List Row) → room < length (form r) → AreFirstThatFit form room (r ∷ rows) []
  none room r rows l = record {
    count = 0;
    is = refl;
    fits = omega arith;
    full = λ next is.
        (let e : r ≡ next = cc in let f = ap (λ v. length (form v)) e in omega arith);
  }

  -- rows that are taken as long as they fit are the first ones, and with the next one would not fit
  pub front : (room : ℕ) (rows : List Row) → AreFirstThatFit form room rows (fitting form room rows)
  front room [] = record { count = 0; is = refl; fits = omega arith; full = λ next is. absurd (cc) }
  front room (r ∷ rows) = go (nat_le (length (form r)) room) refl (front (room - length (form r)) rows)
    where
      go : (b : Bool) → nat_le (length (form r)) room ≡ b
          → AreFirstThatFit form (room - length (form r)) rows (fitting form (room - length (form r)) rows)
          → AreFirstThatFit form room (r ∷ rows) (cond b (r ∷ fitting form (room - length (form r)) rows) [])
      go true e f = one_more room r rows (leb-true (length (form r)) room e) f
      go false e f = none room r rows (leb-false (length (form r)) room e)
