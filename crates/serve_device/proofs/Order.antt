-- The reported end of readers: none of theirs ranks before it, and it is one of theirs.
use Rattle.std.proofs.Common.{◌≡◌, ◌∙◌, ◌≤◌, ◌⊎◌, refl, ap, Bool, true, false, inl, inr, List, [], ◌∷◌, nat_le, arith}
use Rattle.std.proofs.lemmas.Bool.{leb-false, leb-true}
use Rattle.serve_device.specs.declared.ends.End.{End}
use Rattle.serve_device.specs.declared.ends.End.TheVariants.{AtEnd}
use Rattle.serve_device.specs.Ends.{first_told, place_of_end}
use Rattle.serve_device.specs.Seats.{SeatState, end_of_all, own_end}
use Rattle.serve_device.specs.Laws.{HasReader, IsToldFirst}

-- the former is reported if it ranks first, and the latter if that does
low_told : (a b : End) → nat_le (place_of_end a) (place_of_end b) ≡ true → first_told a b ≡ a
low_told a b e = rw e refl

high_told : (a b : End) → nat_le (place_of_end a) (place_of_end b) ≡ false → first_told a b ≡ b
high_told a b e = rw e refl

-- the reported one of two ends ranks before neither
before_both : (a b : End) → (place_of_end (first_told a b) ≤ place_of_end a) × (place_of_end (first_told a b) ≤ place_of_end b)
before_both a b = cases (nat_le (place_of_end a) (place_of_end b)) refl
  where
    cases : (t : Bool) → nat_le (place_of_end a) (place_of_end b) ≡ t
        → (place_of_end (first_told a b) ≤ place_of_end a) × (place_of_end (first_told a b) ≤ place_of_end b)
    cases true e = let l = leb-true _ _ e in let k = ap place_of_end (low_told a b e) in (omega arith, omega arith)
    cases false e = let l = leb-false _ _ e in let k = ap place_of_end (high_told a b e) in (omega arith, omega arith)

either_told : (a b : End) → (first_told a b ≡ a) ⊎ (first_told a b ≡ b)
either_told a b = cases (nat_le (place_of_end a) (place_of_end b)) refl
  where
    cases : (t : Bool) → nat_le (place_of_end a) (place_of_end b) ≡ t → (first_told a b ≡ a) ⊎ (first_told a b ≡ b)
    cases true e = inl (low_told a b e)
    cases false e = inr (high_told a b e)

module _ {A : Type 0} where
  earlier : (a b : End) (seats : List (SeatState A)) → place_of_end a ≤ place_of_end b → IsToldFirst b seats → IsToldFirst a seats
  earlier a b [] h t = tt
  earlier a b (s ∷ seats) h t = ((let l = t.0 in omega arith), earlier a b seats h t.1)

  pub told_first : (seats : List (SeatState A)) → IsToldFirst (end_of_all seats) seats
  told_first [] = tt
  told_first (s ∷ seats) =
      let both = before_both (own_end s) (end_of_all seats) in
      (both.0, earlier (end_of_all (s ∷ seats)) (end_of_all seats) seats both.1 (told_first seats))

  one_of : (seats : List (SeatState A)) (end : End) → end ≡ end_of_all seats → (end ≡ AtEnd) ⊎ HasReader end seats
  one_of [] end e = inl e
  one_of (s ∷ seats) end e = elim (either_told (own_end s) (end_of_all seats)) [
    | inl own ↦ inr (inl (e ∙ own))
    | inr other ↦ elim (one_of seats end (e ∙ other)) [ inl none ↦ inl none | inr has ↦ inr (inr has) ]
  ]

  pub told_of_one : (seats : List (SeatState A)) → (end_of_all seats ≡ AtEnd) ⊎ HasReader (end_of_all seats) seats
  told_of_one seats = one_of seats (end_of_all seats) refl
