-- The number of the row with a name, by the place of the name. `number_at` and `number_nowhere` are the main lemmas: the row at the first
-- place of the name is the row with the name, and if the name has no place there is no such row.
use Rattle.std.proofs.Common.{◌≡◌, ◌∙◌, sym, ap, ℕ, suc, ◌<◌, inl, inr, List, [], ◌∷◌, length, get_or, refl, arith, Bool, false, Some, None}
use Rattle.std.specs.Prelude.{find, slice_get}
use Rattle.std.specs.List.{position_or_len}
use Rattle.std.specs.Option.{option_map}
use Rattle.std.proofs.lemmas.Bool.{cases_lt, lt-ltb}
use Rattle.std.proofs.lemmas.List.{get_or-map, length-map}
use Rattle.std.proofs.lemmas.List.Folds.{find_at}
use Rattle.std.proofs.lemmas.List.Quantifiers.{position-Some}
use Rattle.std.proofs.lemmas.List.Sums.{position_or_len_is, fails_before_first}
use Rattle.std.proofs.lemmas.Option.{slice_get-get_or}
use Rattle.stack_model.specs.Numbers.{same_name}
use Rattle.layer_names.specs.Names.{place_of}
use Rattle.node_reader.specs.Rows.{Line, names, line_named, number_named}

module _ (n : List ℕ) (ls : List Line) where
  abbrev is : Line → Bool
  is l = same_name n l.name

  -- a row is determined by its name
  is_named : (k : ℕ) (d : Line) → k < length ls → same_name n (get_or (names ls) k []) ≡ same_name n (get_or ls k d).name
  is_named k d l = ap (same_name n) (get_or-map (λ (line : Line). line.name) ls k d [] l)

  -- the place of a name is one of the rows
  pub place_within : (i : ℕ) → place_of n (names ls) ≡ Some i → i < length ls
  place_within i e = let s = position-Some (same_name n) (names ls) i [] e in let l = s.0 in let m =
      length-map ls (λ (line : Line). line.name) in omega arith

  -- the row at the name's place is the first with the name
  named_at : (i : ℕ) (d : Line) → place_of n (names ls) ≡ Some i → line_named n ls ≡ Some (get_or ls i d)
  named_at i d e =
      let s = position-Some (same_name n) (names ls) i [] e in
      let l = place_within i e in
      let p : position_or_len is ls ≡ i =
      position_or_len_is is ls i d (omega arith) (λ k m. sym (is_named k d (omega arith)) ∙ s.2 k m) (λ _. sym (is_named i d l) ∙ s.1) in
      find_at is ls ∙ ap (slice_get ls) p ∙ slice_get-get_or ls i d l

none_is : (p : Line → Bool) (ls : List Line) → ((k : ℕ) (d : Line) → k < length ls → p (get_or ls k d) ≡ false) → find p ls ≡ None
none_is p [] f = refl
none_is p (l ∷ ls) f = rw (f 0 l (omega arith)) (none_is p ls (λ k d m. f (suc k) d (omega arith)))

-- if the name has no place, no row has the name
named_nowhere : (n : List ℕ) (ls : List Line) → place_of n (names ls) ≡ None → line_named n ls ≡ None
named_nowhere n ls e = elim (cases_lt (position_or_len (same_name n) (names ls)) (length (names ls))) [
  | inl l ↦ absurd (let f = rw (lt-ltb _ _ l) at e in cc)
  | inr l ↦
      let m = length-map ls (λ (line : Line). line.name) in
      none_is (is n ls) ls (λ k d o. sym (is_named n ls k d o) ∙ fails_before_first (same_name n) (names ls) k [] (omega arith))
]

-- the row at the name's place has the number of the name
pub number_at : (n : List ℕ) (ls : List Line) (i : ℕ) (d : Line) → place_of n (names ls) ≡ Some i
    → number_named n ls ≡ Some (get_or ls i d).number
number_at n ls i d e = ap (option_map (λ (l : Line). l.number)) (named_at n ls i d e)

-- if the name has no place, it has no number
pub number_nowhere : (n : List ℕ) (ls : List Line) → place_of n (names ls) ≡ None → number_named n ls ≡ None
number_nowhere n ls e = ap (option_map (λ (l : Line). l.number)) (named_nowhere n ls e)
