-- The lists of rows as they are kept: the numbers of rows lead to what the definitions say (kept_told), or no row has a list (bare_told),
-- and each number is that of a list (numbers_small). What that says about an image whose trailer is right (bare_lists, kept_lists,
-- are_kept).
use Rattle.std.proofs.Common.{◌≡◌, ◌∙◌, sym, ap, subst, ℕ, zero, suc, ◌<◌, ◌≤◌, inl, inr, List, [], ◌∷◌, ◌++◌, length, map, drop, get_or, arith, refl, Bool, true, false, cond, All}
use Rattle.std.specs.Prelude.{nat_eq, codes, replicate}
use Rattle.std.specs.List.{starts_with}
use Rattle.std.proofs.lemmas.Bool.{cases_order, and_parts, leb-true}
use Rattle.std.proofs.lemmas.List.{length-append, map-append, get_or_append_left, get_or_push, append-nil}
use Rattle.romfs_format.proofs.Below.{at_below}
use Rattle.romfs_format.specs.Extended.{Extended}
use Rattle.romfs_format.specs.Fields.{word}
use Rattle.romfs_format.specs.Part.{list_count, list_number, lists_in, numbered, leads, AreLists, IsFramed, IsPart}
use Rattle.romfs_format.specs.Trailer.{trailer, trailer_at, has_trailer, row_count, row_start, trailer_end, part, has_part, mode_of, extended_of, first_lists, lists, IsTrailer, IsTrailerBroken}
use Rattle.romfs_format.proofs.Trailers.{kept_trailer}
use Rattle.romfs_rows.specs.Listed.{lists_told, numbers_of, AreKeptLists}

pub numbers_length : (x : List ℕ) (n : ℕ) → length (numbers_of x n) ≡ n
numbers_length x zero = refl
numbers_length x (suc n) = rw (length-append (numbers_of x n) (list_number x n ∷ []), numbers_length x n) (omega arith)

numbers_get : (x : List ℕ) (n i d : ℕ) → i < n → get_or (numbers_of x n) i d ≡ list_number x i
numbers_get x zero i d l = absurd (omega arith)
numbers_get x (suc n) i d l = elim (cases_order i n) [
  | inl e ↦ rw e (get_or_push (numbers_of x n) (list_number x n) d n (numbers_length x n))
  | inr (inl m) ↦
      get_or_append_left (numbers_of x n) (list_number x n ∷ []) d i (rw (numbers_length x n) m)
      ∙ numbers_get x n i d m
  | inr (inr m) ↦ absurd (omega arith)
]

-- each row's number is that of a list
pub numbers_small : (n : ℕ) (mode : ℕ → ℕ) (x : List ℕ) → IsPart n mode x
    → All (λ k. k ≤ list_count (lists_in n x)) (numbers_of x n)
numbers_small n mode x p i d l =
    let m : i < n = rw (← numbers_length x n) l in
    let e = at_below n (leads n mode x) i m p.rows in
    rw (numbers_get x n i d m) (leb-true _ _ (and_parts _ _ e).0)

-- if a trailer has a second part, the numbers of rows lead to their lists
module _ (t : List ℕ) (has : has_part t ≡ true) where
  one_told : (n : ℕ) → extended_of t n ≡ numbered (lists_in (row_count t) (part t)) (list_number (part t) n)
  one_told n = rw has refl

  all_told : (n : ℕ) → map (numbered (lists_in (row_count t) (part t))) (numbers_of (part t) n) ≡ first_lists t n
  all_told zero = refl
  all_told (suc n) =
      let told = numbered (lists_in (row_count t) (part t)) in
      map-append told (numbers_of (part t) n) (list_number (part t) n ∷ [])
      ∙ ap (λ xs. xs ++ told (list_number (part t) n) ∷ []) (all_told n)
      ∙ ap (λ x. first_lists t n ++ x ∷ []) (sym (one_told n))

  pub kept_told : (n : ℕ) → lists_told (lists_in (row_count t) (part t)) (numbers_of (part t) n) 0 ≡ first_lists t n
  kept_told n = append-nil _ ∙ all_told n

abbrev none : List Extended
none = []

-- one more at the end is one more
more : (n : ℕ) → replicate n none ++ none ∷ [] ≡ replicate (suc n) none
more zero = refl
more (suc n) = ap (λ xs. none ∷ xs) (more n)

-- if it has none, no row has a list
pub bare_told : (t : List ℕ) → has_part t ≡ false → (n : ℕ) → lists_told [] [] n ≡ first_lists t n
bare_told t has zero = refl
bare_told t has (suc n) =
    sym (more n) ∙ ap (λ xs. xs ++ none ∷ []) (bare_told t has n)
    ∙ ap (λ x. first_lists t n ++ x ∷ []) (let e : extended_of t n ≡ [] = rw has refl in sym e)

-- an image whose trailer is right, and the trailer
module _ (b t : List ℕ) (place : ℕ) (has : has_trailer b ≡ true) (whole : ¬ IsTrailerBroken b) (place_is : place ≡ trailer_at b)
    (is : t ≡ drop place b) where
  same : t ≡ trailer b
  unfolding trailer
  same = is ∙ ap (λ p. drop p b) place_is

  right : IsTrailer (word b 8) t
  right = subst (IsTrailer (word b 8)) (sym same) (kept_trailer b has whole)

  lists_are : lists b ≡ first_lists t (row_count t)
  lists_are = ap (λ h. cond h (first_lists (trailer b) (row_count (trailer b))) []) has
      ∙ ap (λ xs. first_lists xs (row_count xs)) (sym same)

  pub head_long : 12 ≤ length t
  head_long = let l = right.whole in omega arith

  -- the bytes after its rows
  module _ (n start : ℕ) (n_is : n ≡ row_count t) (start_is : start ≡ row_start n) where
    start_same : start ≡ trailer_end t
    start_same = start_is ∙ ap row_start n_is

    pub rows_long : start ≤ length t
    rows_long = let l = right.whole in let e = start_same in omega arith

    module _ (x : List ℕ) (rest : x ≡ drop start t) where
      part_same : x ≡ part t
      unfolding part
      part_same = rest ∙ ap (λ p. drop p t) start_same

      begins : (answer : Bool) → starts_with nat_eq x (codes "-attr02-") ≡ answer → has_part t ≡ answer
      begins answer e = ap (λ xs. starts_with nat_eq xs (codes "-attr02-")) (sym part_same) ∙ e

      pub bare_lists : starts_with nat_eq x (codes "-attr02-") ≡ false → (made : List (List Extended)) → made ≡ replicate n []
          → made ≡ lists b
      bare_lists e made m = m ∙ ap (λ k. replicate k none) n_is ∙ bare_told t (begins false e) (row_count t) ∙ sym lists_are

      module _ (e : starts_with nat_eq x (codes "-attr02-") ≡ true) where
        part_right : IsPart n (mode_of t) x
        part_right = subst (λ k. IsPart k (mode_of t) x) (sym n_is)
            (subst (IsPart (row_count t) (mode_of t)) (sym part_same) (right.part (begins true e)))

        pub framed : IsFramed n x
        framed = part_right.frame

        pub are_kept : (bytes numbers : List ℕ) → bytes ≡ lists_in n x → numbers ≡ numbers_of x n → AreKeptLists bytes numbers
        are_kept bytes numbers f g = record {
          lists = λ l. subst AreLists (sym f) part_right.lists;
          each = subst (λ y. All (λ k. k ≤ list_count y) numbers) (sym f)
              (subst (All (λ k. k ≤ list_count (lists_in n x))) (sym g) (numbers_small n (mode_of t) x part_right));
        }

        pub kept_lists : (bytes numbers : List ℕ) → bytes ≡ lists_in n x → numbers ≡ numbers_of x n
            → lists_told bytes numbers 0 ≡ lists b
        kept_lists bytes numbers f g =
            ap (λ y. lists_told y numbers 0) f ∙ ap (λ ks. lists_told (lists_in n x) ks 0) g
            ∙ ap (λ k. lists_told (lists_in k x) (numbers_of x k) 0) n_is
            ∙ ap (λ y. lists_told (lists_in (row_count t) y) (numbers_of y (row_count t)) 0) part_same
            ∙ kept_told t (begins true e) (row_count t) ∙ sym lists_are
