-- The list with a number above 0, as a run of attributes (numbered_run): how many it has (list_long),
-- and which one is at a position (name_there).
use Rattle.std.proofs.Common.{◌≡◌, ◌∙◌, ap, subst, ℕ, zero, suc, ◌+◌, ◌-◌, ◌*◌, ◌<◌, ◌≤◌, List, [], ◌∷◌, length, Option, Some, None, refl, arith}
use Rattle.std.specs.Prelude.{slice_get}
use Rattle.romfs_format.specs.Extended.{Extended}
use Rattle.std.specs.Option.{option_map}
use Rattle.romfs_format.specs.Part.{attribute_count, first_of, list_of, numbered, piece, attribute, attributes}
use Rattle.romfs_rows.specs.Listed.{IsFileList}
use Rattle.romfs_rows.proofs.Tables.{first_rises, first_small}

run_length : (y : List ℕ) (i m : ℕ) → length (attributes y i m) ≡ m
run_length y i zero = refl
run_length y i (suc m) = ap (λ (k : ℕ). suc k) (run_length y (suc i) m)

run_get : (y : List ℕ) (i m k : ℕ) → k < m → slice_get (attributes y i m) k ≡ Some (attribute y (i + k))
run_get y i zero k l = absurd (omega arith)
run_get y i (suc m) zero l = let e : i + 0 ≡ i = omega arith in rw e refl
run_get y i (suc m) (suc k) l =
    let e : i + suc k ≡ suc i + k = omega arith in
    rw e (run_get y (suc i) m k (omega arith))

pub numbered_run : (y : List ℕ) (n : ℕ) → 0 < n
    → numbered y n ≡ attributes y (first_of y (n - 1)) (first_of y n - first_of y (n - 1))
unfolding list_of
numbered_run y zero l = absurd (omega arith)
numbered_run y (suc j) l =
    let e : suc j - 1 ≡ j = omega arith in
    let f : suc j ≡ j + 1 = omega arith in
    rw (e, f) refl

module _ (y : List ℕ) (n : ℕ) (is : IsFileList y n) where
  pub rises : first_of y (n - 1) < first_of y n
  rises =
      let a = is.above in
      let l = is.there in
      let e : n - 1 + 1 ≡ n = omega arith in
      subst (λ k. first_of y (n - 1) < first_of y k) e (first_rises y is.tables (n - 1) (omega arith))

  pub within : first_of y n ≤ attribute_count y
  within = first_small y is.tables n is.there

  pub list_long : length (numbered y n) ≡ first_of y n - first_of y (n - 1)
  list_long = ap length (numbered_run y n is.above) ∙ run_length y (first_of y (n - 1)) (first_of y n - first_of y (n - 1))

  pub name_there : (k : ℕ) → k < first_of y n - first_of y (n - 1)
      → option_map (λ (x : Extended). x.name) (slice_get (numbered y n) k) ≡ Some (piece y (2 * (first_of y (n - 1) + k)))
  name_there k l =
      rw (numbered_run y n is.above, run_get y (first_of y (n - 1)) (first_of y n - first_of y (n - 1)) k l) refl
