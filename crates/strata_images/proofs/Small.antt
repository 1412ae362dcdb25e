-- Files that reported their sizes. `told_small` is about all of them if they are small, `told_large` if one is not regular or they are too
-- large with it; `one_more` is the step between. `told_whole` is about a line that asks for all bytes, `told_left` about one that leaves
-- images in their files.
use Rattle.std.proofs.Common.{◌≡◌, ◌≤◌, ◌<◌, ◌+◌, ◌-◌, ◌^◌, ◌∙◌, ◌↔◌, sym, refl, ℕ, suc, inl, inr, true, false, true≢false, List, [], ◌∷◌, ◌++◌, length, map, replicate, sum, Bool, Option, Some, None, IsTrue, arith, length-append, vec_len}
use Rattle.std.proofs.lemmas.List.{length-map, length-replicate}
use Rattle.std.proofs.lemmas.List.Sums.{sum_by-cons, sum_by_push}
use Rattle.strata_words.specs.declared.options.Line.{Line}
use Rattle.strata_images.specs.Images.{AreReadWhole, AreSmall, stay_in_files}

sum-cons : (x : ℕ) (xs : List ℕ) → sum (x ∷ xs) ≡ x + sum xs
sum-cons x xs = sum_by-cons (λ n. n) x xs

front : (sizes : List ℕ) (x : Option ℕ) (more : List (Option ℕ)) (all : List ℕ) → map Some sizes ++ (x ∷ more) ≡ map Some all
    → (size : ℕ) × (x ≡ Some size) × (sum sizes + size ≤ sum all)
front [] x more [] e = absurd (cc)
front [] x more (y ∷ all) e = (y, cc, omega (arith, sum-cons y all))
front (size ∷ sizes) x more [] e = absurd (cc)
front (size ∷ sizes) x more (y ∷ all) e =
    let first : size ≡ y = cc in
    let rest : map Some sizes ++ (x ∷ more) ≡ map Some all = cc in
    let r = front sizes x more all rest in
    (r.0, r.1, omega (arith, r.2, first, sum-cons size sizes, sum-cons y all))

not_small : (sizes : List ℕ) (x : Option ℕ) (more : List (Option ℕ)) → ((size : ℕ) → x ≡ Some size → 2 ^ 25 < sum sizes + size)
    → AreSmall (map Some sizes ++ (x ∷ more)) → ⊥
not_small sizes x more large s =
    let f = front sizes x more s.sizes s.told_is in
    omega (arith, f.2, large f.0 f.1, s.few)

-- a file that was not asked
unasked : Option ℕ
unasked = None

pub told_large : (n : ℕ) (sizes : List ℕ) (x : Option ℕ) → length sizes < n
    → ((size : ℕ) → x ≡ Some size → 2 ^ 25 < sum sizes + size)
    → (told : List (Option ℕ)) × (length told ≡ n) × (IsTrue false ↔ AreSmall told)
told_large n sizes x few large =
    let more : List (Option ℕ) = replicate (n - suc (length sizes)) unasked in (
      map Some sizes ++ (x ∷ more),
      omega (arith, length-append (map Some sizes) (x ∷ more), length-map sizes Some, length-replicate (n - suc (length sizes)) unasked),
      (λ t. absurd (true≢false (sym t)), λ s. absurd (not_small sizes x more large s)),
    )

pub told_small : (n : ℕ) (sizes : List ℕ) → length sizes ≡ n → sum sizes ≤ 2 ^ 25
    → (told : List (Option ℕ)) × (length told ≡ n) × (IsTrue true ↔ AreSmall told)
told_small n sizes e few = (
  map Some sizes,
  length-map sizes Some ∙ e,
  (λ t. record { sizes = sizes; told_is = refl; few = few }, λ s. refl),
)

-- the sizes so far, and what they leave of the most
pub one_more : (i rest size : ℕ) → (sizes : List ℕ) × (length sizes ≡ i) × (sum sizes + rest ≡ 2 ^ 25) → size ≤ rest
    → (sizes : List ℕ) × (length sizes ≡ i + 1) × (sum sizes + (rest - size) ≡ 2 ^ 25)
one_more i rest size s fits = (
  s.0 ++ size ∷ [],
  omega (arith, length-append s.0 (size ∷ []), s.1),
  omega (arith, sum_by_push (λ n. n) s.0 size, s.2, fits),
)

-- no file was asked
nothing_told : (n : ℕ) → length (replicate n unasked) ≡ n
nothing_told n = length-replicate n unasked

pub told_whole : (line : Line) → line.whole ≡ true
    → (told : List (Option ℕ)) × (length told ≡ vec_len line.images) × (IsTrue true ↔ AreReadWhole line told)
told_whole line whole =
    (replicate (vec_len line.images) unasked, nothing_told (vec_len line.images), (λ t. inl whole, λ w. refl))

pub told_left : (line : Line) → line.whole ≡ false → stay_in_files line ≡ true
    → (told : List (Option ℕ)) × (length told ≡ vec_len line.images) × (IsTrue false ↔ AreReadWhole line told)
told_left line left stay =
    (replicate (vec_len line.images) unasked, nothing_told (vec_len line.images), (λ t. absurd (true≢false (sym t)), not))
  where
    not : AreReadWhole line (replicate (vec_len line.images) unasked) → IsTrue false
    not (inl whole) = absurd (true≢false (sym whole ∙ left))
    not (inr small) = absurd (true≢false (sym stay ∙ small.0))

pub told_by_size : (line : Line) (result : Bool) → line.whole ≡ false → stay_in_files line ≡ false
    → (told : List (Option ℕ)) × (length told ≡ vec_len line.images) × (IsTrue result ↔ AreSmall told)
    → (told : List (Option ℕ)) × (length told ≡ vec_len line.images) × (IsTrue result ↔ AreReadWhole line told)
told_by_size line result left free s = (s.0, s.1, (λ t. inr (free, s.2.0 t), back))
  where
    back : AreReadWhole line s.0 → IsTrue result
    back (inl whole) = absurd (true≢false (sym whole ∙ left))
    back (inr small) = s.2.1 small.1
