-- The hashes of names, number by number (no_hashes, one_hash), and which names occur once: a name has one hash, so a hash that occurs once
-- is that of a name which only one number has (told_alone), and names with different hashes differ (hashes_apart, apart_more).
use Rattle.std.proofs.Common.{◌≡◌, ◌≢◌, ◌∙◌, sym, ap, ℕ, ◌+◌, ◌<◌, inl, inr, List, [], ◌∷◌, ◌++◌, length, Bool, Option, Some, None, arith, length-append}
use Rattle.std.specs.Prelude.{slice_index}
use Rattle.std.proofs.lemmas.List.{get_or_at, get_or_append_left}
use Rattle.romfs_sets.specs.Once.{AreSeenOnce}
use Rattle.romfs_sets.specs.Names.{name_hash, AreNamesApart}
use Rattle.romfs_sets.proofs.Keyed.{below_or_at}
use Rattle.romfs_rules.specs.Names.{AreNameHashes, HaveTheirsAlone}

-- existing names that are equal as such are equal
pub same_some : (x y : List ℕ) → ◌≡◌ {A = Option (List ℕ)} (Some x) (Some y) → x ≡ y
same_some x y e = cc

-- an existing name is not missing
pub some_none : (x : List ℕ) → ◌≡◌ {A = Option (List ℕ)} (Some x) None → ⊥
some_none x e = cc

-- before the first number there is no hash
pub no_hashes : (name : ℕ → Option (List ℕ)) (hashes : List ℕ) → hashes ≡ [] → AreNameHashes name 0 hashes
no_hashes name hashes e = record { level = ap length e; each = λ k q l. absurd (omega arith) }

-- one number more has its hash once the hash of its name, if it has one, is added
pub one_hash : (name : ℕ → Option (List ℕ)) (i h : ℕ) (hashes hashes' : List ℕ)
    → ((q : List ℕ) → name i ≡ Some q → h ≡ name_hash q) → hashes' ≡ hashes ++ h ∷ []
    → AreNameHashes name i hashes → AreNameHashes name (i + 1) hashes'
one_hash name i h hashes hashes' own push w = record {
  level = ap length push ∙ length-append hashes (h ∷ []) ∙ ap (λ m. m + 1) w.level;
  each = λ k q l e. ap (λ xs. slice_index xs k) push ∙ elim (below_or_at k i l) [
    | inl m ↦ get_or_append_left hashes (h ∷ []) 0 k (let s = w.level in omega arith) ∙ w.each k q m e
    | inr m ↦ ap (λ j. slice_index (hashes ++ h ∷ []) j) m ∙ get_or_at hashes h [] 0 i w.level ∙ own q (ap name (sym m) ∙ e)
  ];
}

-- the first n numbers have different hashes
abbrev pub AreApartTo : List ℕ → ℕ → Type 0
AreApartTo hashes n = (i j : ℕ) → i < n → j < n → slice_index hashes i ≡ slice_index hashes j → i ≡ j

-- numbers with different hashes, and one more whose hash is not among theirs, have different hashes
pub apart_more : (hashes : List ℕ) (n : ℕ) → ((k : ℕ) → k < n → slice_index hashes k ≢ slice_index hashes n)
    → AreApartTo hashes n → AreApartTo hashes (n + 1)
apart_more hashes n new old = λ i j p q e. elim (below_or_at i n p) [
  | inl x ↦ elim (below_or_at j n q) [
    | inl y ↦ old i j x y e
    | inr y ↦ absurd (new i x (e ∙ ap (λ k. slice_index hashes k) y))
  ]
  | inr x ↦ elim (below_or_at j n q) [
    | inl y ↦ absurd (new j y (sym e ∙ ap (λ k. slice_index hashes k) x))
    | inr y ↦ x ∙ sym y
  ]
]

-- a number whose hash occurs once has its name alone
pub told_alone : (name : ℕ → Option (List ℕ)) (n : ℕ) (hashes : List ℕ) (once : List Bool)
    → AreNameHashes name n hashes → AreSeenOnce hashes once → HaveTheirsAlone name n once
told_alone name n hashes once w seen k q l t e j m f =
    let size = w.level in
    seen.each k (omega arith) t j (omega arith) (w.each j q m (f ∙ e) ∙ sym (w.each k q l e))

-- names whose hashes are apart are apart
pub hashes_apart : (name : ℕ → Option (List ℕ)) (n : ℕ) (hashes : List ℕ) → AreNameHashes name n hashes
    → AreApartTo hashes (length hashes) → AreNamesApart name n
hashes_apart name n hashes w apart = record {
  each = λ i j q l m e f. (let s = w.level in
      apart i j (omega arith) (omega arith) (w.each i q l e ∙ sym (w.each j q m f)));
}
