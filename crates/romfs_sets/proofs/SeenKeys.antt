-- What is known of each key, one after the other. Told says it for the first keys: it holds for none (told_none) and with one more key
-- (told_more), so after the last it is the promise about the list (all_told).
use Rattle.std.proofs.Common.{◌≡◌, ◌∙◌, sym, ap, subst, ℕ, ◌+◌, ◌<◌, ◌⊎◌, inl, inr, List, [], ◌∷◌, ◌++◌, length, get_or, Bool, true, false, refl, arith, length-append}
use Rattle.std.proofs.lemmas.List.{get_or_at, get_or_append_left}
use Rattle.romfs_sets.specs.Once.{IsOnce, AreSeenOnce}
use Rattle.romfs_sets.proofs.Keyed.{below_or_at}

-- it is known for each of the first i keys, and true only for those that occur once
pub record Told (keys : List ℕ) (once : List Bool) (i : ℕ) : Type 0 where
  pub level : length once ≡ i
  pub each : (k : ℕ) → k < i → get_or once k false ≡ true → IsOnce keys k

-- nothing before the first key
pub told_none : (keys : List ℕ) (once : List Bool) → once ≡ [] → Told keys once 0
told_none keys once e = record { level = ap length e; each = λ k l. absurd (omega arith) }

-- one more key, true only if it occurs once
pub told_more : (keys : List ℕ) (once once' : List Bool) (i : ℕ) (is : Bool) → once' ≡ once ++ is ∷ [] → (is ≡ true → IsOnce keys i)
    → Told keys once i → Told keys once' (i + 1)
told_more keys once once' i is p own t = record {
  level = ap length p ∙ length-append once (is ∷ []) ∙ ap (λ n. n + 1) t.level;
  each = λ k l e. one k e (below_or_at k i l);
}
  where
    one : (k : ℕ) → get_or once' k false ≡ true → (k < i) ⊎ (k ≡ i) → IsOnce keys k
    one k e (inl m) = t.each k m (sym (get_or_append_left once (is ∷ []) false k (let n = t.level in omega arith))
        ∙ ap (λ xs. get_or xs k false) (sym p) ∙ e)
    one k e (inr m) =
        let at : k ≡ length once = m ∙ sym t.level in
        subst (IsOnce keys) (sym m) (own (sym (get_or_at once is [] false (length once) refl) ∙ ap (λ n. get_or (once ++ is ∷ []) n false)
        (sym at) ∙ ap (λ xs. get_or xs k false) (sym p) ∙ e))

-- after the last key it is known for each place, and true only for keys that occur once
pub all_told : (keys : List ℕ) (once : List Bool) (i : ℕ) → i ≡ length keys → Told keys once i → AreSeenOnce keys once
all_told keys once i e t = record { level = t.level ∙ e; each = λ k l o. t.each k (let m = e in omega arith) o }
