-- Keys are added name by name. `begins`, `goes_on` and `ends` are the loop over the rows of a directory; at its end the keys of all names
-- are added.
use Rattle.std.proofs.Common.{◌≡◌, ◌∙◌, sym, ap, ℕ, ◌+◌, ◌<◌, ◌≤◌, inl, inr, List, [], ◌∷◌, ◌++◌, append_assoc, subst, length, map, take, drop, refl, arith}
use Rattle.std.specs.List.{slice_index_or}
use Rattle.std.proofs.lemmas.Bool.{cases_lt}
use Rattle.std.proofs.lemmas.List.{append-nil, map-append, get_or_default, length-map, take_all, take_more}
use Rattle.layer_names.specs.Names.{Rise}
use Rattle.layer_names.specs.Keys.{key, AreBytes}
use Rattle.layer_names.specs.Keyed.{ShareFront, AddsKeys}
use Rattle.layer_names.proofs.Fronts.{long_each}
use Rattle.layer_names.proofs.Rows.{name_at}

-- the key of a name
abbrev key_after : ℕ → List ℕ → ℕ
key_after shared name = key 8 (drop shared name)

-- how far the adding of keys has come
pub record Keying (shared : ℕ) (names : List (List ℕ)) (old new : List ℕ) (i : ℕ) : Type 0 where
  pub bytes : (k : ℕ) (d : List ℕ) → k < i → k < length names → AreBytes (slice_index_or names k d)
  pub made : new ≡ old ++ map (λ name. key 8 (drop shared name)) (take i names)

-- before the first name no key was added
pub begins : (shared : ℕ) (names : List (List ℕ)) (old : List ℕ) → Keying shared names old old 0
begins shared names old = record {
  bytes = λ k d l m. absurd (omega arith);
  made = go names;
}
  where
    go : (names : List (List ℕ)) → old ≡ old ++ map (key_after shared) (take 0 names)
    go [] = sym (append-nil old)
    go (x ∷ names) = sym (append-nil old)

-- a row's name has the bytes that all share
pub long_here : {X : Type 0} (f : X → List ℕ) (shared : ℕ) (rows : List X) (i : ℕ) (row : X) → i < length rows
    → row ≡ slice_index_or rows i row → ShareFront shared (map f rows) → shared ≤ length (f row)
long_here f shared rows i row l at front =
    let n = length-map rows f in
    let here = name_at f rows i row (f row) l at refl in
    subst (λ (x : List ℕ). shared ≤ length x) here (long_each shared (map f rows) front i [] (omega arith))

-- one more row, as in the code
pub goes_on : {X : Type 0} (f : X → List ℕ) (shared : ℕ) (rows : List X) (old new new' : List ℕ) (i : ℕ) (row : X) (k : ℕ)
    → i < length rows → row ≡ slice_index_or rows i row → AreBytes (f row) →
    k ≡ key 8 (drop shared (f row)) → new' ≡ new ++ k ∷ [] → Keying shared (map f rows) old new i
    → Keying shared (map f rows) old new' (i + 1)
goes_on f shared rows old new new' i row k l at bytes made pushed g =
    let n = length-map rows f in
    let here = name_at f rows i row (f row) l at refl in
    record {
      bytes = λ j d m o. elim (cases_lt j i) [
        | inl q ↦ g.bytes j d q o
        | inr q ↦ let e : j ≡ i = omega arith in rw (e, get_or_default (map f rows) i d [] (omega arith), here) bytes
      ];
      made = rw (take_more (map f rows) i [] (omega arith), here, map-append (key_after shared) (take i (map f rows)) (f row ∷ []), ← made)
          (pushed ∙ ap (λ (x : List ℕ). x ++ k ∷ []) g.made ∙ append_assoc old (map (key_after shared) (take i (map f rows))) (k ∷ []));
    }

-- after the last name the keys of all were added
pub ends : (shared : ℕ) (names : List (List ℕ)) (old new : List ℕ) (i : ℕ) → length names ≤ i → Rise names
    → ShareFront shared names → Keying shared names old new i → AddsKeys shared names old new
ends shared names old new i l rise front g = record {
  keys = map (key_after shared) names;
  is = g.made ∙ ap (λ (x : List (List ℕ)). old ++ map (key_after shared) x) (take_all i names l);
  keyed = record { rise = rise; bytes = λ k d m. g.bytes k d (omega arith) m; front = front; made = refl };
}
