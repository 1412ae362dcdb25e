-- Names whose keys differ have different bytes. So a search among keys leaves out only names other than the one searched for: `narrows`.
use Rattle.std.proofs.Common.{◌≡◌, ◌≢◌, ◌∙◌, sym, ap, subst, ℕ, ◌<◌, Bool, inl, inr, List, [], ◌++◌, length, take, drop, arith, All}
use Rattle.std.specs.Cmp.Lexicographic.{slice_cmp}
use Rattle.std.specs.List.{slice_index_or}
use Rattle.std.specs.List.Sorted.{IsNonDecreasingBy}
use Rattle.std.specs.Ordering.{nat_cmp}
use Rattle.std.specs.declared.cmp.Ordering.TheVariants.{Less}
use Rattle.std.proofs.lemmas.Bool.{cases_order}
use Rattle.std.proofs.lemmas.List.{get_or-map, length-map, take-append-drop}
use Rattle.layer_names.specs.Keys.{key}
use Rattle.layer_names.specs.Noted.{IsNoted}
use Rattle.layer_names.specs.Runs.{IsKeyRun}
use Rattle.layer_names.specs.Keyed.{AreKeyed, Narrows, first_of}
use Rattle.layer_names.proofs.Fronts.{long_each}
use Rattle.layer_names.proofs.Order.{Bytes, bytes-drop, each_byte, key_order, cmp-front}

module _ (shared : ℕ) (keys : List ℕ) (names : List (List ℕ)) (is : AreKeyed shared keys names) where
  -- there are as many keys as names
  pub length-keys : length keys ≡ length names
  length-keys = ap length is.made ∙ length-map names (λ name. key 8 (drop shared name))

  -- the key at a place is that of the name at it
  pub key_at : (k : ℕ) (d : List ℕ) (e : ℕ) → k < length names → slice_index_or keys k e ≡ key 8 (drop shared (slice_index_or names k d))
  key_at k d e l = ap (λ (xs : List ℕ). slice_index_or xs k e) is.made ∙ get_or-map (λ name. key 8 (drop shared name)) names k d e l

  split : (k : ℕ) (d : List ℕ) → k < length names → slice_index_or names k d ≡ take shared (first_of names)
      ++ drop shared (slice_index_or names k d)
  split k d l = let name = slice_index_or names k d in sym (take-append-drop shared name) ∙ ap (λ (xs : List ℕ). xs ++ drop shared name)
      (is.front.same k d l)

  rest_bytes : (k : ℕ) (d : List ℕ) → k < length names → Bytes (drop shared (slice_index_or names k d))
  rest_bytes k d l = bytes-drop shared _ (each_byte _ (is.bytes k d l))

  -- keys do not fall
  pub keys_rise : IsNonDecreasingBy (λ x. x) keys
  keys_rise i j e l m = elim (cases_order i j) [
    | inl q ↦ rw q (omega arith)
    | inr (inl q) ↦
        let n = length-keys in
        let front = take shared (first_of names) in
        let x = slice_index_or names i [] in
        let y = slice_index_or names j [] in
        let c : slice_cmp nat_cmp (front ++ drop shared x) (front ++ drop shared y) ≡ Less =
        rw (← split i [] (omega arith), ← split j [] (omega arith)) (is.rise i j [] q (omega arith)) in
        rw (key_at i [] e (omega arith), key_at j [] e (omega arith)) (key_order 8 (drop shared x) (drop shared y)
        (rest_bytes i [] (omega arith)) (sym (cmp-front front (drop shared x) (drop shared y)) ∙ c))
    | inr (inr q) ↦ absurd (omega arith)
  ]

  -- if the key is another, the name is
  other_key : (name : List ℕ) (k : ℕ) (d : List ℕ) → k < length names → slice_index_or keys k 0 ≢ key 8 (drop shared name)
      → slice_index_or names k d ≢ name
  other_key name k d l n e = n (key_at k d 0 l ∙ ap (λ (x : List ℕ). key 8 (drop shared x)) e)

  -- a name is at none of the places outside the run of its key
  pub narrows : (name : List ℕ) (t low high : ℕ) → t ≡ key 8 (drop shared name) → IsKeyRun keys t low high → Narrows names name low high
  narrows name t low high made run =
      let n = length-keys in
      let within = run.within_low in
      record {
        within = rw (← n) run.within_high;
        before = λ k d z m. other_key name k d (omega arith) (rw (← made) (run.before k 0 z m));
        after = λ k d m s. other_key name k d s (rw (← made) (run.after k 0 m (omega arith)));
      }

  -- a name whose key was not noted is none of these
  pub not_noted : (name : List ℕ) (bits : List Bool) (directory t : ℕ) → t ≡ key 8 (drop shared name)
      → All (IsNoted bits directory) keys → ¬ IsNoted bits directory t → All (λ its. its ≢ name) names
  not_noted name bits directory t made noted other k d l =
      let n = length-keys in
      other_key name k d l (λ same. other (subst (λ (x : ℕ). IsNoted bits directory x) (same ∙ sym made) (noted k 0 (omega (arith, n)))))

  -- a name that is shorter than what all share is none of these
  pub too_short : (name : List ℕ) → length name < shared → All (λ its. its ≢ name) names
  too_short name s k d l e = let m = long_each shared names is.front k d l in let n = ap length e in absurd (omega arith)
