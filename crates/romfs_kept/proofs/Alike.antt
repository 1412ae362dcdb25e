-- Lists that agree on what is kept have the same fields at the headers of a closed set (alike).
use Rattle.std.proofs.Common.{◌≡◌, ◌≢◌, ◌∙◌, sym, ap, subst, ℕ, zero, suc, ◌+◌, ◌<◌, ◌≤◌, ◌-◌, min, inl, inr, List, [], ◌∷◌, Bool, IsTrue, length, take, drop, get_or, Some, ◌*◌, ◌/◌, refl, arith, length-take, length-drop}
use Rattle.std.specs.Option.{option_map_or}
use Rattle.std.proofs.lemmas.Bool.{cases_lt}
use Rattle.std.proofs.lemmas.List.{get_or-drop, get_or-take, get_or_past, ext_get_or}
use Rattle.romfs_format.specs.declared.head.Kind.TheVariants.{SymLink}
use Rattle.romfs_format.specs.declared.limits.TheConstants.{HEAD_SIZE, MAX_TARGET_SIZE}
use Rattle.romfs_format.specs.Fields.{word, root, ended, name, name_field, text_at, if_within, text_end, header_bytes, kind, size, data_at}
use Rattle.romfs_kept.specs.Footprint.{Agrees, IsKeptText, IsKeptTarget, IsClosed}
use Rattle.romfs_held.proofs.Fields.{word_same}
use Rattle.romfs_kept.proofs.Names.{field_at, name_ends}

-- the text before the first zero byte is that of any list that is the same up to it
ended_same : (xs ys : List ℕ) → length xs ≡ length ys
    → ((i : ℕ) → i < length xs → ((j : ℕ) → j < i → get_or xs j 0 ≢ 0) → get_or xs i 0 ≡ get_or ys i 0) → ended xs ≡ ended ys
unfolding ended
ended_same [] [] e h = refl
ended_same [] (y ∷ ys) e h = absurd (omega arith)
ended_same (x ∷ xs) [] e h = absurd (omega arith)
ended_same (zero ∷ xs) (zero ∷ ys) e h = refl
ended_same (zero ∷ xs) (suc y ∷ ys) e h = absurd (let k = h 0 (omega arith) (λ j l. absurd (omega arith)) in cc)
ended_same (suc x ∷ xs) (zero ∷ ys) e h = absurd (let k = h 0 (omega arith) (λ j l. absurd (omega arith)) in cc)
ended_same (suc x ∷ xs) (suc y ∷ ys) e h =
    let k : suc x ≡ suc y = h 0 (omega arith) (λ j l. absurd (omega arith)) in
    let r = ended_same xs ys (omega arith) (λ i l n. h (suc i) (omega arith) (before i n)) in
    rw (k, r) refl
  where
    before : (i : ℕ) → ((j : ℕ) → j < i → get_or xs j 0 ≢ 0) → (j : ℕ) → j < suc i → get_or (suc x ∷ xs) j 0 ≢ 0
    before i n zero l w = absurd (cc)
    before i n (suc j) l w = n j (omega arith) w

module _ (kept : ℕ → Bool) (a xs : List ℕ) (agrees : Agrees kept a xs) where
  field_long : (p : ℕ) → length (name_field a p) ≡ length (name_field xs p)
  unfolding name_field
  field_long p =
      let e = agrees.long in
      length-take 256 (drop p a) ∙ ap (λ n. min 256 n) (length-drop p a ∙ ap (λ n. n - p) e ∙ sym (length-drop p xs))
      ∙ sym (length-take 256 (drop p xs))

  field_few : (p i : ℕ) → i < length (name_field a p) → (i < 256) × (p + i < length a)
  unfolding name_field
  field_few p i l =
      let e = length-take 256 (drop p a) in
      let f = length-drop p a in
      (omega arith, omega arith)

  -- the name at a place, if it is kept
  pub text_alike : (p : ℕ) → IsKeptText kept a p → text_at a p ≡ text_at xs p
  text_alike p k =
      let e = ended_same (name_field a p) (name_field xs p) (field_long p) (λ i l n.
      let f = field_few p i l in
      field_at a p i f.0
      ∙ agrees.same (p + i) (k.each i f.0 f.1 (λ j m w. n j (omega arith) (field_at a p j (omega arith) ∙ w)))
      ∙ sym (field_at xs p i f.0)) in
      ap (λ t. if_within (length a) p t) e ∙ ap (λ n. if_within n p (ended (name_field xs p))) agrees.long

  -- a word, if those of its bytes that exist are kept
  pub word_alike : (p : ℕ) → ((i : ℕ) → i < 4 → p + i < length a → IsTrue (kept (p + i))) → word a p ≡ word xs p
  word_alike p k = word_same a xs p p (λ i l. elim (cases_lt (p + i) (length a)) [
    | inl m ↦ agrees.same (p + i) (k i l m)
    | inr m ↦ get_or_past a (p + i) 0 m ∙ sym (get_or_past xs (p + i) 0 (let e = agrees.long in omega arith))
  ])

  -- a header with its name and the padding, if they are kept
  pub bytes_alike : (h : ℕ) (n : List ℕ) → name a h ≡ Some n → ((i : ℕ) → i < 16 → h + i < length a → IsTrue (kept (h + i)))
      → IsKeptText kept a (h + HEAD_SIZE) → header_bytes a h n ≡ header_bytes xs h n
  unfolding header_bytes
  bytes_alike h n e head text =
      let t = name_ends a n (h + HEAD_SIZE) e in
      let m : ℕ = HEAD_SIZE + (length n + 1 + 15) / 16 * 16 in
      ext_get_or 0 (take m (drop h a)) (take m (drop h xs))
      (length-take m (drop h a) ∙ ap (λ k. min m k) (length-drop h a ∙ ap (λ k. k - h) agrees.long ∙ sym (length-drop h xs))
      ∙ sym (length-take m (drop h xs)))
      (λ i l.
      let f = length-take m (drop h a) in
      let g = length-drop h a in
      get_or-take m (drop h a) i 0 (omega arith) ∙ get_or-drop h a i 0
      ∙ agrees.same (h + i) (elim (cases_lt i 16) [
        | inl q ↦ head i q (omega arith)
        | inr q ↦ subst (λ p. IsTrue (kept p)) (let z : h + HEAD_SIZE + (i - 16) ≡ h + i = omega arith in z)
            (text.each (i - 16) (let w = t.few in omega arith) (omega arith) (λ j o. t.before j (omega arith)))
      ])
      ∙ sym (get_or-drop h xs i 0) ∙ sym (get_or-take m (drop h xs) i 0 (omega arith)))

  -- the target of a symbolic link, if it is kept
  pub bytes_of_link : (h : ℕ) (n : List ℕ) → IsKeptTarget kept a h → kind a h ≡ SymLink → size a h ≤ MAX_TARGET_SIZE → name a h ≡ Some n
      → take (size a h) (drop (data_at h n) a) ≡ take (size a h) (drop (data_at h n) xs)
  bytes_of_link h n t k l e = same (size a h) (data_at h n) (λ i m o. t.each k l n e i m o)
    where
      same : (m p : ℕ) → ((i : ℕ) → i < m → p + i < length a → IsTrue (kept (p + i))) → take m (drop p a) ≡ take m (drop p xs)
      same m p t = ext_get_or 0 (take m (drop p a)) (take m (drop p xs))
          (length-take m (drop p a) ∙ ap (λ k. min m k) (length-drop p a ∙ ap (λ k. k - p) agrees.long ∙ sym (length-drop p xs))
          ∙ sym (length-take m (drop p xs)))
          (λ i l. (let f = length-take m (drop p a) in let g = length-drop p a in
          get_or-take m (drop p a) i 0 (omega arith) ∙ get_or-drop p a i 0
          ∙ agrees.same (p + i) (t i (omega arith) (omega arith))
          ∙ sym (get_or-drop p xs i 0) ∙ sym (get_or-take m (drop p xs) i 0 (omega arith))))

-- two lists that look the same at the headers of a set
pub record Alike (headers : ℕ → Bool) (a xs : List ℕ) : Type 0 where
  pub long : length a ≡ length xs
  pub roots : root a ≡ root xs
  pub words : (h k : ℕ) → IsTrue (headers h) → k + 4 ≤ 16 → word a (h + k) ≡ word xs (h + k)
  pub names : (h : ℕ) → IsTrue (headers h) → name a h ≡ name xs h
  pub sums : (h : ℕ) (n : List ℕ) → IsTrue (headers h) → name a h ≡ Some n → header_bytes a h n ≡ header_bytes xs h n

-- the volume name lies in the first bytes
pub volume_text : (kept : ℕ → Bool) (a : List ℕ) → ((p : ℕ) → p < 512 → p < length a → IsTrue (kept p)) → IsKeptText kept a HEAD_SIZE
volume_text kept a f = record { each = λ i l m n. f (16 + i) (omega arith) m }

pub alike : (kept headers : ℕ → Bool) (a xs : List ℕ) → Agrees kept a xs → IsClosed kept headers a → Alike headers a xs
unfolding root
alike kept headers a xs g c = record {
  long = g.long;
  roots = ap (λ t. option_map_or (text_end HEAD_SIZE) t 0) (text_alike kept a xs g HEAD_SIZE (volume_text kept a c.front));
  words = λ h k i l. word_alike kept a xs g (h + k) (λ j m n.
      subst (λ p. IsTrue (kept p)) (let e : h + (k + j) ≡ h + k + j = omega arith in e) (c.head h (k + j) i (omega arith) (omega arith)));
  names = λ h i. text_alike kept a xs g (h + HEAD_SIZE) (c.text h i);
  sums = λ h n i e. bytes_alike kept a xs g h n e (λ k l m. c.head h k i l m) (c.text h i);
}

pub alike_sym : (headers : ℕ → Bool) (a xs : List ℕ) → Alike headers a xs → Alike headers xs a
alike_sym headers a xs s = record {
  long = sym s.long;
  roots = sym s.roots;
  words = λ h k i l. sym (s.words h k i l);
  names = λ h i. sym (s.names h i);
  sums = λ h n i e. sym (s.sums h n i (s.names h i ∙ e));
}
