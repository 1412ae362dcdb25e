-- What is kept of a trailer is judged as the trailer is (judged), and says the same rows and lists if it is right
-- (rows_same, lists_same). Words and rows that lie in it are the trailer's (word_kept, row_kept). If only the head is
-- kept, the trailer is broken, since rows that are right lie 16 bytes apart (apart, few).
use Rattle.std.proofs.Common.{◌≡◌, ◌∙◌, sym, ap, subst, ℕ, zero, suc, ◌+◌, ◌*◌, ◌/◌, ◌%◌, ◌^◌, ◌<◌, ◌≤◌, ◌⊎◌, ◌↔◌, inl, inr, List, [], ◌∷◌, ◌++◌, length, take, drop, IsTrue, refl, arith, length-take}
use Rattle.std.specs.Prelude.{nat_eq, codes}
use Rattle.std.specs.List.{starts_with}
use Rattle.std.specs.Cmp.Lexicographic.{pointwise}
use Rattle.std.proofs.lemmas.Bool.{cases_lt}
use Rattle.std.proofs.lemmas.Bool.Decides.{nat_tests}
use Rattle.std.proofs.lemmas.List.{get_or-take, take-take, drop-take}
use Rattle.romfs_format.specs.declared.attribute_row.AttributeRow.{AttributeRow}
use Rattle.romfs_format.specs.Fields.{word, padded, word_sum}
use Rattle.romfs_format.specs.Trailer.{row_count, row_start, row_of, long_word, trailer_end, trailer_bytes, first_rows, extended_of, first_lists, part, has_part, mode_of, IsRow, AreRows, IsTrailer}
use Rattle.romfs_format.specs.Part.{IsPart}
use Rattle.romfs_held.proofs.Fields.{word_same}
use Rattle.romfs_held.proofs.Views.{long_by_words}
use Rattle.romfs_kept.specs.Gathered.{kept_part, kept_end, kept_tail}
use Rattle.romfs_kept.proofs.Parts.{begins, list_by, part_judged, part_lists}

-- a row by its numbers
abbrev row : ℕ → ℕ → ℕ → ℕ → ℕ → ℕ → AttributeRow
row p m u g s n = record { place = p; mode = m; uid = u; gid = g; seconds = s; nanoseconds = n }

same_row : (p q m n u v g h s t x y : ℕ) → p ≡ q → m ≡ n → u ≡ v → g ≡ h → s ≡ t → x ≡ y → row p m u g s x ≡ row q n v h t y
same_row p q m n u v g h s t x y a b c d e f = cc

-- rows that are right lie 16 bytes apart, so there are few
module _ (full : ℕ) (t : List ℕ) (k : ℕ) (rows : AreRows full t k) where
  apart : (i : ℕ) → i < k → 16 * i ≤ (row_of t i).place
  apart zero l = omega arith
  apart (suc i) l =
      let b = apart i (omega arith) in
      let r = rows.rising i (suc i) (omega arith) l in
      let e = (rows.each i (omega arith)).aligned in
      let f = (rows.each (suc i) l).aligned in
      omega arith

  few : k ≤ padded full / 16
  few = go k refl
    where
      go : (n : ℕ) → n ≡ k → k ≤ padded full / 16
      go zero e = omega arith
      go (suc n) e =
          let b = apart n (omega arith) in
          let i = (rows.each n (omega arith)).inside in
          omega arith

module _ (t : List ℕ) (n : ℕ) where
  -- the words that are kept
  pub word_kept : (p : ℕ) → p + 4 ≤ n → word (take n t) p ≡ word t p
  word_kept p l = word_same (take n t) t p p (λ i m. get_or-take n t (p + i) 0 (omega arith))

  long_kept : (p : ℕ) → p + 8 ≤ n → long_word (take n t) p ≡ long_word t p
  long_kept p l =
      let a = word_kept p (omega arith) in
      let b = word_kept (p + 4) (omega arith) in
      let x = long_by_words (take n t) p in
      let y = long_by_words t p in
      omega arith

  -- the rows that are
  row_kept : (i : ℕ) → row_start i + 32 ≤ n → row_of (take n t) i ≡ row_of t i
  row_kept i l = same_row _ _ _ _ _ _ _ _ _ _ _ _
      (word_kept (row_start i) (omega arith)) (word_kept (row_start i + 4) (omega arith)) (word_kept (row_start i + 8) (omega arith))
      (word_kept (row_start i + 12) (omega arith)) (long_kept (row_start i + 16) (omega arith))
      (word_kept (row_start i + 24) (omega arith))

  first_kept : (k : ℕ) → row_start k ≤ n → first_rows (take n t) k ≡ first_rows t k
  first_kept zero l = refl
  first_kept (suc k) l =
      ap (λ xs. xs ++ row_of (take n t) k ∷ []) (first_kept k (omega arith))
      ∙ ap (λ x. first_rows t k ++ x ∷ []) (row_kept k (omega arith))

  -- a trailer that is kept to the end of its rows, and as much as is kept of what follows them
  module _ (full : ℕ) (end : n ≡ trailer_end t + kept_part (part t)) (within : trailer_end t ≤ length t) where
    count_kept : row_count (take n t) ≡ row_count t
    count_kept = word_kept 8 (omega arith)

    bytes_kept : trailer_bytes (take n t) ≡ trailer_bytes t
    unfolding trailer_bytes
    bytes_kept =
        ap (λ k. take (row_start k) (take n t)) count_kept ∙ take-take (trailer_end t) n t (omega arith)

    part_kept : part (take n t) ≡ take (kept_part (part t)) (part t)
    unfolding part
    part_kept =
        ap (λ k. drop (row_start k) (take n t)) count_kept
        ∙ ap (λ k. drop (trailer_end t) (take k t)) end
        ∙ drop-take (trailer_end t) (kept_part (drop (trailer_end t) t)) t

    row_same : (i : ℕ) → i < row_count t → row_of (take n t) i ≡ row_of t i
    row_same i l = row_kept i (omega arith)

    last_same : (i : ℕ) → i < row_count t → word (take n t) (row_start i + 28) ≡ word t (row_start i + 28)
    last_same i l = word_kept (row_start i + 28) (omega arith)

    kept_long : trailer_end t ≤ length (take n t)
    kept_long = let l = length-take n t in omega arith

    mode_same : (i : ℕ) → i < row_count t → mode_of (take n t) i ≡ mode_of t i
    mode_same i l = ap (λ (r : AttributeRow). r.mode) (row_same i l)

    judged_part : (IsTrue (has_part t) → IsPart (row_count t) (mode_of t) (part t))
        ↔ (IsTrue (begins (take (kept_part (part t)) (part t)))
        → IsPart (row_count t) (mode_of (take n t)) (take (kept_part (part t)) (part t)))
    judged_part = part_judged (part t) (row_count t) (mode_of t) (mode_of (take n t)) mode_same

    part_forth : (IsTrue (has_part t) → IsPart (row_count t) (mode_of t) (part t))
        → IsTrue (has_part (take n t)) → IsPart (row_count (take n t)) (mode_of (take n t)) (part (take n t))
    part_forth p h = subst (λ k. IsPart k (mode_of (take n t)) (part (take n t))) (sym count_kept)
        (subst (λ xs. IsPart (row_count t) (mode_of (take n t)) xs) (sym part_kept)
        (judged_part.0 p (subst (λ xs. IsTrue (begins xs)) part_kept h)))

    part_back : (IsTrue (has_part (take n t)) → IsPart (row_count (take n t)) (mode_of (take n t)) (part (take n t)))
        → IsTrue (has_part t) → IsPart (row_count t) (mode_of t) (part t)
    part_back p = judged_part.1 (λ h.
        subst (λ xs. IsPart (row_count t) (mode_of (take n t)) xs) part_kept
        (subst (λ k. IsPart k (mode_of (take n t)) (part (take n t))) count_kept
        (p (subst (λ xs. IsTrue (begins xs)) (sym part_kept) h))))

    whole_forth : IsTrailer full t → IsTrailer full (take n t)
    whole_forth x = record {
      whole = (let c = count_kept in let k = kept_long in omega arith);
      sum = subst (λ xs. word_sum xs % 2 ^ 32 ≡ 0) (sym bytes_kept) x.sum;
      rows = subst (λ k. AreRows full (take n t) k) (sym count_kept) (record {
        each = λ i l. forth i l (x.rows.each i l);
        rising = λ i j l m. (let e = ap (λ (r : AttributeRow). r.place) (row_same i (omega arith)) in
            let f = ap (λ (r : AttributeRow). r.place) (row_same j m) in let r = x.rows.rising i j l m in omega arith);
      });
      part = part_forth x.part;
    }
      where
        forth : (i : ℕ) → i < row_count t → IsRow full t i → IsRow full (take n t) i
        forth i l r =
            let e = row_same i l in
            record {
              aligned = subst (λ (x : AttributeRow). x.place % 16 ≡ 0) (sym e) r.aligned;
              inside = subst (λ (x : AttributeRow). x.place < full) (sym e) r.inside;
              mode = subst (λ (x : AttributeRow). x.mode ≤ 4095) (sym e) r.mode;
              nanoseconds = subst (λ (x : AttributeRow). x.nanoseconds < 1000000000) (sym e) r.nanoseconds;
              last = last_same i l ∙ r.last;
            }

    whole_back : IsTrailer full (take n t) → IsTrailer full t
    whole_back x = record {
      whole = omega arith;
      sum = subst (λ xs. word_sum xs % 2 ^ 32 ≡ 0) bytes_kept x.sum;
      rows = back_rows (subst (λ k. AreRows full (take n t) k) count_kept x.rows);
      part = part_back x.part;
    }
      where
        back : (i : ℕ) → i < row_count t → IsRow full (take n t) i → IsRow full t i
        back i l r =
            let e = row_same i l in
            record {
              aligned = subst (λ (x : AttributeRow). x.place % 16 ≡ 0) e r.aligned;
              inside = subst (λ (x : AttributeRow). x.place < full) e r.inside;
              mode = subst (λ (x : AttributeRow). x.mode ≤ 4095) e r.mode;
              nanoseconds = subst (λ (x : AttributeRow). x.nanoseconds < 1000000000) e r.nanoseconds;
              last = sym (last_same i l) ∙ r.last;
            }

        back_rows : AreRows full (take n t) (row_count t) → AreRows full t (row_count t)
        back_rows r = record {
          each = λ i l. back i l (r.each i l);
          rising = λ i j l m. (let e = ap (λ (r : AttributeRow). r.place) (row_same i (omega arith)) in
              let f = ap (λ (r : AttributeRow). r.place) (row_same j m) in let q = r.rising i j l m in omega arith);
        }

    whole_rows : first_rows (take n t) (row_count (take n t)) ≡ first_rows t (row_count t)
    whole_rows = ap (λ k. first_rows (take n t) k) count_kept ∙ first_kept (row_count t) (omega arith)

    -- the lists of rows, if the part is right
    module _ (right : IsTrue (has_part t) → IsPart (row_count t) (mode_of t) (part t)) where
      list_kept : (i : ℕ) → i < row_count t → extended_of (take n t) i ≡ extended_of t i
      list_kept i l =
          ap (λ k. list_by k (part (take n t)) i) count_kept ∙ ap (λ xs. list_by (row_count t) xs i) part_kept
          ∙ part_lists (part t) (row_count t) (mode_of t) right i l

      lists_kept : (k : ℕ) → k ≤ row_count t → first_lists (take n t) k ≡ first_lists t k
      lists_kept zero l = refl
      lists_kept (suc k) l =
          ap (λ xs. xs ++ extended_of (take n t) k ∷ []) (lists_kept k (omega arith))
          ∙ ap (λ x. first_lists t k ++ x ∷ []) (list_kept k (omega arith))

      whole_lists : first_lists (take n t) (row_count (take n t)) ≡ first_lists t (row_count t)
      whole_lists = ap (λ k. first_lists (take n t) k) count_kept ∙ lists_kept (row_count t) (omega arith)

-- the head alone is broken
module _ (t : List ℕ) (full : ℕ) where
  head_broken : (length t < trailer_end t) ⊎ (padded full / 16 < row_count t) → ¬ IsTrailer full (take 16 t)
  head_broken h x =
      let c = word_kept t 16 8 (omega arith) in
      let w = x.whole in
      let k = length-take 16 t in
      elim h [ inl l ↦ omega arith | inr l ↦ omega arith ]

  all_broken : (length t < trailer_end t) ⊎ (padded full / 16 < row_count t) → ¬ IsTrailer full t
  all_broken (inl l) x = (let w = x.whole in omega arith)
  all_broken (inr l) x = (let f = few full t (row_count t) x.rows in omega arith)

  -- what is kept
  which : ((kept_end full t ≡ trailer_end t + kept_part (part t)) × (trailer_end t ≤ length t))
      ⊎ ((kept_end full t ≡ 16) × ((length t < trailer_end t) ⊎ (padded full / 16 < row_count t)))
  which = elim (cases_lt (length t) (trailer_end t)) [
    | inl l ↦ inr (grind (arith, nat_tests), inl l)
    | inr l ↦ elim (cases_lt (padded full / 16) (row_count t)) [
      | inl m ↦ inr (grind (arith, nat_tests), inr m)
      | inr m ↦ inl (grind (arith, nat_tests), l)
    ]
  ]

  pub judged : IsTrailer full t ↔ IsTrailer full (kept_tail full t)
  judged = elim which [
    | inl x ↦ subst (λ n. IsTrailer full t ↔ IsTrailer full (take n t)) (sym x.0)
        (whole_forth t (trailer_end t + kept_part (part t)) full refl x.1, whole_back t (trailer_end t + kept_part (part t)) full refl x.1)
    | inr x ↦ subst (λ n. IsTrailer full t ↔ IsTrailer full (take n t)) (sym x.0)
        ((λ y. absurd (all_broken x.1 y)), (λ y. absurd (head_broken x.1 y)))
  ]

  pub rows_same : IsTrailer full t → first_rows (kept_tail full t) (row_count (kept_tail full t)) ≡ first_rows t (row_count t)
  rows_same y = elim which [
    | inl x ↦ subst (λ n. first_rows (take n t) (row_count (take n t)) ≡ first_rows t (row_count t)) (sym x.0)
        (whole_rows t (trailer_end t + kept_part (part t)) full refl x.1)
    | inr x ↦ absurd (all_broken x.1 y)
  ]

  pub lists_same : IsTrailer full t → first_lists (kept_tail full t) (row_count (kept_tail full t)) ≡ first_lists t (row_count t)
  lists_same y = elim which [
    | inl x ↦ subst (λ n. first_lists (take n t) (row_count (take n t)) ≡ first_lists t (row_count t)) (sym x.0)
        (whole_lists t (trailer_end t + kept_part (part t)) full refl x.1 y.part)
    | inr x ↦ absurd (all_broken x.1 y)
  ]

  pub letters_same : starts_with nat_eq (kept_tail full t) (codes "-attr01-") ≡ starts_with nat_eq t (codes "-attr01-")
  letters_same = ap (λ xs. pointwise nat_eq (codes "-attr01-") xs)
      (take-take 8 (kept_end full t) t (elim which [
        | inl x ↦ (let x0 = x.0 in omega arith)
        | inr x ↦ (let x0 = x.0 in omega arith)
      ]))
