-- What is kept of a part after the rows is judged as the part is (part_judged): nothing if there is
-- none, all if it is complete, and otherwise its letters, which are broken as it is. If it is right
-- it has the same lists (part_lists).
use Rattle.std.proofs.Common.{◌≡◌, ◌∙◌, sym, ap, subst, ℕ, ◌+◌, ◌*◌, ◌%◌, ◌^◌, ◌<◌, ◌≤◌, ◌⊎◌, ◌↔◌, inl, inr, List, [], length, take, drop, IsTrue, if◌then◌else◌, refl, arith, length-take, length-take-le}
use Rattle.std.specs.Prelude.{Bool, true, false, nat_eq, codes}
use Rattle.std.specs.List.{starts_with}
use Rattle.std.specs.Cmp.Lexicographic.{pointwise}
use Rattle.std.proofs.lemmas.Bool.{cases_lt, cases_Bool, true≢false}
use Rattle.std.proofs.lemmas.Bool.Decides.{nat_tests}
use Rattle.std.proofs.lemmas.List.{get_or-take, take-take}
use Rattle.romfs_format.specs.Fields.{word, word_sum}
use Rattle.romfs_format.specs.Below.{holds_below}
use Rattle.romfs_format.specs.Extended.{Extended}
use Rattle.romfs_format.specs.Part.{part_size, part_bytes, lists_in, lists_start, list_number, numbered, leads, AreLists, IsFramed, IsPart}
use Rattle.romfs_format.proofs.Below.{holds_alike}
use Rattle.romfs_held.proofs.Fields.{word_same}
use Rattle.romfs_held.proofs.Views.{short_front}
use Rattle.romfs_kept.specs.Gathered.{kept_part}

-- a part begins here
abbrev pub begins : List ℕ → Bool
begins x = starts_with nat_eq x (codes "-attr02-")

-- the list of row i, if a part after n rows begins here
abbrev pub list_by : ℕ → List ℕ → ℕ → List Extended
list_by n x i = if begins x then numbered (lists_in n x) (list_number x i) else []

begins_kept : (x : List ℕ) (k : ℕ) → 8 ≤ k → begins (take k x) ≡ begins x
begins_kept x k l = ap (λ xs. pointwise nat_eq (codes "-attr02-") xs) (take-take 8 k x l)

word_kept : (x : List ℕ) (n p : ℕ) → p + 4 ≤ n → word (take n x) p ≡ word x p
word_kept x n p l = word_same (take n x) x p p (λ i m. get_or-take n x (p + i) 0 (omega arith))

-- a part that is kept in full
module _ (x : List ℕ) (low : 16 ≤ part_size x) (high : part_size x ≤ length x) where
  abbrev kept : List ℕ
  kept = take (part_size x) x

  long : length kept ≡ part_size x
  long = length-take-le (part_size x) x high

  size_same : part_size kept ≡ part_size x
  size_same = word_kept x (part_size x) 8 (omega arith)

  bytes_same : part_bytes kept ≡ part_bytes x
  unfolding part_bytes
  bytes_same = ap (λ n. take n (take (part_size x) x)) (word_kept x (part_size x) 8 (omega arith))
      ∙ take-take (part_size x) (part_size x) x (omega arith)

  module _ (n : ℕ) where
    lists_same : lists_in n kept ≡ lists_in n x
    unfolding lists_in
    lists_same = ap (drop (lists_start n)) bytes_same

    frame_forth : IsFramed n x → IsFramed n kept
    frame_forth f = record {
      head = (let l = long in omega arith);
      whole = (let l = long in let s = size_same in omega arith);
      words = rw size_same f.words;
      sum = subst (λ xs. word_sum xs % 2 ^ 32 ≡ 0) (sym bytes_same) f.sum;
      rows_fit = (let s = size_same in let r = f.rows_fit in omega arith);
    }

    frame_back : IsFramed n kept → IsFramed n x
    frame_back f = record {
      head = omega arith;
      whole = high;
      words = sym (ap (λ k. k % 4) size_same) ∙ f.words;
      sum = subst (λ xs. word_sum xs % 2 ^ 32 ≡ 0) bytes_same f.sum;
      rows_fit = (let s = size_same in let r = f.rows_fit in omega arith);
    }

    module _ (mode other : ℕ → ℕ) (modes : (i : ℕ) → i < n → other i ≡ mode i) (fit : lists_start n + 4 ≤ part_size x) where
      number_same : (i : ℕ) → i < n → list_number kept i ≡ list_number x i
      number_same i l = word_kept x (part_size x) (16 + 4 * i) (omega arith)

      leads_same : (i : ℕ) → i < n → leads n other kept i ≡ leads n mode x i
      leads_same i l = let a = number_same i l in let b = lists_same in let c = modes i l in cc

      rows_alike : holds_below n (leads n other kept) ≡ holds_below n (leads n mode x)
      rows_alike = holds_alike n (leads n other kept) (leads n mode x) leads_same

    list_same : (i : ℕ) → i < n → lists_start n + 4 ≤ part_size x → list_by n kept i ≡ list_by n x i
    list_same i l fit =
        let a = begins_kept x (part_size x) (omega arith) in
        let b = lists_same in
        let c = word_kept x (part_size x) (16 + 4 * i) (omega arith) in
        rw (a, b, c) refl

    whole_forth : (mode other : ℕ → ℕ) → ((i : ℕ) → i < n → other i ≡ mode i) → IsPart n mode x → IsPart n other kept
    whole_forth mode other modes p = record {
      frame = frame_forth p.frame;
      lists = subst AreLists (sym lists_same) p.lists;
      rows = rows_alike mode other modes p.frame.rows_fit ∙ p.rows;
    }

    whole_back : (mode other : ℕ → ℕ) → ((i : ℕ) → i < n → other i ≡ mode i) → IsPart n other kept → IsPart n mode x
    whole_back mode other modes p =
        let f = frame_back p.frame in
        record {
          frame = f;
          lists = subst AreLists lists_same p.lists;
          rows = sym (rows_alike mode other modes f.rows_fit) ∙ p.rows;
        }

module _ (x : List ℕ) where
  room : begins x ≡ true → 8 ≤ length x
  room t = elim (cases_lt (length x) 8) [
    | inl l ↦ absurd (true≢false (sym t ∙ short_front x (codes "-attr02-") (omega arith)))
    | inr l ↦ l
  ]

  -- how much is kept
  which : ((begins x ≡ false) × (kept_part x ≡ 0))
      ⊎ (((kept_part x ≡ part_size x) × (16 ≤ part_size x) × (part_size x ≤ length x))
      ⊎ ((kept_part x ≡ 8) × ((part_size x < 16) ⊎ (length x < part_size x)) × (8 ≤ length x)))
  which = elim (cases_Bool (begins x)) [
    | inl t ↦ inr (elim (cases_lt (part_size x) 16) [
      | inl l ↦ inr (rw t (grind (arith, nat_tests)), inl l, room t)
      | inr l ↦ elim (cases_lt (length x) (part_size x)) [
        | inl m ↦ inr (rw t (grind (arith, nat_tests)), inr m, room t)
        | inr m ↦ inl (rw t (grind (arith, nat_tests)), l, m)
      ]
    ])
    | inr f ↦ inl (f, rw f refl)
  ]

  pub kept_short : kept_part x ≤ length x
  kept_short = elim which [
    | inl w ↦ (let e = w.1 in omega arith)
    | inr (inl w) ↦ (let e = w.0 in let l = w.2 in omega arith)
    | inr (inr w) ↦ (let e = w.0 in let l = w.2 in omega arith)
  ]

  cut_broken : (n : ℕ) (mode : ℕ → ℕ) → (part_size x < 16) ⊎ (length x < part_size x) → ¬ IsPart n mode x
  cut_broken n mode (inl l) p = (let r = p.frame.rows_fit in omega arith)
  cut_broken n mode (inr l) p = (let w = p.frame.whole in omega arith)

  letters_broken : (n : ℕ) (mode : ℕ → ℕ) → ¬ IsPart n mode (take 8 x)
  letters_broken n mode p = (let h = p.frame.head in let l = length-take 8 x in omega arith)

  pub part_judged : (n : ℕ) (mode other : ℕ → ℕ) → ((i : ℕ) → i < n → other i ≡ mode i)
      → ((IsTrue (begins x) → IsPart n mode x)
      ↔ (IsTrue (begins (take (kept_part x) x)) → IsPart n other (take (kept_part x) x)))
  part_judged n mode other modes = elim which [
    | inl w ↦ subst (λ k. (IsTrue (begins x) → IsPart n mode x) ↔ (IsTrue (begins (take k x)) → IsPart n other (take k x))) (sym w.1)
        ((λ p h. absurd (cc)), (λ p h. absurd (let e = w.0 in cc)))
    | inr (inl w) ↦ subst (λ k. (IsTrue (begins x) → IsPart n mode x) ↔ (IsTrue (begins (take k x)) → IsPart n other (take k x)))
        (sym w.0) (
          (λ p h. whole_forth x w.1 w.2 n mode other modes (p (sym (begins_kept x (part_size x) (omega arith)) ∙ h))),
          (λ p h. whole_back x w.1 w.2 n mode other modes (p (begins_kept x (part_size x) (omega arith) ∙ h))),
        )
    | inr (inr w) ↦ subst (λ k. (IsTrue (begins x) → IsPart n mode x) ↔ (IsTrue (begins (take k x)) → IsPart n other (take k x)))
        (sym w.0) (
          (λ p h. absurd (cut_broken n mode w.1 (p (sym (begins_kept x 8 (omega arith)) ∙ h)))),
          (λ p h. absurd (letters_broken n other (p (begins_kept x 8 (omega arith) ∙ h)))),
        )
  ]

  pub part_lists : (n : ℕ) (mode : ℕ → ℕ) → (IsTrue (begins x) → IsPart n mode x) → (i : ℕ) → i < n
      → list_by n (take (kept_part x) x) i ≡ list_by n x i
  part_lists n mode p i l = elim which [
    | inl w ↦ subst (λ k. list_by n (take k x) i ≡ list_by n x i) (sym w.1) (let e = w.0 in rw e refl)
    | inr (inl w) ↦ subst (λ k. list_by n (take k x) i ≡ list_by n x i) (sym w.0) (elim (cases_Bool (begins x)) [
      | inl t ↦ list_same x w.1 w.2 n i l (p t).frame.rows_fit
      | inr f ↦ (let e = begins_kept x (part_size x) (let low = w.1 in omega arith) ∙ f in rw (e, f) refl)
    ])
    | inr (inr w) ↦ subst (λ k. list_by n (take k x) i ≡ list_by n x i) (sym w.0) (elim (cases_Bool (begins x)) [
      | inl t ↦ absurd (cut_broken n mode w.1 (p t))
      | inr f ↦ (let e = begins_kept x 8 (omega arith) ∙ f in rw (e, f) refl)
    ])
  ]
