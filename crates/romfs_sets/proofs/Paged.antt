-- Words by pages. A new page of zeros changes no word (`held_same`), and to write a word into a page that is held changes
-- that word alone (`word_set`), since no other page has its number. `held_more` and `held_set` say that pages stay pages.
use Rattle.std.proofs.Common.{◌≡◌, ◌≢◌, ◌∙◌, sym, ap, subst, ℕ, zero, suc, ◌+◌, ◌*◌, ◌/◌, ◌%◌, ◌<◌, ◌≤◌, ◌⊎◌, inl, inr, List, [], ◌∷◌, ◌++◌, length, get_or, set, replicate, refl, arith}
use Rattle.std.proofs.lemmas.Bool.{cases_eq}
use Rattle.std.proofs.lemmas.List.{length-set, length-append, get_or-set_same, get_or-set_other, same_lists, get_or-replicate, length-replicate, get_or_append_left, get_or-append-add}
use Rattle.std.proofs.lemmas.List.FromFn.{get_or-map-range_with_len, length-map-range_with_len}
use Rattle.romfs_sets.specs.Pages.{word_in, words_of, numbered, ArePages}
use Rattle.romfs_sets.proofs.Bits.{word_read}

-- a page whose number was read as 0 has none
pub free_page : (pages : List ℕ) (page number : ℕ) → page < length pages → number ≡ get_or pages page number → number ≡ 0
    → get_or pages page 0 ≡ 0
free_page pages page number l e z = sym (word_read pages page number l e) ∙ z

-- eight words a page
pub words_length : (pages held : List ℕ) → length (words_of pages held) ≡ length pages * 8
unfolding words_of
words_length pages held = length-map-range_with_len (word_in pages held) 0 (length pages * 8)

-- each word is in its page
pub word_at : (pages held : List ℕ) (w d : ℕ) → w < length pages * 8 → get_or (words_of pages held) w d ≡ word_in pages held w
unfolding words_of
word_at pages held w d l = get_or-map-range_with_len (word_in pages held) 0 (length pages * 8) w w d l (omega arith)

-- the same by the number of its page
pub word_at_page : (pages held : List ℕ) (w number : ℕ) → w < length pages * 8 → number ≡ get_or pages (w / 8) 0
    → get_or (words_of pages held) w 0 ≡ get_or held (number * 8 + w % 8) 0
word_at_page pages held w number l e = word_at pages held w 0 l ∙ ap (λ n. get_or held (n * 8 + w % 8) 0) (sym e)

-- pages are equal if their words are
same_words : (pages held others other : List ℕ) → length pages ≡ length others
    → ((w : ℕ) → w < length pages * 8 → word_in pages held w ≡ word_in others other w)
    → words_of pages held ≡ words_of others other
same_words pages held others other same each = same_lists (words_of pages held) (words_of others other)
    (words_length pages held ∙ ap (λ n. n * 8) same ∙ sym (words_length others other)) (λ w d l.
    let m : w < length pages * 8 = subst (λ n. w < n) (words_length pages held) l in
    word_at pages held w d m ∙ each w m ∙ sym (word_at others other w d (subst (λ n. w < n * 8) same m)))

-- if no page is held, all words are 0
pub words_none : (count : ℕ) (pages held : List ℕ) → pages ≡ replicate count 0 → held ≡ replicate 8 0
    → words_of pages held ≡ replicate (count * 8) 0
words_none count pages held e f =
    let sized : length pages ≡ count = rw e (length-replicate count 0) in
    same_lists (words_of pages held) (replicate (count * 8) 0)
    (words_length pages held ∙ ap (λ n. n * 8) sized ∙ sym (length-replicate (count * 8) 0)) (λ w d l.
    let m : w < length pages * 8 = subst (λ n. w < n) (words_length pages held) l in
    let z : get_or pages (w / 8) 0 ≡ 0 = rw e (get_or-replicate count (w / 8) 0 0 (omega arith)) in
    let at : get_or pages (w / 8) 0 * 8 + w % 8 ≡ w % 8 = omega arith in
    word_at pages held w d m ∙ ap (λ i. get_or held i 0) at ∙ rw f (get_or-replicate 8 (w % 8) 0 0 (omega arith))
    ∙ sym (get_or-replicate (count * 8) w 0 d (omega arith)))

-- no page of zeros has a number
numbered_none : (count : ℕ) → numbered (replicate count 0) ≡ 0
unfolding numbered
numbered_none zero = refl
numbered_none (suc n) = numbered_none n

-- no more pages have numbers than there are
numbered_most : (pages : List ℕ) → numbered pages ≤ length pages
unfolding numbered
numbered_most [] = omega arith
numbered_most (zero ∷ pages) = let m = numbered_most pages in omega arith
numbered_most (suc n ∷ pages) = let m = numbered_most pages in omega arith

-- with a page numbered that was not, one more is
numbered_more : (pages : List ℕ) (p k : ℕ) → p < length pages → get_or pages p 0 ≡ 0
    → (numbered (set pages p (suc k)) ≡ suc (numbered pages)) × (numbered pages < length pages)
unfolding numbered
numbered_more [] p k l e = absurd (omega arith)
numbered_more (zero ∷ pages) zero k l e = (refl, let m = numbered_most pages in omega arith)
numbered_more (suc n ∷ pages) zero k l e = absurd (cc)
numbered_more (zero ∷ pages) (suc p) k l e = let m = numbered_more pages p k (omega arith) e in (m.0, omega (arith, m.1))
numbered_more (suc n ∷ pages) (suc p) k l e = let m = numbered_more pages p k (omega arith) e in (ap suc m.0, omega (arith, m.1))

-- no page is held
pub held_none : (count : ℕ) (pages held : List ℕ) → pages ≡ replicate count 0 → held ≡ replicate 8 0 → ArePages pages held
held_none count pages held e f =
    let n : numbered pages ≡ 0 = rw e (numbered_none count) in
    let sized : length pages ≡ count = rw e (length-replicate count 0) in
    record {
      sized = rw (f, n) (length-replicate {A = ℕ} 8 0);
      none = λ w l. rw f (get_or-replicate 8 w 0 0 l);
      there = λ p l. let z : get_or pages p 0 ≡ 0 = rw e (get_or-replicate count p 0 0 (omega arith)) in omega arith;
      apart = λ p q l m same. inl (rw e (get_or-replicate count p 0 0 (omega arith)));
    }

-- the place of a word in what is held
abbrev pub place : List ℕ → ℕ → ℕ
place pages w = get_or pages (w / 8) 0 * 8 + w % 8

module _ (pages held : List ℕ) (are : ArePages pages held) where
  -- a word of a page that is held has a place
  pub inside : (w : ℕ) → w < length pages * 8 → get_or pages (w / 8) 0 * 8 + w % 8 < length held
  inside w l = let t = are.there (w / 8) (omega arith) in let s = are.sized in omega arith

  -- the number of the next page
  pub next_number : (len : ℕ) → len ≡ length held → len / 8 * 8 ≡ length held
  next_number len same = let s = are.sized in omega arith

  -- one page more
  module _ (page k : ℕ) (l : page < length pages) (e : get_or pages page 0 ≡ 0) (next : k * 8 ≡ length held) where
    k_is : k ≡ suc (numbered pages)
    k_is = let s = are.sized in omega arith

    -- if not all pages have a number, there is room for one more
    pub room : length held + 8 ≤ (length pages + 1) * 8
    room = let s = are.sized in let m = (numbered_more pages page (numbered pages) l e).1 in omega arith

    number_same : (p : ℕ) → p ≢ page → get_or (set pages page k) p 0 ≡ get_or pages p 0
    number_same p d = get_or-set_other pages page p k 0 d

    number_new : get_or (set pages page k) page 0 ≡ k
    number_new = get_or-set_same pages page k 0 l

    more : numbered (set pages page k) ≡ suc (numbered pages)
    more = ap (λ n. numbered (set pages page n)) k_is ∙ (numbered_more pages page (numbered pages) l e).0

    pub held_more : ArePages (set pages page k) (held ++ replicate 8 0)
    held_more = record {
      sized = let s = are.sized in let n = more in
          let a = length-append held (replicate 8 0) in let r = length-replicate {A = ℕ} 8 0 in omega arith;
      none = λ w m. let s = are.sized in get_or_append_left held (replicate 8 0) 0 w (omega arith) ∙ are.none w m;
      there = λ p m. elim (cases_eq p page) [
        | inl same ↦ rw (same, number_new, more) (let i = k_is in omega arith)
        | inr d ↦ rw (number_same p d, more) (let t = are.there p (let n = length-set pages page k in omega arith) in omega arith)
      ];
      apart = λ p q m n same. apart_by p q (let i = length-set pages page k in omega arith)
          (let i = length-set pages page k in omega arith) same;
    }
      where
        not_new : (p : ℕ) → p < length pages → get_or pages p 0 ≢ k
        not_new p m same = let t = are.there p m in let i = k_is in omega arith

        apart_by : (p q : ℕ) → p < length pages → q < length pages
            → get_or (set pages page k) p 0 ≡ get_or (set pages page k) q 0
            → (get_or (set pages page k) p 0 ≡ 0) ⊎ (p ≡ q)
        apart_by p q m n same = elim (cases_eq p page) [
          | inl a ↦ elim (cases_eq q page) [
            | inl b ↦ inr (a ∙ sym b)
            | inr b ↦ absurd (not_new q n (sym (number_same q b) ∙ sym same ∙ ap (λ i. get_or (set pages page k) i 0) a ∙ number_new))
          ]
          | inr a ↦ elim (cases_eq q page) [
            | inl b ↦ absurd (not_new p m (sym (number_same p a) ∙ same ∙ ap (λ i. get_or (set pages page k) i 0) b ∙ number_new))
            | inr b ↦ rw (number_same p a) (are.apart p q m n (sym (number_same p a) ∙ same ∙ number_same q b))
          ]
        ]

    pub held_same : words_of (set pages page k) (held ++ replicate 8 0) ≡ words_of pages held
    held_same = same_words (set pages page k) (held ++ replicate 8 0) pages held (length-set pages page k) (λ w m.
        let i : w < length pages * 8 = subst (λ n. w < n * 8) (length-set pages page k) m in
        elim (cases_eq (w / 8) page) [
          | inl same ↦ new_word w i same
          | inr d ↦ ap (λ n. get_or (held ++ replicate 8 0) (n * 8 + w % 8) 0) (number_same (w / 8) d)
              ∙ get_or_append_left held (replicate 8 0) 0 _ (inside w i)
        ])
      where
        new_word : (w : ℕ) → w < length pages * 8 → w / 8 ≡ page
            → word_in (set pages page k) (held ++ replicate 8 0) w ≡ word_in pages held w
        new_word w i same =
            let number : get_or (set pages page k) (w / 8) 0 ≡ k = rw same number_new in
            let at : get_or (set pages page k) (w / 8) 0 * 8 + w % 8 ≡ length held + w % 8 = omega arith in
            let old : get_or pages (w / 8) 0 * 8 + w % 8 ≡ w % 8 = rw same (let z = e in omega arith) in
            ap (λ n. get_or (held ++ replicate 8 0) n 0) at ∙ get_or-append-add held (replicate 8 0) (w % 8) 0
            ∙ get_or-replicate 8 (w % 8) 0 0 (omega arith)
            ∙ sym (ap (λ n. get_or held n 0) old ∙ are.none (w % 8) (omega arith))

  -- a word written into a page that is held
  module _ (w value : ℕ) (l : w < length pages * 8) (some : 0 < get_or pages (w / 8) 0) where
    pub held_set : ArePages pages (set held (place pages w) value)
    held_set = record {
      sized = length-set held (place pages w) value ∙ are.sized;
      none = λ v m. get_or-set_other held (place pages w) v value 0 (λ same. omega arith) ∙ are.none v m;
      there = are.there;
      apart = are.apart;
    }

    pub word_set : words_of pages (set held (place pages w) value) ≡ set (words_of pages held) w value
    word_set = same_lists (words_of pages (set held (place pages w) value)) (set (words_of pages held) w value)
        (words_length pages (set held (place pages w) value) ∙ sym (length-set (words_of pages held) w value ∙ words_length pages held))
        (λ v d m. let i : v < length pages * 8 = subst (λ n. v < n) (words_length pages (set held (place pages w) value)) m in
        word_at pages (set held (place pages w) value) v d i ∙ elim (cases_eq v w) [
          | inl same ↦ rw same (get_or-set_same held (place pages w) value 0 (inside w l)
              ∙ sym (get_or-set_same (words_of pages held) w value d (rw (words_length pages held) l)))
          | inr other ↦ get_or-set_other held (place pages w) (get_or pages (v / 8) 0 * 8 + v % 8) value 0 (elsewhere v i other)
              ∙ sym (word_at pages held v d i) ∙ sym (get_or-set_other (words_of pages held) w v value d other)
        ])
      where
        elsewhere : (v : ℕ) → v < length pages * 8 → v ≢ w → get_or pages (v / 8) 0 * 8 + v % 8 ≢ place pages w
        elsewhere v i other same =
            let number : get_or pages (v / 8) 0 ≡ get_or pages (w / 8) 0 = omega arith in
            elim (are.apart (v / 8) (w / 8) (omega arith) (omega arith) number) [
              | inl none ↦ absurd (let n = some in omega arith)
              | inr page ↦ other (omega arith)
            ]
