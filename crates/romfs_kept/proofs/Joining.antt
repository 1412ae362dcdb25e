-- Blocks in order and their bytes: one that is above all others goes to their end (pushed), and what is
-- joined from pieces in order holds what these hold (Joined).
use Rattle.std.proofs.Common.{◌≡◌, ◌≢◌, ◌∙◌, sym, ap, subst, ℕ, ◌+◌, ◌-◌, ◌*◌, ◌/◌, ◌%◌, ◌<◌, ◌≤◌, inl, inr, List, [], ◌∷◌, ◌++◌, length, get_or, refl, arith, length-append, Result, Ok, Err, IfOk}
use Rattle.std.specs.List.{Contains}
use Rattle.std.specs.List.Sorted.{IsNonDecreasingBy}
use Rattle.std.proofs.lemmas.Bool.{cases_lt, cases_eq}
use Rattle.std.proofs.lemmas.List.{get_or_append_left, get_or-append_right, get_or_at, get_or_default}
use Rattle.std.proofs.lemmas.List.Elements.{Contains-get_or}
use Rattle.romfs_kept.specs.declared.pieces.Piece.{Piece}
use Rattle.romfs_held.specs.Blocks.{byte_of, filled, IsKept}
use Rattle.romfs_kept.specs.Pieces.{HasBlock, AreRight, IsPacked, IsFilled, IsSortedOut}
use Rattle.romfs_held.proofs.Rows.{find_block}
use Rattle.romfs_held.proofs.Runs.{byte_kept, byte_none}
use Rattle.romfs_held.proofs.Fronts.{filled_at}

module _ (blocks bytes new : List ℕ) (b : ℕ) (kept : IsKept blocks bytes) (whole : length new ≡ 16)
    (high : (i : ℕ) → i < length blocks → get_or blocks i 0 < b) where
  more : List ℕ
  more = blocks ++ b ∷ []

  more_long : length more ≡ length blocks + 1
  unfolding more
  more_long = length-append blocks (b ∷ [])

  more_old : (i : ℕ) → i < length blocks → get_or more i 0 ≡ get_or blocks i 0
  unfolding more
  more_old i l = get_or_append_left blocks (b ∷ []) 0 i l

  more_new : (i : ℕ) → i ≡ length blocks → get_or more i 0 ≡ b
  unfolding more
  more_new i e = get_or_at blocks b [] 0 i (sym e)

  more_rises : (i j : ℕ) → i < j → j < length more → get_or more i 0 < get_or more j 0
  more_rises i j l m =
      let z = more_long in
      elim (cases_lt j (length blocks)) [
        | inl q ↦ (let e = more_old i (omega arith) in let f = more_old j q in
            let r = kept.rises.above i j l q in omega arith)
        | inr q ↦ (let e = more_old i (omega arith) in let f = more_new j (omega arith) in
            let r = high i (omega arith) in omega arith)
      ]

  pub pushed_kept : IsKept (blocks ++ b ∷ []) (bytes ++ new)
  unfolding more
  pushed_kept = record {
    rises = record { above = more_rises };
    long = (let e = length-append bytes new in let f = kept.long in let z = more_long in omega arith);
  }

  pub pushed_here : (p : ℕ) → p / 16 ≡ b → byte_of (blocks ++ b ∷ []) (bytes ++ new) p ≡ get_or new (p % 16) 0
  unfolding more
  pushed_here p e =
      let f = kept.long in
      let z = more_long in
      byte_kept more (bytes ++ new) p (length blocks) (pushed_kept.rises) (omega arith) (more_new (length blocks) refl ∙ sym e)
      ∙ get_or-append_right bytes new (length bytes) (16 * length blocks + p % 16) 0 refl (omega arith)
      ∙ ap (λ n. get_or new n 0) (let g : 16 * length blocks + p % 16 - length bytes ≡ p % 16 = omega arith in g)

  pub pushed_others : (p : ℕ) → p / 16 ≢ b → byte_of (blocks ++ b ∷ []) (bytes ++ new) p ≡ byte_of blocks bytes p
  unfolding more
  pushed_others p n =
      let f = kept.long in
      let z = more_long in
      elim (find_block blocks (p / 16)) [
        | inl x ↦ (let x1 = x.1 in
            byte_kept more (bytes ++ new) p x.0 (pushed_kept.rises) (omega arith) (more_old x.0 x.1 ∙ x.2)
            ∙ get_or_append_left bytes new 0 (16 * x.0 + p % 16) (omega arith)
            ∙ sym (byte_kept blocks bytes p x.0 kept.rises x.1 x.2))
        | inr g ↦ byte_none more (bytes ++ new) p (λ i l e. elim (cases_lt i (length blocks)) [
          | inl m ↦ g i m (sym (more_old i m) ∙ e)
          | inr m ↦ n (sym e ∙ more_new i (omega arith))
        ]) ∙ sym (byte_none blocks bytes p g)
      ]

-- the bytes of the block of a piece are those of a piece of this block
pub record IsJoined (pieces : List Piece) (blocks bytes : List ℕ) (x : Piece) : Type 0 where
  pub piece : Piece
  pub among : Contains pieces piece
  pub is : piece.block ≡ x.block
  pub same : (p : ℕ) → p / 16 ≡ x.block → byte_of blocks bytes p ≡ get_or piece.bytes (p % 16) 0

-- the first n pieces are joined, and each block is that of one of them
pub record Joined (pieces : List Piece) (blocks bytes : List ℕ) (n : ℕ) : Type 0 where
  pub kept : IsKept blocks bytes
  pub of_one : (k : ℕ) (d : Piece) → k < length blocks → (j : ℕ) × (j < n) × ((get_or pieces j d).block ≡ get_or blocks k 0)
  pub each : (j : ℕ) (d : Piece) → j < n → IsJoined pieces blocks bytes (get_or pieces j d)

pub joined_none : (pieces : List Piece) → Joined pieces [] [] 0
joined_none pieces = record {
  kept = record { rises = record { above = λ i j l m. absurd (omega arith) }; long = refl };
  of_one = λ k d l. absurd (omega arith);
  each = λ j d l. absurd (omega arith);
}

module _ (pieces : List Piece) (sorted : IsNonDecreasingBy (λ (x : Piece). x.block) pieces) (blocks bytes : List ℕ) (n : ℕ) (one : Piece)
    (w : Joined pieces blocks bytes n) (l : n < length pieces) (is : (d : Piece) → get_or pieces n d ≡ one) where
  -- a block that was there already
  pub joined_again : (0 < length blocks) × (one.block ≤ get_or blocks (length blocks - 1) 0) → Joined pieces blocks bytes (n + 1)
  joined_again s = record {
    kept = w.kept;
    of_one = λ k d m. (let x = w.of_one k d m in let x1 = x.1 in (x.0, (omega arith), x.2));
    each = λ j d m. elim (cases_lt j n) [
      | inl q ↦ w.each j d q
      | inr q ↦ (let e : j ≡ n = omega arith in subst (λ i. IsJoined pieces blocks bytes (get_or pieces i d)) (sym e) (at d))
    ];
  }
    where
      at : (d : Piece) → IsJoined pieces blocks bytes (get_or pieces n d)
      at d =
          let s0 = s.0 in
          let s1 = s.1 in
          let x = w.of_one (length blocks - 1) d (omega arith) in
          let x1 = x.1 in
          let x2 = x.2 in
          let up = sorted x.0 n d (omega arith) l in
          let f : (get_or pieces n d).block ≡ one.block = ap (λ (y : Piece). y.block) (is d) in
          let e : (get_or pieces x.0 d).block ≡ (get_or pieces n d).block = omega arith in
          let q = w.each x.0 d x.1 in
          record { piece = q.piece; among = q.among; is = q.is ∙ e; same = λ p g. q.same p (g ∙ sym e) }

  -- a block above the others
  module _ (above : 0 < length blocks → get_or blocks (length blocks - 1) 0 < one.block) (whole : length one.bytes ≡ 16) where
    high : (i : ℕ) → i < length blocks → get_or blocks i 0 < one.block
    high i m =
        let a = above (omega arith) in
        elim (cases_lt i (length blocks - 1)) [
          | inl q ↦ (let r = w.kept.rises.above i (length blocks - 1) q (omega arith) in omega arith)
          | inr q ↦ (let e : i ≡ length blocks - 1 = omega arith in let f = ap (λ k. get_or blocks k 0) e in omega arith)
        ]

    is_block : (d : Piece) → (get_or pieces n d).block ≡ one.block
    is_block d = ap (λ (y : Piece). y.block) (is d)

    lower : (j : ℕ) (d : Piece) → j < n → (get_or pieces j d).block ≢ one.block → (p : ℕ) → p / 16 ≡ (get_or pieces j d).block
        → byte_of (blocks ++ one.block ∷ []) (bytes ++ one.bytes) p ≡ byte_of blocks bytes p
    lower j d m n p e = pushed_others blocks bytes one.bytes one.block w.kept whole high p (λ f. n (sym e ∙ f))

    new_one : (d : Piece) → IsJoined pieces (blocks ++ one.block ∷ []) (bytes ++ one.bytes) (get_or pieces n d)
    new_one d = record {
      piece = get_or pieces n d;
      among = Contains-get_or pieces n d l;
      is = refl;
      same = λ p e. pushed_here blocks bytes one.bytes one.block w.kept whole high p (e ∙ is_block d)
          ∙ ap (λ (y : Piece). get_or y.bytes (p % 16) 0) (sym (is d));
    }

    old_one : (j : ℕ) (d : Piece) → j < n → IsJoined pieces (blocks ++ one.block ∷ []) (bytes ++ one.bytes) (get_or pieces j d)
    old_one j d m = elim (cases_eq (get_or pieces j d).block one.block) [
      | inl e ↦ (let g = is_block d in let q = new_one d in
          record { piece = q.piece; among = q.among; is = q.is ∙ g ∙ sym e; same = λ p f. q.same p (f ∙ e ∙ sym g) })
      | inr e ↦ (let q = w.each j d m in
          record { piece = q.piece; among = q.among; is = q.is; same = λ p f. lower j d m e p f ∙ q.same p f })
    ]

    pub joined_more : Joined pieces (blocks ++ one.block ∷ []) (bytes ++ one.bytes) (n + 1)
    joined_more = record {
      kept = pushed_kept blocks bytes one.bytes one.block w.kept whole high;
      of_one = λ k d m. from k d m;
      each = λ j d m. elim (cases_lt j n) [
        | inl q ↦ old_one j d q
        | inr q ↦ (let e : j ≡ n = omega arith in
            subst (λ i. IsJoined pieces (blocks ++ one.block ∷ []) (bytes ++ one.bytes) (get_or pieces i d)) (sym e) (new_one d))
      ];
    }
      where
        from : (k : ℕ) (d : Piece) → k < length (blocks ++ one.block ∷ [])
            → (j : ℕ) × (j < n + 1) × ((get_or pieces j d).block ≡ get_or (blocks ++ one.block ∷ []) k 0)
        from k d m = elim (cases_lt k (length blocks)) [
          | inl q ↦ (let x = w.of_one k d q in let x1 = x.1 in
              (x.0, (let t : x.0 < n + 1 = omega arith in t), x.2 ∙ sym (get_or_append_left blocks (one.block ∷ []) 0 k q)))
          | inr q ↦ (let z = length-append blocks (one.block ∷ []) in (
            n,
            (let t : n < n + 1 = omega arith in t),
            is_block d ∙ sym (get_or_at blocks one.block [] 0 k (let f : length blocks ≡ k = omega arith in f)),
          ))
        ]

-- the same of a loop's step
module _ (pieces : List Piece) (sorted : IsNonDecreasingBy (λ (x : Piece). x.block) pieces) (blocks bytes last : List ℕ) (n : ℕ) (e : Piece)
    (w : Joined pieces blocks bytes n) (l : n < length pieces) (same : last ≡ blocks) where
  one : (d : Piece) → get_or pieces n d ≡ get_or pieces n e
  one d = get_or_default pieces n d e l

  pub step_again : (0 < length last) × ((get_or pieces n e).block ≤ get_or last (length last - 1) 0) → Joined pieces blocks bytes (n + 1)
  step_again s = joined_again pieces sorted blocks bytes n (get_or pieces n e) w l one
      (subst (λ k. (0 < length k) × ((get_or pieces n e).block ≤ get_or k (length k - 1) 0)) same s)

  pub step_more : (next rest part : List ℕ) → (0 < length last → get_or last (length last - 1) 0 < (get_or pieces n e).block)
      → part ≡ (get_or pieces n e).bytes → length part ≡ 16 → next ≡ blocks ++ (get_or pieces n e).block ∷ [] → rest ≡ bytes ++ part
      → Joined pieces next rest (n + 1)
  step_more next rest part above is whole f g =
      subst (λ k. Joined pieces k rest (n + 1)) (sym f)
      (subst (λ k. Joined pieces (blocks ++ (get_or pieces n e).block ∷ []) k (n + 1)) (sym (g ∙ ap (λ k. bytes ++ k) is))
      (joined_more pieces sorted blocks bytes n (get_or pieces n e) w l one
      (subst (λ k. 0 < length k → get_or k (length k - 1) 0 < (get_or pieces n e).block) same above)
      (sym (ap length is) ∙ whole)))

-- all pieces are joined
pub joined_all : (pieces : List Piece) (blocks bytes : List ℕ) (n : ℕ) → n ≡ length pieces → Joined pieces blocks bytes n
    → IsPacked pieces blocks bytes
joined_all pieces blocks bytes n e w = record {
  kept = w.kept;
  same = λ xs r p h. here xs r p h;
}
  where
    here : (xs : List ℕ) → AreRight xs pieces → (p : ℕ) → HasBlock pieces (p / 16) → byte_of blocks bytes p ≡ get_or xs p 0
    here xs r p h =
        let k = h.among.0 in
        let m = h.among.1 in
        let q = w.each k h.piece (omega arith) in
        let f : (get_or pieces k h.piece).block ≡ p / 16 = ap (λ (y : Piece). y.block) h.among.2 ∙ h.is in
        let g = (r.each q.piece q.among).same (p % 16) (omega arith) in
        let b : q.piece.block ≡ p / 16 = q.is ∙ f in
        q.same p (sym f) ∙ g ∙ ap (λ i. get_or xs i 0) (let t : 16 * q.piece.block + p % 16 ≡ p = omega arith in t)

-- what is packed from sorted pieces is filled with what they held before the sort
pub packed_filled : (old pieces : List Piece) (size : ℕ) (blocks bytes : List ℕ) → IsSortedOut old pieces → IsPacked pieces blocks bytes
    → IsFilled old size (filled size blocks bytes)
packed_filled old pieces size blocks bytes s k = record {
  same = λ xs r p l h. filled_at size blocks bytes p l
      ∙ k.same xs (record { each = λ x c. r.each x (s.fewer.from x c) }) p (s.fewer.stays (p / 16) h);
}

-- what is made from a list that is filled is filled
pub filled_if_ok : {E : Type 0} (pieces : List Piece) (size : ℕ) (xs : List ℕ) (result : Result (List ℕ) E)
    → IfOk result (λ kept. kept ≡ xs) → IsFilled pieces size xs → IfOk result (IsFilled pieces size)
filled_if_ok pieces size xs (Ok kept) e f = subst (λ a. IsFilled pieces size a) (sym e) f
filled_if_ok pieces size xs (Err fault) e f = tt
