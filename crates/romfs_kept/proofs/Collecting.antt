-- Pieces that are sorted (sorted_out) and of which repeats are dropped (deduped) are the same blocks;
-- a row of them goes on by one more (row_more).
use Rattle.std.proofs.Common.{◌≡◌, ◌∙◌, sym, ap, subst, ℕ, ◌+◌, ◌*◌, ◌<◌, ◌==◌, inl, inr, List, [], ◌∷◌, ◌++◌, true, take, drop, get_or, refl, arith}
use Rattle.std.specs.List.{dedup, Any}
use Rattle.std.specs.List.Sorted.{IsPermutation}
use Rattle.std.specs.Cmp.{IsEquivalence, nat_eq_equiv}
use Rattle.std.proofs.lemmas.List.Sorted.{Contains-permutation, IsPermutation-sym}
use Rattle.std.proofs.lemmas.List.Kept.{Any-dedup, Contains-from_dedup}
use Rattle.std.proofs.lemmas.List.Elements.{Contains-append_left, Contains-push, Contains-push_cases}
use Rattle.std.proofs.lemmas.List.{get_or-drop, get_or-take}
use Rattle.std.proofs.lemmas.Bool.{eqb-true, cases_lt}
use Rattle.romfs_kept.specs.declared.pieces.Piece.{Piece}
use Rattle.romfs_kept.specs.Pieces.{HasBlock, IsFewer, IsOneMore, IsOfRow, HasRow}

pub fewer_moved : (old new : List Piece) → IsPermutation old new → IsFewer old new
fewer_moved old new p = record {
  from = λ x c. Contains-permutation new old x (IsPermutation-sym old new p) c;
  stays = λ b h. record { piece = h.piece; among = Contains-permutation old new h.piece p h.among; is = h.is };
}

pub fewer_both : (old mid new : List Piece) → IsFewer old mid → IsFewer mid new → IsFewer old new
fewer_both old mid new f g = record {
  from = λ x c. f.from x (g.from x c);
  stays = λ b h. g.stays b (f.stays b h);
}

-- two pieces that are the same block
same_equivalence : IsEquivalence {K = Piece} (λ x y. x.block == y.block)
same_equivalence = record {
  refl = λ x. nat_eq_equiv.refl x.block;
  symm = λ x y. nat_eq_equiv.symm x.block y.block;
  congr = λ x y z e. nat_eq_equiv.congr x.block y.block z.block e;
}

pub fewer_deduped : (old new : List Piece) → new ≡ dedup (λ x y. x.block == y.block) old → IsFewer old new
fewer_deduped old new e = subst (λ (l : List Piece). IsFewer old l) (sym e) (record {
  from = λ x c. Contains-from_dedup (λ x y. x.block == y.block) old x c;
  stays = λ b h. found b h (Any-dedup same_equivalence old h.piece h.among);
})
  where
    found : (b : ℕ) (h : HasBlock old b) → Any (λ y. (h.piece.block == y.block) ≡ true) (dedup (λ x y. x.block == y.block) old)
        → HasBlock (dedup (λ x y. x.block == y.block) old) b
    found b h (k, y, l, is, same) = record { piece = y; among = (k, l, is); is = sym (eqb-true _ _ same) ∙ h.is }

pub one_more : (old mid new : List Piece) (one : Piece) → IsFewer old mid → new ≡ mid ++ one ∷ [] → IsOneMore old one new
one_more old mid new one f e = subst (λ (l : List Piece). IsOneMore old one l) (sym e) (record {
  from = λ x c. elim (Contains-push_cases mid one x c) [
    | inl m ↦ inl (f.from x m)
    | inr m ↦ inr (sym m)
  ];
  stays = λ b h.
      (let g = f.stays b h in record { piece = g.piece; among = Contains-append_left mid (one ∷ []) g.piece g.among; is = g.is });
  has = record { piece = one; among = Contains-push mid one; is = refl };
})

pub row_none : (old : List Piece) (first : ℕ) (bytes : List ℕ) → HasRow old first bytes 0 old
row_none old first bytes = record { from = λ x c. inl c; stays = λ b h. h; has = λ i l. absurd (omega arith) }

pub row_more : (old mid new : List Piece) (first i : ℕ) (bytes part : List ℕ) (one : Piece) → HasRow old first bytes i mid
    → one.block ≡ first + i → part ≡ take 16 (drop (i * 16) bytes) → one.bytes ≡ part → IsOneMore mid one new
    → HasRow old first bytes (i + 1) new
row_more old mid new first i bytes part one r b e f m = record {
  from = λ x c. elim (m.from x c) [
    | inl d ↦ elim (r.from x d) [
      | inl o ↦ inl o
      | inr w ↦ inr (record { place = w.place; below = (let l = w.below in omega arith); is = w.is; same = w.same })
    ]
    | inr d ↦ inr (subst (λ y. IsOfRow first bytes (i + 1) y) (sym d) this)
  ];
  stays = λ q h. m.stays q (r.stays q h);
  has = λ j l. at j l;
}
  where
    this : IsOfRow first bytes (i + 1) one
    this = record {
      place = i;
      below = omega arith;
      is = b;
      same = λ j l. ap (λ (n : List ℕ). get_or n j 0) (f ∙ e) ∙ get_or-take 16 (drop (i * 16) bytes) j 0 l ∙ get_or-drop (i * 16) bytes j 0;
    }

    at : (j : ℕ) → j < i + 1 → HasBlock new (first + j)
    at j l = elim (cases_lt j i) [
      | inl k ↦ m.stays (first + j) (r.has j k)
      | inr k ↦ (let g : j ≡ i = omega arith in subst (λ n. HasBlock new (first + n)) (sym g) (subst (λ n. HasBlock new n) b m.has))
    ]
