-- Pieces, appended and added to balances one after another: `bytes_on` and `moves_on` add one more after those so far, and `next_light`
-- says that these and the next weigh no more than all.
use Rattle.std.proofs.Common.{◌≡◌, ◌∙◌, sym, ap, subst, ℕ, ◌+◌, ◌<◌, ◌≤◌, ℤ, List, ◌++◌, length, take, drop, arith, append_assoc, take_all, get_or}
use Rattle.std.specs.List.{flat_map}
use Rattle.std.proofs.lemmas.Grind.{flat_map-append}
use Rattle.std.proofs.lemmas.List.{take-append-drop}
use Rattle.reply_model.specs.declared.moves.Move.{Move}
use Rattle.reply_model.specs.Balances.{IsMoved, weight}
use Rattle.reply_model.proofs.Sums.{moved_on, weight_append}
use Rattle.reply_rounds.specs.declared.pieces.Piece.{Piece}
use Rattle.reply_rounds.proofs.Told.{told_next}

module _ {A : Type 0} where
  -- what pieces move, one after another
  abbrev pub moves_of : List (Piece A) → List Move
  moves_of ps = flat_map (λ (p : Piece A). p.moves.items) ps

  -- the moves of the pieces so far and of the next one weigh no more than those of all
  pub next_light : (ps : List (Piece A)) (i : ℕ) (p : Piece A) → i < length ps → p ≡ get_or ps i p
      → weight (moves_of (take i ps)) + weight p.moves.items ≤ weight (moves_of ps)
  next_light ps i p there is =
      let e = ap weight (told_next (λ (q : Piece A). q.moves.items) ps i p there is) in
      let f = weight_append (moves_of (take i ps)) p.moves.items in
      let g = ap weight (sym (ap moves_of (take-append-drop (i + 1) ps)) ∙ flat_map-append (λ (q : Piece A). q.moves.items)
      (take (i + 1) ps) (drop (i + 1) ps)) in
      let h = weight_append (moves_of (take (i + 1) ps)) (moves_of (drop (i + 1) ps)) in
      omega arith

  -- the moves of one piece more were added
  pub moves_on : (ps : List (Piece A)) (i : ℕ) (p : Piece A) (a b c : List ℤ) → i < length ps → p ≡ get_or ps i p
      → IsMoved (moves_of (take i ps)) a b → IsMoved p.moves.items b c → IsMoved (moves_of (take (i + 1) ps)) a c
  moves_on ps i p a b c there is m n =
      subst (λ (ms : List Move). IsMoved ms a c) (sym (told_next (λ (q : Piece A). q.moves.items) ps i p there is))
      (moved_on (moves_of (take i ps)) p.moves.items a b c m n)

  -- the bytes of one piece more were appended
  pub bytes_on : (ps : List (Piece A)) (i : ℕ) (p : Piece A) (old so_far more new : List ℕ) → i < length ps → p ≡ get_or ps i p
      → so_far ≡ old ++ flat_map (λ (q : Piece A). q.bytes.items) (take i ps) → new ≡ so_far ++ more → more ≡ p.bytes.items
      → new ≡ old ++ flat_map (λ (q : Piece A). q.bytes.items) (take (i + 1) ps)
  bytes_on ps i p old so_far more new there is e put said =
      put ∙ ap (λ (v : List ℕ). so_far ++ v) said ∙ ap (λ (v : List ℕ). v ++ p.bytes.items) e
      ∙ append_assoc old (flat_map (λ (q : Piece A). q.bytes.items) (take i ps)) p.bytes.items
      ∙ ap (λ (v : List ℕ). old ++ v) (sym (told_next (λ (q : Piece A). q.bytes.items) ps i p there is))

  -- all bytes were appended, and all moves added
  pub all_on : (ps : List (Piece A)) (i : ℕ) (old new : List ℕ) (a b : List ℤ) → length ps ≤ i
      → new ≡ old ++ flat_map (λ (q : Piece A). q.bytes.items) (take i ps) → IsMoved (moves_of (take i ps)) a b
      → record { bytes : new ≡ old ++ flat_map (λ (q : Piece A). q.bytes.items) ps; moves : IsMoved (moves_of ps) a b }
  all_on ps i old new a b past e m = let all = take_all i ps past in record {
    bytes = e ∙ ap (λ (qs : List (Piece A)). old ++ flat_map (λ (q : Piece A). q.bytes.items) qs) all;
    moves = subst (λ (qs : List (Piece A)). IsMoved (moves_of qs) a b) all m;
  }
