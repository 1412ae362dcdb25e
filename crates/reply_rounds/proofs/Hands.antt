-- Pieces and the hands that drew their numbers. A worker's pieces have the numbers of its hand, those of joined hands have theirs
-- (`both_all`), and those of the last hand have each number once. So `every_batch` answers all, and `rounds` makes a round of it.
use Rattle.std.proofs.Common.{◌≡◌, ℕ, zero, suc, nat_lt, cond, lt-ltb, le-ltb, lt_of_not-le, append-nil, Option, Some, None, ◌^◌, ◌+◌, ◌*◌, ◌<◌, ◌≤◌, max, List, [], ◌∷◌, ◌++◌, length, drop, sym, ap, subst, refl, ◌∙◌, arith, Result, Ok, Err, IfOk, Vec}
use Rattle.fuse_wire.specs.Appends.{Filled}
use Rattle.std.specs.List.{All, flat_map, range_with_len}
use mathlib.Core.Logic.{dite}
use native.Mathlib.Decide.{dec_le}
use Rattle.std.proofs.lemmas.List.{length-map, map-append}
use Rattle.std.proofs.lemmas.List.FromFn.{length-range_with_len}
use Rattle.std.proofs.lemmas.List.Elements.{All-append, All-nil, All-weaker, filter-append}
use Rattle.std.proofs.lemmas.List.Sums.{sum_by-append}
use Rattle.std.proofs.lemmas.List.Sorted.{All-permutation, IsPermutation-map, sum_by-IsPermutation}
use Rattle.draw_board.specs.declared.board.Board.{Board}
use Rattle.draw_board.specs.declared.hand.Hand.{Hand}
use Rattle.draw_board.specs.Counter.{draw_answer}
use Rattle.draw_board.specs.Hands.{positions, seen_below, total_of}
use Rattle.draw_board.specs.Positions.{Unites, numbers, times}
use Rattle.draw_board.proofs.Numbers.{all_numbers, both_numbers}
use Rattle.reply_model.specs.Readings.{Sourced}
use Rattle.reply_model.specs.declared.moves.Move.{Move}
use Rattle.reply_model.specs.Moves.{balance}
use Rattle.reply_model.specs.Balances.{weight}
use Rattle.reply_rounds.specs.declared.pieces.Rounded.{Rounded}
use Rattle.reply_rounds.specs.declared.pieces.Piece.{Piece}
use Rattle.reply_rounds.specs.Batches.{AreEachOnce, AreLight, AreOrdered, IsJoined, IsPiece, batch_of, batches, numbers_of}
use Rattle.reply_rounds.specs.Jobs.{AreReplied, IsRounded, Job, moved_by}
use Rattle.reply_rounds.specs.Spread.{AnswerAll}
use Rattle.reply_rounds.specs.Sums.{AreSums}
use Rattle.reply_rounds.specs.Workers.{AreBoth, AreOf, AreWhole, HasAll, HasWorked, IsLast, WorksAlone, begins, gives, works, takes}
use Rattle.reply_rounds.proofs.Batched.{all_in, all_moved, reaches_end, weight_all}
use Rattle.reply_rounds.proofs.Each.{in_order, one}
use Rattle.reply_rounds.proofs.Told.{both_replied}

-- a number occurs in two lists as often as in the one and in the other
pub times-append : (x : ℕ) (xs ys : List ℕ) → times x (xs ++ ys) ≡ times x xs + times x ys
times-append x xs ys = sum_by-append (λ z. one z x) xs ys

-- all jobs, from the first batch on
all_jobs : (jobs : List Job) (size : ℕ) → drop (0 * size) jobs ≡ jobs
all_jobs jobs size = ap (λ (n : ℕ). drop n jobs) (let z : 0 * size ≡ 0 = omega arith in z)

all_reached : (jobs : List Job) (size : ℕ) → 1 ≤ size → length jobs ≤ (0 + batches size (length jobs)) * size
all_reached jobs size some =
    let e = ap (λ (n : ℕ). n * size) (let z : 0 + batches size (length jobs) ≡ batches size (length jobs) = omega arith in z) in
    let r = reaches_end (length jobs) size some in
    omega arith

-- how often a number occurs among those of two parts
numbers_told : (total x : ℕ) (xs ys : List ℕ) → times x (numbers total (xs ++ ys)) ≡ times x (numbers total xs) + times x (numbers total ys)
numbers_told total x xs ys = ap (times x) (filter-append (λ position. nat_lt position total) xs ys)
    ∙ times-append x (numbers total xs) (numbers total ys)

-- if one of two hands was in a call, the hand that they become knows what that one knew
seen_both : (a b n calls more : ℕ) (total : ℕ) → n ≡ max a b → (0 < calls → total ≤ a) → (0 < more → total ≤ b) → 0 < calls + more
    → total ≤ n
seen_both a b n zero more total e p q some = let h = q (omega arith) in omega arith
seen_both a b n (suc calls) more total e p q some = let h = p (omega arith) in omega arith

-- a number that is drawn is added to them, and a miss is not
numbers_hit : (total number : ℕ) (added : List ℕ) → number < total → numbers total (added ++ number ∷ []) ≡ numbers total added
    ++ number ∷ []
numbers_hit total number added is =
    filter-append (λ position. nat_lt position total) added (number ∷ []) ∙ ap (λ (xs : List ℕ). numbers total added ++ xs)
    (ap (λ b. cond b (number ∷ []) []) (lt-ltb number total is))

-- a position past the numbers adds no number
pub numbers_miss : (total position : ℕ) (added : List ℕ) → total ≤ position → numbers total (added ++ position ∷ []) ≡ numbers total added
numbers_miss total position added is =
    filter-append (λ position. nat_lt position total) added (position ∷ []) ∙ ap (λ (xs : List ℕ). numbers total added ++ xs)
    (ap (λ b. cond b (position ∷ []) []) (le-ltb position total is))
    ∙ append-nil (numbers total added)

-- a draw that answers nothing was at no number
pub unanswered : (total position : ℕ) (answer : Option ℕ) → answer ≡ None → answer ≡ draw_answer total position → total ≤ position
unanswered total position answer none is = dite (dec_le total position) (λ d. d) (λ d. let lt : position < total = lt_of_not-le d in
    let some : draw_answer total position ≡ Some position = ap (λ b. cond b (Some position) None) (lt-ltb position total lt) in
    absurd (cc))

-- a draw that answers a number was below the numbers' end
pub answered_below : (total position number : ℕ) → Some number ≡ draw_answer total position → position < total
answered_below total position number answered = dite (dec_le total position) (λ past.
    let none : draw_answer total position ≡ None = ap (λ b. cond b (Some position) None) (le-ltb position total past) in
    absurd (cc)) (λ d. lt_of_not-le d)

module _ {A : Type 0} where
  abbrev number : Piece A → ℕ
  number piece = piece.number

  -- how often a number occurs among pieces of two parts
  parts_told : (x : ℕ) (xs ys : List (Piece A)) → times x (numbers_of (xs ++ ys)) ≡ times x (numbers_of xs) + times x (numbers_of ys)
  parts_told x xs ys = ap (times x) (map-append number xs ys) ∙ times-append x (numbers_of xs) (numbers_of ys)

  -- pieces in another order have the same numbers
  order_told : (pieces ordered : List (Piece A)) → AreOrdered pieces ordered → (x : ℕ) → times x (numbers_of ordered)
      ≡ times x (numbers_of pieces)
  order_told pieces ordered o x = sum_by-IsPermutation (λ z. one z x) (numbers_of pieces) (numbers_of ordered)
      (IsPermutation-map number pieces ordered o.same)

  -- if each number below a count occurs once, the pieces in order have these numbers
  pub ordered_numbers : (pieces ordered : List (Piece A)) (n : ℕ) → ((x : ℕ) → times x (numbers_of pieces) ≡ times x (range_with_len 0 n))
      → AreOrdered pieces ordered → numbers_of ordered ≡ range_with_len 0 n
  ordered_numbers pieces ordered n once o = in_order number ordered 0 n o.rising (λ x. order_told pieces ordered o x ∙ once x)

  -- the piece of a number that was drawn is put after the others
  pub told_more : (total : ℕ) (added : List ℕ) (pieces all : List (Piece A)) (piece : Piece A) → piece.number < total
      → all ≡ pieces ++ piece ∷ []
      → numbers_of pieces ≡ numbers total added → numbers_of all ≡ numbers total (added ++ piece.number ∷ [])
  told_more total added pieces all piece is more told =
      ap numbers_of more ∙ map-append number pieces (piece ∷ []) ∙ ap (λ (xs : List ℕ). xs ++ piece.number ∷ []) told
      ∙ sym (numbers_hit total piece.number added is)

  -- a few light pieces are light together
  pub light_enough : (pieces ordered : List (Piece A)) → AreOrdered pieces ordered → AreEachOnce pieces → AreLight pieces
      → weight (flat_map (λ (p : Piece A). p.moves.items) ordered) ≤ 2 ^ 112
  light_enough pieces ordered o once light =
      let w = weight_all (λ (p : Piece A). p.moves.items) (2 ^ 104) ordered
      (All-permutation (λ (p : Piece A). weight p.moves.items ≤ 2 ^ 104) pieces ordered o.same light) in
      let l = length-map ordered number in
      let n = ap length (ordered_numbers pieces ordered once.count once.once o) in
      let r = length-range_with_len 0 once.count in
      let f = once.few in
      omega arith

  -- the bytes and the sums of ordered pieces are their join
  pub joins : {E : Type 0} (pieces ordered : List (Piece A)) (r : Result (Rounded A) E) → AreOrdered pieces ordered
      → IfOk r (λ rounded. rounded.bytes.items ≡ flat_map (λ (p : Piece A). p.bytes.items) ordered)
      → IfOk r (λ rounded. AreSums (flat_map (λ (p : Piece A). p.moves.items) ordered) rounded.moves.items)
      → IfOk r (λ rounded. IsJoined pieces rounded)
  joins pieces ordered (Err e) o bytes moves = tt
  joins pieces ordered (Ok rounded) o bytes moves = record { ordered = ordered; order = o; bytes = bytes; moves = moves }

  -- two lists of light pieces are light
  pub light_both : {E : Type 0} (r a b : Result (Vec (Piece A) A) E) → IfOk r (λ v. AreBoth a b v.items) → IfOk a (λ v. AreLight v.items)
      → IfOk b (λ v. AreLight v.items)
      → IfOk r (λ v. AreLight v.items)
  light_both (Err e) a b m p q = tt
  light_both (Ok v) (Err e) b m p q = absurd m
  light_both (Ok v) (Ok x) (Err e) m p q = absurd m
  light_both (Ok v) (Ok x) (Ok y) m p q =
      subst AreLight (sym m) (All-append (λ (p : Piece A). weight p.moves.items ≤ 2 ^ 104) x.items y.items p q)

  module _ (by : Sourced) (jobs : List Job) (size : ℕ) where
    -- the answer to a batch is a piece with its number
    pub piece_of : (rounded : Rounded A) (piece : Piece A) (js : List Job) → IsRounded by js rounded
        → js ≡ batch_of size piece.number jobs
        → piece.bytes ≡ rounded.bytes → piece.moves ≡ rounded.moves → IsPiece by jobs size piece
    piece_of rounded piece js told is bytes moves = record {
      replies = subst (λ (v : Filled). AreReplied by (batch_of size piece.number jobs) v.items) (sym bytes)
          (subst (λ (bs : List Job). AreReplied by bs rounded.bytes.items) is told.replies);
      sums = subst (λ (v : Vec Move A). AreSums (flat_map (moved_by by.stack) (batch_of size piece.number jobs)) v.items) (sym moves)
          (subst (λ (bs : List Job). AreSums (flat_map (moved_by by.stack) bs) rounded.moves.items) is told.sums);
    }

    -- the pieces in order move what all jobs move
    pub all_move : (pieces ordered : List (Piece A)) (node : ℕ) → 1 ≤ size → All (IsPiece by jobs size) pieces
        → ((x : ℕ) → times x (numbers_of pieces) ≡ times x (range_with_len 0 (batches size (length jobs)))) → AreOrdered pieces ordered
        → balance node (flat_map (λ (p : Piece A). p.moves.items) ordered) ≡ balance node (flat_map (moved_by by.stack) jobs)
    all_move pieces ordered node some each once o =
        all_moved number size jobs (λ (p : Piece A). p.moves.items) (moved_by by.stack) node ordered 0 (batches size (length jobs))
        (ordered_numbers pieces ordered (batches size (length jobs)) once o)
        (All-weaker (IsPiece by jobs size) _ (λ p is. is.sums.each node) ordered
        (All-permutation (IsPiece by jobs size) pieces ordered o.same each))
        (all_reached jobs size some) ∙ ap (λ (js : List Job). balance node (flat_map (moved_by by.stack) js)) (all_jobs jobs size)

    -- the pieces in order reply to all jobs, and move what these move
    pub whole : (pieces : List (Piece A)) → 1 ≤ size → All (IsPiece by jobs size) pieces
        → ((x : ℕ) → times x (numbers_of pieces) ≡ times x (range_with_len 0 (batches size (length jobs))))
        → AreWhole by jobs size pieces
    whole pieces some each once = record {
      once = once;
      replies = λ ordered o. (subst (λ (js : List Job). AreReplied by js (flat_map (λ (p : Piece A). p.bytes.items) ordered))
          (all_jobs jobs size)
          (all_in number size jobs (AreReplied by) refl (both_replied by) (λ (p : Piece A). p.bytes.items) ordered 0
          (batches size (length jobs))
          (ordered_numbers pieces ordered (batches size (length jobs)) once o)
          (All-weaker (IsPiece by jobs size) _ (λ p is. is.replies) ordered
          (All-permutation (IsPiece by jobs size) pieces ordered o.same each))
          (all_reached jobs size some)));
      moves = λ ordered o node. all_move pieces ordered node some each once o;
    }

    -- jobs without a batch need no piece
    pub no_batch : (pieces : List (Piece A)) → pieces ≡ [] → batches size (length jobs) ≡ 0 → AnswerAll by jobs size pieces
    no_batch pieces none no_number = subst (AnswerAll by jobs size) (sym none) (record {
      once = λ x. ap (λ (n : ℕ). times x (range_with_len 0 n)) (sym no_number);
      answered = All-nil (IsPiece by jobs size);
      light = All-nil (λ (p : Piece A). weight p.moves.items ≤ 2 ^ 104);
    })

    -- pieces that are put in order give the round of all jobs
    pub rounds : (pieces : List (Piece A)) (rounded : Rounded A) → 1 ≤ size → All (IsPiece by jobs size) pieces
        → ((x : ℕ) → times x (numbers_of pieces) ≡ times x (range_with_len 0 (batches size (length jobs)))) → IsJoined pieces rounded
        → IsRounded by jobs rounded
    rounds pieces rounded some each once joined = record {
      replies = subst (AreReplied by jobs) (sym joined.bytes) ((whole pieces some each once).replies joined.ordered joined.order);
      sums = record {
        ascending = joined.moves.ascending;
        each = λ node. (joined.moves.each node ∙ all_move pieces joined.ordered node some each once joined.order);
        none_zero = joined.moves.none_zero;
      };
    }

    module _ {B : Type 0} (board : Board B) where
      -- if a worker's hand had drawn nothing before, the worker has the pieces of its hand
      pub fresh_all : (old new : Hand) (pieces : List (Piece A)) → positions old ≡ [] → HasWorked by jobs size board old new pieces
          → HasAll by jobs size board new pieces
      fresh_all old new pieces fresh w = record {
        of_hand = record {
          told = λ x. ap (times x) (w.told ∙ ap (numbers (total_of board)) (sym (w.drawn ∙ ap (λ (ps : List ℕ). ps ++ w.added) fresh)));
          answered = w.answered;
        };
        every = w.every;
      }

      -- the pieces of two hands are those of the hand that they become
      pub both_of : (mine others new : Hand) (xs ys : List (Piece A)) → Unites (positions mine) (positions others) (positions new)
          → AreOf by jobs size board mine xs → AreOf by jobs size board others ys → AreOf by jobs size board new (xs ++ ys)
      both_of mine others new xs ys u a b = record {
        told = λ x. (let e = parts_told x xs ys in let f = a.told x in let g = b.told x in
            let h = both_numbers (total_of board) x (positions mine) (positions others) (positions new) u in omega arith);
        answered = All-append (IsPiece by jobs size) xs ys a.answered b.answered;
      }

      -- and if both have all theirs, it has all of its own
      pub both_all : {E : Type 0} (mine others new : Hand) (r a b : Result (Vec (Piece A) A) E) → Unites (positions mine) (positions others)
          (positions new)
          → seen_below new ≡ max (seen_below mine) (seen_below others) → IfOk r (λ v. AreBoth a b v.items)
          → IfOk a (λ v. HasAll by jobs size board mine v.items) → IfOk b (λ v. HasAll by jobs size board others v.items)
          → IfOk r (λ v. HasAll by jobs size board new v.items)
      both_all mine others new (Err e) a b u s m p q = tt
      both_all mine others new (Ok v) (Err e) b u s m p q = absurd m
      both_all mine others new (Ok v) (Ok x) (Err e) u s m p q = absurd m
      both_all mine others new (Ok v) (Ok x) (Ok y) u s m p q = subst (HasAll by jobs size board new) (sym m) (record {
        of_hand = both_of mine others new x.items y.items u p.of_hand q.of_hand;
        every = (let e = p.every in omega arith);
      })

      -- a hand that works alone has its pieces, and knows that all were drawn, if there was a call
      pub alone : {hand : Hand} {pieces : List (Piece A)} {calls : ℕ} → WorksAlone by jobs size board hand pieces calls
          → AreOf by jobs size board hand pieces × (0 < calls → total_of board ≤ seen_below hand)
      alone (begins {hand = hand} fresh) = (
        record {
          told = λ x. ap (λ (ps : List ℕ). times x (numbers (total_of board) ps)) (sym fresh);
          answered = All-nil (IsPiece by jobs size);
        },
        λ none. absurd (omega arith),
      )
      alone (gives {pieces = pieces} w m) = let h = alone w in (
        record {
          told = λ x. (h.0.told x ∙ ap (λ (ps : List ℕ). times x (numbers (total_of board) ps)) (sym m.giver_positions));
          answered = h.0.answered;
        },
        λ some. (let s = h.1 some in let e = m.giver_seen in omega arith),
      )
      alone (works {old = old} {pieces = pieces} {more = more} w d) = let h = alone w in (
        record {
          told = λ x. (let e = parts_told x pieces more in let f = h.0.told x in let g = ap (times x) d.told in
              let i = ap (λ (ps : List ℕ). times x (numbers (total_of board) ps)) d.drawn in
              let j = numbers_told (total_of board) x (positions old) d.added in omega arith);
          answered = All-append (IsPiece by jobs size) pieces more h.0.answered d.answered;
        },
        λ some. d.every,
      )
      alone (takes {old = old} {other = other} {new = new} {mine = mine} {others = others} {calls = calls} {more = more} v w u t) = let g =
          alone v in let h = alone w in (
            both_of old other new mine others u g.0 h.0,
            seen_both (seen_below old) (seen_below other) (seen_below new) calls more (total_of board) t.seen g.1 h.1,
          )

      -- once the last hand is closed each number occurs once
      pub closed : (hand : Hand) (pieces : List (Piece A)) (draws : ℕ) → AreOf by jobs size board hand pieces
          → total_of board ≤ seen_below hand
          → IsLast hand draws → (x : ℕ) → times x (numbers_of pieces) ≡ times x (range_with_len 0 (total_of board))
      closed hand pieces draws are every last x =
          are.told x ∙ ap (λ (ps : List ℕ). times x (numbers (total_of board) ps)) last.positions
          ∙ ap (times x) (all_numbers (total_of board) draws (let s = last.seen in omega arith))

      -- and each batch is answered once
      pub every_batch : {E : Type 0} (r : Result (Vec (Piece A) A) E) (hand : Hand) (draws : ℕ)
          → total_of board ≡ batches size (length jobs)
          → IfOk r (λ v. HasAll by jobs size board hand v.items) → IfOk r (λ v. AreLight v.items) → IsLast hand draws
          → IfOk r (λ v. AnswerAll by jobs size v.items)
      every_batch (Err e) hand draws same all light last = tt
      every_batch (Ok v) hand draws same all light last = record {
        once = λ x. (closed hand v.items draws all.of_hand all.every last x ∙ ap (λ (n : ℕ). times x (range_with_len 0 n)) same);
        answered = all.of_hand.answered;
        light = light;
      }
