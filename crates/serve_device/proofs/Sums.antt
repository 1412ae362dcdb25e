-- What readers moved together. The sums of what messages move one by one do not depend on their order (`total_shuffled`); in a session that
-- no message changes a stream moves exactly that (`kept`).
use Rattle.std.proofs.Common.{◌≡◌, ◌∙◌, sym, ap, subst, refl, ℕ, suc, ◌+◌, ◌<◌, ℤ, pos, negsuc, ◌+ℤ◌, ◌-ℤ◌, List, [], ◌∷◌, ◌++◌, map, flat_map, sum_by, IsPermutation, Some, Result, Ok, Err, arith}
use Rattle.std.specs.List.{AllByRecursion, AllZip}
use Rattle.std.proofs.lemmas.Int.{ints}
use Rattle.std.proofs.lemmas.List.Elements.{All-from_recursion, recursion_from_All}
use Rattle.std.proofs.lemmas.List.Sorted.{All-permutation, IsPermutation-sym, sum_by-IsPermutation}
use Rattle.std.proofs.lemmas.List.Sums.{sum_by-cons}
use Rattle.fuse_wire.specs.Requests.{asked}
use Rattle.reply_model.proofs.Sums.{balance_append}
use Rattle.reply_model.specs.declared.session.Session.{Session}
use Rattle.reply_model.specs.Sessions.{session_after}
use Rattle.reply_model.specs.Moves.{balance}
use Rattle.reply_model.specs.Streams.{moves_by}
use Rattle.reply_model.specs.Readings.{Sourced}
use Rattle.reply_pool.specs.Answers.{answering_from}
use Rattle.serve_loop.specs.declared.done.Done.{Done}
use Rattle.serve_loop.specs.Rounds.{Answering}
use Rattle.serve_loop.specs.Serving.{moves_of}
use Rattle.serve_loop.specs.declared.stream_fault.StreamFault.{StreamFault}
use Rattle.serve_core.specs.Headline.{Bounds, IsRunWithin}
use Rattle.serve_loop.specs.Serving.{Does, Trace}
use Rattle.serve_device.specs.Ends.{done_of}
use Rattle.serve_device.specs.Readers.{HasServed}
use Rattle.serve_device.specs.Seats.{SeatState, devices_of, done_of_all}
use Rattle.serve_device.specs.Laws.{CameOf, HaveMessages, IsAnswered, KeepsSession, moved_at, sum_at}

-- what a number has above 0, and below
abbrev above : ℤ → ℕ
above (pos n) = n
above (negsuc n) = 0

abbrev below : ℤ → ℕ
below (pos n) = 0
below (negsuc n) = suc n

parted : (z : ℤ) → z ≡ pos (above z) -ℤ pos (below z)
parted (pos n) = omega (arith, ints)
parted (negsuc n) = omega (arith, ints)

module _ (by : Answering) (node : ℕ) where
  -- what a message moves of the node, in the session that streams begin in
  abbrev moved : List ℕ → ℤ
  moved m = balance node (by.moved by.first (asked m))

  -- and what messages do, one by one
  abbrev total : List (List ℕ) → ℤ
  total ms = pos (sum_by (λ m. above (moved m)) ms) -ℤ pos (sum_by (λ m. below (moved m)) ms)

  total_cons : (m : List ℕ) (ms : List (List ℕ)) → total (m ∷ ms) ≡ moved m +ℤ total ms
  total_cons m ms =
      let a = sum_by-cons (λ m. above (moved m)) m ms in
      let b = sum_by-cons (λ m. below (moved m)) m ms in
      let c = parted (moved m) in
      omega (arith, ints)

  total_append : (xs ys : List (List ℕ)) → total (xs ++ ys) ≡ total xs +ℤ total ys
  total_append [] ys = omega (arith, ints)
  total_append (x ∷ xs) ys =
      let a = total_cons x (xs ++ ys) in let b = total_cons x xs in let c = total_append xs ys in omega (arith, ints)

  total_shuffled : (xs ys : List (List ℕ)) → IsPermutation xs ys → total ys ≡ total xs
  total_shuffled xs ys p =
      let a = sum_by-IsPermutation (λ m. above (moved m)) xs ys p in
      let b = sum_by-IsPermutation (λ m. below (moved m)) xs ys p in
      omega (arith, ints)

  -- in a session that no message changes a stream moves what its messages do
  kept : (s : Session) (ms : List (List ℕ)) → s ≡ by.first → KeepsSession by.first ms
      → balance node (moves_by by.moved s (map asked ms)) ≡ total ms
  kept s [] e k = omega (arith, ints)
  kept s (m ∷ ms) e k =
      let q = asked m in
      let after : session_after s q.op ≡ by.first = ap (λ t. session_after t q.op) e ∙ k.0 in
      let a = balance_append node (by.moved s q) (moves_by by.moved (session_after s q.op) (map asked ms)) in
      let b = kept (session_after s q.op) ms after k.1 in
      let c = ap (λ t. balance node (by.moved t q)) e in
      let d = total_cons m ms in
      omega (arith, ints)

  -- parts move together what their messages move one by one
  parts_sum : (parts : List (List (List ℕ))) → AllByRecursion (KeepsSession by.first) parts
      → moved_at by node parts ≡ total (flat_map (λ part. part) parts)
  parts_sum [] k = omega (arith, ints)
  parts_sum (messages ∷ others) k =
      let a = kept by.first messages refl k.0 in
      let b = parts_sum others k.1 in
      let c = total_append messages (flat_map (λ part. part) others) in
      omega (arith, ints)

parts_keep : (s : Session) (parts : List (List (List ℕ))) → KeepsSession s (flat_map (λ part. part) parts)
    → AllByRecursion (KeepsSession s) parts
parts_keep s [] k = tt
parts_keep s (part ∷ parts) k = let both = apart part k in (both.0, parts_keep s parts both.1)
  where
    apart : (part : List (List ℕ)) → KeepsSession s (part ++ flat_map (λ part. part) parts)
        → KeepsSession s part × KeepsSession s (flat_map (λ part. part) parts)
    apart [] k = (tt, k)
    apart (m ∷ part) k = let rest = apart part k.1 in ((k.0, rest.0), rest.1)

-- what they move is what one stream of all messages moves, in any order
pub together : (by : Answering) (parts : List (List (List ℕ))) (all : List (List ℕ))
    → IsPermutation (flat_map (λ part. part) parts) all → KeepsSession by.first all → (node : ℕ)
    → moved_at by node parts ≡ balance node (moves_of by all)
together by parts all p k node =
    let P : List ℕ → Type 0 = λ m. session_after by.first (asked m).op ≡ by.first in
    let joined = flat_map (λ part. part) parts in
    let keep = recursion_from_All P joined (All-permutation P all joined (IsPermutation-sym joined all p) (All-from_recursion P all k)) in
    let a = parts_sum by node parts (parts_keep by.first parts keep) in
    let b = kept by node by.first all refl k in
    let d = total_shuffled by node joined all p in
    omega (arith, ints)

-- streams that count a node's lookups leave what their messages move of it
pub counted : {A : Type 0} (by : Answering) (nodes : ℕ) (done : List (Done A)) (parts : List (List (List ℕ)))
    → CameOf by nodes done parts → (place : ℕ) → place < nodes → sum_at place done ≡ moved_at by (place + 1) parts
counted by nodes [] [] c place there = refl
counted by nodes [] (messages ∷ others) c place there = absurd c
counted by nodes (done ∷ more) [] c place there = absurd c
counted by nodes (done ∷ more) (messages ∷ others) c place there =
    let a = c.0.each place there in
    let b = counted by nodes more others c.1 place there in
    omega (arith, ints)

-- the stream of a reader that ended left what its messages moved
module _ {A : Type 0} (session : Session) (over : Sourced) (within : Bounds) where
  came_one : (t : Trace) (result : Result (Done A) StreamFault) → IsRunWithin session over within t result
      → (parts : List (List (List ℕ))) × CameOf (answering_from session over) within.counted (done_of (Some result)) parts
  came_one t (Ok done) run = (run.messages ∷ [], (run.served.balanced, tt))
  came_one t (Err fault) run = ([], tt)

  came_append : (xs ys : List (Done A)) (ps qs : List (List (List ℕ)))
      → CameOf (answering_from session over) within.counted xs ps
      → CameOf (answering_from session over) within.counted ys qs
      → CameOf (answering_from session over) within.counted (xs ++ ys) (ps ++ qs)
  came_append [] ys [] qs c d = d
  came_append [] ys (p ∷ ps) qs c d = absurd c
  came_append (x ∷ xs) ys [] qs c d = absurd c
  came_append (x ∷ xs) ys (p ∷ ps) qs c d = (c.0, came_append xs ys ps qs c.1 d)

  came_of : (old new : SeatState A) → HasServed session over within old new
      → (parts : List (List (List ℕ))) × CameOf (answering_from session over) within.counted (done_of new.result) parts
  came_of old new s =
      let (got, put, took, held, run) = s.does.run in
      subst (λ r. (parts : List (List (List ℕ))) × CameOf (answering_from session over) within.counted (done_of r) parts)
      (sym s.result_is) (came_one _ s.result run)

  pub came : (old new : List (SeatState A)) → AllZip (HasServed session over within) old new
      → (parts : List (List (List ℕ)))
      × CameOf (answering_from session over) within.counted (done_of_all new) parts
  came [] [] each = ([], tt)
  came [] (n ∷ new) each = absurd each
  came (o ∷ old) [] each = absurd each
  came (o ∷ old) (n ∷ new) each =
      let (ps, c) = came_of o n each.0 in
      let (qs, d) = came old new each.1 in
      (ps ++ qs, came_append (done_of n.result) (done_of_all new) ps qs c d)

  -- the messages of readers are those of their runs
  read_of : (old new : SeatState A) → HasServed session over within old new
      → (messages : List (List ℕ)) × Does (IsAnswered (answering_from session over) messages) (devices_of old) (devices_of new)
  read_of old new s =
      let (got, put, took, held, r) = s.does.run in
      (r.messages, (got, put, took, held, record { rest = r.rest; split = r.split; begun = r.begun }))

  pub read : (old new : List (SeatState A)) → AllZip (HasServed session over within) old new
      → (parts : List (List (List ℕ))) × HaveMessages (answering_from session over) old new parts
  read [] [] each = ([], tt)
  read [] (n ∷ new) each = absurd each
  read (o ∷ old) [] each = absurd each
  read (o ∷ old) (n ∷ new) each =
      let (messages, one) = read_of o n each.0 in
      let (parts, more) = read old new each.1 in
      (messages ∷ parts, (one, more))

-- those of messages alone, for the goals of the law
pub ruleset summed = (together, counted)
