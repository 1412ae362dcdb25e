-- What a trace keeps, turn by turn: `IsRunning` is what holds before each turn, `IsFed` what holds after a pull that gave bytes. Before
-- them, lists and how much of them is flushed; after them, what a pull counts, and the state with which serving begins.
use Rattle.std.proofs.Common.{unsigned_abs, lit≤, ◌≡◌, ◌∙◌, sym, ap, subst, ℕ, zero, suc, ◌+◌, ◌-◌, ◌*◌, ◌^◌, ◌<◌, ◌≤◌, ◌==◌, inl, inr, ℤ, pos, Bool, true, false, List, [], ◌∷◌, ◌++◌, length, take, replicate, min, refl, arith, length-append, append-nil, length-take, Ok, Err, Some, cond, if◌then◌else◌}
use Rattle.std.proofs.Math.Dec.{eqb-suc-zero}
use Rattle.std.proofs.lemmas.List.{take_at}
use Rattle.std.proofs.lemmas.Int.{ints}
use Rattle.devices.specs.declared.limits.TheConstants.{PULL_SIZE}
use Rattle.fuse_wire.specs.Stream.{IsUnfinished, IsOpen, IsSplit}
use Rattle.reply_model.specs.declared.session.Session.{Session}
use Rattle.devices.specs.declared.failed.Failed.{Failed}
use Rattle.devices.specs.declared.counts.LastPull.TheVariants.{Bytes, End, Failure}
use Rattle.devices.specs.declared.counts.Pulls.{Pulls}
use Rattle.devices.specs.declared.counts.Pushes.{Pushes}
use Rattle.devices.specs.Counting.{pulled}
use Rattle.devices.specs.Pushing.{HasFlushed}
use Rattle.reply_model.specs.Balances.{balance_at, IsMoved}
use Rattle.reply_model.specs.declared.moves.Move.{Move}
use Rattle.serve_loop.specs.Rounds.{Answering}
use Rattle.serve_loop.specs.Serving.{Trace, all_but, before, flushed_bytes, Begins, AreBalances, IsPrompt}
use Rattle.serve_loop.specs.Steps.{ServingState, IsSmall, Goes}

begins_take : (xs ys : List ℕ) (n : ℕ) → length xs ≤ n → Begins xs (take n (xs ++ ys))
begins_take [] ys n h = record { more = take n ys; is = refl }
begins_take (x ∷ xs) ys zero h = absurd (omega arith)
begins_take (x ∷ xs) ys (suc n) h = let b = begins_take xs ys n (omega arith) in record { more = b.more; is = ap (λ l. x ∷ l) b.is }

-- the first bytes of an empty list are all of it
pub take_none : (n : ℕ) (xs : List ℕ) → xs ≡ [] → take n xs ≡ xs
take_none zero [] e = refl
take_none (suc n) [] e = refl
take_none n (x ∷ xs) e = cc

-- all bytes but the last 0 are all bytes
pub take_whole : (xs : List ℕ) → take (length xs - 0) xs ≡ xs
take_whole xs = ap (λ n. take n xs) (let e : length xs - 0 ≡ length xs = omega arith in e) ∙ sym (ap (take (length xs)) (append-nil xs))
    ∙ take_at xs [] (length xs) refl

-- all bytes but those that were appended are those before
pub all_but_last : (got x : List ℕ) → all_but (length x) (got ++ x) ≡ got
all_but_last got x = take_at got x _ (let l = length-append got x in omega arith)

-- if all was flushed, it stays a prefix of what is flushed as more is put
pub flushed_late : (put more : List ℕ) (u v : ℕ) → all_but u put ≡ put → v ≤ u + length more → Begins put (all_but v (put ++ more))
flushed_late [] more u v e h = record { more = all_but v more; is = refl }
flushed_late (p ∷ put) more u v e h =
    let l : length (all_but u (p ∷ put)) ≡ length (p ∷ put) = ap length e in
    let k = length-take (length (p ∷ put) - u) (p ∷ put) in
    let z : u ≡ 0 = omega (arith, l, k) in
    let w = length-append (p ∷ put) more in
    begins_take (p ∷ put) more _ (omega (arith, w, z, h))

-- if all that was put is flushed, and so is what is put then, all is flushed
pub flushed_more : (p q : Pushes) (put more : List ℕ) → all_but p.unflushed put ≡ put → HasFlushed more p q
    → all_but q.unflushed (put ++ more) ≡ put ++ more
flushed_more p q put more e s = elim s.flushed [
  | inl x ↦ (let j : put ++ more ≡ put = ap (λ l. put ++ l) x.0 ∙ append-nil put in
      subst (λ l. all_but q.unflushed l ≡ l) (sym j) (ap (λ u. all_but u put) x.1 ∙ e))
  | inr z ↦ ap (λ u. all_but u (put ++ more)) z ∙ take_whole (put ++ more)
]

-- a list is a prefix of itself
pub all_begun : (put whole : List ℕ) → put ≡ whole → Begins put whole
all_begun put whole e = record { more = []; is = sym e ∙ sym (append-nil put) }

-- a list of length 0 is empty
pub no_bytes : (xs : List ℕ) → length xs ≡ 0 → xs ≡ []
no_bytes [] e = refl
no_bytes (x ∷ xs) e = absurd (omega arith)

-- an open rest that is not empty is an unfinished message
pub unfinished : (s : List ℕ) → IsOpen s → (s ≡ [] → ⊥) → IsUnfinished s
unfinished s o n = elim o [ inl e ↦ absurd (n e) | inr u ↦ u ]

-- a number and 0 more are that number
pub zero_more : (n : ℕ) → n ≡ n + 0
zero_more n = omega arith

-- nothing is answered yet of these bytes, in this session, to this many nodes
abbrev pub start : Session → ℕ → List ℕ → ServingState
start first nodes got = record { rest = got; session = first; at = 0; messages = 0; written = 0; balances = replicate nodes (pos 0) }

-- nothing was got or put, and the counts are as they were
abbrev pub untouched : Pulls → Pushes → Trace
untouched p q = record { got = []; put = []; source_before = p; source = p; sink_before = q; sink = q }

-- the same call after one more pull, which gave these bytes
abbrev pub pulled_on : Trace → Pulls → List ℕ → Trace
pulled_on t new x = record t { got = t.got ++ x; source = new }

-- the same call after these bytes were put
abbrev pub pushed_on : Trace → Pushes → List ℕ → Trace
pushed_on t new more = record t { put = t.put ++ more; sink = new }

zero_at : (nodes i : ℕ) → balance_at (replicate nodes (pos 0)) i ≡ pos 0
zero_at zero i = refl
zero_at (suc n) zero = refl
zero_at (suc n) (suc i) = zero_at n i

length_zeros : (nodes : ℕ) → length (replicate nodes (pos 0)) ≡ nodes
length_zeros zero = refl
length_zeros (suc n) = ap suc (length_zeros n)

-- balances that were 0 are, after moves, the sums of the moves
pub from_nothing : (nodes : ℕ) (moves : List Move) (new : List ℤ) → IsMoved moves (replicate nodes (pos 0)) new
    → AreBalances moves nodes new
from_nothing nodes moves new m = record {
  same = m.same ∙ length_zeros nodes;
  each = λ i h. (let l = length_zeros nodes in let e = m.each i (omega arith) in let z = zero_at nodes i in omega (arith, ints));
}

-- the counts of the source were low before the call, so they can rise
pub record IsLow (t : Trace) : Type 0 where
  pub pulls : t.source_before.pulls < 2 ^ 63
  pub ends : t.source_before.ends < 2 ^ 63
  pub failures : t.source_before.failures < 2 ^ 63

-- before a turn: everything complete was answered, and what is left is good
pub record IsRunning (by : Answering) (nodes turn : ℕ) (t : Trace) (v : ServingState) (ms : List (List ℕ)) : Type 0 where
  pub goes : Goes by (start by.first nodes t.got) v ms t.put
  pub good : IsOpen v.rest
  pub size : length t.got ≤ PULL_SIZE * turn
  pub flushed_all : flushed_bytes t ≡ t.put
  pub prompt : IsPrompt by t
  pub pulls : t.source.pulls ≡ t.source_before.pulls + turn
  pub ends : t.source.ends ≡ t.source_before.ends
  pub read : t.source.failures ≡ t.source_before.failures
  pub write : t.sink.failures ≡ t.sink_before.failures

-- after a pull that gave bytes
pub record IsFed (by : Answering) (nodes turn : ℕ) (t : Trace) (v : ServingState) (ms : List (List ℕ)) : Type 0 where
  pub goes : Goes by (start by.first nodes t.got) v ms t.put
  pub size : length t.got ≤ PULL_SIZE * (turn + 1)
  pub flushed_all : flushed_bytes t ≡ t.put
  pub earlier : List ℕ
  pub split : IsSplit (before t) ms earlier
  pub good : IsOpen earlier
  pub pulls : t.source.pulls ≡ t.source_before.pulls + (turn + 1)
  pub ends : t.source.ends ≡ t.source_before.ends
  pub read : t.source.failures ≡ t.source_before.failures
  pub write : t.sink.failures ≡ t.sink_before.failures

-- a count that is not too high
rises : (n : ℕ) → n < 2 ^ 63 + 2 ^ 41 → min (n + 1) (2 ^ 64 - 1) ≡ n + 1
rises n h = omega arith

not_zero : {X : Type 0} (n : ℕ) (x y : X) → (n ≡ 0 → ⊥) → (if n == 0 then x else y) ≡ y
not_zero zero x y h = absurd (h refl)
not_zero (suc n) x y h = ap (λ b. cond b x y) (eqb-suc-zero n)

-- what a pull counts
module _ (old new : Pulls) (low : old.pulls < 2 ^ 63 + 2 ^ 41) (few_ends : old.ends < 2 ^ 63) (few_failures : old.failures < 2 ^ 63) where
  -- a pull that gave bytes counts as a pull, and as no end and no failure
  pub some_counted : (n : ℕ) → new ≡ pulled old (Ok n) → (n ≡ 0 → ⊥) → (new.pulls ≡ old.pulls + 1) × (new.ends ≡ old.ends)
      × (new.failures ≡ old.failures) × (new.last ≡ Some (Bytes n))
  some_counted n e z = (
    ap (λ p. p.pulls) e ∙ rises old.pulls low,
    ap (λ p. p.ends) e ∙ not_zero n _ _ z,
    ap (λ p. p.failures) e,
    ap (λ p. p.last) e ∙ not_zero n _ _ z,
  )

  -- a pull that met the end counts as a pull and an end
  pub end_counted : (n : ℕ) → new ≡ pulled old (Ok n) → n ≡ 0 → (new.pulls ≡ old.pulls + 1) × (new.ends ≡ old.ends + 1)
      × (new.failures ≡ old.failures) × (new.last ≡ Some End)
  end_counted n e z =
      let f : new ≡ pulled old (Ok 0) = e ∙ ap (λ k. pulled old (Ok k)) z in (
        ap (λ p. p.pulls) f ∙ rises old.pulls low,
        ap (λ p. p.ends) f ∙ rises old.ends (omega arith),
        ap (λ p. p.failures) f,
        ap (λ p. p.last) f,
      )

  -- a pull that failed counts as a pull and a failure
  pub failure_counted : (failed : Failed) → new ≡ pulled old (Err failed) → (new.pulls ≡ old.pulls + 1) × (new.ends ≡ old.ends)
      × (new.failures ≡ old.failures + 1) × (new.last ≡ Some Failure)
  failure_counted failed e = (
    ap (λ p. p.pulls) e ∙ rises old.pulls low,
    ap (λ p. p.ends) e,
    ap (λ p. p.failures) e
        ∙ rises old.failures (omega arith),
    ap (λ p. p.last) e,
  )

-- the counts that serving begins with are small
pub small_first : (first : Session) (nodes : ℕ) → IsSmall nodes (start first nodes [])
small_first first nodes = record {
  place = lit≤ tt;
  count = omega arith;
  bytes = omega arith;
  nodes_are = length_zeros nodes;
  balanced = record { each = λ i h. (let e = ap unsigned_abs (zero_at nodes i) in omega arith) };
}

-- if the code sees its buffer empty, nothing is left
pub none_left : (seen held left x : List ℕ) (b : Bool) → b ≡ (length seen == 0) → b ≡ true → seen ≡ held → held ≡ left ++ x → left ≡ []
none_left (y ∷ seen) held left x b e f g h = absurd (grind arith)
none_left [] held [] x b e f g h = refl
none_left [] held (y ∷ left) x b e f g h = cc

-- if the code sees bytes in its buffer after a pull that gave none, something is left
pub some_left : (seen held left x : List ℕ) (b : Bool) → b ≡ (length seen == 0) → b ≡ false → seen ≡ held → held ≡ left ++ x → length x ≡ 0
    → left ≡ [] → ⊥
some_left [] held left x b e f g h l n = cc
some_left (y ∷ seen) held left x b e f g h l n = (
    let k : length (y ∷ seen) ≡ length left + length x = ap length (g ∙ h) ∙ length-append left x in
    let z = ap length n in
    omega arith)
