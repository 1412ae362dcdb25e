-- The last answer of a device, from the result of a push or a pull.
use Rattle.std.proofs.Common.{◌≡◌, ◌==◌, ◌∙◌, ◌+◌, ◌^◌, ◌<◌, ◌≤◌, sym, ap, subst, eqb-true, length-take-le, arith, refl, ℕ, ℤ, pos, negsuc, Bool, true, false, if◌then◌else◌, ◌⊎◌, inl, inr, List, Option, Some, None, Result, Ok, Err}
use Rattle.devices.specs.Counting.{held_sum, up}
use Rattle.devices.specs.declared.failed.Failed.{Failed}
use Rattle.serve_device.specs.declared.answer.Answer.{Answer}
use Rattle.serve_device.specs.declared.answer.Answer.TheVariants.{Bytes, Failure}
use Rattle.serve_device.specs.declared.trouble.Trouble.{Trouble}
use Rattle.serve_device.specs.declared.trouble.Trouble.TheVariants.{Again, Unwanted, Gone, Fault}
use Rattle.serve_device.specs.Answers.{as_failed, asks_again, is_again}
use Rattle.serve_device.specs.FirstReply.{BeginsReply, PutsReply, Writes, after_trouble, after_write}
use Rattle.serve_device.specs.Reads.{HasGivenUp, PullsMessage, ReaderState, after_read, settled_after, spent_trouble}
use Rattle.serve_device.specs.Troubles.{gone_after, read_trouble, write_trouble}
use Rattle.serve_device.specs.Writes.{WriterState}

-- only ENOENT says that no request waits for a reply
unwanted_at : (n : ℕ) (two nineteen : Bool) → (n == 2) ≡ two
    → (if two then Unwanted else (if nineteen then Gone else Fault)) ≡ Unwanted → n ≡ 2
unwanted_at n true b e u = eqb-true n 2 e
unwanted_at n false true e u = absurd (cc)
unwanted_at n false false e u = absurd (cc)

unwanted : (number : Option ℤ) → write_trouble number ≡ Unwanted → number ≡ Some (pos 2)
unwanted (Some (pos n)) u = ap (λ k. Some (pos k)) (unwanted_at n (n == 2) (n == 19) refl u)
unwanted (Some (negsuc n)) u = absurd (cc)
unwanted None u = absurd (cc)

-- only ENODEV from a write means an unmount
gone_write_at : (n : ℕ) (two nineteen : Bool) → (n == 19) ≡ nineteen
    → (if two then Unwanted else (if nineteen then Gone else Fault)) ≡ Gone → n ≡ 19
gone_write_at n true b e u = absurd (cc)
gone_write_at n false true e u = eqb-true n 19 e
gone_write_at n false false e u = absurd (cc)

gone_write : (number : Option ℤ) → write_trouble number ≡ Gone → number ≡ Some (pos 19)
gone_write (Some (pos n)) u = ap (λ k. Some (pos k)) (gone_write_at n (n == 2) (n == 19) refl u)
gone_write (Some (negsuc n)) u = absurd (cc)
gone_write None u = absurd (cc)

-- and from a read
gone_read_at : (n : ℕ) (two four eleven aborted nineteen : Bool) → (n == 19) ≡ nineteen
    → (if two then Again else (if four then Again else (if eleven then Again
    else (if aborted then Again else (if nineteen then Gone else Fault))))) ≡ Gone → n ≡ 19
gone_read_at n true b c d f e u = absurd (cc)
gone_read_at n false true c d f e u = absurd (cc)
gone_read_at n false false true d f e u = absurd (cc)
gone_read_at n false false false true f e u = absurd (cc)
gone_read_at n false false false false true e u = eqb-true n 19 e
gone_read_at n false false false false false e u = absurd (cc)

gone_read : (number : Option ℤ) → read_trouble number ≡ Gone → number ≡ Some (pos 19)
gone_read (Some (pos n)) u =
    ap (λ k. Some (pos k)) (gone_read_at n (n == 2) (n == 4) (n == 11) (n == 103) (n == 19) refl u)
gone_read (Some (negsuc n)) u = absurd (cc)
gone_read None u = absurd (cc)

-- a device that was not gone is gone only after this outcome
made_gone : (outcome : Result ℕ Trouble) → true ≡ gone_after false outcome → outcome ≡ Err Gone
made_gone (Ok n) e = absurd (cc)
made_gone (Err Again) e = absurd (cc)
made_gone (Err Unwanted) e = absurd (cc)
made_gone (Err Gone) e = refl
made_gone (Err Fault) e = absurd (cc)

-- ---- pushes

done_by : (n len : ℕ) (answer : Answer) (outcome : Result ℕ Trouble) → outcome ≡ after_write len answer → Ok n ≡ as_failed outcome
    → (answer ≡ Bytes n) ⊎ (answer ≡ Failure (Some (pos 2)))
done_by n len (Bytes taken) (Ok m) e r = inl (cc)
done_by n len (Bytes taken) (Err trouble) e r = absurd (cc)
done_by n len (Failure number) outcome e r = inr (ap Failure (unwanted number (by_trouble (write_trouble number) outcome e r)))
  where
    by_trouble : (trouble : Trouble) (outcome : Result ℕ Trouble) → outcome ≡ after_trouble len trouble → Ok n ≡ as_failed outcome
        → trouble ≡ Unwanted
    by_trouble Unwanted outcome e r = refl
    by_trouble Again (Ok m) e r = absurd (cc)
    by_trouble Again (Err t) e r = absurd (cc)
    by_trouble Gone (Ok m) e r = absurd (cc)
    by_trouble Gone (Err t) e r = absurd (cc)
    by_trouble Fault (Ok m) e r = absurd (cc)
    by_trouble Fault (Err t) e r = absurd (cc)

-- a push that succeeded wrote the whole reply, and the write took this much or returned ENOENT
pub done_push : (bytes : List ℕ) (n : ℕ) (old new : WriterState) (was is : Bool) → PutsReply bytes (Ok n) old new was is
    → (new.writes ≡ up old.writes) × BeginsReply bytes new.offered
    × ((new.last ≡ Some (Bytes n)) ⊎ (new.last ≡ Some (Failure (Some (pos 2)))))
done_push bytes n old new was is p = go p.writes
  where
    go : Writes bytes p.outcome old new
        → (new.writes ≡ up old.writes) × BeginsReply bytes new.offered
        × ((new.last ≡ Some (Bytes n)) ⊎ (new.last ≡ Some (Failure (Some (pos 2)))))
    go (inl w) = (w.wrote.counted, whole, last_by (done_by n w.n w.answer p.outcome w.outcome_is p.result_is))
      where
        whole : BeginsReply bytes new.offered
        whole = subst (λ k. BeginsReply bytes k) (sym (w.wrote.offered ∙ length-take-le w.n bytes w.begins.whole)) w.begins

        last_by : (w.answer ≡ Bytes n) ⊎ (w.answer ≡ Failure (Some (pos 2)))
            → (new.last ≡ Some (Bytes n)) ⊎ (new.last ≡ Some (Failure (Some (pos 2))))
        last_by (inl e) = inl (w.wrote.last ∙ ap Some e)
        last_by (inr e) = inr (w.wrote.last ∙ ap Some e)
    go (inr w) = absurd (never (p.result_is ∙ ap as_failed w.outcome_is))
      where
        never : Ok n ≡ as_failed (Err Fault) → ⊥
        never e = cc

gone_by : (len : ℕ) (answer : Answer) → after_write len answer ≡ Err Gone → answer ≡ Failure (Some (pos 19))
gone_by len (Bytes taken) e = absurd (cc)
gone_by len (Failure number) e = ap Failure (gone_write number (by_trouble (write_trouble number) e))
  where
    by_trouble : (trouble : Trouble) → after_trouble len trouble ≡ Err Gone → trouble ≡ Gone
    by_trouble Unwanted e = absurd (cc)
    by_trouble Again e = absurd (cc)
    by_trouble Gone e = refl
    by_trouble Fault e = absurd (cc)

-- if a push leaves a sink gone, its write returned ENODEV
pub gone_push : (bytes : List ℕ) (result : Result ℕ Failed) (old new : WriterState) → PutsReply bytes result old new false true
    → new.last ≡ Some (Failure (Some (pos 19)))
gone_push bytes result old new p = go p.writes
  where
    gone : p.outcome ≡ Err Gone
    gone = made_gone p.outcome p.gone

    go : Writes bytes p.outcome old new → new.last ≡ Some (Failure (Some (pos 19)))
    go (inl w) = w.wrote.last ∙ ap Some (gone_by w.n w.answer (sym w.outcome_is ∙ gone))
    go (inr w) = absurd (never p.outcome w.outcome_is gone)
      where
        never : (outcome : Result ℕ Trouble) → outcome ≡ Err Fault → outcome ≡ Err Gone → ⊥
        never outcome e f = cc

-- ---- pulls

got_by : (n : ℕ) (answer : Answer) (outcome : Result ℕ Trouble) → outcome ≡ after_read answer → Ok n ≡ as_failed outcome
    → answer ≡ Bytes n
got_by n (Bytes m) (Ok k) e r = cc
got_by n (Bytes m) (Err t) e r = absurd (cc)
got_by n (Failure number) (Ok k) e r = absurd (cc)
got_by n (Failure number) (Err t) e r = absurd (cc)

-- a pull reads once at least, and at most 1,024 times
pub tried_pull : (result : Result ℕ Failed) (old new : ReaderState) (was is : Bool) → PullsMessage result old new was is
    → old.reads + 1024 < 2 ^ 64 → (old.reads < new.reads) × (new.reads ≤ old.reads + 1024)
tried_pull result old new was is p room =
    let counted = p.reads.counted in let some = p.reads.some in let most = p.reads.most in (omega arith, omega arith)

-- if a pull returned this much, its last read did, which alone was not interrupted
pub done_pull : (n : ℕ) (old new : ReaderState) (was is : Bool) → PullsMessage (Ok n) old new was is
    → (new.last ≡ Some (Bytes n)) × (new.settled ≡ up old.settled)
done_pull n old new was is p =
    let gave = got_by n p.reads.answer p.outcome p.reads.outcome_is p.result_is in
    (p.reads.last ∙ ap Some gave, p.reads.settled ∙ ap (settled_after old.settled) gave)

failed_by : (answer : Answer) (outcome : Result ℕ Trouble) (failed : Failed) → outcome ≡ after_read answer
    → Err failed ≡ as_failed outcome → (number : Option ℤ) × (answer ≡ Failure number)
failed_by (Bytes m) (Ok k) failed e r = absurd (cc)
failed_by (Bytes m) (Err t) failed e r = absurd (cc)
failed_by (Failure number) outcome failed e r = (number, refl)

-- if a pull failed, so did its last read; and all of its reads were interrupted if that one was
pub failed_pull : (failed : Failed) (old new : ReaderState) (was is : Bool) → PullsMessage (Err failed) old new was is → HasGivenUp old new
failed_pull failed old new was is p = go (failed_by p.reads.answer p.outcome failed p.reads.outcome_is p.result_is)
  where
    go : (number : Option ℤ) × (p.reads.answer ≡ Failure number) → HasGivenUp old new
    go (number, same) = record {
      number = number;
      last = p.reads.last ∙ ap Some same;
      spent = λ again.
          let asks : asks_again p.reads.answer ≡ true = ap asks_again same ∙ ap is_again again in (
            p.reads.settled ∙ ap (λ (a : Bool). if a then old.settled else up old.settled) asks,
            p.reads.counted ∙ ap (held_sum old.reads) (p.reads.spent asks),
          );
    }

gone_read_by : (answer : Answer) → after_read answer ≡ Err Gone → answer ≡ Failure (Some (pos 19))
gone_read_by (Bytes n) e = absurd (cc)
gone_read_by (Failure number) e =
    let spent : spent_trouble (read_trouble number) ≡ Gone = cc in
    ap Failure (gone_read number (by_trouble (read_trouble number) spent))
  where
    by_trouble : (trouble : Trouble) → spent_trouble trouble ≡ Gone → trouble ≡ Gone
    by_trouble Again e = absurd (cc)
    by_trouble Unwanted e = absurd (cc)
    by_trouble Gone e = refl
    by_trouble Fault e = absurd (cc)

-- if a pull leaves a source gone, its last read returned ENODEV
pub gone_pull : (result : Result ℕ Failed) (old new : ReaderState) → PullsMessage result old new false true
    → new.last ≡ Some (Failure (Some (pos 19)))
gone_pull result old new p =
    p.reads.last ∙ ap Some (gone_read_by p.reads.answer (sym p.reads.outcome_is ∙ made_gone p.outcome p.gone))
