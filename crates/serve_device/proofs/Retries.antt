-- What is known between two tries of `read_again`. `held-step` counts one more; `tried-fresh` and `never-again` say that a result that is
-- not an interruption is the last.
use Rattle.std.proofs.Common.{rules, arith, refl, true, ◌≡◌, ℕ, ℤ, ◌+◌, Option, Some}
use Rattle.devices.specs.Counting.{held_sum, up}
use Rattle.serve_device.specs.declared.answer.Answer.TheVariants.{Failure}
use Rattle.serve_device.specs.declared.trouble.Trouble.{Trouble}
use Rattle.serve_device.specs.declared.trouble.Trouble.TheVariants.{Again, Unwanted, Gone, Fault}
use Rattle.serve_device.specs.Answers.{is_again}
use Rattle.serve_device.specs.Reads.{ReaderState, spent_trouble}
use Rattle.serve_device.specs.Troubles.{read_trouble}

-- the last read was interrupted
pub record WasInterrupted (state : ReaderState) : Type 0 where
  pub number : Option ℤ
  pub last : state.last ≡ Some (Failure number)
  pub interrupted : read_trouble number ≡ Again

pub held-step : (a k : ℕ) → up (held_sum a k) ≡ held_sum a (k + 1)
held-step a k = grind arith

pub tried-fresh : (t : Trouble) → (t ≡ Again → ⊥) → t ≡ spent_trouble t
tried-fresh Again fresh = absurd (fresh refl)
tried-fresh Unwanted fresh = refl
tried-fresh Gone fresh = refl
tried-fresh Fault fresh = refl

pub never-again : (t : Trouble) → (t ≡ Again → ⊥) → is_again t ≡ true → ⊥
never-again Again fresh is = fresh refl
never-again Unwanted fresh is = search rules
never-again Gone fresh is = search rules
never-again Fault fresh is = search rules
