-- Bytes that are pushed piece by piece. `begins` and `goes_on` are the loop: a push takes the first
-- of what is to come, which leaves the rest.
use Rattle.std.proofs.Common.{rules, ◌≡◌, ◌∙◌, sym, ap, ℕ, ◌+◌, ◌-◌, ◌≤◌, ◌==◌, if◌then◌else◌, List, [], ◌++◌, length, take, drop, Ok, refl, arith, append_assoc, take-append-drop, length-append, length-take}
use Rattle.std.proofs.lemmas.List.{take_rest}
use Rattle.std.proofs.KnownBytes.{Appends-nil, Appends-trans}
use Rattle.std.specs.Io.KnownBytes.{Appends}
use Rattle.devices.specs.declared.counts.Pushes.{Pushes}
use Rattle.devices.specs.Counting.{pushed}
use Rattle.devices.specs.States.{SinkState}

-- some of the bytes are pushed without a failure or a flush, and the rest is to come
pub record IsUnderWay (bytes rest done : List ℕ) (old new : SinkState) : Type 0 where
  pub split : bytes ≡ done ++ rest
  pub held : Appends old.held new.held done
  pub late : new.counts.unflushed ≤ old.counts.unflushed + length done
  pub well : new.counts.failures ≡ old.counts.failures
  pub flushes : new.counts.flushes ≡ old.counts.flushes

-- before the first push nothing is pushed, and all is to come
pub begins : (bytes : List ℕ) (old : SinkState) → IsUnderWay bytes bytes [] old old
begins bytes old = record { split = refl; held = Appends-nil old.held; late = omega arith; well = refl; flushes = refl }

taken : (n x y : ℕ) → (n ≡ 0 → ⊥) → (if n == 0 then x else y) ≡ y
taken n x y h = search rules

-- a push that takes some of what is to come leaves the rest
pub goes_on : (bytes rest done : List ℕ) (old mid new : SinkState) (n : ℕ) →
    IsUnderWay bytes rest done old mid → n ≤ length rest → (n ≡ 0 → ⊥)
    → Appends mid.held new.held (take n rest) → new.counts ≡ pushed mid.counts (length rest) (Ok n) →
    IsUnderWay bytes (take (length rest - n) (drop n rest)) (done ++ take n rest) old new
goes_on bytes rest done old mid new n u b z a e = record {
  split =
      u.split
      ∙ ap (λ l. done ++ l) (sym (take-append-drop n rest))
      ∙ sym (append_assoc done (take n rest) (drop n rest))
      ∙ ap (λ l. (done ++ take n rest) ++ l) (sym (take_rest rest n));
  held = Appends-trans _ _ _ _ _ u.held a;
  late = (let l = length-append done (take n rest) in let t = length-take n rest in let k = u.late in let s =
      ap (λ (p : Pushes). p.unflushed) e in omega arith);
  well = ap (λ (p : Pushes). p.failures) e ∙ taken n _ _ z ∙ u.well;
  flushes = ap (λ (p : Pushes). p.flushes) e ∙ u.flushes;
}
