use Rattle.std.proofs.Common.{◌≡◌, ◌∙◌, ℕ, inl, inr, arith, subst}
use Rattle.std.proofs.lemmas.Bool.{cases_lt}
use Rattle.std.proofs.lemmas.List.{get_or_default}
use Rattle.layer_names.specs.Noted.{IsNoted}
use Rattle.layer_names.proofs.key_filter.KeyFilter.note_all.Goals as goal

pub loop-key-preserved : goal.loop-key-preserved
loop-key-preserved g c = (
  λ k l. elim (cases_lt k c.loop-key.key-index) [
    | inl b ↦ c.note.ensures.kept.each _ _ (c.loop-key.invariant.0 k b)
    | inr n ↦ (let e : k ≡ c.loop-key.key-index = omega arith in rw e c.note.ensures.noted)
  ],
  record {
    level = c.note.ensures.kept.level ∙ c.loop-key.invariant.1.level;
    each = λ d k n. c.note.ensures.kept.each d k (c.loop-key.invariant.1.each d k n);
  },
)

pub returns-clause-noted : goal.returns-clause-noted
returns-clause-noted g c k d l = subst (λ (key : ℕ). IsNoted c.loop-key.self c.args.directory key)
    (get_or_default c.args.keys.now k 0 d l) (c.loop-key.invariant.0 k (let n = c.loop-key-test.false in omega (arith, n)))
