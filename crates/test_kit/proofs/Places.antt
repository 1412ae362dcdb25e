-- A `Refusing` behind the `&self` of a method, over an inner allocator whose row is A, and the places of its fields: the inner allocator
-- first, and the tally after it at the next multiple of 8.
use Rattle.std.proofs.Common.{ℕ, ◌+◌, [], ◌∷◌}
use Rattle.test_kit.specs.contracts.refusing.Refusing.{the_row}
use prog.Memory.{size, align, up}
use denote.Builtin.{RefOf}
use denote.Param.{layout, param}
use denote.RattleType.{RattleType}
use denote.Signature.{Slot, plain}

module _ (A : RattleType) where
  -- the reference that a method is given
  abbrev pub self : Slot 2
  self = RefOf (0 ∷ []) tt (plain (λ _. the_row (param 0 A))) (λ _. tt)

  -- where the inner allocator lies, by where the `Refusing` does
  abbrev pub inner_at : ℕ × ℕ → ℕ × ℕ
  inner_at p = (p.0, p.1 + up (align (layout A)) 0)

  -- where the tally lies, by where the `Refusing` does
  abbrev pub tally_at : ℕ × ℕ → ℕ × ℕ
  tally_at p = (p.0, p.1 + up 8 (up (align (layout A)) 0 + size (layout A)))
