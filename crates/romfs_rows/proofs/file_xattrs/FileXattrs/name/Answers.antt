use Rattle.std.proofs.Common.{◌≡◌, ◌∙◌, ◌+◌, ◌-◌, ◌*◌, ◌<◌, sym, ap, subst, ℕ, List, length, Some, arith}
use Rattle.std.specs.Prelude.{slice_get}
use Rattle.std.specs.Option.{option_map}
use Rattle.romfs_format.specs.Extended.{Extended}
use Rattle.romfs_format.specs.Part.{first_of, piece}
use Rattle.romfs_rows.proofs.OneList.{rises, within, list_long, name_there}
use Rattle.romfs_rows.proofs.file_xattrs.FileXattrs.name.Goals as goal

pub overflow_sub-end : goal.overflow_sub-end
overflow_sub-end c =
    omega (arith, c.first-first.ensures.value, c.first-end.ensures.value, rises _ _ c.self.invariant)

pub returns-then-end-first : goal.returns-then-end-first
returns-then-end-first c =
    omega (
      arith,
      c.first-first.ensures.value,
      c.first-end.ensures.value,
      list_long _ _ c.self.invariant,
      ap length c.self.view_is,
    )

pub overflow_add-first : goal.overflow_add-first
overflow_add-first c = omega arith

pub name-requires : goal.name-requires
name-requires c =
    omega (arith, c.first-first.ensures.value, c.first-end.ensures.value, within _ _ c.self.invariant)

pub returns : goal.returns
returns c =
    let y = c.self.inside.lists in
    let n = c.self.inside.number in
    let first : c.first-first.result ≡ first_of y (n - 1) = c.first-first.ensures.value in
    let end : c.first-end.result ≡ first_of y n = c.first-end.ensures.value in
    let there = name_there y n c.self.invariant c.args.position (omega arith) in
    subst (λ xs. option_map (λ (x : Extended). x.name) (slice_get xs c.args.position) ≡ Some c.name.result.now) c.self.view_is
    (there ∙ ap (λ k. Some (piece y (2 * (k + c.args.position)))) (sym first) ∙ ap Some (sym c.name.ensures.value))
