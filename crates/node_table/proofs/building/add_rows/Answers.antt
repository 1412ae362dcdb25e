use Rattle.std.proofs.lemmas.Grind.{common_steps}
use Rattle.std.proofs.Common.{◌≡◌, ◌<◌, ◌+◌, ◌∙◌, length, List, ℕ, sym, ap, subst, drop, arith}
use Rattle.std.proofs.lemmas.List.{get_or_default}
use Rattle.node_table.specs.Numbering.{number_among}
use Rattle.node_reader.specs.Rows.{Line}
use Rattle.node_table.specs.Building.{line_in, AreFollowing}
use Rattle.node_table.proofs.Built.{AddsRow, directory, other, follows}
use Rattle.node_table.proofs.building.add_rows.Goals as goal
use Rattle.node_table.proofs.building.add_rows.Goals.{in-Directory, in_default}

pub loop-child-preserved : goal.loop-child-preserved
loop-child-preserved g c =
    let tell = number_among c.args.walk.now.visits.items in
    let lt : c.loop-child.child-index < length c.args.children.now = omega arith in
    let nm : c.in_ok-name.name ≡ c.child-item.result.name = c.in_ok-name.ensures in
    let f = follows tell c.args.numbered.now.numbers c.args.walk.now.sizes.items c.loop-child.at c.args.children.now
    c.loop-child.child-index c.child-item.result lt c.child-item.is c.loop-child.invariant.1 in
    let number : ℕ = c.number-number.result in
    let line : Line = record { number = number; name = c.in_ok-name.name } in
    let is : line ≡ line_in tell c.child-item.result = ap (λ (n : ℕ). record { number = n; name = c.in_ok-name.name })
    (c.number-number.ensures ∙ f.0.number_is)
    ∙ ap (λ (x : List ℕ). record { number = tell c.child-item.result.value.place; name = x }) nm in
    let adds : AddsRow tell c.args.children.now c.loop-child.child-index c.child-item.result c.loop-child.rows.items c.push.new.self.items =
    record { within = lt; here = c.child-item.is; line = line; line_is = is; pushed = c.in_ok-push.ensures.items } in
    let size = c.index-size.ensures ∙ get_or_default c.args.walk.now.sizes.items c.loop-child.at c.index-size.result.now 0 f.0.sized
    ∙ f.0.size_is in
    let rest = subst (λ n. AreFollowing tell c.args.numbered.now.numbers c.args.walk.now.sizes.items (c.loop-child.at + n)
    (drop (c.loop-child.child-index + 1) c.args.children.now)) (sym size) f.1 in
    elim c.match-entry.branch [
      | in-Directory w ↦ (
        rw w.directories-is (directory _ _ _ _ _ _ _ _ c.loop-child.invariant.0 adds
            (ap (λ e. e.kind) (sym c.value-entry.ensures) ∙ w.in-Directory.is)),
        rest,
      )
      | in_default w ↦ (
        rw w.directories-is (other _ _ _ _ _ _ _ _ c.loop-child.invariant.0 adds
            (λ k. w.in_default.not-Directory (ap (λ e. e.kind) c.value-entry.ensures ∙ k))),
        rest,
      )
    ]

pub offset_bounds-children-child-index : goal.offset_bounds-children-child-index
offset_bounds-children-child-index g c = omega arith

pub bounds-children-child-index : goal.bounds-children-child-index
bounds-children-child-index g c = omega arith

pub overflow_add-at : goal.overflow_add-at
overflow_add-at g c =
    let lt : c.loop-child.child-index < length c.args.children.now = omega arith in
    let f = follows (number_among c.args.walk.now.visits.items) c.args.numbered.now.numbers c.args.walk.now.sizes.items c.loop-child.at
    c.args.children.now c.loop-child.child-index c.child-item.result lt c.child-item.is c.loop-child.invariant.1 in
    let size = c.index-size.ensures ∙ get_or_default c.args.walk.now.sizes.items c.loop-child.at c.index-size.result.now 0 f.0.sized
    ∙ f.0.size_is in
    omega (arith, f.0.ends, size, c.args.walk.now.sizes.ok.0)

pub overflow_add-directories : goal.overflow_add-directories
overflow_add-directories g c = omega arith

pub loop-child-smaller : goal.loop-child-smaller
loop-child-smaller g c = omega arith

pub loop-child-init : goal.loop-child-init
loop-child-init g c = grind (arith, common_steps)

pub number-number-requires : goal.number-number-requires
number-number-requires g c = grind (arith, common_steps)

pub index-size-requires : goal.index-size-requires
index-size-requires g c = grind (arith, common_steps)

pub returns : goal.returns
returns g c = grind (arith, common_steps)
