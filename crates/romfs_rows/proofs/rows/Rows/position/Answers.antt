use Rattle.std.proofs.Common.{◌≡◌, ◌∙◌, rules, true, false, ltb, subst, sym}
use Rattle.std.specs.List.Sorted.{IsNonDecreasingBy, IsPartitionPoint}
use Rattle.std.proofs.lemmas.List.Sorted.{IsPartitionPoint-from_clause, IsPartitionedBy-ltb}
use Rattle.romfs_format.specs.declared.attribute_row.AttributeRow.{AttributeRow}
use Rattle.romfs_rows.proofs.Search.{another, found, past}
use Rattle.romfs_rows.proofs.rows.Rows.position.Given.{Over}
use Rattle.romfs_rows.proofs.rows.Rows.position.Goals.{After-partition_point-position}
use Rattle.romfs_rows.proofs.rows.Rows.position.Goals as goal

-- the rows below the place that the search gave are below the offset, and no others
split : (g : Over) (c : After-partition_point-position g)
    → IsPartitionPoint (λ x. ltb x.place c.args.place ≡ true) (λ x. ltb x.place c.args.place ≡ false) c.self.inside.rows.items
    c.partition_point-position.result
split g c = rw c.deref.ensures.value at (IsPartitionPoint-from_clause (λ (x : AttributeRow). ltb x.place c.args.place) _ _
    c.partition_point-position.ensures.partitioned
    (IsPartitionedBy-ltb (λ (x : AttributeRow). x.place) _ _
    (subst (IsNonDecreasingBy (λ (x : AttributeRow). x.place)) (sym c.deref.ensures.value) c.self.invariant.rising))
    (λ a r q k. search rules))

pub returns-in-Some-clause-value : goal.returns-in-Some-clause-value
returns-in-Some-clause-value g c =
    let at = rw c.deref-2.ensures.value at c.in-Some.ensures.lookup.3 in
    rw (← c.self.view_is) (found c.self.inside.rows.items c.args.place c.partition_point-position.result c.self.invariant.rising
    (split g (goal.at.returns-in-Some-clause-value g c).After-partition_point-position) c.in-Some.row.now at.0 at.1
    (sym c.place.ensures ∙ c.if-place.true))

pub returns-in_default-clause-value : goal.returns-in_default-clause-value
returns-in_default-clause-value g c =
    let at = rw c.deref-2.ensures.value at c.in-Some.ensures.lookup.3 in
    rw (← c.self.view_is) (another c.self.inside.rows.items c.args.place c.partition_point-position.result c.self.invariant.rising
    (split g (goal.at.returns-in_default-clause-value g c).After-partition_point-position) c.in-Some.row.now at.0 at.1
    (λ e. c.if-place.false (c.place.ensures ∙ e)))

pub returns-in_default-2-clause-value : goal.returns-in_default-2-clause-value
returns-in_default-2-clause-value g c =
    let l = rw (c.in_default.is, c.deref-2.ensures.value) at c.get.ensures.lookup.3 in
    rw (← c.self.view_is) (past c.self.inside.rows.items c.args.place c.partition_point-position.result c.self.invariant.rising
    (split g (goal.at.returns-in_default-2-clause-value g c).After-partition_point-position) l)
