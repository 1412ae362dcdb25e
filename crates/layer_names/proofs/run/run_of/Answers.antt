use Rattle.std.proofs.Common.{rules, leb}
use Rattle.std.proofs.lemmas.List.Sorted.{IsPartitionPoint-from_clause, IsPartitionedBy-leb}
use Rattle.layer_names.proofs.Halves.{from_both}
use Rattle.layer_names.proofs.run.run_of.Goals as goal

pub returns : goal.returns
returns c =
    let high = IsPartitionPoint-from_clause (λ x. leb x c.args.key) _ _ c.partition_point.ensures.partitioned
    (IsPartitionedBy-leb (λ x. x) _ _ c.requires) (λ a r q k. search rules) in
    from_both c.args.keys.now c.args.key _ _ c.first_from-low.ensures.bound c.partition_point.ensures.bound
    c.first_from-low.ensures.before c.first_from-low.ensures.after high.0 high.1
