use Rattle.std.proofs.Common.{rules, ◌∷◌}
use Rattle.std.specs.Ordering.{is_lt}
use Rattle.std.proofs.lemmas.Cmp.{nat_list_cmp_total}
use Rattle.std.proofs.lemmas.List.Sorted.{ranks_by, answers_always}
use Rattle.romfs_sets.specs.declared.names.NumberedName.{NumberedName}
use Rattle.romfs_sets.specs.Names.{numbered_cmp}
use Rattle.romfs_sets.proofs.Keyed.{by_name}
use Rattle.romfs_sets.proofs.names.sorted.Goals as goal

pub returns : goal.returns
returns g c = λ name n have.
    by_name name n c.args.named.items c.sort_unstable_by.new.self.items have
    c.sort_unstable_by.ensures.permutation
    (c.sort_unstable_by.ensures.sorted
    (λ x y. is_lt (numbered_cmp x y))
    (ranks_by nat_list_cmp_total (λ (x : NumberedName). x.hash ∷ x.name.now))
    (answers_always _ _ _ (λ f a r g h. search rules)))
