use Rattle.std.proofs.Common.{rules, refl, ◌≡◌}
use Rattle.std.proofs.lemmas.Fn.{answers_by}
use Rattle.layer_paths.specs.Rows.{name_cmp}
use Rattle.layer_paths.proofs.Names.{placed}
use Rattle.layer_paths.proofs.branch.place.Goals as goal

pub returns : goal.returns
returns g c =
    placed c.args.name.now c.args.children.now c.requires c.binary_search_by.result c.binary_search_by.ensures.bound
    (c.binary_search_by.ensures.position (λ s. name_cmp s.name c.args.name.now)
    (answers_by _ _ (λ f. f.0.now ≡ c.args.name.now) (λ f a r h called i. search rules) _ refl))
