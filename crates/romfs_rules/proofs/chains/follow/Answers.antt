use Rattle.std.proofs.Common.{◌∙◌, ap, ℕ, List, ◌++◌}
use Rattle.std.specs.Option.{option_to_list}
use Rattle.romfs_rules.proofs.Closure.{led}
use Rattle.romfs_rules.proofs.chains.follow.Goals as goal

pub returns : goal.returns
returns g c =
    led c.args.volume.now.bytes.now c.args.at c.args.todo.now.items c.push_some-2.new.todo.items c.next_of.ensures c.first_below.ensures
    (c.in_ok-push_some-2.ensures ∙ ap (λ (x : List ℕ). x ++ option_to_list c.first_below.result) c.in_ok-push_some.ensures)
