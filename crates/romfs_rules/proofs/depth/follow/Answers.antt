use Rattle.std.proofs.Common.{◌∙◌, ap, ◌+◌, List, ◌++◌}
use Rattle.romfs_rules.specs.Depth.{waiting}
use Rattle.romfs_rules.specs.declared.depth.Waiting.{Waiting}
use Rattle.romfs_rules.proofs.Descent.{led}
use Rattle.romfs_rules.proofs.depth.follow.Goals as goal

pub returns : goal.returns
returns g c =
    let more = ap (λ (x : List Waiting). x ++ waiting c.first_below.result (c.args.from.names + 1)) c.in_ok-push_some.ensures in
    led c.args.volume.now.bytes.now c.args.from c.args.todo.now.items c.push_some-2.new.todo.items
    c.next_of.ensures c.first_below.ensures (c.in_ok-push_some-2.ensures ∙ more)
