use Rattle.std.proofs.Common.{subst}
use Rattle.std.proofs.lemmas.List.{take_all}
use Rattle.node_reader.specs.Xattrs.{AreBare}
use Rattle.node_reader.proofs.NodeLists.{bare_more, none_bare}
use Rattle.node_reader.proofs.xattrs.may_have_some.Goals as goal

pub loop-lists-init : goal.loop-lists-init
loop-lists-init g c = none_bare

pub loop-lists-preserved : goal.loop-lists-preserved
loop-lists-preserved g c =
    bare_more c.args.layers.now c.loop-lists.lists-index c.lists-item.result c.loop-lists.invariant c.loop-lists-test.true
    c.lists-item.is (c.may_have_some.ensures c.if-may_have_some.false)

pub returns : goal.returns
returns g c = λ e. subst AreBare (take_all c.loop-lists.lists-index c.args.layers.now c.loop-lists-test.false) c.loop-lists.invariant
