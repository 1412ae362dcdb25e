use Rattle.std.proofs.Common.{rules, arith}
use Rattle.node_list.proofs.Runs.{run_none, run_more, run_all}
use Rattle.node_list.proofs.path_text.count_unescaped.Goals as goal

pub loop-at-init : goal.loop-at-init
loop-at-init c = run_none c.args.name.now

pub loop-at-preserved : goal.loop-at-preserved
loop-at-preserved c = run_more c.args.name.now c.loop-at.at (omega arith) (let t = c.if-not-is_unescaped.false in
    search rules) c.loop-at.invariant

pub returns-then-not-is_unescaped-clause-same : goal.returns-then-not-is_unescaped-clause-same
returns-then-not-is_unescaped-clause-same c = c.loop-at.invariant

pub returns-clause-same : goal.returns-clause-same
returns-clause-same c = run_all c.args.name.now c.loop-at.at _ (omega arith) (omega arith) c.loop-at.invariant
