use Rattle.std.proofs.Common.{rules, ◌≤◌, ◌/◌, subst, length, arith}
use Rattle.stack_prepare.specs.Checking.{Checks}
use Rattle.stack_prepare.proofs.Checked.{halved, counted, joined}
use Rattle.stack_prepare.proofs.checking.+halves.Goals as goal

pub returns : goal.returns
returns g t c =
    let lows = c.split_off.new.self.items in
    let highs = c.in_ok-highs.highs.items in
    let half = c.len-half.result / 2 in
    let within : half ≤ length c.args.images.items = omega arith in
    let up = counted c.args.images.items lows half c.args.first c.in_ok-highs.ensures.items within in
    let all = joined c.args.first c.args.profile lows highs _ _ c.together.result
    (record { lower = c.join-high.ensures.second; upper = rw up at c.join-high.ensures.first }) c.together.ensures in
    subst (λ xs. Checks c.args.first c.args.profile xs c.together.result)
    (halved c.args.images.items lows highs half c.in_ok-highs.ensures.items c.in_ok-highs.ensures.tail) all

pub check_in_turn-requires : goal.check_in_turn-requires
check_in_turn-requires g t c = c.requires

pub overflow_sub-less : goal.overflow_sub-less
overflow_sub-less g t c = omega arith

pub split_off-requires : goal.split_off-requires
split_off-requires g t c = omega arith

pub overflow_add-next : goal.overflow_add-next
overflow_add-next g t c = omega arith

pub overflow_cast-next : goal.overflow_cast-next
overflow_cast-next g t c = omega arith

pub returns-then-forks-eq0 : goal.returns-then-forks-eq0
returns-then-forks-eq0 g t c = c.check_in_turn.ensures

pub fn::check_from::join+arg2+FnOnce::call_once-join+arg2-requires :
    goal.fn::check_from::join+arg2+FnOnce::call_once-join+arg2-requires
fn::check_from::join+arg2+FnOnce::call_once-join+arg2-requires g t c κs within = search rules

pub fn::check_from::join+arg3+FnOnce::call_once-join+arg3-requires :
    goal.fn::check_from::join+arg3+FnOnce::call_once-join+arg3-requires
fn::check_from::join+arg3+FnOnce::call_once-join+arg3-requires g t c κs within = search rules
