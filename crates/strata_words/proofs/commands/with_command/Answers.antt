use Rattle.std.proofs.Common.{◌≡◌}
use Rattle.std.proofs.lemmas.Result.{IfOk-weaker}
use Rattle.clap.specs.Words.{app_of}
use Rattle.strata_words.proofs.Added.{added_command}
use Rattle.strata_words.proofs.commands.with_command.Goals as goal

pub returns : goal.returns
returns c = λ a s is sub_is plain.
    let old = c.in_ok-program.field-0 in
    let sub = c.in_ok-command.field-0 in
    let old_is : app_of old ≡ a = rw c.in_ok-program.was at is in
    let sub_is : app_of sub ≡ s = rw c.in_ok-command.was at sub_is in
    IfOk-weaker c.subcommand.result _ _ (λ more added. added_command old sub more a s added old_is sub_is plain) c.subcommand.ensures
