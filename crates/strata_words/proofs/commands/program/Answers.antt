use Rattle.std.proofs.Common.{rules, codes, refl, ◌≡◌}
use Rattle.clap.specs.Words.{app_of}
use Rattle.strata_words.specs.CommandLine.{images_command, serve_command, socket_command, top_command}
use Rattle.strata_words.proofs.commands.program.Goals as goal

pub returns : goal.returns
returns c =
    let top : app_of c.subcommand_required-program.result ≡ top_command = search rules in
    let first = c.with_command-program.ensures top_command serve_command top c.serve.ensures refl in
    let second = c.with_command-program-2.ensures _ socket_command first c.socket.ensures refl in
    let third = c.with_command-program-3.ensures _ (images_command (codes "check")) second c.over_images.ensures refl in
    c.with_command.ensures _ (images_command (codes "list")) third c.over_images-2.ensures refl
