use Rattle.clap.specs.Words.{found_of}
use Rattle.strata_words.proofs.Parsed.{flag_is}
use Rattle.strata_words.proofs.parse.flag.Goals as goal

pub returns : goal.returns
returns c =
    let filled = c.requires.filled.flags c.args.name.now c.requires.flag in
    flag_is (found_of c.args.found.now) c.args.name.now c.get_flag.result filled c.get_flag.ensures.none c.get_flag.ensures.value
    c.get_flag.ensures.other
