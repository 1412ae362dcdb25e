use Rattle.std.proofs.lemmas.Result.{IfOk-weaker}
use Rattle.romfs_rules.specs.SameNames.{HaveSameNames, HaveSameNamesIfAlone}
use Rattle.romfs_rules.proofs.fault.same_names_below.Goals as goal

pub returns-else-chains : goal.returns-else-chains
returns-else-chains g c =
    let a = c.args.volume.now.bytes.now in
    IfOk-weaker c.find_same_names.result (λ found. HaveSameNames a found.items) (λ found. HaveSameNamesIfAlone a found.items)
    (λ found names. record { names = λ alone. names; rising = names.rising }) c.find_same_names.ensures
