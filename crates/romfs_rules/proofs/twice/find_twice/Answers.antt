use Rattle.std.proofs.Common.{length}
use Rattle.std.proofs.lemmas.Result.{IfOk-weaker}
use Rattle.romfs_format.specs.Rules.{IsLinkedTwice}
use Rattle.romfs_rules.specs.Marks.{IsListOf}
use Rattle.romfs_sets.specs.Listed.{AreCollected}
use Rattle.romfs_rules.proofs.HeadNumbers.{lists_marks}
use Rattle.romfs_rules.proofs.twice.find_twice.Goals as goal

pub returns : goal.returns
returns g c =
    let a = c.args.volume.now.bytes.now in
    let twice = c.in_ok-twice.twice in
    IfOk-weaker c.places_of.result (λ heads. AreCollected twice (length twice) heads.items)
    (λ found. IsListOf a (IsLinkedTwice a) found.items)
    (λ found w. lists_marks a (IsLinkedTwice a) twice found.items c.in_ok-twice.ensures w)
    c.places_of.ensures
