use Rattle.romfs_rules.specs.Leads.{IsInSomeChain}
use Rattle.romfs_rules.proofs.Slots.{marked}
use Rattle.romfs_rules.proofs.member.is_in_chain.Goals as goal

pub returns : goal.returns
returns g c =
    let a = c.args.volume.now.bytes.now in
    rw c.contains.ensures (marked a (IsInSomeChain a) c.args.chains.now.headers c.args.at c.requires.chains.headers c.requires.slot.aligned
    c.requires.slot.inside)
