use Rattle.std.proofs.Common.{arith}
use Rattle.romfs_rules.proofs.EndWalk.{known_slot, ended_in, ended_as}
use Rattle.romfs_rules.proofs.ends.WalkedEnds.at.Goals as goal

pub at-walk-requires : goal.at-walk-requires
at-walk-requires g c = known_slot c.requires.0 c.args.self.now.walks c.args.self.now.ends.items c.args.at c.requires.1

pub index-requires : goal.index-requires
index-requires g c =
    let l = ended_in c.requires.0 c.args.self.now.walks c.args.self.now.ends.items c.args.at c.requires.1 c.at-walk.result
    c.at-walk.ensures in
    omega (arith, c.args.self.now.ends.ok.0)

pub returns : goal.returns
returns g c = λ a k. ended_as a c.args.self.now.walks c.args.self.now.ends.items c.args.at k c.at-walk.result
    c.at-walk.ensures c.index.result.now c.index.ensures
