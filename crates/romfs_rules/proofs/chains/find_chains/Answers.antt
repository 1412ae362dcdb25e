use Rattle.romfs_rules.specs.Marks.{IsInRootChain, IsElsewhere}
use Rattle.romfs_rules.proofs.Slots.{root_marked, united_marks}
use Rattle.romfs_rules.proofs.chains.find_chains.Goals as goal

pub returns : goal.returns
returns g c =
    let a = c.args.volume.now.bytes.now in
    record {
      headers = united_marks {P = IsElsewhere a} {Q = IsInRootChain a} c.in_ok-headers.ensures c.in_ok-root_chain.ensures
          c.add_all.ensures;
      root = root_marked {P = IsElsewhere a} c.args.volume.now.keeps c.in_ok-headers.ensures c.contains-root_elsewhere.result
          c.args.volume.now.root c.args.volume.now.rooted c.contains-root_elsewhere.ensures;
    }
