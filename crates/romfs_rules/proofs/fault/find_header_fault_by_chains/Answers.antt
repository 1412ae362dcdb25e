use Rattle.romfs_rules.proofs.fault.find_header_fault_by_chains.Goals as goal

pub invariant_of-sets : goal.invariant_of-sets
invariant_of-sets g c = record {
  chains = c.requires.chains;
  targets = c.in_ok-targets.ensures;
  twice = c.requires.twice;
  same_names = c.requires.same_names;
  ends = c.in_ok-ends.ensures;
  below = c.find_outside.ensures.below;
  above = c.find_outside.ensures.above;
}
