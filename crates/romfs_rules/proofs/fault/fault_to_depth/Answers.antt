use Rattle.romfs_rules.proofs.fault.fault_to_depth.Goals as goal

pub returns-in-Some : goal.returns-in-Some
returns-in-Some g c = c.in-Some.ensures.fault c.args.profile
