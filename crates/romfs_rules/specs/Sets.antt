-- The sets of headers by which the rules of file headers are judged.
use Rattle.std.specs.Prelude.{ℕ, List}
use Rattle.romfs_rules.specs.declared.judge.Sets.TheInside.{Inside}
use Rattle.romfs_format.specs.Links.{IsTarget}
use Rattle.romfs_format.specs.Rules.{IsLinkedTwice}
use Rattle.romfs_rules.specs.Marks.{AreMarks, IsListOf}
use Rattle.romfs_rules.specs.InChains.{AreChains}
use Rattle.romfs_rules.specs.Ends.{AreWalkedEnds}
use Rattle.romfs_rules.specs.Outside.{IsLeastBelow, IsLeastPastEnd}
use Rattle.romfs_rules.specs.SameNames.{HaveSameNamesIfAlone}

-- the sets are what their names say; equal names are known if the root is in no chain but its own
pub record AreSets {A : Type 0} (a : List ℕ) (sets : Inside A) : Type 0 where
  pub chains : AreChains a sets.chains.now
  pub targets : AreMarks a (IsTarget a) sets.targets.now
  pub twice : IsListOf a (IsLinkedTwice a) sets.twice.now
  pub same_names : HaveSameNamesIfAlone a sets.same_names.now
  pub ends : AreWalkedEnds a sets.ends.now.walks sets.ends.now.ends.items
  pub below : IsLeastBelow a sets.outside.below
  pub above : IsLeastPastEnd a sets.outside.above
