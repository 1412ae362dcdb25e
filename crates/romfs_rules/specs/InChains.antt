-- The headers in chains, as a set of slots and what else is known of the root's.
use Rattle.std.specs.Prelude.{ℕ, List, IsTrue, ◌↔◌}
use Rattle.romfs_rules.specs.declared.chains.Chains.{Chains}
use Rattle.romfs_format.specs.Fields.{root}
use Rattle.romfs_rules.specs.Marks.{AreMarks, IsElsewhere}
use Rattle.romfs_rules.specs.Leads.{IsInSomeChain}

-- these are the headers in chains of the image
pub record AreChains {A : Type 0} (a : List ℕ) (chains : Chains A) : Type 0 where
  pub headers : AreMarks a (IsInSomeChain a) chains.headers
  pub root : IsTrue chains.root_elsewhere ↔ IsElsewhere a (root a)
