-- What the fields of a header name, as an optional word: next names the header after it if it is in a chain (next_named, no_next), and
-- first its first header if it is an opened directory (first_named, no_first).
use Rattle.std.proofs.Common.{ℕ, inl, inr, List, Option, None, refl}
use Rattle.romfs_format.specs.Fields.{root}
use Rattle.romfs_format.specs.Chains.{IsFirst, IsNext, IsOpened, at_root, Stands}
use Rattle.romfs_format.specs.Links.{first_of, next_of, IsLink}
use Rattle.romfs_rules.specs.Leads.{IsTheOne, IsInSomeChain}
use Rattle.romfs_rules.proofs.Standing.{in_some_chain}
use Rattle.romfs_rules.proofs.Leads.{nowhere}

module _ (a : List ℕ) where
  -- a header in some chain is in that of an opened directory
  pub standing : (h : ℕ) → IsInSomeChain a h → (d : ℕ) × Stands a d h
  standing h (inl c) = (root a, record { opened = at_root refl; in_chain = c })
  standing h (inr e) = (e.dir, record { opened = e.opened; in_chain = e.in_chain })

  -- of a header in a chain, next names the header after it, if there is one
  pub next_named : (h : ℕ) (word : Option ℕ) → IsInSomeChain a h → IsTheOne (IsNext a h) word → IsTheOne (IsLink a (next_of h)) word
  next_named h word c o = let s = standing h c in record { each = λ g. (λ e. (s.0, s.1, (o.each g).0 e), λ l. (o.each g).1 l.2) }

  -- of a header in no chain, next names nothing
  pub no_next : (h : ℕ) → ¬ IsInSomeChain a h → IsTheOne (IsLink a (next_of h)) None
  no_next h n = nowhere (IsLink a (next_of h)) (λ g l. n (in_some_chain a l.0 h l.1.opened l.1.in_chain))

  -- of an opened directory, first names its first header, if there is one
  pub first_named : (d : ℕ) (word : Option ℕ) → IsOpened a d → IsTheOne (IsFirst a d) word → IsTheOne (IsLink a (first_of d)) word
  first_named d word p o = record { each = λ g. (λ e. (p, (o.each g).0 e), λ l. (o.each g).1 l.1) }

  -- of a header that is not an opened directory, first names nothing
  pub no_first : (d : ℕ) → ¬ IsOpened a d → IsTheOne (IsLink a (first_of d)) None
  no_first d n = nowhere (IsLink a (first_of d)) (λ g l. n l.0)
