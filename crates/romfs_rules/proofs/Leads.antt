-- The destination of a header, as an optional word: none (nowhere), or some (there). By these each branch of the code has its lemma: for
-- next, for the first header of a directory (firsts), for the first header below another header (downs), and for hard links.
use Rattle.std.proofs.Common.{◌≡◌, ◌≢◌, ◌∙◌, sym, ap, subst, ℕ, List, Option, Some, None}
use Rattle.romfs_format.specs.declared.head.Kind.TheVariants.{HardLink}
use Rattle.romfs_format.specs.Fields.{root, IsInside, next, spec, cleared, kind}
use Rattle.romfs_format.specs.Chains.{IsFirst, IsNext}
use Rattle.romfs_format.specs.Links.{IsHardLink, destination}
use Rattle.romfs_rules.specs.Marks.{Opens}
use Rattle.romfs_rules.specs.Leads.{IsTheOne}

-- if P holds of no header, there is no word
pub nowhere : (P : ℕ → Type 0) → ((g : ℕ) → ¬ P g) → IsTheOne P None
nowhere P n = record { each = λ g. (λ e. cc, λ p. absurd (n g p)) }

-- if P holds of one header alone, that is the word
pub there : (P : ℕ → Type 0) (w : ℕ) → P w → ((g : ℕ) → P g → g ≡ w) → IsTheOne P (Some w)
there P w p o = record { each = λ g. (λ e. let q : w ≡ g = cc in subst P q p, λ x. ap Some (sym (o g x))) }

module _ (a : List ℕ) (at : ℕ) where
  -- if next is 0, there is no header after
  pub next_none : (w : ℕ) → w ≡ next a at → w ≡ 0 → IsTheOne (IsNext a at) None
  next_none w e z = nowhere (IsNext a at) (λ g n. n.2 (n.1 ∙ sym e ∙ z))

  -- if next is not 0, it is the header after
  pub next_some : (w : ℕ) → IsInside a at → w ≡ next a at → w ≢ 0 → IsTheOne (IsNext a at) (Some w)
  next_some w i e z = there (IsNext a at) w (i, e, z) (λ g n. n.1 ∙ sym e)

  -- a directory whose spec.info is 0 has no first header
  pub first_none : (w : ℕ) → w ≡ cleared (spec a at) → w ≡ 0 → IsTheOne (IsFirst a at) None
  first_none w e z = nowhere (IsFirst a at) (λ g f. f.1 (f.0 ∙ sym e ∙ z))

  -- a directory other than the root whose spec.info names itself has no first header
  pub first_own : (w : ℕ) → w ≡ cleared (spec a at) → w ≡ at → at ≢ root a → IsTheOne (IsFirst a at) None
  first_own w e s n = nowhere (IsFirst a at) (λ g f. n (f.2 (f.0 ∙ sym e ∙ s)))

  -- what spec.info names is the first header, if not 0, nor the directory itself unless that is the
  -- root
  pub first_some : (w : ℕ) → w ≡ cleared (spec a at) → w ≢ 0 → ((w ≡ at) → at ≡ root a) → IsTheOne (IsFirst a at) (Some w)
  first_some w e z o = there (IsFirst a at) w (e, z, o) (λ g f. f.0 ∙ sym e)

  abbrev IsDown : ℕ → Type 0
  IsDown g = (at ≢ root a) × Opens a at × IsFirst a at g

  -- the root's header does not lead down
  pub down_root : at ≡ root a → IsTheOne IsDown None
  down_root e = nowhere IsDown (λ g d. d.0 e)

  -- a header that does not open as a directory does not lead down
  pub down_shut : ¬ Opens a at → IsTheOne IsDown None
  down_shut n = nowhere IsDown (λ g d. n d.1)

  -- a header that opens, and is not the root's, leads down to its first header, if it has one
  pub down_open : (w : Option ℕ) → at ≢ root a → Opens a at → IsTheOne (IsFirst a at) w → IsTheOne IsDown w
  down_open w n o f = record { each = λ g. (λ e. (n, o, (f.each g).0 e), λ d. (f.each g).1 d.2) }

  abbrev IsLinkedTo : ℕ → Type 0
  IsLinkedTo g = IsHardLink a at × (g ≡ destination a at)

  -- a hard link leads to its destination
  pub hard_some : (w : ℕ) → IsInside a at → kind a at ≡ HardLink → w ≡ destination a at → IsTheOne IsLinkedTo (Some w)
  hard_some w i k e = there IsLinkedTo w ((i, k), e) (λ g x. x.1 ∙ sym e)

  -- a header of another kind leads to no destination
  pub hard_none : kind a at ≢ HardLink → IsTheOne IsLinkedTo None
  hard_none n = nowhere IsLinkedTo (λ g x. n x.0.1)

-- where the chain of a directory begins
pub ruleset firsts = (first_none, first_own, first_some)

-- where a chain leads down
pub ruleset downs = (down_root, down_shut, down_open)
