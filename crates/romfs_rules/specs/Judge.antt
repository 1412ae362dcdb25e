-- The first rule that an image breaks, of the rules of file headers, and of all.
use Rattle.std.specs.Prelude.{◌≡◌, ℕ, ◌<◌, ◌≤◌, List, Option, MatchOption, IsNone}
use Rattle.romfs_format.specs.declared.rule.Rule.{Rule}
use Rattle.romfs_format.specs.declared.rule.Rule.TheVariants.{TooDeep, Attributes}
use Rattle.romfs_format.specs.declared.rule.Profile.{Profile}
use Rattle.romfs_format.specs.declared.rule.Profile.TheVariants.{Usual}
use Rattle.romfs_format.specs.declared.rule.ImageFault.{ImageFault}
use Rattle.romfs_format.specs.Fields.{image}
use Rattle.romfs_format.specs.Rules.{Breaks, BreaksHeader, rule_number, IsNamedBefore, IsVolume, IsFault}
use Rattle.romfs_rules.specs.Marks.{HasSlot}
use Rattle.romfs_rules.specs.Outside.{IsLeast}

-- the rules of file headers, for which the least place is named
abbrev pub IsHeaderRule : Rule → Type 0
IsHeaderRule r = (6 ≤ rule_number r) × (rule_number r < 17)

-- h breaks none of them that has a number below n
pub record KeepsBefore (profile : Profile) (a : List ℕ) (h n : ℕ) : Type 0 where
  pub keeps : (s : Rule) → IsHeaderRule s → rule_number s < n → ¬ BreaksHeader profile a s h

-- h breaks none of them
pub record KeepsHeaderRules (profile : Profile) (a : List ℕ) (h : ℕ) : Type 0 where
  pub keeps : (s : Rule) → IsHeaderRule s → ¬ BreaksHeader profile a s h

-- r is the first of them that h breaks
pub record IsFirstRule (profile : Profile) (a : List ℕ) (h : ℕ) (r : Rule) : Type 0 where
  pub rule : IsHeaderRule r
  pub broken : BreaksHeader profile a r h
  pub before : KeepsBefore profile a h (rule_number r)

-- the first of those with a number below n that h breaks; none if it keeps them all
abbrev pub IsFirstRuleBelow : Profile → List ℕ → ℕ → ℕ → Option Rule → Type 0
IsFirstRuleBelow profile a h n rule =
    MatchOption rule (KeepsBefore profile a h n) (IsFirstRule profile a h)

-- the fault is at h, and of the first of them that h breaks
pub record IsFirstAt (profile : Profile) (a : List ℕ) (h : ℕ) (fault : ImageFault) : Type 0 where
  pub place : fault.place ≡ h
  pub rule : IsFirstRule profile a h fault.rule

-- no header below this place, inside the image, breaks any of them
pub record KeepsBelow (profile : Profile) (a : List ℕ) (place : ℕ) : Type 0 where
  pub keeps : (h : ℕ) → HasSlot a h → h < place → KeepsHeaderRules profile a h

-- p is the first header inside the image that breaks any of them, and r the first that it breaks
pub record IsFirstInside (profile : Profile) (a : List ℕ) (r : Rule) (p : ℕ) : Type 0 where
  pub slot : HasSlot a p
  pub rule : IsFirstRule profile a p r
  pub below : KeepsBelow profile a p

-- no header breaks any of them
pub record KeepsAllHeaderRules (profile : Profile) (a : List ℕ) : Type 0 where
  pub keeps : (s : Rule) (q : ℕ) → IsHeaderRule s → ¬ BreaksHeader profile a s q

-- r at p is named before all other breaches of them
pub record IsFirstBreach (profile : Profile) (a : List ℕ) (r : Rule) (p : ℕ) : Type 0 where
  pub rule : IsHeaderRule r
  pub broken : BreaksHeader profile a r p
  pub first : (s : Rule) (q : ℕ) → IsHeaderRule s → BreaksHeader profile a s q
      → ¬ IsNamedBefore s q r p

-- the first breach of a rule of file headers; none if there is none
abbrev pub IsHeaderFault : Profile → List ℕ → Option ImageFault → Type 0
IsHeaderFault profile a fault =
    MatchOption fault (KeepsAllHeaderRules profile a) (λ f. IsFirstBreach profile a f.rule f.place)

-- the least header that is too deep, if no header breaks another rule
abbrev pub IsDeepFault : List ℕ → Option ImageFault → Option ℕ → Type 0
IsDeepFault a fault deep = IsNone fault → IsLeast (BreaksHeader Usual a TooDeep) deep

-- b breaks no rule but that of attributes, which is the last
pub record KeepsToDepth (profile : Profile) (b : List ℕ) : Type 0 where
  pub keeps : (r : Rule) (p : ℕ) → rule_number r < rule_number Attributes
      → ¬ Breaks profile b r p

-- the fault of b, apart from its attributes; none if it breaks no rule but theirs
abbrev pub IsFaultToDepth : Profile → List ℕ → Option ImageFault → Type 0
IsFaultToDepth profile b fault =
    MatchOption fault (KeepsToDepth profile b) (λ f. IsFault profile b f.rule f.place)

-- that of all bytes of which these are the accessible ones, and that keep the volume rules
abbrev pub IsFaultBehindVolume : Profile → List ℕ → Option ImageFault → Type 0
IsFaultBehindVolume profile a fault =
    (b : List ℕ) → image b ≡ a → IsVolume b → IsFaultToDepth profile b fault
