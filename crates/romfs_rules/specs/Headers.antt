-- A reached header, with what the rules need besides its bytes.
use Rattle.std.specs.Prelude.{◌≡◌, ℕ, ◌+◌, ◌≤◌, ◌↔◌, List, length, IsTrue, Option, IfSome, MatchOption}
use Rattle.std.specs.Option.{option_map}
use Rattle.romfs_format.specs.declared.limits.TheConstants.{HEAD_SIZE}
use Rattle.romfs_format.specs.declared.head.End.{End}
use Rattle.romfs_format.specs.declared.rule.Profile.TheVariants.{Usual}
use Rattle.romfs_format.specs.declared.rule.Rule.TheVariants.{LinkedTwice, SameName}
use Rattle.romfs_format.specs.Fields.{root, text_at, text_end}
use Rattle.romfs_format.specs.Chains.{IsSomeMember}
use Rattle.romfs_format.specs.Links.{IsHardLink, IsReached, EndsAs}
use Rattle.romfs_format.specs.Rules.{IsUsed, BreaksHeader}
use Rattle.romfs_rules.specs.Marks.{HasSlot, HasRootElsewhere}
use Rattle.romfs_rules.specs.declared.header.Header.TheInside.{Inside}

-- the header at h is reached, and the root's is in no chain but its own, or is at h
pub record IsAsked (a : List ℕ) (h : ℕ) : Type 0 where
  pub slot : HasSlot a h
  pub reached : IsReached a h
  pub alone : HasRootElsewhere a → h ≡ root a

-- the end of the chain of a member that is a hard link; none if h is not both
abbrev pub IsEndOfMember : List ℕ → ℕ → Option End → Type 0
IsEndOfMember a h end = MatchOption end (¬ (IsSomeMember a h × IsHardLink a h))
    (λ e. IsSomeMember a h × IsHardLink a h × EndsAs a h e)

-- such a header, with what is known of it
pub record IsHeader (a : List ℕ) (header : Inside) : Type 0 where
  pub asked : IsAsked a header.at
  pub is_name : option_map (λ n. n.now) header.name ≡ text_at a (header.at + HEAD_SIZE)
  pub name_within : IfSome header.name (λ n. text_end (header.at + HEAD_SIZE) n.now ≤ length a)
  pub is_member : IsTrue header.member ↔ IsSomeMember a header.at
  pub is_used : IsTrue header.used ↔ IsUsed a header.at
  pub is_twice : IsTrue header.twice ↔ BreaksHeader Usual a LinkedTwice header.at
  pub has_same_name : ¬ BreaksHeader Usual a LinkedTwice header.at
      → IsTrue header.same_name ↔ BreaksHeader Usual a SameName header.at
  pub ends : IsEndOfMember a header.at header.end
