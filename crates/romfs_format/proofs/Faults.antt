-- An image has one fault (one_fault): of two that differ in stage, place or number one is named before the other, and rules with one number
-- are one rule (one_rule). What breaks a rule breaks it under each profile that requires no less (carried), so what is sound there is sound
-- (sound_too).
use Rattle.std.proofs.Common.{◌≡◌, ◌∙◌, sym, ap, ℕ, ◌≤◌, ◌↔◌, inl, inr, true, false, IsTrue, List, [], ◌∷◌, length, get_or, refl}
use Rattle.std.proofs.lemmas.Bool.{cases_lt, cases_order, false≢true}
use Rattle.romfs_format.specs.declared.rule.Rule.{Rule}
use Rattle.romfs_format.specs.declared.rule.Rule.TheVariants.{Short, Magic, FullSize, BadSum, VolumeName, NoRoot, Outside, NameOpen, NameBad, DataOutside, TargetLong, LinkedTwice, SameName, LinkLoop, LinkDirectory, MajorLarge, HeaderSum, TooDeep, Attributes}
use Rattle.romfs_format.specs.declared.rule.Profile.{Profile}
use Rattle.romfs_format.specs.declared.rule.Profile.TheVariants.{Usual, Strict, UsualWithAttributes, StrictWithAttributes}
use Rattle.romfs_format.specs.Fields.{word}
use Rattle.romfs_format.specs.Profiles.{asks_sums, reads_attributes}
use Rattle.romfs_format.specs.Trailer.{trailer_at, IsTrailerBroken}
use Rattle.romfs_format.specs.Rules.{rule_number, stage, Breaks, IsFault, IsSound}

rules : List Rule
rules = Short ∷ Magic ∷ FullSize ∷ BadSum ∷ VolumeName ∷ NoRoot ∷ Outside ∷ NameOpen ∷ NameBad ∷ DataOutside
    ∷ TargetLong ∷ LinkedTwice ∷ SameName ∷ LinkLoop ∷ LinkDirectory ∷ MajorLarge ∷ HeaderSum ∷ TooDeep ∷ Attributes ∷ []

numbered : (r : Rule) → get_or rules (rule_number r) Short ≡ r
unfolding rules
numbered Short = refl
numbered Magic = refl
numbered FullSize = refl
numbered BadSum = refl
numbered VolumeName = refl
numbered NoRoot = refl
numbered Outside = refl
numbered NameOpen = refl
numbered NameBad = refl
numbered DataOutside = refl
numbered TargetLong = refl
numbered LinkedTwice = refl
numbered SameName = refl
numbered LinkLoop = refl
numbered LinkDirectory = refl
numbered MajorLarge = refl
numbered HeaderSum = refl
numbered TooDeep = refl
numbered Attributes = refl

-- rules with one number are one rule
pub one_rule : (r s : Rule) → rule_number r ≡ rule_number s → r ≡ s
one_rule r s e = sym (numbered r) ∙ ap (λ n. get_or rules n Short) e ∙ numbered s

-- two faults of one image under one profile are of the same rule, at the same place
pub one_fault : (profile : Profile) (b : List ℕ) (r s : Rule) (p q : ℕ) → IsFault profile b r p → IsFault profile b s q
    → (r ≡ s) × (p ≡ q)
one_fault profile b r s p q x y =
    elim (cases_order (stage r) (stage s)) [
      | inr (inl h) ↦ absurd (y.first r p x.broken (inl h))
      | inr (inr h) ↦ absurd (x.first s q y.broken (inl h))
      | inl e ↦ elim (cases_order p q) [
        | inr (inl h) ↦ absurd (y.first r p x.broken (inr (e, inl h)))
        | inr (inr h) ↦ absurd (x.first s q y.broken (inr (sym e, inl h)))
        | inl f ↦ elim (cases_order (rule_number r) (rule_number s)) [
          | inr (inl h) ↦ absurd (y.first r p x.broken (inr (e, inr (f, h))))
          | inr (inr h) ↦ absurd (x.first s q y.broken (inr (sym e, inr (sym f, h))))
          | inl g ↦ (one_rule r s g, f)
        ]
      ]
    ]

-- an image that is sound under a profile has no fault under it
pub no_fault : (profile : Profile) (b : List ℕ) (r : Rule) (p : ℕ) → IsSound profile b → ¬ IsFault profile b r p
no_fault profile b r p s f = s.keeps r p f.broken

-- a sound image has its full size
pub full_size : (profile : Profile) (b : List ℕ) → IsSound profile b → (16 ≤ word b 8) × (word b 8 ≤ length b)
full_size profile b s = (
  elim (cases_lt (word b 8) 16) [ inl l ↦ absurd (s.keeps FullSize 8 (inr l, refl)) | inr l ↦ l ],
  elim (cases_lt (length b) (word b 8)) [ inl l ↦ absurd (s.keeps FullSize 8 (inl l, refl)) | inr l ↦ l ],
)

-- what breaks a rule of one profile breaks it under another that requires no less of these bytes
module _ (p q : Profile) (b : List ℕ) (sums : IsTrue (asks_sums p) → IsTrue (asks_sums q))
    (attributes : IsTrue (reads_attributes p) → IsTrailerBroken b → IsTrue (reads_attributes q)) where
  pub carried : (r : Rule) (h : ℕ) → Breaks p b r h → Breaks q b r h
  carried Short h x = x
  carried Magic h x = x
  carried FullSize h x = x
  carried BadSum h x = x
  carried VolumeName h x = x
  carried NoRoot h x = x
  carried Outside h x = x
  carried NameOpen h x = x
  carried NameBad h x = x
  carried DataOutside h x = x
  carried TargetLong h x = x
  carried LinkedTwice h x = x
  carried SameName h x = x
  carried LinkLoop h x = x
  carried LinkDirectory h x = x
  carried MajorLarge h x = x
  carried HeaderSum h x = (sums x.0, x.1, x.2, x.3)
  carried TooDeep h x = x
  carried Attributes h x = (attributes x.0 x.1, x.1, x.2)

  -- and what is sound under the other is sound under the one
  pub sound_too : IsSound q b → IsSound p b
  sound_too s = record { keeps = λ r h x. s.keeps r h (carried r h x) }

-- what is sound under any profile is sound under the usual one
pub profile_sound : (profile : Profile) (b : List ℕ) → IsSound profile b → IsSound Usual b
profile_sound profile b = sound_too Usual profile b (λ t. absurd (false≢true t)) (λ t x. absurd (false≢true t))

-- what is sound under the strict profile is sound under the usual one
pub strict_sound : (b : List ℕ) → IsSound Strict b → IsSound Usual b
strict_sound b = profile_sound Strict b

-- a profile that reads attributes requires a good trailer, and besides what one without attributes requires with the same choice of sums
module _ (with without : Profile) (same : asks_sums without ≡ asks_sums with) (reads : reads_attributes with ≡ true)
    (skips : reads_attributes without ≡ false) (b : List ℕ) where
  pub one_rule_more : IsSound with b ↔ (IsSound without b × ¬ IsTrailerBroken b)
  one_rule_more = (
    λ s. (
      sound_too without with b (λ t. sym same ∙ t) (λ t x. absurd (false≢true (sym skips ∙ t))) s,
      λ x. s.keeps Attributes (trailer_at b) (reads, x, refl),
    ),
    λ s. sound_too with without b (λ t. same ∙ t) (λ t x. absurd (s.1 x)) s.0,
  )

-- the usual profile and the strict one, with attributes and without
pub with_usual : (b : List ℕ) → IsSound UsualWithAttributes b ↔ (IsSound Usual b × ¬ IsTrailerBroken b)
with_usual = one_rule_more UsualWithAttributes Usual refl refl refl

pub with_strict : (b : List ℕ) → IsSound StrictWithAttributes b ↔ (IsSound Strict b × ¬ IsTrailerBroken b)
with_strict = one_rule_more StrictWithAttributes Strict refl refl refl
