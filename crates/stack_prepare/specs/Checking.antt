-- The result of checking a run of images.
use Rattle.std.specs.Prelude.{◌≡◌, ℕ, ◌+◌, ◌⊎◌, List, ◌++◌, length, map, All, ⊤, IfOk, IfErr, Ok, Err}
use Rattle.std.specs.declared.result.Result.{Result}
use Rattle.romfs_format.specs.Fields.{image}
use Rattle.romfs_format.specs.Rules.{IsSound}
use Rattle.romfs_format.specs.Extended.{Extended}
use Rattle.romfs_format.specs.Trailer.{lists_shown, rows_shown}
use Rattle.romfs_format.specs.declared.attribute_row.AttributeRow.{AttributeRow}
use Rattle.romfs_format.specs.declared.rule.Profile.{Profile}
use Rattle.romfs_held.specs.declared.image.HeldImage.{HeldImage}
use Rattle.romfs_held.specs.Images.{held_bytes, is_whole}
use Rattle.romfs_reader.specs.Images.{HeldBytes}
use Rattle.stack_prepare.specs.declared.checking.Checked.{Checked}
use Rattle.stack_prepare.specs.declared.refusal.Refusal.{Refusal}
use Rattle.stack_prepare.specs.declared.refusal.Refusal.TheVariants.{Layer, Layers, Memory}
use Rattle.stack_prepare.specs.Layers.{IsFew, IsLowestBroken}

-- an image that is sound, by what is held of it: its accessible bytes, and whether all are held
abbrev pub accessible : {A : Type 0} → HeldImage A → HeldBytes
accessible held = record { bytes = image (held_bytes held); whole = is_whole held }

-- the rows of an image that a profile shows
abbrev pub rows_of : {A : Type 0} → Profile → HeldImage A → List AttributeRow
rows_of profile held = rows_shown profile (held_bytes held)

-- and their lists of extended attributes
abbrev pub lists_of : {A : Type 0} → Profile → HeldImage A → List (List Extended)
lists_of profile held = lists_shown profile (held_bytes held)

-- all images keep the rules of the profile, and these are their accessible bytes, their rows and
-- the lists of these
pub record AreChecked {A : Type 0} (profile : Profile) (images : List (HeldImage A))
    (checked : Checked A) : Type 0 where
  pub sound : All (IsSound profile) (map held_bytes images)
  pub are : checked.images.items ≡ map accessible images
  pub rows_are : checked.rows.items ≡ map (rows_of profile) images
  pub lists_are : checked.lists.items ≡ map (lists_of profile) images

-- of images numbered from this number on, the lowest that breaks a rule, and its fault; or memory
-- ran out
abbrev pub IsBroken : ℕ → Profile → List (List ℕ) → Refusal → Type 0
IsBroken first profile images (Layer layer fault) =
    (n : ℕ) × (layer ≡ first + n) × IsLowestBroken profile images n fault
IsBroken first profile images Memory = ⊤
IsBroken first profile images (Layers count) = ⊥

-- the images checked, or why not
abbrev pub Checks : {A : Type 0} → ℕ → Profile → List (HeldImage A) → Result (Checked A) Refusal
    → Type 0
Checks first profile images result =
    IfOk result (AreChecked profile images)
    × IfErr result (IsBroken first profile (map held_bytes images))

-- these are the images of both halves of a run
pub record AreBoth {A : Type 0} (low high all : Checked A) : Type 0 where
  pub images_are : all.images.items ≡ low.images.items ++ high.images.items
  pub rows_are : all.rows.items ≡ low.rows.items ++ high.rows.items
  pub lists_are : all.lists.items ≡ low.lists.items ++ high.lists.items

-- both halves of a run were checked, and these are the images of both
abbrev pub AreJoined : {A : Type 0} → Result (Checked A) Refusal → Result (Checked A) Refusal
    → Checked A → Type 0
AreJoined (Ok low) (Ok high) all = AreBoth low high all
AreJoined _ _ all = ⊥

-- the first refusal of two halves of a run: the lower half's, otherwise the upper half's
abbrev pub IsFirstRefusal : {T : Type 0} → Result T Refusal → Result T Refusal → Refusal → Type 0
IsFirstRefusal (Err low) high refusal = refusal ≡ low
IsFirstRefusal (Ok low) (Err high) refusal = refusal ≡ high
IsFirstRefusal (Ok low) (Ok high) refusal = ⊥

-- the result of two halves of a run: the images of both; or lack of memory, or why the first was
-- refused
abbrev pub Joins : {A : Type 0} → Result (Checked A) Refusal → Result (Checked A) Refusal
    → Result (Checked A) Refusal → Type 0
Joins low high (Ok all) = AreJoined low high all
Joins low high (Err refusal) = (refusal ≡ Memory) ⊎ IsFirstRefusal low high refusal

-- 1 to 128 images that keep the rules of the profile, and what is kept of them
pub record AreSeen {A : Type 0} (profile : Profile) (images : List (HeldImage A))
    (checked : Checked A) : Type 0 where
  pub few : IsFew (length images)
  pub checked_are : AreChecked profile images checked
