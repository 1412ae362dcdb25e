-- The owner of nodes on the command line: two numbers joined by a colon.
use Rattle.std.specs.Prelude.{◌≡◌, ◌<◌, ◌^◌, ◌==◌, Option, IfSome}
use Rattle.std.specs.List.{after_first, before_first}
use Rattle.std.specs.Option.{option_map_or}
use Rattle.std.specs.Str.Parse.{IsNumeral, digits_value}
use Rattle.clap.specs.Walk.{Text}
use Rattle.stack_model.specs.declared.owner.Owner.{Owner}

-- the text is a decimal number below 2 ^ 32, only digits
abbrev pub IsId : Text → Type 0
IsId text = IsNumeral 10 text × (digits_value 10 text < 2 ^ 32)

-- the text before the first colon
abbrev pub user_in : Text → Text
user_in = before_first (λ c. c == 58)

-- and after it
abbrev pub group_in : Text → Text
group_in = after_first (λ c. c == 58)

-- the text is two such numbers, joined by a colon
abbrev pub IsOwner : Text → Type 0
IsOwner text = IsId (user_in text) × IsId (group_in text)

-- the user and the group of these numbers
abbrev pub owner_in : Text → Owner
owner_in text =
    record { uid = digits_value 10 (user_in text); gid = digits_value 10 (group_in text) }

-- the owner in a text, or user and group 0 without a text
abbrev pub owner_or_root : Option Text → Owner
owner_or_root text = option_map_or owner_in text (record { uid = 0; gid = 0 })

-- the owner of an option: the given one, or otherwise user and group 0
pub record IsOwnerOf (given : Option Text) (owner : Owner) : Type 0 where
  pub numbered : IfSome given IsOwner
  pub value : owner ≡ owner_or_root given
