-- The lines of a listing: a shown path each, with its node's number and attributes.
use Rattle.std.specs.Prelude.{ℕ, ◌+◌, ◌/◌, ◌%◌, ◌^◌, List, [], ◌∷◌, ◌++◌, Bool, ◌&&◌, ◌==◌, not, nat_lt, nat_le, flat_map, if◌then◌else◌}
use Rattle.std.specs.Fmt.{decimal}
use Rattle.stack_model.specs.Stack.{Path}
use Rattle.stack_model.specs.Listing.{Entry, Stacked}
use Rattle.stack_model.specs.Numbers.{Place, place, number}
use Rattle.stack_model.specs.Attributes.{mode_at, size_at, nlink}

-- a lower-case hexadecimal digit: 48 is `0`, and 87 + 10 is `a`
abbrev pub hex_digit : ℕ → ℕ
hex_digit n = if nat_lt n 10 then 48 + n else 87 + n

-- a visible character of ASCII that is not `\`
abbrev pub is_unescaped : ℕ → Bool
is_unescaped byte = nat_le 0x21 byte && nat_le byte 0x7e && not (byte == 92)

-- a byte of a name as it is printed: itself, or `\` and two hexadecimal digits
abbrev pub escaped : ℕ → List ℕ
escaped byte =
    if is_unescaped byte then byte ∷ [] else 92 ∷ hex_digit (byte / 16) ∷ hex_digit (byte % 16) ∷ []

-- a name as it is printed
unfoldable pub name_text : List ℕ → List ℕ
name_text name = flat_map escaped name

-- names, each after a `/`
abbrev pub names_text : Path → List ℕ
names_text path = flat_map (λ name. 47 ∷ name_text name) path

-- the printed form of a path, from the text of its names; the root, which has none, is `/`
abbrev pub printed : List ℕ → List ℕ
printed [] = 47 ∷ []
printed (byte ∷ text) = byte ∷ text

-- a path as it is printed
abbrev pub path_text : Path → List ℕ
path_text path = printed (names_text path)

-- the last octal digit
abbrev pub octal_digit : ℕ → ℕ
octal_digit n = 48 + n % 8

-- a mode in six octal digits
abbrev pub mode_text : ℕ → List ℕ
mode_text n =
    octal_digit (n / 8 ^ 5) ∷ octal_digit (n / 8 ^ 4) ∷ octal_digit (n / 8 ^ 3) ∷ octal_digit
    (n / 8 ^ 2) ∷ octal_digit (n / 8) ∷ octal_digit n ∷ []

-- a text followed by a space
abbrev pub spaced : List ℕ → List ℕ
spaced text = text ++ 32 ∷ []

-- number, mode, nlink, size and layer, each followed by a space
abbrev pub fields_text : ℕ → ℕ → ℕ → ℕ → ℕ → List ℕ
fields_text number mode nlink size layer =
    spaced (decimal number) ++ spaced (mode_text mode) ++ spaced (decimal nlink)
    ++ spaced (decimal size) ++ spaced (decimal layer)

module _ (stack : Stacked) where
  -- the fields of the place, and the text of a path
  unfoldable pub line_with : Place → List ℕ → List ℕ
  line_with p text =
      fields_text (number stack.entries p) (mode_at stack p) (nlink stack p)
      (size_at stack.layers p) p.0
      ++ text ++ 10 ∷ []

  -- the line of a place and a path
  abbrev pub line_of : Place → Path → List ℕ
  line_of p path = line_with p (path_text path)

  -- the line of a shown path
  abbrev pub line : Entry → List ℕ
  line e = line_of (place e) e.path

  -- a line for each shown path, in order
  abbrev pub lines : List ℕ
  lines = flat_map line stack.entries
