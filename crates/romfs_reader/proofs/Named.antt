-- What the name that was read says about the true one, with the empty name for one that is not ended: a name with bytes is ended
-- (`some_name`), and none is `.` or `..` (`dotted`), as none of more than two bytes is (`no_dots`). Beyond the image there is none
-- (`unnamed`).
use Rattle.std.proofs.Common.{◌≡◌, ◌≢◌, ◌∙◌, sym, ap, ℕ, ◌+◌, ◌<◌, List, [], length, Option, Some, None, IsSome, Bool, true, false, refl, arith}
use Rattle.std.specs.Prelude.{codes, unwrap_or}
use Rattle.std.specs.Str.{bytes_eq}
use Rattle.std.proofs.lemmas.Slice.Eq.{bytes_eq-Decides}
use Rattle.std.specs.Option.{option_map_or}
use Rattle.romfs_format.specs.Fields.{name, is_dot_name}
use Rattle.romfs_format.specs.Heads.{name_of}
use Rattle.romfs_held.proofs.NameBytes.{text_bytes}

some_text : (o : Option (List ℕ)) → length (unwrap_or o []) ≢ 0 → IsSome o
some_text None n = absurd (n refl)
some_text (Some text) n = refl

-- if the name that was read has bytes, the header's name is ended
pub some_name : (a : List ℕ) (h : ℕ) → length (name_of a h) ≢ 0 → IsSome (name a h)
some_name a h = some_text (name a h)

dotted_text : (o : Option (List ℕ)) → is_dot_name (unwrap_or o []) ≡ option_map_or is_dot_name o false
dotted_text None = refl
dotted_text (Some text) = refl

-- the name that was read is `.` or `..` exactly if the header has such a name
pub dotted : (a : List ℕ) (h : ℕ) → is_dot_name (name_of a h) ≡ option_map_or is_dot_name (name a h) false
dotted a h = dotted_text (name a h)

-- a name that is longer than `..` is neither
longer : (n m : List ℕ) → length m < length n → bytes_eq n m ≡ false
longer n m l = pick (bytes_eq n m) refl
  where
    pick : (b : Bool) → b ≡ bytes_eq n m → b ≡ false
    pick false e = refl
    pick true e = absurd (let same : n ≡ m = (bytes_eq-Decides n m).0 (sym e) in let g = ap length same in omega arith)

pub no_dots : (a : List ℕ) (h : ℕ) → 2 < length (name_of a h) → option_map_or is_dot_name (name a h) false ≡ false
no_dots a h l = sym (dotted a h) ∙ rw (longer (name_of a h) (codes ".") (omega arith), longer (name_of a h) (codes "..") (omega arith)) refl

-- no name begins beyond the image
pub unnamed : (a : List ℕ) (h : ℕ) → length a < h + 16 → name_of a h ≡ []
unnamed a h l = none (name a h) refl
  where
    none : (o : Option (List ℕ)) → o ≡ name a h → unwrap_or o [] ≡ []
    none None e = refl
    none (Some text) e = absurd (let within = (text_bytes a text (h + 16) (sym e)).0 in omega arith)
