-- Digests of images on the command line: what `fsverity digest` prints, or `-`.
use Rattle.std.specs.Prelude.{◌≡◌, ◌==◌, ℕ, true, List, Option, Some, None, IfSome, is_some, length, map, option_map, replicate, unwrap_or, codes, if◌then◌else◌}
use Rattle.std.specs.List.{All, after_first, before_first}
use Rattle.std.specs.Option.{option_map_or}
use Rattle.std.specs.Result.{result_ok}
use Rattle.std.specs.Str.{bytes_eq}
use Rattle.clap.specs.Walk.{Text}
use Rattle.hex.specs.Hex.{decode_sized}
use Rattle.romfs_seal.specs.declared.digest.Digest.{Digest}
use Rattle.romfs_seal.specs.declared.digest.Digest.TheVariants.{Short, Long}

-- the text before the first colon, the name of the algorithm
abbrev pub algorithm_in : Text → Text
algorithm_in = before_first (λ c. c == 58)

-- and after it, the hex digits
abbrev pub digits_in : Text → Text
digits_in = after_first (λ c. c == 58)

-- the digest of these hex digits: 64 of SHA-256, or 128 of SHA-512
abbrev pub digest_of : Text → Text → Option Digest
digest_of algorithm digits =
    if bytes_eq algorithm (codes "sha256")
    then option_map Short (result_ok (decode_sized digits 32))
    else if bytes_eq algorithm (codes "sha512")
    then option_map Long (result_ok (decode_sized digits 64))
    else None

-- the digest in a text
abbrev pub digest_in : Text → Option Digest
digest_in text = digest_of (algorithm_in text) (digits_in text)

-- what a text says about an image, if anything: `-`, no digest; or its digest
abbrev pub named_in : Text → Option (Option Digest)
named_in text = if bytes_eq text (codes "-") then Some None else option_map Some (digest_in text)

-- each of these texts says it
abbrev pub AreNamed : List Text → Type 0
AreNamed texts = All (λ text. is_some (named_in text) ≡ true) texts

-- what they say
abbrev pub digests_named : List Text → List (Option Digest)
digests_named texts = map (λ text. unwrap_or (named_in text) None) texts

-- the digests given for this many images are one for each, or none at all
pub record AreDigests (count : ℕ) (given : Option (List Text)) : Type 0 where
  pub named : IfSome given AreNamed
  pub each : IfSome given (λ texts. length texts ≡ count)

-- the digest of each of this many images, in their order
abbrev pub digests_for : ℕ → Option (List Text) → List (Option Digest)
digests_for count given = option_map_or digests_named given (replicate count None)
