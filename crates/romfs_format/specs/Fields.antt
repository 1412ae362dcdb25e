-- romfs.rst, the tables of the volume header and of a file header: the fields of an image.
use Rattle.std.specs.Prelude.{ℕ, zero, suc, ◌+◌, ◌*◌, ◌/◌, ◌%◌, ◌^◌, ◌≤◌, ◌==◌, ◌||◌, List, [], ◌∷◌, length, take, drop, Bool, Option, Some, None, nat_le, codes, bytes_eq, if◌then◌else◌}
use Rattle.std.specs.Option.{option_map, option_map_or}
use Rattle.byteorder.specs.Endian.{big_number}
use Rattle.romfs_format.specs.declared.limits.TheConstants.{HEAD_SIZE, NAME_FIELD_SIZE, SUMMED_SIZE}
use Rattle.romfs_format.specs.declared.head.Kind.{Kind}
use Rattle.romfs_format.specs.declared.head.Kind.TheVariants.{HardLink, Directory, Regular, SymLink, Block, Character, Socket, Fifo}

-- A list of bytes is a list of numbers; p is a place in it, counted from 0. From `root` on, a is
-- the list of accessible bytes of an image, and h a header, named by its place.

-- the big-endian word at p
unfoldable pub word : List ℕ → ℕ → ℕ
word b p = big_number 4 (drop p b)

-- n rounded up to a multiple of 16
abbrev pub padded : ℕ → ℕ
padded n = (n + 15) / 16 * 16

-- n with its low 4 bits cleared
abbrev pub cleared : ℕ → ℕ
cleared n = n / 16 * 16

-- the accessible bytes of b: as many as its full size says
unfoldable pub image : List ℕ → List ℕ
image b = take (word b 8) b

-- the bytes that the volume checksum covers
unfoldable pub summed : List ℕ → List ℕ
summed a = take SUMMED_SIZE a

-- the sum of the complete words
abbrev pub word_sum : List ℕ → ℕ
word_sum (x ∷ y ∷ z ∷ w ∷ bytes) = x * 2 ^ 24 + y * 2 ^ 16 + z * 2 ^ 8 + w + word_sum bytes
word_sum _ = 0

-- the bytes among which a name that begins at p must end
unfoldable pub name_field : List ℕ → ℕ → List ℕ
name_field a p = take NAME_FIELD_SIZE (drop p a)

-- the bytes before the first zero byte, if there is one
unfoldable pub ended : List ℕ → Option (List ℕ)
ended [] = None
ended (zero ∷ bytes) = Some []
ended (suc n ∷ bytes) = option_map (λ text. suc n ∷ text) (ended bytes)

-- the name is . or ..
abbrev pub is_dot_name : List ℕ → Bool
is_dot_name n = bytes_eq n (codes ".") || bytes_eq n (codes "..")

-- the end of the padding of a name that begins at p
abbrev pub text_end : ℕ → List ℕ → ℕ
text_end p text = p + padded (length text + 1)

-- the text, if its padding ends within the first n bytes
abbrev pub if_within : ℕ → ℕ → Option (List ℕ) → Option (List ℕ)
if_within n p None = None
if_within n p (Some text) = if nat_le (text_end p text) n then Some text else None

-- the name that begins at p, up to its first zero byte; none if it or its padding does not end in
-- time
abbrev pub text_at : List ℕ → ℕ → Option (List ℕ)
text_at a p = if_within (length a) p (ended (name_field a p))

-- the first header, which is the root's: it follows the volume name
unfoldable pub root : List ℕ → ℕ
root a = option_map_or (text_end HEAD_SIZE) (text_at a HEAD_SIZE) 0

-- the header lies in the image; only such a header has fields
abbrev pub IsInside : List ℕ → ℕ → Type 0
IsInside a h = (root a ≤ h) × (h + HEAD_SIZE ≤ length a)

-- the kind in the low three bits of a header's first word
abbrev pub kind_of : ℕ → Kind
kind_of zero = HardLink
kind_of (suc zero) = Directory
kind_of (suc (suc zero)) = Regular
kind_of (suc (suc (suc zero))) = SymLink
kind_of (suc (suc (suc (suc zero)))) = Block
kind_of (suc (suc (suc (suc (suc zero))))) = Character
kind_of (suc (suc (suc (suc (suc (suc zero)))))) = Socket
kind_of _ = Fifo

-- the kind of a header
abbrev pub kind : List ℕ → ℕ → Kind
kind a h = kind_of (word a h % 8)

-- the bit of value 8 says that the file is executable
abbrev pub exec : List ℕ → ℕ → Bool
exec a h = word a h / 8 % 2 == 1

-- the header after h; 0 if there is none
abbrev pub next : List ℕ → ℕ → ℕ
next a h = cleared (word a h)

-- spec.info
abbrev pub spec : List ℕ → ℕ → ℕ
spec a h = word a (h + 4)

-- the size of its data, in bytes
abbrev pub size : List ℕ → ℕ → ℕ
size a h = word a (h + 8)

-- the name of a header; none if it is not ended
abbrev pub name : List ℕ → ℕ → Option (List ℕ)
name a h = text_at a (h + HEAD_SIZE)

-- the start of the data of a header with this name
abbrev pub data_at : ℕ → List ℕ → ℕ
data_at h text = text_end (h + HEAD_SIZE) text

-- the header with this name, up to the end of the padding
unfoldable pub header_bytes : List ℕ → ℕ → List ℕ → List ℕ
header_bytes a h text = take (HEAD_SIZE + padded (length text + 1)) (drop h a)
