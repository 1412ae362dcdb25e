-- linux/fuse.h, fuse_in_header.len: how a stream of bytes is cut into messages.
use Rattle.std.specs.Prelude.{◌≡◌, ℕ, ◌<◌, ◌≤◌, ◌⊎◌, List, [], ◌++◌, length, drop}
use Rattle.std.specs.List.{AllByRecursion, flat_map}
use Rattle.byteorder.specs.Endian.{little_number}
use Rattle.fuse_wire.specs.declared.limits.TheConstants.{HEADER_SIZE, MAX_MESSAGE_SIZE}

-- the number in the n bytes from place p on, the lowest byte first
abbrev pub field : ℕ → ℕ → List ℕ → ℕ
field n p m = little_number n (drop p m)

-- a message's length is in its first four bytes
abbrev pub said_length : List ℕ → ℕ
said_length m = little_number 4 m

-- at least the header, at most the header with some of it and 1 MiB of data
abbrev pub IsGoodLength : ℕ → Type 0
IsGoodLength n = (HEADER_SIZE ≤ n) × (n ≤ MAX_MESSAGE_SIZE)

-- a message states its own length
pub record IsMessage (m : List ℕ) : Type 0 where
  pub good : IsGoodLength (length m)
  pub says : said_length m ≡ length m

-- a message that has begun, and lacks some bytes
abbrev pub IsUnfinished : List ℕ → Type 0
IsUnfinished rest =
    (0 < length rest) × ((length rest < 4)
    ⊎ (IsGoodLength (said_length rest) × (length rest < said_length rest)))

-- nothing, or an unfinished message
abbrev pub IsOpen : List ℕ → Type 0
IsOpen rest = (rest ≡ []) ⊎ IsUnfinished rest

-- four bytes that state n, which is no message's length
pub record IsBad (rest : List ℕ) (n : ℕ) : Type 0 where
  pub long : 4 ≤ length rest
  pub says : said_length rest ≡ n
  pub bad : ¬ IsGoodLength n

-- what may follow the messages of a stream
abbrev pub IsRest : List ℕ → Type 0
IsRest rest = IsOpen rest ⊎ ((n : ℕ) × IsBad rest n)

-- the stream is these messages, and then the rest
pub record IsSplit (stream : List ℕ) (messages : List (List ℕ)) (rest : List ℕ) : Type 0 where
  pub whole : stream ≡ flat_map (λ m. m) messages ++ rest
  pub each : AllByRecursion IsMessage messages
  pub tail : IsRest rest

-- the bytes begin with a message of this length
pub record BeginsMessage (bytes : List ℕ) (n : ℕ) : Type 0 where
  pub message : List ℕ
  pub after : List ℕ
  pub is : bytes ≡ message ++ after
  pub whole : IsMessage message
  pub sized : length message ≡ n
