-- What a client may get: the defined reply; or, if its data are read, those that reads returned,
-- after the same header, or EIO.
use Rattle.std.specs.Prelude.{◌≡◌, ◌⊎◌, ◌<◌, ◌≤◌, ◌+◌, ◌-◌, ℕ, List, ◌++◌, length, take, drop, Bool, true, false, Option, Some, None, Result, OnOk, OnErr}
use Rattle.devices.specs.Sources.{Source, MayGive, MayLack}
use Rattle.fuse_wire.specs.declared.errno.Errno.TheVariants.{EIO}
use Rattle.fuse_wire.specs.declared.limits.TheConstants.{OUT_HEADER_SIZE}
use Rattle.fuse_wire.specs.Replies.{error_reply}
use Rattle.fuse_wire.specs.Appends.{Filled}

-- what the data of a reply are read from, and from which place on
pub record Reading : Type 0 where
  pub source : Source
  pub place : ℕ

-- as many bytes of data as are defined, which reads returned, after the header that is defined
pub record HasRead (reading : Reading) (defined bytes : List ℕ) : Type 0 where
  pub long : length bytes ≡ length defined
  pub head : take OUT_HEADER_SIZE bytes ≡ take OUT_HEADER_SIZE defined
  pub given : MayGive reading.source reading.place (drop OUT_HEADER_SIZE bytes)

-- there are data, and a read of them failed, or the source ends before they do
pub record IsUnread (reading : Reading) (unique : ℕ) (defined bytes : List ℕ) : Type 0 where
  pub some : OUT_HEADER_SIZE < length defined
  pub is : bytes ≡ error_reply unique EIO
  pub lacks : MayLack reading.source (reading.place + (length defined - OUT_HEADER_SIZE))

-- a possible reply to a request whose reply is defined so, and whose data are read, or are not
abbrev pub IsTold : Option Reading → ℕ → List ℕ → List ℕ → Type 0
IsTold None unique defined bytes = bytes ≡ defined
IsTold (Some reading) unique defined bytes =
    HasRead reading defined bytes ⊎ IsUnread reading unique defined bytes

-- the same, if the bytes from which its data are read are shown: the defined reply, or EIO
abbrev pub IsRight : Option Reading → ℕ → List ℕ → List ℕ → Type 0
IsRight None unique defined bytes = bytes ≡ defined
IsRight (Some reading) unique defined bytes =
    (bytes ≡ defined) ⊎ IsUnread reading unique defined bytes

-- the data of a reply are read from this source, from this place on
abbrev pub read_from : Source → ℕ → Option Reading
read_from source place = Some (record { source = source; place = place })

-- the call appends a possible reply; or, if there is no room for it and memory is refused, nothing
abbrev pub AppendsTold : {E : Type 0} → Result (Unit {0}) E → Filled → Filled → Option Reading → ℕ
    → List ℕ → Type 0
AppendsTold result before after reading unique defined =
    OnOk result ((told : List ℕ) × IsTold reading unique defined told
    × (after.items ≡ before.items ++ told))
    × OnErr result (after.items ≡ before.items)
    × OnErr result (before.room < length before.items + length defined)
    × (before.room ≤ after.room)

-- after the old bytes is a possible reply
abbrev pub TakesTold : Option Reading → ℕ → List ℕ → List ℕ → List ℕ → Type 0
TakesTold reading unique defined old new =
    (told : List ℕ) × IsTold reading unique defined told × (new ≡ old ++ told)

-- after the old bytes are n bytes. If true, the source may give them from the place on; if false,
-- there are some, and the source may lack them
pub record Fills (source : Source) (place n : ℕ) (full : Bool) (old new : List ℕ) : Type 0 where
  pub filled : List ℕ
  pub long : length filled ≡ n
  pub behind : new ≡ old ++ filled
  pub given : full ≡ true → MayGive source place filled
  pub some : full ≡ false → 0 < n
  pub lacks : full ≡ false → MayLack source (place + n)
