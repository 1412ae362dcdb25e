-- linux/fuse.h, fuse_in_header.len: what some bytes of a stream begin with.
use Rattle.std.specs.Prelude.{ℕ, List}
use Rattle.fuse_wire.specs.declared.framing.Framed.{Framed}
use Rattle.fuse_wire.specs.declared.framing.Framed.TheVariants.{More, Bad, Whole}
use Rattle.fuse_wire.specs.Stream.{BeginsMessage, IsBad, IsOpen}

-- the bytes begin with a message, or state a length that no message can have, or are open. Exactly
-- one of these holds, and in one way
abbrev pub Frames : List ℕ → Framed → Type 0
Frames bytes (Whole n) = BeginsMessage bytes n
Frames bytes (Bad n) = IsBad bytes n
Frames bytes More = IsOpen bytes
