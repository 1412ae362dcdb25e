-- linux/fuse.h, fuse_out_header: a reply is its length, its error, its request's unique, and then
-- its data.
use Rattle.std.specs.Prelude.{ℕ, ◌+◌, ◌-◌, ◌^◌, List, ◌++◌, length}
use Rattle.fuse_wire.specs.declared.errno.Errno.{Errno}
use Rattle.fuse_wire.specs.declared.limits.TheConstants.{OUT_HEADER_SIZE}
use Rattle.fuse_wire.specs.Structures.{u32, u64, errno_number}

-- len, which counts the header too, error, unique: the header of a reply with n bytes of data
unfoldable pub reply_head : ℕ → ℕ → List ℕ
reply_head unique n = u32 (OUT_HEADER_SIZE + n) ++ u32 0 ++ u64 unique

-- a reply with data
unfoldable pub reply_with : ℕ → List ℕ → List ℕ
reply_with unique bytes = reply_head unique (length bytes) ++ bytes

-- the reply with an error: a header alone, with the negated number
unfoldable pub error_reply : ℕ → Errno → List ℕ
error_reply unique errno = u32 OUT_HEADER_SIZE ++ u32 (2 ^ 32 - errno_number errno) ++ u64 unique
