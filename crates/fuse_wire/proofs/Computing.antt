-- What the proofs of worked examples open, so that requests are read and replies are written out by
-- computation.
use Rattle.std.specs.Prelude.{⊤}
use Rattle.fuse_wire.specs.Requests.{op_of, forgets_of}
use Rattle.fuse_wire.specs.Structures.{u16, u32, u64, zeros, init_out, init_out_22, init_out_rest, attr, entry_out, negative_entry_out, attr_out, open_out, getxattr_out, statfs_out, dirent_front, dirent, direntplus}
use Rattle.fuse_wire.specs.Replies.{reply_head, reply_with, error_reply}

-- requests, structures and replies
unfoldable pub wire_on_literals : ⊤
unfolding op_of forgets_of u16 u32 u64 zeros init_out init_out_22 init_out_rest attr entry_out negative_entry_out attr_out open_out
    getxattr_out statfs_out dirent_front dirent direntplus reply_head reply_with error_reply
wire_on_literals = tt
