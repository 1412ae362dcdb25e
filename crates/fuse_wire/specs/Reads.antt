-- The content of a request that was read, without the places of its names and items in memory.
use Rattle.std.specs.Prelude.{◌≡◌, ◌/◌, List, [], ◌∷◌, length, Option, MatchOption}
use Rattle.fuse_wire.specs.declared.forget.Forget.{Forget}
use Rattle.fuse_wire.specs.declared.forget.Forgets.{Forgets}
use Rattle.fuse_wire.specs.declared.request.Op.{Op as Read}
use Rattle.fuse_wire.specs.declared.request.Op.TheVariants.{Init, Lookup, Forget as ForgetOne, Getattr, Readlink, Open, Read as ReadFile, Statfs, Release, Fsync, Flush, Opendir, Readdir, Releasedir, Fsyncdir, Interrupt, Destroy, BatchForget, Readdirplus, Getxattr, Listxattr, Modify, Other, Malformed}
use Rattle.fuse_wire.specs.declared.request.Request.{Request}
use Rattle.fuse_wire.specs.Requests.{Op, init, at_node, lookup, getattr, readlink, open_file, read, opendir, readdir, readdirplus, getxattr, listxattr, statfs, done, release, fsync, flush, releasedir, fsyncdir, destroy, silent, forget, batch_forget, interrupt, modify, other, malformed, forgets_in, Asked}

-- the items, which lie side by side in their message
abbrev pub items_of : Forgets → List Forget
items_of f = forgets_in (length f.bytes.now / 16) f.bytes.now

-- the first item, and those after it, if there is one
abbrev pub SplitsFirst : Forgets → Option (Forget × Forgets) → Type 0
SplitsFirst f split = MatchOption split (items_of f ≡ []) (λ x. items_of f ≡ x.0 ∷ items_of x.1)

-- the request
abbrev pub op_said : Read → Op
op_said (Init major minor readahead flags) = init major minor readahead flags
op_said (Lookup name) = at_node (lookup name.now)
op_said (ForgetOne nlookup) = silent (forget nlookup)
op_said Getattr = at_node getattr
op_said Readlink = at_node readlink
op_said (Open flags) = at_node (open_file flags)
op_said (ReadFile offset size) = at_node (read offset size)
op_said Statfs = statfs
op_said Release = done release
op_said Fsync = done fsync
op_said Flush = done flush
op_said Opendir = at_node opendir
op_said (Readdir offset size) = at_node (readdir offset size)
op_said Releasedir = done releasedir
op_said Fsyncdir = done fsyncdir
op_said Interrupt = silent interrupt
op_said Destroy = done destroy
op_said (BatchForget items) = silent (batch_forget (items_of items))
op_said (Readdirplus offset size) = at_node (readdirplus offset size)
op_said (Getxattr size name) = at_node (getxattr size name.now)
op_said (Listxattr size) = at_node (listxattr size)
op_said Modify = modify
op_said Other = other
op_said (Malformed opcode) = malformed opcode

-- a request
abbrev pub asked_of : Request → Asked
asked_of r = record { unique = r.unique; node = r.node; op = op_said r.op }
