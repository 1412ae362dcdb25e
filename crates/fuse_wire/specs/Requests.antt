-- linux/fuse.h, fuse_in_header and the structures after it: what a message requests.
use Rattle.std.specs.Prelude.{ℕ, zero, suc, ◌/◌, List, [], ◌∷◌, length, drop, min, Bool, ◌==◌, nat_lt, Option, Some, None, find, if◌then◌else◌}
use Rattle.std.specs.List.{list_any}
use Rattle.std.specs.Option.{option_map, option_map_or}
use Rattle.fuse_wire.specs.declared.limits.TheConstants.{HEADER_SIZE}
use Rattle.fuse_wire.specs.declared.forget.Forget.{Forget}
use Rattle.fuse_wire.specs.declared.opcode.TheConstants.{LOOKUP, FORGET, GETATTR, SETATTR, READLINK, SYMLINK, MKNOD, MKDIR, UNLINK, RMDIR, RENAME, LINK, OPEN, READ, WRITE, STATFS, RELEASE, FSYNC, SETXATTR, GETXATTR, LISTXATTR, REMOVEXATTR, FLUSH, INIT, OPENDIR, READDIR, RELEASEDIR, FSYNCDIR, CREATE, INTERRUPT, DESTROY, BATCH_FORGET, FALLOCATE, READDIRPLUS, RENAME2, COPY_FILE_RANGE}
use Rattle.fuse_wire.specs.Stream.{field}

-- what is requested about a node, with the fields that answers use
pub data NodeOp : Type 0 where
  lookup : (name : List ℕ) → NodeOp
  getattr readlink : NodeOp
  open_file : (flags : ℕ) → NodeOp
  read : (offset size : ℕ) → NodeOp
  opendir : NodeOp
  readdir readdirplus : (offset size : ℕ) → NodeOp
  getxattr : (size : ℕ) (name : List ℕ) → NodeOp
  listxattr : (size : ℕ) → NodeOp

-- requests that are answered without data, whatever the node
pub data DoneOp : Type 0 where
  release fsync flush releasedir fsyncdir destroy : DoneOp

-- requests without a reply
pub data SilentOp : Type 0 where
  forget : (nlookup : ℕ) → SilentOp
  batch_forget : (items : List Forget) → SilentOp
  interrupt : SilentOp

-- a request. A malformed one has a served opcode and a body that is shorter than its structure, or
-- a name that is not valid
pub data Op : Type 0 where
  init : (major minor readahead flags : ℕ) → Op
  at_node : (op : NodeOp) → Op
  statfs : Op
  done : (op : DoneOp) → Op
  silent : (op : SilentOp) → Op
  modify other : Op
  malformed : (opcode : ℕ) → Op

-- the bytes before the first zero byte, and those after it
abbrev pub cut_at_zero : List ℕ → Option (List ℕ × List ℕ)
cut_at_zero [] = None
cut_at_zero (b ∷ bytes) =
    if b == 0 then Some ([], bytes) else option_map (λ cut. (b ∷ cut.0, cut.1)) (cut_at_zero bytes)

-- a name is not empty, and its zero byte is the last of the body
abbrev pub body_name : Option (List ℕ × List ℕ) → Option (List ℕ)
body_name (Some (b ∷ name, [])) = Some (b ∷ name)
body_name _ = None

-- what a LOOKUP requests with a body
abbrev pub lookup_of : List ℕ → Op
lookup_of body =
    option_map_or (λ name. at_node (lookup name)) (body_name (cut_at_zero body)) (malformed LOOKUP)

-- a body that holds a structure of n bytes; what follows it is ignored
abbrev pub sized : ℕ → ℕ → (List ℕ → Op) → List ℕ → Op
sized opcode n op body = if nat_lt (length body) n then malformed opcode else op body

-- read_in: offset and size
abbrev pub read_of : ℕ → (ℕ → ℕ → NodeOp) → List ℕ → Op
read_of opcode op = sized opcode 40 (λ body. at_node (op (field 8 8 body) (field 4 16 body)))

-- getxattr_in: size, and then a name
abbrev pub getxattr_of : List ℕ → Op
getxattr_of body =
    option_map_or (λ name. at_node (getxattr (field 4 0 body) name))
    (body_name (cut_at_zero (drop 8 body))) (malformed GETXATTR)

-- forget_one: nodeid and nlookup
abbrev pub forget_one : List ℕ → Forget
forget_one bytes = record { node = field 8 0 bytes; nlookup = field 8 8 bytes }

-- the first n items of bytes that hold them one after another, 16 bytes each
abbrev pub forgets_in : ℕ → List ℕ → List Forget
forgets_in zero bytes = []
forgets_in (suc n) bytes = forget_one bytes ∷ forgets_in n (drop 16 bytes)

-- batch_forget_in: count and dummy, and then as many items as the count says, if they are complete
-- in the body
unfoldable pub forgets_of : List ℕ → List Forget
forgets_of body = forgets_in (min (field 4 0 body) (length (drop 8 body) / 16)) (drop 8 body)

-- the opcodes that are served, and what each requests with a body
abbrev pub served : List (ℕ × (List ℕ → Op))
served =
    (LOOKUP, lookup_of)
    ∷ (FORGET, sized FORGET 8 (λ body. silent (forget (field 8 0 body))))
    ∷ (GETATTR, sized GETATTR 16 (λ _. at_node getattr))
    ∷ (READLINK, λ _. at_node readlink)
    ∷ (OPEN, sized OPEN 8 (λ body. at_node (open_file (field 4 0 body))))
    ∷ (READ, read_of READ read)
    ∷ (STATFS, λ _. statfs)
    ∷ (RELEASE, λ _. done release)
    ∷ (FSYNC, λ _. done fsync)
    ∷ (GETXATTR, sized GETXATTR 8 getxattr_of)
    ∷ (LISTXATTR, sized LISTXATTR 8 (λ body. at_node (listxattr (field 4 0 body))))
    ∷ (FLUSH, λ _. done flush)
    ∷ (
      INIT,
      sized INIT 16 (λ body. init (field 4 0 body) (field 4 4 body) (field 4 8 body)
          (field 4 12 body)),
    )
    ∷ (OPENDIR, sized OPENDIR 8 (λ _. at_node opendir))
    ∷ (READDIR, read_of READDIR readdir)
    ∷ (RELEASEDIR, λ _. done releasedir)
    ∷ (FSYNCDIR, λ _. done fsyncdir)
    ∷ (INTERRUPT, λ _. silent interrupt)
    ∷ (DESTROY, λ _. done destroy)
    ∷ (BATCH_FORGET, sized BATCH_FORGET 8 (λ body. silent (batch_forget (forgets_of body))))
    ∷ (READDIRPLUS, read_of READDIRPLUS readdirplus)
    ∷ []

-- the opcodes that would change the tree
abbrev pub modifying : List ℕ
modifying =
    SETATTR ∷ SYMLINK ∷ MKNOD ∷ MKDIR ∷ UNLINK ∷ RMDIR ∷ RENAME ∷ LINK ∷ WRITE ∷ SETXATTR ∷
    REMOVEXATTR
    ∷ CREATE ∷ FALLOCATE ∷ RENAME2 ∷ COPY_FILE_RANGE ∷ []

-- the number is one of these
abbrev pub is_in : ℕ → List ℕ → Bool
is_in n ns = list_any (λ k. n == k) ns

-- what an opcode requests with a body
unfoldable pub op_of : ℕ → List ℕ → Op
op_of opcode body =
    if is_in opcode modifying then modify else
    option_map_or (λ row. row.1 body) (find (λ row. opcode == row.0) served) other

-- a request: the number that its reply repeats, the number of its node, and the operation
pub record Asked : Type 0 where
  pub unique : ℕ
  pub node : ℕ
  pub op : Op

-- the reading of a message: fuse_in_header has len, opcode, unique, nodeid, and 16 bytes more
abbrev pub asked : List ℕ → Asked
asked m =
    record {
      unique = field 8 8 m;
      node = field 8 16 m;
      op =
          op_of (field 4 4 m) (drop HEADER_SIZE m);
    }
