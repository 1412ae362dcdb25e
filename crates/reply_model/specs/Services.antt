-- linux/fuse.h, enum fuse_opcode: the requests about a node, one row each.
use Rattle.std.specs.Prelude.{ℕ, ◌%◌, List, [], length, map, filter, take, drop, Bool, not, ◌&&◌, ◌||◌, ◌+◌, ◌==◌, nat_lt, Option, Some, None, is_none, pos, if◌then◌else◌}
use Rattle.std.specs.List.{flat_map}
use Rattle.std.specs.Option.{option_map_or, option_to_list}
use Rattle.romfs_format.specs.declared.head.Kind.{Kind}
use Rattle.romfs_format.specs.declared.head.Kind.TheVariants.{Directory, Regular, SymLink}
use Rattle.fuse_wire.specs.declared.errno.Errno.{Errno}
use Rattle.fuse_wire.specs.declared.errno.Errno.TheVariants.{ENOENT, ENOTDIR, EISDIR, EINVAL, EROFS, ENAMETOOLONG, ENOSYS}
use Rattle.fuse_wire.specs.declared.flags.TheConstants.{FOPEN_KEEP_CACHE, FOPEN_CACHE_DIR}
use Rattle.fuse_wire.specs.declared.limits.TheConstants.{MAX_DATA_SIZE, MAX_NAME_SIZE}
use Rattle.fuse_wire.specs.Requests.{NodeOp, lookup, getattr, readlink, open_file, read, opendir, readdir, readdirplus, getxattr, listxattr}
use Rattle.fuse_wire.specs.Structures.{entry_out, negative_entry_out, attr_out, open_out}
use Rattle.stack_model.specs.Listing.{Stacked}
use Rattle.stack_model.specs.Numbers.{Place, number}
use Rattle.romfs_format.specs.Extended.{names_of}
use Rattle.stack_model.specs.Attributes.{is_directory, data_of, attr_of, xattrs_of, has_acls}
use Rattle.reply_model.specs.declared.moves.Move.{Move}
use Rattle.reply_model.specs.declared.session.Agreement.{Agreement}
use Rattle.reply_model.specs.Lookups.{is_itself, looked_up}
use Rattle.reply_model.specs.Xattrs.{xattrs_told, refused_size, sized_answer, refused_xattr, xattr_answer}
use Rattle.reply_model.specs.Rows.{Row, is_child, is_too_small, rows_after, rows_answered, dirent_of, direntplus_of}

-- this error, if something is wrong
abbrev pub refuse_if : Bool → Errno → Option Errno
refuse_if wrong errno = if wrong then Some errno else None

-- the refusal by the kind of a node: it is not a directory
abbrev pub unless_directory : Kind → Option Errno
unless_directory k = refuse_if (not (is_directory k)) ENOTDIR

-- it is not a regular file; a directory has an error of its own
abbrev pub unless_regular : Kind → Option Errno
unless_regular Regular = None
unless_regular Directory = Some EISDIR
unless_regular _ = Some EINVAL

-- it is not a symbolic link
abbrev pub unless_link : Kind → Option Errno
unless_link SymLink = None
unless_link _ = Some EINVAL

-- no kind is refused
abbrev pub of_any_kind : Kind → Option Errno
of_any_kind k = None

-- more bytes than a READ, READDIR or READDIRPLUS may ask for
abbrev pub is_too_large : ℕ → Bool
is_too_large size = nat_lt MAX_DATA_SIZE size

-- the open_flags of a directory: in a lasting session its rows may be cached
abbrev pub opendir_flags : Bool → ℕ
opendir_flags lasting = if lasting then FOPEN_KEEP_CACHE + FOPEN_CACHE_DIR else 0

-- a size that is too large, or too small for the next row
abbrev pub refused_rows : (Row → List ℕ) → ℕ → List Row → Option Errno
refused_rows form size rows = refuse_if (is_too_large size || is_too_small form size rows) EINVAL

-- how a request about a node is served: it is refused by the node's kind, or by its arguments
-- there, or otherwise answered with these bytes and gives these lookups
pub record Service : Type 0 where
  pub by_kind : Kind → Option Errno
  pub by_arguments : Place → Option Errno
  pub answer : Place → List ℕ
  pub gives : Place → List Move

-- a service whose arguments are never refused, and that gives no lookups
abbrev pub tells : (Kind → Option Errno) → (Place → List ℕ) → Service
tells by_kind answer =
    record { by_kind = by_kind; by_arguments = λ p. None; answer = answer; gives = λ p. [] }

module _ (stack : Stacked) where
  -- an entry that is answered gives one lookup of its node
  abbrev pub give : Place → Move
  give p = record { node = number stack.entries p; amount = pos 1 }

  -- the rows of a directory, in this form
  abbrev pub lists : (Row → List ℕ) → ℕ → ℕ → Service
  lists form offset size =
      let answered =
      λ (p : Place). flat_map form (rows_answered stack.entries form p offset size) in
      record (tells unless_directory answered) {
        by_arguments = λ p. refused_rows form size (rows_after stack.entries p offset);
      }

  -- access control lists are served: the client enforces them, and some node has one
  abbrev pub serves_acls : Agreement → Bool
  serves_acls agreed = agreed.acls && has_acls stack

  -- the names of the extended attributes at a place that a client gets, each with a zero byte
  abbrev pub names_told : Agreement → Place → List ℕ
  names_told agreed p = names_of (xattrs_told (serves_acls agreed) (xattrs_of stack p))

  -- each of them. With EXPORT_SUPPORT the name . finds a node of any kind; an access mode other
  -- than 0 is not O_RDONLY; READDIRPLUS gives the nodes of its rows except . and ... In a lasting
  -- session a missing name gets a negative entry, and gives no lookup; ENOSYS for a client that
  -- need not open comes last
  abbrev pub service : Agreement → NodeOp → Service
  service agreed (lookup name) = record {
    by_kind = λ k. if is_itself agreed.export name then None else unless_directory k;
    by_arguments = λ p.
        if nat_lt MAX_NAME_SIZE (length name) then Some ENAMETOOLONG
        else refuse_if
        (is_none (looked_up stack.entries agreed.export p name) && not agreed.lasting) ENOENT;
    answer = λ p.
        option_map_or (λ c. entry_out (attr_of stack c))
        (looked_up stack.entries agreed.export p name) negative_entry_out;
    gives = λ p. map give (option_to_list (looked_up stack.entries agreed.export p name));
  }
  service agreed getattr = tells of_any_kind (λ p. attr_out (attr_of stack p))
  service agreed readlink = tells unless_link (λ p. data_of stack.layers p)
  service agreed (open_file flags) =
      record (tells unless_regular (λ p. open_out FOPEN_KEEP_CACHE)) {
        by_arguments = λ p.
            if not (flags % 4 == 0) then Some EROFS else refuse_if agreed.no_open ENOSYS;
      }
  service agreed (read offset size) =
      record (tells unless_regular (λ p. take size (drop offset (data_of stack.layers p)))) {
        by_arguments = λ p. refuse_if (is_too_large size) EINVAL;
      }
  service agreed opendir =
      record (tells unless_directory (λ p. open_out (opendir_flags agreed.lasting))) {
        by_arguments = λ p. refuse_if agreed.no_opendir ENOSYS;
      }
  service agreed (readdir offset size) = lists (dirent_of stack) offset size
  service agreed (readdirplus offset size) =
      record (lists (direntplus_of stack) offset size) {
        gives = λ p.
            map (λ r. give r.1.place)
            (filter is_child (rows_answered stack.entries (direntplus_of stack) p offset size));
      }
  service agreed (getxattr size name) =
      record (tells of_any_kind (λ p. xattr_answer size name (xattrs_of stack p))) {
        by_arguments = λ p. refused_xattr (serves_acls agreed) size name (xattrs_of stack p);
      }
  service agreed (listxattr size) =
      record (tells of_any_kind (λ p. sized_answer size (names_told agreed p))) {
        by_arguments = λ p. refused_size size (names_told agreed p);
      }
