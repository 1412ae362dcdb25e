-- Worked examples: modes of each kind, the numbers of devices, sizes, the paths of two layers,
-- nested directories, and rows of attributes, in one layer and in two.
use Rattle.std.specs.Prelude.{◌≡◌, ℕ, false, true, List, [], ◌∷◌, ◌++◌, map, Some, None, codes}
use Rattle.std.specs.declared.cmp.Ordering.TheVariants.{Less}
use Rattle.stack_model.specs.Listing.{Entry, Stacked, stacked, path_cmp}
use Rattle.stack_model.specs.Numbers.{place, path_of, number, parent, children, child}
use Rattle.romfs_format.specs.declared.head.Kind.TheVariants.{Directory, Regular, SymLink, Block, Character, Socket, Fifo}
use Rattle.romfs_format.specs.declared.attribute_row.AttributeRow.{AttributeRow}
use Rattle.romfs_format.specs.Extended.{Extended, access_name}
use Rattle.stack_model.specs.declared.owner.TheConstants.Owner.{ROOT}
use Rattle.stack_model.specs.Attributes.{mode_of, mode_by, size_of, device, rdev_of, blocks_of, blocks_all, links, data_of, mode_at, attr_of, xattrs_of, has_xattrs, has_acls}
use Rattle.stack_model.specs.declared.limits.TheConstants.{MAX_LAYERS}

-- without and with the executable bit
pub record ModeExamples : Type 0 where
  pub directory : mode_of Directory false ≡ 0x41a4
  pub directory_exec : mode_of Directory true ≡ 0x41ed
  pub regular : mode_of Regular false ≡ 0x81a4
  pub regular_exec : mode_of Regular true ≡ 0x81ed
  pub link : mode_of SymLink false ≡ 0xa1ff
  pub link_exec : mode_of SymLink true ≡ 0xa1ff
  pub block : mode_of Block false ≡ 0x6180
  pub block_exec : mode_of Block true ≡ 0x6180
  pub character : mode_of Character false ≡ 0x2180
  pub character_exec : mode_of Character true ≡ 0x2180
  pub socket : mode_of Socket false ≡ 0xc1a4
  pub socket_exec : mode_of Socket true ≡ 0xc1a4
  pub fifo : mode_of Fifo false ≡ 0x11a4
  pub fifo_exec : mode_of Fifo true ≡ 0x11a4

-- major and minor of spec.info; the high byte of a minor is above the 12 bits of the major
pub record DeviceExamples : Type 0 where
  pub low_minor : device 1 3 ≡ 0x103
  pub high_minor : device 0x123 0xabcd ≡ 0xab123cd
  pub largest : device 0xfff 0xffff ≡ 0xfffffff
  pub block : rdev_of Block 0x00080011 ≡ 0x811
  pub character : rdev_of Character 0x00010003 ≡ 0x103
  pub regular : rdev_of Regular 0x00010003 ≡ 0
  pub fifo : rdev_of Fifo 0x00010003 ≡ 0
  pub socket : rdev_of Socket 0x00010003 ≡ 0
  pub link : rdev_of SymLink 0x00010003 ≡ 0
  pub directory : rdev_of Directory 0x00010003 ≡ 0

-- only files and targets have sizes; blocks are rounded up, those of each layer separately
pub record SizeExamples : Type 0 where
  pub regular : size_of Regular 5 ≡ 5
  pub link : size_of SymLink 5 ≡ 5
  pub directory : size_of Directory 5 ≡ 0
  pub device : size_of Block 5 ≡ 0
  pub character : size_of Character 5 ≡ 0
  pub socket : size_of Socket 5 ≡ 0
  pub fifo : size_of Fifo 5 ≡ 0
  pub no_blocks : blocks_of 0 ≡ 0
  pub one_block : blocks_of 512 ≡ 1
  pub two_blocks : blocks_of 513 ≡ 2
  pub two_layers : blocks_all ((0 ∷ []) ∷ (0 ∷ []) ∷ []) ≡ 2

-- paths of two layers: d/x and z are one file of the lower layer, and its header has the number of
-- that of d in the upper
abbrev pub two_layers : List Entry
two_layers =
    record { path = []; layer = 1; header = 0x20 }
    ∷ record { path = codes "d" ∷ []; layer = 1; header = 0x60 }
    ∷ record { path = codes "d" ∷ codes "x" ∷ []; layer = 0; header = 0x60 }
    ∷ record { path = codes "d" ∷ codes "y" ∷ []; layer = 1; header = 0x80 }
    ∷ record { path = codes "z" ∷ []; layer = 0; header = 0x60 }
    ∷ []

-- in a list of no layers no place is a directory, so the names of one are then those of a file
pub record LayerExamples : Type 0 where
  pub first_path : path_of two_layers (0, 0x60) ≡ codes "d" ∷ codes "x" ∷ []
  pub numbers : map (λ e. number two_layers (place e)) two_layers ≡ 1 ∷ 2 ∷ 3 ∷ 4 ∷ 3 ∷ []
  pub above : parent two_layers (0, 0x60) ≡ (1, 0x60)
  pub children_of : map (λ c. c.place) (children two_layers (1, 0x60)) ≡ (0, 0x60) ∷ (1, 0x80) ∷ []
  pub named : child two_layers (1, 0x60) (codes "x") ≡ Some (0, 0x60)
  pub longer_name : child two_layers (1, 0x60) (codes "xx") ≡ None
  pub front_of_a_name : child two_layers (1, 0x60) [] ≡ None
  pub names_of_a_file : links (stacked [] two_layers) (0, 0x60) ≡ 2
  pub order : path_cmp (codes "a" ∷ codes "b" ∷ []) (codes "a!" ∷ []) ≡ Less

-- the first word of a directory's header, with the executable bit
abbrev pub directory_word : List ℕ
directory_word = 0 ∷ 0 ∷ 0 ∷ 9 ∷ []

-- the first word of a file's header
abbrev pub file_word : List ℕ
file_word = 0 ∷ 0 ∷ 0 ∷ 2 ∷ []

-- a layer of six first words of headers: of four directories, and of two files
abbrev pub six_headers : List ℕ
six_headers =
    directory_word ++ directory_word ++ directory_word ++ directory_word ++ file_word ++ file_word

-- a and a/b are directories, which hold b and the file g; c is a directory that holds the file f
abbrev pub nested : List Entry
nested =
    record { path = []; layer = 0; header = 0 }
    ∷ record { path = codes "a" ∷ []; layer = 0; header = 4 }
    ∷ record { path = codes "a" ∷ codes "b" ∷ []; layer = 0; header = 8 }
    ∷ record { path = codes "a" ∷ codes "b" ∷ codes "g" ∷ []; layer = 0; header = 20 }
    ∷ record { path = codes "c" ∷ []; layer = 0; header = 12 }
    ∷ record { path = codes "c" ∷ codes "f" ∷ []; layer = 0; header = 16 }
    ∷ []

-- this layer, and these entries of it
abbrev pub nested_stack : Stacked
nested_stack = stacked (six_headers ∷ []) nested

-- what is in one directory is in no other one, and not in those above it; directories have no data
pub record NestedExamples : Type 0 where
  pub of_root : map (λ c. c.place) (children nested (0, 0)) ≡ (0, 4) ∷ (0, 12) ∷ []
  pub of_c : map (λ c. c.place) (children nested (0, 12)) ≡ (0, 16) ∷ []
  pub of_b : map (λ c. c.place) (children nested (0, 8)) ≡ (0, 20) ∷ []
  pub above_the_root : parent nested (0, 0) ≡ (0, 0)
  pub above_a : parent nested (0, 4) ≡ (0, 0)
  pub above_b : parent nested (0, 8) ≡ (0, 4)
  pub above_f : parent nested (0, 16) ≡ (0, 12)
  pub above_g : parent nested (0, 20) ≡ (0, 8)
  pub names_of_root : links nested_stack (0, 0) ≡ 4
  pub names_of_a : links nested_stack (0, 4) ≡ 3
  pub names_of_b : links nested_stack (0, 8) ≡ 2
  pub names_of_c : links nested_stack (0, 12) ≡ 2
  pub names_of_f : links nested_stack (0, 16) ≡ 1
  pub no_data : data_of (six_headers ∷ []) (0, 0) ≡ []

-- a row of a header, with this mode; uid, gid and time differ
abbrev pub row_for : ℕ → ℕ → AttributeRow
row_for place mode = record {
  place = place;
  mode = mode;
  uid = 1000;
  gid = 42;
  seconds = 0xffffffffffffffff;
  nanoseconds = 999999999;
}

-- the same layer with a row for the directory c, one for the file g, and one for no header; other
-- nodes belong to user 7 and group 8
abbrev pub owned_stack : Stacked
owned_stack = record {
  layers = six_headers ∷ [];
  entries = nested;
  rows = (row_for 12 0o1777 ∷ row_for 13 0o777 ∷ row_for 20 0o4640 ∷ []) ∷ [];
  lists = [];
  owner = record { uid = 7; gid = 8 };
  whole = true;
}

-- the same rows, but in another layer
abbrev pub elsewhere : Stacked
elsewhere = record {
  layers = six_headers ∷ [];
  entries = nested;
  rows = [] ∷ (row_for 12 0o1777 ∷ row_for 20 0o4640 ∷ []) ∷ [];
  lists = [];
  owner = ROOT;
  whole = true;
}

-- twelve bits are the row's, and the type is the header's, whatever the row has above them
pub record RowModeExamples : Type 0 where
  pub no_row : mode_by None 0x41ed ≡ 0x41ed
  pub sticky : mode_by (Some (row_for 0 0o1777)) 0x41a4 ≡ 0x43ff
  pub no_bits : mode_by (Some (row_for 0 0)) 0x81ed ≡ 0x8000
  pub setuid : mode_by (Some (row_for 0 0o4755)) 0x81a4 ≡ 0x89ed
  pub link : mode_by (Some (row_for 0 0o777)) 0xa1ff ≡ 0xa1ff
  pub all_bits : mode_by (Some (row_for 0 0o7777)) 0x11a4 ≡ 0x1fff
  pub above : mode_by (Some (row_for 0 0o100640)) 0x41ed ≡ 0x41a0

-- a node with a row has its mode, ids and time; one without has its header's mode, the default
-- owner, and the time 0
pub record RowExamples : Type 0 where
  pub file : attr_of owned_stack (0, 20) ≡ record {
    ino = 4;
    size = 0;
    blocks = 0;
    seconds = 0xffffffffffffffff;
    nanoseconds = 999999999;
    mode = 0x89a0;
    nlink = 1;
    uid = 1000;
    gid = 42;
    rdev = 0;
  }
  pub directory : mode_at owned_stack (0, 12) ≡ 0x43ff
  pub without : attr_of owned_stack (0, 16) ≡ record {
    ino = 6;
    size = 0;
    blocks = 0;
    seconds = 0;
    nanoseconds = 0;
    mode = 0x81a4;
    nlink = 1;
    uid = 7;
    gid = 8;
    rdev = 0;
  }
  pub root_without : mode_at owned_stack (0, 0) ≡ 0x41ed
  pub of_other_layer : attr_of elsewhere (0, 20) ≡ attr_of nested_stack (0, 20)
  pub of_no_layer : mode_at nested_stack (0, 20) ≡ 0x81a4

-- two layers of five first words of headers. The lower: its root, the directory d, d's file x, a
-- directory that the upper's whiteout hides, and the file f. The upper: its root, d again, that
-- whiteout, a file f instead of the lower's, and d's file y
abbrev pub five_headers : List (List ℕ)
five_headers =
    (directory_word ++ directory_word ++ file_word ++ directory_word ++ file_word)
    ∷ (directory_word ++ directory_word ++ file_word ++ file_word ++ file_word) ∷ []

-- what they show, in order
abbrev pub five_shown : List Entry
five_shown =
    record { path = []; layer = 1; header = 0 }
    ∷ record { path = codes "d" ∷ []; layer = 1; header = 4 }
    ∷ record { path = codes "d" ∷ codes "x" ∷ []; layer = 0; header = 8 }
    ∷ record { path = codes "d" ∷ codes "y" ∷ []; layer = 1; header = 16 }
    ∷ record { path = codes "f" ∷ []; layer = 1; header = 12 }
    ∷ []

-- the lower has a row for each header, the upper for d and f alone
abbrev pub owned_layers : Stacked
owned_layers = record {
  layers = five_headers;
  entries = five_shown;
  rows =
      (row_for 0 0o711 ∷ row_for 4 0o700 ∷ row_for 8 0o640 ∷ row_for 12 0o1777
      ∷ row_for 16 0o4600 ∷ []) ∷ (row_for 4 0o2775 ∷ row_for 12 0o444 ∷ []) ∷ [];
  lists = [];
  owner = ROOT;
  whole = true;
}

-- the uppermost layer that has a path gives its row, or none: /, d, d/x, d/y and f
pub record LayerRowExamples : Type 0 where
  pub modes : map (λ e. mode_at owned_layers (place e)) five_shown
      ≡ 0x41ed ∷ 0x45fd ∷ 0x81a0 ∷ 0x81a4 ∷ 0x8124 ∷ []
  pub users : map (λ e. (attr_of owned_layers (place e)).uid) five_shown
      ≡ 0 ∷ 1000 ∷ 1000 ∷ 0 ∷ 1000 ∷ []

-- the attribute user.a with a value
abbrev pub user_a : List ℕ → Extended
user_a value = record { name = codes "user.a"; value = value }

-- the same rows: the directory c has user.a, and so has the row for no header; the file g has only
-- an attribute with this name
abbrev pub listed_stack : List ℕ → Stacked
listed_stack name =
    record owned_stack {
      lists =
          ((user_a (codes "b") ∷ []) ∷ (user_a (codes "c") ∷ [])
          ∷ (record { name = name; value = [] } ∷ []) ∷ []) ∷ [];
    }

-- two layers, each with a row for a header of one number, and an attribute there
abbrev pub listed_layers : Stacked
listed_layers = record {
  layers = [] ∷ [] ∷ [];
  entries = two_layers;
  rows = (row_for 0x60 0o644 ∷ []) ∷ (row_for 0x60 0o755 ∷ []) ∷ [];
  lists = ((user_a (codes "low") ∷ []) ∷ []) ∷ ((user_a (codes "high") ∷ []) ∷ []) ∷ [];
  owner = ROOT;
  whole = true;
}

-- a node has the list of its row in its own layer, so a merged directory has the upper one's alone
-- (overlayfs.rst); if no shown node has any, the stack has none
pub record XattrExamples : Type 0 where
  pub directory : xattrs_of (listed_stack (codes "user.b")) (0, 12) ≡ user_a (codes "b") ∷ []
  pub file : xattrs_of (listed_stack (codes "user.b")) (0, 20)
      ≡ record { name = codes "user.b"; value = [] } ∷ []
  pub without_row : xattrs_of (listed_stack (codes "user.b")) (0, 16) ≡ []
  pub without_lists : xattrs_of owned_stack (0, 12) ≡ []
  pub some : has_xattrs (listed_stack (codes "user.b")) ≡ true
  pub no_acls : has_acls (listed_stack (codes "user.b")) ≡ false
  pub acls : has_acls (listed_stack access_name) ≡ true
  pub none : has_xattrs owned_stack ≡ false
  pub of_no_node : has_xattrs (record owned_stack {
    lists = ([] ∷ (user_a (codes "c") ∷ []) ∷ [] ∷ []) ∷ [];
  }) ≡ false
  pub of_upper : xattrs_of listed_layers (1, 0x60) ≡ user_a (codes "high") ∷ []
  pub of_lower : xattrs_of listed_layers (0, 0x60) ≡ user_a (codes "low") ∷ []

-- the limit of a stack
pub record LimitExamples : Type 0 where
  pub layers : MAX_LAYERS ≡ 128
