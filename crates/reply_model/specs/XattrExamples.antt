-- Worked examples of requests for extended attributes, over the sample image of `Examples`.
use Rattle.std.specs.Prelude.{◌≡◌, ℕ, List, [], ◌∷◌, ◌++◌, take, drop, Bool, true, false, codes}
use Rattle.romfs_format.specs.declared.attribute_row.AttributeRow.{AttributeRow}
use Rattle.romfs_format.specs.Extended.{Extended, access_name, default_name}
use Rattle.romfs_format.specs.ExtendedExamples.{named, named_acl}
use Rattle.fuse_wire.specs.Requests.{asked}
use Rattle.fuse_wire.specs.Structures.{u32, zeros}
use Rattle.stack_model.specs.Listing.{Stacked}
use Rattle.reply_model.specs.declared.session.Session.TheVariants.{Fresh, Ready, LastingReady}
use Rattle.reply_model.specs.Replies.{reply}
use Rattle.reply_model.specs.Examples.{sample_stack, request, init_in, refused, headed, over_empty, over_sample}

-- a row of the header at a place
abbrev pub row_for : ℕ → AttributeRow
row_for place = record {
  place = place;
  mode = 0o640;
  uid = 0;
  gid = 0;
  seconds = 0;
  nanoseconds = 0;
}

-- the sample image: big has user.a and user.ab, and x in the directory d has these
abbrev pub xattr_stack : List Extended → Stacked
xattr_stack of_x =
    record (sample_stack) {
      rows = (row_for 0x60 ∷ row_for 0x1470 ∷ []) ∷ [];
      lists =
          ((record { name = codes "user.a"; value = codes "xyz" } ∷ named (codes "user.ab") ∷ [])
          ∷ of_x ∷ []) ∷ [];
    }

-- an access control list, and an attribute of users
abbrev pub acl_and_user : List Extended
acl_and_user =
    record { name = codes "system.posix_acl_access"; value = named_acl }
    ∷ record { name = codes "user.z"; value = codes "9" } ∷ []

-- the reply to a message if no file has an access control list
abbrev pub over_user : List ℕ → List ℕ
over_user m = reply (xattr_stack []) (Ready false false) (asked m)

-- the same if x has one, to a client that enforces them or not
abbrev pub over_acl : Bool → List ℕ → List ℕ
over_acl enforced m = reply (xattr_stack acl_and_user) (Ready false enforced) (asked m)

-- GETXATTR and LISTXATTR of a node
abbrev pub get : ℕ → ℕ → List ℕ → List ℕ
get node size name = request 22 2 node (u32 size ++ zeros 4 ++ name ++ zeros 1)

abbrev pub list : ℕ → ℕ → List ℕ
list node size = request 23 2 node (u32 size ++ zeros 4)

-- size 0 asks for the length of a value; otherwise the answer is the value, or ERANGE if it is
-- longer. No other name has it, nor another node
pub record GetxattrExamples : Type 0 where
  pub size : over_user (get 2 0 (codes "user.a")) ≡ headed 2 24 ++ u32 3 ++ zeros 4
  pub just_enough : over_user (get 2 3 (codes "user.a")) ≡ headed 2 19 ++ codes "xyz"
  pub more : over_user (get 2 65536 (codes "user.a")) ≡ headed 2 19 ++ codes "xyz"
  pub too_small : over_user (get 2 2 (codes "user.a")) ≡ refused 2 0xffffffde
  pub empty : over_user (get 2 1 (codes "user.ab")) ≡ headed 2 16
  pub empty_size : over_user (get 2 0 (codes "user.ab")) ≡ headed 2 24 ++ zeros 8
  pub prefix_alone : over_user (get 2 0 (codes "user.")) ≡ refused 2 0xffffffc3
  pub longer : over_user (get 2 0 (codes "user.abc")) ≡ refused 2 0xffffffc3
  pub other_node : over_user (get 4 0 (codes "user.a")) ≡ refused 2 0xffffffc3
  pub root : over_user (get 1 24 (codes "security.capability")) ≡ refused 2 0xffffffc3
  pub of_no_node : over_user (get 7 0 (codes "user.a")) ≡ refused 2 0xffffff8c
  pub nameless : over_user (get 7 0 []) ≡ refused 2 0xffffffea
  pub short : over_user (request 22 2 2 (zeros 7)) ≡ refused 2 0xffffffea
  pub fresh : reply (xattr_stack []) Fresh (asked (get 2 0 (codes "user.a")))
      ≡ refused 2 0xfffffffb
  pub lasting : reply (xattr_stack []) (LastingReady false false false false)
      (asked (get 2 3 (codes "user.a"))) ≡ headed 2 19 ++ codes "xyz"
  pub set : over_user (request 21 2 2 (zeros 16)) ≡ refused 2 0xffffffe2

-- names in order, each with its zero byte
pub record ListxattrExamples : Type 0 where
  pub size : over_user (list 2 0) ≡ headed 2 24 ++ u32 15 ++ zeros 4
  pub names : over_user (list 2 15)
      ≡ headed 2 31 ++ codes "user.a" ++ zeros 1 ++ codes "user.ab" ++ zeros 1
  pub too_small : over_user (list 2 14) ≡ refused 2 0xffffffde
  pub none : over_user (list 4 1) ≡ headed 2 16
  pub none_size : over_user (list 4 0) ≡ headed 2 24 ++ zeros 8
  pub of_no_node : over_user (list 7 0) ≡ refused 2 0xffffff8c
  pub short : over_user (request 23 2 2 (zeros 7)) ≡ refused 2 0xffffffea

-- access control lists are for clients that enforce them, if any node has one
pub record AclReplyExamples : Type 0 where
  pub value : over_acl true (get 4 44 access_name) ≡ headed 2 60 ++ named_acl
  pub names : over_acl true (list 4 100)
      ≡ headed 2 47 ++ access_name ++ zeros 1 ++ codes "user.z" ++ zeros 1
  pub no_default : over_acl true (get 4 44 default_name) ≡ refused 2 0xffffffc3
  pub no_value : over_acl false (get 4 44 access_name) ≡ refused 2 0xffffffa1
  pub no_value_there : over_acl false (get 2 0 default_name) ≡ refused 2 0xffffffa1
  pub other_names : over_acl false (list 4 7) ≡ headed 2 23 ++ codes "user.z" ++ zeros 1
  pub other_value : over_acl false (get 4 1 (codes "user.z")) ≡ headed 2 17 ++ codes "9"
  pub without_any : over_user (get 2 0 access_name) ≡ refused 2 0xffffffa1
  pub without_any_enforced :
      reply (xattr_stack []) (Ready false true) (asked (get 2 0 access_name))
      ≡ refused 2 0xffffffa1
  pub terms : take 4 (drop 28 (reply (xattr_stack acl_and_user) Fresh
      (asked (request 26 1 0 (init_in 7 31 0 0x106001))))) ≡ u32 0x106001
  pub not_offered : take 4 (drop 28 (reply (xattr_stack acl_and_user) Fresh
      (asked (request 26 1 0 (init_in 7 31 0 0x6001))))) ≡ u32 0x6001
  pub without_acls : take 4 (drop 28 (reply (xattr_stack []) Fresh
      (asked (request 26 1 0 (init_in 7 31 0 0x106001))))) ≡ u32 0x6001

-- if no node has any, they are not served, whatever the node, the name or the body
pub record UnservedExamples : Type 0 where
  pub get_any : over_sample (get 2 0 (codes "user.a")) ≡ refused 2 0xffffffda
  pub of_no_node : over_sample (get 7 0 (codes "user.a")) ≡ refused 2 0xffffffda
  pub short : over_sample (request 22 2 2 []) ≡ refused 2 0xffffffda
  pub acl : over_sample (get 2 0 access_name) ≡ refused 2 0xffffffda
  pub list_any : over_sample (list 1 0) ≡ refused 2 0xffffffda
  pub short_list : over_sample (request 23 2 2 []) ≡ refused 2 0xffffffda
  pub fresh : over_empty Fresh (get 1 0 (codes "user.a")) ≡ refused 2 0xfffffffb
