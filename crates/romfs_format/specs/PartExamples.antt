-- Worked examples: trailers of version 2 written out, what they say, and why they are broken.
use Rattle.std.specs.Prelude.{◌≡◌, ℕ, false, true, List, [], ◌∷◌, ◌++◌, take, codes}
use Rattle.romfs_format.specs.Extended.{Extended}
use Rattle.romfs_format.specs.ExtendedExamples.{named, named_acl, net_raw}
use Rattle.romfs_format.specs.Trailer.{trailer, has_part, lists, lists_shown, list_at, rows, IsTrailer, IsTrailerBroken}
use Rattle.romfs_format.specs.TrailerExamples.{bytes_of, behind}
use Rattle.romfs_format.specs.declared.rule.Profile.TheVariants.{Usual, UsualWithAttributes}

-- rows for the root, of mode 0755, and for the last place of the image, of mode 0640; after them a
-- part with a capability and an empty value for the first, an access control list for the second
abbrev pub two_lists : List ℕ
two_lists = behind (
    2 ∷ 0x606e5680
    ∷ 0x20 ∷ 0x1ed ∷ 0 ∷ 0 ∷ 0 ∷ 0 ∷ 0 ∷ 0
    ∷ 0x30 ∷ 0x1a0 ∷ 0 ∷ 0 ∷ 0 ∷ 0 ∷ 0 ∷ 0 ∷ [])
    ++ codes "-attr02-"
    ++ bytes_of (
    180 ∷ 0x548f2778
    ∷ 1 ∷ 2
    ∷ 2 ∷ 0 ∷ 2 ∷ 3
    ∷ 44 ∷ 63 ∷ 83 ∷ 89 ∷ 89 ∷ 112 ∷ 156 ∷ [])
    ++ codes "security.capability" ++ net_raw
    ++ codes "user.a"
    ++ codes "system.posix_acl_access" ++ named_acl

-- what the rows lead to
abbrev pub first_list : List Extended
first_list =
    record { name = codes "security.capability"; value = net_raw } ∷ named (codes "user.a") ∷ []

abbrev pub second_list : List Extended
second_list = record { name = codes "system.posix_acl_access"; value = named_acl } ∷ []

-- one row, of mode 0640 or 0600, and after it a part of these words
abbrev pub one_row_and : List ℕ → List ℕ
one_row_and words =
    behind (1 ∷ 0x606e589e ∷ 0x20 ∷ 0x1a0 ∷ 0 ∷ 0 ∷ 0 ∷ 0 ∷ 0 ∷ 0 ∷ [])
    ++ codes "-attr02-" ++ bytes_of words

abbrev pub other_row_and : List ℕ → List ℕ
other_row_and words =
    behind (1 ∷ 0x606e58be ∷ 0x20 ∷ 0x180 ∷ 0 ∷ 0 ∷ 0 ∷ 0 ∷ 0 ∷ 0 ∷ [])
    ++ codes "-attr02-" ++ bytes_of words

-- one list with user.a, whose value is b: these are the part's size and what makes its sum 0, the
-- number of the row's list, how many lists there are, where this one begins and ends, and where its
-- name, its value and what follows begin
abbrev pub user_a : ℕ → ℕ → ℕ → ℕ → ℕ → ℕ → ℕ → ℕ → ℕ → List ℕ
user_a size sum number count first end name value close = one_row_and (
    size ∷ sum ∷ number ∷ count ∷ first ∷ end ∷ name ∷ value ∷ close
    ∷ 0x75736572 ∷ 0x2e616200 ∷ [])

-- one list with an access control list of rw-, r-- and ---
abbrev pub three_entries : List ℕ
three_entries =
    96 ∷ 0xf3d4131b ∷ 1 ∷ 1 ∷ 0 ∷ 1 ∷ 24 ∷ 47 ∷ 75
    ∷ 0x73797374 ∷ 0x656d2e70 ∷ 0x6f736978 ∷ 0x5f61636c ∷ 0x5f616363 ∷ 0x65737302
    ∷ 1 ∷ 0x000600ff ∷ 0xffffff04 ∷ 0x000400ff ∷ 0xffffff20 ∷ 0x000000ff ∷ 0xffffff00 ∷ []

-- what is a part, and what its lists say; bytes after it say nothing
pub record PartExamples : Type 0 where
  pub none : has_part (trailer (behind (0 ∷ 0x606e5a5f ∷ []))) ≡ false
  pub other_letters :
      has_part (trailer (behind (0 ∷ 0x606e5a5f ∷ []) ++ codes "-attr01-")) ≡ false
  pub there : has_part (trailer two_lists) ≡ true
  pub two : lists two_lists ≡ first_list ∷ second_list ∷ []
  pub longer : lists (two_lists ++ 7 ∷ []) ≡ first_list ∷ second_list ∷ []
  pub no_part : lists (behind (1 ∷ 0x606e5a3e ∷ 0x20 ∷ 0 ∷ 0 ∷ 0 ∷ 0 ∷ 0 ∷ 0 ∷ 0 ∷ [])) ≡ [] ∷ []
  pub at_root : list_at (rows two_lists) (lists two_lists) 0x20 ≡ first_list
  pub at_last : list_at (rows two_lists) (lists two_lists) 0x30 ≡ second_list
  pub elsewhere : list_at (rows two_lists) (lists two_lists) 0x10 ≡ []
  pub hidden : lists_shown Usual two_lists ≡ []
  pub shown : lists_shown UsualWithAttributes two_lists ≡ first_list ∷ second_list ∷ []

-- trailers with a part that keep their rule
pub record RightPartExamples : Type 0 where
  pub two : IsTrailer 64 (trailer two_lists)
  pub one : IsTrailer 64 (trailer (user_a 52 0xbc999161 1 1 0 1 24 30 31))
  pub no_list : IsTrailer 64
      (trailer (one_row_and (32 ∷ 0x606e593f ∷ 0 ∷ 0 ∷ 0 ∷ 0 ∷ [])))
  pub agreeing : IsTrailer 64 (trailer (one_row_and three_entries))

-- trailers whose part breaks its rule, each for one thing alone
pub record BrokenPartExamples : Type 0 where
  pub letters_alone : IsTrailerBroken (one_row_and [])
  pub cut_off : IsTrailerBroken (take 163 (user_a 52 0xbc999161 1 1 0 1 24 30 31))
  pub uneven : IsTrailerBroken (user_a 53 0xbc999160 1 1 0 1 24 30 31 ++ 0 ∷ 0 ∷ 0 ∷ 0 ∷ [])
  pub large_sum : IsTrailerBroken (user_a 52 0xbc999162 1 1 0 1 24 30 31)
  pub no_lists : IsTrailerBroken (one_row_and (20 ∷ 0x606e594a ∷ 1 ∷ []))
  pub many_lists : IsTrailerBroken (user_a 52 0xbc99915b 1 7 0 1 24 30 31)
  pub from_one : IsTrailerBroken (one_row_and (
      60 ∷ 0xbc9990ff ∷ 1 ∷ 1 ∷ 1 ∷ 2 ∷ 32 ∷ 32 ∷ 32 ∷ 38 ∷ 39 ∷ 0x75736572 ∷ 0x2e616200 ∷ []))
  pub empty_list : IsTrailerBroken (user_a 52 0xbc999162 1 1 0 0 24 30 31)
  pub many_attributes : IsTrailerBroken (user_a 52 0xbc99915f 1 1 0 3 24 30 31)
  pub falling : IsTrailerBroken (user_a 52 0xbc99915a 1 1 0 1 31 30 31)
  pub outside : IsTrailerBroken (user_a 52 0xbc99915f 1 1 0 1 24 30 33)
  pub nameless : IsTrailerBroken (user_a 52 0xbc99915b 1 1 0 1 30 30 31)
  pub second_of_one : IsTrailerBroken (user_a 52 0xbc999160 2 1 0 1 24 30 31)
  pub disagreeing : IsTrailerBroken (other_row_and three_entries)
