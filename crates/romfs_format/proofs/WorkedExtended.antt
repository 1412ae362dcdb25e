-- The worked extended attributes and parts of trailers, by computation. What a broken part must
-- keep computes to something false.
use Rattle.std.proofs.Common.{◌≡◌, ◌≤◌, arith, refl, lit<, lit≤}
use Rattle.std.specs.Prelude.{⊤, false, true}
use Rattle.romfs_format.specs.Fields.{word, ended}
use Rattle.romfs_format.specs.Acls.{little_at}
use Rattle.romfs_format.specs.Extended.{access_name, default_name, capability_name, is_overlay_name, is_capability}
use Rattle.romfs_format.specs.Part.{part_bytes, lists_in, piece, list_of}
use Rattle.romfs_format.specs.Trailer.{trailer, trailer_bytes, long_word, part}
use Rattle.romfs_format.specs.ExtendedExamples.{AclExamples, BrokenAclExamples, CapabilityExamples, XattrNameExamples, ListExamples}
use Rattle.romfs_format.specs.PartExamples.{PartExamples, RightPartExamples, BrokenPartExamples}
use Rattle.romfs_format.proofs.WorkedTrailers.{two_right, one_right}

-- facts for reading values and names that are written out
unfoldable values_on_literals : ⊤
unfolding ended little_at access_name default_name capability_name is_overlay_name is_capability
values_on_literals = tt

-- which values are access control lists
pub acls : AclExamples
unfolding values_on_literals
acls = record {
  as_set = refl;
  three = refl;
  with_mask = refl;
  named_by_mask = refl;
  by_group = refl;
  by_mask = refl;
  two_users = refl;
}

-- and which are not
pub no_acls : BrokenAclExamples
unfolding values_on_literals
no_acls = record {
  nothing = refl;
  version_alone = refl;
  cut_off = refl;
  longer = refl;
  other_version = refl;
  no_owner = refl;
  no_group = refl;
  no_others = refl;
  user_without_mask = refl;
  group_without_mask = refl;
  twice = refl;
  falling = refl;
  large_bits = refl;
  other_tag = refl;
  nobody_named = refl;
  group_named = refl;
}

-- which values are capabilities
pub capabilities : CapabilityExamples
unfolding values_on_literals
capabilities = record {
  as_set = refl;
  not_at_once = refl;
  of_a_namespace = refl;
  short = refl;
  long = refl;
  three_in_twenty = refl;
  two_in_more = refl;
  other_flag = refl;
  nothing = refl;
}

-- which names a file may have
pub names : XattrNameExamples
unfolding values_on_literals
names = record {
  one = refl;
  longest = refl;
  empty = refl;
  too_long = refl;
  zero = refl;
  overlay = refl;
  user_overlay = refl;
  no_overlay = refl;
  behind = refl;
}

-- which lists a file may have
pub lists : ListExamples
unfolding values_on_literals
lists = record {
  none = refl;
  rising = refl;
  same = refl;
  falling = refl;
  bad_first = refl;
  bad_last = refl;
  bad_acl = refl;
  bad_capability = refl;
  names = refl;
  found = refl;
  found_empty = refl;
  prefix_alone = refl;
  longer = refl;
  no_acl = refl;
  agreeing = refl;
  disagreeing = refl;
  default_alone = refl;
}

-- facts for reading parts that are written out
unfoldable parts_on_literals : ⊤
unfolding values_on_literals word trailer trailer_bytes long_word part part_bytes lists_in piece list_of
parts_on_literals = tt

-- what is a part, and what its lists say
pub parts : PartExamples
unfolding parts_on_literals
parts = record {
  none = refl;
  other_letters = refl;
  there = refl;
  two = refl;
  longer = refl;
  no_part = refl;
  at_root = refl;
  at_last = refl;
  elsewhere = refl;
  hidden = refl;
  shown = refl;
}

-- trailers with a part that keep their rule
pub right : RightPartExamples
unfolding parts_on_literals
right = record {
  two = record {
    whole = lit≤ tt;
    sum = refl;
    rows = two_right 64 _
        (record { aligned = refl; inside = lit< tt; mode = lit≤ tt; nanoseconds = lit< tt; last = refl })
        (record { aligned = refl; inside = lit< tt; mode = lit≤ tt; nanoseconds = lit< tt; last = refl })
        (lit< tt);
    part = λ h. record {
      frame = record { head = lit≤ tt; whole = lit≤ tt; words = refl; sum = refl; rows_fit = lit≤ tt };
      lists = record {
        tables = record {
          firsts_fit = lit≤ tt;
          from_zero = refl;
          firsts_rise = refl;
          edges_fit = lit≤ tt;
          edges_rise = refl;
          inside = lit≤ tt;
        };
        each = refl;
      };
      rows = refl;
    };
  };
  one = record {
    whole = lit≤ tt;
    sum = refl;
    rows = one_right 64 _
        (record { aligned = refl; inside = lit< tt; mode = lit≤ tt; nanoseconds = lit< tt; last = refl });
    part = λ h. record {
      frame = record { head = lit≤ tt; whole = lit≤ tt; words = refl; sum = refl; rows_fit = lit≤ tt };
      lists = record {
        tables = record {
          firsts_fit = lit≤ tt;
          from_zero = refl;
          firsts_rise = refl;
          edges_fit = lit≤ tt;
          edges_rise = refl;
          inside = lit≤ tt;
        };
        each = refl;
      };
      rows = refl;
    };
  };
  no_list = record {
    whole = lit≤ tt;
    sum = refl;
    rows = one_right 64 _
        (record { aligned = refl; inside = lit< tt; mode = lit≤ tt; nanoseconds = lit< tt; last = refl });
    part = λ h. record {
      frame = record { head = lit≤ tt; whole = lit≤ tt; words = refl; sum = refl; rows_fit = lit≤ tt };
      lists = record {
        tables = record {
          firsts_fit = lit≤ tt;
          from_zero = refl;
          firsts_rise = refl;
          edges_fit = lit≤ tt;
          edges_rise = refl;
          inside = lit≤ tt;
        };
        each = refl;
      };
      rows = refl;
    };
  };
  agreeing = record {
    whole = lit≤ tt;
    sum = refl;
    rows = one_right 64 _
        (record { aligned = refl; inside = lit< tt; mode = lit≤ tt; nanoseconds = lit< tt; last = refl });
    part = λ h. record {
      frame = record { head = lit≤ tt; whole = lit≤ tt; words = refl; sum = refl; rows_fit = lit≤ tt };
      lists = record {
        tables = record {
          firsts_fit = lit≤ tt;
          from_zero = refl;
          firsts_rise = refl;
          edges_fit = lit≤ tt;
          edges_rise = refl;
          inside = lit≤ tt;
        };
        each = refl;
      };
      rows = refl;
    };
  };
}

-- trailers whose part breaks its rule
pub broken : BrokenPartExamples
unfolding parts_on_literals
broken = record {
  letters_alone = (refl, λ t. let l : 16 ≤ 8 = (t.part refl).frame.head in omega arith);
  cut_off = (refl, λ t. let l : 52 ≤ 51 = (t.part refl).frame.whole in omega arith);
  uneven = (refl, λ t. let e : 1 ≡ 0 = (t.part refl).frame.words in omega arith);
  large_sum = (refl, λ t. let e : 1 ≡ 0 = (t.part refl).frame.sum in omega arith);
  no_lists = (refl, λ t. let l : 24 ≤ 20 = (t.part refl).frame.rows_fit in omega arith);
  many_lists = (refl, λ t. let l : 36 ≤ 32 = (t.part refl).lists.tables.firsts_fit in omega arith);
  from_one = (refl, λ t. let e : 1 ≡ 0 = (t.part refl).lists.tables.from_zero in omega arith);
  empty_list = (refl, λ t. let e : false ≡ true = (t.part refl).lists.tables.firsts_rise in cc);
  many_attributes = (refl, λ t. let l : 40 ≤ 32 = (t.part refl).lists.tables.edges_fit in omega arith);
  falling = (refl, λ t. let e : false ≡ true = (t.part refl).lists.tables.edges_rise in cc);
  outside = (refl, λ t. let l : 33 ≤ 32 = (t.part refl).lists.tables.inside in omega arith);
  nameless = (refl, λ t. let e : false ≡ true = (t.part refl).lists.each in cc);
  second_of_one = (refl, λ t. let e : false ≡ true = (t.part refl).rows in cc);
  disagreeing = (refl, λ t. let e : false ≡ true = (t.part refl).rows in cc);
}
