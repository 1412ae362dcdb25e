-- The worked examples: each size and limit is a constant, so it equals the named number by computation (limits).
use Rattle.std.proofs.Common.{refl}
use Rattle.romfs_format.specs.Examples.{LimitExamples, AclNumberExamples}

-- the sizes and limits of an image are the numbers of the examples
pub limits : LimitExamples
limits = record {
  head = refl;
  name_field = refl;
  summed = refl;
  target = refl;
  major = refl;
  names = refl;
  trailer_head = refl;
  row = refl;
  mode = refl;
  second = refl;
  part_head = refl;
  xattr_name = refl;
  xattr = refl;
  xattr_list = refl;
  acl = refl;
}

-- so are those of access control lists
pub acl_numbers : AclNumberExamples
acl_numbers = record {
  version = refl;
  user_obj = refl;
  user = refl;
  group_obj = refl;
  group = refl;
  mask = refl;
  other = refl;
  undefined = refl;
}
