-- Worked examples: the numbers of the limits.
use Rattle.std.specs.Prelude.{◌≡◌, ◌-◌, ◌^◌}
use Rattle.romfs_format.specs.declared.limits.TheConstants.{HEAD_SIZE, NAME_FIELD_SIZE, SUMMED_SIZE, MAX_TARGET_SIZE, MAX_MAJOR, MAX_NAMES, TRAILER_HEAD_SIZE, ROW_SIZE, MAX_MODE, SECOND, PART_HEAD_SIZE, MAX_XATTR_NAME_SIZE, MAX_XATTR_SIZE, MAX_XATTR_LIST_SIZE, MAX_ACL_SIZE}
use Rattle.romfs_format.specs.declared.acl.TheConstants.{VERSION, USER_OBJ, USER, GROUP_OBJ, GROUP, MASK, OTHER, UNDEFINED_ID}

-- each size and each limit of an image
pub record LimitExamples : Type 0 where
  pub head : HEAD_SIZE ≡ 16
  pub name_field : NAME_FIELD_SIZE ≡ 256
  pub summed : SUMMED_SIZE ≡ 512
  pub target : MAX_TARGET_SIZE ≡ 4095
  pub major : MAX_MAJOR ≡ 4095
  pub names : MAX_NAMES ≡ 512
  pub trailer_head : TRAILER_HEAD_SIZE ≡ 16
  pub row : ROW_SIZE ≡ 32
  pub mode : MAX_MODE ≡ 0xfff
  pub second : SECOND ≡ 10 ^ 9
  pub part_head : PART_HEAD_SIZE ≡ 16
  pub xattr_name : MAX_XATTR_NAME_SIZE ≡ 255
  pub xattr : MAX_XATTR_SIZE ≡ 65536
  pub xattr_list : MAX_XATTR_LIST_SIZE ≡ 65536
  pub acl : MAX_ACL_SIZE ≡ 4096

-- each number of an access control list
pub record AclNumberExamples : Type 0 where
  pub version : VERSION ≡ 2
  pub user_obj : USER_OBJ ≡ 0x01
  pub user : USER ≡ 0x02
  pub group_obj : GROUP_OBJ ≡ 0x04
  pub group : GROUP ≡ 0x08
  pub mask : MASK ≡ 0x10
  pub other : OTHER ≡ 0x20
  pub undefined : UNDEFINED_ID ≡ 2 ^ 32 - 1
