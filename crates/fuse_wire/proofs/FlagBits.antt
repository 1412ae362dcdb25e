-- Whether a flag is set, by its mask and by its place. The code masks the flags of an INIT, and the definitions take the bit at a place;
-- each lemma says for one flag that both are the same.
use Rattle.std.proofs.Common.{◌≡◌, ℕ, ◌*◌, ◌/◌, ◌%◌, bit_and}
use Rattle.std.proofs.lemmas.Nat.Bits.{and_pow}

-- the mask of MAX_PAGES keeps bit 22 and no other
pub max_pages_bit : (flags : ℕ) → bit_and flags 4194304 ≡ flags / 4194304 % 2 * 4194304
max_pages_bit flags = and_pow flags 22

-- the mask of EXPORT_SUPPORT keeps bit 4 and no other
pub export_bit : (flags : ℕ) → bit_and flags 16 ≡ flags / 16 % 2 * 16
export_bit flags = and_pow flags 4

-- the mask of NO_OPEN_SUPPORT keeps bit 17 and no other
pub no_open_bit : (flags : ℕ) → bit_and flags 131072 ≡ flags / 131072 % 2 * 131072
no_open_bit flags = and_pow flags 17

-- the mask of POSIX_ACL keeps bit 20 and no other
pub acl_bit : (flags : ℕ) → bit_and flags 1048576 ≡ flags / 1048576 % 2 * 1048576
acl_bit flags = and_pow flags 20

-- the mask of NO_OPENDIR_SUPPORT keeps bit 24 and no other
pub no_opendir_bit : (flags : ℕ) → bit_and flags 16777216 ≡ flags / 16777216 % 2 * 16777216
no_opendir_bit flags = and_pow flags 24
