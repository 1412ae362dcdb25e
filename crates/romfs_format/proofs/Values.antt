-- The values of a list that a file may have are short (values_short).
use Rattle.std.proofs.Common.{◌≡◌, ℕ, ◌≤◌, List, [], ◌∷◌, length, Bool, true, false, Some, cond}
use Rattle.std.specs.Prelude.{bytes_eq}
use Rattle.std.specs.List.{list_all}
use Rattle.std.proofs.lemmas.Bool.{and_parts, leb-true}
use Rattle.romfs_format.specs.declared.limits.TheConstants.{MAX_XATTR_SIZE}
use Rattle.romfs_format.specs.Extended.{Extended, is_xattr_name, is_extended, is_list, value_of}

extended_short : (x : Extended) → is_extended x ≡ true → length x.value ≤ MAX_XATTR_SIZE
extended_short x e = leb-true _ _ (and_parts (is_xattr_name x.name) _ (and_parts _ _ e).0).1

all_short : (name : List ℕ) (xs : List Extended) → list_all is_extended xs ≡ true → (v : List ℕ) → value_of name xs ≡ Some v
    → length v ≤ MAX_XATTR_SIZE
all_short name [] e v is = absurd (cc)
all_short name (x ∷ xs) e v is = go (bytes_eq x.name name) is (all_short name xs (and_parts _ _ e).1 v)
  where
    go : (b : Bool) → cond b (Some x.value) (value_of name xs) ≡ Some v → (value_of name xs ≡ Some v → length v ≤ MAX_XATTR_SIZE)
        → length v ≤ MAX_XATTR_SIZE
    go true f h = let s = extended_short x (and_parts _ _ e).0 in let same : x.value ≡ v = cc in rw (← same) s
    go false f h = h f

pub values_short : (name : List ℕ) (xs : List Extended) → is_list xs ≡ true → (v : List ℕ) → value_of name xs ≡ Some v
    → length v ≤ MAX_XATTR_SIZE
values_short name xs e v is = all_short name xs (and_parts (list_all is_extended xs) _ (and_parts _ _ e).0).0 v is
