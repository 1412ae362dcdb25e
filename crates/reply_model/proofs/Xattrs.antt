-- Extended attributes that a client gets: they are short if their list is one that a file may have (short_value, short_names); an answer
-- fits in the size (value_fits, names_fit); and a name is listed exactly if GETXATTR answers its value (listed).
use Rattle.std.proofs.Common.{◌≡◌, ◌≢◌, ◌∙◌, sym, ap, ℕ, ◌+◌, ◌≤◌, List, [], ◌∷◌, ◌++◌, length, Bool, true, false, Option, Some, None, cond, refl, arith, length-append}
use Rattle.std.specs.Prelude.{◌↔◌, IsTrue, nat_lt, not, ◌&&◌, ◌||◌, ◌==◌, bytes_eq, is_some}
use Rattle.std.specs.List.{list_all}
use Rattle.std.specs.Option.{option_map_or}
use Rattle.std.proofs.lemmas.Bool.{and_parts, ltb-false, leb-true, eqb-true, false≢true}
use Rattle.std.proofs.lemmas.Slice.Eq.{bytes_eq-Decides}
use Rattle.romfs_format.specs.declared.limits.TheConstants.{MAX_XATTR_SIZE}
use Rattle.romfs_format.specs.Extended.{Extended, is_acl_name, is_extended, is_list, names_of, names_rise, value_of}
use Rattle.romfs_format.proofs.Values.{values_short}
use Rattle.fuse_wire.specs.declared.errno.Errno.TheVariants.{ERANGE, ENODATA, EOPNOTSUPP}
use Rattle.fuse_wire.specs.declared.limits.TheConstants.{MAX_DATA_SIZE}
use Rattle.fuse_wire.specs.Structures.{getxattr_out}
use Rattle.fuse_wire.proofs.Sizes.{length-getxattr_out}
use Rattle.reply_model.specs.Xattrs.{xattrs_told, refused_size, sized_answer, refused_xattr, xattr_answer}
use Rattle.reply_model.specs.Laws.{is_listed}

-- a size as an answer has 8 bytes
sized_short : (n : ℕ) (bytes : List ℕ) → length bytes ≤ MAX_XATTR_SIZE → length (sized_answer n bytes) ≤ MAX_DATA_SIZE
sized_short n bytes l = go (n == 0)
  where
    go : (b : Bool) → length (cond b (getxattr_out (length bytes)) bytes) ≤ MAX_DATA_SIZE
    go true = let s = length-getxattr_out (length bytes) in omega arith
    go false = omega arith

-- the answer to a GETXATTR is short
pub short_value : (n : ℕ) (name : List ℕ) (xs : List Extended) → IsTrue (is_list xs) → length (xattr_answer n name xs) ≤ MAX_DATA_SIZE
short_value n name xs e = go (value_of name xs) refl
  where
    go : (o : Option (List ℕ)) → value_of name xs ≡ o → length (option_map_or (sized_answer n) o []) ≤ MAX_DATA_SIZE
    go None is = omega arith
    go (Some v) is = sized_short n v (values_short name xs e v is)

-- fewer names are no longer
pub told_no_longer : (acls : Bool) (xs : List Extended) → length (names_of (xattrs_told acls xs)) ≤ length (names_of xs)
told_no_longer true xs = omega arith
told_no_longer false [] = omega arith
told_no_longer false (x ∷ xs) = go (is_acl_name x.name) (told_no_longer false xs)
  where
    go : (b : Bool) → length (names_of (xattrs_told false xs)) ≤ length (names_of xs)
        → length (names_of (cond (not b) (x ∷ xattrs_told false xs) (xattrs_told false xs)))
        ≤ length (x.name ++ 0 ∷ names_of xs)
    go true r = let l = length-append x.name (0 ∷ names_of xs) in omega arith
    go false r =
        let l = length-append x.name (0 ∷ names_of xs) in
        let m = length-append x.name (0 ∷ names_of (xattrs_told false xs)) in
        omega arith

-- the answer to a LISTXATTR is short
pub short_names : (n : ℕ) (acls : Bool) (xs : List Extended) → IsTrue (is_list xs)
    → length (sized_answer n (names_of (xattrs_told acls xs))) ≤ MAX_DATA_SIZE
short_names n acls xs e =
    let l = leb-true _ _ (and_parts (list_all is_extended xs && names_rise xs) _ e).1 in
    let t = told_no_longer acls xs in
    sized_short n (names_of (xattrs_told acls xs)) (omega arith)

-- an answer that is not refused for its size fits in it
pub sized_fits : (size : ℕ) (bytes : List ℕ) → size ≢ 0 → refused_size size bytes ≡ None → length (sized_answer size bytes) ≤ size
sized_fits size bytes n r = go (size == 0) (nat_lt size (length bytes)) refl refl r
  where
    go : (z l : Bool) → (size == 0) ≡ z → nat_lt size (length bytes) ≡ l → cond (not z && l) (Some ERANGE) None ≡ None
        → length (cond z (getxattr_out (length bytes)) bytes) ≤ size
    go true l e f g = absurd (n (eqb-true _ _ e))
    go false true e f g = absurd (cc)
    go false false e f g = ltb-false _ _ f

-- so does a value
pub value_fits : (acls : Bool) (size : ℕ) (name : List ℕ) (xs : List Extended) → size ≢ 0 → refused_xattr acls size name xs ≡ None
    → length (xattr_answer size name xs) ≤ size
value_fits acls size name xs n r = go (is_acl_name name && not acls) (value_of name xs) r
  where
    go : (b : Bool) (o : Option (List ℕ)) → cond b (Some EOPNOTSUPP) (option_map_or (refused_size size) o (Some ENODATA)) ≡ None
        → length (option_map_or (sized_answer size) o []) ≤ size
    go true o f = absurd (cc)
    go false None f = absurd (cc)
    go false (Some v) f = sized_fits size v n f

-- a name is listed exactly if it has a value
listed_some : (name : List ℕ) (xs : List Extended) → is_listed name xs ≡ is_some (value_of name xs)
listed_some name [] = refl
listed_some name (x ∷ xs) = go (bytes_eq x.name name) (listed_some name xs)
  where
    go : (b : Bool) → is_listed name xs ≡ is_some (value_of name xs)
        → (b || is_listed name xs) ≡ is_some (cond b (Some x.value) (value_of name xs))
    go true rest = refl
    go false rest = rest

-- of the names that a client gets those of access control lists are not, unless it enforces them
told_listed : (name : List ℕ) (xs : List Extended)
    → is_listed name (xattrs_told false xs) ≡ (not (is_acl_name name) && is_listed name xs)
told_listed name [] = go (is_acl_name name)
  where
    go : (a : Bool) → false ≡ (not a && false)
    go true = refl
    go false = refl
told_listed name (x ∷ xs) = go (bytes_eq x.name name) (is_acl_name x.name) refl refl (told_listed name xs)
  where
    go : (b a : Bool) → bytes_eq x.name name ≡ b → is_acl_name x.name ≡ a
        → is_listed name (xattrs_told false xs) ≡ (not (is_acl_name name) && is_listed name xs)
        → is_listed name (cond (not a) (x ∷ xattrs_told false xs) (xattrs_told false xs))
        ≡ (not (is_acl_name name) && (b || is_listed name xs))
    go true true e f rest =
        let same = (bytes_eq-Decides x.name name).0 e in
        let t : is_acl_name name ≡ true = ap is_acl_name (sym same) ∙ f in
        rest ∙ rw t refl
    go true false e f rest =
        let same = (bytes_eq-Decides x.name name).0 e in
        let t : is_acl_name name ≡ false = ap is_acl_name (sym same) ∙ f in
        rw (e, t) refl
    go false true e f rest = rest
    go false false e f rest = rw e rest

-- a name is listed exactly if GETXATTR answers the length of its value
pub listed : (acls : Bool) (name : List ℕ) (xs : List Extended)
    → IsTrue (is_listed name (xattrs_told acls xs)) ↔ (refused_xattr acls 0 name xs ≡ None)
listed true name xs = either (is_acl_name name) (value_of name xs) (listed_some name xs)
  where
    either : (a : Bool) (o : Option (List ℕ)) → is_listed name xs ≡ is_some o → IsTrue (is_listed name xs)
        ↔ (cond (a && false) (Some EOPNOTSUPP) (option_map_or (refused_size 0) o (Some ENODATA)) ≡ None)
    either true None e = (λ t. absurd (false≢true (sym e ∙ t)), λ f. absurd (cc))
    either true (Some v) e = (λ t. refl, λ f. e)
    either false None e = (λ t. absurd (false≢true (sym e ∙ t)), λ f. absurd (cc))
    either false (Some v) e = (λ t. refl, λ f. e)
listed false name xs = either (is_acl_name name) (value_of name xs) (told_listed name xs) (listed_some name xs)
  where
    either : (a : Bool) (o : Option (List ℕ)) → is_listed name (xattrs_told false xs) ≡ (not a && is_listed name xs)
        → is_listed name xs ≡ is_some o → IsTrue (is_listed name (xattrs_told false xs))
        ↔ (cond (a && true) (Some EOPNOTSUPP) (option_map_or (refused_size 0) o (Some ENODATA)) ≡ None)
    either true o told e = (λ t. absurd (false≢true (sym told ∙ t)), λ f. absurd (cc))
    either false None told e = (λ t. absurd (false≢true (sym (told ∙ e) ∙ t)), λ f. absurd (cc))
    either false (Some v) told e = (λ t. refl, λ f. told ∙ e)
