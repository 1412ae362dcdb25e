-- Names of a file's extended attributes, one after another: those before a position and the one there are those before the next
-- (`said_next`); after the last they are all (`said_all`). No part of them has more bytes than all (`said_less`), and those are few
-- (`said_few`). What one attribute adds to the answer: its name with a zero byte, or nothing (`name_said`, `name_kept`, `none_said`).
use Rattle.std.proofs.Common.{◌≡◌, ◌∙◌, sym, ap, ℕ, zero, suc, ◌+◌, ◌≤◌, List, [], ◌∷◌, ◌++◌, length, take, drop, Bool, true, false, cond, Option, Some, None, refl, arith, append_assoc, length-append}
use Rattle.std.specs.Prelude.{slice_get, not, ◌&&◌}
use Rattle.std.specs.List.{list_all}
use Rattle.std.specs.Option.{option_map, option_to_list}
use Rattle.std.proofs.lemmas.Bool.{and_parts, leb-true}
use Rattle.std.proofs.lemmas.List.{take-append-drop, take_all}
use Rattle.std.proofs.lemmas.List.Elements.{filter-append}
use Rattle.std.proofs.lemmas.Option.{slice_get_past}
use Rattle.romfs_format.specs.declared.limits.TheConstants.{MAX_XATTR_LIST_SIZE}
use Rattle.romfs_format.specs.Extended.{Extended, is_acl_name, is_extended, names_of, names_rise}
use Rattle.reply_model.specs.Xattrs.{xattrs_told}
use Rattle.reply_model.proofs.Xattrs.{told_no_longer}
use Rattle.fuse_answer.specs.declared.outcome.Names.{Names}
use Rattle.fuse_answer.specs.Names.{list_of, AreAllowed, names_said, said_before, said_at}

-- one more of a list
take_suc : (xs : List Extended) (n : ℕ) → take (suc n) xs ≡ take n xs ++ option_to_list (slice_get xs n)
take_suc [] zero = refl
take_suc [] (suc n) = refl
take_suc (x ∷ xs) zero = refl
take_suc (x ∷ xs) (suc n) = ap (λ r. x ∷ r) (take_suc xs n)

take_next : (xs : List Extended) (n : ℕ) → take (n + 1) xs ≡ take n xs ++ option_to_list (slice_get xs n)
take_next xs n = let e : n + 1 ≡ suc n = omega arith in ap (λ k. take k xs) e ∙ take_suc xs n

names_append : (xs ys : List Extended) → names_of (xs ++ ys) ≡ names_of xs ++ names_of ys
names_append [] ys = refl
names_append (x ∷ xs) ys = ap (λ r. x.name ++ 0 ∷ r) (names_append xs ys) ∙ sym (append_assoc x.name (0 ∷ names_of xs) (names_of ys))

told_append : (acls : Bool) (xs ys : List Extended) → xattrs_told acls (xs ++ ys) ≡ xattrs_told acls xs ++ xattrs_told acls ys
told_append true xs ys = refl
told_append false xs ys = filter-append (λ x. not (is_acl_name x.name)) xs ys

both : (acls : Bool) (xs ys : List Extended)
    → names_of (xattrs_told acls (xs ++ ys)) ≡ names_of (xattrs_told acls xs) ++ names_of (xattrs_told acls ys)
both acls xs ys = ap names_of (told_append acls xs ys) ∙ names_append (xattrs_told acls xs) (xattrs_told acls ys)

module _ (names : Names) where
  -- with the one at a position
  pub said_next : (n : ℕ) → said_before names (n + 1) ≡ said_before names n ++ said_at names n
  said_next n =
      ap (λ xs. names_of (xattrs_told names.acls xs)) (take_next (list_of names) n)
      ∙ both names.acls (take n (list_of names)) (option_to_list (slice_get (list_of names) n))

  -- all of them
  pub said_all : (n : ℕ) → length (list_of names) ≤ n → said_before names n ≡ names_said names
  said_all n l = ap (λ xs. names_of (xattrs_told names.acls xs)) (take_all n (list_of names) l)

  -- no more than all
  pub said_less : (n : ℕ) → length (said_before names n) ≤ length (names_said names)
  said_less n =
      let whole =
      ap (λ xs. names_of (xattrs_told names.acls xs)) (sym (take-append-drop n (list_of names)))
      ∙ both names.acls (take n (list_of names)) (drop n (list_of names)) in
      let sum = ap length whole ∙ length-append (said_before names n) (names_of (xattrs_told names.acls (drop n (list_of names)))) in
      omega arith

  -- few
  pub all_few : AreAllowed names → length (names_said names) ≤ MAX_XATTR_LIST_SIZE
  all_few e =
      let xs = list_of names in
      let l = leb-true _ _ (and_parts (list_all is_extended xs && names_rise xs) _ e).1 in
      let t = told_no_longer names.acls xs in
      omega arith

  -- also the one at a position, and those up to it
  pub said_few : AreAllowed names → (n : ℕ) → length (said_before names n) + length (said_at names n) ≤ MAX_XATTR_LIST_SIZE
  said_few e n =
      let next = ap length (said_next n) ∙ length-append (said_before names n) (said_at names n) in
      let l = said_less (n + 1) in
      let m = all_few e in
      omega arith

  -- and there is room for it if there is for all
  pub said_fits : (n : ℕ) → length (said_before names n) + length (said_at names n) ≤ length (names_said names)
  said_fits n =
      let next = ap length (said_next n) ∙ length-append (said_before names n) (said_at names n) in
      let l = said_less (n + 1) in
      omega arith

  -- after the last there is none
  pub none_past : (n : ℕ) → length (list_of names) ≤ n → said_at names n ≡ []
  none_past n l = ap (λ o. names_of (xattrs_told names.acls (option_to_list o))) (slice_get_past (list_of names) n l) ∙ empty names.acls
    where
      empty : (acls : Bool) → names_of (xattrs_told acls []) ≡ []
      empty true = refl
      empty false = refl

  at_name : (acls : Bool) (o : Option Extended) (name : List ℕ) → option_map (λ (x : Extended). x.name) o ≡ Some name
      → names_of (xattrs_told acls (option_to_list o)) ≡ cond (is_acl_name name && not acls) [] (name ++ 0 ∷ [])
  at_name acls None name is = absurd (cc)
  at_name acls (Some x) name is = let same : x.name ≡ name = cc in rw (← same) (either acls (is_acl_name x.name) refl)
    where
      either : (acls : Bool) (b : Bool) → is_acl_name x.name ≡ b
          → names_of (xattrs_told acls (x ∷ [])) ≡ cond (b && not acls) [] (x.name ++ 0 ∷ [])
      either true true e = refl
      either true false e = refl
      either false true e = rw e refl
      either false false e = rw e refl

  -- a name that the client gets
  pub name_kept : (n : ℕ) (name : List ℕ) → option_map (λ (x : Extended). x.name) (slice_get (list_of names) n) ≡ Some name
      → (is_acl_name name && not names.acls) ≡ false → said_at names n ≡ name ++ 0 ∷ []
  name_kept n name is kept = at_name names.acls (slice_get (list_of names) n) name is ∙ rw kept refl

  -- and one that it does not get
  pub name_hidden : (n : ℕ) (name : List ℕ) → option_map (λ (x : Extended). x.name) (slice_get (list_of names) n) ≡ Some name
      → (is_acl_name name && not names.acls) ≡ true → said_at names n ≡ []
  name_hidden n name is hidden = at_name names.acls (slice_get (list_of names) n) name is ∙ rw hidden refl
