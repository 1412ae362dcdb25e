-- No path of a sound image is printed longer than `LONGEST`: it has at most `MAX_NAMES` names, each of them is shorter than the field that
-- it is read from (`name_length`), and each byte is printed as at most three (`text_length`). `are_short` says so for all shown paths.
use Rattle.std.proofs.Common.{◌≡◌, ℕ, zero, suc, ◌+◌, ◌*◌, ◌<◌, ◌≤◌, List, [], ◌∷◌, length, drop, Option, Some, None, Bool, true, false, arith, refl, length-append, length-take}
use Rattle.std.specs.Option.{option_map}
use Rattle.romfs_format.specs.declared.limits.TheConstants.{HEAD_SIZE, NAME_FIELD_SIZE, MAX_NAMES}
use Rattle.romfs_format.specs.Fields.{text_at, ended, name_field}
use Rattle.romfs_format.specs.Chains.{Leads}
use Rattle.romfs_format.proofs.Text.{name_ended}
use Rattle.romfs_reader.proofs.Paths.{short}
use Rattle.stack_model.specs.Stack.{Path}
use Rattle.stack_model.specs.Listing.{Entry, IsListing}
use Rattle.node_list.specs.Lines.{is_unescaped, escaped, name_text, names_text}
use Rattle.node_list.specs.Below.{AreImages, AreShort}
use Rattle.node_list.proofs.Trees.{top_has}

escaped_length : (byte : ℕ) → length (escaped byte) ≤ 3
escaped_length byte = go (is_unescaped byte) refl
  where
    go : (b : Bool) → is_unescaped byte ≡ b → length (escaped byte) ≤ 3
    go true e = rw e (omega arith)
    go false e = rw e (omega arith)

text_length : (name : List ℕ) → length (name_text name) ≤ 3 * length name
unfolding name_text
text_length [] = omega arith
text_length (byte ∷ name) =
    let b = escaped_length byte in
    let t = text_length name in
    rw (length-append (escaped byte) (name_text name)) (omega arith)

-- a text that is ended is shorter than what it was read from
ended_shorter : (xs t : List ℕ) → ended xs ≡ Some t → length t < length xs
unfolding ended
ended_shorter [] t e = absurd (cc)
ended_shorter (zero ∷ xs) t e = let q : [] ≡ t = cc in rw (← q) (omega arith)
ended_shorter (suc n ∷ xs) t e = pick (λ u q. ended_shorter xs u q) (ended xs) refl e
  where
    pick : ((u : List ℕ) → ended xs ≡ Some u → length u < length xs) → (o : Option (List ℕ)) → ended xs ≡ o
        → option_map (λ text. suc n ∷ text) o ≡ Some t → length t < length (suc n ∷ xs)
    pick f None q e = absurd (cc)
    pick f (Some u) q e = let l = f u q in let k : suc n ∷ u ≡ t = cc in rw (← k) (omega arith)

name_length : (a t : List ℕ) (p : ℕ) → text_at a p ≡ Some t → length t < NAME_FIELD_SIZE
unfolding name_field
name_length a t p e =
    let l = ended_shorter (name_field a p) t (name_ended a t p e).0 in
    let k = length-take NAME_FIELD_SIZE (drop p a) in
    omega (arith, l, k)

path_length : (a : List ℕ) (path : Path) (d h : ℕ) → Leads a d path h → length (names_text path) ≤ 766 * length path
path_length a [] d h x = omega arith
path_length a (n ∷ path) d h (c, m, s, l) =
    let k = path_length a path c h l in
    let b = name_length a n (c + HEAD_SIZE) s in
    let t = text_length n in
    rw (length-append (name_text n) (names_text path)) (omega arith)

-- the text of no shown path of sound layers is too long
pub are_short : (layers : List (List ℕ)) (entries : List Entry) → AreImages layers → IsListing layers entries → AreShort entries
are_short layers entries i l = record {
  each = λ e among.
      let shown = (l.exact e).0 among in
      let has = top_has layers e.path e.layer shown.0 shown.1.1 in
      let few : length e.path ≤ MAX_NAMES = short has.0 (i.each e.layer has.0 has.1) e.path shown.0 has.2 in
      let long = path_length has.0 e.path _ shown.0 has.2 in
      omega (arith, few, long);
}
