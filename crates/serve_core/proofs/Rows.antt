-- Two stacks that differ only in their layers, and there say the same of each node's place, have the same attributes (attr_same) and rows
-- (small_same, listed_same).
use Rattle.std.proofs.Common.{◌≡◌, ◌∙◌, sym, ap, ℕ, ◌+◌, ◌-◌, ◌/◌, ◌^◌, List, [], ◌∷◌, ◌++◌, Bool, true, false, length, min, Option, Some, None, refl, if◌then◌else◌}
use Rattle.std.specs.Prelude.{count_by, nat_le, nat_lt}
use Rattle.std.specs.List.{AllByRecursion, flat_map}
use Rattle.std.specs.Option.{option_map_or}
use Rattle.std.proofs.lemmas.List.Sums.{sum_by-cons}
use Rattle.stack_model.specs.declared.owner.Owner.{Owner}
use Rattle.stack_model.specs.declared.attr.Attr.{Attr}
use Rattle.romfs_format.specs.declared.attribute_row.AttributeRow.{AttributeRow}
use Rattle.romfs_format.specs.Extended.{Extended}
use Rattle.fuse_wire.specs.Structures.{dirent, direntplus}
use Rattle.stack_model.specs.Listing.{Entry, Stacked}
use Rattle.stack_model.specs.Numbers.{Place, Child, place, same_place, number, children}
use Rattle.stack_model.specs.Attributes.{is_directory, is_directory_at, mode, mode_by, row_in, owner_by, size_at, blocks_of, rdev, links, nlink, attr_of}
use Rattle.reply_model.specs.Rows.{Row, is_child, is_too_small, fitting, rows_after, rows_answered, dirent_of, direntplus_of}
use Rattle.serve_core.proofs.Places.{IsSamePlace}
use Rattle.serve_core.proofs.Nodes.{IsNode, AreNodes, RowsAreNodes, children_nodes, after_nodes}

-- forms that are the same at each of the rows write the same
abbrev pub AreSameForms : (Row → List ℕ) → (Row → List ℕ) → List Row → Type 0
AreSameForms f g rs = AllByRecursion (λ (r : Row). f r ≡ g r) rs

pub small_forms : (f g : Row → List ℕ) (room : ℕ) (rs : List Row) → AreSameForms f g rs → is_too_small f room rs ≡ is_too_small g room rs
small_forms f g room [] a = refl
small_forms f g room (r ∷ rs) a = ap (λ xs. nat_lt room (length xs)) a.0

one_fits : (t : Bool) (r : Row) (xs ys : List Row) → xs ≡ ys
    → (let x : List Row = if t then r ∷ xs else [] in x) ≡ (if t then r ∷ ys else [])
one_fits true r xs ys e = ap (λ zs. r ∷ zs) e
one_fits false r xs ys e = refl

pub fitting_forms : (f g : Row → List ℕ) (room : ℕ) (rs : List Row) → AreSameForms f g rs → fitting f room rs ≡ fitting g room rs
fitting_forms f g room [] a = refl
fitting_forms f g room (r ∷ rs) a =
    ap (λ n. if nat_le n room then r ∷ fitting f (room - n) rs else []) (ap length a.0)
    ∙ one_fits (nat_le (length (g r)) room) r (fitting f (room - length (g r)) rs) (fitting g (room - length (g r)) rs)
    (fitting_forms f g (room - length (g r)) rs a.1)

flat_step : (f g : Row → List ℕ) (t : Bool) (r : Row) (xs : List Row) → f r ≡ g r → flat_map f xs ≡ flat_map g xs
    → flat_map f (if t then r ∷ xs else []) ≡ flat_map g (if t then r ∷ xs else [])
flat_step f g true r xs e i = ap (λ ys. ys ++ flat_map f xs) e ∙ ap (λ zs. g r ++ zs) i
flat_step f g false r xs e i = refl

pub flat_forms : (f g : Row → List ℕ) (room : ℕ) (rs : List Row) → AreSameForms f g rs
    → flat_map f (fitting g room rs) ≡ flat_map g (fitting g room rs)
flat_forms f g room [] a = refl
flat_forms f g room (r ∷ rs) a =
    flat_step f g (nat_le (length (g r)) room) r (fitting g (room - length (g r)) rs) a.0 (flat_forms f g (room - length (g r)) rs a.1)

-- attributes of their parts
attr_by : ℕ → Option AttributeRow → Owner → ℕ → ℕ → ℕ → ℕ → Attr
attr_by ino row owner size mode links dev = record {
  ino = ino;
  size = size;
  blocks = blocks_of size;
  seconds = option_map_or (λ (r : AttributeRow). r.seconds) row 0;
  nanoseconds = option_map_or (λ (r : AttributeRow). r.nanoseconds) row 0;
  mode = mode_by row mode;
  nlink = links;
  uid = (owner_by row owner).uid;
  gid = (owner_by row owner).gid;
  rdev = dev;
}

module _ (la lb : List (List ℕ)) (es : List Entry) (rs : List (List AttributeRow)) (ls : List (List (List Extended)))
    (owner : Owner) (wa wb : Bool)
    (same : (p : Place) → IsNode es p → IsSamePlace la lb p) where
  abbrev A : Stacked
  A = record { layers = la; entries = es; rows = rs; lists = ls; owner = owner; whole = wa }

  abbrev B : Stacked
  B = record { layers = lb; entries = es; rows = rs; lists = ls; owner = owner; whole = wb }

  directory_same : (p : Place) → IsNode es p → is_directory_at la p ≡ is_directory_at lb p
  directory_same p n = ap (λ k. is_directory k) ((same p n).kinds)

  counted_same : (cs : List Child) → AreNodes es cs
      → count_by (λ (c : Child). is_directory_at la c.place) cs ≡ count_by (λ (c : Child). is_directory_at lb c.place) cs
  counted_same [] a = refl
  counted_same (c ∷ cs) a =
      sum_by-cons (λ (c : Child). if is_directory_at la c.place then 1 else 0) c cs
      ∙ ap (λ t. (if t then 1 else 0) + count_by (λ (c : Child). is_directory_at la c.place) cs) (directory_same c.place a.0)
      ∙ ap (λ n. (if is_directory_at lb c.place then 1 else 0) + n) (counted_same cs a.1)
      ∙ sym (sum_by-cons (λ (c : Child). if is_directory_at lb c.place then 1 else 0) c cs)

  links_same : (p : Place) → IsNode es p → links A p ≡ links B p
  links_same p n =
      ap (λ t. if t then 2 + count_by (λ (c : Child). is_directory_at la c.place) (children es p)
      else count_by (λ e. same_place p (place e)) es)
      (directory_same p n)
      ∙ ap (λ m. if is_directory_at lb p then 2 + m else count_by (λ e. same_place p (place e)) es)
      (counted_same (children es p) (children_nodes es p))

  pub attr_same : (p : Place) → IsNode es p → attr_of A p ≡ attr_of B p
  unfolding attr_by
  attr_same p n =
      let s = same p n in
      ap (λ z. attr_by (number es p) (row_in rs p) owner z (mode la p) (nlink A p) (rdev la p)) s.sizes
      ∙ ap (λ z. attr_by (number es p) (row_in rs p) owner (size_at lb p) z (nlink A p) (rdev la p)) s.modes
      ∙ ap (λ z. attr_by (number es p) (row_in rs p) owner (size_at lb p) (mode lb p) (min z (2 ^ 32 - 1)) (rdev la p)) (links_same p n)
      ∙ ap (λ z. attr_by (number es p) (row_in rs p) owner (size_at lb p) (mode lb p) (nlink B p) z) s.devices

  row_form : (r : Row) → IsNode es r.1.place → dirent_of A r ≡ dirent_of B r
  unfolding dirent_of
  row_form r n =
      ap (λ m. dirent (number es r.1.place) r.0 (mode_by (row_in rs r.1.place) m / 2 ^ 12) r.1.name) ((same r.1.place n).modes)

  plus_form : (r : Row) → IsNode es r.1.place → direntplus_of A r ≡ direntplus_of B r
  unfolding direntplus_of
  plus_form r n =
      ap (λ x. direntplus (if is_child r then Some x else None) (number es r.1.place) r.0
      (mode_by (row_in rs r.1.place) (mode la r.1.place) / 2 ^ 12) r.1.name) (attr_same r.1.place n)
      ∙ ap (λ m. direntplus (if is_child r then Some (attr_of B r.1.place) else None) (number es r.1.place) r.0
      (mode_by (row_in rs r.1.place) m / 2 ^ 12) r.1.name) ((same r.1.place n).modes)

  forms_each : (f g : Row → List ℕ) → ((r : Row) → IsNode es r.1.place → f r ≡ g r) → (xs : List Row) → RowsAreNodes es xs
      → AreSameForms f g xs
  forms_each f g h [] a = tt
  forms_each f g h (r ∷ xs) a = (h r a.0, forms_each f g h xs a.1)

  pub dirents : (p : Place) (offset : ℕ) → IsNode es p → AreSameForms (dirent_of A) (dirent_of B) (rows_after es p offset)
  dirents p offset n = forms_each (dirent_of A) (dirent_of B) row_form (rows_after es p offset) (after_nodes es p offset n)

  pub direntpluses : (p : Place) (offset : ℕ) → IsNode es p → AreSameForms (direntplus_of A) (direntplus_of B) (rows_after es p offset)
  direntpluses p offset n = forms_each (direntplus_of A) (direntplus_of B) plus_form (rows_after es p offset) (after_nodes es p offset n)

pub listed_same : (f g : Row → List ℕ) (es : List Entry) (p : Place) (offset size : ℕ) → AreSameForms f g (rows_after es p offset)
    → flat_map f (rows_answered es f p offset size) ≡ flat_map g (rows_answered es g p offset size)
listed_same f g es p offset size a =
    ap (λ xs. flat_map f xs) (fitting_forms f g size (rows_after es p offset) a) ∙ flat_forms f g size (rows_after es p offset) a
