-- Paired lists, and the stamps of nodes by the rows of their places.
use Rattle.std.proofs.Common.{◌≡◌, ◌∙◌, sym, ap, ℕ, zero, suc, List, [], ◌∷◌, length, map, true, false, not, Bool, Option, None, refl, arith}
use Rattle.std.specs.Prelude.{slice_get, nat_eq}
use Rattle.std.specs.List.{slice_index_or}
use Rattle.std.specs.Option.{option_and_then}
use Rattle.std.proofs.lemmas.Bool.{ne_eqb}
use Rattle.romfs_format.specs.declared.attribute_row.AttributeRow.{AttributeRow}
use Rattle.romfs_format.specs.Trailer.{row_at}
use Rattle.romfs_rows.proofs.Search.{row_at_position}
use Rattle.stack_model.specs.Attributes.{row_in}
use Rattle.stack_model.specs.declared.owner.Owner.{Owner}
use Rattle.layer_paths.specs.declared.entries.Place.{Place}
use Rattle.node_reader.specs.declared.node.Node.{Node}
use Rattle.node_reader.specs.declared.stamp.Stamp.{Stamp}
use Rattle.node_reader.specs.Readers.{placed}
use Rattle.node_reader.specs.Held.{have_rows, position_held, row_held, stamp_by, stamp_held, AreStampsOf}
use Rattle.node_reader.specs.Stamps.{ArePaired}
use Rattle.node_reader.proofs.Nodes.{held_map}

module _ {A B : Type 0} where
  paired_rest : (R : A → B → Type 0) (x : A) (xs : List A) (y : B) (ys : List B) → ArePaired R (x ∷ xs) (y ∷ ys) → ArePaired R xs ys
  paired_rest R x xs y ys p = let l = p.level in record { level = omega arith; each = λ k a b e i. p.each (suc k) a b e i }

  -- a list is made of what it is paired with
  pub paired_is : (f : B → A) (xs : List A) (ys : List B) → ArePaired (λ x y. f y ≡ x) xs ys → map f ys ≡ xs
  paired_is f [] [] p = refl
  paired_is f [] (y ∷ ys) p = let l = p.level in absurd (omega arith)
  paired_is f (x ∷ xs) [] p = let l = p.level in absurd (omega arith)
  paired_is f (x ∷ xs) (y ∷ ys) p =
      rw (p.each 0 x y refl refl, paired_is f xs ys (paired_rest (λ a b. f b ≡ a) x xs y ys p)) refl

-- a layer has a row
abbrev pub has_row : List AttributeRow → Bool
has_row of_layer = not (nat_eq (length of_layer) 0)

-- if the first layer has a row, some has
some_row : (x : AttributeRow) (xs : List AttributeRow) (rows : List (List AttributeRow)) → have_rows ((x ∷ xs) ∷ rows) ≡ false → ⊥
some_row x xs rows e =
    let empty : nat_eq (suc (length xs)) 0 ≡ false = ne_eqb (suc (length xs)) 0 (λ q. absurd (omega arith)) in
    let z : true ≡ false = rw empty at e in
    cc

-- the row at the position of a place is that place's
pub placed_row : (rows : List (List AttributeRow)) (place : Place) (at : Option ℕ) (row : Option AttributeRow)
    → at ≡ position_held rows place → row ≡ option_and_then (slice_get (slice_index_or rows place.layer [])) at
    → row ≡ row_in rows (placed place)
placed_row rows place at row e f =
    f ∙ ap (option_and_then (slice_get (slice_index_or rows place.layer []))) e
    ∙ sym (row_at_position (slice_index_or rows place.layer []) place.header)

-- stamps by the nodes' rows are theirs
pub nodes_stamped : (rows : List (List AttributeRow)) (owner : Owner) (held : List Node) (stamps : List Stamp)
    → stamps ≡ map (λ (node : Node). stamp_by (row_held rows node) owner) held → have_rows rows ≡ true
    → AreStampsOf rows owner held stamps
nodes_stamped rows owner held stamps e h = record {
  each = λ n node i. rw (e, held_map (λ (x : Node). stamp_by (row_held rows x) owner) held n, i) refl;
  none = λ i. absurd (let z : true ≡ false = sym h ∙ i in cc);
}

-- if no layer has a row, no place has one
no_row : (rows : List (List AttributeRow)) (layer header : ℕ) → have_rows rows ≡ false → row_at (slice_index_or rows layer []) header ≡ None
no_row [] layer header e = refl
no_row ([] ∷ rows) zero header e = refl
no_row ([] ∷ rows) (suc layer) header e = no_row rows layer header e
no_row ((x ∷ xs) ∷ rows) layer header e = absurd (some_row x xs rows e)

pub no_stamps : (rows : List (List AttributeRow)) (owner : Owner) (held : List Node) → have_rows rows ≡ false
    → AreStampsOf rows owner held []
no_stamps rows owner held e = record {
  each = λ n node i. nothing_held n ∙ ap (λ r. stamp_by r owner) (sym (no_row rows node.place.layer node.place.header e));
  none = λ i. refl;
}
  where
    nothing_held : (n : ℕ) → stamp_held [] owner n ≡ stamp_by None owner
    nothing_held zero = refl
    nothing_held (suc k) = refl
