-- Images that were checked, stacked: `are_stacked` is the main lemma. If no attributes are read a stack shows what it shows without rows
-- (`unasked`), and no node has an extended attribute (`unasked_xattrs`).
use Rattle.std.proofs.Common.{◌≡◌, ◌∙◌, sym, ap, subst, ℕ, zero, suc, List, [], ◌∷◌, ◌++◌, append_assoc, map, length, Vec, None, Bool, false, true, refl, Result, Ok, Err, IfErr, IsErrAnd}
use Rattle.std.proofs.lemmas.List.{length-map}
use Rattle.std.proofs.lemmas.List.Folds.{list_all-map}
use Rattle.std.specs.Prelude.{not, nat_eq}
use Rattle.std.specs.List.{list_any, slice_index_or}
use Rattle.romfs_held.specs.declared.image.HeldImage.{HeldImage}
use Rattle.romfs_held.specs.declared.image.HeldImage.TheVariants.{Whole}
use Rattle.romfs_held.specs.Images.{held_bytes}
use Rattle.romfs_reader.specs.Images.{HeldBytes, all_whole, bytes_of}
use Rattle.romfs_format.specs.Fields.{image}
use Rattle.romfs_format.specs.Profiles.{reads_attributes}
use Rattle.romfs_format.specs.Extended.{Extended}
use Rattle.romfs_format.specs.Trailer.{row_at, rows_shown, list_at, lists_shown}
use Rattle.romfs_format.specs.declared.attribute_row.AttributeRow.{AttributeRow}
use Rattle.romfs_format.specs.declared.rule.Profile.{Profile}
use Rattle.stack_model.specs.declared.owner.Owner.{Owner}
use Rattle.stack_model.specs.declared.owner.TheConstants.Owner.{ROOT}
use Rattle.stack_model.specs.Listing.{Stacked, stacked}
use Rattle.stack_model.specs.Numbers.{Place, nodes}
use Rattle.stack_model.specs.Attributes.{row_in, row_of, attr_of, list_in, xattrs_of, has_xattrs}
use Rattle.stack_model.proofs.Modes.{as_without}
use Rattle.node_reader.specs.Stacked.{IsTableWith}
use Rattle.stack_prepare.specs.declared.checking.Checked.{Checked}
use Rattle.stack_prepare.specs.declared.refusal.Refusal.{Refusal}
use Rattle.stack_prepare.specs.Layers.{are_whole, IsFew}
use Rattle.stack_prepare.specs.Checking.{accessible, AreSeen}
use Rattle.stack_prepare.specs.Preparing.{AreStacked}

both : {X Y Z : Type 0} (f : X → Y) (g : Y → Z) (xs : List X) → map g (map f xs) ≡ map (λ x. g (f x)) xs
both f g [] = refl
both f g (x ∷ xs) = ap (λ rest. g (f x) ∷ rest) (both f g xs)

module _ {A : Type 0} {profile : Profile} {images : List (HeldImage A)} {checked : Checked A} (seen : AreSeen profile images checked) where
  -- as few have bytes
  pub few_held : IsFew (length (map held_bytes images))
  few_held = subst IsFew (sym (length-map images held_bytes)) seen.few

  -- their table is that of the images' stack
  pub are_stacked : (owner : Owner) (stack : Stacked)
      → IsTableWith (bytes_of checked.images.items) checked.rows.items checked.lists.items owner stack
      → AreStacked profile owner (map held_bytes images) stack
  are_stacked owner stack table = record {
    layers = record {
      few = few_held;
      sound = seen.checked_are.sound;
      are = table.layers_are ∙ ap bytes_of seen.checked_are.are ∙ both accessible (λ (h : HeldBytes). h.bytes) images
          ∙ sym (both held_bytes image images);
    };
    rows_are = table.rows_are ∙ seen.checked_are.rows_are ∙ sym (both held_bytes (rows_shown profile) images);
    lists_are = table.lists_are ∙ seen.checked_are.lists_are ∙ sym (both held_bytes (lists_shown profile) images);
    owner_is = table.owner_is;
    listing = table.listing;
  }

  -- it is whole if they are
  pub whole_are : all_whole checked.images.items ≡ are_whole images
  whole_are = ap all_whole seen.checked_are.are ∙ list_all-map (λ (h : HeldBytes). h.whole) accessible images

-- the next image moves from those that are left to those that are held
pub one_held : {X Y : Type 0} (w : Y → X) (all done : List X) (left rest : List Y) (y : Y) → all ≡ done ++ map w left → left ≡ y ∷ rest
    → all ≡ (done ++ w y ∷ []) ++ map w rest
one_held w all done left rest y e l =
    e ∙ ap (λ ys. done ++ map w ys) l ∙ sym (append_assoc done (w y ∷ []) (map w rest))

-- images that are held in full have their bytes
pub whole_bytes : {A : Type 0} (images : List (Vec ℕ A)) (held : List (HeldImage A)) → held ≡ map Whole images
    → map held_bytes held ≡ map (λ (image : Vec ℕ A). image.items) images
whole_bytes images held e = ap (map held_bytes) e ∙ both Whole held_bytes images

all_wholes : {A : Type 0} (images : List (Vec ℕ A)) → are_whole (map Whole images) ≡ true
all_wholes [] = refl
all_wholes (image ∷ images) = all_wholes images

-- and all of them
pub wholes : {A : Type 0} (images : List (Vec ℕ A)) (held : List (HeldImage A)) → held ≡ map Whole images → are_whole held ≡ true
wholes images held e = ap are_whole e ∙ all_wholes images

none_in : {X : Type 0} (f : List ℕ → List X) → ((b : List ℕ) → f b ≡ []) → (images : List (List ℕ)) (i : ℕ)
    → slice_index_or (map f images) i [] ≡ []
none_in f e [] i = refl
none_in f e (b ∷ images) zero = e b
none_in f e (b ∷ images) (suc i) = none_in f e images i

-- if no attributes are read, and everything belongs to the superuser, attributes are those without rows
pub unasked : (profile : Profile) (images : List (List ℕ)) (stack : Stacked) (p : Place) → reads_attributes profile ≡ false
    → AreStacked profile ROOT images stack → attr_of stack p ≡ attr_of (stacked stack.layers stack.entries) p
unasked profile images stack p e s =
    let rows : slice_index_or (map (rows_shown profile) images) p.0 [] ≡ [] = none_in (rows_shown profile) (λ b. rw e refl) images p.0 in
    let none : row_of stack p ≡ None = ap (λ r. row_in r p) s.rows_are ∙ ap (λ r. row_at r p.1) rows in
    as_without stack p none s.owner_is

-- without lists no place has one
no_list : (xs : List AttributeRow) (p : ℕ) → list_at xs [] p ≡ []
no_list [] p = refl
no_list (x ∷ xs) p = refl

none_any : {X : Type 0} (f : X → Bool) (xs : List X) → ((x : X) → f x ≡ false) → list_any f xs ≡ false
none_any f [] e = refl
none_any f (x ∷ xs) e = rw e (none_any f xs e)

-- if no attributes are read no node has an extended attribute
pub unasked_xattrs : (profile : Profile) (owner : Owner) (images : List (List ℕ)) (stack : Stacked) → reads_attributes profile ≡ false
    → AreStacked profile owner images stack → has_xattrs stack ≡ false
unasked_xattrs profile owner images stack e s =
    none_any _ (nodes stack.entries) (λ p. ap (λ (xs : List Extended). not (nat_eq (length xs) 0)) (bare p))
  where
    bare : (p : Place) → xattrs_of stack p ≡ []
    bare p =
        let lists : slice_index_or (map (lists_shown profile) images) p.0 [] ≡ [] =
        none_in (lists_shown profile) (λ b. rw e refl) images p.0 in
        ap (λ ls. list_in stack.rows ls p) s.lists_are ∙ ap (λ ls. list_at (slice_index_or stack.rows p.0 []) ls p.1) lists
        ∙ no_list (slice_index_or stack.rows p.0 []) p.1

-- a refusal that is passed on is unchanged
pub passed_on : {X : Type 0} (result : Result X Refusal) (P : Refusal → Type 0) (refusal : Refusal)
    → IsErrAnd result (λ told. told ≡ refusal) → P refusal → IfErr result P
passed_on (Ok x) P refusal told p = tt
passed_on (Err e) P refusal told p = subst P (sym told) p
