-- What a table represents: a stack of layers, and its visible paths.
use Rattle.std.specs.Prelude.{◌≡◌, ℕ, List, [], refl}
use Rattle.std.specs.Coded.{Coded, Coded-set, code_by, coded×, coded_ℕ, coded_list}
use mathlib.Core.HLevel.{Σ_prop_path}
use mathlib.Core.Logic.{∥∥₁_elim, ∥∥₁_prop}
use Rattle.romfs_format.specs.declared.attribute_row.AttributeRow.{AttributeRow}
use Rattle.romfs_format.specs.Extended.{Extended}
use Rattle.stack_model.specs.declared.owner.Owner.{Owner}
use Rattle.stack_model.specs.declared.owner.TheConstants.Owner.{ROOT}
use Rattle.stack_model.specs.Listing.{Entry, Stacked, IsListing}
use Rattle.stack_model.proofs.Listings.{one_listing}

-- the stack of these layers with these rows and their lists, and this owner of everything without a
-- row
pub record IsTableWith (layers : List (List ℕ)) (rows : List (List AttributeRow))
    (lists : List (List (List Extended))) (owner : Owner) (stack : Stacked) : Type 0 where
  pub layers_are : stack.layers ≡ layers
  pub rows_are : stack.rows ≡ rows
  pub lists_are : stack.lists ≡ lists
  pub owner_is : stack.owner ≡ owner
  pub listing : IsListing stack.layers stack.entries

-- the stack of these layers without rows, with the superuser as owner of everything
abbrev pub IsTableOf : List (List ℕ) → Stacked → Type 0
IsTableOf layers stack = IsTableWith layers [] [] ROOT stack

-- a listing of the layers
abbrev pub Listed : List (List ℕ) → Type 0
Listed layers = (entries : List Entry) × ∥ IsListing layers entries ∥₁

-- an entry is determined by its path, its layer and its header
abbrev entry_code : Coded Entry
entry_code =
    code_by (List (List ℕ) × (ℕ × ℕ))
    (coded× {A = List (List ℕ)} {B =
    ℕ × ℕ} (coded_list (coded_list coded_ℕ)) (coded× coded_ℕ coded_ℕ))
    (λ e. (e.path, (e.layer, e.header))) (λ p. record { path = p.0; layer = p.1.0; header = p.1.1 })
    (λ _. refl)

-- there is only one
pub listed_once : (layers : List (List ℕ)) → IsProp (Listed layers)
listed_once layers x y =
    let same = Coded-set (coded_list entry_code) x.0 y.0 in
    Σ_prop_path (λ _. ∥∥₁_prop) (∥∥₁_elim x.1 same
    (λ p. ∥∥₁_elim y.1 same (λ q. one_listing layers x.0 y.0 p q)))
