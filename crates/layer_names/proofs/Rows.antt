-- Rows, and the names that they have: the name of a row that was read at a place (`name_at`).
use Rattle.std.proofs.Common.{◌≡◌, ◌∙◌, sym, ap, ℕ, ◌<◌, List, [], length, map}
use Rattle.std.specs.List.{slice_index_or}
use Rattle.std.proofs.lemmas.List.{get_or-map}

-- the name at a place is that of the row that was read there
pub name_at : {X : Type 0} (f : X → List ℕ) (rows : List X) (i : ℕ) (row : X) (name : List ℕ) → i < length rows
    → row ≡ slice_index_or rows i row → name ≡ f row → slice_index_or (map f rows) i [] ≡ name
name_at f rows i row name l at is = get_or-map f rows i row [] l ∙ ap f (sym at) ∙ sym is
