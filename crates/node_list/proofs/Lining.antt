-- The line of a number, from its attributes: what the code writes for a node, from its fields, is the line that the definition gives its
-- number (`line_is`). The fields are written from last to first, and are then in a row (`in_a_row`).
use Rattle.std.proofs.Common.{◌≡◌, ℕ, List, [], ◌∷◌, ◌++◌, Some, refl, append-nil, append_assoc}
use Rattle.stack_model.specs.Numbers.{Place, node_of}
use Rattle.stack_model.specs.Attributes.{attr_of}
use Rattle.stack_model.specs.declared.attr.Attr.{Attr}
use Rattle.stack_model.specs.Listing.{Stacked}
use Rattle.node_reader.specs.Readers.{attr_at}
use Rattle.node_list.specs.Lines.{fields_text, line_with}
use Rattle.node_list.specs.Walks.{line_as}

-- the fields of a node's attributes, a text and the end of a line are the line of its number
pub line_is : (stack : Stacked) (n : ℕ) (text : List ℕ) (p : Place) (attr : Attr) → node_of stack.entries n ≡ Some p
    → Some attr ≡ attr_at stack n
    → (fields_text attr.ino attr.mode attr.nlink attr.size p.0 ++ text) ++ 10 ∷ [] ≡ line_as stack n text
unfolding line_with
line_is stack n text p attr e f =
    let g : Some attr ≡ Some (attr_of stack p) = rw e at f in
    let v : attr ≡ attr_of stack p = cc in
    rw (e, v) refl

-- texts, each before the next, are these in a row
pub in_a_row : (a b c d e : List ℕ) {t u v w x y : List ℕ} → t ≡ a ++ u → u ≡ b ++ v → v ≡ c ++ w → w ≡ d ++ x → x ≡ e ++ y → y ≡ []
    → t ≡ a ++ b ++ c ++ d ++ e
in_a_row a b c d e f g h i j k = rw (f, g, h, i, j, k) (simp (append_assoc, append-nil) refl)
