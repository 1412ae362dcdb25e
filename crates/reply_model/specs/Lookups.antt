-- linux/fuse.h, FUSE_LOOKUP and FUSE_EXPORT_SUPPORT: the node that a name finds below a node.
use Rattle.std.specs.Prelude.{ℕ, List, Bool, ◌&&◌, Option, Some, if◌then◌else◌, codes}
use Rattle.stack_model.specs.Listing.{Entry}
use Rattle.stack_model.specs.Numbers.{Place, same_name, parent, child}

-- with EXPORT_SUPPORT the name . finds the node itself
abbrev pub is_itself : Bool → List ℕ → Bool
is_itself export name = export && same_name name (codes ".")

-- and the name .. finds the parent directory
abbrev pub is_parent : Bool → List ℕ → Bool
is_parent export name = export && same_name name (codes "..")

-- every other name finds the child of that name, if there is one
abbrev pub looked_up : List Entry → Bool → Place → List ℕ → Option Place
looked_up entries export p name =
    if is_itself export name then Some p else
    if is_parent export name then Some (parent entries p) else
    child entries p name
