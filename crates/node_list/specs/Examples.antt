-- A worked example: a directory with a row of attributes.
use Rattle.std.specs.Prelude.{[], ◌∷◌, true}
use Rattle.stack_model.specs.declared.owner.TheConstants.Owner.{ROOT}
use Rattle.stack_model.specs.Listing.{Stacked}

-- a layer of four bytes, which are the first word of a directory's header with the executable bit,
-- and a row of that header
abbrev pub sticky_root : Stacked
sticky_root = record {
  layers = (0 ∷ 0 ∷ 0 ∷ 9 ∷ []) ∷ [];
  entries = record { path = []; layer = 0; header = 0 } ∷ [];
  rows = (record {
    place = 0;
    mode = 0o1777;
    uid = 0;
    gid = 0;
    seconds = 0;
    nanoseconds = 0;
  } ∷ []) ∷ [];
  lists = [];
  owner = ROOT;
  whole = true;
}
