use Rattle.std.proofs.Common.{refl, List, ap, subst}
use Rattle.stack_model.specs.Listing.{Entry, IsListing, stacked}
use Rattle.romfs_reader.specs.Images.{bytes_of}
use Rattle.node_reader.specs.Held.{IsTable}
use Rattle.node_reader.specs.Stacked.{Listed, listed_once}
use Rattle.node_reader.proofs.Nodes.{have_keys}
use Rattle.node_reader.proofs.table.Table.of_parts.Goals as goal

pub hints_of-requires : goal.hints_of-requires
hints_of-requires g c = rw c.deref.ensures.value (have_keys _ _ _ _ c.requires.1)

pub invariant_of-result-2 : goal.invariant_of-result-2
invariant_of-result-2 g c =
    let layers = bytes_of c.args.layers.items in
    let mine : Listed layers = (c.requires.0, ∣ c.requires.1.listing ∣₁) in
    let table = subst (λ (e : List Entry). IsTable (stacked layers e) c.args.nodes.items c.args.directories c.args.blocks)
    (ap (λ x. x.0) (listed_once layers mine c.result-1.given.0)) c.requires.1 in
    record {
      table = record { sound = table.sound; listing = table.listing; are = table.are; blocks_are = table.blocks_are };
      briefs_are = rw (c.deref-2.ensures.value, c.deref-3.ensures.value, ← c.in_ok-stamped.ensures.rows)
          at c.in_ok-briefs.ensures;
      stamps_are = rw (c.deref-4.ensures.value, ← c.in_ok-stamped.ensures.rows) at c.in_ok-stamped.ensures.stamps;
      xattrs_are = rw (c.deref-6.ensures.value, c.deref-5.ensures.value, ← c.in_ok-stamped.ensures.rows)
          at c.in_ok-xattrs.ensures.are;
      noted = rw c.deref.ensures.value at c.in_ok-hints.ensures.noted;
    }

pub returns-clause-stack : goal.returns-clause-stack
returns-clause-stack g c =
    let mine : Listed (bytes_of c.args.layers.items) = (c.requires.0, ∣ c.requires.1.listing ∣₁) in
    record {
      layers_are = refl;
      rows_are = c.in_ok-stamped.ensures.rows;
      lists_are = c.in_ok-xattrs.ensures.lists;
      owner_is = refl;
      listing = subst (λ (e : List Entry). IsListing (bytes_of c.args.layers.items) e)
          (ap (λ x. x.0) (listed_once (bytes_of c.args.layers.items) mine c.result-1.given.0)) c.requires.1.listing;
    }
