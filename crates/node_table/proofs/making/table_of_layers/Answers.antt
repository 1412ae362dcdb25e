use Rattle.std.proofs.Common.{◌≡◌, length, map, drop, ap, ◌∙◌, arith}
use Rattle.romfs_reader.specs.Images.{bytes_of}
use Rattle.node_table.specs.Building.{completed}
use Rattle.node_table.proofs.Made.{table_made}
use Rattle.node_table.proofs.making.table_of_layers.Goals as goal

pub of_parts-requires : goal.of_parts-requires
of_parts-requires g c =
    let old = c.in_ok-blocks.parts.nodes in
    let new = c.complete_all.new.nodes in
    let made = rw c.deref.ensures.value at c.in_ok-blocks.ensures.made in
    let blocks = rw c.deref.ensures.value at c.in_ok-blocks.ensures.blocks in
    let sound = rw c.deref.ensures.value at c.in_ok-blocks.ensures.sound in
    let done = c.complete_all.ensures ∙ ap (map completed) c.deref_mut.ensures.value in
    let n : old.len ≡ length new = omega (arith, old.ok.0, c.complete_all.auto.nodes, ap length c.deref_mut.ensures.value) in
    table_made (bytes_of c.args.layers.items) old.items new (drop (length new) old.items) c.in_ok-blocks.parts.directories old.len
    c.in_ok-blocks.blocks sound made done n blocks
