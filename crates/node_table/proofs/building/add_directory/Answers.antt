use Rattle.std.proofs.Common.{◌≡◌, List, length, refl, subst, sym, arith}
use Rattle.layer_names.specs.Names.{Rise}
use Rattle.layer_names.specs.Keyed.{AddsKeys}
use Rattle.node_table.specs.Numbering.{number_among}
use Rattle.node_reader.specs.Rows.{Line, names}
use Rattle.node_table.specs.Building.{line_in}
use Rattle.std.specs.Prelude.{map}
use Rattle.node_table.proofs.Built.{fresh_lines, start_within, names_rise}
use Rattle.node_table.proofs.building.add_directory.Goals as goal

pub add_keys-requires : goal.add_keys-requires
add_keys-requires g c =
    let tell = number_among c.args.walk.now.visits.items in
    let cs = c.children-children.result.now in
    let old = c.into.inside.rows.items in
    let start : c.len-rows_start.result ≡ length old = omega (arith, c.len-rows_start.ensures, c.into.inside.rows.ok.0) in
    let fresh = fresh_lines old c.add_rows.new.rows.items (map (line_in tell) cs) c.deref.result.now c.len-rows_start.result
    c.in_ok-directories.ensures.rows_are start c.deref.ensures.value in
    subst (λ (x : List Line). Rise (names x)) (sym fresh) (names_rise tell cs c.children-children.ensures.forest.names)

pub overflow_add-first : goal.overflow_add-first
overflow_add-first g c = omega (arith, c.requires.within, c.args.walk.now.sizes.ok.0)

pub add_rows-requires : goal.add_rows-requires
add_rows-requires g c =
    c.requires.each c.children-children.result.now c.children-children.ensures.below c.children-children.ensures.forest

pub slice_bounds-add_keys-count : goal.slice_bounds-add_keys-count
slice_bounds-add_keys-count g c =
    let start : c.len-rows_start.result ≡ length c.into.inside.rows.items =
    omega (arith, c.len-rows_start.ensures, c.into.inside.rows.ok.0) in
    start_within _ _ _ _ _ c.in_ok-directories.ensures.rows_are start c.deref.ensures.value

pub offset_bounds-deref-rows_start : goal.offset_bounds-deref-rows_start
offset_bounds-deref-rows_start g c =
    let start : c.len-rows_start.result ≡ length c.into.inside.rows.items =
    omega (arith, c.len-rows_start.ensures, c.into.inside.rows.ok.0) in
    start_within _ _ _ _ _ c.in_ok-directories.ensures.rows_are start c.deref.ensures.value

pub slice_bounds-add_keys-start : goal.slice_bounds-add_keys-start
slice_bounds-add_keys-start g c =
    let start : c.len-rows_start.result ≡ length c.into.inside.rows.items =
    omega (arith, c.len-rows_start.ensures, c.into.inside.rows.ok.0) in
    start_within _ _ _ _ _ c.in_ok-directories.ensures.rows_are start c.deref.ensures.value

pub returns : goal.returns
returns g c =
    let tell = number_among c.args.walk.now.visits.items in
    let cs = c.children-children.result.now in
    let old = c.into.inside.rows.items in
    let start : c.len-rows_start.result ≡ length old = omega (arith, c.len-rows_start.ensures, c.into.inside.rows.ok.0) in
    let end : c.len.result ≡ length c.add_rows.new.rows.items = omega (arith, c.len.ensures, c.add_rows.new.rows.ok.0) in
    let fresh = fresh_lines old c.add_rows.new.rows.items (map (line_in tell) cs) c.deref.result.now c.len-rows_start.result
    c.in_ok-directories.ensures.rows_are start c.deref.ensures.value in
    let keyed = subst (λ (x : List Line). AddsKeys c.in_ok-shared.shared (names x) c.into.inside.keys.items c.add_keys.new.keys.items)
    fresh c.in_ok-shared.ensures in
    rw (← c.into.view_is) (record {
      children = cs;
      below = c.children-children.ensures.below;
      forest = c.children-children.ensures.forest;
      directory = _;
      is = c.in_ok-push.ensures.items;
      made = record {
        parent_is = refl;
        start_is = start;
        end_is = end;
        rows_are = c.in_ok-directories.ensures.rows_are;
        keys_are = keyed;
      };
      count_is = c.in_ok-directories.ensures.count_is;
    })
