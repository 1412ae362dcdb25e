-- Nodes made one by one are those of a table. Making is the loop over first branches, each of which is read at its place among the visits
-- (next_first): a node that is made is the listing's (is_node), and those before it stay so (stays). With all made and completed,
-- table_made has what a table keeps.
use Rattle.std.proofs.Common.{◌≡◌, ◌∙◌, sym, ap, subst, ℕ, ◌+◌, ◌-◌, ◌^◌, ◌<◌, inl, inr, List, [], ◌∷◌, ◌++◌, length, take, get_or, map, refl, arith, length-append, Bool, true, false, cond, Some}
use Rattle.std.specs.Prelude.{slice_get, slice_index, min, count_by}
use Rattle.std.specs.Bool.{MatchBool}
use Rattle.std.specs.List.{AllByRecursion, slice_index_or}
use Rattle.std.proofs.lemmas.List.{length-map, take_at}
use Rattle.std.proofs.lemmas.Option.{slice_get_within, get_or_from_slice_get}
use Rattle.romfs_format.specs.declared.head.Kind.{Kind}
use Rattle.romfs_format.specs.declared.head.Kind.TheVariants.{HardLink, Directory as DirectoryKind, Regular, SymLink, Block, Character, Socket, Fifo}
use Rattle.romfs_format.specs.Fields.{kind, exec, size, spec}
use Rattle.romfs_reader.specs.Images.{IsImage}
use Rattle.romfs_reader.specs.Readers.{data_size, data_start_of}
use Rattle.stack_model.specs.Listing.{Entry as Listed}
use Rattle.stack_model.specs.Numbers.{Place as ModelPlace, Child, place, same_place, nodes, children}
use Rattle.stack_model.specs.Attributes.{is_directory, is_directory_at, kind_at, mode_of, mode, size_of, size_at, rdev_of, rdev, nlink, blocks_all}
use Rattle.layer_paths.specs.declared.entries.Place.{Place}
use Rattle.layer_paths.specs.declared.entries.Entry.{Entry}
use Rattle.node_reader.specs.declared.node.Node.{Node}
use Rattle.node_reader.specs.declared.directory.Directory.{Directory}
use Rattle.stack_model.specs.Listing.{Stacked, stacked}
use Rattle.node_reader.specs.Rows.{Line}
use Rattle.node_reader.specs.Directories.{HeldDirectories}
use Rattle.node_reader.specs.Readers.{placed}
use Rattle.node_reader.specs.Held.{HoldsDirectory, IsNode, AreNodes, IsSomeTable}
use Rattle.node_table.specs.declared.building.First.{First}
use Rattle.node_table.specs.Walks.{Visit, Walk}
use Rattle.node_table.specs.Numbering.{visit_place, number_among}
use Rattle.node_table.specs.Building.{line_in, HasChildrenAfter, HasAbove, number_above, StandAtStarts, IsReadFrom, IsReadOf, AddsLinked, AddsNothing, AddsNode, completed}
use Rattle.node_table.specs.Agreement.{AgreeBelow, AgreesAtPlace, AgreeWithListing, AreMade}
use Rattle.layer_paths.proofs.Lists.{get_of_map}
use Rattle.node_table.proofs.Lists.{element_below, get_end, get_push, get_map}
use Rattle.node_table.proofs.Keeping.{still_node, level_made, is_made}

-- how far the making of nodes has come: the first i nodes are those of the first i places, once completed
pub record Making (stack : Stacked) (made : List Node) (directories : HeldDirectories) (i : ℕ) : Type 0 where
  pub level : length made ≡ i
  pub keys_level : length directories.keys ≡ length directories.rows
  pub each : (k : ℕ) (node : Node) (p : ModelPlace) → slice_get made k ≡ Some node → slice_get (nodes stack.entries) k ≡ Some p
      → IsNode stack directories (completed node) p

-- a node was made from a first branch that agrees with the listing, and its directory was added to what was kept before
pub record IsMadeOf {A : Type 0} (stack : Stacked) (tell : Place → ℕ) (first : First A) (old new : HeldDirectories) (node : Node)
    : Type 0 where
  pub agrees : AgreesAtPlace stack tell first.parent first.paths first.branch
  pub level : length old.keys ≡ length old.rows
  pub adds : AddsNode stack.layers tell first old new node

sizes_agree : (k : Kind) (n : ℕ) → data_size k n ≡ size_of k n
sizes_agree HardLink n = refl
sizes_agree DirectoryKind n = refl
sizes_agree Regular n = refl
sizes_agree SymLink n = refl
sizes_agree Block n = refl
sizes_agree Character n = refl
sizes_agree Socket n = refl
sizes_agree Fifo n = refl

module _ {A : Type 0} {stack : Stacked} {tell : Place → ℕ} {first : First A} {old new : HeldDirectories} {node : Node}
    (made : IsMadeOf stack tell first old new node) where
  abbrev layers : List (List ℕ)
  layers = stack.layers

  abbrev entries : List Listed
  entries = stack.entries

  abbrev visit : Visit Entry
  visit = first.branch

  agrees : AgreesAtPlace stack tell first.parent first.paths visit
  agrees = made.agrees

  own : IsReadOf layers visit.now node
  own = made.adds.read

  here : slice_get layers node.place.layer ≡ Some agrees.header.image
  here = ap (λ (x : Place). slice_get layers x.layer) own.place_is ∙ agrees.header.is

  read : IsReadFrom agrees.header.image visit.now.value.place.header node
  read = subst (λ (x : Place). IsReadFrom agrees.header.image x.header node) own.place_is (own.read agrees.header.image here)

  layer : slice_index_or layers visit.now.value.place.layer [] ≡ agrees.header.image
  layer = get_or_from_slice_get layers visit.now.value.place.layer agrees.header.image [] agrees.header.is

  kind_is : node.kind ≡ kind_at layers (visit_place visit)
  kind_is = own.kind_is ∙ agrees.kind_is

  directory_is : is_directory visit.now.value.kind ≡ is_directory_at layers (visit_place visit)
  directory_is = ap is_directory agrees.kind_is

  size_is : node.part.len ≡ size_at layers (visit_place visit)
  size_is = read.data_is.size_is ∙ sizes_agree (kind agrees.header.image visit.now.value.place.header) _
      ∙ ap (λ x. size_of (kind x visit.now.value.place.header) (size x visit.now.value.place.header)) (sym layer)

  mode_is : mode_of node.kind node.exec ≡ mode layers (visit_place visit)
  mode_is = ap (λ k. mode_of k node.exec) kind_is ∙ ap (mode_of (kind_at layers (visit_place visit))) read.exec_is
      ∙ ap (λ x. mode_of (kind_at layers (visit_place visit)) (exec x visit.now.value.place.header)) (sym layer)

  rdev_is : rdev_of node.kind node.rdev ≡ rdev layers (visit_place visit)
  rdev_is = ap (λ k. rdev_of k node.rdev) kind_is ∙ ap (rdev_of (kind_at layers (visit_place visit))) read.spec_is
      ∙ ap (λ x. rdev_of (kind_at layers (visit_place visit)) (spec x visit.now.value.place.header)) (sym layer)

  -- what a first branch adds, whether or not it is a directory
  abbrev Adds : Bool → Type 0
  Adds is_one = MatchBool is_one (AddsLinked tell first node.nlink old new) (AddsNothing first.paths node.nlink old new)

  -- what a directory adds
  module _ (is_one : is_directory_at layers (visit_place visit) ≡ true) (linked : AddsLinked tell first node.nlink old new) where
    below : AgreeBelow stack tell (visit_place visit) linked.added.children
    below = agrees.below linked.added.children linked.added.below linked.added.forest

    nlink_directory : node.nlink ≡ nlink stack (visit_place visit)
    nlink_directory =
        linked.nlink_is ∙ ap (λ n. min (2 + n) (2 ^ 32 - 1)) (linked.added.count_is ∙ below.count_is)
        ∙ sym (ap (λ b. min (cond b (2 + count_by (λ (c : Child). is_directory_at layers c.place) (children entries (visit_place visit)))
        (count_by (λ (f : Listed). same_place (visit_place visit) (place f)) entries)) (2 ^ 32 - 1)) is_one)

    has_directory : HoldsDirectory stack new (completed node) (visit_place visit)
    has_directory = record {
      directory = linked.added.directory;
      is = ap (λ (x : List Directory). slice_get x node.directory) linked.added.is
          ∙ ap (slice_get (old.all ++ linked.added.directory ∷ [])) made.adds.directory_is ∙ get_end old.all [] linked.added.directory;
      holds = is_made stack tell first.parent old new made.level linked.added.children linked.added.directory linked.added.made
          (visit_place visit) is_one agrees.parent_is below;
    }

  -- how often it is linked, and its directory
  held_by : (b : Bool) → is_directory_at layers (visit_place visit) ≡ b → Adds b
      → (node.nlink ≡ nlink stack (visit_place visit)) × (is_directory_at layers (visit_place visit) ≡ true
      → HoldsDirectory stack new (completed node) (visit_place visit))
  held_by true is_one linked = (nlink_directory is_one linked, λ again. has_directory is_one linked)
  held_by false is_none nothing = (
    nothing.nlink_is ∙ agrees.paths_are is_none,
    λ is_one. absurd (let f : true ≡ false = sym is_one ∙ is_none in
        cc),
  )

  holds_both : (node.nlink ≡ nlink stack (visit_place visit)) × (is_directory_at layers (visit_place visit) ≡ true
      → HoldsDirectory stack new (completed node) (visit_place visit))
  holds_both = held_by (is_directory_at layers (visit_place visit)) refl
      (subst Adds directory_is made.adds.adds)

  level_by : (b : Bool) → Adds b → length new.keys ≡ length new.rows
  level_by true linked = level_made stack tell first.parent old new made.level linked.added.children linked.added.directory
      linked.added.made
  level_by false nothing = subst (λ (x : HeldDirectories). length x.keys ≡ length x.rows) (sym nothing.same) made.level

  -- there is a key for each row
  pub level_still : length new.keys ≡ length new.rows
  level_still = level_by (is_directory visit.now.value.kind) made.adds.adds

  stays_by : (b : Bool) → Adds b → (n : Node) (p : ModelPlace) → IsNode stack old n p
      → IsNode stack new n p
  stays_by true linked n p is =
      let its = linked.added.made in
      let d = linked.added.directory in
      let lines = map (line_in tell) linked.added.children in
      subst (λ (x : List Directory). IsNode stack (record { all = x; rows = new.rows; keys = new.keys }) n p) (sym linked.added.is)
      (subst (λ (x : List Line). IsNode stack (record { all = old.all ++ d ∷ []; rows = x; keys = new.keys }) n p) (sym its.rows_are)
      (subst (λ (x : List ℕ). IsNode stack (record { all = old.all ++ d ∷ []; rows = old.rows ++ lines; keys = x }) n p)
      (sym its.keys_are.is) (still_node stack old d lines its.keys_are.keys n p made.level is)))
  stays_by false nothing n p is = subst (λ (x : HeldDirectories). IsNode stack x n p) (sym nothing.same) is

  -- existing nodes are unchanged
  pub stays : (n : Node) (p : ModelPlace) → IsNode stack old n p → IsNode stack new n p
  stays = stays_by (is_directory visit.now.value.kind) made.adds.adds

  -- a node that was made of a place's first branch is the place's, once completed
  pub is_node : IsNode stack new (completed node) (visit_place visit)
  is_node = record {
    place = ap placed own.place_is;
    holds = record {
      image = agrees.header.image;
      is = here;
      lies = read.data_is.lies;
      data_is = read.data_is.bytes ∙ agrees.data_is agrees.header.image agrees.header.is;
      start_is = λ some. read.data_is.start_is some
          ∙ ap (λ x. data_start_of x visit.now.value.place.header) (sym layer);
    };
    kind = kind_is;
    size = size_is;
    mode_is = mode_is;
    nlink_is = holds_both.0;
    rdev_is = rdev_is;
    directory_is = λ is_one. holds_both.1 (sym (ap is_directory kind_is) ∙ is_one);
  }

-- the first branches of all places, as the walk and the numbering left them: the walk, the number of each branch, and for each first branch
-- its position and how many paths its place has. They agree with the listing
pub record FirstBranches (stack : Stacked) : Type 0 where
  pub walk : Walk Entry
  pub numbers : List ℕ
  pub first : List (Visit Entry)
  pub starts : List ℕ
  pub paths : List ℕ
  pub agree : AgreeWithListing stack (number_among walk.visits) (number_above numbers walk.above) first starts paths
  pub stand : StandAtStarts walk numbers first starts

-- there is a first branch with this number, and it is here among the visits
pub record HasStart (starts : List ℕ) (i start : ℕ) : Type 0 where
  pub more : i < length starts
  pub held : start ≡ slice_index starts i

-- one that is read there is
pub has_start : {starts : List ℕ} {i start : ℕ} → start ≡ slice_index starts i → i < length starts → HasStart starts i start
has_start read more = record { more = more; held = read }

-- the first branch with a number, as the code reads it at the place that is kept for it: what it says agrees with the listing, and the
-- numbers of its parent and its children are where they are looked up
pub record IsNextFirst (stack : Stacked) (all : FirstBranches stack) (i start : ℕ) (visit : Visit Entry) : Type 0 where
  pub within : i < length all.paths
  pub placed : slice_get (nodes stack.entries) i ≡ Some (visit_place visit)
  pub agrees : AgreesAtPlace stack (number_among all.walk.visits) (number_above all.numbers all.walk.above start)
      (slice_index all.paths i) visit
  pub above : HasAbove all.numbers all.walk.above start
  pub children : HasChildrenAfter (number_among all.walk.visits) all.numbers all.walk.sizes start visit.now

module _ {stack : Stacked} (all : FirstBranches stack) {i start : ℕ} (stands : HasStart all.starts i start) where
  branch : (visit : Visit Entry) × (slice_get all.first i ≡ Some visit)
  branch = element_below all.first i (let level = all.stand.level in let more = stands.more in omega arith)

  there : slice_get all.walk.visits start ≡ Some branch.0
  there = subst (λ n. slice_get all.walk.visits n ≡ Some branch.0) (sym stands.held) (all.stand.there i branch.0 branch.1)

  -- the place that is kept for a first branch is among the visits
  pub start_within : start < length all.walk.visits
  start_within = slice_get_within all.walk.visits start branch.0 there

  -- and the one above it has a number
  pub above_within : HasAbove all.numbers all.walk.above start
  above_within = subst (HasAbove all.numbers all.walk.above) (sym stands.held) (all.stand.above i branch.0 branch.1)

  -- the visit that is read at that place is the next first branch
  pub next_first : (visit : Visit Entry) → visit ≡ get_or all.walk.visits start visit → IsNextFirst stack all i start visit
  next_first visit read = subst (IsNextFirst stack all i start)
      (sym (read ∙ get_or_from_slice_get all.walk.visits start branch.0 visit there)) (record {
        within = (let level = all.stand.level in let counts = all.agree.level in let more = stands.more in omega arith);
        placed = subst (λ ps. slice_get ps i ≡ Some (visit_place branch.0)) all.agree.places
            (get_map visit_place all.first i branch.0 branch.1);
        agrees = subst (λ n. AgreesAtPlace stack (number_among all.walk.visits) (number_above all.numbers all.walk.above n)
            (slice_index all.paths i) branch.0) (sym stands.held) (all.agree.each i branch.0 branch.1);
        above = above_within;
        children = subst (λ n. HasChildrenAfter (number_among all.walk.visits) all.numbers all.walk.sizes n branch.0.now)
            (sym stands.held) (all.stand.children i branch.0 branch.1);
      })

-- before the first branch no node is made
pub nodes_begun : (stack : Stacked) (made : List Node) (directories : HeldDirectories) → made ≡ [] → directories.rows ≡ []
    → directories.keys ≡ [] → Making stack made directories 0
nodes_begun stack made directories none no_rows no_keys = record {
  level = ap length none;
  keys_level = ap length no_keys ∙ sym (ap length no_rows);
  each = λ k node p at there. absurd (let impossible = rw none at at in cc);
}

-- with the node of the next first branch one more node is made
pub node_made : {A : Type 0} {stack : Stacked} {tell : Place → ℕ} {first : First A} {old new : HeldDirectories} {node : Node}
    {before after : List Node} (i : ℕ) → IsMadeOf stack tell first old new node
    → slice_get (nodes stack.entries) i ≡ Some (visit_place first.branch) → Making stack before old i → after ≡ before ++ node ∷ []
    → Making stack after new (i + 1)
node_made {A} {stack} {tell} {first} {old} {new} {node} {before} i made place_is making pushed = record {
  level = (let longer = ap length pushed in let level = making.level in omega (arith, length-append before (node ∷ [])));
  keys_level = level_still made;
  each = λ k n p at there. elim (get_push before node k n (subst (λ x. slice_get x k ≡ Some n) pushed at)) [
    | inl earlier ↦ stays made (completed n) p (making.each k n p earlier there)
    | inr (last, same) ↦
        let z : Some p ≡ Some (visit_place first.branch) = sym there ∙ ap (slice_get (nodes stack.entries)) (last ∙ making.level)
        ∙ place_is in
        let p_is : visit_place first.branch ≡ p = cc in
        subst (λ (x : Node). IsNode stack new (completed x) p) same
        (subst (IsNode stack new (completed node)) p_is
        (is_node made))
  ];
}

-- after the last first branch all nodes are made
pub nodes_ended : {layers : List (List ℕ)} {entries : List Listed} {tell : Place → ℕ} {above : ℕ → ℕ} {first : List (Visit Entry)}
    {starts paths : List ℕ} {made : List Node} {directories : HeldDirectories} {i : ℕ}
    → AgreeWithListing (stacked layers entries) tell above first starts paths → i ≡ length first
    → Making (stacked layers entries) made directories i → AreMade layers made directories
nodes_ended {layers} {entries} {first = first} {made = made} {directories = directories} agree all making = (
  entries,
  agree.listing,
  record {
    level = length-map made completed ∙ making.level ∙ all ∙ sym (length-map first visit_place) ∙ ap length agree.places;
    keys_level = making.keys_level;
    each = λ k node p at there. let x = get_of_map completed made k node at in
        subst (λ (n : Node). IsNode (stacked layers entries) directories n p) x.2
        (making.each k x.0 p x.1 there);
  },
)

-- all nodes, completed, with what is kept about directories and the sum of blocks are what a table keeps
pub table_made : (layers : List (List ℕ)) (made new tail : List Node) (directories : HeldDirectories) (n blocks : ℕ)
    → AllByRecursion IsImage layers
    → AreMade layers made directories → new ≡ map completed made → n ≡ length new → blocks ≡ blocks_all layers
    → IsSomeTable layers (take n (new ++ tail)) directories blocks
table_made layers made new tail directories n blocks sound (entries, listing, are) done len sum = (
  entries,
  record {
    sound = sound;
    listing = listing;
    are = subst (λ x. AreNodes (stacked layers entries) x directories)
        (sym (take_at new tail n (sym len) ∙ done)) are;
    blocks_are = sum;
  },
)
