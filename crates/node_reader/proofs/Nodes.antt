-- What a table's parts say about the node with a number. There is an item for a number exactly if it is in use (`here`, `nowhere`), and a
-- directory if the place is one (`found`, `not_found`); the others say for each reader that what it reads is what the stack says.
use Rattle.std.proofs.Common.{◌≡◌, ◌∙◌, sym, ap, subst, ℕ, zero, suc, ◌<◌, ◌≤◌, inl, inr, List, [], ◌∷◌, length, map, Bool, true, false, Option, Some, None, Bor, MatchOption, cond, refl, arith}
use Rattle.std.specs.Prelude.{slice_get, slice_range, find, unwrap_or}
use Rattle.std.specs.List.{slice_index_or}
use Rattle.std.specs.Option.{option_map, option_map_or, option_and_then}
use Rattle.std.proofs.lemmas.Option.{slice_get_within, slice_get-get_or, slice_get_past, slice_get_cases, get_or_from_slice_get}
use Rattle.romfs_reader.specs.Readers.{bytes_at, IsPart}
use Rattle.romfs_format.specs.declared.attribute_row.AttributeRow.{AttributeRow}
use Rattle.stack_model.specs.Listing.{Entry, Stacked, stacked}
use Rattle.stack_model.specs.Numbers.{Place, Child, nodes, node_of, number_of, number, same_name, children, child}
use Rattle.stack_model.specs.Attributes.{is_directory, is_directory_at, kind_at, blocks_of, mode_by, owner_by, row_in, attr_of}
use Rattle.stack_model.proofs.Numbering.{number_used}
use Rattle.stack_model.specs.declared.attr.Attr.{Attr}
use Rattle.stack_model.specs.declared.owner.Owner.{Owner}
use Rattle.node_reader.specs.declared.node.Node.{Node}
use Rattle.node_reader.specs.declared.node.Brief.{Brief}
use Rattle.node_reader.specs.declared.stamp.Stamp.{Stamp}
use Rattle.node_reader.specs.declared.directory.Directory.{Directory}
use Rattle.node_reader.specs.Rows.{Line, number_named}
use Rattle.node_reader.specs.Directories.{HeldDirectories}
use Rattle.node_reader.specs.Readers.{HoldsData, TellsNode, attr_at, parent_of, parent_at, child_of, child_at, rows_of, rows_at, data_of_number}
use Rattle.node_reader.specs.Held.{kept_of, directory_held, row_held, brief_by, stamp_by, stamp_held, briefs_of, attr_held, AreStampsOf, HaveKeys, IsHeldDirectory, IsNode, IsTable}
use Rattle.node_reader.specs.Stamps.{held_at}

-- the number of a place that has one
number_is : (entries : List Entry) (n : ℕ) (p : Place) → node_of entries n ≡ Some p → number entries p ≡ n
number_is entries n p e = let i : number_of entries p ≡ Some n = (number_used entries n p).1 e in ap (λ o. unwrap_or o 0) i

-- a row with a child's number and name
abbrev row_of : (Place → ℕ) → Child → Line
row_of f c = record { number = f c.place; name = c.name }

abbrev IsNamedAlike : (Place → ℕ) → List ℕ → List Child → Type 0
IsNamedAlike f name cs = number_named name (map (row_of f) cs)
    ≡ option_map f (option_map (λ c. c.place) (find (λ c. same_name name c.name) cs))

step : (f : Place → ℕ) (name : List ℕ) (c : Child) (cs : List Child) (b : Bool) → same_name name c.name ≡ b → IsNamedAlike f name cs
    → IsNamedAlike f name (c ∷ cs)
step f name c cs true e i = rw e refl
step f name c cs false e i = rw e i

-- the row with a name among rows made of children
named_child : (f : Place → ℕ) (name : List ℕ) (cs : List Child) → IsNamedAlike f name cs
named_child f name [] = refl
named_child f name (c ∷ cs) = step f name c cs (same_name name c.name) refl (named_child f name cs)

-- what a map has at a number is made from the item there
pub held_map : {A B : Type 0} (f : A → B) (all : List A) (n : ℕ) → held_at (map f all) n ≡ option_map f (held_at all n)
held_map f all zero = refl
held_map f [] (suc k) = refl
held_map f (x ∷ all) (suc zero) = refl
held_map f (x ∷ all) (suc (suc k)) = held_map f all (suc k)

-- attributes of the same numbers, row and owner are the same
abbrev attr_by : Owner → ℕ → ℕ → ℕ → ℕ → ℕ → Option AttributeRow → Attr
attr_by owner n size mode nlink rdev given = record {
  ino = n;
  size = size;
  blocks = blocks_of size;
  seconds = option_map_or (λ (r : AttributeRow). r.seconds) given 0;
  nanoseconds = option_map_or (λ (r : AttributeRow). r.nanoseconds) given 0;
  mode = mode_by given mode;
  nlink = nlink;
  uid = (owner_by given owner).uid;
  gid = (owner_by given owner).gid;
  rdev = rdev;
}

same_attr : (owner : Owner) {n n' size size' mode mode' nlink nlink' rdev rdev' : ℕ} {row row' : Option AttributeRow} → n ≡ n'
    → size ≡ size' → mode ≡ mode' → nlink ≡ nlink' → rdev ≡ rdev' → row ≡ row'
    → attr_by owner n size mode nlink rdev row ≡ attr_by owner n' size' mode' nlink' rdev' row'
same_attr owner e f g h i j = rw (e, f, g, h, i, j) refl

module _ (stack : Stacked) (held : List Node) (directories : HeldDirectories) (blocks : ℕ) (t : IsTable stack held directories blocks) where
  abbrev layers : List (List ℕ)
  layers = stack.layers

  abbrev entries : List Entry
  entries = stack.entries

  abbrev rows : List (List AttributeRow)
  rows = stack.rows

  abbrev owner : Owner
  owner = stack.owner

  -- a number with a node is in use, and the node says what it should
  pub record IsHere (n : ℕ) (node : Node) : Type 0 where
    pub at : Place
    pub is : node_of entries n ≡ Some at
    pub holds : IsNode (stacked layers entries) directories node at

  -- if there is a node at a number, it is the node of the number's place
  pub here : (n : ℕ) (node : Node) → held_at held n ≡ Some node → IsHere n node
  here zero node e = absurd (cc)
  here (suc k) node e =
      let level = t.are.level in
      let l = slice_get_within held k node e in
      let p = slice_get-get_or (nodes entries) k (0, 0) (omega arith) in
      record { at = _; is = p; holds = t.are.each k node _ e p }

  -- a number without a node is not in use
  pub nowhere : (n : ℕ) → held_at held n ≡ None → node_of entries n ≡ None
  nowhere zero e = refl
  nowhere (suc k) e = elim (slice_get_cases held k).1 [
    | inl x ↦ absurd (let z : Some x.0 ≡ None = sym x.2 ∙ e in cc)
    | inr x ↦ (let level = t.are.level in let past = x.0 in slice_get_past (nodes entries) k (omega arith))
  ]

  -- the result of looking up a number is the node of the stack, or there is none
  pub node_is : (n : ℕ) (o : Option (Bor Node)) → MatchOption o (held_at held n ≡ None) (λ node. held_at held n ≡ Some node.now)
      → TellsNode stack n o
  node_is n None e = nowhere n e
  node_is n (Some node) e =
      let h = here n node.now e in
      record {
        place_is = h.is ∙ ap Some (sym h.holds.place);
        kind_is = h.holds.kind ∙ ap (kind_at layers) (sym h.holds.place);
        holds = subst (HoldsData layers node.now.place.layer node.now) (sym h.holds.place) h.holds.holds;
      }

  attr_same : (n : ℕ) (node : Node) (p : Place) → IsNode (stacked layers entries) directories node p → number entries p ≡ n
      → attr_held n (brief_by (row_held rows node) node) (stamp_by (row_held rows node) owner) ≡ attr_of stack p
  attr_same n node p h i = same_attr owner (sym i) h.size h.mode_is h.nlink_is h.rdev_is (ap (row_in rows) h.place)

  attr_here : (n : ℕ) (node : Node) → held_at held n ≡ Some node
      → Some (attr_held n (brief_by (row_held rows node) node) (stamp_by (row_held rows node) owner)) ≡ attr_at stack n
  attr_here n node e =
      let h = here n node e in
      rw h.is (ap Some (attr_same n node h.at h.holds (number_is entries n h.at h.is)))

  -- the attributes made from the brief ones and from the stamp are those of the number
  pub attr_is : (n : ℕ) (brief : Brief) (stamps : List Stamp) → AreStampsOf rows owner held stamps
      → held_at (briefs_of rows held) n ≡ Some brief → Some (attr_held n brief (stamp_held stamps owner n)) ≡ attr_at stack n
  attr_is n brief stamps s e = go (held_at held n) refl
    where
      of_node : Node → Brief
      of_node node = brief_by (row_held rows node) node

      go : (o : Option Node) → held_at held n ≡ o → Some (attr_held n brief (stamp_held stamps owner n)) ≡ attr_at stack n
      go None f = absurd (let z = sym e ∙ held_map of_node held n ∙ ap (option_map of_node) f in cc)
      go (Some node) f =
          let same : Some brief ≡ Some (of_node node) = sym e ∙ held_map of_node held n ∙ ap (option_map of_node) f in
          let is : brief ≡ of_node node = cc in
          rw (is, s.each n node f) (attr_here n node f)

  -- a number without brief attributes has no attributes
  pub attr_none : (n : ℕ) → held_at (briefs_of rows held) n ≡ None → None ≡ attr_at stack n
  attr_none n e = go (held_at held n) refl
    where
      of_node : Node → Brief
      of_node node = brief_by (row_held rows node) node

      go : (o : Option Node) → held_at held n ≡ o → None ≡ attr_at stack n
      go None f = rw (nowhere n f) refl
      go (Some node) f = absurd (let z = sym e ∙ held_map of_node held n ∙ ap (option_map of_node) f in cc)

  -- a directory that is kept belongs to a number in use, whose place is a directory
  pub record IsFound (n : ℕ) (directory : Directory) : Type 0 where
    pub at : Place
    pub is : node_of entries n ≡ Some at
    pub kind : is_directory_at layers at ≡ true
    pub holds : IsHeldDirectory (stacked layers entries) directories directory at

  found_at : (n : ℕ) (node : Node) (directory : Directory) (h : IsHere n node) (b : Bool) → is_directory node.kind ≡ b
      → cond b (slice_get directories.all node.directory) None ≡ Some directory → IsFound n directory
  found_at n node directory h false e k = absurd (cc)
  found_at n node directory h true e k =
      let d = h.holds.directory_is e in
      let same : Some d.directory ≡ Some directory = sym d.is ∙ k in
      let is : d.directory ≡ directory = cc in
      record {
        at = h.at;
        is = h.is;
        kind = ap is_directory (sym h.holds.kind) ∙ e;
        holds = subst (λ (x : Directory). IsHeldDirectory (stacked layers entries) directories x h.at) is d.holds;
      }

  -- a directory that is kept belongs to a number in use, whose place is a directory
  pub found : (n : ℕ) (directory : Directory) → directory_held held directories n ≡ Some directory → IsFound n directory
  found n directory e = go (held_at held n) refl e
    where
      go : (o : Option Node) → held_at held n ≡ o → option_and_then (kept_of directories) o ≡ Some directory → IsFound n directory
      go None f k = absurd (cc)
      go (Some node) f k = found_at n node directory (here n node f) (is_directory node.kind) refl k

  -- a number without a directory is not in use, or its place is none
  not_held : (n : ℕ) (node : Node) (h : IsHere n node) (b : Bool) → is_directory node.kind ≡ b
      → cond b (slice_get directories.all node.directory) None ≡ None → option_map_or (is_directory_at layers) (Some h.at) false ≡ false
  not_held n node h true e k = absurd (let d = h.holds.directory_is e in let z : Some d.directory ≡ None = sym d.is ∙ k in cc)
  not_held n node h false e k = ap is_directory (sym h.holds.kind) ∙ e

  -- a number without a directory is not in use, or its place is not a directory
  pub not_found : (n : ℕ) → directory_held held directories n ≡ None → option_map_or (is_directory_at layers) (node_of entries n) false
      ≡ false
  not_found n e = go (held_at held n) refl e
    where
      go : (o : Option Node) → held_at held n ≡ o → option_and_then (kept_of directories) o ≡ None
          → option_map_or (is_directory_at layers) (node_of entries n) false ≡ false
      go None f k = ap (λ o. option_map_or (is_directory_at layers) o false) (nowhere n f)
      go (Some node) f k = let h = here n node f in ap (λ o. option_map_or (is_directory_at layers) o false) h.is
          ∙ not_held n node h (is_directory node.kind) refl k

  -- the rows from a directory's start to its end are those of its number
  pub rows_are : (n : ℕ) (d : Directory) → directory_held held directories n ≡ Some d → slice_range directories.rows d.rows_start d.rows_end
      ≡ rows_at stack n
  rows_are n d e = let h = found n d e in rw h.is h.holds.rows_are

  -- the keys of its rows are kept
  pub keys_end : (n : ℕ) (d : Directory) → directory_held held directories n ≡ Some d → d.rows_end ≤ length directories.keys
  keys_end n d e = let level = t.are.keys_level in let end = (found n d e).holds.end in omega arith

  -- for each directory
  pub have_keys : HaveKeys held directories
  have_keys = record { each = λ n d e. ((found n d e).holds.start, keys_end n d e) }

  named_of : (p : Place) (name : List ℕ) → number_named name (rows_of stack p) ≡ child_of stack p name
  named_of p name = go (is_directory_at layers p)
    where
      go : (b : Bool) → number_named name (cond b (map (λ c. record { number = number entries c.place; name = c.name })
          (children entries p)) []) ≡ cond b (option_map (number entries) (child entries p name)) None
      go true = named_child (number entries) name (children entries p)
      go false = refl

  -- the number that these rows give a name is that of the child
  pub child_is : (n : ℕ) (d : Directory) (name : List ℕ) → directory_held held directories n ≡ Some d
      → number_named name (slice_range directories.rows d.rows_start d.rows_end) ≡ child_at stack n name
  child_is n d name e = let h = found n d e in rw (h.is, h.holds.rows_are) (named_of h.at name)

  -- the parent that is kept for a directory is that of its number
  pub parent_is : (n : ℕ) (d : Directory) → directory_held held directories n ≡ Some d → Some d.parent ≡ parent_at stack n
  parent_is n d e = let h = found n d e in rw (h.is, h.kind) (ap Some h.holds.parent_is)

  -- what is not a directory has no rows
  pub rows_none : (n : ℕ) → directory_held held directories n ≡ None → [] ≡ rows_at stack n
  rows_none n e = go (node_of entries n) (not_found n e)
    where
      go : (o : Option Place) → option_map_or (is_directory_at layers) o false ≡ false → [] ≡ option_map_or (rows_of stack) o []
      go None f = refl
      go (Some p) f = rw f refl

  -- and no child of any name
  pub child_none : (n : ℕ) (name : List ℕ) → directory_held held directories n ≡ None → None ≡ child_at stack n name
  child_none n name e = go (node_of entries n) (not_found n e)
    where
      go : (o : Option Place) → option_map_or (is_directory_at layers) o false ≡ false
          → None ≡ option_and_then (λ p. child_of stack p name) o
      go None f = refl
      go (Some p) f = rw f refl

  -- and no parent
  pub parent_none : (n : ℕ) → directory_held held directories n ≡ None → None ≡ parent_at stack n
  parent_none n e = go (node_of entries n) (not_found n e)
    where
      go : (o : Option Place) → option_map_or (is_directory_at layers) o false ≡ false → None ≡ option_and_then (parent_of stack) o
      go None f = refl
      go (Some p) f = rw f refl

  -- the bytes of a node's part of its image are the data of its number
  pub data_is : (n : ℕ) (node : Node) (image : List ℕ) → held_at held n ≡ Some node → image ≡ slice_index_or layers node.place.layer image
      → bytes_at image node.part.start node.part.len ≡ data_of_number stack n
  data_is n node image e i =
      let h = here n node e in
      let a = h.holds.holds in
      let same : image ≡ a.image = i ∙ get_or_from_slice_get layers node.place.layer a.image image a.is in
      rw (h.is, same) a.data_is

  -- a number without a node has no data
  pub data_none : (n : ℕ) → held_at held n ≡ None → [] ≡ data_of_number stack n
  data_none n e = rw (nowhere n e) refl

  -- the layer of a node is one of the layers
  pub image_there : (n : ℕ) (node : Node) → held_at held n ≡ Some node → node.place.layer < length layers
  image_there n node e = let a = (here n node e).holds.holds in slice_get_within layers node.place.layer a.image a.is

  -- the part of a node lies in its image
  pub part_lies : (n : ℕ) (node : Node) (image : List ℕ) → held_at held n ≡ Some node → image ≡ slice_index_or layers node.place.layer image
      → IsPart image node.part
  part_lies n node image e i =
      let a = (here n node e).holds.holds in
      rw (i ∙ get_or_from_slice_get layers node.place.layer a.image image a.is) a.lies
