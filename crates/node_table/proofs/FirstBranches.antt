-- The first branches of a stack's tree, by number. firsts_agree says, with Shown and ListedPlaces, that they agree with the listing of its
-- layers; firsts_stand says where they, their children and their parents' numbers are. Both are about a walk over the entire tree
-- (walked_all).
use Rattle.std.proofs.Common.{◌≡◌, ◌∙◌, sym, ap, subst, ℕ, suc, ◌+◌, ◌-◌, ◌^◌, ◌<◌, List, [], ◌∷◌, ◌++◌, length, map, refl, arith, append_assoc, length-append, cond, Some}
use Rattle.std.specs.Prelude.{slice_get, slice_index, min, count_by, unwrap_or}
use Rattle.std.specs.List.{AllByRecursion}
use Rattle.std.proofs.lemmas.List.{append-nil, length-map, take_all}
use Rattle.std.proofs.lemmas.Option.{slice_get_within}
use Rattle.romfs_reader.specs.Images.{IsImage}
use Rattle.romfs_reader.specs.Readers.{data_of_header as data_in}
use Rattle.stack_model.specs.Stack.{Path}
use Rattle.stack_model.specs.Listing.{Entry as Listed}
use Rattle.stack_model.specs.Numbers.{Place as ModelPlace, Child, place, same_place, number, parent, children}
use Rattle.stack_model.specs.Attributes.{is_directory, is_directory_at, data_of}
use Rattle.layer_paths.specs.Rows.{Subtree, Rows, prefixed, spread, whole, NamesRise, IsForest, length_prefixed}
use Rattle.layer_paths.specs.declared.entries.Entry.{Entry}
use Rattle.layer_paths.specs.Trees.{TreeRows, IsTreeOf, listed}
use Rattle.layer_paths.proofs.Listed.{is_listing}
use Rattle.stack_model.specs.Listing.{Stacked, stacked}
use Rattle.node_reader.specs.Readers.{placed}
use Rattle.node_table.specs.Walks.{Visit, Walk, no_walk, under, IsLocated, visit_size, StandsAt, IsBelow, AreWalked, AddsWalk}
use Rattle.node_table.specs.Numbering.{visit_place, bare, seen, paths_of, number_among, IsFirstVisit, IsNumbered}
use Rattle.node_table.specs.Building.{line_in, HasNumberAndSize, AreFollowing, number_above, StandAtStarts}
use Rattle.node_table.specs.Agreement.{shown_line, AgreeBelow, AgreesAtPlace, AgreeWithSomeListing}
use Rattle.layer_paths.proofs.Lists.{all_get}
use Rattle.node_table.proofs.Lists.{element_below, index_map}
use Rattle.node_table.proofs.Paths.{spread_append, under_append, child_located}
use Rattle.node_table.proofs.Sizes.{same_value, same_size, ends_within}
use Rattle.node_table.proofs.Counting.{Numbers, count, counted}
use Rattle.node_table.proofs.ListedPlaces as by_listing
use Rattle.node_table.proofs.ListedPlaces.{child_of, row_at, places_same, bare_places, nodes_by, number_of_by}
use Rattle.node_table.proofs.Shown.{IsPlaced, rows_placed, kind_placed, data_placed}

all_back : {X : Type 0} (P : X → Type 0) (xs ys : List X) → AllByRecursion P (xs ++ ys) → AllByRecursion P ys
all_back P [] ys a = a
all_back P (x ∷ xs) ys a = all_back P xs ys a.1

all_front : {X : Type 0} (P : X → Type 0) (xs ys : List X) → AllByRecursion P (xs ++ ys) → AllByRecursion P xs
all_front P [] ys a = tt
all_front P (x ∷ xs) ys a = (a.0, all_front P xs ys a.1)

under_root : (rows : Rows Entry) → under [] rows ≡ rows
under_root [] = refl
under_root (x ∷ rows) = ap (λ r. x ∷ r) (under_root rows)

root_located : (root : Subtree Entry) → IsLocated (whole root) 0 root root.value
root_located root = record {
  top = [];
  before = [];
  after = [];
  is = sym (append-nil (under [] (whole root)) ∙ under_root (whole root));
  at = refl;
  apart_before = tt;
  apart_after = tt;
  above_is = refl;
}

count_places : (p : ModelPlace) (es : List Listed) → count (λ (e : Listed). same_place p (place e)) es ≡ count (same_place p) (map place es)
count_places p [] = refl
count_places p (e ∷ es) = ap (λ n. cond (same_place p (place e)) (1 + n) n) (count_places p es)

paths_by : (es fs : List Listed) (p : ModelPlace) → map place es ≡ map place fs → paths_of es p ≡ paths_of fs p
paths_by es fs p e =
    sym (counted (λ (e : Listed). same_place p (place e)) es) ∙ count_places p es
    ∙ ap (count (same_place p)) e
    ∙ sym (count_places p fs) ∙ counted (λ (e : Listed). same_place p (place e)) fs

-- the visits are a walk over the entire tree of a stack of sound images, and their places are numbered
pub record WalksTree (layers : List (List ℕ)) (t : TreeRows) (root : Subtree Entry) (visits : List (Visit Entry))
    (places : List ℕ) (held : Numbers) : Type 0 where
  pub tree : IsTreeOf 0 layers t
  pub sound : AllByRecursion IsImage layers
  pub whole : t.entries ≡ whole root
  pub first : StandsAt visits 0 root.value
  pub walked : AreWalked root 0 visits visits places
  pub numbered : IsNumbered visits (length visits) held.first held.starts held.paths held.numbers

module _ (layers : List (List ℕ)) (t : TreeRows) (root : Subtree Entry) (visits : List (Visit Entry)) (places : List ℕ)
    (held : Numbers) (walk : WalksTree layers t root visits places held) where
  level : length visits ≡ length t.entries
  level = walk.walked.level ∙ ap length (sym walk.whole)

  at : (k : ℕ) (visit : Visit Entry) → slice_get visits k ≡ Some visit
      → IsBelow t.entries k visit.now visits (slice_index places k)
  at k visit e = subst (λ rows. IsBelow rows k visit.now visits (slice_index places k)) (sym walk.whole) (let n : 0 + k ≡ k = omega arith in
      subst (λ n. IsBelow (whole root) n visit.now visits (slice_index places k)) n
      (walk.walked.each (whole root) 0 (record { above = root.value; located = root_located root; stands = walk.first }) k visit e))

  abbrev entries : List Listed
  entries = map listed t.entries

  abbrev stack : Stacked
  stack = stacked layers (map listed t.entries)

  places_are : map place (map listed t.entries) ≡ map place (seen visits (length visits))
  places_are = places_same t.entries visits places level at
      ∙ sym (ap (λ x. map place (map bare x)) (take_all (length visits) visits (omega arith)) ∙ bare_places visits)

  all_placed : AllByRecursion (λ (r : Path × Entry). IsPlaced layers r.1) t.entries
  all_placed = rows_placed layers t walk.tree walk.sound

  numbered : (e : Entry) → number_among visits e.place ≡ number (map listed t.entries) (placed e.place)
  unfolding number_among
  numbered e = ap (λ o. unwrap_or o 0) (number_of_by (seen visits (length visits)) (map listed t.entries) (placed e.place) (sym places_are))

  visit_placed : (k : ℕ) (visit : Visit Entry) → slice_get visits k ≡ Some visit → IsPlaced layers visit.now.value
  visit_placed k visit e = let b = at k visit e in let l = b.located in all_get (λ (r : Path × Entry). IsPlaced layers r.1) t.entries k (
    l.top ++ [],
    visit.now.value,
  ) all_placed (row_at t.entries k visit.now b.above l)

  children_placed : (k : ℕ) (visit : Visit Entry) → slice_get visits k ≡ Some visit → (cs : List (Subtree Entry))
      → visit.now.below ≡ spread cs
      → AllByRecursion (λ (c : Subtree Entry). IsPlaced layers c.value) cs
  children_placed k visit e cs below =
      let b = at k visit e in
      let l = b.located in
      let P : Path × Entry → Type 0 = λ (r : Path × Entry). IsPlaced layers r.1 in
      let row : Path × Entry = (l.top ++ [], visit.now.value) in
      let s = by_listing.split t.entries visits places level at k visit.now b.above l
      ∙ ap (λ b. l.before ++ row ∷ (under l.top b ++ l.after)) below in
      let tail = all_back P l.before (row ∷ (under l.top (spread cs) ++ l.after)) (subst (AllByRecursion P) s all_placed) in
      go l.top cs (all_front P (under l.top (spread cs)) l.after tail.1)
    where
      go : (top : Path) (cs : List (Subtree Entry)) → AllByRecursion (λ (r : Path × Entry). IsPlaced layers r.1) (under top (spread cs))
          → AllByRecursion (λ (c : Subtree Entry). IsPlaced layers c.value) cs
      go top [] a = tt
      go top (c ∷ cs) a = (
        a.0,
        go top cs (all_back (λ (r : Path × Entry). IsPlaced layers r.1) (under top (prefixed c.name c.below))
            (under top (spread cs)) (subst (AllByRecursion (λ (r : Path × Entry). IsPlaced layers r.1))
            (under_append top (prefixed c.name c.below) (spread cs)) a.1)),
      )

  children_agree : (visit : Visit Entry) (j : ℕ) (f : IsFirstVisit visits visit j) (cs : List (Subtree Entry)) → visit.now.below ≡ spread cs
      → IsForest cs → AgreeBelow stack (number_among visits) (visit_place visit) cs
  children_agree visit j f cs below forest =
      let c = by_listing.children_are t.entries visits places level at visit j f cs below forest in
      let p = children_placed j visit f.is cs below in
      record {
        rows_are = lines cs p ∙ ap (map (shown_line (map listed t.entries))) (sym c);
        count_is = sym (counted (λ (c : Subtree Entry). is_directory c.value.kind) cs) ∙ kinds cs p
            ∙ counted (λ (c : Child). is_directory_at layers c.place) (map child_of cs)
            ∙ ap (count_by (λ (c : Child). is_directory_at layers c.place)) (sym c);
      }
    where
      lines : (cs : List (Subtree Entry)) → AllByRecursion (λ (c : Subtree Entry). IsPlaced layers c.value) cs
          → map (line_in (number_among visits)) cs ≡ map (shown_line (map listed t.entries)) (map child_of cs)
      lines [] a = refl
      lines (c ∷ cs) a = ap (λ (n : ℕ). record { number = n; name = c.name } ∷ map (line_in (number_among visits)) cs) (numbered c.value)
          ∙ ap (λ r. record { number = number (map listed t.entries) (placed c.value.place); name = c.name } ∷ r) (lines cs a.1)

      kinds : (cs : List (Subtree Entry)) → AllByRecursion (λ (c : Subtree Entry). IsPlaced layers c.value) cs
          → count (λ (c : Subtree Entry). is_directory c.value.kind) cs ≡ count (λ (c : Child). is_directory_at layers c.place)
          (map child_of cs)
      kinds [] a = refl
      kinds (c ∷ cs) a = ap (λ b. cond b (1 + count (λ (c : Subtree Entry). is_directory c.value.kind) cs)
          (count (λ (c : Subtree Entry). is_directory c.value.kind) cs)) (ap is_directory (kind_placed layers c.value a.0))
          ∙ ap (λ n. cond (is_directory_at layers (placed c.value.place)) (1 + n) n) (kinds cs a.1)

  tells : (k : ℕ) (visit : Visit Entry) → slice_get visits k ≡ Some visit → slice_index held.numbers k
      ≡ number_among visits visit.now.value.place
  unfolding number_among
  tells k visit e = ap (λ o. unwrap_or o 0) (sym (walk.numbered.known k visit (slice_get_within visits k visit e) e))

  -- the number of the branch above a first branch is its parent's
  above_is : (visit : Visit Entry) (j : ℕ) (f : IsFirstVisit visits visit j) → number_above held.numbers places j
      ≡ number (map listed t.entries) (parent (map listed t.entries) (visit_place visit))
  above_is visit j f =
      let b = at j visit f.is in
      tells (slice_index places j) b.stands.visit b.stands.is
      ∙ ap (λ (e : Entry). number_among visits e.place) b.stands.value_is
      ∙ numbered b.above
      ∙ ap (number (map listed t.entries)) (sym (by_listing.parent_is t.entries visits places level at visit j f))

  agrees : (k : ℕ) (visit : Visit Entry) → slice_get held.first k ≡ Some visit
      → AgreesAtPlace stack (number_among visits) (number_above held.numbers places (slice_index held.starts k))
      (slice_index held.paths k) visit
  agrees k visit e =
      let j = slice_index held.starts k in
      let f = walk.numbered.each k visit e in
      let v = visit.now.value in
      let p = visit_placed j visit f.is in
      record {
        header = record { image = p.image; is = p.is; given = p.given; is_read = p.is_read };
        data_is = λ image s. let z : Some p.image ≡ Some image = sym p.is ∙ s in let q : p.image ≡ image = cc in
            subst (λ x. data_in x v.place.header ≡ data_of layers (visit_place visit)) q (data_placed layers v p);
        kind_is = kind_placed layers v p;
        parent_is = above_is visit j f;
        below = children_agree visit j f;
        paths_are = λ other. walk.numbered.counted k visit e
            ∙ ap (λ c. min c (2 ^ 32 - 1)) (paths_by (seen visits (length visits)) (map listed t.entries) (visit_place visit)
            (sym places_are))
            ∙ ap (λ b. min (cond b (2 + count_by (λ (c : Child). is_directory_at layers c.place)
            (children (map listed t.entries) (visit_place visit))) (paths_of (map listed t.entries) (visit_place visit))) (2 ^ 32 - 1))
            (sym other);
      }

  -- the first branches of all places, by number, agree with the listing of the layers
  pub firsts_agree : AgreeWithSomeListing layers (number_among visits) (number_above held.numbers places) held.first held.starts held.paths
  firsts_agree = (
    map listed t.entries,
    record {
      listing = is_listing layers t walk.tree;
      level = walk.numbered.level;
      places = walk.numbered.places ∙ nodes_by (seen visits (length visits)) (map listed t.entries) (sym places_are);
      each = agrees;
    },
  )

  -- where the numbers and sizes of visits are
  module _ (sizes : List ℕ) (sized : sizes ≡ map visit_size visits) where
    numbers_level : length held.numbers ≡ length visits
    numbers_level = walk.numbered.numbers_level

    sizes_level : length sizes ≡ length visits
    sizes_level = ap length sized ∙ length-map visits visit_size

    size_at : (k : ℕ) (visit : Visit Entry) → slice_get visits k ≡ Some visit → (k < length sizes)
        × (slice_index sizes k ≡ visit_size visit)
    size_at k visit e =
        let l = slice_get_within visits k visit e in
        let n = length-map visits visit_size in
        (rw sized (omega arith), rw sized (index_map visit_size visits k visit e))

    -- a branch that is located has its number and size there
    number_and_size : (j : ℕ) (c : Subtree Entry) (above : Entry) → IsLocated t.entries j c above
        → HasNumberAndSize (number_among visits) held.numbers sizes j c
    number_and_size j c above l =
        let last = ends_within t.entries j c above l in
        let nl = numbers_level in
        let sl = level in
        let x = element_below visits j (omega arith) in
        let b = at j x.0 x.1 in
        let size = size_at j x.0 x.1 in
        record {
          within = omega arith;
          sized = size.0;
          number_is = tells j x.0 x.1 ∙ ap (λ (e : Entry). number_among visits e.place)
              (same_value t.entries j x.0.now c b.above above b.located l);
          size_is = size.1 ∙ same_size t.entries j x.0.now c b.above above b.located l;
          ends = omega (arith, sizes_level);
        }

    following : (j : ℕ) (s : Subtree Entry) (above : Entry) → IsLocated t.entries j s above → (ls cs : List (Subtree Entry))
        → s.below ≡ spread (ls ++ cs) → NamesRise (ls ++ cs) → AreFollowing (number_among visits) held.numbers sizes
        (j + suc (length (spread ls))) cs
    following j s above l ls [] below rise = tt
    following j s above l ls (c ∷ cs) below rise =
        let here = child_located t.entries j s above l ls c cs below rise in
        let again = append_assoc ls (c ∷ []) cs in
        let rest = following j s above l (ls ++ c ∷ []) cs (below ∙ ap spread (sym again)) (subst NamesRise (sym again) rise) in (
          number_and_size (j + suc (length (spread ls))) c s.value here,
          subst (λ n. AreFollowing (number_among visits) held.numbers sizes n cs) longer
              rest,
        )
      where
        longer : j + suc (length (spread (ls ++ c ∷ []))) ≡ j + suc (length (spread ls)) + length (whole c)
        longer =
            let u = ap length (spread_append ls (c ∷ [])) in
            let v = length-append (spread ls) (spread (c ∷ [])) in
            let p = length_prefixed c.name c.below in
            let q = length-append (prefixed c.name c.below) [] in
            omega arith

    -- they are at the positions in starts, with the numbers of their parents and children
    pub firsts_stand : StandAtStarts (record { visits = visits; above = places; sizes = sizes }) held.numbers held.first held.starts
    firsts_stand = record {
      level = walk.numbered.starts_level;
      there = λ k visit e. (walk.numbered.each k visit e).is;
      above = λ k visit e.
          let p = slice_index held.starts k in
          let f = walk.numbered.each k visit e in
          let s = (at p visit f.is).stands in
          let l = slice_get_within visits p visit f.is in
          let pl = walk.walked.placed in
          let nl = numbers_level in
          let m = slice_get_within visits (slice_index places p) s.visit s.is in
          record { placed = omega arith; within = omega arith };
      children = λ k visit e.
          let p = slice_index held.starts k in
          let f = walk.numbered.each k visit e in
          let b = at p visit f.is in
          let l = slice_get_within visits p visit f.is in
          let nl = numbers_level in
          record {
            within = omega (arith, sizes_level);
            each = λ cs under forest. following p visit.now b.above b.located [] cs under forest.names;
          };
    }

-- a walk that began with nothing
pub walked_all : (root : Subtree Entry) (old new : Walk Entry) → old ≡ no_walk → AddsWalk root 0 old new
    → StandsAt new.visits 0 root.value × AreWalked root 0 new.visits new.visits new.above × (new.sizes ≡ map visit_size new.visits)
walked_all root old new none a =
    let out = new.visits in
    let is : out ≡ a.visits = a.is ∙ ap (λ (w : Walk Entry). w.visits ++ a.visits) none in (
      subst (λ n. StandsAt out n root.value) (ap (λ (w : Walk Entry). length w.visits) none) a.first,
      subst (λ (x : List (Visit Entry)). AreWalked root 0 out x new.above) (sym is)
          (subst (AreWalked root 0 out a.visits) (sym (a.above_are ∙ ap (λ (w : Walk Entry). w.above ++ a.more) none)) a.walked),
      a.sizes_are ∙ ap (λ (w : Walk Entry). w.sizes ++ map visit_size a.visits) none ∙ ap (map visit_size) (sym is),
    )
