-- The branches of a stack's tree agree with the listing of its layers. Rows and visits have the same places in the same order
-- (places_same); the position of a place's first branch among the rows gives what the listing says about the place: path_is, parent_is and
-- children_are.
use Rattle.std.proofs.Common.{◌≡◌, ◌∙◌, sym, ap, subst, ℕ, zero, suc, ◌-◌, inl, inr, List, [], ◌∷◌, ◌++◌, length, take, map, refl, arith, append_assoc, Bool, true, false, Option, Some, None}
use Rattle.std.specs.Prelude.{slice_get, slice_index, find, fold}
use Rattle.std.specs.List.{AllByRecursion, filter_map, position_from}
use Rattle.std.specs.List.{cons_option}
use Rattle.std.specs.Option.{option_map, option_map_or}
use Rattle.std.proofs.lemmas.List.{append-nil, length-map, map-append, take-map, take_at}
use Rattle.std.proofs.lemmas.List.Elements.{filter_map-append}
use Rattle.std.specs.Cmp.Lexicographic.{slice_cmp}
use Rattle.std.specs.declared.cmp.Ordering.TheVariants.{Less}
use Rattle.stack_model.specs.Stack.{Path}
use Rattle.stack_model.specs.Listing.{Entry as Listed, IsAmong}
use Rattle.stack_model.specs.Numbers.{Place as ModelPlace, Child, place, same_place, same_name, same_path, noted, nodes, number_of, path_of, parent, name_below, child_in, children}
use Rattle.layer_paths.specs.Rows.{Subtree, Rows, prefixed, spread, whole, IsForest, IsRising, name_cmp}
use Rattle.layer_paths.specs.declared.entries.Entry.{Entry}
use Rattle.layer_paths.specs.Trees.{listed}
use Rattle.node_reader.specs.Readers.{placed}
use Rattle.node_table.specs.Walks.{Visit, under, extends, IsApart, IsLocated, IsBelow}
use Rattle.node_table.specs.Numbering.{visit_place, bare, seen, IsFirstVisit}
use Rattle.layer_paths.proofs.Lists.{get_of_map}
use Rattle.node_table.proofs.Lists.{get_end, get_map}
use Rattle.node_table.proofs.Paths.{same_itself as name_itself, under_append}
use Rattle.node_table.proofs.Counting.{not_among, same_itself as place_itself}

-- lists with the same elements at each place
ext : {X : Type 0} (xs ys : List X) → length xs ≡ length ys → ((k : ℕ) (y : X) → slice_get ys k ≡ Some y → slice_get xs k ≡ Some y)
    → xs ≡ ys
ext [] [] l f = refl
ext [] (y ∷ ys) l f = absurd (omega arith)
ext (x ∷ xs) [] l f = absurd (omega arith)
ext (x ∷ xs) (y ∷ ys) l f =
    let g : Some x ≡ Some y = f zero y refl in
    let h : x ≡ y = cc in
    ap (λ z. z ∷ xs) h ∙ ap (λ zs. y ∷ zs) (ext xs ys (omega arith) (λ k z e. f (suc k) z e))

-- the place of a row
pub row_place : Path × Entry → ModelPlace
row_place r = placed r.1.place

abbrev located_place : Path × Entry → ModelPlace
located_place r = place (listed r)

-- the row of a branch that is located
pub row_at : (rows : Rows Entry) (j : ℕ) (s : Subtree Entry) (above : Entry) (l : IsLocated rows j s above)
    → slice_get rows j ≡ Some (l.top ++ [], s.value)
row_at rows j s above l = subst (λ n. slice_get rows n ≡ Some (l.top ++ [], s.value)) l.at
    (subst (λ x. slice_get x (length l.before) ≡ Some (l.top ++ [], s.value))
    (sym (l.is ∙ append_assoc l.before (under l.top (whole s)) l.after))
    (get_end l.before (under l.top s.below ++ l.after) (l.top ++ [], s.value)))

-- the rows of a walk have the places of its visits
pub places_same : (rows : Rows Entry) (visits : List (Visit Entry)) (places : List ℕ) → length visits ≡ length rows
    → ((k : ℕ) (visit : Visit Entry) → slice_get visits k ≡ Some visit → IsBelow rows k visit.now visits (slice_index places k))
    → map place (map listed rows) ≡ map visit_place visits
places_same rows visits places level at = ext (map place (map listed rows)) (map visit_place visits) (length-map (map listed rows) place
    ∙ length-map rows listed ∙ sym level ∙ sym (length-map visits visit_place)) one
  where
    one : (k : ℕ) (y : ModelPlace) → slice_get (map visit_place visits) k ≡ Some y → slice_get (map place (map listed rows)) k ≡ Some y
    one k y e =
        let x = get_of_map visit_place visits k y e in
        let b = at k x.0 x.1 in
        let l = b.located in
        get_map place (map listed rows) k (listed (l.top ++ [], x.0.now.value)) (get_map listed rows k (l.top ++ [], x.0.now.value)
        (row_at rows k x.0.now b.above l)) ∙ ap Some x.2

-- entries made of visits have the visits' places
pub bare_places : (visits : List (Visit Entry)) → map place (map bare visits) ≡ map visit_place visits
bare_places [] = refl
bare_places (s ∷ visits) = ap (λ r. visit_place s ∷ r) (bare_places visits)

-- entries with the same places have the same nodes
pub nodes_by : (es fs : List Listed) → map place es ≡ map place fs → nodes es ≡ nodes fs
unfolding nodes
nodes_by es fs e = ap (fold noted []) e

-- entries with the same places give a place the same number
pub number_of_by : (es fs : List Listed) (p : ModelPlace) → map place es ≡ map place fs → number_of es p ≡ number_of fs p
unfolding number_of nodes
number_of_by es fs p e = ap (λ x. position_from (same_place p) 1 (fold noted [] x)) e

-- nothing before the first branch of a place has the place
find_past : (p : ModelPlace) (es fs : List Listed) (e : Listed) → ((f : Listed) → IsAmong f es → same_place p (place f) ≡ false)
    → same_place p (place e) ≡ true → find (λ f. same_place p (place f)) (es ++ e ∷ fs) ≡ Some e
find_past p [] fs e none at = rw at refl
find_past p (f ∷ es) fs e none at = rw (none f (inl refl)) (find_past p es fs e (λ g a. none g (inr a)) at)

find_map : (t : Path → Bool) (rows : Rows Entry) → find (λ (e : Listed). t e.path) (map listed rows)
    ≡ option_map listed (find (λ r. t r.0) rows)
find_map t [] = refl
find_map t (x ∷ rows) = go (t x.0) refl (find_map t rows)
  where
    go : (b : Bool) → t x.0 ≡ b → find (λ (e : Listed). t e.path) (map listed rows) ≡ option_map listed (find (λ r. t r.0) rows)
        → find (λ (e : Listed). t e.path) (map listed (x ∷ rows)) ≡ option_map listed (find (λ r. t r.0) (x ∷ rows))
    go true e i = rw e refl
    go false e i = rw e i

-- names below a path
below_none : (top q : Path) → extends top q ≡ false → name_below top q ≡ None
below_none [] q e = absurd (cc)
below_none (n ∷ top) [] e = refl
below_none (n ∷ top) (m ∷ q) e = go (same_name n m) refl (below_none top q)
  where
    go : (b : Bool) → same_name n m ≡ b → (extends top q ≡ false → name_below top q ≡ None) → name_below (n ∷ top) (m ∷ q) ≡ None
    go true f later = rw f (later (rw f at e))
    go false f later = rw f refl

below_itself : (top : Path) → name_below top (top ++ []) ≡ None
below_itself [] = refl
below_itself (n ∷ top) = rw (name_itself n) (below_itself top)

below_one : (top : Path) (n : List ℕ) → name_below top (top ++ n ∷ []) ≡ Some n
below_one [] n = refl
below_one (m ∷ top) n = rw (name_itself m) (below_one top n)

below_more : (top : Path) (n m : List ℕ) (q : Path) → name_below top (top ++ n ∷ m ∷ q) ≡ None
below_more [] n m q = refl
below_more (k ∷ top) n m q = rw (name_itself k) (below_more top n m q)

-- a child as the listing has it
abbrev pub child_of : Subtree Entry → Child
child_of c = record { name = c.name; place = placed c.value.place }

none_apart : (top : Path) (xs : Rows Entry) → IsApart top xs → filter_map (child_in top) (map listed xs) ≡ []
none_apart top [] a = refl
none_apart top (x ∷ xs) a = ap (λ o. cons_option (option_map (λ n. record { name = n; place = place (listed x) }) o)
    (filter_map (child_in top) (map listed xs))) (below_none top x.0 a.0) ∙ none_apart top xs a.1

-- rows below a child
abbrev AreLong : Rows Entry → Type 0
AreLong xs = AllByRecursion (λ (y : Path × Entry). slice_cmp name_cmp [] y.0 ≡ Less) xs

none_long : (top : Path) (n : List ℕ) (xs : Rows Entry) → AreLong xs → filter_map (child_in top) (map listed (under top (prefixed n xs)))
    ≡ []
none_long top n [] a = refl
none_long top n (x ∷ xs) a = ap (λ o. cons_option (option_map (λ m. record { name = m; place = place (listed x) }) o)
    (filter_map (child_in top) (map listed (under top (prefixed n xs))))) (one x.0 a.0) ∙ none_long top n xs a.1
  where
    one : (q : Path) → slice_cmp name_cmp [] q ≡ Less → name_below top (top ++ n ∷ q) ≡ None
    one [] e = absurd (cc)
    one (m ∷ q) e = below_more top n m q

-- of the rows of branches below a path, the children of the path are the branches
pub children_under : (top : Path) (cs : List (Subtree Entry)) → AllByRecursion IsRising cs
    → filter_map (child_in top) (map listed (under top (spread cs))) ≡ map child_of cs
children_under top [] a = refl
children_under top (c ∷ cs) a =
    ap (λ o. cons_option (option_map (λ n. record { name = n; place = placed c.value.place }) o)
    (filter_map (child_in top) (map listed (under top (prefixed c.name c.below ++ spread cs))))) (below_one top c.name)
    ∙ ap (λ r. record { name = c.name; place = placed c.value.place } ∷ r) (
    ap (λ xs. filter_map (child_in top) (map listed xs)) (under_append top (prefixed c.name c.below) (spread cs))
    ∙ ap (filter_map (child_in top)) (map-append listed (under top (prefixed c.name c.below)) (under top (spread cs)))
    ∙ filter_map-append (child_in top) (map listed (under top (prefixed c.name c.below))) (map listed (under top (spread cs)))
    ∙ ap (λ x. x ++ filter_map (child_in top) (map listed (under top (spread cs)))) (none_long top c.name c.below a.0.rises.0)
    ∙ children_under top cs a.1)

module _ (rows : Rows Entry) (visits : List (Visit Entry)) (places : List ℕ) (level : length visits ≡ length rows)
    (at : (k : ℕ) (visit : Visit Entry) → slice_get visits k ≡ Some visit → IsBelow rows k visit.now visits (slice_index places k)) where
  -- the entries of the rows, as a listing has them
  pub entries : List Listed
  entries = map listed rows

  -- the rows are those before a located branch, its own, those below it and those after
  pub split : (j : ℕ) (s : Subtree Entry) (above : Entry) (l : IsLocated rows j s above) → rows ≡ l.before ++ (l.top ++ [], s.value) ∷
      (under l.top s.below ++ l.after)
  split j s above l = l.is ∙ append_assoc l.before (under l.top (whole s)) l.after

  -- the places before a branch are those of the visits before it
  places_before : (j : ℕ) (s : Subtree Entry) (above : Entry) (l : IsLocated rows j s above) → map place (map listed l.before)
      ≡ map place (seen visits j)
  places_before j s above l =
      sym (ap (λ x. map place (map listed x)) front)
      ∙ sym (ap (map place) (take-map listed j rows)) ∙ sym (take-map place j (map listed rows))
      ∙ ap (take j) (places_same rows visits places level at)
      ∙ take-map visit_place j visits ∙ sym (bare_places (take j visits))
    where
      front : take j rows ≡ l.before
      front = ap (take j) (split j s above l) ∙ take_at l.before ((l.top ++ [], s.value) ∷ (under l.top s.below ++ l.after)) j l.at

  -- the path of a place is that of the first branch with the place
  pub path_is : (visit : Visit Entry) (j : ℕ) (f : IsFirstVisit visits visit j) → path_of (map listed rows) (visit_place visit)
      ≡ (at j visit f.is).located.top
  path_is visit j f =
      let b = at j visit f.is in
      let l = b.located in
      let s = visit.now in
      let p = visit_place visit in
      let e : Listed = listed (l.top ++ [], s.value) in
      let none : number_of (map listed l.before) p ≡ None = number_of_by (map listed l.before) (seen visits j) p
      (places_before j s b.above l) ∙ f.new in
      let found : find (λ (e : Listed). same_place p (place e)) (map listed rows) ≡ Some e =
      ap (λ x. find (λ (e : Listed). same_place p (place e)) x) (ap (map listed) (split j s b.above l)
      ∙ map-append listed l.before ((l.top ++ [], s.value) ∷ (under l.top s.below ++ l.after)))
      ∙ find_past p (map listed l.before) (map listed (under l.top s.below ++ l.after)) e
      (λ g a. not_among (map listed l.before) p none g a) (place_itself p) in
      ap (λ o. option_map_or (λ (e : Listed). e.path) o []) found ∙ append-nil l.top

  -- the parent of a place is the place of the branch above its first branch
  pub parent_is : (visit : Visit Entry) (j : ℕ) (f : IsFirstVisit visits visit j)
      → parent (map listed rows) (visit_place visit) ≡ placed (at j visit f.is).above.place
  unfolding parent
  parent_is visit j f =
      let b = at j visit f.is in
      let l = b.located in
      ap (λ (q : Path). option_map_or place (find (λ (e : Listed). same_path (take (length q - 1) q) e.path) (map listed rows))
      (visit_place visit)) (path_is visit j f)
      ∙ ap (λ o. option_map_or place o (visit_place visit)) (find_map (same_path (take (length l.top - 1) l.top)) rows)
      ∙ up b.above (find (λ (r : Path × Entry). same_path (take (length l.top - 1) l.top) r.0) rows) l.above_is
    where
      up : (above : Entry) (o : Option (Path × Entry)) → option_map (λ r. r.1) o ≡ Some above → option_map_or place (option_map listed o)
          (visit_place visit) ≡ placed above.place
      up above None e = absurd (cc)
      up above (Some r) e = let g : r.1 ≡ above = cc in ap (λ (v : Entry). placed v.place) g

  -- the children of a place are those of its first branch
  pub children_are : (visit : Visit Entry) (j : ℕ) (f : IsFirstVisit visits visit j) (cs : List (Subtree Entry))
      → visit.now.below ≡ spread cs → IsForest cs → children (map listed rows) (visit_place visit) ≡ map child_of cs
  unfolding children
  children_are visit j f cs below forest =
      let b = at j visit f.is in
      let l = b.located in
      let s = visit.now in
      let top = l.top in
      let row : Path × Entry = (l.top ++ [], s.value) in
      let mine = under l.top (spread cs) in
      ap (λ (q : Path). filter_map (child_in q) (map listed rows)) (path_is visit j f)
      ∙ ap (λ x. filter_map (child_in top) (map listed x)) (split j s b.above l
      ∙ ap (λ b. l.before ++ row ∷ (under l.top b ++ l.after)) below)
      ∙ ap (filter_map (child_in top)) (map-append listed l.before (row ∷ (mine ++ l.after)))
      ∙ filter_map-append (child_in top) (map listed l.before) (map listed (row ∷ (mine ++ l.after)))
      ∙ ap (λ x. x ++ filter_map (child_in top) (map listed (row ∷ (mine ++ l.after)))) (none_apart top l.before l.apart_before)
      ∙ ap (λ o. cons_option (option_map (λ n. record { name = n; place = placed s.value.place }) o)
      (filter_map (child_in top) (map listed (mine ++ l.after)))) (below_itself top)
      ∙ ap (filter_map (child_in top)) (map-append listed mine l.after)
      ∙ filter_map-append (child_in top) (map listed mine) (map listed l.after)
      ∙ ap (λ x. filter_map (child_in top) (map listed mine) ++ x) (none_apart top l.after l.apart_after)
      ∙ append-nil (filter_map (child_in top) (map listed mine))
      ∙ children_under top cs forest.each
