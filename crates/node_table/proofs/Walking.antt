-- A walk over a branch and everything below it. Walking is the loop over the children: it begins when the branch is added, continues by the
-- walk over one child, which child_located places among the rows, and ends when the branch's size is written. The places of parents are
-- given among all visits, of which there are more and more (below_more).
use Rattle.std.proofs.Common.{◌≡◌, ◌∙◌, sym, ap, subst, ℕ, zero, suc, ◌+◌, ◌-◌, ◌<◌, ◌≤◌, inl, inr, List, [], ◌∷◌, ◌++◌, length, take, drop, get_or, refl, arith, append_assoc, length-append, Some}
use Rattle.std.specs.Prelude.{slice_get, slice_index, slice_set, map}
use Rattle.std.proofs.lemmas.List.{get_or_append_left, get_or-append-add, length-map, map-append, set_at, take_all}
use Rattle.std.proofs.lemmas.Option.{slice_get_within}
use Rattle.layer_paths.specs.Rows.{Subtree, Rows, prefixed, spread, NamesRise, IsForest, length_prefixed}
use Rattle.node_table.specs.Walks.{Visit, visit_size, StandsAt, IsBelow, Walk, AddsWalk}
use Rattle.node_table.proofs.Lists.{get_front, get_end, get_append, take_one_more}
use Rattle.node_table.proofs.Paths.{spread_append, child_located}

module _ {T : Type 0} where
  -- a list is the part before a child, the child, and the part after it
  pub parted : (cs : List (Subtree T)) (i : ℕ) (c : Subtree T) → i < length cs → c ≡ get_or cs i c → cs ≡ take i cs ++ c ∷ drop (suc i) cs
  parted [] i c l e = absurd (omega arith)
  parted (x ∷ cs) zero c l e = ap (λ y. y ∷ cs) (sym e)
  parted (x ∷ cs) (suc i) c l e = ap (λ r. x ∷ r) (parted cs i c (omega arith) e)

  -- a child has fewer rows below it
  pub falls : (cs : List (Subtree T)) (below : Rows T) (i : ℕ) (c : Subtree T) → below ≡ spread cs → i < length cs → c ≡ get_or cs i c
      → length c.below < length below
  falls cs below i c e l f = rw e (go cs i l f)
    where
      go : (cs : List (Subtree T)) (i : ℕ) → i < length cs → c ≡ get_or cs i c → length c.below < length (spread cs)
      go [] i l f = absurd (omega arith)
      go (x ∷ cs) zero l f =
          let n = length_prefixed x.name x.below in
          let a = length-append (prefixed x.name x.below) (spread cs) in
          let same : length c.below ≡ length x.below = ap (λ (s : Subtree T). length s.below) f in
          omega arith
      go (x ∷ cs) (suc i) l f =
          let a = length-append (prefixed x.name x.below) (spread cs) in
          let r = go cs i (omega arith) f in
          omega arith

  stands_more : (all more : List (Visit T)) (place : ℕ) (value : T) → StandsAt all place value → StandsAt (all ++ more) place value
  stands_more all more place value s = record { visit = s.visit; is = get_front all more place s.visit s.is; value_is = s.value_is }

  stands_before : (all more : List (Visit T)) (place : ℕ) (value : T) → place < length all → StandsAt (all ++ more) place value
      → StandsAt all place value
  stands_before all more place value l s = record {
    visit = s.visit;
    is = elim (get_append all more place s.visit s.is) [ inl e ↦ e | inr (m, e, f) ↦ absurd (omega arith) ];
    value_is = s.value_is;
  }

  below_more : (rows : Rows T) (j : ℕ) (branch : Subtree T) (all more : List (Visit T)) (place : ℕ) → IsBelow rows j branch all place
      → IsBelow rows j branch (all ++ more) place
  below_more rows j branch all more place b =
      record { above = b.above; located = b.located; stands = stands_more all more place b.above b.stands }

  below_before : (rows : Rows T) (j : ℕ) (branch : Subtree T) (all more : List (Visit T)) (place : ℕ) → place < length all
      → IsBelow rows j branch (all ++ more) place → IsBelow rows j branch all place
  below_before rows j branch all more place l b =
      record { above = b.above; located = b.located; stands = stands_before all more place b.above l b.stands }

  -- how far a walk has come: the branch, whose size is still to be written, and the children below
  -- the place i with all below them
  pub record Walking (branch : Subtree T) (place : ℕ) (cs : List (Subtree T)) (old now : Walk T) (i : ℕ) : Type 0 where
    pub first : Visit T
    pub first_is : first.now ≡ branch
    pub rest : List (Visit T)
    pub is : now.visits ≡ old.visits ++ first ∷ rest
    pub level : length rest ≡ length (spread (take i cs))
    pub above : place ≤ length old.visits
    pub more : List ℕ
    pub above_are : now.above ≡ old.above ++ more
    pub placed : length more ≡ suc (length rest)
    pub each : (rows : Rows T) (j : ℕ) → IsBelow rows j branch now.visits place → (k : ℕ) (visit : Visit T) → slice_get (first ∷ rest) k
        ≡ Some visit → IsBelow rows (j + k) visit.now now.visits (slice_index more k)
    pub sizes_are : now.sizes ≡ old.sizes ++ 0 ∷ map visit_size rest
    pub sizes_level : length old.sizes ≡ length old.visits

  -- with the branch added, and a size of 0 for it, no child is walked
  pub walk_begun : (branch : Visit T) (place : ℕ) (cs : List (Subtree T)) (old now : Walk T) → place ≤ length old.visits
      → length old.sizes ≡ length old.visits → now.visits ≡ old.visits ++ branch ∷ [] → now.above ≡ old.above ++ place ∷ []
      → now.sizes ≡ old.sizes ++ 0 ∷ [] → Walking branch.now place cs old now 0
  walk_begun branch place cs old now above level visits_are above_are sizes_are = record {
    first = branch;
    first_is = refl;
    rest = [];
    is = visits_are;
    level = omega arith;
    above = above;
    more = place ∷ [];
    above_are = above_are;
    placed = refl;
    each = one;
    sizes_are = sizes_are;
    sizes_level = level;
  }
    where
      one : (rows : Rows T) (j : ℕ) → IsBelow rows j branch.now now.visits place → (k : ℕ) (visit : Visit T) → slice_get (branch ∷ []) k
          ≡ Some visit → IsBelow rows (j + k) visit.now now.visits (slice_index (place ∷ []) k)
      one rows j b zero visit f =
          let s : branch ≡ visit = cc in
          subst (λ (x : Visit T). IsBelow rows (j + 0) x.now now.visits place) s
          (subst (λ n. IsBelow rows n branch.now now.visits place) (omega arith) b)
      one rows j b (suc k) visit f = absurd (cc)

  -- the branch is where it was put
  pub stands : (branch : Subtree T) (place : ℕ) (cs : List (Subtree T)) (old now : Walk T) (i : ℕ) → Walking branch place cs old now i
      → StandsAt now.visits (length old.visits) branch.value
  stands branch place cs old now i w = record {
    visit = w.first;
    is = ap (λ (x : List (Visit T)). slice_get x (length old.visits)) w.is ∙ get_end old.visits w.rest w.first;
    value_is = ap (λ (s : Subtree T). s.value) w.first_is;
  }

  -- there is a size for each visit, and more visits than there were
  pub levels : (branch : Subtree T) (place : ℕ) (cs : List (Subtree T)) (old now : Walk T) (i : ℕ) → Walking branch place cs old now i
      → (length now.sizes ≡ length now.visits) × (length old.visits < length now.visits)
  levels branch place cs old now i w =
      let a = ap length w.sizes_are in
      let b = ap length w.is in
      let level = w.sizes_level in
      let n = length-map w.rest visit_size in
      let v = length-append old.visits (w.first ∷ w.rest) in
      (omega (arith, length-append old.sizes (0 ∷ map visit_size w.rest)), omega arith)

  -- a walk over the next child is one child more
  pub child_walked : (branch : Subtree T) (place : ℕ) (cs : List (Subtree T)) (old now later : Walk T) (i at : ℕ) (c : Subtree T)
      → branch.below ≡ spread cs → IsForest cs → i < length cs → c ≡ get_or cs i c → at ≡ length old.visits
      → Walking branch place cs old now i
      → AddsWalk c at now later
      → Walking branch place cs old later (i + 1)
  child_walked branch place cs old now later i at c below forest lt here at_is w adds = record {
    first = w.first;
    first_is = w.first_is;
    rest = w.rest ++ adds.visits;
    is = adds.is ∙ ap (λ x. x ++ adds.visits) w.is ∙ append_assoc old.visits (w.first ∷ w.rest) adds.visits;
    level = longer_now;
    above = w.above;
    more = w.more ++ adds.more;
    above_are = adds.above_are ∙ ap (λ x. x ++ adds.more) w.above_are ∙ append_assoc old.above w.more adds.more;
    placed = (let a = w.placed in let b = adds.walked.placed in
        omega (arith, length-append w.more adds.more, length-append w.rest adds.visits));
    each = λ rows j b k visit f. elim (get_append (w.first ∷ w.rest) adds.visits k visit f) [
      | inl g ↦ subst (IsBelow rows (j + k) visit.now later.visits) (sym (get_or_append_left w.more adds.more 0 k
          (let l = slice_get_within (w.first ∷ w.rest) k visit g in let n = w.placed in omega arith)))
          (still rows (j + k) visit.now (slice_index w.more k) (w.each rows j (earlier rows j b) k visit g))
      | inr (m, e, g) ↦ subst (IsBelow rows (j + k) visit.now later.visits) (sym (ap (slice_index (w.more ++ adds.more))
          (e ∙ ap (λ n. n + m) (sym w.placed)) ∙ get_or-append-add w.more adds.more m 0))
          (subst (λ n. IsBelow rows n visit.now later.visits (slice_index adds.more m)) (omega (arith, w.level))
          (adds.walked.each rows (j + suc (length (spread (take i cs)))) (child rows j b) m visit g))
    ];
    sizes_are = adds.sizes_are ∙ ap (λ x. x ++ map visit_size adds.visits) w.sizes_are
        ∙ append_assoc old.sizes (0 ∷ map visit_size w.rest) (map visit_size adds.visits)
        ∙ ap (λ x. old.sizes ++ 0 ∷ x) (sym (map-append visit_size w.rest adds.visits));
    sizes_level = w.sizes_level;
  }
    where
      still : (rows : Rows T) (j : ℕ) (s : Subtree T) (place : ℕ) → IsBelow rows j s now.visits place → IsBelow rows j s later.visits place
      still rows j s place b = subst (λ (x : List (Visit T)). IsBelow rows j s x place) (sym adds.is)
          (below_more rows j s now.visits adds.visits place b)

      earlier : (rows : Rows T) (j : ℕ) → IsBelow rows j branch later.visits place → IsBelow rows j branch now.visits place
      earlier rows j b = below_before rows j branch now.visits adds.visits place
          (let l = (levels branch place cs old now i w).1 in let a = w.above in omega arith)
          (subst (λ (x : List (Visit T)). IsBelow rows j branch x place) adds.is b)

      split : cs ≡ take i cs ++ c ∷ drop (suc i) cs
      split = parted cs i c lt here

      child : (rows : Rows T) (j : ℕ) → IsBelow rows j branch later.visits place
          → IsBelow rows (j + suc (length (spread (take i cs)))) c later.visits at
      child rows j b = record {
        above = branch.value;
        located = child_located rows j branch b.above b.located (take i cs) c (drop (suc i) cs) (below ∙ ap spread split)
            (subst NamesRise split forest.names);
        stands = subst (λ n. StandsAt later.visits n branch.value) (sym at_is)
            (subst (λ (x : List (Visit T)). StandsAt x (length old.visits) branch.value) (sym adds.is)
            (stands_more now.visits adds.visits (length old.visits) branch.value (stands branch place cs old now i w)));
      }

      longer_now : length (w.rest ++ adds.visits) ≡ length (spread (take (i + 1) cs))
      longer_now =
          let wl = w.level in
          let al = adds.walked.level in
          let n = length-append w.rest adds.visits in
          let t = ap (λ x. length (spread x)) (take_one_more cs i c lt here) in
          let u = ap length (spread_append (take i cs) (c ∷ [])) in
          let v = length-append (spread (take i cs)) (spread (c ∷ [])) in
          let p = length_prefixed c.name c.below in
          let q = length-append (prefixed c.name c.below) [] in
          omega arith

  -- after the last child, and with its size written, the entire branch is walked
  pub walk_ended : (branch : Subtree T) (place : ℕ) (cs : List (Subtree T)) (old now : Walk T) (sizes : List ℕ) (i at size : ℕ)
      → branch.below ≡ spread cs → length cs ≤ i → at ≡ length old.visits → size ≡ length now.visits - at
      → sizes ≡ slice_set now.sizes at size → Walking branch place cs old now i
      → AddsWalk branch place old (record { visits = now.visits; above = now.above; sizes = sizes })
  walk_ended branch place cs old now sizes i at size below le at_is size_is set w = record {
    visits = w.first ∷ w.rest;
    is = w.is;
    first = stands branch place cs old now i w;
    more = w.more;
    above_are = w.above_are;
    walked = record { level = level; placed = w.placed; each = w.each };
    sizes_are =
        set ∙ ap (λ x. slice_set x at size) w.sizes_are
        ∙ ap (λ n. slice_set (old.sizes ++ 0 ∷ map visit_size w.rest) n size) (at_is ∙ sym w.sizes_level)
        ∙ set_at old.sizes 0 (map visit_size w.rest) size (length old.sizes) refl
        ∙ ap (λ n. old.sizes ++ n ∷ map visit_size w.rest) mine;
  }
    where
      rest_level : length w.rest ≡ length branch.below
      rest_level = w.level ∙ ap (λ x. length (spread x)) (take_all i cs le) ∙ ap length (sym below)

      level : suc (length w.rest) ≡ suc (length branch.below)
      level = ap suc rest_level

      mine : size ≡ suc (length w.first.now.below)
      mine =
          let b = ap length w.is in
          let n = ap (λ (x : Subtree T). length x.below) w.first_is in
          let r = rest_level in
          omega (arith, size_is, at_is, length-append old.visits (w.first ∷ w.rest))
