-- The branches of a directory's members, and the marks of its markers. Building and Whitening are the loops that make them. Their results
-- are in the order of names (forests, white_forest), and what a name has in them comes from the member or marker of that name (find_built,
-- find_white).
use Rattle.std.proofs.Common.{◌≡◌, ◌≢◌, ◌∙◌, sym, ap, subst, ℕ, zero, suc, ◌+◌, ◌-◌, ◌<◌, ◌≤◌, inl, inr, List, [], ◌∷◌, ◌++◌, append_assoc, length, length-append, get_or, drop, refl, arith, add-one, Option, Some, None, true, false}
use Rattle.std.specs.Prelude.{slice_get, option_to_list}
use Rattle.std.specs.List.{AllByRecursion}
use Rattle.std.specs.declared.cmp.Ordering.TheVariants.{Less}
use Rattle.std.proofs.Math.Seq.{drop-cons}
use Rattle.std.proofs.lemmas.List.{append-nil, drop_all, get_or-map, length-map}
use Rattle.std.proofs.lemmas.List.Elements.{All-from_recursion}
use Rattle.romfs_format.specs.declared.limits.TheConstants.{MAX_NAMES}
use Rattle.romfs_format.specs.declared.head.Kind.TheVariants.{HardLink}
use Rattle.romfs_format.specs.Fields.{root}
use Rattle.romfs_format.specs.Chains.{Has}
use Rattle.romfs_format.specs.Heads.{name_of}
use Rattle.romfs_reader.specs.Images.{IsImage}
use Rattle.romfs_reader.proofs.Paths.{short}
use Rattle.stack_model.specs.Stack.{Path, IsMarker, marker}
use Rattle.layer_paths.specs.Rows.{Subtree, name_cmp, named, IsForest}
use Rattle.layer_paths.proofs.Names.{same_or_not, named_below}
use Rattle.layer_paths.proofs.Spread.{through}
use Rattle.layer_paths.specs.declared.entries.Entry.{Entry}
use Rattle.layer_paths.specs.declared.entries.Mark.{Mark}
use Rattle.layer_tree.specs.declared.members.KeyedMember.{KeyedMember}
use Rattle.layer_tree.specs.Members.{NamedMember, member_in, members_in}
use Rattle.layer_tree.specs.Reading.{IsBefore, NamedRise, IsNamedMember, IsAtDepth, AreMembersAt, IsBranchOf, RemovesFrom, IsBranchAlone, AreBranchesOf, IsMadeOf, AreBuilt, none_built, hidden, alone, built, AreWhiteouts, none_white, other, white}
use Rattle.layer_tree.proofs.Layered.{leads_on}
use Rattle.layer_tree.proofs.Stepping.{leaf_rises}

-- what is built so far, with what the members that are left become, is what all become
pub record Building (a : List ℕ) (layer : ℕ) (all left : List NamedMember) (es : List (Subtree Entry)) (ks : List (Subtree Mark))
    : Type 0 where
  pub more : (es' : List (Subtree Entry)) (ks' : List (Subtree Mark)) → AreBuilt a layer left es' ks'
      → AreBuilt a layer all (es ++ es') (ks ++ ks')

-- the same for the marks of markers
pub record Whitening (all left : List NamedMember) (ks : List (Subtree Mark)) : Type 0 where
  pub more : (ks' : List (Subtree Mark)) → AreWhiteouts left ks' → AreWhiteouts all (ks ++ ks')

-- before the first member nothing is built
pub building_begun : (a : List ℕ) (layer : ℕ) (all : List NamedMember) → Building a layer all all [] []
building_begun a layer all = record { more = λ es ks b. b }

-- before the first member there is no mark
pub whitening_begun : (all : List NamedMember) → Whitening all all []
whitening_begun all = record { more = λ ks b. b }

-- what is after the end of members
abbrev pub nothing : NamedMember
nothing = record {
  name = [];
  head = record { offset = 0; next = 0; kind = HardLink; exec = false; spec = 0; size = 0; name_at = 0; name_len = 0 };
}

-- the member at a place of the list
abbrev pub at_index : List NamedMember → ℕ → NamedMember
at_index all i = get_or all i nothing

-- the place of a member after the end of members
abbrev pub nowhere_kept : KeyedMember
nowhere_kept = record { key = 0; offset = 0; name_len = 0 }

-- the member at a place is the one whose header is at that place of the list
pub at_place : (a : List ℕ) (ms : List KeyedMember) (i : ℕ) → i < length ms
    → at_index (members_in a ms) i ≡ member_in a (get_or ms i nowhere_kept)
at_place a ms i l = get_or-map (member_in a) ms i nowhere_kept nothing l

-- and has the name that is read at its place
pub name_at_place : (a : List ℕ) (ms : List KeyedMember) (i : ℕ) (name : List ℕ) → i < length ms
    → name ≡ name_of a (get_or ms i nowhere_kept).offset → (at_index (members_in a ms) i).name ≡ name
name_at_place a ms i name l e = ap (λ (m : NamedMember). m.name) (at_place a ms i l) ∙ sym e

-- there are as many members as places
pub as_many : (a : List ℕ) (ms : List KeyedMember) → length (members_in a ms) ≡ length ms
as_many a ms = length-map ms (member_in a)

next : (all : List NamedMember) (i : ℕ) → i < length all → drop i all ≡ at_index all i ∷ drop (i + 1) all
next all i l = rw add-one (drop-cons all i nothing l)

module _ (a : List ℕ) (layer : ℕ) (all : List NamedMember) (i : ℕ) (es : List (Subtree Entry))
    (ks : List (Subtree Mark)) (l : i < length all) (w : Building a layer all (drop i all) es ks) where
  -- a marker adds no branch
  pub build_hidden : IsMarker (at_index all i).name → Building a layer all (drop (i + 1) all) es ks
  build_hidden h = record {
    more = λ es' ks' b.
        w.more es' ks' (rw (next all i l) (hidden (at_index all i) (drop (i + 1) all) es' ks' h b));
  }

  -- a member that needs no mark adds its branch of entries
  pub build_alone : (e : Subtree Entry) (es' : List (Subtree Entry)) → ¬ IsMarker (at_index all i).name
      → IsBranchAlone a layer (at_index all i).head.offset (at_index all i).name e → es' ≡ es ++ e ∷ []
      → Building a layer all (drop (i + 1) all) es' ks
  build_alone e es' n b p = record {
    more = λ es'' ks'' c. rw p
        (simp append_assoc (w.more (e ∷ es'') ks''
        (rw (next all i l) (alone (at_index all i) (drop (i + 1) all) e es'' ks'' n b c))));
  }

  -- a member that needs a mark adds its branch of entries, and that of marks
  pub build_one : (e : Subtree Entry) (k : Subtree Mark) (es' : List (Subtree Entry)) (ks' : List (Subtree Mark))
      → ¬ IsMarker (at_index all i).name
      → AreBranchesOf a layer (at_index all i).head.offset (at_index all i).name e k → es' ≡ es ++ e ∷ []
      → ks' ≡ ks ++ k ∷ [] → Building a layer all (drop (i + 1) all) es' ks'
  build_one e k es' ks' n b p q = record {
    more = λ es'' ks'' c. rw (p, q)
        (simp append_assoc (w.more (e ∷ es'') (k ∷ ks'')
        (rw (next all i l) (built (at_index all i) (drop (i + 1) all) e es'' k ks'' n b c))));
  }

  -- a member and what is made from it are one more built
  pub build_made : (e : Subtree Entry) (o : Option (Subtree Mark)) (es' : List (Subtree Entry)) (ks' : List (Subtree Mark))
      → ¬ IsMarker (at_index all i).name
      → IsMadeOf a layer (at_index all i).head.offset (at_index all i).name (e, o) → es' ≡ es ++ e ∷ []
      → ks' ≡ ks ++ option_to_list o → Building a layer all (drop (i + 1) all) es' ks'
  build_made e None es' ks' n m p q = rw (q, append-nil) (build_alone e es' n m p)
  build_made e (Some k) es' ks' n m p q = build_one e k es' ks' n m p q

-- after the last member all are built
pub building_ended : (a : List ℕ) (layer : ℕ) (all : List NamedMember) (i : ℕ) (es : List (Subtree Entry)) (ks : List (Subtree Mark))
    → length all ≤ i → Building a layer all (drop i all) es ks → AreBuilt a layer all es ks
building_ended a layer all i es ks l w =
    let b : AreBuilt a layer (drop i all) [] [] = rw (drop_all i all l) none_built in
    subst (λ x. AreBuilt a layer all es x) (append-nil ks) (subst (λ x. AreBuilt a layer all x (ks ++ [])) (append-nil es) (w.more [] [] b))

module _ (all : List NamedMember) (i : ℕ) (ks : List (Subtree Mark)) (l : i < length all) (w : Whitening all (drop i all) ks) where
  -- a member that is not a marker adds no mark
  pub white_none : ¬ IsMarker (at_index all i).name → Whitening all (drop (i + 1) all) ks
  white_none h = record { more = λ ks' b. w.more ks' (rw (next all i l) (other (at_index all i) (drop (i + 1) all) ks' h b)) }

  -- a marker adds a cut mark, with the rest of its name after .wh.
  pub white_one : (n : List ℕ) (k : Subtree Mark) (ks' : List (Subtree Mark))
      → (at_index all i).name ≡ marker ++ n → k ≡ record
      { name = n; value = record { cut = true; opaque = false }; below = [] } → ks' ≡ ks ++ k ∷ []
      → Whitening all (drop (i + 1) all) ks'
  white_one n k ks' e f q = record {
    more = λ ks'' c. rw q
        (simp append_assoc (w.more (k ∷ ks'') (rw (next all i l)
        (white (at_index all i) (drop (i + 1) all) k ks''
        (e ∙ ap (λ (x : Subtree Mark). marker ++ x.name) (sym f)) (ap (λ (x : Subtree Mark). x.value.cut) f)
        (ap (λ (x : Subtree Mark). x.below) f) c))));
  }

-- after the last member all markers have marks
pub whitening_ended : (all : List NamedMember) (i : ℕ) (ks : List (Subtree Mark)) → length all ≤ i → Whitening all (drop i all) ks
    → AreWhiteouts all ks
whitening_ended all i ks l w = subst (AreWhiteouts all) (append-nil ks) (w.more [] (rw (drop_all i all l) none_white))

-- a member below a path has one name less left
module _ (a : List ℕ) (s : IsImage a) (left : ℕ) (ms : List NamedMember) (at : AreMembersAt a left ms) (i : ℕ) (l : i < length ms) where
  -- the member at a place of the list is one of the directory
  pub member_here : IsNamedMember a at.0 (at_index ms i)
  member_here = All-from_recursion (IsNamedMember a at.0) ms at.1 i nothing l

  longer : Path
  longer = at.2.0 ++ (at_index ms i).name ∷ []

  has_more : Has a longer (at_index ms i).head.offset
  unfolding longer
  has_more = leads_on a (root a) at.2.0 at.0 (at_index ms i).name (at_index ms i).head.offset at.2.1 member_here.member member_here.name

  long_more : length longer + left ≡ MAX_NAMES + 1
  unfolding longer
  long_more = omega (arith, length-append at.2.0 ((at_index ms i).name ∷ []), at.2.2)

  -- a path to the directory leaves room for one more name
  pub some_left : 1 ≤ left
  some_left = omega (arith, short a s longer (at_index ms i).head.offset has_more, long_more)

  -- a path to the member leaves room for one name less
  pub one_less : IsAtDepth a (at_index ms i).head.offset (left - 1)
  one_less = (longer, has_more, omega (arith, some_left, long_more))

-- names of what is built rise
before_built : (a : List ℕ) (layer : ℕ) {ms : List NamedMember} {es : List (Subtree Entry)} {ks : List (Subtree Mark)}
    → AreBuilt a layer ms es ks → (m : NamedMember) → AllByRecursion (IsBefore m) ms
    → AllByRecursion (λ t. name_cmp m.name t.name ≡ Less) es
    × AllByRecursion (λ t. name_cmp m.name t.name ≡ Less) ks
before_built a layer none_built m r = (tt, tt)
before_built a layer (hidden x ms es ks h b) m r = before_built a layer b m r.1
before_built a layer (alone x ms e es ks n w b) m r = let t = before_built a layer b m r.1 in ((rw w.name r.0, t.0), t.1)
before_built a layer (built x ms e es k ks n w b) m r = let t = before_built a layer b m r.1 in
    ((rw w.entry_name r.0, t.0), (rw w.mark_name r.0, t.1))

built_fewer : (a : List ℕ) (layer : ℕ) {ms : List NamedMember} {es : List (Subtree Entry)} {ks : List (Subtree Mark)}
    → AreBuilt a layer ms es ks → length es ≤ length ms
built_fewer a layer none_built = omega arith
built_fewer a layer (hidden m ms es ks h b) = omega (arith, built_fewer a layer b)
built_fewer a layer (alone m ms e es ks n w b) = omega (arith, built_fewer a layer b)
built_fewer a layer (built m ms e es k ks n w b) = omega (arith, built_fewer a layer b)

-- if all members have branches none is a marker
pub no_markers : (a : List ℕ) (layer : ℕ) {ms : List NamedMember} {es : List (Subtree Entry)} {ks : List (Subtree Mark)}
    → AreBuilt a layer ms es ks → length es ≡ length ms → AreWhiteouts ms []
no_markers a layer none_built l = none_white
no_markers a layer (hidden m ms es ks h b) l = absurd (omega (arith, l, built_fewer a layer b))
no_markers a layer (alone m ms e es ks n w b) l = other m ms [] n (no_markers a layer b (omega (arith, l)))
no_markers a layer (built m ms e es k ks n w b) l = other m ms [] n (no_markers a layer b (omega (arith, l)))

-- of members in the order of names, the entries and the marks are forests
pub forests : (a : List ℕ) (layer : ℕ) {ms : List NamedMember} {es : List (Subtree Entry)} {ks : List (Subtree Mark)}
    → AreBuilt a layer ms es ks → NamedRise ms → IsForest es × IsForest ks
forests a layer none_built r = (record { names = tt; each = tt }, record { names = tt; each = tt })
forests a layer (hidden m ms es ks h b) r = forests a layer b r.1
forests a layer (alone m ms e es ks n w b) r =
    let f = forests a layer b r.1 in
    let t = before_built a layer b m r.0 in
    (record { names = (rw w.name t.0, f.0.names); each = (w.entries.rising, f.0.each) }, f.1)
forests a layer (built m ms e es k ks n w b) r =
    let f = forests a layer b r.1 in
    let t = before_built a layer b m r.0 in (
      record { names = (rw w.entry_name t.0, f.0.names); each = (w.entries.rising, f.0.each) },
      record
          { names = (rw w.mark_name t.1, f.1.names); each = (w.rising, f.1.each) },
    )

marked_before : (x y : List ℕ) → name_cmp (marker ++ x) (marker ++ y) ≡ name_cmp x y
marked_before x y = refl

before_white : {ms : List NamedMember} {ks : List (Subtree Mark)} → AreWhiteouts ms ks → (m : NamedMember) (n : List ℕ)
    → m.name ≡ marker ++ n → AllByRecursion (IsBefore m) ms
    → AllByRecursion (λ t. name_cmp n t.name ≡ Less) ks
before_white none_white m n e r = tt
before_white (other x ms ks h b) m n e r = before_white b m n e r.1
before_white (white x ms k ks f c d b) m n e r = (
  let p : name_cmp (marker ++ n) (marker ++ k.name) ≡ Less = subst
      (λ y. name_cmp y (marker ++ k.name) ≡ Less) e (subst (λ y. name_cmp m.name y ≡ Less) f r.0) in
      p,
  before_white b m n e r.1,
)

-- of markers in the order of names, the marks are a forest
pub white_forest : {ms : List NamedMember} {ks : List (Subtree Mark)} → AreWhiteouts ms ks → NamedRise ms → IsForest ks
white_forest none_white r = record { names = tt; each = tt }
white_forest (other m ms ks h b) r = white_forest b r.1
white_forest (white m ms k ks f c d b) r =
    let w = white_forest b r.1 in
    record { names = (before_white b m k.name f r.0, w.names); each = (leaf_rises k d, w.each) }

-- the branches that the name n has, and its member
pub data FoundBuilt (a : List ℕ) (layer d : ℕ) (n : List ℕ) (ms : List NamedMember) (es : List (Subtree Entry))
    (ks : List (Subtree Mark)) : Type 0
  where
    nowhere : named n es ≡ None → named n ks ≡ None
        → ((j : ℕ) (m : NamedMember) → slice_get ms j ≡ Some m → m.name ≡ n → IsMarker n)
        → FoundBuilt a layer d n ms es ks
    somewhere : (m : NamedMember) (e : Subtree Entry) (k : Option (Subtree Mark)) → named n es ≡ Some e → named n ks ≡ k
        → m.name ≡ n → ¬ IsMarker n → IsNamedMember a d m → IsBranchOf a layer m.head.offset e
        → RemovesFrom a m.head.offset (through k) e → FoundBuilt a layer d n ms es ks

module _ (a : List ℕ) (layer d : ℕ) (n : List ℕ) where
  -- what was found among later members is found among all, if the first has another name
  found_later : (m : NamedMember) (ms : List NamedMember) (es es' : List (Subtree Entry)) (ks ks' : List (Subtree Mark)) → m.name ≢ n
      → named n es' ≡ named n es → named n ks' ≡ named n ks
      → FoundBuilt a layer d n ms es ks → FoundBuilt a layer d n (m ∷ ms) es' ks'
  found_later m ms es es' ks ks' o u v (nowhere f g q) = nowhere (u ∙ f) (v ∙ g) rest
    where
      rest : (j : ℕ) (x : NamedMember) → slice_get (m ∷ ms) j ≡ Some x → x.name ≡ n → IsMarker n
      rest zero x s t = (let z : m ≡ x = cc in absurd (o (ap (λ (y : NamedMember). y.name) z ∙ t)))
      rest (suc j) x s t = q j x s t
  found_later m ms es es' ks ks' o u v (somewhere x y z f g q r s t w) = somewhere x y z (u ∙ f) (v ∙ g) q r s t w

  -- each name has the branches of its member, or none
  pub find_built : {ms : List NamedMember} {es : List (Subtree Entry)} {ks : List (Subtree Mark)}
      → AreBuilt a layer ms es ks → AllByRecursion (IsNamedMember a d) ms → NamedRise ms → FoundBuilt a layer d n ms es ks
  find_built none_built p r = nowhere refl refl (λ j m f g. absurd (cc))
  find_built (hidden m ms es ks h b) p r = more (find_built b p.1 r.1)
    where
      more : FoundBuilt a layer d n ms es ks → FoundBuilt a layer d n (m ∷ ms) es ks
      more (nowhere f g q) = nowhere f g rest
        where
          rest : (j : ℕ) (x : NamedMember) → slice_get (m ∷ ms) j ≡ Some x → x.name ≡ n → IsMarker n
          rest zero x u v = (let z : m ≡ x = cc in subst IsMarker (ap (λ (y : NamedMember). y.name) z ∙ v) h)
          rest (suc j) x u v = q j x u v
      more (somewhere x e k f g q r s t w) = somewhere x e k f g q r s t w
  find_built (alone m ms e es ks h w b) p r = elim (same_or_not m.name n) [
    | inl x ↦ (
        let f : named n (e ∷ es) ≡ Some e = rw (w.name, x.1) refl in
        let g : named n ks ≡ None = named_below n ks (subst (λ y. AllByRecursion (λ t. name_cmp y t.name ≡ Less) ks) x.0
        (before_built a layer b m r.0).1) in
        somewhere m e None f g x.0 (subst (λ y. ¬ IsMarker y) x.0 h) p.0 w.entries w.exact)
    | inr x ↦ found_later m ms es (e ∷ es) ks ks x.0 (let f : named n (e ∷ es) ≡ named n es = rw (w.name, x.1) refl in f) refl
        (find_built b p.1 r.1)
  ]
  find_built (built m ms e es k ks h w b) p r = elim (same_or_not m.name n) [
    | inl x ↦ (
        let f : named n (e ∷ es) ≡ Some e = rw (w.entry_name, x.1) refl in
        let g : named n (k ∷ ks) ≡ Some k = rw (w.mark_name, x.1) refl in
        somewhere m e (Some k) f g x.0 (subst (λ y. ¬ IsMarker y) x.0 h) p.0 w.entries w.exact)
    | inr x ↦ found_later m ms es (e ∷ es) ks (k ∷ ks) x.0 (let f : named n (e ∷ es) ≡ named n es = rw (w.entry_name, x.1) refl in f)
        (let g : named n (k ∷ ks) ≡ named n ks = rw (w.mark_name, x.1) refl in g) (find_built b p.1 r.1)
  ]

-- a mark with the name n, and the marker that it comes from
pub data FoundWhite (n : List ℕ) (ms : List NamedMember) (ks : List (Subtree Mark)) : Type 0 where
  unmarked : named n ks ≡ None → ((j : ℕ) (m : NamedMember) → slice_get ms j ≡ Some m → m.name ≡ marker ++ n → ⊥) → FoundWhite n ms ks
  marked : (j : ℕ) (m : NamedMember) (k : Subtree Mark) → named n ks ≡ Some k → k.value.cut ≡ true
      → slice_get ms j ≡ Some m → m.name ≡ marker ++ n → FoundWhite n ms ks

marker_is : (n : List ℕ) → IsMarker (marker ++ n)
marker_is n = refl

same_rest : (x y : List ℕ) → marker ++ x ≡ marker ++ y → x ≡ y
same_rest x y e = ap (drop 4) e

-- a name has a cut mark and a marker, or neither
pub find_white : (n : List ℕ) {ms : List NamedMember} {ks : List (Subtree Mark)} → AreWhiteouts ms ks → FoundWhite n ms ks
find_white n none_white = unmarked refl (λ j m f g. absurd (cc))
find_white n (other m ms ks h b) = more (find_white n b)
  where
    more : FoundWhite n ms ks → FoundWhite n (m ∷ ms) ks
    more (unmarked f q) = unmarked f rest
      where
        rest : (j : ℕ) (x : NamedMember) → slice_get (m ∷ ms) j ≡ Some x → x.name ≡ marker ++ n → ⊥
        rest zero x u v = (let z : m ≡ x = cc in h (subst IsMarker (sym (ap (λ (y : NamedMember). y.name) z ∙ v)) (marker_is n)))
        rest (suc j) x u v = q j x u v
    more (marked j x k f c u v) = marked (suc j) x k f c u v
find_white n (white m ms k ks e c d b) = more (find_white n b)
  where
    more : FoundWhite n ms ks → FoundWhite n (m ∷ ms) (k ∷ ks)
    more found = elim (same_or_not k.name n) [
      | inl x ↦ (let f : named n (k ∷ ks) ≡ Some k = rw x.1 refl in marked zero m k f c refl (e ∙ ap (λ y. marker ++ y) x.0))
      | inr x ↦ later x.0 (let f : named n (k ∷ ks) ≡ named n ks = rw x.1 refl in f) found
    ]
      where
        later : k.name ≢ n → named n (k ∷ ks) ≡ named n ks → FoundWhite n ms ks → FoundWhite n (m ∷ ms) (k ∷ ks)
        later o u (unmarked f q) = unmarked (u ∙ f) rest
          where
            rest : (j : ℕ) (x : NamedMember) → slice_get (m ∷ ms) j ≡ Some x → x.name ≡ marker ++ n → ⊥
            rest zero x s t = (let z : m ≡ x = cc in o (same_rest k.name n (sym e ∙ ap (λ (y : NamedMember). y.name) z ∙ t)))
            rest (suc j) x s t = q j x s t
        later o u (marked j x y f g s t) = marked (suc j) x y (u ∙ f) g s t
