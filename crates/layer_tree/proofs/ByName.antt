-- The members of a directory differ in their names, and sorting puts them in the order of these. The main lemma is are_by_name, about all
-- members of a directory: each has a name (has_name), no two have the same (names_differ), and sorting loses none (of_head).
use Rattle.std.proofs.Common.{◌≡◌, ◌≢◌, ◌∙◌, sym, ap, subst, ℕ, zero, suc, ◌<◌, inl, inr, true, false, not, List, [], ◌∷◌, ◌++◌, append_assoc, length, take, drop, map, refl, arith, All, Some, None, Option, IsSome}
use Rattle.std.specs.Prelude.{nat_eq, slice_get, unwrap_or}
use Rattle.std.specs.Cmp.Lexicographic.{same_text}
use Rattle.std.specs.List.{AllPairs, filter, slice_index_or, starts_with}
use Rattle.std.specs.List.Sorted.{IsPermutation}
use Rattle.std.specs.Ordering.{is_lt, is_eq, ordering_reverse}
use Rattle.std.specs.Str.{bytes_eq}
use Rattle.std.specs.declared.cmp.Ordering.{Ordering}
use Rattle.std.specs.declared.cmp.Ordering.TheVariants.{Less, Equal, Greater}
use Rattle.std.proofs.lemmas.Bool.{cases_order}
use Rattle.std.proofs.lemmas.Bool.Decides.{same_from_decides}
use Rattle.std.proofs.lemmas.Cmp.{nat_list_cmp_total}
use Rattle.std.proofs.lemmas.List.{get_or-map, length-map, map-append, take-append-drop}
use Rattle.std.proofs.lemmas.List.Elements.{recursion_from_All, All-map}
use Rattle.std.proofs.lemmas.List.Kept.{AllPairs-filter}
use Rattle.std.proofs.lemmas.List.Sorted.{ranks_by, sorted_far, IsPermutation-map, All-permutation, Contains-permutation}
use Rattle.std.proofs.lemmas.Map.Keys.{IsDistinct-IsPermutation}
use Rattle.std.proofs.lemmas.Map.Made.{AllPairs-from_IsDistinct, IsDistinct-from_AllPairs}
use Rattle.std.proofs.lemmas.Map.Text.{is_eq-slice_cmp}
use Rattle.std.proofs.lemmas.Option.{slice_get-get_or, slice_get_read}
use Rattle.std.proofs.lemmas.Slice.Eq.{bytes_eq-Decides}
use Rattle.romfs_format.specs.declared.head.Head.{Head}
use Rattle.romfs_format.specs.Fields.{root, name}
use Rattle.romfs_format.specs.Chains.{IsAt, IsOpened, IsMember}
use Rattle.romfs_format.specs.Heads.{name_of, head_of}
use Rattle.romfs_reader.specs.Images.{IsImage}
use Rattle.romfs_reader.specs.Readers.{IsGiven, IsListed, AreMembers, passes_over}
use Rattle.romfs_reader.proofs.Keeps.{good, not_twice, member_reached, reached_named}
use Rattle.romfs_reader.proofs.Paths.{one_header}
use Rattle.stack_model.specs.Stack.{marker}
use Rattle.layer_paths.specs.Rows.{name_cmp}
use Rattle.layer_paths.proofs.Lists.{get_of_map}
use Rattle.layer_tree.specs.declared.members.KeyedMember.{KeyedMember}
use Rattle.layer_tree.specs.Members.{NamedMember, member_in, members_in, IsByName}
use Rattle.layer_tree.specs.Reading.{IsBefore, NamedRise, IsNamedMember, AreByName}

-- a member moves from those that are left to those that have a key
pub found_one : (a : List ℕ) (ms after : List KeyedMember) (x : KeyedMember) (head : Head) (left rest all : List Head)
    → left ≡ head ∷ rest → after ≡ ms ++ x ∷ [] → head ≡ head_of a x.offset
    → map (λ m. head_of a m.offset) ms ++ left ≡ all → map (λ m. head_of a m.offset) after ++ rest ≡ all
found_one a ms after x head left rest all l e h d =
    let t : map (λ m. head_of a m.offset) ms ++ (head_of a x.offset ∷ rest) ≡ all = rw (l, h) at d in
    rw e (simp (map-append, append_assoc) t)

-- the headers of members
heads_in : (a : List ℕ) (ms : List KeyedMember) → map (λ m. m.head) (members_in a ms) ≡ map (λ m. head_of a m.offset) ms
heads_in a [] = refl
heads_in a (m ∷ ms) = ap (λ xs. head_of a m.offset ∷ xs) (heads_in a ms)

names_in : (a : List ℕ) (ms : List KeyedMember) → All (λ m. m.name ≡ name_of a m.head.offset) (members_in a ms)
names_in a ms = All-map (λ (m : NamedMember). m.name ≡ name_of a m.head.offset) (member_in a) ms (λ k d l. refl)

flips : (x y : List ℕ) → bytes_eq x y ≡ bytes_eq y x
flips x y =
    let d = bytes_eq-Decides x y in
    let e = bytes_eq-Decides y x in
    same_from_decides (bytes_eq x y) (bytes_eq y x) d ((λ q. sym (e.0 q)), (λ q. e.1 (sym q)))

module _ {X : Type 0} (v : X → List ℕ) where
  to_names : (xs : List X) → AllPairs (λ x y. v x ≢ v y) xs → AllPairs (λ x y. x ≢ y) (map v xs)
  to_names [] p i j d l m = absurd (omega arith)
  to_names (x ∷ xs) p i j d l m =
      let n : j < length (x ∷ xs) = rw (← length-map (x ∷ xs) v) m in
      rw (get_or-map v (x ∷ xs) i x d (omega arith), get_or-map v (x ∷ xs) j x d n) (p i j x l n)

  from_names : (xs : List X) → AllPairs (λ x y. x ≢ y) (map v xs) → AllPairs (λ x y. v x ≢ v y) xs
  from_names xs p i j d l m =
      let n : j < length (map v xs) = rw (length-map xs v) m in
      let q = p i j (v d) l n in
      rw (← get_or-map v xs i d (v d) (omega arith), ← get_or-map v xs j d (v d) m) q

-- names that differ do so in any order
moved : (xs ys : List (List ℕ)) → IsPermutation xs ys → AllPairs (λ x y. x ≢ y) xs → AllPairs (λ x y. x ≢ y) ys
moved xs ys m p = AllPairs-from_IsDistinct bytes_eq-Decides ys
    (IsDistinct-IsPermutation bytes_eq flips xs ys m (IsDistinct-from_AllPairs bytes_eq-Decides xs p))

less_from : (o q : Ordering) → o ≡ ordering_reverse q → is_lt q ≡ false → (is_eq o ≡ true → ⊥) → o ≡ Less
less_from Less q e l n = refl
less_from Equal q e l n = absurd (n refl)
less_from Greater Less e l n = absurd (cc)
less_from Greater Equal e l n = absurd (cc)
less_from Greater Greater e l n = absurd (cc)

-- a name that does not come after another one comes before it, or is it
comes_first : (x y : List ℕ) → is_lt (name_cmp y x) ≡ false → x ≢ y → name_cmp x y ≡ Less
comes_first x y l n =
    less_from (name_cmp x y) (name_cmp y x) (nat_list_cmp_total.antisymm x y) l
    (λ e. n ((bytes_eq-Decides x y).0 (sym (is_eq-slice_cmp x y) ∙ e)))

is_name : (o : Option (List ℕ)) → IsSome o → o ≡ Some (unwrap_or o [])
is_name None s = absurd (cc)
is_name (Some n) s = refl

abbrev name_in : NamedMember → List ℕ
name_in m = m.name

strictly : (ms : List NamedMember) → IsByName ms → AllPairs (λ x y. name_in x ≢ name_in y) ms → AllPairs IsBefore ms
strictly ms up apart j k d l m =
    comes_first _ _ (sorted_far (λ x y. is_lt (name_cmp (name_in x) (name_in y)))
    (ranks_by nat_list_cmp_total name_in) ms up j k d (omega arith) m) (apart j k d l m)

rising_in : (ms : List NamedMember) → AllPairs IsBefore ms → NamedRise ms
rising_in [] p = tt
rising_in (m ∷ ms) p = (
  recursion_from_All (IsBefore m) ms (λ k d l. p zero (suc k) d (omega arith) (omega arith)),
  rising_in ms (λ i j d l n. p (suc i) (suc j) d (omega arith) (omega arith)),
)

-- a header among those of members is that of one of them
pub of_head : (ms : List NamedMember) (head : Head) (k : ℕ) → k < length (map (λ m. m.head) ms)
    → slice_index_or (map (λ m. m.head) ms) k head ≡ head
    → (m : NamedMember) × (slice_get ms k ≡ Some m) × (m.head ≡ head)
of_head ms head k l e = get_of_map (λ m. m.head) ms k head (slice_get_read (map (λ m. m.head) ms) _ k head refl l (sym e))

module _ (a : List ℕ) (i : IsImage a) (d : ℕ) (o : IsOpened a d) where
  -- a member is not the root
  not_root : (h : ℕ) → IsMember a d h → h ≢ root a
  not_root h m e = elim (cases_order d (root a)) [
    | inl f ↦ m.kept (inl (f, e))
    | inr (inl l) ↦ not_twice a i h (inr (
      e,
      (
        d,
        (λ f. (let x : d ≡ root a = f in omega arith)),
        record { opened = m.opened; in_chain = m.in_chain },
      ),
    ))
    | inr (inr l) ↦ not_twice a i h (inr (
      e,
      (
        d,
        (λ f. (let x : d ≡ root a = f in omega arith)),
        record { opened = m.opened; in_chain = m.in_chain },
      ),
    ))
  ]

  -- a member has a name, and it is the one that is read
  pub has_name : (h : ℕ) → IsMember a d h → name a h ≡ Some (name_of a h)
  has_name h m = is_name (name a h) (reached_named a i h (member_reached a i h (d, m)) (not_root h m))

  -- two members of one directory have different names
  pub names_differ : (g h : ℕ) → IsMember a d g → IsMember a d h → g ≢ h → name_of a g ≢ name_of a h
  names_differ g h m n f e = f (one_header a i (name_of a g ∷ []) d g h (g, m, has_name g m, refl) (
    h,
    n,
    has_name h n ∙ ap Some (sym e),
    refl,
  ))

  listed_once : (hs : List ℕ) → IsListed a d hs → AllPairs (λ x y. x ≢ y) hs
  listed_once hs l j k x s m e =
      let p : IsAt a d j (slice_index_or hs j x) = (l.each j _).0 (slice_get-get_or hs j x (omega arith)) in
      let q : IsAt a d k (slice_index_or hs k x) = (l.each k _).0 (slice_get-get_or hs k x m) in
      let r : j ≡ k = (good a i d o).once j k (slice_index_or hs j x) p (subst (λ h. IsAt a d k h) (sym e) q) in
      omega arith

  heads_differ : (ks : List ℕ) → AllPairs (λ x y. x ≢ y) ks → AllPairs (λ (x y : Head). x.offset ≢ y.offset) (map (head_of a) ks)
  heads_differ ks p j k x l m =
      let n : k < length ks = rw (← length-map ks (head_of a)) m in
      rw (get_or-map (head_of a) ks j 0 x (omega arith), get_or-map (head_of a) ks k 0 x n) (p j k 0 l n)

  members_differ : (hs : List Head) → AreMembers a d hs → AllPairs (λ (x y : Head). name_of a x.offset ≢ name_of a y.offset) hs
  members_differ hs r j k x l m =
      let keep = λ (h : ℕ). not (passes_over a d h) in
      let p = heads_differ (filter keep r.listed.0) (AllPairs-filter (λ x y. x ≢ y) keep r.listed.0 (listed_once r.listed.0 r.listed.1)) in
      let q : AllPairs (λ (x y : Head). x.offset ≢ y.offset) hs = rw (r.listed.2) p in
      names_differ _ _ (r.members j x (omega arith)) (r.members k x m) (q j k x l m)

  -- names of named members
  same_names : (ms : List NamedMember) → All (λ m. name_in m ≡ name_of a m.head.offset) ms
      → map name_in ms ≡ map (λ (x : Head). name_of a x.offset) (map (λ m. m.head) ms)
  same_names [] p = refl
  same_names (m ∷ ms) p = rw (p zero m (omega arith), same_names ms (λ k x l. p (suc k) x (omega arith))) refl

  named_member : (hs : List Head) (ms : List NamedMember) → All (IsGiven a) hs
      → All (λ (x : Head). IsMember a d x.offset) hs → map (λ m. m.head) ms ≡ hs
      → All (λ m. name_in m ≡ name_of a m.head.offset) ms → All (IsNamedMember a d) ms
  named_member hs ms given members e names k x l =
      let n : k < length (map (λ (m : NamedMember). m.head) ms) = rw (length-map ms (λ (m : NamedMember). m.head)) l in
      let at : slice_index_or hs k x.head ≡ (slice_index_or ms k x).head = ap
      (λ ys. slice_index_or ys k x.head) (sym e) ∙ get_or-map (λ (m : NamedMember). m.head) ms k x x.head l in
      let q : k < length hs = subst (λ ys. k < length ys) e n in
      let m : IsMember a d (slice_index_or ms k x).head.offset = subst (λ (y : Head). IsMember a d y.offset) at (members k x.head q) in
      record {
        given = subst (λ y. IsGiven a y) at (given k x.head q);
        member = m;
        name = has_name (slice_index_or ms k x).head.offset m ∙ ap Some (sym (names k x l));
      }

  -- the members of a directory, sorted, are all members in the order of names
  pub are_by_name : (hs : List Head) (keyed : List KeyedMember) (ms : List NamedMember) → All (IsGiven a) hs → AreMembers a d hs
      → map (λ m. head_of a m.offset) keyed ≡ hs → IsPermutation (members_in a keyed) ms → IsByName ms → AreByName a d ms
  are_by_name hs keyed ms given r h s up =
      let found = members_in a keyed in
      let heads : map (λ (m : NamedMember). m.head) found ≡ hs = heads_in a keyed ∙ h in
      let names : All (λ (m : NamedMember). m.name ≡ name_of a m.head.offset) found = names_in a keyed in
      let each : All (IsNamedMember a d) found = named_member hs found given r.members heads names in
      let differ : AllPairs (λ x y. x ≢ y) (map name_in found) = rw (same_names found names, heads)
      (to_names (λ (x : Head). name_of a x.offset) hs (members_differ hs r)) in
      let apart : AllPairs (λ x y. x ≢ y) (map name_in ms) = moved (map name_in found) (map name_in ms)
      (IsPermutation-map name_in found ms s) differ in
      record {
        rising = rising_in ms (strictly ms up (from_names name_in ms apart));
        each = recursion_from_All (IsNamedMember a d) ms (All-permutation (IsNamedMember a d) found ms s each);
        whole = λ h m. (
            let w = r.whole h m in
            let p : IsPermutation hs (map (λ (x : NamedMember). x.head) ms) =
            rw (← heads) (IsPermutation-map (λ (x : NamedMember). x.head) found ms s) in
            let c = Contains-permutation hs (map (λ (x : NamedMember). x.head) ms) (head_of a h) p w in
            let k = of_head ms (head_of a h) c.0 c.1 c.2 in
            (c.0, k.0, k.1, ap (λ (x : Head). x.offset) k.2));
      }

-- a marker's name is .wh. and what is after its first four bytes
pub marker_rest : (n : List ℕ) → starts_with nat_eq n marker ≡ true → n ≡ marker ++ drop 4 n
marker_rest n e = sym (take-append-drop 4 n) ∙ ap (λ p. p ++ drop 4 n) (sym (same_text marker (take 4 n) (sym e)))
