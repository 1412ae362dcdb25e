-- Members in the order of their keys, and by name if these are equal, are in the order of their names (by_name): after a front that all
-- names share, keys do not fall as names rise. Keys that are made after such a front leave the members the same (told_apart).
use Rattle.std.proofs.Common.{◌≡◌, ◌∙◌, sym, ap, subst, ℕ, ◌+◌, ◌<◌, ◌≤◌, ◌⊎◌, inl, inr, List, [], ◌∷◌, ◌++◌, append_assoc, length, length-append, map, take, drop, refl, arith, All, Bool, false}
use Rattle.std.specs.Prelude.{slice_set, ◌==◌}
use Rattle.std.specs.List.{slice_index_or}
use Rattle.std.specs.List.Sorted.{IsSorted}
use Rattle.std.specs.Ordering.{nat_cmp, is_lt}
use Rattle.std.specs.declared.cmp.Ordering.{Ordering}
use Rattle.std.specs.declared.cmp.Ordering.TheVariants.{Less, Equal, Greater}
use Rattle.std.proofs.lemmas.Cmp.{ranked, by_ranked}
use Rattle.std.proofs.lemmas.List.{append-nil, drop_more, get_or_at, get_or_default, get_or-map, length-map, length-take, take-append-drop}
use Rattle.std.proofs.lemmas.List.Edits.{map_over_more}
use Rattle.std.proofs.lemmas.List.Elements.{All-map, All-push}
use Rattle.std.proofs.lemmas.List.Prefix.{front_rest}
use Rattle.romfs_format.specs.Heads.{name_of}
use Rattle.layer_names.specs.Keys.{key, AreBytes}
use Rattle.layer_names.proofs.Order.{all_bytes, each_byte, bytes-drop, key_order, cmp-front}
use Rattle.layer_paths.specs.Rows.{name_cmp}
use Rattle.layer_tree.specs.declared.members.KeyedMember.{KeyedMember}
use Rattle.layer_tree.specs.Members.{member_in, members_in, HasFront, HaveFront, ShareFront, IsRead, IsKeyed, AreKeyedBehind, AreToldApart, keyed_past, key_and_name, IsByName}

module _ (a : List ℕ) where
  -- if names rise keys do not fall
  less_by_both : (front : List ℕ) (x y : KeyedMember) → IsKeyed a front x → IsKeyed a front y
      → name_cmp (name_of a x.offset) (name_of a y.offset) ≡ Less
      → name_cmp (x.key ∷ name_of a x.offset) (y.key ∷ name_of a y.offset) ≡ Less
  less_by_both front x y p q c =
      let whole : name_cmp (front ++ p.rest) (front ++ q.rest) ≡ Less = rw (p.name, q.name) at c in
      let rests : name_cmp p.rest q.rest ≡ Less = sym (cmp-front front p.rest q.rest) ∙ whole in
      let le : key 8 p.rest ≤ key 8 q.rest = key_order 8 p.rest q.rest (each_byte p.rest p.bytes) rests in
      let keys : x.key ≤ y.key = rw (p.key, q.key) le in
      by_ranked (x.key < y.key) (x.key ≡ y.key) (y.key < x.key) (nat_cmp x.key y.key) (ranked x.key y.key (nat_cmp x.key y.key) refl)
      (λ o l. rw o refl)
      (λ o e. rw o c)
      (λ o l. absurd (omega arith))

  not_less : (front : List ℕ) (x y : KeyedMember) → IsKeyed a front x → IsKeyed a front y
      → is_lt (name_cmp (x.key ∷ name_of a x.offset) (y.key ∷ name_of a y.offset)) ≡ false
      → is_lt (name_cmp (name_of a x.offset) (name_of a y.offset)) ≡ false
  not_less front x y p q f = pick (name_cmp (name_of a x.offset) (name_of a y.offset)) refl
    where
      pick : (o : Ordering) → o ≡ name_cmp (name_of a x.offset) (name_of a y.offset) → is_lt o ≡ false
      pick Less e = let t : name_cmp (x.key ∷ name_of a x.offset) (y.key ∷ name_of a y.offset) ≡ Less = less_by_both front x y p q
          (sym e) in let u : is_lt Less ≡ false = rw t at f in u
      pick Equal e = refl
      pick Greater e = refl

  -- members that are sorted by keys, and then by their names, are sorted by names
  pub by_name : (ms : List KeyedMember) → AreKeyedBehind a ms
      → IsSorted (λ x y. name_cmp (key_and_name a x) (key_and_name a y)) ms → IsByName (members_in a ms)
  by_name ms keyed up k d l m =
      let x : KeyedMember = record { key = 0; offset = 0; name_len = 0 } in
      let n : k + 1 < length ms = rw (length-map ms (member_in a)) at m in
      rw (get_or-map (member_in a) ms (k + 1) x d n, get_or-map (member_in a) ms k x d (omega arith))
      (not_less keyed.front (slice_index_or ms (k + 1) x) (slice_index_or ms k x) (keyed.each (k + 1) x n) (keyed.each k x (omega arith))
      (up k x l n))

-- lists whose first bytes are the same both begin with these
pub begins_both : (n : ℕ) (x y : List ℕ) → take n x ≡ take n y → HasFront (take n x) y
begins_both n x y e = record {
  rest = drop n y;
  is = sym (take-append-drop n y) ∙ ap (λ front. front ++ drop n y) (sym e);
}

-- a name begins with itself
pub begins_itself : (n : List ℕ) → HasFront n n
begins_itself n = record { rest = []; is = sym (append-nil n) }

-- what begins with a list begins with what that begins with
pub begins_less : (less front name : List ℕ) → HasFront less front → HasFront front name → HasFront less name
begins_less less front name p q = record {
  rest = p.rest ++ q.rest;
  is = q.is ∙ ap (λ xs. xs ++ q.rest) p.is ∙ append_assoc less p.rest q.rest;
}

-- either there was no member before the name, or the new front begins the old one
pub first_or_more : (old new : List ℕ) (ms : List KeyedMember) (none : Bool) → none ≡ (length ms == 0) → (none ≡ false → HasFront new old)
    → (ms ≡ []) ⊎ HasFront new old
first_or_more old new [] none e f = inl refl
first_or_more old new (m ∷ ms) none e f = inr (f (e ∙ (grind arith)))

-- a front of the earlier common front and of one more name is common to all
pub one_front : (a old new : List ℕ) (ms : List KeyedMember) (x : KeyedMember) → HaveFront a old ms → (ms ≡ []) ⊎ HasFront new old
    → HasFront new (name_of a x.offset) → HaveFront a new (ms ++ x ∷ [])
one_front a old new ms x p (inl e) q = rw e
    (All-push (λ (m : KeyedMember). HasFront new (name_of a m.offset)) [] x (λ k d l. absurd (omega arith)) q)
one_front a old new ms x p (inr f) q = All-push (λ (m : KeyedMember). HasFront new (name_of a m.offset)) ms x
    (λ k d l. begins_less new old (name_of a (slice_index_or ms k d).offset) f (p k d l)) q

-- names are as long as what all of them share
pub as_long : (a : List ℕ) (n : ℕ) (ms : List KeyedMember) → ShareFront a n ms → All (λ m. n ≤ length (name_of a m.offset)) ms
as_long a n ms s k d l =
    let f = s.each k d l in
    omega (arith, s.is, ap length f.is, length-append s.front f.rest)

-- the key after a front with which a name begins
keyed_behind : (a front : List ℕ) (m : KeyedMember) → IsKeyed a [] m → HasFront front (name_of a m.offset)
    → IsKeyed a front (keyed_past a (length front) m)
keyed_behind a front m p b =
    let name = name_of a m.offset in
    let rest = front_rest name front b.rest b.is in
    let bytes : AreBytes name = subst AreBytes (sym p.name) p.bytes in
    record {
      rest = b.rest;
      name = b.is;
      key = ap (key 8) rest;
      bytes = subst AreBytes rest (all_bytes (drop (length front) name) (bytes-drop (length front) name (each_byte name bytes)));
    }

-- one more key, as in the code
pub one_keyed : (a : List ℕ) (n : ℕ) (old now : List KeyedMember) (i k : ℕ) (d : KeyedMember) → i < length old → i < length now
    → now ≡ map (keyed_past a n) (take i old) ++ drop i old → k ≡ key 8 (drop n (name_of a (slice_index_or now i d).offset))
    → slice_set now i (record { key = k; offset = (slice_index_or now i d).offset; name_len = (slice_index_or now i d).name_len })
    ≡ map (keyed_past a n) (take (i + 1) old) ++ drop (i + 1) old
one_keyed a n old now i k d l m e v =
    let x = slice_index_or now i d in
    let with_key : ℕ → KeyedMember = λ key. record { key = key; offset = x.offset; name_len = x.name_len } in
    ap (λ key. slice_set now i (with_key key)) v ∙ map_over_more (keyed_past a n) old now i x l e (get_or_default now i d x m)

-- a member whose key is not made anew yet is unchanged
pub not_yet : (a : List ℕ) (n : ℕ) (old now : List KeyedMember) (i : ℕ) (d : KeyedMember) → i < length old
    → now ≡ map (keyed_past a n) (take i old) ++ drop i old → slice_index_or now i d ≡ slice_index_or old i d
not_yet a n old now i d l e =
    let front = map (keyed_past a n) (take i old) in
    let long : length front ≡ i = length-map (take i old) (keyed_past a n) ∙ omega (arith, length-take i old) in
    let parts : now ≡ front ++ slice_index_or old i d ∷ drop (i + 1) old = e ∙ ap (λ xs. front ++ xs) (drop_more old i d l) in
    ap (λ xs. slice_index_or xs i d) parts ∙ get_or_at front _ _ d i long

-- so it is still read, and its name is still as long as what all share
module _ (a : List ℕ) (n : ℕ) (old now : List KeyedMember) (i : ℕ) (d : KeyedMember) (l : i < length old)
    (e : now ≡ map (keyed_past a n) (take i old) ++ drop i old) where
  pub still_read : All (IsRead a) old → IsRead a (slice_index_or now i d)
  still_read r = subst (IsRead a) (sym (not_yet a n old now i d l e)) (r i d l)

  pub still_long : All (λ m. n ≤ length (name_of a m.offset)) old → n ≤ length (name_of a (slice_index_or now i d).offset)
  still_long r = subst (λ (m : KeyedMember). n ≤ length (name_of a m.offset)) (sym (not_yet a n old now i d l e)) (r i d l)

same_members : (a : List ℕ) (n : ℕ) (ms : List KeyedMember) → members_in a (map (keyed_past a n) ms) ≡ members_in a ms
same_members a n [] = refl
same_members a n (m ∷ ms) = ap (λ xs. member_in a m ∷ xs) (same_members a n ms)

-- keys of full names are keys after the empty front
pub whole_keys : (a : List ℕ) (ms : List KeyedMember) → All (IsRead a) ms → All (IsKeyed a []) ms → AreToldApart a ms ms
whole_keys a ms r p = record { read = r; keyed = record { front = []; each = p }; same = refl }

-- keys after a front that all names share are keys of the same members
pub told_apart : (a : List ℕ) (n : ℕ) (ms : List KeyedMember) → All (IsRead a) ms → All (IsKeyed a []) ms → ShareFront a n ms
    → AreToldApart a ms (map (keyed_past a n) ms)
told_apart a n ms r p s = rw s.is (record {
  read = All-map (IsRead a) (keyed_past a (length s.front)) ms
      (λ k d l. record { given = (r k d l).given; length = (r k d l).length });
  keyed = record {
    front = s.front;
    each = All-map (IsKeyed a s.front) (keyed_past a (length s.front)) ms
        (λ k d l. keyed_behind a s.front (slice_index_or ms k d) (p k d l) (s.each k d l));
  };
  same = same_members a (length s.front) ms;
})
