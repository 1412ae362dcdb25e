-- The places of the names and data of given headers, and the members of a given directory: what the readers of `parts` read is what the
-- definitions say. Names and data are in the image, as the rules require; members are those of the chain from the first header on
-- (`chain_members`).
use Rattle.std.proofs.Common.{◌≡◌, ◌≢◌, ◌∙◌, sym, ap, subst, ℕ, zero, suc, ◌+◌, ◌<◌, ◌≤◌, ◌⊎◌, inl, inr, List, [], length, Option, Some, None, arith, refl, IsSome, IsNone, IsSomeAnd, MatchOption, All}
use Rattle.std.specs.Prelude.{unwrap_or}
use Rattle.std.specs.Option.{option_map_or}
use Rattle.std.proofs.lemmas.Bool.{cases_order}
use Rattle.romfs_format.specs.declared.head.Kind.{Kind}
use Rattle.romfs_format.specs.declared.head.Kind.TheVariants.{HardLink, Directory, Regular, SymLink, Block, Character, Socket, Fifo}
use Rattle.romfs_format.specs.declared.head.Head.{Head}
use Rattle.romfs_format.specs.Fields.{root, kind, name, size, data_at, cleared, spec, padded}
use Rattle.romfs_format.specs.Chains.{IsOpened}
use Rattle.romfs_format.specs.Rules.{HasData}
use Rattle.romfs_reader.specs.Images.{IsImage}
use Rattle.romfs_format.specs.Heads.{name_of, head_of, IsHeadIn}
use Rattle.romfs_reader.specs.Readers.{bytes_at, data_of_header, data_of_kind, data_start_of, IsPlace, IsGiven, AreMembers}
use Rattle.romfs_reader.specs.Walks.{places, chain_from, members_from, IsWalk, EndsWithin}
use Rattle.romfs_reader.proofs.Keeps.{root_directory, not_data_outside, good}
use Rattle.romfs_reader.proofs.Given.{From, from_inside, from_named, from_aligned, from_opened, used}
use Rattle.romfs_held.proofs.NameBytes.{name_taken, name_within}
use Rattle.romfs_reader.proofs.Chain.{IsStart, ends, listed}
use Rattle.romfs_reader.proofs.Listing.{are_members, are_given}

root_or : (a : List ℕ) (i : IsImage a) (h : ℕ) → From a h → IsSome (name a h) ⊎ ((h ≡ root a) × IsNone (name a h))
root_or a i h f = test (name a h) refl
  where
    test : (o : Option (List ℕ)) → o ≡ name a h → IsSome o ⊎ ((h ≡ root a) × IsNone o)
    test (Some n) e = inl refl
    test None e = elim (cases_order h (root a)) [
      | inl q ↦ inr (q, refl)
      | inr (inl l) ↦ absurd (let s : IsSome (name a h) = from_named a i h f (λ q. omega arith) in let t = rw (← e) at s in cc)
      | inr (inr l) ↦ absurd (let s : IsSome (name a h) = from_named a i h f (λ q. omega arith) in let t = rw (← e) at s in cc)
    ]

-- the header found at the offset of a given one is that one, but for a root whose name is not ended
pub given_place : (a : List ℕ) (i : IsImage a) (r : Option Head) (h : ℕ)
    → MatchOption r (¬ IsPlace a h) (λ head. IsPlace a h × (head ≡ head_of a h)) → (g : Head) → IsGiven a g
    → g.offset ≡ h → (r ≡ Some g) ⊎ ((h ≡ root a) × IsNone (name a h))
given_place a i r h m g y e =
    let f : From a h = subst (λ x. From a x) e y.from in
    let q : g ≡ head_of a h = subst (λ x. g ≡ head_of a x) e y.is in
    elim (root_or a i h f) [
      | inr o ↦ inr o
      | inl s ↦ inl (found r m q ((let t = from_aligned a i h f in omega arith), (from_inside a i h f, s)))
    ]
  where
    found : (r : Option Head) → MatchOption r (¬ IsPlace a h) (λ head. IsPlace a h × (head ≡ head_of a h)) → g ≡ head_of a h → IsPlace a h
        → r ≡ Some g
    found None m q p = absurd (m p)
    found (Some x) m q p = ap Some (m.1 ∙ sym q)

-- a name is the bytes after its header, as many as it has
pub name_bytes : (a : List ℕ) (h : ℕ) → bytes_at a (h + 16) (length (name_of a h)) ≡ name_of a h
unfolding bytes_at
name_bytes a h = name_taken a h

-- a header that is given has the fields at its offset, and lies in the image
pub given_head : (a : List ℕ) (i : IsImage a) (head : Head) → IsGiven a head → IsHeadIn a head
given_head a i head g = record { is = g.is; inside = from_inside a i head.offset g.from }

-- the name of a header lies in the image, where its fields say
pub given_name : (a : List ℕ) (head : Head) → IsHeadIn a head
    → (head.name_at + head.name_len ≤ length a)
    × (bytes_at a head.name_at head.name_len ≡ name_of a head.offset)
given_name a head g =
    let e : head_of a head.offset ≡ head = sym g.is in (
      subst (λ x. x.name_at + x.name_len ≤ length a) e (name_within a head.offset g.inside.1),
      subst (λ x. bytes_at a x.name_at x.name_len ≡ name_of a head.offset) e (name_bytes a head.offset),
    )

-- the data of a header that is given
inside_data : (a : List ℕ) (i : IsImage a) (h : ℕ) → From a h → HasData a h → data_at h (name_of a h) + size a h ≤ length a
inside_data a i h f d = elim (used a i h f) [
  | inl e ↦ absurd (let k : kind a h ≡ Directory = subst (λ x. kind a x ≡ Directory) (sym e) (root_directory a i) in
      elim d [ inl q ↦ cc | inr q ↦ cc ])
  | inr u ↦ elim (cases_order (length a) (data_at h (name_of a h) + size a h)) [
    | inl e ↦ omega arith
    | inr (inl l) ↦ absurd (not_data_outside a i h ((from_inside a i h f, u), d, named (name a h) refl l))
    | inr (inr l) ↦ omega arith
  ]
]
  where
    named : (o : Option (List ℕ)) → o ≡ name a h → length a < data_at h (unwrap_or o []) + size a h
        → IsSomeAnd o (λ n. length a < data_at h n + size a h)
    named (Some n) e l = l
    named None e l = absurd (
        let n : h ≢ root a = (λ q. let k : kind a h ≡ Directory = subst (λ x. kind a x ≡ Directory) (sym q) (root_directory a i) in
        elim d [ inl r ↦ cc | inr r ↦ cc ]) in
        let s : IsSome (name a h) = from_named a i h f n in
        let t = rw (← e) at s in cc)

has_data : (k : Kind) → (k ≡ Regular) ⊎ (k ≡ SymLink) → (a : List ℕ) (h : ℕ) → data_of_kind k a h ≡ bytes_at a (data_at h (name_of a h))
    (size a h)
has_data k (inl e) a h = rw e refl
has_data k (inr e) a h = rw e refl

-- the data of a regular file or symbolic link lie in the image, after the padded name
pub given_data : (a : List ℕ) (i : IsImage a) (head : Head) → IsGiven a head
    → (head.kind ≡ Regular) ⊎ (head.kind ≡ SymLink)
    → (head.name_at + padded (head.name_len + 1) + head.size ≤ length a)
    × (bytes_at a (head.name_at + padded (head.name_len + 1)) head.size ≡ data_of_header a head.offset)
given_data a i head g k =
    let e : head_of a head.offset ≡ head = sym g.is in
    let d : HasData a head.offset = subst (λ x. (x.kind ≡ Regular) ⊎ (x.kind ≡ SymLink)) (sym e) k in
    let n = inside_data a i head.offset g.from d in
    let m = has_data (kind a head.offset) d a head.offset in (
      subst (λ x. x.name_at + padded (x.name_len + 1) + x.size ≤ length a) e n,
      subst (λ x. bytes_at a (x.name_at + padded (x.name_len + 1)) x.size ≡ data_of_header a head.offset) e (sym m),
    )

-- the data of a header that has any begin after its name, which is ended
pub given_start : (a : List ℕ) (i : IsImage a) (head : Head) → IsGiven a head
    → (head.kind ≡ Regular) ⊎ (head.kind ≡ SymLink)
    → head.name_at + padded (head.name_len + 1) ≡ data_start_of a head.offset
given_start a i head g k = elim (root_or a i head.offset g.from) [
  | inl s ↦ subst (λ x. x.name_at + padded (x.name_len + 1) ≡ data_start_of a head.offset) (sym g.is) (named (name a head.offset) s)
  | inr o ↦ absurd (
      let r : kind a head.offset ≡ Directory = subst (λ x. kind a x ≡ Directory) (sym o.0) (root_directory a i) in
      let e = ap (λ x. x.kind) g.is in
      elim k [ inl q ↦ cc | inr q ↦ cc ])
]
  where
    named : (o : Option (List ℕ)) → IsSome o
        → data_at head.offset (unwrap_or o []) ≡ option_map_or (data_at head.offset) o 0
    named (Some n) s = refl
    named None s = absurd (cc)

no_data_kind : (k : Kind) → k ≢ Regular → k ≢ SymLink → (a : List ℕ) (h : ℕ) → data_of_kind k a h ≡ []
no_data_kind Regular p q a h = absurd (p refl)
no_data_kind SymLink p q a h = absurd (q refl)
no_data_kind HardLink p q a h = refl
no_data_kind Directory p q a h = refl
no_data_kind Block p q a h = refl
no_data_kind Character p q a h = refl
no_data_kind Socket p q a h = refl
no_data_kind Fifo p q a h = refl

-- a header that is neither a regular file nor a symbolic link has no data
pub no_data : (a : List ℕ) (head : Head) → IsGiven a head → head.kind ≢ Regular → head.kind ≢ SymLink → data_of_header a head.offset ≡ []
no_data a head g p q = let e = ap (λ x. x.kind) g.is in no_data_kind (kind a head.offset) (λ r. p (e ∙ r)) (λ r. q (e ∙ r)) a head.offset

zero_ends : (a : List ℕ) (n : ℕ) → EndsWithin a n 0
zero_ends a zero = refl
zero_ends a (suc n) = inl refl

-- a walk that has come to 0 can go on there, where it is over
pub walk_over : (a : List ℕ) (i : IsImage a) (r : ℕ) → r ≡ root a → IsWalk a r 0
walk_over a i r e = record { small = i.small; root = e; ends = zero_ends a (places a) }

-- the members of a directory that is given, from the header that its chain begins at
module _ (a : List ℕ) (i : IsImage a) (head : Head) (g : IsGiven a head) (k : head.kind ≡ Directory) where
  opened : IsOpened a head.offset
  opened = from_opened a i head.offset g.from (sym (ap (λ x. x.kind) g.is) ∙ k)

  spec_is : head.spec ≡ spec a head.offset
  spec_is = ap (λ x. x.spec) g.is

  starts : (h : ℕ) → IsStart a head.offset h
      → AreMembers a head.offset (members_from a head.offset h) × EndsWithin a (places a) h
      × All (λ x. IsGiven a x) (members_from a head.offset h)
  starts h s =
      let l = listed a head.offset h (good a i head.offset opened) s in (
        are_members a head.offset (chain_from a (places a) h) i opened l,
        ends a head.offset h
            (good a i head.offset opened) s,
        are_given a head.offset (chain_from a (places a) h) i opened l,
      )

  itself : (h : ℕ) → h ≡ cleared head.spec → h ≡ head.offset → h ≢ root a → IsStart a head.offset 0
  itself h c e n = record {
    some = λ z. absurd (z refl);
    only = λ x f. absurd (n (e ∙ f.2 (f.0 ∙ ap cleared (sym spec_is) ∙ sym c ∙ e)));
  }

  onward : (h : ℕ) → h ≡ cleared head.spec → (h ≡ head.offset → h ≡ root a) → IsStart a head.offset h
  onward h c t = record {
    some = λ z. (c ∙ ap cleared spec_is, z, λ e. sym e ∙ t e);
    only = λ x f. f.0 ∙ ap cleared (sym spec_is) ∙ sym c;
  }

  -- a directory other than the root that names itself as its first header has no members
  pub empty_members : (h : ℕ) → h ≡ cleared head.spec → h ≡ head.offset → h ≢ root a
      → AreMembers a head.offset (members_from a head.offset 0)
  empty_members h c e n = (starts 0 (itself h c e n)).0

  -- the members of a directory are what is kept of the chain from its first header on
  pub chain_members : (h : ℕ) → h ≡ cleared head.spec → (h ≡ head.offset → h ≡ root a)
      → AreMembers a head.offset (members_from a head.offset h)
  chain_members h c t = (starts h (onward h c t)).0

  -- the image gives each of these members
  pub chain_given : (h : ℕ) → h ≡ cleared head.spec → (h ≡ head.offset → h ≡ root a) → All (λ x. IsGiven a x) (members_from a head.offset h)
  chain_given h c t = (starts h (onward h c t)).2

  -- a walk along a directory's chain can begin at its first header
  pub chain_walk : (h r : ℕ) → h ≡ cleared head.spec → (h ≡ head.offset → h ≡ root a) → r ≡ root a → IsWalk a r h
  chain_walk h r c t e = record { small = i.small; root = e; ends = (starts h (onward h c t)).1 }
