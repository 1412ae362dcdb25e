-- Headers and their slots. All that a field or a hard link names is at a multiple of 16
-- (cleared_root and those like it), so a set by slots loses nothing: a mark says whether a header
-- is in its set (marked, clear_gap), also of two joined (united_marks) and with one more
-- (one_more).
use Rattle.std.proofs.Common.{◌≡◌, ◌∙◌, sym, ap, get_or, set, true, false, IsTrue, subst, ℕ, zero, suc, ◌*◌, ◌/◌, ◌<◌, ◌≤◌, ◌↔◌, ◌⊎◌, inl, inr, List, Bool, length, Some, None, refl, arith}
use Rattle.std.proofs.lemmas.Bool.{true≢false}
use Rattle.std.specs.Option.{option_map_or}
use Rattle.romfs_format.specs.declared.limits.TheConstants.{HEAD_SIZE}
use Rattle.romfs_format.specs.Fields.{root, text_at, text_end, IsInside, spec, cleared}
use Rattle.romfs_format.specs.Chains.{IsAt, IsInChain, IsOpened, at_root, below}
use Rattle.romfs_format.specs.Links.{IsDestination, here, there}
use Rattle.romfs_sets.specs.Sets.{IsClear, IsUnion}
use Rattle.romfs_sets.proofs.Marks.{was_set}
use Rattle.romfs_rules.specs.Marks.{HasSlot, IsVolumeImage, IsMarked, AreMarks}

-- the root's header is at a multiple of 16
pub cleared_root : (a : List ℕ) → cleared (root a) ≡ root a
unfolding root
cleared_root a = elim (text_at a HEAD_SIZE) as (λ o. cleared (option_map_or (text_end HEAD_SIZE) o 0)
    ≡ option_map_or (text_end HEAD_SIZE) o 0) [
      | None ↦ refl
      | Some text ↦ omega arith
    ]

-- a word whose low bits are cleared is not changed by clearing them
pub twice_cleared : (n : ℕ) → cleared (cleared n) ≡ cleared n
twice_cleared n = omega arith

-- the root's header lies in an image that keeps the volume rules
pub inside_root : (a : List ℕ) → IsVolumeImage a → IsInside a (root a)
inside_root a v = (omega arith, v.inside)

-- a header at some position of a chain is at a multiple of 16
pub cleared_at : (a : List ℕ) (d n h : ℕ) → IsAt a d n h → cleared h ≡ h
cleared_at a d zero h x = rw (x.0) (omega arith)
cleared_at a d (suc n) h x = rw (x.2.1) (omega arith)

-- a header in a chain is at a multiple of 16
pub cleared_in_chain : (a : List ℕ) (d h : ℕ) → IsInChain a d h → cleared h ≡ h
cleared_in_chain a d h c = cleared_at a d c.0 h c.1

-- an opened directory lies in an image that keeps the volume rules
pub inside_opened : (a : List ℕ) → IsVolumeImage a → (d : ℕ) → IsOpened a d → IsInside a d
inside_opened a v d (at_root e) = rw e (inside_root a v)
inside_opened a v d (below o c k i t) = i

-- an opened directory is at a multiple of 16
pub cleared_opened : (a : List ℕ) (d : ℕ) → IsOpened a d → cleared d ≡ d
cleared_opened a d (at_root e) = rw e (cleared_root a)
cleared_opened a d (below {d = c} o k p i t) = cleared_in_chain a c d k

-- a header on a destination chain is at a multiple of 16
pub cleared_destination : (a : List ℕ) {h g : ℕ} → IsDestination a h g → cleared g ≡ g
cleared_destination a (here {h = h} l) = twice_cleared (spec a h)
cleared_destination a (there l d) = cleared_destination a d

-- a header at a slot from the root's on lies in the image
pub slot_inside : (a : List ℕ) (slot : ℕ) → root a / 16 ≤ slot → slot < length a / 16 → IsInside a (slot * 16)
slot_inside a slot l m = let c = cleared_root a in (omega arith, omega arith)

-- a header may be at each slot from the root's on
slot_at : (a : List ℕ) (slot : ℕ) → root a / 16 ≤ slot → slot < length a / 16 → HasSlot a (slot * 16)
slot_at a slot l m = record { inside = slot_inside a slot l m; aligned = omega arith }

-- a header may be at each slot of a set that is after the root's
pub slot_behind : (a : List ℕ) (set : List Bool) (from slot : ℕ) → length set ≡ length a / 16 → root a < from * 16
    → from ≤ slot → slot < length set → HasSlot a (slot * 16)
slot_behind a set from slot s b l h = slot_at a slot (omega arith) (omega arith)

-- a header may be at the root's place
pub root_slot : (a : List ℕ) → IsVolumeImage a → (h : ℕ) → h ≡ root a → HasSlot a h
root_slot a v h e = rw e (record { inside = inside_root a v; aligned = cleared_root a })

-- a header has a mark exactly if it is in the marked set
pub marked : (a : List ℕ) (P : ℕ → Type 0) (marks : List Bool) (h : ℕ) → AreMarks a P marks → cleared h ≡ h → IsInside a h
    → IsMarked marks h ↔ P h
marked a P marks h m c i = (λ x. subst P c (m.each (h / 16) x).0, λ p. m.all h p i)

-- the mark of the root's header says whether it is in the marked set
pub root_marked : {a : List ℕ} {P : ℕ → Type 0} {marks : List Bool} → IsVolumeImage a → AreMarks a P marks → (flag : Bool) (h : ℕ)
    → h ≡ root a → flag ≡ get_or marks (h / 16) false → IsTrue flag ↔ P (root a)
root_marked {a} {P} {marks} v m flag h e f =
    let t = marked a P marks (root a) m (cleared_root a) (inside_root a v) in
    let g : flag ≡ get_or marks (root a / 16) false = f ∙ ap (λ x. get_or marks (x / 16) false) e in
    (λ x. t.0 (sym g ∙ x), λ p. g ∙ t.1 p)

-- a run of slots at which no header is in P
pub record IsGap (a : List ℕ) (P : ℕ → Type 0) (low high : ℕ) : Type 0 where
  pub rising : low ≤ high
  pub none : (k : ℕ) → low ≤ k → k < high → IsInside a (k * 16) → ¬ P (k * 16)

-- slots that are not in the set of P are such a run
pub clear_gap : {a : List ℕ} {P : ℕ → Type 0} {marks : List Bool} {low high : ℕ} → AreMarks a P marks → low ≤ high
    → IsClear marks low high → IsGap a P low high
clear_gap {marks = marks} m l c = record {
  rising = l;
  none = λ k n o i p. (let e : k * 16 / 16 ≡ k = omega arith in
      true≢false (sym (subst (λ x. get_or marks x false ≡ true) e (m.all (k * 16) p i)) ∙ c.each k n o));
}

-- a set joined with another is the set of what is in either
pub united_marks : {a : List ℕ} {P Q : ℕ → Type 0} {one other both : List Bool} → AreMarks a P one
    → AreMarks a Q other → IsUnion one other both → AreMarks a (λ h. Q h ⊎ P h) both
united_marks m n u = record {
  sized = u.sized ∙ m.sized;
  each = λ k x. elim (u.each k x) [ inl y ↦ (let z = m.each k y in (inr z.0, z.1)) | inr y ↦ (let z = n.each k y in (inl z.0, z.1)) ];
  all = λ h p i. elim p [ inl q ↦ u.new (h / 16) (n.all h q i) | inr q ↦ u.old (h / 16) (m.all h q i) ];
}

-- what holds of each marked header, and of one more, holds of all once that is marked too
pub one_more : (marks : List Bool) (at : ℕ) → cleared at ≡ at → (k : ℕ) (P : ℕ → Type 0)
    → (get_or marks k false ≡ true → P (k * 16)) → P at → get_or (set marks (at / 16) true) k false ≡ true
    → P (k * 16)
one_more marks at clean k P old this m = elim (was_set marks (at / 16) k m) [
  | inl e ↦ rw e (rw clean this)
  | inr o ↦ old o
]
