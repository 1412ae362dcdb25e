-- The facts that the type `Graph` holds, as one record (`graph_of`). The type says of its lists
-- only that there are such facts, so whether a point is on a list is decided anew, by going along
-- it (`ahead`).
use Rattle.std.proofs.Common.{◌≢◌, refl, subst, ℕ, zero, suc, ◌+◌, ◌<◌, ◌≤◌, ◌⊎◌, inl, inr, List, length, get_or, arith}
use Rattle.std.proofs.lemmas.Bool.{cases_eq, cases_lt}
use Rattle.std.proofs.Props.{props}
use mathlib.Core.Logic.{∥∥₁_elim}
use Rattle.romfs_sets.specs.declared.graph.Graph.{Graph}
use Rattle.romfs_sets.specs.Climb.{Ahead, here, later, Points, IsGraph}

past : {sibling : List ℕ} {from x : ℕ} → length sibling ≤ from → ¬ Ahead sibling from x
past l (here k) = omega arith
past l (later k a) = omega arith

passed : {sibling : List ℕ} {from x : ℕ} → from ≢ x → ¬ Ahead sibling (get_or sibling from 0) x → ¬ Ahead sibling from x
passed d n (here k) = d refl
passed d n (later k a) = n a

-- whether a point is on a rising list
ahead : (sibling : List ℕ) → ((x : ℕ) → x < length sibling → x < get_or sibling x 0) → (n from x : ℕ)
    → length sibling ≤ from + n → Ahead sibling from x ⊎ ¬ Ahead sibling from x
ahead sibling r zero from x l = inr (past (omega arith))
ahead sibling r (suc n) from x l = elim (cases_lt from (length sibling)) [
  | inr m ↦ inr (past m)
  | inl m ↦ elim (cases_eq from x) [
    | inl e ↦ inl (subst (λ y. Ahead sibling from y) e (here m))
    | inr d ↦ elim (ahead sibling r n (get_or sibling from 0) x (let s = r from m in omega arith)) [
      | inl a ↦ inl (later m a)
      | inr a ↦ inr (passed d a)
    ]
  ]
]

-- the points of a value of the type `Graph`
abbrev pub points : {A : Type 0} → Graph A → Points
points g = record { next = g.next.items; class = g.class.items; first = g.first.items; sibling = g.sibling.items }

-- each value of the type `Graph` is a graph: points, classes, and the lists of the points that lead
-- to each
pub graph_of : {A : Type 0} (g : Graph A) → IsGraph (points g)
graph_of g = record {
  few = g.few;
  leads = g.leads;
  classes = g.classes;
  lists = record {
    firsts = ∥∥₁_elim g.lists (hlevel props) (λ l. l.firsts);
    siblings = g.siblings;
    rising = λ x i. g.rising x (let s = g.siblings in omega arith);
    same = λ t x i a. ∥∥₁_elim g.lists (hlevel props) (λ l. l.same t x i a);
    whole = λ x i. elim (ahead g.sibling.items g.rising (length g.sibling.items) (get_or g.first.items (get_or g.next.items x 0) 0) x
        (omega arith)) [
          | inl a ↦ a
          | inr n ↦ absurd (∥∥₁_elim g.lists (hlevel props) (λ l. n (l.whole x i)))
        ];
  };
}
