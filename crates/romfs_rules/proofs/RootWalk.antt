-- The walk along the root's chain, as lists. Walked holds at its beginning (begun) and after each
-- step, which marks its header (steps); if it is outside or at a mark, all of the chain is marked
-- (all_marked).
use Rattle.std.proofs.Common.{◌≡◌, ◌≢◌, ◌∙◌, sym, ap, subst, ℕ, zero, suc, ◌*◌, ◌/◌, ◌<◌, ◌⊎◌, inl, inr, List, length, get_or, set, replicate, Bool, true, false, refl, arith}
use Rattle.std.proofs.lemmas.List.{length-set, length-replicate}
use Rattle.romfs_format.specs.Fields.{root, IsInside, next, spec, cleared}
use Rattle.romfs_format.specs.Chains.{IsFirst, IsNext, IsAt}
use Rattle.romfs_rules.specs.Marks.{IsVolumeImage, IsMarked, AreMarks, IsInRootChain}
use Rattle.romfs_rules.proofs.Slots.{cleared_at, one_more}
use Rattle.romfs_sets.proofs.Marks.{no_marks, newly_set, still_set}

-- g comes next, lies outside or is marked
abbrev IsDone : List ℕ → List Bool → ℕ → ℕ → Type 0
IsDone a marks at g = (g ≡ at) ⊎ (¬ IsInside a g) ⊎ IsMarked marks g

-- the walk is at this header, and the marks are those of the headers before it
pub record Walked (a : List ℕ) (marks : List Bool) (at : ℕ) : Type 0 where
  pub sized : length marks ≡ length a / 16
  pub each : (k : ℕ) → get_or marks k false ≡ true → IsInRootChain a (k * 16) × IsInside a (k * 16)
  pub here : IsInside a at → IsInRootChain a at
  pub first : (g : ℕ) → IsFirst a (root a) g → IsDone a marks at g
  pub closed : (k g : ℕ) → get_or marks k false ≡ true → IsNext a (k * 16) g → IsDone a marks at g

module _ (a : List ℕ) where
  not_zero : IsVolumeImage a → (at : ℕ) → IsInside a at → at ≢ 0
  not_zero v at i z = let h = v.behind in omega arith

  module _ (v : IsVolumeImage a) (place w : ℕ) (t : place ≡ root a) (f : w ≡ spec a place) where
    starts : cleared w ≡ cleared (spec a (root a))
    starts = ap cleared (f ∙ ap (spec a) t)

    -- the walk begins at the root's first header, with no marks
    pub begun : (marks : List Bool) → marks ≡ replicate (length a / 16) false → Walked a marks (cleared w)
    begun marks e = record {
      sized = ap length e ∙ length-replicate (length a / 16) false;
      each = λ k m. absurd (let x = no_marks marks (length a / 16) e k in cc);
      here = λ i. (0, (starts, not_zero v (cleared w) i, λ _. refl));
      first = λ g x. inl (x.0 ∙ sym starts);
      closed = λ k g m x. absurd (let x = no_marks marks (length a / 16) e k in cc);
    }

  module _ (marks : List Bool) (at : ℕ) (w : Walked a marks at) where
    -- if the walk ends, all is marked
    module _ (s : (¬ IsInside a at) ⊎ IsMarked marks at) where
      settled : (g : ℕ) → IsInside a g → IsDone a marks at g → IsMarked marks g
      settled g i (inl e) = elim s [ inl n ↦ absurd (n (subst (IsInside a) e i)) | inr m ↦ subst (IsMarked marks) (sym e) m ]
      settled g i (inr (inl n)) = absurd (n i)
      settled g i (inr (inr m)) = m

      along : (n h : ℕ) → IsAt a (root a) n h → IsInside a h → IsMarked marks h
      along zero h x i = settled h i (w.first h x)
      along (suc n) h x i = settled h i (w.closed (x.0 / 16) h (along n x.0 x.1 x.2.0)
          (subst (λ y. IsNext a y h) (sym (cleared_at a (root a) n x.0 x.1)) x.2))

      -- if the walk is outside or at a mark, the marks are those of the root's chain
      pub all_marked : AreMarks a (IsInRootChain a) marks
      all_marked = record { sized = w.sized; each = w.each; all = λ h c i. along c.0 h c.1 i }

    -- the walk's header is marked, and the walk goes on to the header after it
    module _ (v : IsVolumeImage a) (i : IsInside a at) (fits : at / 16 < length marks) (after : ℕ) (is : after ≡ next a at) where
      clean : cleared at ≡ at
      clean = let c = w.here i in cleared_at a (root a) c.0 at c.1

      moves : (g : ℕ) → IsDone a marks at g → IsDone a (set marks (at / 16) true) after g
      moves g (inl e) = inr (inr (rw e (newly_set marks (at / 16) fits)))
      moves g (inr (inl n)) = inr (inl n)
      moves g (inr (inr m)) = inr (inr (still_set marks (at / 16) (g / 16) fits m))

      -- the walk's header gets a mark, and the walk goes on to the header after it
      pub steps : Walked a (set marks (at / 16) true) after
      steps = record {
        sized = length-set marks (at / 16) true ∙ w.sized;
        each = λ k m. one_more marks at clean k (λ y. IsInRootChain a y × IsInside a y) (w.each k) (w.here i, i) m;
        here = λ j. (let c = w.here i in (suc c.0, (at, c.1, (i, is, not_zero v after j))));
        first = λ g x. moves g (w.first g x);
        closed = λ k g m x. one_more marks at clean k
            (λ y. IsNext a y g → IsDone a (set marks (at / 16) true) after g)
            (λ o y. moves g (w.closed k g o y)) (λ y. inl (y.1 ∙ sym is)) m x;
      }
