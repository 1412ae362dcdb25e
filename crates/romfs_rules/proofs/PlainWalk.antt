-- The walk over all directories, as lists. Descends says which of them were walked (begun), also once one more is (steps), which leaves
-- less to do (less); the headers of a walked chain were passed (seen_at).
use Rattle.std.proofs.Common.{◌≡◌, ◌≢◌, ◌∙◌, sym, ap, subst, ℕ, ◌+◌, ◌/◌, ◌<◌, ◌⊎◌, inl, inr, List, [], ◌∷◌, ◌++◌, length, get_or, replicate, Bool, false, arith, length-append}
use Rattle.std.specs.List.{Contains}
use Rattle.std.proofs.lemmas.List.Elements.{Contains-append_left, Contains-append_right, Contains-append_cases}
use Rattle.std.proofs.lemmas.List.{length-replicate}
use Rattle.std.proofs.lemmas.Bool.{true≢false}
use Rattle.romfs_format.specs.Fields.{root, IsInside}
use Rattle.romfs_format.specs.Chains.{IsAt, IsInChain}
use Rattle.romfs_rules.specs.declared.plain.Folder.{Folder}
use Rattle.romfs_rules.specs.Marks.{IsMarked, Opens}
use Rattle.romfs_rules.specs.Names.{HaveNamesApart}
use Rattle.romfs_rules.specs.Plain.{IsPlainHeader, folder, WalkState, PassesFolder}
use Rattle.romfs_rules.proofs.Lists.{none_in, one_in, has_one}
use Rattle.romfs_rules.proofs.SameNaming.{one_at}
use Rattle.romfs_rules.proofs.PlainChain.{counted}
use Rattle.romfs_sets.proofs.Marks.{unmarked}

-- a directory is still to come, or was walked
abbrev pub IsKnown : List Folder → List Folder → Folder → Type 0
IsKnown todo done v = Contains todo v ⊎ Contains done v

-- a header of the chain of a walked directory
pub record IsSeen (a : List ℕ) (marks : List Bool) (todo done : List Folder) (w : Folder) (h : ℕ) : Type 0 where
  pub plain : IsPlainHeader a w h
  pub marked : IsMarked marks h
  pub comes : h ≢ root a → Opens a h → IsKnown todo done (folder h (w.names + 1))

-- the chain of w was walked
pub record IsGone (a : List ℕ) (marks : List Bool) (todo done : List Folder) (w : Folder) : Type 0 where
  pub heads : List ℕ
  pub at : (i h : ℕ) → IsAt a w.header i h → (i < length heads) × (get_or heads i 0 ≡ h)
  pub each : (i : ℕ) → i < length heads → IsSeen a marks todo done w (get_or heads i 0)
  pub apart : (i j : ℕ) → i < length heads → j < length heads → get_or heads i 0 ≡ get_or heads j 0 → i ≡ j
  pub names : HaveNamesApart a heads

-- the root comes or was walked, and walked directories have chains of their own
pub record Descends (a : List ℕ) (todo : List Folder) (marks : List Bool) : Type 0 where
  pub sized : length marks ≡ length a / 16
  pub done : List Folder
  pub gone : (w : Folder) → Contains done w → IsGone a marks todo done w
  pub start : IsKnown todo done (folder (root a) 0)
  pub inside : (w : Folder) → Contains todo w → IsInside a w.header
  pub one : (v w : Folder) (h : ℕ) → Contains done v → Contains done w → IsInChain a v.header h → IsInChain a w.header h → v ≡ w

-- what falls with each directory: those to come, and the headers without a mark
unfoldable pub left : List Folder → List Bool → ℕ
left todo marks = length todo + unmarked marks

-- a header in a walked chain was passed
pub seen_at : (a : List ℕ) (marks : List Bool) (todo done : List Folder) (w : Folder) (h : ℕ) → IsGone a marks todo done w
    → IsInChain a w.header h → IsSeen a marks todo done w h
seen_at a marks todo done w h g c = let x = g.at c.0 h c.1 in subst (λ y. IsSeen a marks todo done w y) x.1 (g.each c.0 x.0)

module _ (a : List ℕ) where
  -- the walk begins with the root to come, and no marks
  pub begun : (todo : List Folder) (marks : List Bool) → todo ≡ folder (root a) 0 ∷ [] → IsInside a (root a)
      → marks ≡ replicate (length a / 16) false → Descends a todo marks
  begun todo marks e i m = rw e (record {
    sized = ap length m ∙ length-replicate (length a / 16) false;
    done = [];
    gone = λ w c. absurd (none_in w c);
    start = inl (has_one (folder (root a) 0));
    inside = λ w c. subst (λ x. IsInside a x.header) (one_in (folder (root a) 0) w c) i;
    one = λ v w h c. absurd (none_in v c);
  })

  module _ (todo : List Folder) (w : Folder) (old new : WalkState) (taken : todo ≡ old.todo ++ w ∷ [])
      (d : Descends a todo old.marks) (f : PassesFolder a w old new) where
    abbrev gone_too : List Folder
    gone_too = d.done ++ w ∷ []

    waits_or_is : (v : Folder) → Contains todo v → Contains old.todo v ⊎ (w ≡ v)
    waits_or_is v c = elim (Contains-append_cases old.todo (w ∷ []) v (subst (λ x. Contains x v) taken c)) [
      | inl x ↦ inl x
      | inr x ↦ inr (one_in w v x)
    ]

    done_or_is : (v : Folder) → Contains gone_too v → Contains d.done v ⊎ (w ≡ v)
    done_or_is v c = elim (Contains-append_cases d.done (w ∷ []) v c) [
      | inl x ↦ inl x
      | inr x ↦ inr (one_in w v x)
    ]

    itself : Contains gone_too w
    itself = Contains-append_right d.done (w ∷ []) w (has_one w)

    known : (v : Folder) → IsKnown todo d.done v → IsKnown new.todo gone_too v
    known v (inr c) = inr (Contains-append_left d.done (w ∷ []) v c)
    known v (inl c) = elim (waits_or_is v c) [
      | inl x ↦ inl (f.chain.front.waits v x)
      | inr e ↦ inr (subst (λ x. Contains gone_too x) e itself)
    ]

    still : (v : Folder) (h : ℕ) → IsSeen a old.marks todo d.done v h → IsSeen a new.marks new.todo gone_too v h
    still v h s = record { plain = s.plain; marked = f.chain.front.kept (h / 16) s.marked; comes = λ n o. known _ (s.comes n o) }

    gone_before : (v : Folder) → IsGone a old.marks todo d.done v → IsGone a new.marks new.todo gone_too v
    gone_before v g = record {
      heads = g.heads;
      at = g.at;
      each = λ i l. still v (get_or g.heads i 0) (g.each i l);
      apart = g.apart;
      names = g.names;
    }

    at_place : (i h : ℕ) → IsAt a w.header i h → (i < length new.heads) × (get_or new.heads i 0 ≡ h)
    at_place i h x = let l = f.chain.whole i h x in (l, one_at a w.header i (get_or new.heads i 0) h (f.chain.front.each i l).at x)

    gone_now : IsGone a new.marks new.todo gone_too w
    gone_now = record {
      heads = new.heads;
      at = at_place;
      each = λ i l. (let p = f.chain.front.each i l in
          record { plain = p.plain; marked = p.marked; comes = λ n o. inl (p.comes n o) });
      apart = f.chain.front.apart;
      names = f.apart;
    }

    -- a header of this chain is in no chain that was walked before
    no_other : (v : Folder) (h : ℕ) → Contains d.done v → IsInChain a v.header h → IsInChain a w.header h → ⊥
    no_other v h k x y =
        let s = seen_at a old.marks todo d.done v h (d.gone v k) x in
        let p = at_place y.0 h y.1 in
        let u : get_or old.marks (h / 16) false ≡ false =
        subst (λ z. get_or old.marks (z / 16) false ≡ false) p.1 (f.chain.front.each y.0 p.0).unmarked in
        true≢false (sym s.marked ∙ u)

    one_too : (v u : Folder) (h : ℕ) → Contains gone_too v → Contains gone_too u → IsInChain a v.header h → IsInChain a u.header h → v ≡ u
    one_too v u h k m x y = elim (done_or_is v k) [
      | inl p ↦ elim (done_or_is u m) [
        | inl q ↦ d.one v u h p q x y
        | inr q ↦ absurd (no_other v h p x (subst (λ z. IsInChain a z.header h) (sym q) y))
      ]
      | inr p ↦ elim (done_or_is u m) [
        | inl q ↦ absurd (no_other u h q y (subst (λ z. IsInChain a z.header h) (sym p) x))
        | inr q ↦ sym p ∙ q
      ]
    ]

    -- one more directory was walked
    pub steps : Descends a new.todo new.marks
    steps = record {
      sized = f.chain.front.sized ∙ d.sized;
      done = gone_too;
      gone = λ v c. elim (done_or_is v c) [
        | inl x ↦ gone_before v (d.gone v x)
        | inr e ↦ subst (λ x. IsGone a new.marks new.todo gone_too x) e gone_now
      ];
      start = known (folder (root a) 0) d.start;
      inside = λ v c. elim (f.chain.front.inside v c) [
        | inl x ↦ d.inside v (subst (λ y. Contains y v) (sym taken) (Contains-append_left old.todo (w ∷ []) v x))
        | inr i ↦ i
      ];
      one = one_too;
    }

    -- a walked directory leaves less to do
    pub less : left new.todo new.marks < left todo old.marks
    unfolding left
    less =
        let l : length todo ≡ length old.todo + 1 = rw taken (length-append old.todo (w ∷ [])) in
        let n = f.chain.front.few in
        let c = f.chain.front.count in
        let x = counted old.marks in
        let y = counted new.marks in
        omega arith

  -- a directory to come lies in the image
  pub next_inside : (todo rest : List Folder) (w : Folder) (marks : List Bool) → todo ≡ rest ++ w ∷ [] → Descends a todo marks
      → IsInside a w.header
  next_inside todo rest w marks taken d =
      d.inside w (subst (λ x. Contains x w) (sym taken) (Contains-append_right rest (w ∷ []) w (has_one w)))
