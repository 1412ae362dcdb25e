-- The walk over the chains of directories other than the root, as lists. It begins with the first
-- headers of the root's own (Seeded, all_seeded); a word is dropped (step_stale) or marked, and
-- what it leads on to comes (step_fresh), until none is left and all is marked (all_marked).
use Rattle.std.proofs.Common.{◌≡◌, ◌≢◌, ◌∙◌, sym, ap, subst, ℕ, zero, suc, ◌+◌, ◌*◌, ◌/◌, ◌<◌, ◌≤◌, ◌⊎◌, inl, inr, List, [], ◌∷◌, ◌++◌, length, get_or, set, replicate, Bool, true, false, Option, Some, None, arith, append_assoc, length-append}
use Rattle.std.specs.List.{Contains}
use Rattle.std.specs.Option.{option_to_list}
use Rattle.std.proofs.lemmas.List.Elements.{Contains-append_left, Contains-append_right, Contains-append_cases}
use Rattle.std.proofs.lemmas.List.{length-set, length-replicate}
use Rattle.std.proofs.lemmas.Bool.{cases_eq}
use Rattle.romfs_format.specs.Fields.{root, IsInside, cleared}
use Rattle.romfs_format.specs.Chains.{IsFirst, IsNext, IsAt, IsInChain, IsOpened, at_root, below}
use Rattle.romfs_sets.specs.Sets.{IsClear}
use Rattle.romfs_sets.proofs.Unions.{over_to}
use Rattle.romfs_rules.specs.Marks.{IsMarked, AreMarks, IsInRootChain, IsElsewhere, Opens}
use Rattle.romfs_rules.specs.Leads.{IsTheOne, IsFirstBelow, LeadsOn, on, down, IsStart, AreStarts, Adds}
use Rattle.romfs_rules.proofs.Lists.{none_in, one_in, has_one}
use Rattle.romfs_rules.proofs.Slots.{cleared_at, cleared_in_chain, one_more}
use Rattle.romfs_rules.proofs.Standing.{opened_in}
use Rattle.romfs_sets.proofs.Marks.{no_marks, newly_set, still_set, unmarked, marks_fall}

-- g has been marked, lies outside, or is still to come
abbrev pub IsSettled : List ℕ → List ℕ → List Bool → ℕ → Type 0
IsSettled a todo marks g = Contains todo g ⊎ (¬ IsInside a g) ⊎ IsMarked marks g

-- all marks and words to come are of other chains; what the marked lead on to, and each start, is
-- settled
pub record Walked (a todo : List ℕ) (marks : List Bool) : Type 0 where
  pub sized : length marks ≡ length a / 16
  pub each : (k : ℕ) → get_or marks k false ≡ true → IsElsewhere a (k * 16) × IsInside a (k * 16)
  pub waits : (h : ℕ) → Contains todo h → IsElsewhere a h
  pub closed : (k g : ℕ) → get_or marks k false ≡ true → LeadsOn a (k * 16) g → IsSettled a todo marks g
  pub seeds : (g : ℕ) → IsStart a g → IsSettled a todo marks g

-- what falls with each step: the words to come, and twice the headers without a mark
unfoldable pub left : List ℕ → List Bool → ℕ
left todo marks = length todo + 2 * unmarked marks

module _ (a : List ℕ) where
  -- what a header elsewhere leads on to is elsewhere
  leads_on : (h g : ℕ) → IsElsewhere a h → LeadsOn a h g → IsElsewhere a g
  leads_on h g e (on n) = record { dir = e.dir; other = e.other; opened = e.opened; in_chain = (suc e.in_chain.0, (h, e.in_chain.1, n)) }
  leads_on h g e (down z o f) = record { dir = h; other = z; opened = opened_in a h (inr e) z o; in_chain = (zero, f) }

  seeded : (g : ℕ) → IsStart a g → IsElsewhere a g
  seeded g s = record {
    dir = s.dir;
    other = s.other;
    opened = opened_in a s.dir (inl s.in_chain) s.other s.opens;
    in_chain = (zero, s.first);
  }

  -- if nothing is left to come, all is marked
  module _ (marks : List Bool) (w : Walked a [] marks) where
    settled : (g : ℕ) → IsInside a g → IsSettled a [] marks g → IsMarked marks g
    settled g i (inl c) = absurd (none_in g c)
    settled g i (inr (inl n)) = absurd (n i)
    settled g i (inr (inr m)) = m

    at_marked : (d n h : ℕ) → IsAt a d n h → IsMarked marks h → (g : ℕ) → LeadsOn a h g → IsInside a g → IsMarked marks g
    at_marked d n h x m g l i = settled g i (w.closed (h / 16) g m (subst (λ y. LeadsOn a y g) (sym (cleared_at a d n h x)) l))

    along : (d : ℕ) → ((g : ℕ) → IsFirst a d g → IsInside a g → IsMarked marks g) → (n h : ℕ) → IsAt a d n h → IsInside a h
        → IsMarked marks h
    along d f zero h x i = f h x i
    along d f (suc n) h x i = at_marked d n x.0 x.1 (along d f n x.0 x.1 x.2.0) h (on x.2) i

    -- each first of an opened directory but the root
    firsts : (d g : ℕ) → IsOpened a d → d ≢ root a → IsFirst a d g → IsInside a g → IsMarked marks g
    firsts d g (at_root e) z f i = absurd (z e)
    firsts d g (below {d = c} o k p s t) z f i = elim (cases_eq c (root a)) [
      | inl e ↦ settled g i (w.seeds g (record {
        dir = d;
        in_chain = subst (λ y. IsInChain a y d) e k;
        other = z;
        opens = record { inside = s; kind = t; kept = λ q. p (inr q) };
        first = f;
      }))
      | inr e ↦ at_marked c k.0 d k.1 (along c (λ h x. firsts c h o e x) k.0 d k.1 s) g
          (down z (record { inside = s; kind = t; kept = λ q. p (inr q) }) f) i
    ]

    -- if no word is left to come, the marks are those of all chains but the root's
    pub all_marked : AreMarks a (IsElsewhere a) marks
    all_marked = record {
      sized = w.sized;
      each = w.each;
      all = λ h e i. along e.dir (λ g x. firsts e.dir g e.opened e.other x) e.in_chain.0
          h e.in_chain.1 i;
    }

  module _ (todo : List ℕ) (marks : List Bool) where
    -- a word that is settled is dropped
    still : (at g : ℕ) → (¬ IsInside a at) ⊎ IsMarked marks at → IsSettled a (todo ++ at ∷ []) marks g → IsSettled a todo marks g
    still at g s (inr r) = inr r
    still at g s (inl c) = elim (Contains-append_cases todo (at ∷ []) g c) [
      | inl x ↦ inl x
      | inr x ↦ elim s [
        | inl n ↦ inr (inl (subst (λ y. ¬ IsInside a y) (one_in at g x) n))
        | inr m ↦ inr (inr (subst (λ y. IsMarked marks y) (one_in at g x) m))
      ]
    ]

    let_go : (at : ℕ) → (¬ IsInside a at) ⊎ IsMarked marks at → Walked a (todo ++ at ∷ []) marks → Walked a todo marks
    let_go at s w = record {
      sized = w.sized;
      each = w.each;
      waits = λ h c. w.waits h (Contains-append_left todo (at ∷ []) h c);
      closed = λ k g m l. still at g s (w.closed k g m l);
      seeds = λ g d. still at g s (w.seeds g d);
    }

    -- a word is marked, and what it leads on to comes
    module _ (at : ℕ) (new : List ℕ) (inside : IsInside a at) (clean : cleared at ≡ at) (fits : at / 16 < length marks)
        (only : (g : ℕ) → Contains new g → LeadsOn a at g) (whole : (g : ℕ) → LeadsOn a at g → Contains new g) where
      moves : (g : ℕ) → IsSettled a (todo ++ at ∷ []) marks g → IsSettled a (todo ++ new) (set marks (at / 16) true) g
      moves g (inr (inl n)) = inr (inl n)
      moves g (inr (inr m)) = inr (inr (still_set marks (at / 16) (g / 16) fits m))
      moves g (inl c) = elim (Contains-append_cases todo (at ∷ []) g c) [
        | inl x ↦ inl (Contains-append_left todo new g x)
        | inr x ↦ inr (inr (subst (λ y. IsMarked (set marks (at / 16) true) y) (one_in at g x) (newly_set marks (at / 16) fits)))
      ]

      mark : Walked a (todo ++ at ∷ []) marks → Walked a (todo ++ new) (set marks (at / 16) true)
      mark w =
          let here : IsElsewhere a at = w.waits at (Contains-append_right todo (at ∷ []) at (has_one at)) in
          record {
            sized = length-set marks (at / 16) true ∙ w.sized;
            each = λ k m. one_more marks at clean k (λ y. IsElsewhere a y × IsInside a y) (w.each k) (here, inside) m;
            waits = λ h c. elim (Contains-append_cases todo new h c) [
              | inl x ↦ w.waits h (Contains-append_left todo (at ∷ []) h x)
              | inr x ↦ leads_on at h here (only h x)
            ];
            closed = λ k g m l. one_more marks at clean k
                (λ y. LeadsOn a y g → IsSettled a (todo ++ new) (set marks (at / 16) true) g)
                (λ o l. moves g (w.closed k g o l)) (λ l. inl (Contains-append_right todo new g (whole g l)))
                m l;
            seeds = λ g d. moves g (w.seeds g d);
          }

  -- a walk begins with the starts to come, and no marks
  pub begun : (todo : List ℕ) (marks : List Bool) → AreStarts a todo → marks ≡ replicate (length a / 16) false → Walked a todo marks
  begun todo marks s e = record {
    sized = ap length e ∙ length-replicate (length a / 16) false;
    each = λ k m. absurd (let x = no_marks marks (length a / 16) e k in cc);
    waits = λ h c. seeded h (s.each h c);
    closed = λ k g m l. absurd (let x = no_marks marks (length a / 16) e k in cc);
    seeds = λ g d. inl (s.all g d);
  }

-- the words before a step end with the word that it takes
module _ (a todo rest : List ℕ) (marks : List Bool) (at : ℕ) (taken : todo ≡ rest ++ at ∷ []) (w : Walked a todo marks) where
  ends : Walked a (rest ++ at ∷ []) marks
  ends = subst (λ x. Walked a x marks) taken w

  -- a word that lies outside, or has a mark, is dropped
  pub step_stale : (¬ IsInside a at) ⊎ IsMarked marks at → Walked a rest marks
  step_stale s = let_go a rest marks at s ends

  -- a word that is dropped leaves less to do
  pub less_stale : left rest marks < left todo marks
  unfolding left
  less_stale = let l : length todo ≡ length rest + 1 = rw taken (length-append rest (at ∷ [])) in omega arith

  module _ (after : List ℕ) (f : Adds (LeadsOn a at) rest after) (fits : at / 16 < length marks) where
    -- a word inside gets a mark, and what it leads on to comes
    pub step_fresh : IsInside a at → Walked a after (set marks (at / 16) true)
    step_fresh i =
        let e : IsElsewhere a at = ends.waits at (Contains-append_right rest (at ∷ []) at (has_one at)) in
        rw f.is (mark a rest marks at f.new i (cleared_in_chain a e.dir at e.in_chain) fits f.only f.whole ends)

    -- a header that is newly marked leaves less to do, with all that it adds
    pub less_fresh : get_or marks (at / 16) false ≡ false → left after (set marks (at / 16) true) < left todo marks
    unfolding left
    less_fresh u =
        let l : length todo ≡ length rest + 1 = rw taken (length-append rest (at ∷ [])) in
        let m : length after ≡ length rest + length f.new = rw f.is (length-append rest f.new) in
        let s = marks_fall marks (at / 16) fits u in
        let n = f.few in
        omega arith

some_has : (w : Option ℕ) (g : ℕ) → Contains (option_to_list w) g → w ≡ Some g
some_has None g c = absurd (none_in g c)
some_has (Some n) g c = ap Some (one_in n g c)

-- an existing word is in its list
pub has_some : (w : Option ℕ) (g : ℕ) → w ≡ Some g → Contains (option_to_list w) g
has_some w g e = subst (λ x. Contains (option_to_list x) g) (sym e) (has_one g)

some_short : (w : Option ℕ) → length (option_to_list w) ≤ 1
some_short None = omega arith
some_short (Some n) = omega arith

-- the header after one and the first below it, as far as they exist, are all that it leads on to
pub led : (a : List ℕ) (at : ℕ) {n f : Option ℕ} (before after : List ℕ) → IsTheOne (IsNext a at) n → IsTheOne (IsFirstBelow a at) f
    → after ≡ (before ++ option_to_list n) ++ option_to_list f → Adds (LeadsOn a at) before after
led a at {n} {f} before after next first k = record {
  new = option_to_list n ++ option_to_list f;
  is = k ∙ append_assoc before (option_to_list n) (option_to_list f);
  few = (let x = some_short n in let y = some_short f in simp length-append (omega arith));
  only = λ g c. elim (Contains-append_cases (option_to_list n) (option_to_list f) g c) [
    | inl x ↦ on ((next.each g).0 (some_has n g x))
    | inr x ↦ (let z = (first.each g).0 (some_has f g x) in down z.0 z.1 z.2)
  ];
  whole = all;
}
  where
    all : (g : ℕ) → LeadsOn a at g → Contains (option_to_list n ++ option_to_list f) g
    all g (on x) = Contains-append_left (option_to_list n) (option_to_list f) g (has_some n g ((next.each g).1 x))
    all g (down z o x) = Contains-append_right (option_to_list n) (option_to_list f) g (has_some f g ((first.each g).1 (z, o, x)))

-- the words are starts, and among them are those of all directories in the slots before n
pub record Seeded (a : List ℕ) (root_chain : List Bool) (n : ℕ) (todo : List ℕ) : Type 0 where
  pub each : (g : ℕ) → Contains todo g → IsStart a g
  pub all : (k g : ℕ) → k < n → get_or root_chain k false ≡ true → k * 16 ≢ root a → Opens a (k * 16) → IsFirst a (k * 16) g
      → Contains todo g

module _ (a : List ℕ) (root_chain : List Bool) (r : AreMarks a (IsInRootChain a) root_chain) where
  -- before the first slot there is no start
  pub unseeded : Seeded a root_chain 0 []
  unseeded = record { each = λ g c. absurd (none_in g c); all = λ k g l m z o f. absurd (omega arith) }

  module _ (n : ℕ) (todo : List ℕ) (s : Seeded a root_chain n todo) where
    -- a slot that is not in the root's chain adds no start
    pub passed : get_or root_chain n false ≡ false → Seeded a root_chain (n + 1) todo
    passed u = record {
      each = s.each;
      all = λ k g l m z o f. elim (cases_eq k n) [
        | inl e ↦ absurd (let x : get_or root_chain n false ≡ true = subst (λ y. get_or root_chain y false ≡ true) e m in cc)
        | inr e ↦ s.all k g (omega arith) m z o f
      ];
    }

    -- a slot of the root's chain adds the first header below it, if there is one
    pub seeds_more : get_or root_chain n false ≡ true → (w : Option ℕ) (after : List ℕ)
        → IsTheOne (λ g. (n * 16 ≢ root a) × Opens a (n * 16) × IsFirst a (n * 16) g) w → after ≡ todo ++ option_to_list w
        → Seeded a root_chain (n + 1) after
    seeds_more m w after one is = rw is (record {
      each = λ g c. elim (Contains-append_cases todo (option_to_list w) g c) [
        | inl x ↦ s.each g x
        | inr x ↦ (let z = (one.each g).0 (some_has w g x) in record {
          dir = n * 16;
          in_chain = (r.each n m).0;
          other = z.0;
          opens = z.1;
          first = z.2;
        })
      ];
      all = λ k g l q z o f. elim (cases_eq k n) [
        | inl e ↦ Contains-append_right todo (option_to_list w) g
            (has_some w g ((one.each g).1 (subst (λ y. (y * 16 ≢ root a) × Opens a (y * 16) × IsFirst a
            (y * 16) g) e (z, o, f))))
        | inr e ↦ Contains-append_left todo (option_to_list w) g (s.all k g (omega arith) q z o f)
      ];
    })

  -- a run of slots that are not in the root's chain adds no start
  pub passed_to : (low high : ℕ) (todo : List ℕ) → low ≤ high → IsClear root_chain low high → Seeded a root_chain low todo
      → Seeded a root_chain high todo
  passed_to low high todo l c s = over_to (λ k. Seeded a root_chain k todo) low high l s (λ k m n x. passed k todo x (c.each k m n))

  -- after the last slot the words are exactly the starts
  pub all_seeded : (n : ℕ) (todo : List ℕ) → length root_chain ≤ n → Seeded a root_chain n todo → AreStarts a todo
  all_seeded n todo l s = record { each = s.each; all = λ g d. seed g d }
    where
      seed : (g : ℕ) → IsStart a g → Contains todo g
      seed g d =
          let clean = cleared_in_chain a (root a) d.dir d.in_chain in
          let i = d.opens.inside in
          let z = r.sized in
          s.all (d.dir / 16) g (omega arith) (r.all d.dir d.in_chain i) (rw clean d.other) (rw clean d.opens) (rw clean d.first)
