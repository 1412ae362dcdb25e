-- The walk down from the root, as lists, if no other rule is broken, so one number of names leads
-- to each header (OnePath). Descends holds at each step (begun, step_stale, step_fresh); if nothing
-- is left to come, the least header that is too deep was found (found).
use Rattle.std.proofs.Common.{◌≡◌, ◌≢◌, ◌∙◌, sym, ap, subst, ℕ, zero, suc, ◌+◌, ◌*◌, ◌/◌, ◌<◌, ◌≤◌, ◌⊎◌, inl, inr, List, [], ◌∷◌, ◌++◌, length, get_or, set, min, Bool, true, false, Option, Some, None, IfSome, refl, arith, append_assoc, length-append}
use Rattle.std.specs.Option.{IsSomeAnd, option_map_or}
use Rattle.std.specs.List.{Contains}
use Rattle.std.proofs.lemmas.List.Elements.{Contains-append_left, Contains-append_right, Contains-append_cases}
use Rattle.std.proofs.lemmas.List.{length-set}
use Rattle.std.proofs.lemmas.Bool.{cases_eq, true≢false}
use Rattle.romfs_format.specs.declared.rule.Rule.TheVariants.{TooDeep}
use Rattle.romfs_rules.specs.declared.depth.Waiting.{Waiting}
use Rattle.romfs_format.specs.Fields.{root, IsInside}
use Rattle.romfs_format.specs.Chains.{IsFirst, IsNext, IsAt, IsOpened, at_root, below, IsMember}
use Rattle.romfs_format.specs.Rules.{BreaksHeader}
use Rattle.romfs_rules.specs.Marks.{IsMarked, Opens}
use Rattle.romfs_rules.specs.Leads.{IsTheOne, IsFirstBelow, Adds}
use Rattle.romfs_format.specs.declared.rule.Profile.TheVariants.{Usual}
use Rattle.romfs_rules.specs.Judge.{KeepsAllHeaderRules}
use Rattle.romfs_rules.specs.Outside.{IsLeast}
use Rattle.romfs_rules.specs.Depth.{NotesDeep, waiting, LeadsDown, on, down}
use Rattle.romfs_rules.proofs.Lists.{none_in, one_in, has_one}
use Rattle.romfs_rules.proofs.Slots.{cleared_in_chain}
use Rattle.romfs_rules.proofs.Standing.{opened}
use Rattle.romfs_sets.proofs.Marks.{unmarked, marks_fall, few_marks, newly_set, still_set, was_set}
use Rattle.romfs_rules.proofs.OnePath.{IsBelow, StandsBelow, no_root, one_standing, inside_member, deep_at, stands_member, is_deep, too_deep}

-- the header h as it waits, with n names that lead to its directory
abbrev pub at_names : ℕ → ℕ → Waiting
at_names h n = record { header = h; names = n }

waits_for : (o : Option ℕ) (n : ℕ) (v : Waiting) → Contains (waiting o n) v → (h : ℕ) × (o ≡ Some h) × (v ≡ at_names h n)
waits_for None n v c = absurd (none_in v c)
waits_for (Some h) n v c = (h, refl, sym (one_in (at_names h n) v c))

is_waiting : (o : Option ℕ) (n h : ℕ) → o ≡ Some h → Contains (waiting o n) (at_names h n)
is_waiting o n h e = rw e (has_one (at_names h n))

one_waits : (o : Option ℕ) (n : ℕ) → length (waiting o n) ≤ 1
one_waits None n = omega arith
one_waits (Some h) n = omega arith

-- the header after one, and the first below it at one name more, are all that it leads down to
pub led : (a : List ℕ) (w : Waiting) {next first : Option ℕ} (before after : List Waiting) → IsTheOne (IsNext a w.header) next
    → IsTheOne (IsFirstBelow a w.header) first
    → after ≡ (before ++ waiting next w.names) ++ waiting first (w.names + 1) → Adds (LeadsDown a w) before after
led a w {next} {first} before after x y k = record {
  new = waiting next w.names ++ waiting first (w.names + 1);
  is = k ∙ append_assoc before (waiting next w.names) (waiting first (w.names + 1));
  few = (let p = one_waits next w.names in let q = one_waits first (w.names + 1) in simp length-append (omega arith));
  only = λ v c. elim (Contains-append_cases (waiting next w.names) (waiting first (w.names + 1)) v c) [
    | inl z ↦ (let r = waits_for next w.names v z in subst (λ u. LeadsDown a w u) (sym r.2) (on ((x.each r.0).0 r.1)))
    | inr z ↦ (let r = waits_for first (w.names + 1) v z in let d = (y.each r.0).0 r.1 in
        subst (λ u. LeadsDown a w u) (sym r.2) (down d.0 d.1 d.2))
  ];
  whole = λ v l. all w v refl l;
}
  where
    all : (u v : Waiting) → u ≡ w → LeadsDown a u v → Contains (waiting next w.names ++ waiting first (w.names + 1)) v
    all u v e (on {h = h} {g = g} {n = n} i) =
        let p : h ≡ w.header = ap (λ z. z.header) e in
        let q : n ≡ w.names = ap (λ z. z.names) e in
        subst (λ k. Contains (waiting next w.names ++ waiting first (w.names + 1)) (at_names g k)) (sym q)
        (Contains-append_left (waiting next w.names) (waiting first (w.names + 1)) (at_names g w.names)
        (is_waiting next w.names g ((x.each g).1 (subst (λ k. IsNext a k g) p i))))
    all u v e (down {h = h} {g = g} {n = n} z o f) =
        let p : h ≡ w.header = ap (λ z. z.header) e in
        let q : n ≡ w.names = ap (λ z. z.names) e in
        subst (λ k. Contains (waiting next w.names ++ waiting first (w.names + 1)) (at_names g (k + 1))) (sym q)
        (Contains-append_right (waiting next w.names) (waiting first (w.names + 1)) (at_names g (w.names + 1))
        (is_waiting first (w.names + 1) g ((y.each g).1
        (subst (λ k. (k ≢ root a) × Opens a k × IsFirst a k g) p (z, o, f)))))

-- v has been marked, lies outside, or is still to come
abbrev pub IsSettled : List ℕ → List Waiting → List Bool → Waiting → Type 0
IsSettled a todo marks v = Contains todo v ⊎ (¬ IsInside a v.header) ⊎ IsMarked marks v.header

-- what waits is below as many names as it says, what the marked lead down to is settled, and deep
-- is the least of the marked that are too deep
pub record Descends (a : List ℕ) (todo : List Waiting) (marks : List Bool) (deep : Option ℕ) : Type 0 where
  pub sized : length marks ≡ length a / 16
  pub waits : (w : Waiting) → Contains todo w → StandsBelow a w.names w.header
  pub low : (w : Waiting) → Contains todo w → w.names + unmarked marks ≤ length marks
  pub closed : (k n : ℕ) (v : Waiting) → get_or marks k false ≡ true → StandsBelow a n (k * 16) → LeadsDown a (at_names (k * 16) n) v
      → IsSettled a todo marks v
  pub start : (h : ℕ) → IsFirst a (root a) h → IsSettled a todo marks (at_names h 0)
  pub holds : IfSome deep (λ h. BreaksHeader Usual a TooDeep h)
  pub least : (k : ℕ) → get_or marks k false ≡ true → BreaksHeader Usual a TooDeep (k * 16) → IsSomeAnd deep (λ h. h ≤ k * 16)

-- what falls with each step: the headers to come, and twice those without a mark
unfoldable pub left : List Waiting → List Bool → ℕ
left todo marks = length todo + 2 * unmarked marks

few_names : (a : List ℕ) (w v : Waiting) → LeadsDown a w v → v.names ≤ w.names + 1
few_names a w v (on i) = omega arith
few_names a w v (down z o f) = omega arith

-- the lower of a header and of one that was found before, if there is one
abbrev pub lower : ℕ → Option ℕ → ℕ
lower h deep = option_map_or (λ g. min g h) deep h

lower_new : (h : ℕ) (deep : Option ℕ) → lower h deep ≤ h
lower_new h None = omega arith
lower_new h (Some g) = omega arith

lower_old : (h : ℕ) (deep : Option ℕ) (q : ℕ) → IsSomeAnd deep (λ g. g ≤ q) → lower h deep ≤ q
lower_old h None q x = absurd x
lower_old h (Some g) q x = omega arith

lower_holds : (P : ℕ → Type 0) (h : ℕ) (deep : Option ℕ) → IfSome deep P → P h → P (lower h deep)
lower_holds P h None x p = p
lower_holds P h (Some g) x p = elim (cases_eq (min g h) g) [
  | inl e ↦ rw e x
  | inr n ↦ (let e : min g h ≡ h = omega arith in rw e p)
]

there_is : (P : ℕ → Type 0) (o : Option ℕ) → IsSomeAnd o P → (g : ℕ) × (o ≡ Some g) × P g
there_is P None x = absurd x
there_is P (Some g) x = (g, refl, x)

module _ (a : List ℕ) (keeps : KeepsAllHeaderRules Usual a) where
  -- what w leads to is below as many names as it says
  below_too : (w v : Waiting) → StandsBelow a w.names w.header → LeadsDown a w v → StandsBelow a v.names v.header
  below_too w v s (on {h = h} {g = g} {n = n} i) = record
      { dir = s.dir; below = s.below; opened = s.opened; in_chain = (suc s.in_chain.0, (h, s.in_chain.1, i)) }
  below_too w v s (down {h = h} {g = g} {n = n} z o f) =
      let m : IsMember a s.dir h = record { opened = s.opened; in_chain = s.in_chain; kept = elim [ inl x ↦ z x.1 | inr x ↦ o.kept x ] } in
      let e : suc n ≡ n + 1 = omega arith in
      subst (λ k. StandsBelow a k g) e (record {
        dir = h;
        below = (s.dir, s.below, m);
        opened = below s.opened
            s.in_chain m.kept o.inside o.kind;
        in_chain = (zero, f);
      })

  slot_of : (n h : ℕ) → StandsBelow a n h → h / 16 * 16 ≡ h
  slot_of n h s = cleared_in_chain a s.dir h s.in_chain

  -- if nothing is left to come, all is marked
  module _ (marks : List Bool) (deep : Option ℕ) (d : Descends a [] marks deep) where
    settled : (v : Waiting) → IsInside a v.header → IsSettled a [] marks v → IsMarked marks v.header
    settled v i (inl c) = absurd (none_in v c)
    settled v i (inr (inl n)) = absurd (n i)
    settled v i (inr (inr m)) = m

    led_marked : (n h : ℕ) (v : Waiting) → StandsBelow a n h → IsMarked marks h → LeadsDown a (at_names h n) v → IsInside a v.header
        → IsMarked marks v.header
    led_marked n h v s m l i =
        let e = slot_of n h s in
        settled v i (d.closed (h / 16) n v m (subst (λ y. StandsBelow a n y) (sym e) s) (subst (λ y. LeadsDown a (at_names y n) v)
        (sym e) l))

    along : (n c : ℕ) → IsBelow a n c → IsOpened a c
        → ((g : ℕ) → IsFirst a c g → IsInside a g → IsMarked marks g) → (i h : ℕ) → IsAt a c i h
        → IsInside a h → IsMarked marks h
    along n c b o f zero h x j = f h x j
    along n c b o f (suc i) h x j =
        let s : StandsBelow a n x.0 = record { dir = c; below = b; opened = o; in_chain = (i, x.1) } in
        led_marked n x.0 (at_names h n) s (along n c b o f i x.0 x.1 x.2.0) (on x.2) j

    firsts : (n c g : ℕ) → IsBelow a n c → IsOpened a c → IsFirst a c g → IsInside a g → IsMarked marks g
    firsts zero c g b o f j = settled (at_names g 0) j (d.start g (subst (λ y. IsFirst a y g) b f))
    firsts (suc n) c g b o f j =
        let z = no_root a keeps b.0 c b.2 in
        let p : Opens a c = elim ((opened a c).0 o) [ inl e ↦ absurd (z e) | inr x ↦ x.2 ] in
        let m = along n b.0 b.1 b.2.opened (λ h x. firsts n b.0 h b.1 b.2.opened x) b.2.in_chain.0 c b.2.in_chain.1 p.inside in
        led_marked n c (at_names g (n + 1)) (stands_member a keeps n b.0 c b.1 b.2) m (down z p f) j

    -- if nothing is left to come, deep is the least header that is too deep
    pub found : IsLeast (λ h. BreaksHeader Usual a TooDeep h) deep
    found = record {
      is = λ h e. (rw e at d.holds);
      whole = λ g x.
          let y = deep_at a keeps g x in
          let b = y.3 in
          let m = y.4 in
          let e = cleared_in_chain a y.2 g m.in_chain in
          let k = along y.0 y.2 b m.opened (λ h z. firsts y.0 y.2 h b m.opened z) m.in_chain.0 g m.in_chain.1
          (inside_member a keeps y.2 g m) in
          there_is (λ h. h ≤ g) deep (subst (λ q. IsSomeAnd deep (λ h. h ≤ q)) e
          (d.least (g / 16) k (subst (λ q. BreaksHeader Usual a TooDeep q) (sym e) x)));
    }

  -- the walk begins with the root's first header to come, no marks and nothing found
  pub begun : (todo : List Waiting) (marks : List Bool) (first : Option ℕ) → length marks ≡ length a / 16
      → ((k : ℕ) → get_or marks k false ≡ false)
      → IsTheOne (IsFirst a (root a)) first → todo ≡ waiting first 0 → Descends a todo marks None
  begun todo marks first s e f t = record {
    sized = s;
    waits = λ w c. (let r = waits_for first 0 w (subst (λ x. Contains x w) t c) in
        subst (λ v. StandsBelow a v.names v.header) (sym r.2)
        (record {
          dir = root a;
          below = refl;
          opened = at_root refl;
          in_chain = (zero, (f.each r.0).0 r.1);
        }));
    low = λ w c. (let r = waits_for first 0 w (subst (λ x. Contains x w) t c) in
        let z : w.names ≡ 0 = ap (λ v. v.names) r.2 in let u = few_marks marks in omega arith);
    closed = λ k n v m x l. absurd (true≢false (sym m ∙ e k));
    start = λ h x. inl (subst (λ y. Contains y (at_names h 0)) (sym t) (is_waiting first 0 h ((f.each h).1 x)));
    holds = tt;
    least = λ k m x. absurd (true≢false (sym m ∙ e k));
  }

  -- the list ends with the header that is taken
  module _ (todo rest : List Waiting) (marks : List Bool) (deep : Option ℕ) (w : Waiting) (taken : todo ≡ rest ++ w ∷ [])
      (d : Descends a todo marks deep) where
    was_waiting : (v : Waiting) → Contains rest v → Contains todo v
    was_waiting v c = subst (λ x. Contains x v) (sym taken) (Contains-append_left rest (w ∷ []) v c)

    itself : Contains todo w
    itself = subst (λ x. Contains x w) (sym taken) (Contains-append_right rest (w ∷ []) w (has_one w))

    -- the header that is taken is below as many names as it says
    pub stands : StandsBelow a w.names w.header
    stands = d.waits w itself

    waits_or_is : (v : Waiting) → Contains todo v → Contains rest v ⊎ (w ≡ v)
    waits_or_is v c = elim (Contains-append_cases rest (w ∷ []) v (subst (λ x. Contains x v) taken c)) [
      | inl x ↦ inl x
      | inr x ↦ inr
          (one_in w v x)
    ]

    module _ (s : (¬ IsInside a w.header) ⊎ IsMarked marks w.header) where
      let_go : (v : Waiting) → IsSettled a todo marks v → IsSettled a rest marks v
      let_go v (inr r) = inr r
      let_go v (inl c) = elim (waits_or_is v c) [
        | inl x ↦ inl x
        | inr e ↦ inr
            (subst (λ u. (¬ IsInside a u.header) ⊎ IsMarked marks u.header) e s)
      ]

      -- a header that lies outside, or has a mark, is dropped
      pub step_stale : Descends a rest marks deep
      step_stale = record {
        sized = d.sized;
        waits = λ v c. d.waits v (was_waiting v c);
        low = λ v c. d.low v (was_waiting v c);
        closed = λ k n v m x l. let_go v (d.closed k n v m x l);
        start = λ h x. let_go (at_names h 0) (d.start h x);
        holds = d.holds;
        least = d.least;
      }

    long : length todo ≡ length rest + 1
    long = rw taken (length-append rest (w ∷ []))

    -- a header that is dropped leaves less to do
    pub less_stale : left rest marks < left todo marks
    unfolding left
    less_stale = let l = long in omega arith

    -- the header that is taken, if it has no mark, has fewer names than there are slots
    pub names_fit : w.header / 16 < length marks → get_or marks (w.header / 16) false ≡ false → w.names + 1 ≤ length marks
    names_fit fits free = let m = marks_fall marks (w.header / 16) fits free in let l = d.low w itself in omega arith

    module _ (fits : w.header / 16 < length marks) (free : get_or marks (w.header / 16) false ≡ false)
        (after : List Waiting) (f : Adds (LeadsDown a w) rest after) where
      abbrev marked_too : List Bool
      marked_too = set marks (w.header / 16) true

      fewer : unmarked marked_too + 1 ≡ unmarked marks
      fewer = marks_fall marks (w.header / 16) fits free

      comes : (v : Waiting) → Contains f.new v → Contains after v
      comes v c = rw (f.is) (Contains-append_right rest f.new v c)

      from_rest : (v : Waiting) → Contains after v → Contains rest v ⊎ Contains f.new v
      from_rest v c = Contains-append_cases rest f.new v (rw (f.is) at c)

      moves : (v : Waiting) → IsSettled a todo marks v → IsSettled a after marked_too v
      moves v (inr (inl n)) = inr (inl n)
      moves v (inr (inr m)) = inr (inr (still_set marks (w.header / 16) (v.header / 16) fits m))
      moves v (inl c) = elim (waits_or_is v c) [
        | inl x ↦ inl (rw (f.is) (Contains-append_left rest f.new v x))
        | inr e ↦ inr (inr (subst (λ u. IsMarked marked_too u.header) e (newly_set marks (w.header / 16) fits)))
      ]

      slot : w.header / 16 * 16 ≡ w.header
      slot = slot_of w.names w.header stands

      leads : (k n : ℕ) (v : Waiting) → k ≡ w.header / 16 → StandsBelow a n (k * 16) → LeadsDown a (at_names (k * 16) n) v → LeadsDown a w v
      leads k n v e x l =
          let h : k * 16 ≡ w.header = ap (λ y. y * 16) e ∙ slot in
          let q : n ≡ w.names = one_standing a keeps n w.names w.header (subst (λ y. StandsBelow a n y) h x) stands in
          subst (λ y. LeadsDown a (at_names w.header y) v) q (subst (λ y. LeadsDown a (at_names y n) v) h l)

      low_too : (v : Waiting) → Contains after v → v.names + unmarked marked_too ≤ length marked_too
      low_too v c =
          let q = length-set marks (w.header / 16) true in
          let u = fewer in
          elim (from_rest v c) [
            | inl x ↦ (let y = d.low v (was_waiting v x) in omega arith)
            | inr x ↦ (let y = d.low w itself in let z = few_names a w v (f.only v x) in omega arith)
          ]

      module _ (now : Option ℕ) (n : NotesDeep a w deep now) where
        holds_too : IfSome now (λ h. BreaksHeader Usual a TooDeep h)
        holds_too = elim n [
          | inl x ↦ rw (x.1) (lower_holds (λ h. BreaksHeader Usual a TooDeep h) w.header deep d.holds (is_deep a keeps w stands x.0))
          | inr x ↦ rw (x.1) (d.holds)
        ]

        least_itself : BreaksHeader Usual a TooDeep w.header → IsSomeAnd now (λ h. h ≤ w.header)
        least_itself b = elim n [
          | inl x ↦ rw (x.1) (lower_new w.header deep)
          | inr x ↦ absurd (x.0 (too_deep a keeps w stands b))
        ]

        least_before : (q : ℕ) → IsSomeAnd deep (λ h. h ≤ q) → IsSomeAnd now (λ h. h ≤ q)
        least_before q y = elim n [
          | inl x ↦ rw (x.1) (lower_old w.header deep q y)
          | inr x ↦ rw (x.1) y
        ]

        -- a header is marked and noted, and what it leads down to comes
        pub step_fresh : Descends a after marked_too now
        step_fresh = record {
          sized = length-set marks (w.header / 16) true ∙ d.sized;
          waits = λ v c. elim (from_rest v c) [ inl x ↦ d.waits v (was_waiting v x) | inr x ↦ below_too w v stands (f.only v x) ];
          low = low_too;
          closed = λ k m v s x l. elim (was_set marks (w.header / 16) k s) [
            | inl e ↦ inl (comes v (f.whole v (leads k m v e x l)))
            | inr o ↦ moves v (d.closed k m v o x l)
          ];
          start = λ h x. moves (at_names h 0) (d.start h x);
          holds = holds_too;
          least = λ k m x. elim (was_set marks (w.header / 16) k m) [
            | inl e ↦ (let h : k * 16 ≡ w.header = ap (λ y. y * 16) e ∙ slot in
                subst (λ q. IsSomeAnd now (λ h. h ≤ q)) (sym h)
                (least_itself (subst (λ q. BreaksHeader Usual a TooDeep q) h x)))
            | inr o ↦ least_before (k * 16) (d.least k o x)
          ];
        }

      -- a header that is newly marked leaves less to do, with all that it adds
      pub less_fresh : left after marked_too < left todo marks
      unfolding left
      less_fresh =
          let l = long in
          let m : length after ≡ length rest + length f.new = rw (f.is) (length-append rest f.new) in
          let u = fewer in
          let n = f.few in
          omega arith
