-- The lines below a directory are those of its children in order, each followed by the lines below it: `all_below`. It traverses the
-- entries with the child that it is in; `outside`, `child` and `deeper` are its three steps, and `IsLeft` is what a step may assume.
use Rattle.std.proofs.Common.{◌≡◌, ◌∙◌, sym, ap, ℕ, ◌⊎◌, inl, inr, List, [], ◌∷◌, ◌++◌, refl, Option, Some, None, true, false, append_assoc}
use Rattle.std.specs.Prelude.{flat_map, filter_map}
use Rattle.std.specs.declared.cmp.Ordering.{Ordering}
use Rattle.std.specs.declared.cmp.Ordering.TheVariants.{Less, Equal, Greater}
use Rattle.std.specs.Ordering.{ordering_then, ordering_reverse}
use Rattle.std.proofs.lemmas.Cmp.{nat_list_cmp_total}
use Rattle.layer_paths.specs.Rows.{name_cmp}
use Rattle.layer_paths.proofs.Names.{same_or_not, not_below_itself}
use Rattle.stack_model.specs.Stack.{Path}
use Rattle.stack_model.specs.Listing.{Entry, Stacked, path_cmp, Rises, IsAmong}
use Rattle.stack_model.specs.Numbers.{Child, place, name_below, child_in}
use Rattle.node_list.specs.Lines.{line_of, line}
use Rattle.node_list.specs.Below.{after, is_below, below, AreTree}
use Rattle.node_list.proofs.Paths.{under_same, comes_later, not_both, after_is, is_after, below_name, below_none, below_top, only_name, name_is, later}

less_both : (m n : List ℕ) → name_cmp m n ≡ Less → name_cmp n m ≡ Less → ⊥
less_both m n d e = not_below_itself m (nat_list_cmp_total.trans m n m d e)

less_equal : (m n : List ℕ) → name_cmp m n ≡ Less → name_cmp n m ≡ Equal → ⊥
less_equal m n d e = let s = nat_list_cmp_total.antisymm m n in let r : Less ≡ Equal = sym d ∙ s ∙ ap ordering_reverse e in cc

-- nothing below a name comes after a later name
between : (m n : List ℕ) (r : Path) → path_cmp (m ∷ []) (n ∷ []) ≡ Less → path_cmp (n ∷ []) (m ∷ r) ≡ Less → ⊥
between m n r d e = go (name_cmp m n) (name_cmp n m) refl refl d e
  where
    go : (o p : Ordering) → o ≡ name_cmp m n → p ≡ name_cmp n m → ordering_then o Equal ≡ Less → ordering_then p (path_cmp [] r) ≡ Less → ⊥
    go Less Less f g d e = less_both m n (sym f) (sym g)
    go Less Equal f g d e = less_equal m n (sym f) (sym g)
    go Less Greater f g d e = cc
    go Equal p f g d e = cc
    go Greater p f g d e = cc

module _ (stack : Stacked) (top : Path) where
  abbrev layers : List (List ℕ)
  layers = stack.layers

  abbrev entries : List Entry
  entries = stack.entries

  abbrev kids : List Entry → List Child
  kids es = filter_map (child_in top) es

  -- what is printed of a child: its line, and those of all below it
  abbrev pub piece : Child → List ℕ
  piece c = line_of stack c.place (top ++ c.name ∷ []) ++ flat_map (line stack) (below entries (top ++ c.name ∷ []))

  -- what is left below the child that the walk is in
  abbrev current : Option (List ℕ) → List Entry → List Entry
  current None es = []
  current (Some m) es = below es (top ++ m ∷ [])

  no_more : (q : Path) (e : Entry) (es : List Entry) → is_below q e.path ≡ false → below (e ∷ es) q ≡ below es q
  unfolding below
  no_more q e es f = rw f refl

  one_more : (q : Path) (e : Entry) (es : List Entry) → is_below q e.path ≡ true → below (e ∷ es) q ≡ e ∷ below es q
  unfolding below
  one_more q e es f = rw f refl

  no_kid : (e : Entry) (es : List Entry) → name_below top e.path ≡ None → kids (e ∷ es) ≡ kids es
  no_kid e es f = rw f refl

  one_kid : (e : Entry) (es : List Entry) (n : List ℕ) → name_below top e.path ≡ Some n → kids (e ∷ es) ≡ record {
    name = n;
    place = place e;
  } ∷ kids es
  one_kid e es n f = rw f refl

  same_current : (cur : Option (List ℕ)) (e : Entry) (es : List Entry) → ((x : List ℕ) → is_below (top ++ x ∷ []) e.path ≡ false)
      → current cur (e ∷ es) ≡ current cur es
  same_current None e es f = refl
  same_current (Some m) e es f = no_more (top ++ m ∷ []) e es (f m)

  nothing_below : (q : Path) (es : List Entry) → ((f : Entry) → IsAmong f es → is_below q f.path ≡ false) → below es q ≡ []
  unfolding below
  nothing_below q [] f = refl
  nothing_below q (e ∷ es) f = rw (f e (inl refl)) (nothing_below q es (λ g a. f g (inr a)))

  -- what is known of the entries that are left
  record IsLeft (cur : Option (List ℕ)) (es : List Entry) : Type 0 where
    pub rises : Rises es
    pub late : (m : List ℕ) → cur ≡ Some m → (e : Entry) → IsAmong e es → path_cmp (top ++ m ∷ []) e.path ≡ Less
    pub closed : (e : Entry) → IsAmong e es → (n k : List ℕ) (r : Path) → after top e.path ≡ Some (n ∷ k ∷ r) → (cur ≡ Some n)
        ⊎ ((d : Entry) × IsAmong d es × (d.path ≡ top ++ n ∷ []))
    pub whole : (d : Entry) → IsAmong d es → (x : List ℕ) → d.path ≡ top ++ x ∷ [] → below entries (top ++ x ∷ [])
        ≡ below es (top ++ x ∷ [])

  -- all that is left is below the child that the walk is in, or is one of the other children and
  -- what is below it
  abbrev IsSpread : Option (List ℕ) → List Entry → Type 0
  IsSpread cur es = flat_map (line stack) (below es top) ≡ flat_map (line stack) (current cur es)
      ++ flat_map piece (kids es)

  not_kid : (e d : Entry) (n k x : List ℕ) (r : Path) → after top e.path ≡ Some (n ∷ k ∷ r) → e ≡ d → d.path ≡ top ++ x ∷ [] → ⊥
  not_kid e d n k x r f i p = let g : after top e.path ≡ Some (x ∷ []) = rw (i, p) (is_after top (x ∷ [])) in let h : Some (n ∷ k ∷ r)
      ≡ Some (x ∷ []) = sym f ∙ g in cc

  -- an entry that is not below the directory
  outside : (cur : Option (List ℕ)) (e : Entry) (es : List Entry) → ((x : List ℕ) → is_below (top ++ x ∷ []) e.path ≡ false)
      → is_below top e.path ≡ false → only_name (after top e.path) ≡ None → IsLeft cur (e ∷ es) → (IsLeft cur es → IsSpread cur es)
      → IsSpread cur (e ∷ es)
  outside cur e es apart out name l on =
      let rest : IsLeft cur es = record {
        rises = l.rises.1;
        late = λ m i f a. l.late m i f (inr a);
        closed = λ f a n k r g. elim (l.closed f (inr a) n k r g) [
          | inl i ↦ inl i
          | inr (d, b, p) ↦ elim b [
            | inl i ↦ absurd (let h : after top e.path ≡ Some (n ∷ []) = rw (sym i, p) (is_after top (n ∷ [])) in let z = rw h at name in
                cc)
            | inr b ↦ inr (d, b, p)
          ]
        ];
        whole = λ d a x p. l.whole d (inr a) x p ∙ no_more (top ++ x ∷ []) e es (apart x);
      } in
      rw (no_more top e es out, same_current cur e es apart, no_kid e es (name_is top e.path ∙ name)) (on rest)

  -- a child
  child : (cur : Option (List ℕ)) (e : Entry) (es : List Entry) (n : List ℕ) → after top e.path ≡ Some (n ∷ []) → IsLeft cur (e ∷ es)
      → (IsLeft (Some n) es → IsSpread (Some n) es) → IsSpread cur (e ∷ es)
  child cur e es n f l on =
      let p : e.path ≡ top ++ n ∷ [] = after_is top e.path (n ∷ []) f in
      let at : path_cmp (top ++ n ∷ []) (top ++ n ∷ []) ≡ path_cmp (top ++ n ∷ []) (top ++ n ∷ []) = refl in
      let no : (x : List ℕ) → is_below (top ++ x ∷ []) e.path ≡ false =
      λ x. elim (same_or_not x n) [ inl s ↦ (below_name top e.path [] x n f).0 s.0 | inr s ↦ (below_name top e.path [] x n f).1 s.0 ] in
      let after_e : (g : Entry) → IsAmong g es → path_cmp (top ++ n ∷ []) g.path ≡ Less = λ g a. rw (sym p) (later e es g l.rises.0 a) in
      let never : (m : List ℕ) → cur ≡ Some m → (g : Entry) → IsAmong g es → (r : Path) → g.path ≡ top ++ m ∷ r → ⊥ = λ m i g a r q.
      between m n r
      (sym (under_same top (m ∷ []) (n ∷ [])) ∙ rw p at (l.late m i e (inl refl)))
      (sym (under_same top (n ∷ []) (m ∷ r)) ∙ rw q at (after_e g a)) in
      let rest : IsLeft (Some n) es = record {
        rises = l.rises.1;
        late = λ m i g a. let j : n ≡ m = cc in rw (sym j) (after_e g a);
        closed = λ g a m k r h. elim (l.closed g (inr a) m k r h) [
          | inl i ↦ absurd (never m i g a (k ∷ r) (after_is top g.path (m ∷ k ∷ r) h))
          | inr (d, b, q) ↦ elim b [
            | inl i ↦ inl (let j : after top e.path ≡ Some (m ∷ []) = rw (sym i, q) (is_after top (m ∷ [])) in let z : Some (n ∷ [])
                ≡ Some (m ∷ []) = sym f ∙ j in cc)
            | inr b ↦ inr (d, b, q)
          ]
        ];
        whole = λ d a x q. l.whole d (inr a) x q ∙ no_more (top ++ x ∷ []) e es (no x);
      } in
      let none : current cur es ≡ [] = empty cur never in
      let same : below entries (top ++ n ∷ []) ≡ below es (top ++ n ∷ []) = l.whole e (inl refl) n p
      ∙ no_more (top ++ n ∷ []) e es (no n) in
      let text : line stack e ≡ line_of stack (place e) (top ++ n ∷ []) = ap (line_of stack (place e)) p in
      rw (
        one_more top e es (rw f refl),
        same_current cur e es no,
        none,
        one_kid e es n (name_is top e.path ∙ rw f refl),
        same,
        text,
        on rest,
      )
      (sym (append_assoc (line_of stack (place e) (top ++ n ∷ [])) (flat_map (line stack) (below es (top ++ n ∷ [])))
      (flat_map piece (kids es))))
    where
      empty : (cur : Option (List ℕ)) → ((m : List ℕ) → cur ≡ Some m → (g : Entry) → IsAmong g es → (r : Path) → g.path ≡ top ++ m ∷ r → ⊥)
          → current cur es ≡ []
      empty None never = refl
      empty (Some m) never = nothing_below (top ++ m ∷ []) es (λ g a. not_in (after top g.path) g refl (λ r. never m refl g a r))
        where
          not_in : (o : Option Path) (g : Entry) → after top g.path ≡ o → ((r : Path) → g.path ≡ top ++ m ∷ r → ⊥)
              → is_below (top ++ m ∷ []) g.path ≡ false
          not_in None g f n = below_none top g.path m f
          not_in (Some []) g f n = below_top top g.path m f
          not_in (Some (k ∷ r)) g f n = elim (same_or_not m k) [
            | inl s ↦ absurd (n r (rw s.0 (after_is top g.path (k ∷ r) f)))
            | inr s ↦ (below_name top g.path r m k f).1 s.0
          ]

  -- an entry below a child
  deeper : (cur : Option (List ℕ)) (e : Entry) (es : List Entry) (n k : List ℕ) (r : Path) → after top e.path ≡ Some (n ∷ k ∷ r)
      → IsLeft cur (e ∷ es) → cur ≡ Some n → (IsLeft cur es → IsSpread cur es) → IsSpread cur (e ∷ es)
  deeper None e es n k r f l i on = absurd (cc)
  deeper (Some m) e es n k r f l i on =
      let s : m ≡ n = cc in
      let p : e.path ≡ top ++ n ∷ k ∷ r = after_is top e.path (n ∷ k ∷ r) f in
      let rest : IsLeft (Some m) es = record {
        rises = l.rises.1;
        late = λ x j g a. l.late x j g (inr a);
        closed = λ g a x y q h. elim (l.closed g (inr a) x y q h) [
          | inl j ↦ inl j
          | inr (d, b, t) ↦ elim b [ inl j ↦ absurd (not_kid e d n k x r f (sym j) t) | inr b ↦ inr (d, b, t) ]
        ];
        whole = λ d a x t.
            l.whole d (inr a) x t
            ∙ no_more (top ++ x ∷ []) e es (elim (same_or_not x n) [
              | inl u ↦ absurd (child_first es e d n k r p (later e es d l.rises.0 a) (t ∙ ap (λ w. top ++ w ∷ []) u.0))
              | inr u ↦ (below_name top e.path (k ∷ r) x n f).1 u.0
            ]);
      } in
      rw (
        one_more top e es (rw f refl),
        one_more (top ++ m ∷ []) e es ((below_name top e.path (k ∷ r) m n f).0 s),
        no_kid e es (name_is top e.path ∙ rw f refl),
        on rest,
      )
      (sym (append_assoc (line stack e) (flat_map (line stack) (below es (top ++ m ∷ []))) (flat_map piece (kids es))))
    where
      child_first : (es : List Entry) (e d : Entry) (n k : List ℕ) (r : Path) → e.path ≡ top ++ n ∷ k ∷ r → path_cmp e.path d.path ≡ Less
          → d.path ≡ top ++ n ∷ [] → ⊥
      child_first es e d n k r p c t = not_both (top ++ n ∷ k ∷ r) (top ++ n ∷ []) (rw (p, t) at c) (under_same top (n ∷ []) (n ∷ k ∷ r)
          ∙ comes_later (n ∷ []) r k)

  nothing_left : flat_map (line stack) (below [] top) ≡ []
  unfolding below
  nothing_left = refl

  none_left : (q : Path) → flat_map (line stack) (below [] top) ≡ flat_map (line stack) (below [] q) ++ []
  unfolding below
  none_left q = refl

  spread : (cur : Option (List ℕ)) (es : List Entry) → IsLeft cur es → IsSpread cur es
  spread None [] l = nothing_left
  spread (Some m) [] l = none_left (top ++ m ∷ [])
  spread cur (e ∷ es) l = go (after top e.path) refl (λ c. spread c es)
    where
      go : (o : Option Path) → after top e.path ≡ o → ((c : Option (List ℕ)) → IsLeft c es → IsSpread c es) → IsSpread cur (e ∷ es)
      go None f on = outside cur e es (λ x. below_none top e.path x f) (rw f refl) (rw f refl) l (on cur)
      go (Some []) f on = outside cur e es (λ x. below_top top e.path x f) (rw f refl) (rw f refl) l (on cur)
      go (Some (n ∷ [])) f on = child cur e es n f l (on (Some n))
      go (Some (n ∷ k ∷ r)) f on = elim (l.closed e (inl refl) n k r f) [
        | inl i ↦ deeper cur e es n k r f l i (on cur)
        | inr (d, b, p) ↦ elim b [
          | inl i ↦ absurd (not_kid e d n k n r f (sym i) p)
          | inr b ↦ absurd (not_both (top ++ n ∷ k ∷ r) (top ++ n ∷ []) (rw (after_is top e.path (n ∷ k ∷ r) f, p) at
              (later e es d l.rises.0 b)) (under_same top (n ∷ []) (n ∷ k ∷ r) ∙ comes_later (n ∷ []) r k))
        ]
      ]

  -- the lines below a directory are its children's pieces, in order
  pub all_below : AreTree layers entries → flat_map (line stack) (below entries top)
      ≡ flat_map piece (filter_map (child_in top) entries)
  all_below t = spread None entries (record {
    rises = t.rising;
    late = λ m i e a. absurd (cc);
    closed = λ e a n k r f. let d = t.above e (top ++ n ∷ []) r k a (after_is top e.path (n ∷ k ∷ r) f
        ∙ sym (append_assoc top (n ∷ []) (k ∷ r))) in inr (d.0, d.1, d.2);
    whole = λ d a x p. refl;
  })
