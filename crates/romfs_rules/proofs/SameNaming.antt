-- Members with the same name, by their numbers. Of two headers in a chain one comes after the other
-- (one_follows), and so do their numbers (forth, back), so a climb along next numbers that notes by
-- classes notes the headers with the name of a lower one (noted_right, noted_whole, same_names).
use Rattle.std.proofs.Common.{◌≡◌, ◌≢◌, ◌∙◌, sym, ap, subst, ℕ, zero, suc, ◌*◌, ◌/◌, ◌<◌, ◌⊎◌, inl, inr, List, [], length, get_or, Bool, true, false, Option, Some, None, IsSome, bytes_eq, codes, if◌then◌else◌, refl, arith}
use Rattle.std.proofs.lemmas.Bool.{cases_eq, cases_order, false≢true, eqb-true, eq-eqb}
use Rattle.std.proofs.lemmas.Slice.Eq.{bytes_eq-Decides}
use Rattle.std.specs.Prelude.{◌==◌, ◌||◌, Contains}
use Rattle.romfs_format.specs.Fields.{root, IsInside, name, next, is_dot_name}
use Rattle.romfs_format.specs.Chains.{IsNext, IsAt, IsInChain, IsPassedOver, IsDotted, IsOpened, IsMember}
use Rattle.romfs_rules.specs.Marks.{IsElsewhere, HasSameName, AreMarks}
use Rattle.romfs_sets.specs.Climb.{After, one, more, AreNoted}
use Rattle.romfs_sets.specs.Names.{AreNamesApart}
use Rattle.romfs_rules.specs.Names.{unless_dotted, kept_name, AreClassesOf}
use Rattle.romfs_sets.specs.Listed.{AreCollected}
use Rattle.romfs_rules.specs.SameNames.{IsLinked, AreNumbered, IsNextNumber, AreNextNumbers, AreChosen, HaveSameNames}
use Rattle.romfs_rules.specs.Leads.{IsInSomeChain}
use Rattle.romfs_rules.proofs.Standing.{in_some_chain}
use Rattle.romfs_rules.proofs.Links.{standing}
use Rattle.romfs_rules.proofs.Slots.{cleared_in_chain}
use Rattle.romfs_sets.specs.Sets.{rank}
use Rattle.romfs_sets.proofs.Ranks.{rank_below}

-- g comes after h along next
pub data Follows (a : List ℕ) : ℕ → ℕ → Type 0 where
  next_one : {h g : ℕ} → IsNext a h g → Follows a h g
  later : {h g k : ℕ} → IsNext a h g → Follows a g k → Follows a h k

module _ (a : List ℕ) where
  follows_next : {h g k : ℕ} → Follows a h g → IsNext a g k → Follows a h k
  follows_next (next_one n) m = later n (next_one m)
  follows_next (later n x) m = later n (follows_next x m)

  starts_inside : {h g : ℕ} → Follows a h g → IsInside a h
  starts_inside (next_one n) = n.0
  starts_inside (later n x) = n.0

  in_chain_too : (d : ℕ) {h g : ℕ} → IsInChain a d h → Follows a h g → IsInChain a d g
  in_chain_too d {h = h} c (next_one n) = (suc c.0, (h, c.1, n))
  in_chain_too d {h = h} c (later n x) = in_chain_too d (suc c.0, (h, c.1, n)) x

  -- one header is at each position of a chain
  pub one_at : (d n h g : ℕ) → IsAt a d n h → IsAt a d n g → h ≡ g
  one_at d zero h g x y = x.0 ∙ sym y.0
  one_at d (suc n) h g x y = x.2.1 ∙ ap (next a) (one_at d n x.0 y.0 x.1 y.1) ∙ sym y.2.1

  later_follows : (d m n h g : ℕ) → m < n → IsAt a d m h → IsAt a d n g → Follows a h g
  later_follows d m zero h g l x y = absurd (omega arith)
  later_follows d m (suc n) h g l x y = elim (cases_order m n) [
    | inl e ↦ next_one (subst (λ k. IsNext a k g) (one_at d n y.0 h y.1 (subst (λ k. IsAt a d k h) e x)) y.2)
    | inr (inl k) ↦ follows_next (later_follows d m n h y.0 k x y.1) y.2
    | inr (inr k) ↦ absurd (omega arith)
  ]

  -- of two headers of one chain one comes after the other
  one_follows : (d h g : ℕ) → IsInChain a d h → IsInChain a d g → h ≢ g → Follows a h g ⊎ Follows a g h
  one_follows d h g x y n = elim (cases_order x.0 y.0) [
    | inl e ↦ absurd (n (one_at d y.0 h g (subst (λ k. IsAt a d k h) e x.1) y.1))
    | inr (inl l) ↦ inl (later_follows d x.0 y.0 h g l x.1 y.1)
    | inr (inr l) ↦ inr (later_follows d y.0 x.0 g h l y.1 x.1)
  ]

  -- a header in a chain is at a multiple of 16
  pub linked_clear : (h : ℕ) → IsLinked a h → h / 16 * 16 ≡ h
  linked_clear h l = cleared_in_chain a l.dir h l.stands.in_chain

  next_linked : (h g : ℕ) → IsLinked a h → IsNext a h g → IsInside a g → IsLinked a g
  next_linked h g l n i = record {
    inside = i;
    dir = l.dir;
    stands = record
        { opened = l.stands.opened; in_chain = (suc l.stands.in_chain.0, (h, l.stands.in_chain.1, n)) };
  }

  -- the list of the set's places has all linked headers, each at the number of its slot
  pub numbered : (set : List Bool) (heads : List ℕ) → AreMarks a (IsInSomeChain a) set → AreCollected set (length set) heads
      → AreNumbered a heads set
  numbered set heads r c = record {
    sized = r.sized;
    rising = c.rising;
    each = λ i l. (let k = c.each i l in rw (k.2) (linked k.0 k.3));
    place = λ h l. (
        let q = linked_clear h l in
        let i = l.inside.1 in
        let s = r.sized in
        let m = r.all h (in_some_chain a l.dir h l.stands.opened l.stands.in_chain) l.inside in
        let b = rank_below set (h / 16) (length set) m (omega arith) in
        let n = c.count in
        (omega arith, c.place (h / 16) (omega arith) m ∙ q));
  }
    where
      linked : (k : ℕ) → get_or set k false ≡ true → IsLinked a (k * 16)
      linked k m = let p = r.each k m in let s = standing a (k * 16) p.0 in record { inside = p.1; dir = s.0; stands = s.1 }

  -- the number of the header after one, if it lies inside, is how many of the set are before it
  pub next_number : {heads : List ℕ} {set : List Bool} {h : ℕ} → AreNumbered a heads set → IsLinked a h → (after : ℕ)
      → after ≡ next a h → after ≢ 0 → IsInside a after → IsNextNumber a heads h (rank set (after / 16))
  next_number {heads} {set} {h} n l after e z i =
      let p = n.place after (next_linked h after l (l.inside, e, z) i) in
      let b = p.0 in
      record {
        below = omega arith;
        only = λ k. subst (λ y. IsNext a h y) (sym p.1) (l.inside, e, z);
        all = λ g x j. (p.0, p.1 ∙ e ∙ sym x.1);
      }

-- the name that a header keeps
none_some : (q : List ℕ) → ◌≡◌ {A = Option (List ℕ)} None (Some q) → ⊥
none_some q e = cc

same_name : (n q : List ℕ) → ◌≡◌ {A = Option (List ℕ)} (Some n) (Some q) → n ≡ q
same_name n q e = cc

given : (b : Bool) (o : Option (List ℕ)) (q : List ℕ) → ◌≡◌ {A = Option (List ℕ)} (if b then None else o) (Some q)
    → (b ≡ false) × (o ≡ Some q)
given true o q e = absurd (none_some q e)
given false o q e = (refl, e)

gives : (b : Bool) (o : Option (List ℕ)) (q : List ℕ) → b ≡ false → o ≡ Some q → ◌≡◌ {A = Option (List ℕ)} (if b then None else o) (Some q)
gives true o q f e = absurd (false≢true (sym f))
gives false o q f e = e

neither : (b c : Bool) → (b || c) ≡ false → (b ≡ false) × (c ≡ false)
neither true c e = absurd (false≢true (sym e))
neither false c e = (refl, e)

both_false : (b c : Bool) → b ≡ false → c ≡ false → (b || c) ≡ false
both_false true c e f = absurd (false≢true (sym e))
both_false false c e f = f

differs : (n m : List ℕ) → bytes_eq n m ≡ false → n ≢ m
differs n m f e = absurd (false≢true (sym f ∙ (bytes_eq-Decides n m).1 e))

apart : (n m : List ℕ) → n ≢ m → bytes_eq n m ≡ false
apart n m d = go (bytes_eq n m) refl
  where
    go : (t : Bool) → bytes_eq n m ≡ t → bytes_eq n m ≡ false
    go true f = absurd (d ((bytes_eq-Decides n m).0 f))
    go false f = f

not_equal : (x y : ℕ) → x ≢ y → (x == y) ≡ false
not_equal x y d = go (x == y) refl
  where
    go : (t : Bool) → (x == y) ≡ t → (x == y) ≡ false
    go true f = absurd (d (eqb-true x y f))
    go false f = f

named : (o : Option (List ℕ)) (q : List ℕ) → unless_dotted o ≡ Some q → (o ≡ Some q) × (q ≢ codes ".") × (q ≢ codes "..")
named None q e = absurd (none_some q e)
named (Some n) q e =
    let r = given (is_dot_name n) (Some n) q e in
    let k = neither (bytes_eq n (codes ".")) (bytes_eq n (codes "..")) r.0 in
    let f = same_name n q r.1 in
    (r.1, λ z. differs n (codes ".") k.0 (f ∙ z), λ z. differs n (codes "..") k.1 (f ∙ z))

names : (o : Option (List ℕ)) (q : List ℕ) → o ≡ Some q → q ≢ codes "." → q ≢ codes ".." → unless_dotted o ≡ Some q
names None q e d f = absurd (none_some q e)
names (Some n) q e d f =
    let z = same_name n q e in
    gives (is_dot_name n) (Some n) q
    (both_false (bytes_eq n (codes ".")) (bytes_eq n (codes "..")) (apart n (codes ".") (λ y. d (sym z ∙ y)))
    (apart n (codes "..") (λ y. f (sym z ∙ y)))) e

-- a header that keeps a name is not the root's, has that name, and is not . or ..
pub kept : (a : List ℕ) (h : ℕ) (q : List ℕ) → kept_name a h ≡ Some q → (h ≢ root a) × (name a h ≡ Some q) × ¬ IsDotted a h
kept a h q e =
    let r = given (h == root a) (unless_dotted (name a h)) q e in
    let k = named (name a h) q r.1 in (
      λ z. absurd (false≢true (sym r.0 ∙ eq-eqb h (root a) z)),
      k.0,
      λ x. elim x.1 [ inl y ↦ k.1 (same_name q _ (sym k.0 ∙ y)) | inr y ↦ k.2 (same_name q _ (sym k.0 ∙ y)) ],
    )

-- a header inside that is not the root's, and not . or .., keeps its name
pub keeps : (a : List ℕ) (h : ℕ) (q : List ℕ) → h ≢ root a → IsInside a h → ¬ IsDotted a h → name a h ≡ Some q → kept_name a h ≡ Some q
keeps a h q n i d e =
    gives (h == root a) (unless_dotted (name a h)) q (not_equal h (root a) n)
    (names (name a h) q e (λ z. d (i, inl (e ∙ ap (λ y. Some y) z))) (λ z. d (i, inr (e ∙ ap (λ y. Some y) z))))

some_name : (o : Option (List ℕ)) (q : List ℕ) → o ≡ Some q → IsSome o
some_name o q e = rw e refl

-- what is known of the headers in chains, if the root's is in none but its own: all of them, each at its number
pub record IsOrdered (a heads : List ℕ) (set : List Bool) : Type 0 where
  pub numbered : AreNumbered a heads set
  pub alone : ¬ IsElsewhere a (root a)

module _ (a heads : List ℕ) (set : List Bool) (o : IsOrdered a heads set) where
  one_number : (i j : ℕ) → i < length heads → j < length heads → get_or heads i 0 ≡ get_or heads j 0 → i ≡ j
  one_number i j l k e = elim (cases_order i j) [
    | inl f ↦ f
    | inr (inl f) ↦ absurd (let r = o.numbered.rising i j f k in omega arith)
    | inr (inr f) ↦ absurd (let r = o.numbered.rising j i f l in omega arith)
  ]

  member_linked : (d h : ℕ) → IsMember a d h → IsInside a h → IsLinked a h
  member_linked d h k i = record { inside = i; dir = d; stands = record { opened = k.opened; in_chain = k.in_chain } }

  not_root : (d h : ℕ) → IsMember a d h → h ≢ root a
  not_root d h k e = elim (cases_eq d (root a)) [
    | inl f ↦ k.kept (inl (f, e))
    | inr f ↦ o.alone (record { dir = d; other = f; opened = k.opened; in_chain = subst (λ z. IsInChain a d z) e k.in_chain })
  ]

  its_name : (d h : ℕ) (q : List ℕ) → IsMember a d h → IsInside a h → name a h ≡ Some q → kept_name a h ≡ Some q
  its_name d h q k i e = keeps a h q (not_root d h k) i (λ x. k.kept (inr x)) e

  -- the numbers of a header and of one at a lower place, and the name that both have
  record AreNamesakes (upper lower : ℕ) : Type 0 where
    upper_within : upper < length heads
    lower_within : lower < length heads
    below : lower < upper
    called : List ℕ
    upper_named : kept_name a (get_or heads upper 0) ≡ Some called
    lower_named : kept_name a (get_or heads lower 0) ≡ Some called

  -- the numbers of a header and of one with its name, which one chain leads on to
  record Namesakes (h : ℕ) : Type 0 where
    upper : ℕ
    lower : ℕ
    alike : AreNamesakes upper lower
    upper_is : get_or heads upper 0 ≡ h
    upper_inside : IsInside a h
    lower_inside : IsInside a (get_or heads lower 0)
    along : Follows a h (get_or heads lower 0) ⊎ Follows a (get_or heads lower 0) h

  namesakes : (h : ℕ) → HasSameName a h → Namesakes h
  namesakes h (g, (b, (d, x, y), u, v, s)) = go (name a h) refl v.1
    where
      go : (text : Option (List ℕ)) → name a h ≡ text → IsSome text → Namesakes h
      go None e f = absurd (false≢true f)
      go (Some q) e f =
          let p = o.numbered.place h (member_linked d h y v.0) in
          let r = o.numbered.place g (member_linked d g x u.0) in
          let i = rank set (h / 16) in
          let j = rank set (g / 16) in
          record {
            upper = i;
            lower = j;
            alike = record {
              upper_within = p.0;
              lower_within = r.0;
              below = elim (cases_order i j) [
                | inl z ↦ absurd (let w = sym p.1 ∙ ap (λ k. get_or heads k 0) z ∙ r.1 in omega arith)
                | inr (inl z) ↦ absurd (let w = o.numbered.rising i j z r.0 in let e = p.1 in let f = r.1 in omega arith)
                | inr (inr z) ↦ z
              ];
              called = q;
              upper_named = ap (λ z. kept_name a z) p.1 ∙ its_name d h q y v.0 e;
              lower_named = ap (λ z. kept_name a z) r.1 ∙ its_name d g q x u.0 (s ∙ e);
            };
            upper_is = p.1;
            upper_inside = v.0;
            lower_inside = subst (IsInside a) (sym r.1) u.0;
            along = subst (λ k. Follows a h k ⊎ Follows a k h) (sym r.1)
                (one_follows a d h g y.in_chain x.in_chain (λ z. omega arith));
          }

  -- if no two headers have the same name, none has the name of another
  pub none_alike : AreNamesApart (λ i. kept_name a (get_or heads i 0)) (length heads) → HaveSameNames a []
  none_alike w = record {
    each = λ h x. absurd (let l = x.1 in omega arith);
    all = λ h x. (
        let p = namesakes h x in
        let n = p.alike in
        let e = w.each p.lower p.upper n.called n.lower_within n.upper_within n.lower_named n.upper_named in
        let b = n.below in
        absurd (omega arith));
    rising = λ i j l k. absurd (omega arith);
  }

-- the headers in chains by their numbers: which leads on to which, their classes by name, and those noted that one of the same class
-- comes before or after
pub record AreClimbed (a heads : List ℕ) (set : List Bool) (noted : List Bool) : Type 0 where
  pub order : IsOrdered a heads set
  pub next : List ℕ
  pub class : List ℕ
  pub leads : AreNextNumbers a heads next
  pub classes : AreClassesOf a heads class
  pub notes : AreNoted next class noted

module _ (a heads : List ℕ) (set noted : List Bool) (w : AreClimbed a heads set noted) where
  at_last : {y : ℕ} {x : ℕ} → x ≡ length heads → After w.next x y → y ≡ length heads
  at_last e (one f) = sym f ∙ ap (λ z. get_or w.next z 0) e ∙ w.leads.last
  at_last e (more f b) = at_last (sym f ∙ ap (λ z. get_or w.next z 0) e ∙ w.leads.last) b

  -- one number comes after another
  forth : {x y : ℕ} → x < length heads → y < length heads → After w.next x y → Follows a (get_or heads x 0) (get_or heads y 0)
  forth {x = x} {y = y} l k (one e) = next_one (subst (λ z. IsNext a (get_or heads x 0) (get_or heads z 0)) e
      ((w.leads.each x l).only (let f = e in omega arith)))
  forth {x = x} {y = y} l k (more {y = v} e b) = elim (cases_order v (length heads)) [
    | inl f ↦ absurd (let g = at_last f b in omega arith)
    | inr (inl f) ↦ later (subst (λ z. IsNext a (get_or heads x 0) (get_or heads z 0)) e
        ((w.leads.each x l).only (let g = e in omega arith))) (forth f k b)
    | inr (inr f) ↦ absurd (let g = (w.leads.each x l).below in let h = e in omega arith)
  ]

  back : {h g : ℕ} → Follows a h g → (x : ℕ) → x < length heads → get_or heads x 0 ≡ h → IsInside a g
      → (y : ℕ) × (y < length heads) × (get_or heads y 0 ≡ g) × After w.next x y
  back {h = h} {g = g} (next_one k) x l e i =
      let p = (w.leads.each x l).all g (subst (λ z. IsNext a z g) (sym e) k) i in
      (get_or w.next x 0, p.0, p.1, one refl)
  back {h = h} {g = g} (later {g = v} k f) x l e i =
      let p = (w.leads.each x l).all v (subst (λ z. IsNext a z v) (sym e) k) (starts_inside a f) in
      let r = back f (get_or w.next x 0) p.0 p.1 i in
      (r.0, r.1, r.2, more refl r.3)

  over : (d h : ℕ) (q : List ℕ) → kept_name a h ≡ Some q → ¬ IsPassedOver a d h
  over d h q e (inl x) = (kept a h q e).0 x.1
  over d h q e (inr x) = (kept a h q e).2 x

  -- in the chain of one directory, with the same name
  share_name : (i y : ℕ) → AreNamesakes a heads set w.order i y → (d : ℕ) → IsOpened a d → IsInChain a d (get_or heads i 0)
      → IsInChain a d (get_or heads y 0) → HasSameName a (get_or heads i 0)
  share_name i y n d opened x z =
      let g = (kept a (get_or heads i 0) n.called n.upper_named).1 in
      let h = (kept a (get_or heads y 0) n.called n.lower_named).1 in
      let order = w.order.numbered in (
        get_or heads y 0,
        (
          order.rising y i n.below n.upper_within,
          (
            d,
            record { opened = opened; in_chain = z; kept = over d _ n.called n.lower_named },
            record { opened = opened; in_chain = x; kept = over d _ n.called n.upper_named },
          ),
          ((order.each y n.lower_within).inside, some_name _ n.called h),
          ((order.each i n.upper_within).inside, some_name _ n.called g),
          h ∙ sym g,
        ),
      )

  -- a header that is noted has the name of a member of its directory at a lower place
  pub noted_right : (i : ℕ) → i < length heads → get_or noted i false ≡ true → HasSameName a (get_or heads i 0)
  noted_right i l k =
      let h = w.notes.each i k in
      let y = h.0 in
      let v = h.1 in
      let b = v.below in
      let s = w.classes.only y i (omega arith) (omega arith) (omega arith) v.same in
      let n : AreNamesakes a heads set w.order i y = record {
        upper_within = l;
        lower_within = s.0;
        below = b;
        called = s.2.0;
        upper_named = s.2.2;
        lower_named = s.2.1;
      } in
      let each = w.order.numbered.each in
      elim v.along [
        | inl r ↦ (let p = (each i l).stands in share_name i y n (each i l).dir p.opened p.in_chain
            (in_chain_too a _ p.in_chain (forth l s.0 r)))
        | inr r ↦ (let p = (each y s.0).stands in share_name i y n (each y s.0).dir p.opened
            (in_chain_too a _ p.in_chain (forth s.0 l r)) p.in_chain)
      ]

  -- a header with the name of a member of its directory at a lower place is noted
  pub noted_whole : (h : ℕ) → HasSameName a h → (i : ℕ) × (i < length heads) × (get_or heads i 0 ≡ h) × (get_or noted i false ≡ true)
  noted_whole h x =
      let p = namesakes a heads set w.order h x in
      let n = p.alike in
      let same = w.classes.all p.lower p.upper n.called n.lower_within n.upper_within n.lower_named n.upper_named in
      let along : After w.next p.upper p.lower ⊎ After w.next p.lower p.upper = elim p.along [
        | inl z ↦ (let v = back z p.upper n.upper_within p.upper_is p.lower_inside in
            inl (subst (λ k. After w.next p.upper k) (one_number a heads set w.order v.0 p.lower v.1 n.lower_within v.2) v.3))
        | inr z ↦ (let v = back z p.lower n.lower_within refl p.upper_inside in
            inr (subst (λ k. After w.next p.lower k) (one_number a heads set w.order v.0 p.upper v.1 n.upper_within (v.2 ∙ sym p.upper_is))
            v.3))
      ] in (
        p.upper,
        n.upper_within,
        p.upper_is,
        w.notes.all p.upper (let z = w.leads.sized in let l = n.upper_within in omega arith)
            (p.lower, record { below = n.below; same = same; along = along }),
      )

  -- the noted headers are exactly those with the name of a member of their directory at a lower
  -- place
  pub same_names : (found : List ℕ) → AreChosen heads noted (length heads) found → HaveSameNames a found
  same_names found c = record {
    each = λ h x. (let r = c.each h x in subst (λ y. HasSameName a y) r.3 (noted_right r.0 r.1 r.2));
    all = λ h k. (let r = noted_whole h k in subst (λ y. Contains found y) r.2 (c.all r.0 r.1 r.3));
    rising = c.rising;
  }
