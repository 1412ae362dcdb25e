-- A walk over headers: each place inside that was noted waits or is done. A turn keeps this (under_turn),
-- each turn takes one from what may still be noted and waits (smaller), and with nothing left to wait what
-- was kept is closed (gathered).
use Rattle.std.proofs.Common.{◌≡◌, ◌≢◌, ◌∙◌, sym, ap, subst, ℕ, ◌+◌, ◌-◌, ◌/◌, ◌%◌, ◌<◌, ◌≤◌, ◌==◌, ◌⊎◌, inl, inr, min, List, [], ◌∷◌, ◌++◌, length, take, drop, get_or, Bool, IsTrue, true, if◌then◌else◌, Option, Some, None, refl, arith, length-take, length-take-le, length-drop}
use Rattle.std.specs.Prelude.{nat_le}
use Rattle.std.specs.Option.{option_map_or}
use Rattle.std.specs.List.{Contains}
use Rattle.std.proofs.lemmas.Bool.{cases_lt}
use Rattle.std.proofs.lemmas.Bool.Decides.{nat_tests}
use Rattle.std.proofs.lemmas.List.{get_or-take, get_or-drop, get_or_past}
use Rattle.std.proofs.lemmas.List.Elements.{Contains-append_left, Contains-push, Contains-push_cases}
use Rattle.romfs_format.specs.declared.head.Kind.TheVariants.{Directory, HardLink}
use Rattle.romfs_format.specs.declared.limits.TheConstants.{HEAD_SIZE}
use Rattle.romfs_format.specs.Fields.{word, root, IsInside, kind_of, kind, next, spec, cleared, text_end, text_at}
use Rattle.devices.specs.Sources.{Source, IsSizeOf, IfShown}
use Rattle.romfs_kept.specs.declared.pieces.Piece.{Piece}
use Rattle.romfs_kept.specs.Pieces.{HasBlock, AreRight, IsFilled}
use Rattle.romfs_kept.specs.Reads.{Extent, AreWithin, HasBytesAt, IsReadAt, AreAdded}
use Rattle.romfs_kept.specs.Footprint.{IsClosed, is_same, reach}
use Rattle.romfs_kept.specs.Gathered.{IsGathered, IsReach}
use Rattle.romfs_kept.specs.Walk.{HasText, HasTarget, IsVisit, HasVisited, HasFront, HasPushed, GoesDown, IsDone, IsWalking, IsUnderWay, HasWalked}
use Rattle.romfs_held.specs.Blocks.{IsFront}
use Rattle.romfs_held.proofs.Fields.{word_same}
use Rattle.romfs_kept.proofs.Names.{name_ends}
use Rattle.romfs_kept.proofs.Reading.{within_shown}

-- how many bytes are looked at, by the first of them
module _ (b front : List ℕ) (whole : ℕ) (long : whole ≡ min (length b) 4294967295) (h : HasBytesAt (take whole b) 0 front)
    (n : length front ≡ 512) where
  full_word : word front 8 ≡ word b 8
  full_word = word_same front b 8 8 (λ i l. h.same (8 + i) (omega arith)
      ∙ ap (λ k. get_or (take whole b) k 0) (let e : 0 + (8 + i) ≡ 8 + i = omega arith in e)
      ∙ elim (cases_lt (8 + i) whole) [
        | inl m ↦ get_or-take whole b (8 + i) 0 m
        | inr m ↦ get_or_past (take whole b) (8 + i) 0 (let t = length-take whole b in omega arith)
            ∙ sym (get_or_past b (8 + i) 0 (omega arith))
      ])

  reach_is : (full size : ℕ) → full ≡ word front 8 → full < 4294967296
      → size ≡ min whole (if nat_le HEAD_SIZE full then full else HEAD_SIZE)
      → size ≡ reach b
  reach_is full size e l s = s ∙ rw (e ∙ full_word) (clip (word b 8) (omega (arith, e ∙ full_word)))
    where
      clip : (w : ℕ) → w < 4294967296
          → min whole (if nat_le HEAD_SIZE w then w else HEAD_SIZE) ≡ min (length b) (if nat_le HEAD_SIZE w then w else HEAD_SIZE)
      clip w l = elim (cases_lt w HEAD_SIZE) [
        | inl m ↦ (let f : (if nat_le HEAD_SIZE w then w else HEAD_SIZE) ≡ HEAD_SIZE = grind (arith, nat_tests) in omega arith)
        | inr m ↦ (let f : (if nat_le HEAD_SIZE w then w else HEAD_SIZE) ≡ w = grind (arith, nat_tests) in omega arith)
      ]

pub reached : (s : Source) (whole full size : ℕ) (front : List ℕ) (len : ℕ) → IsSizeOf s len → whole ≡ min len 4294967295
    → IfShown s (λ b. HasBytesAt (take whole b) 0 front) → length front ≡ 512 → full ≡ word front 8 → full < 4294967296
    → size ≡ min whole (if nat_le HEAD_SIZE full then full else HEAD_SIZE) → IsReach s size
reached s whole full size front len l w r n f small e = record {
  each = λ b v. reach_is b front whole (w ∙ ap (λ k. min k 4294967295) (l.shown b v)) (r.each b v) n full size f small e;
}

-- the volume name lies in the first bytes, and so they say where the root is
pub front_near : (xs front : List ℕ) → length front ≡ 512 → HasBytesAt xs 0 front
    → IsFront xs 16 256 (take (length front - 16) (drop 16 front))
front_near xs front n h = record {
  is = λ i l m. sym (h.same (16 + i) (let e = long in omega arith)
      ∙ ap (λ k. get_or xs k 0) (let e : 0 + (16 + i) ≡ 16 + i = omega arith in e))
      ∙ sym (get_or-drop 16 front i 0) ∙ sym (get_or-take (length front - 16) (drop 16 front) i 0 (let e = long in omega arith));
  stops = λ l. absurd (let e = long in omega arith);
}
  where
    long : length (take (length front - 16) (drop 16 front)) ≡ 496
    long = (let d = length-drop 16 front in let t = length-take (length front - 16) (drop 16 front) in omega arith)

pub root_none : (xs : List ℕ) → ◌≡◌ {A = Option (List ℕ)} None (text_at xs 16) → 0 ≡ root xs
unfolding root
root_none xs e = ap (λ o. option_map_or (text_end 16) o 0) e

pub root_some : (xs text : List ℕ) (n : ℕ) → Some text ≡ text_at xs 16 → n ≡ text_end 16 text → n ≡ root xs
unfolding root
root_some xs text n e f = f ∙ ap (λ o. option_map_or (text_end 16) o 0) e

-- an image without a volume header has no volume name
pub root_short : (xs : List ℕ) → length xs < 16 → 0 ≡ root xs
root_short xs l = root_none xs (none (text_at xs 16) refl)
  where
    none : (o : Option (List ℕ)) → text_at xs 16 ≡ o → ◌≡◌ {A = Option (List ℕ)} None (text_at xs 16)
    none None e = sym e
    none (Some n) e = absurd (let t = name_ends xs n 16 e in let w = t.within in omega arith)

-- the first bytes
pub front_added : {S : Type 0} (of : S → Source) (x : Extent S) (root_at : ℕ) (front : List ℕ) (old new : List Piece)
    → AreWithin (of x.source) x.size → old ≡ [] → IsReadAt of x 0 front → AreAdded of x 0 32 old new
    → ((xs : List ℕ) → length xs ≡ x.size → HasBytesAt xs 0 front → root_at ≡ root xs) → HasFront of x root_at new
front_added of x root_at front old new w e r a f = record {
  each = λ b v. record {
    right = (a.each b v).right (subst (λ l. AreRight (take x.size b) l) (sym e) (none b));
    has = λ i l. subst (λ k. HasBlock new k) (let e : 0 + i ≡ i = omega arith in e) ((a.each b v).has i l);
    is = f (take x.size b) (length-take-le x.size b (within_shown (of x.source) x.size w b v)) (r.each b v);
  };
}
  where
    none : (b : List ℕ) → AreRight (take x.size b) []
    none b = record { each = λ x c. absurd (let l = c.1 in omega arith) }

-- places of headers are multiples of 16
abbrev pub IsPlace : ℕ → Type 0
IsPlace h = h % 16 ≡ 0

pub smaller : (left less least before todo mid after : ℕ) → before ≡ todo + 1 → mid + less ≡ todo + left → after + least ≡ mid + less
    → least + after < left + before
smaller left less least before todo mid after a b c = omega arith

still_text : (xs : List ℕ) (old new : List Piece) (p : ℕ) → ((b : ℕ) → HasBlock old b → HasBlock new b) → HasText old xs p
    → HasText new xs p
still_text xs old new p s t = record { each = λ i l m n. s ((p + i) / 16) (t.each i l m n) }

still_target : (xs : List ℕ) (old new : List Piece) (h : ℕ) → ((b : ℕ) → HasBlock old b → HasBlock new b) → HasTarget old xs h
    → HasTarget new xs h
still_target xs old new h s t = record { each = λ k l n e i m o. s _ (t.each k l n e i m o) }

module _ (S : Type 0) (x : Extent S) (start at : ℕ) (old new : List Piece) (before todo mid after : List ℕ) (noted more most : ℕ → Bool)
    (first second : ℕ) (test down : Bool)
    (popped : before ≡ todo ++ at ∷ [])
    (one : HasPushed todo mid noted more test (cleared first)) (two : HasPushed mid after more most down (cleared second))
    (goes : start ≤ at → at + 16 ≤ x.size → cleared first ≢ 0 → IsTrue test)
    (at_start : at ≡ start → IsTrue down)
    (directory : start ≤ at → at + 16 ≤ x.size → kind_of (first % 8) ≡ Directory → IsTrue down)
    (link : start ≤ at → at + 16 ≤ x.size → kind_of (first % 8) ≡ HardLink → IsTrue down) where
  module _ (xs : List ℕ) (long : length xs ≡ x.size) (is_root : start ≡ root xs) (w : IsWalking xs old before noted)
      (v : IsVisit xs at old new first second) where
    next_noted : IsInside xs at → next xs at ≢ 0 → IsTrue (most (next xs at))
    next_noted i n =
        let i0 = i.0 in
        let i1 = i.1 in
        let e : cleared first ≡ next xs at = ap cleared v.first_is in
        two.stays (next xs at) (subst (λ h. IsTrue (more h)) e (one.has (goes (omega arith) (omega arith) (λ z. n (sym e ∙ z)))))

    spec_noted : GoesDown xs at → IsTrue (most (cleared (spec xs at)))
    spec_noted g =
        let e : cleared second ≡ cleared (spec xs at) = ap cleared v.second_is in
        let k : kind_of (first % 8) ≡ kind xs at = ap (λ n. kind_of (n % 8)) v.first_is in
        subst (λ h. IsTrue (most h)) e (two.has (elim g [
          | inl r ↦ at_start (r ∙ sym is_root)
          | inr x ↦ (let x0 = x.0.0 in let x1 = x.0.1 in elim (x.1) [
            | inl d ↦ directory (omega arith) (omega arith) (k ∙ d)
            | inr l ↦ link (omega arith) (omega arith) (k ∙ l)
          ])
        ]))

    done_at : IsDone xs new most at
    done_at = record { head = v.head; text = v.text; target = v.target; to_next = next_noted; to_spec = spec_noted }

    still_done : (h : ℕ) → IsDone xs old noted h → IsDone xs new most h
    still_done h d = record {
      head = v.stays (h / 16) d.head;
      text = still_text xs old new (h + 16) v.stays d.text;
      target = still_target xs old new h v.stays d.target;
      to_next = λ i n. two.stays _ (one.stays _ (d.to_next i n));
      to_spec = λ g. two.stays _ (one.stays _ (d.to_spec g));
    }

    from_old : (h : ℕ) → IsTrue (noted h) → h < length xs → Contains after h ⊎ IsDone xs new most h
    from_old h s l = elim (w.each h s l) [
      | inl c ↦ elim (Contains-push_cases todo at h (subst (λ l. Contains l h) popped c)) [
        | inl d ↦ inl (two.grown h (one.grown h d))
        | inr e ↦ inr (subst (λ k. IsDone xs new most k) e done_at)
      ]
      | inr d ↦ inr (still_done h d)
    ]

    turned : IsWalking xs new after most
    turned = record {
      right = v.right w.right;
      front = λ i l. v.stays i (w.front i l);
      at_root = two.stays _ (one.stays _ w.at_root);
      each = λ h s l. elim (two.only h s) [
        | inl m ↦ elim (one.only h m) [
          | inl o ↦ from_old h o l
          | inr e ↦ inl (two.grown h e.1)
        ]
        | inr e ↦ inl e.1
      ];
    }

  pub under_turn : (of : S → Source) → AreWithin (of x.source) x.size → IsUnderWay of x start old before noted
      → HasVisited of x at old new first second → IsUnderWay of x start new after most
  under_turn of l u v = record {
    each = λ b w. (
      (u.each b w).0,
      turned (take x.size b) (length-take-le x.size b (within_shown (of x.source) x.size l b w)) (u.each b w).0 (u.each b w).1 (v.each b w),
    );
  }

-- the places that wait stay places
pub waiting_turn : (old new : ℕ → Bool) (todo more : List ℕ) (test : Bool) (place : ℕ) → HasPushed todo more old new test place
    → IsPlace place
    → ((h : ℕ) → Contains todo h → IsPlace h) → (h : ℕ) → Contains more h → IsPlace h
waiting_turn old new todo more test place p is o h s = elim (p.from h s) [
  | inl x ↦ o h x
  | inr e ↦ subst (λ k. IsPlace k) (sym e) is
]

pub waiting_popped : (before todo : List ℕ) (at : ℕ) → before ≡ todo ++ at ∷ [] → ((h : ℕ) → Contains before h → IsPlace h)
    → (h : ℕ) → Contains todo h → IsPlace h
waiting_popped before todo at e w h c = w h (subst (λ l. Contains l h) (sym e) (Contains-append_left todo (at ∷ []) h c))

pub popped_place : (before todo : List ℕ) (at : ℕ) → before ≡ todo ++ at ∷ [] → ((h : ℕ) → Contains before h → IsPlace h) → IsPlace at
popped_place before todo at e w = w at (subst (λ l. Contains l at) (sym e) (Contains-push todo at))

pub cleared_place : (n : ℕ) → IsPlace (cleared n)
cleared_place n = omega arith

pub under_start : {S : Type 0} (of : S → Source) (x : Extent S) (start : ℕ) (pieces : List Piece) (none todo : List ℕ)
    (noted more : ℕ → Bool) → HasFront of x start pieces → ((h : ℕ) → IsTrue (noted h) → h < x.size → ⊥)
    → HasPushed none todo noted more true start → IsUnderWay of x start pieces todo more
under_start of x start pieces none todo noted more f n p = record {
  each = λ b v. (
    (f.each b v).is,
    record {
      right = (f.each b v).right;
      front = (f.each b v).has;
      at_root = subst (λ h. IsTrue (more h)) (f.each b v).is (p.has refl);
      each = λ h q l. elim (p.only h q) [
        | inl m ↦ absurd (n h m (let t = length-take x.size b in omega arith))
        | inr e ↦ inl e.1
      ];
    },
  );
}

-- after the end there are zeros
word_past : (xs : List ℕ) (p : ℕ) → length xs ≤ p → word xs p ≡ 0
unfolding word
word_past xs p l = word_same xs [] p 0 (λ i m. get_or_past xs (p + i) 0 (omega arith)) ∙ refl

same_byte : (x y : ℕ) → x ≡ y → IsTrue (x == y)
same_byte x y e = grind (arith, nat_tests)

module _ (xs a : List ℕ) (pieces : List Piece) (noted : ℕ → Bool) (size : ℕ) (long : length xs ≡ size)
    (w : IsWalking xs pieces [] noted) (even : (h : ℕ) → IsTrue (noted h) → h % 16 ≡ 0) (filled : IsFilled pieces size a) where
  kept_at : (p : ℕ) → p < length xs → HasBlock pieces (p / 16) → IsTrue (is_same xs a p)
  kept_at p l h = same_byte _ _ (sym (filled.same xs w.right p (omega arith) h))

  done : (h : ℕ) → IsTrue (noted h) → h < length xs → IsDone xs pieces noted h
  done h s l = elim (w.each h s l) [
    | inl c ↦ absurd (let l = c.1 in omega arith)
    | inr d ↦ d
  ]

  down : (h : ℕ) → (h ≡ root xs) ⊎ (IsInside xs h × (kind xs h ≡ Directory)) → GoesDown xs h
  down h (inl f) = inl f
  down h (inr k) = inr (k.0, inl k.1)

  -- a header outside leads nowhere
  first : (h : ℕ) → IsTrue (noted h) → (h ≡ root xs) ⊎ (IsInside xs h × (kind xs h ≡ Directory)) → cleared (spec xs h) ≢ 0
      → IsTrue (noted (cleared (spec xs h)))
  first h s d n = elim (cases_lt h (length xs)) [
    | inl l ↦ (done h s l).to_spec (down h d)
    | inr l ↦ absurd (n (let z = word_past xs (h + 4) (omega arith) in omega arith))
  ]

  closed : IsClosed (is_same xs a) noted xs
  closed = record {
    front = λ p l m. kept_at p m (w.front (p / 16) (omega arith));
    at_root = w.at_root;
    head = λ h i s l m. kept_at (h + i) m (subst (λ q. HasBlock pieces q)
        (let e = even h s in let z : h / 16 ≡ (h + i) / 16 = omega arith in z) ((done h s (omega arith)).head));
    text = λ h s. record { each = λ i l m n. kept_at (h + 16 + i) m ((done h s (omega arith)).text.each i l m n) };
    target = λ h s. record { each = λ k l n e i m o. kept_at _ o ((done h s (omega arith)).target.each k l n e i m o) };
    to_next = λ h s i n. (done h s (omega (arith, i.1))).to_next i n;
    to_first = λ h s d n. first h s d n;
    to_link = λ h s i k. (done h s (omega (arith, i.1))).to_spec (inr (i, inr k));
  }

pub gathered : {S : Type 0} (of : S → Source) (x : Extent S) (pieces : List Piece) (a : List ℕ) → AreWithin (of x.source) x.size
    → IsReach (of x.source) x.size → HasWalked of x pieces → length a ≡ x.size → IsFilled pieces x.size a → IsGathered (of x.source) a
gathered of x pieces a w r k0 l f = record {
  each = λ b v.
      let k = k0.each b v in
      record {
        long = l ∙ r.each b v;
        headers = k.0;
        closed = subst (λ n. IsClosed (is_same (take n b) a) k.0 (take n b)) (sym l)
            (closed (take x.size b) a pieces k.0 x.size (length-take-le x.size b (within_shown (of x.source) x.size w b v)) k.1 k.2 f);
      };
}
