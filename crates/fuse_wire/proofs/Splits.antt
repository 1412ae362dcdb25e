-- A stream is split in one way (`one_split`), and there is one (`some_split`); a split continues where it stopped (`split_goes_on`). Later
-- bytes do not change the length in the first four (`said_more`), so what begins with a message is not a rest; `first_cut` distinguishes
-- the two.
use Rattle.std.proofs.Common.{◌≡◌, ◌∙◌, sym, ap, subst, ℕ, zero, suc, ◌+◌, ◌<◌, ◌≤◌, ◌⊎◌, inl, inr, List, [], ◌∷◌, ◌++◌, length, take, drop, refl, arith, length-append, append_assoc}
use Rattle.std.proofs.lemmas.List.{take_at, drop_at}
use Rattle.std.specs.List.{flat_map, AllByRecursion}
use Rattle.std.proofs.lemmas.Grind.{flat_map-append}
use Rattle.std.proofs.lemmas.List.{take-append-drop, length-take-le}
use Rattle.std.proofs.lemmas.Bool.{cases_lt}
use Rattle.fuse_wire.specs.declared.limits.TheConstants.{HEADER_SIZE, MAX_MESSAGE_SIZE}
use Rattle.fuse_wire.specs.Stream.{said_length, IsGoodLength, IsMessage, IsBad, IsOpen, IsRest, IsSplit}

-- bytes after the first four do not change the length that these say
pub said_more : (xs ys : List ℕ) → 4 ≤ length xs → said_length (xs ++ ys) ≡ said_length xs
said_more [] ys h = absurd (omega arith)
said_more (a ∷ []) ys h = absurd (omega arith)
said_more (a ∷ b ∷ []) ys h = absurd (omega arith)
said_more (a ∷ b ∷ c ∷ []) ys h = absurd (omega arith)
said_more (a ∷ b ∷ c ∷ d ∷ xs) ys h = refl

-- what begins with a message is no rest
pub no_rest : (m x rest : List ℕ) → IsMessage m → rest ≡ m ++ x → IsRest rest → ⊥
no_rest m x rest g e r =
    let s : said_length rest ≡ length m = ap said_length e ∙ said_more m x (omega (arith, g.good.0)) ∙ g.says in
    let l : length rest ≡ length m + length x = ap length e ∙ length-append m x in
    elim r [
      | inl (inl z) ↦ (let k : length rest ≡ 0 = ap length z in omega (arith, g.good.0))
      | inl (inr u) ↦ (let k = u.1 in elim k [ inl a ↦ omega (arith, g.good.0) | inr b ↦ omega (arith, b.1) ])
      | inr b ↦ b.1.bad (subst IsGoodLength (sym s ∙ b.1.says) g.good)
    ]

one_first : (m n x y : List ℕ) → IsMessage m → IsMessage n → m ++ x ≡ n ++ y → (m ≡ n) × (x ≡ y)
one_first m n x y g k e =
    let s : length m ≡ length n = sym (sym (ap said_length e ∙ said_more n y (omega (arith, k.good.0)) ∙ k.says)
    ∙ said_more m x (omega (arith, g.good.0)) ∙ g.says) in (
      sym (take_at m x (length m) refl) ∙ ap (take (length m)) e ∙ take_at n y (length m) (sym s),
      sym (drop_at m x (length m) refl)
          ∙ ap (drop (length m)) e ∙ drop_at n y (length m) (sym s),
    )

-- two splits of one stream have the same messages and the same rest
pub one_split : (stream : List ℕ) (ms ns : List (List ℕ)) (r q : List ℕ) → IsSplit stream ms r → IsSplit stream ns q → (ms ≡ ns) × (r ≡ q)
one_split stream [] [] r q x y = (refl, sym x.whole ∙ y.whole)
one_split stream [] (n ∷ ns) r q x y = absurd (no_rest n _ r y.each.0 (sym x.whole ∙ y.whole ∙ append_assoc n _ q) x.tail)
one_split stream (m ∷ ms) [] r q x y = absurd (no_rest m _ q x.each.0 (sym y.whole ∙ x.whole ∙ append_assoc m _ r) y.tail)
one_split stream (m ∷ ms) (n ∷ ns) r q x y =
    let f = one_first m n _ _ x.each.0 y.each.0 (sym (append_assoc m _ r) ∙ sym x.whole ∙ y.whole ∙ append_assoc n _ q) in
    let t = one_split (flat_map (λ m. m) ms ++ r) ms ns r q (record { whole = refl; each = x.each.1; tail = x.tail })
    (record { whole = f.1; each = y.each.1; tail = y.tail }) in
    let f0 = f.0 in let t0 = t.0 in (cc, t.1)

-- the first four bytes or more say the same length as all bytes
pub said_front : (xs : List ℕ) (n : ℕ) → 4 ≤ n → n ≤ length xs → said_length (take n xs) ≡ said_length xs
said_front xs n f l =
    let t : length (take n xs) ≡ n = length-take-le n xs l in
    sym (said_more (take n xs) (drop n xs) (omega arith)) ∙ ap said_length (take-append-drop n xs)

-- bytes are a rest, or they begin with a message
pub first_cut : (xs : List ℕ) → IsRest xs ⊎ ((m y : List ℕ) × (xs ≡ m ++ y) × IsMessage m)
first_cut xs = elim (cases_lt (length xs) 4) [
  | inl short ↦ inl (inl (begun xs short))
  | inr long ↦ elim (cases_lt (said_length xs) HEADER_SIZE) [
    | inl low ↦ inl (inr (said_length xs, record { long = long; says = refl; bad = λ g. let g0 = g.0 in omega arith }))
    | inr at_least ↦ elim (cases_lt MAX_MESSAGE_SIZE (said_length xs)) [
      | inl high ↦ inl (inr (said_length xs, record { long = long; says = refl; bad = λ g. let g1 = g.1 in omega arith }))
      | inr at_most ↦ elim (cases_lt (length xs) (said_length xs)) [
        | inl fewer ↦ inl (inl (inr (omega arith, inr ((at_least, at_most), fewer))))
        | inr enough ↦ inr (whole at_least at_most enough)
      ]
    ]
  ]
]
  where
    begun : (xs : List ℕ) → length xs < 4 → IsOpen xs
    begun [] l = inl refl
    begun (b ∷ bs) l = inr (omega arith, inl l)

    whole : HEADER_SIZE ≤ said_length xs → said_length xs ≤ MAX_MESSAGE_SIZE → said_length xs ≤ length xs → (m y : List ℕ) × (xs ≡ m ++ y)
        × IsMessage m
    whole low high enough =
        let n = said_length xs in
        let t : length (take n xs) ≡ n = length-take-le n xs enough in (
          take n xs,
          drop n xs,
          sym (take-append-drop n xs),
          record {
            good = (omega arith, omega arith);
            says = said_front xs n (omega arith) enough ∙ sym t;
          },
        )

put_first : (stream m y : List ℕ) → stream ≡ m ++ y → IsMessage m → ((ms : List (List ℕ)) × (rest : List ℕ) × IsSplit y ms rest)
    → (ms : List (List ℕ)) × (rest : List ℕ) × IsSplit stream ms rest
put_first stream m y e g (ms, rest, s) = (
  m ∷ ms,
  rest,
  record {
    whole = e ∙ ap (λ v. m ++ v) s.whole ∙ sym (append_assoc m (flat_map (λ m. m) ms) rest);
    each = (g, s.each);
    tail = s.tail;
  },
)

split_within : (room : ℕ) (stream : List ℕ) → length stream ≤ room → (ms : List (List ℕ)) × (rest : List ℕ) × IsSplit stream ms rest
split_within zero [] short = ([], [], record { whole = refl; each = tt; tail = inl (inl refl) })
split_within zero (b ∷ bs) short = absurd (omega arith)
split_within (suc room) stream short = elim (first_cut stream) [
  | inl r ↦ ([], stream, record { whole = refl; each = tt; tail = r })
  | inr c ↦ put_first stream c.0 c.1 c.2 c.3 (split_within room c.1 (let l = ap length c.2 ∙ length-append c.0 c.1 in let g = c.3.good.0 in
      omega arith))
]

-- every stream has a split
pub some_split : (stream : List ℕ) → (ms : List (List ℕ)) × (rest : List ℕ) × IsSplit stream ms rest
some_split stream = split_within (length stream) stream (omega arith)

-- messages continue where a rest stopped
pub split_goes_on : (x y rest end : List ℕ) (ms ns : List (List ℕ)) → IsSplit x ms rest → IsSplit (rest ++ y) ns end
    → IsSplit (x ++ y) (ms ++ ns) end
split_goes_on x y rest end ms ns s t = record {
  whole = ap (λ v. v ++ y) s.whole ∙ append_assoc (flat_map (λ m. m) ms) rest y ∙ ap (λ v. flat_map (λ m. m) ms ++ v) t.whole
      ∙ sym (append_assoc (flat_map (λ m. m) ms) (flat_map (λ m. m) ns) end) ∙ ap (λ v. v ++ end) (sym (flat_map-append (λ m. m) ms ns));
  each = both ms ns s.each t.each;
  tail = t.tail;
}
  where
    both : (ms ns : List (List ℕ)) → AllByRecursion IsMessage ms → AllByRecursion IsMessage ns → AllByRecursion IsMessage (ms ++ ns)
    both [] ns e f = f
    both (m ∷ ms) ns e f = (e.0, both ms ns e.1 f)

-- a bad rest stays bad, whatever comes after it
pub bad_stays : (rest y : List ℕ) (n : ℕ) → IsBad rest n → IsBad (rest ++ y) n
bad_stays rest y n b = record {
  long = (let e = length-append rest y in omega (arith, b.long));
  says = said_more rest y b.long ∙ b.says;
  bad = b.bad;
}
