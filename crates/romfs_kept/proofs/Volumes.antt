-- What was gathered from some bytes breaks the rules that they break (twins), and so has their fault (fault_goes): the volume's rules look
-- at the first bytes and at the length, and if the full size is kept, the accessible bytes are what was gathered.
use Rattle.std.proofs.Common.{◌≡◌, ◌≢◌, ◌∙◌, sym, ap, subst, ℕ, ◌+◌, ◌%◌, ◌^◌, ◌<◌, ◌≤◌, ◌⊎◌, inl, inr, min, List, ◌++◌, IsTrue, length, take, drop, get_or, Option, Some, None, if◌then◌else◌, refl, arith, length-take, length-take-le, take-append-drop, take_all, ◌==◌}
use Rattle.std.specs.Prelude.{nat_le, IsNone}
use Rattle.std.proofs.lemmas.Bool.{cases_lt, eqb-true}
use Rattle.std.proofs.lemmas.Bool.Decides.{nat_tests}
use Rattle.std.proofs.lemmas.List.{get_or-take, get_or_past, ext_get_or, take_at}
use Rattle.romfs_format.specs.declared.limits.TheConstants.{HEAD_SIZE, SUMMED_SIZE}
use Rattle.romfs_format.specs.declared.rule.Rule.{Rule}
use Rattle.romfs_format.specs.declared.rule.ImageFault.{ImageFault}
use Rattle.romfs_format.specs.declared.rule.Profile.{Profile}
use Rattle.romfs_format.specs.declared.rule.Rule.TheVariants.{Short, Magic, FullSize, BadSum, VolumeName, NoRoot, Attributes}
use Rattle.romfs_format.specs.Fields.{word, image, summed, text_at, word_sum, root}
use Rattle.romfs_format.specs.Profiles.{reads_attributes}
use Rattle.romfs_format.specs.Rules.{StartsWith, magic, HasNoRoot, Breaks, BreaksHeader, rule_number, stage, IsNamedBefore, IsFault, IsSound, IsFaultOf}
use Rattle.romfs_kept.specs.Footprint.{Agrees, is_same}
use Rattle.romfs_kept.specs.Gathered.{IsGatheredOf}
use Rattle.romfs_held.proofs.Fields.{word_same}
use Rattle.romfs_kept.proofs.Alike.{Alike, alike, alike_sym, text_alike, volume_text}
use Rattle.romfs_kept.proofs.Likeness.{header_rules, no_root_goes}

-- the two lists look the same to the rules of the volume
pub record SameVolume (a b : List ℕ) : Type 0 where
  pub words : word a 8 ≡ word b 8
  pub heads : min (length a) 16 ≡ min (length b) 16
  pub fulls : min (length a) (word a 8) ≡ min (length b) (word a 8)
  pub front : take 8 a ≡ take 8 b
  pub sums : summed (image a) ≡ summed (image b)
  pub names : text_at (image a) HEAD_SIZE ≡ text_at (image b) HEAD_SIZE

pub volume_sym : (a b : List ℕ) → SameVolume a b → SameVolume b a
volume_sym a b s = record {
  words = sym s.words;
  heads = sym s.heads;
  fulls = sym (subst (λ w. min (length a) w ≡ min (length b) w) s.words s.fulls);
  front = sym s.front;
  sums = sym s.sums;
  names = sym s.names;
}

starts : (b : List ℕ) → StartsWith b magic → take 8 b ≡ magic
starts b (rest, e) = ap (λ l. take 8 l) e ∙ take_at magic rest 8 refl

begins : (b : List ℕ) → take 8 b ≡ magic → StartsWith b magic
begins b e = (drop 8 b, sym (take-append-drop 8 b) ∙ ap (λ l. l ++ drop 8 b) e)

pub volume_goes : (a b : List ℕ) → SameVolume a b → (profile : Profile) (r : Rule) (p : ℕ) → rule_number r < 5
    → Breaks profile a r p → Breaks profile b r p
volume_goes a b s profile Short p l (x, e) = ((let h = s.heads in let q : length b < 16 = omega arith in q), e)
volume_goes a b s profile Magic p l (x, e) = ((λ t. x (begins a (s.front ∙ starts b t))), e)
volume_goes a b s profile FullSize p l (inl x, e) =
    (inl (let f = s.fulls in let w = s.words in let q : length b < word b 8 = omega arith in q), e)
volume_goes a b s profile FullSize p l (inr x, e) = (inr (let w = s.words in let q : word b 8 < HEAD_SIZE = omega arith in q), e)
volume_goes a b s profile BadSum p l (x, e) = (subst (λ t. word_sum t % 2 ^ 32 ≢ 0) s.sums x, e)
volume_goes a b s profile VolumeName p l (x, e) = (subst (λ t. IsNone t) s.names x, e)
volume_goes a b s profile r p l x = absurd (omega arith)

-- what was gathered looks the same to the volume's rules
module _ (b a : List ℕ) (g : IsGatheredOf b a) where
  most : ℕ
  most = length a

  short : length a ≤ length b
  short = (let l = g.long in omega arith)

  seen : List ℕ
  seen = take (length a) b

  seen_long : length seen ≡ length a
  unfolding seen
  seen_long = length-take-le (length a) b short

  front : (p : ℕ) → p < 512 → p < length a → get_or a p 0 ≡ get_or b p 0
  unfolding seen
  front p l m =
      sym (eqb-true _ _ (g.closed.front p l (let e = seen_long in omega arith))) ∙ get_or-take (length a) b p 0 m

  long_enough : (n : ℕ) → n ≤ 16 → length a < n → length b ≡ length a
  long_enough n l m = (let e = g.long in elim (cases_lt (word b 8) HEAD_SIZE) [
    | inl q ↦ (let f : (if nat_le HEAD_SIZE (word b 8) then word b 8 else HEAD_SIZE) ≡ HEAD_SIZE = grind (arith, nat_tests) in omega arith)
    | inr q ↦ (let f : (if nat_le HEAD_SIZE (word b 8) then word b 8 else HEAD_SIZE) ≡ word b 8 = grind (arith, nat_tests) in omega arith)
  ])

  near : (p : ℕ) → p < 16 → get_or a p 0 ≡ get_or b p 0
  near p l = elim (cases_lt p (length a)) [
    | inl m ↦ front p (omega arith) m
    | inr m ↦ get_or_past a p 0 m ∙ sym (get_or_past b p 0 (elim (cases_lt (length a) 16) [
      | inl q ↦ (let e = long_enough 16 (omega arith) q in omega arith)
      | inr q ↦ absurd (omega arith)
    ]))
  ]

  words : word a 8 ≡ word b 8
  words = word_same a b 8 8 (λ i l. near (8 + i) (omega arith))

  heads : min (length a) 16 ≡ min (length b) 16
  heads = elim (cases_lt (length a) 16) [
    | inl q ↦ (let e = long_enough 16 (omega arith) q in omega arith)
    | inr q ↦ (let e = short in omega arith)
  ]

  fulls : min (length a) (word a 8) ≡ min (length b) (word a 8)
  fulls = (let e = g.long in let w = words in elim (cases_lt (word b 8) HEAD_SIZE) [
    | inl q ↦ (let f : (if nat_le HEAD_SIZE (word b 8) then word b 8 else HEAD_SIZE) ≡ HEAD_SIZE = grind (arith, nat_tests) in omega arith)
    | inr q ↦ (let f : (if nat_le HEAD_SIZE (word b 8) then word b 8 else HEAD_SIZE) ≡ word b 8 = grind (arith, nat_tests) in omega arith)
  ])

  images_long : length (image a) ≡ length (image b)
  unfolding image
  images_long = length-take (word a 8) a ∙ (let f = fulls in let w = words in let x = length-take (word b 8) b in omega arith)

  in_image : (c : List ℕ) (p : ℕ) → p < length (image c) → get_or (image c) p 0 ≡ get_or c p 0
  unfolding image
  in_image c p l = get_or-take (word c 8) c p 0 (let x = length-take (word c 8) c in omega arith)

  image_short : (c : List ℕ) → length (image c) ≤ length c
  unfolding image
  image_short c = (let x = length-take (word c 8) c in omega arith)

  images_front : (p : ℕ) → p < 512 → get_or (image a) p 0 ≡ get_or (image b) p 0
  images_front p l = elim (cases_lt p (length (image a))) [
    | inl m ↦ in_image a p m ∙ front p l (let x = image_short a in omega arith) ∙ sym (in_image b p (let e = images_long in omega arith))
    | inr m ↦ get_or_past (image a) p 0 m ∙ sym (get_or_past (image b) p 0 (let e = images_long in omega arith))
  ]

  sums : summed (image a) ≡ summed (image b)
  unfolding summed
  sums =
      let n : ℕ = SUMMED_SIZE in
      let e = images_long in
      ext_get_or 0 (take n (image a)) (take n (image b))
      (length-take n (image a) ∙ ap (λ k. min n k) e ∙ sym (length-take n (image b)))
      (λ i l.
      let x = length-take n (image a) in
      get_or-take n (image a) i 0 (omega arith) ∙ images_front i (omega arith) ∙ sym (get_or-take n (image b) i 0 (omega arith)))

  names : text_at (image a) HEAD_SIZE ≡ text_at (image b) HEAD_SIZE
  names = text_alike (is_same (image a) (image b)) (image a) (image b)
      (record { long = images_long; same = λ p s. eqb-true _ _ s }) HEAD_SIZE
      (volume_text (is_same (image a) (image b)) (image a)
      (λ p l m. same_true (get_or (image a) p 0) (get_or (image b) p 0) (images_front p l)))
    where
      same_true : (x y : ℕ) → x ≡ y → IsTrue (x == y)
      same_true x y e = grind (arith, nat_tests)

  pub same_volume : SameVolume a b
  same_volume = record {
    words = words;
    heads = heads;
    fulls = fulls;
    front = ext_get_or 0 (take 8 a) (take 8 b)
        (length-take 8 a ∙ (let h = heads in let x = length-take 8 b in omega arith))
        (λ i l. (let x = length-take 8 a in
        get_or-take 8 a i 0 (omega arith) ∙ near i (omega arith) ∙ sym (get_or-take 8 b i 0 (omega arith))));
    sums = sums;
    names = names;
  }

  -- if the full size is kept
  module _ (low : 16 ≤ word b 8) (high : word b 8 ≤ length b) where
    size_is : length a ≡ word b 8
    size_is = (let e = g.long in
        let f : (if nat_le HEAD_SIZE (word b 8) then word b 8 else HEAD_SIZE) ≡ word b 8 = grind (arith, nat_tests) in omega arith)

    pub image_a : image a ≡ a
    unfolding image
    image_a = take_all (word a 8) a (let w = words in let s = size_is in omega arith)

    pub image_b : image b ≡ take (length a) b
    unfolding image
    image_b = ap (λ n. take n b) (sym size_is)

    pub agrees : Agrees (is_same (take (length a) b) a) (take (length a) b) a
    agrees = record { long = length-take-le (length a) b short; same = λ p s. eqb-true _ _ s }

    looks : Alike g.headers (take (length a) b) a
    looks = alike (is_same (take (length a) b) a) g.headers (take (length a) b) a agrees g.closed

    pub header_forth : (profile : Profile) (r : Rule) (p : ℕ) → BreaksHeader profile (image b) r p → BreaksHeader profile (image a) r p
    header_forth profile r p x = subst (λ l. BreaksHeader profile l r p) (sym image_a)
        ((header_rules profile (is_same (take (length a) b) a) g.headers (take (length a) b) a agrees g.closed r p).0
        (subst (λ l. BreaksHeader profile l r p) image_b x))

    pub header_back : (profile : Profile) (r : Rule) (p : ℕ) → BreaksHeader profile (image a) r p → BreaksHeader profile (image b) r p
    header_back profile r p x = subst (λ l. BreaksHeader profile l r p) (sym image_b)
        ((header_rules profile (is_same (take (length a) b) a) g.headers (take (length a) b) a agrees g.closed r p).1
        (subst (λ l. BreaksHeader profile l r p) image_a x))

    pub roots : root (image b) ≡ root (image a)
    roots = ap root image_b ∙ looks.roots ∙ ap root (sym image_a)

    pub root_forth : HasNoRoot (image b) → HasNoRoot (image a)
    root_forth n = subst (λ l. HasNoRoot l) (sym image_a)
        (no_root_goes g.headers (take (length a) b) a looks g.closed.at_root (subst (λ l. HasNoRoot l) image_b n))

    pub root_back : HasNoRoot (image a) → HasNoRoot (image b)
    root_back n = subst (λ l. HasNoRoot l) (sym image_b)
        (no_root_goes g.headers a (take (length a) b) (alike_sym g.headers (take (length a) b) a looks)
        (subst (λ h. IsTrue (g.headers h)) looks.roots g.closed.at_root) (subst (λ l. HasNoRoot l) image_a n))

    pub all_forth : (profile : Profile) → ¬ IsTrue (reads_attributes profile) → (r : Rule) (p : ℕ) → Breaks profile b r p
        → Breaks profile a r p
    all_forth profile none Short p x = volume_goes b a (volume_sym a b same_volume) profile Short p (omega arith) x
    all_forth profile none Magic p x = volume_goes b a (volume_sym a b same_volume) profile Magic p (omega arith) x
    all_forth profile none FullSize p x = volume_goes b a (volume_sym a b same_volume) profile FullSize p (omega arith) x
    all_forth profile none BadSum p x = volume_goes b a (volume_sym a b same_volume) profile BadSum p (omega arith) x
    all_forth profile none VolumeName p x = volume_goes b a (volume_sym a b same_volume) profile VolumeName p (omega arith) x
    all_forth profile none NoRoot p (x, e) = (root_forth x, e ∙ roots)
    all_forth profile none Attributes p x = absurd (none x.0)
    all_forth profile none r p x = header_forth profile r p x

    pub all_back : (profile : Profile) → ¬ IsTrue (reads_attributes profile) → (r : Rule) (p : ℕ) → Breaks profile a r p
        → Breaks profile b r p
    all_back profile none Short p x = volume_goes a b same_volume profile Short p (omega arith) x
    all_back profile none Magic p x = volume_goes a b same_volume profile Magic p (omega arith) x
    all_back profile none FullSize p x = volume_goes a b same_volume profile FullSize p (omega arith) x
    all_back profile none BadSum p x = volume_goes a b same_volume profile BadSum p (omega arith) x
    all_back profile none VolumeName p x = volume_goes a b same_volume profile VolumeName p (omega arith) x
    all_back profile none NoRoot p (x, e) = (root_back x, e ∙ sym roots)
    all_back profile none Attributes p x = absurd (none x.0)
    all_back profile none r p x = header_back profile r p x

-- two lists of which the volume looks the same, and that break the same rules if it keeps its full
-- size
pub record Twins (profile : Profile) (a b : List ℕ) : Type 0 where
  pub volume : SameVolume a b
  pub forth : 16 ≤ word a 8 → word a 8 ≤ length a → (r : Rule) (p : ℕ) → Breaks profile a r p → Breaks profile b r p
  pub back : 16 ≤ word a 8 → word a 8 ≤ length a → (r : Rule) (p : ℕ) → Breaks profile b r p → Breaks profile a r p

full_or_not : (b : List ℕ) → ((16 ≤ word b 8) × (word b 8 ≤ length b)) ⊎ ((length b < word b 8) ⊎ (word b 8 < HEAD_SIZE))
full_or_not b = elim (cases_lt (word b 8) 16) [
  | inl l ↦ inr (inr (let q : word b 8 < HEAD_SIZE = omega arith in q))
  | inr l ↦ elim (cases_lt (length b) (word b 8)) [
    | inl m ↦ inr (inl m)
    | inr m ↦ inl (l, m)
  ]
]

-- the rules of the first stages
early : (r : Rule) → stage r ≤ 2 → rule_number r < 5
early Short l = omega arith
early Magic l = omega arith
early FullSize l = omega arith
early BadSum l = absurd (omega arith)
early VolumeName l = absurd (omega arith)
early NoRoot l = absurd (omega arith)
early r l = absurd (omega arith)

not_later : (r s : Rule) (p q : ℕ) → IsNamedBefore s q r p → stage s ≤ stage r
not_later r s p q (inl l) = omega arith
not_later r s p q (inr e) = (let f = e.0 in omega arith)

module _ (profile : Profile) (a b : List ℕ) (t : Twins profile a b) where
  sound_goes : IsSound profile a → IsSound profile b
  sound_goes s = record {
    keeps = λ r p x. elim (full_or_not a) [
      | inl f ↦ s.keeps r p (t.back f.0 f.1 r p x)
      | inr n ↦ s.keeps FullSize 8 (n, refl)
    ];
  }

  fault_goes : (r : Rule) (p : ℕ) → IsFault profile a r p → IsFault profile b r p
  fault_goes r p f = elim (full_or_not a) [
    | inl k ↦ record {
      broken = t.forth k.0 k.1 r p f.broken;
      first = λ s q x n. f.first s q (t.back k.0 k.1 s q x) n;
    }
    | inr k ↦ (let l : stage r ≤ 2 = low k in record {
      broken = volume_goes a b t.volume profile r p (early r l) f.broken;
      first = λ s q x n. f.first s q
          (volume_goes b a (volume_sym a b t.volume) profile s q (early s (let m = not_later r s p q n in omega arith)) x) n;
    })
  ]
    where
      low : (length a < word a 8) ⊎ (word a 8 < HEAD_SIZE) → stage r ≤ 2
      low k = elim (cases_lt 2 (stage r)) [
        | inl l ↦ absurd (f.first FullSize 8 (k, refl) (inl l))
        | inr l ↦ l
      ]

  pub fault_of_goes : (fault : Option ImageFault) → IsFaultOf profile a fault → IsFaultOf profile b fault
  fault_of_goes None s = sound_goes s
  fault_of_goes (Some f) s = fault_goes f.rule f.place s

twins : (profile : Profile) → ¬ IsTrue (reads_attributes profile) → (b a : List ℕ) → IsGatheredOf b a → Twins profile b a
twins profile none b a g = record {
  volume = volume_sym a b (same_volume b a g);
  forth = λ l h r p x. all_forth b a g l h profile none r p x;
  back = λ l h r p x. all_back b a g l h profile none r p x;
}

twins_back : (profile : Profile) → ¬ IsTrue (reads_attributes profile) → (b a : List ℕ) → IsGatheredOf b a → Twins profile a b
twins_back profile none b a g =
    let s = same_volume b a g in
    let w = s.words in
    let f = s.fulls in record {
      volume = s;
      forth = λ l h r p x. all_back b a g (omega arith) (omega arith) profile none r p x;
      back = λ l h r p x. all_forth b a g (omega arith) (omega arith) profile none r p x;
    }

pub same_fault : (profile : Profile) → ¬ IsTrue (reads_attributes profile) → (b a : List ℕ) → IsGatheredOf b a
    → (fault : Option ImageFault)
    → (IsFaultOf profile b fault → IsFaultOf profile a fault) × (IsFaultOf profile a fault → IsFaultOf profile b fault)
same_fault profile none b a g fault =
    (fault_of_goes profile b a (twins profile none b a g) fault, fault_of_goes profile a b (twins_back profile none b a g) fault)

pub same_breaks : (profile : Profile) → ¬ IsTrue (reads_attributes profile) → (b a : List ℕ) → IsGatheredOf b a → 16 ≤ word b 8
    → word b 8 ≤ length b → (r : Rule) (p : ℕ)
    → (Breaks profile b r p → Breaks profile a r p) × (Breaks profile a r p → Breaks profile b r p)
same_breaks profile none b a g l h r p = (all_forth b a g l h profile none r p, all_back b a g l h profile none r p)
