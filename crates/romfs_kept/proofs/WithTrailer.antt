-- What was gathered with its trailer breaks the rules that the bytes break (twins_forth, twins_back),
-- those of attributes, too (broken_forth, broken_back), and shows the same rows and lists (rows_alike,
-- lists_alike). Its front looks the same to the volume's rules (front_volume), and has the same
-- accessible bytes (image_is).
use Rattle.std.proofs.Common.{◌≡◌, ◌∙◌, sym, ap, subst, ℕ, ◌+◌, ◌^◌, ◌<◌, ◌≤◌, ◌&&◌, inl, inr, min, Bool, List, [], length, take, drop, get_or, Option, if◌then◌else◌, refl, arith, length-drop, length-take, take_all}
use Rattle.std.specs.Prelude.{nat_eq, nat_le, nat_lt, codes}
use Rattle.std.specs.List.{starts_with}
use Rattle.std.proofs.lemmas.Bool.{cases_lt, cases_Bool}
use Rattle.std.proofs.lemmas.Bool.Decides.{nat_tests}
use Rattle.std.proofs.lemmas.List.{get_or-take, get_or_past, ext_get_or, take-take}
use Rattle.romfs_format.specs.declared.limits.TheConstants.{HEAD_SIZE}
use Rattle.romfs_format.specs.declared.rule.Rule.{Rule}
use Rattle.romfs_format.specs.declared.rule.ImageFault.{ImageFault}
use Rattle.romfs_format.specs.declared.rule.Profile.{Profile}
use Rattle.romfs_format.specs.declared.rule.Rule.TheVariants.{Short, Magic, FullSize, BadSum, VolumeName, NoRoot, Attributes}
use Rattle.romfs_format.specs.Fields.{word, image, summed, text_at, root, padded}
use Rattle.romfs_format.specs.Profiles.{reads_attributes}
use Rattle.romfs_format.specs.Rules.{HasNoRoot, Breaks, BreaksHeader, IsSound, IsFaultOf}
use Rattle.romfs_format.specs.Trailer.{trailer, trailer_at, has_trailer, HasTrailer, IsTrailer, IsTrailerBroken, row_count, first_rows, first_lists, rows, rows_shown, lists, lists_shown}
use Rattle.romfs_format.proofs.Faults.{full_size}
use Rattle.romfs_format.proofs.Trailers.{kept_trailer}
use Rattle.romfs_held.proofs.Fields.{word_same}
use Rattle.romfs_held.proofs.Views.{short_front}
use Rattle.romfs_kept.specs.Footprint.{reach}
use Rattle.romfs_kept.specs.Gathered.{begins_trailer, kept_tail, IsGatheredWithTrailerOf}
use Rattle.romfs_kept.proofs.Heads.{judged, rows_same, lists_same, letters_same}
use Rattle.romfs_kept.proofs.Tails.{and_false}
use Rattle.romfs_kept.proofs.Volumes.{SameVolume, same_volume, volume_sym, volume_goes, header_forth, header_back, root_forth, root_back, roots, Twins, fault_of_goes}

-- fewer than 16 bytes are looked at only if there are no more
reach_short : (b : List ℕ) → reach b < 16 → length b ≡ reach b
reach_short b l = elim (cases_lt (word b 8) HEAD_SIZE) [
  | inl q ↦ (let f : (if nat_le HEAD_SIZE (word b 8) then word b 8 else HEAD_SIZE) ≡ HEAD_SIZE = grind (arith, nat_tests) in omega arith)
  | inr q ↦ (let f : (if nat_le HEAD_SIZE (word b 8) then word b 8 else HEAD_SIZE) ≡ word b 8 = grind (arith, nat_tests) in omega arith)
]

-- fewer than the full size, too
reach_cut : (b : List ℕ) → reach b < word b 8 → length b ≡ reach b
reach_cut b l = elim (cases_lt (word b 8) HEAD_SIZE) [
  | inl q ↦ (let f : (if nat_le HEAD_SIZE (word b 8) then word b 8 else HEAD_SIZE) ≡ HEAD_SIZE = grind (arith, nat_tests) in omega arith)
  | inr q ↦ (let f : (if nat_le HEAD_SIZE (word b 8) then word b 8 else HEAD_SIZE) ≡ word b 8 = grind (arith, nat_tests) in omega arith)
]

reach_full : (b : List ℕ) → 16 ≤ word b 8 → word b 8 ≤ length b → reach b ≡ word b 8
reach_full b l h =
    let f : (if nat_le HEAD_SIZE (word b 8) then word b 8 else HEAD_SIZE) ≡ word b 8 = grind (arith, nat_tests) in omega arith

abbrev shown : {X : Type 0} → Bool → List X → List X
shown h xs = if h then xs else []

module _ (b a : List ℕ) (g : IsGatheredWithTrailerOf b a) where
  front : List ℕ
  front = take (reach b) a

  front_long : length front ≡ reach b
  unfolding front
  front_long = g.front.long

  low : reach b ≤ length a
  unfolding front
  low = (let e = front_long in let t = length-take (reach b) a in omega arith)

  at_front : (p : ℕ) → p < 16 → get_or a p 0 ≡ get_or front p 0
  unfolding front
  at_front p l = elim (cases_lt p (reach b)) [
    | inl m ↦ sym (get_or-take (reach b) a p 0 m)
    | inr m ↦ (let e = reach_short b (omega arith) in let s = g.short in let f = front_long in
        get_or_past a p 0 (omega arith) ∙ sym (get_or_past front p 0 (omega arith)))
  ]

  words_front : word a 8 ≡ word front 8
  words_front = word_same a front 8 8 (λ i l. at_front (8 + i) (omega arith))

  volume : SameVolume front b
  unfolding front
  volume = same_volume b front g.front

  image_front : image a ≡ image front
  unfolding front image
  image_front = elim (cases_lt (reach b) (word a 8)) [
    | inl l ↦ (
        let w = words_front in
        let v = volume.words in
        let e = reach_cut b (omega arith) in
        let s = g.short in
        take_all (word a 8) a (omega arith)
        ∙ sym (ap (λ xs. take (word front 8) xs) (take_all (reach b) a (omega arith)) ∙ take_all (word front 8) a (omega arith)))
    | inr l ↦ ap (λ n. take n a) words_front ∙ sym (take-take (word front 8) (reach b) a (let w = words_front in omega arith))
  ]

  -- the accessible bytes are those of the front
  pub image_is : image a ≡ image (take (reach b) a)
  unfolding front
  image_is = image_front

  starts : take 8 a ≡ take 8 front
  starts =
      let f = front_long in
      let l = low in
      let x = length-take 8 a in
      let y = length-take 8 front in
      let e : min 8 (length a) ≡ min 8 (length front) = elim (cases_lt (reach b) 16) [
        | inl q ↦ (let r = reach_short b q in let s = g.short in omega arith)
        | inr q ↦ omega arith
      ] in
      ext_get_or 0 (take 8 a) (take 8 front) (omega arith) (λ i m.
      get_or-take 8 a i 0 (omega arith) ∙ at_front i (omega arith) ∙ sym (get_or-take 8 front i 0 (omega arith)))

  pub front_volume : SameVolume a b
  front_volume =
      let v = volume in
      let f = front_long in
      let l = low in
      let s = g.short in
      let w = words_front in
      let h = v.heads in
      let u = v.fulls in
      record {
        words = words_front ∙ v.words;
        heads = omega arith;
        fulls = omega arith;
        front = starts ∙ v.front;
        sums = ap summed image_front ∙ v.sums;
        names = ap (λ xs. text_at xs HEAD_SIZE) image_front ∙ v.names;
      }

  -- if the full size is kept
  module _ (least : 16 ≤ word b 8) (most : word b 8 ≤ length b) where
    full_is : word b 8 ≡ reach b
    full_is = sym (reach_full b least most)

    full_too : word a 8 ≡ reach b
    full_too = front_volume.words ∙ full_is

    place_is : trailer_at b ≡ padded (reach b)
    place_is = ap (λ n. padded n) full_is

    place_too : trailer_at a ≡ padded (reach b)
    place_too = ap (λ n. padded n) full_too

    has_is : has_trailer b ≡ begins_trailer b (padded (reach b))
    unfolding trailer
    has_is = ap (λ p. begins_trailer b p) place_is

    has_too : has_trailer a ≡ begins_trailer a (padded (reach b))
    unfolding trailer
    has_too = ap (λ p. begins_trailer a p) place_too

    has_same : has_trailer a ≡ has_trailer b
    has_same = has_too ∙ elim (cases_Bool (begins_trailer b (padded (reach b)))) [
      | inl e ↦ ap (λ x. nat_lt (padded (reach b)) (2 ^ 32) && x)
          (ap (λ t. starts_with nat_eq t (codes "-attr01-")) (g.tail e) ∙ letters_same (drop (padded (reach b)) b) (reach b))
      | inr e ↦ (let n = g.none e in let d = length-drop (padded (reach b)) a in
          and_false (nat_lt (padded (reach b)) (2 ^ 32)) _
          (short_front (drop (padded (reach b)) a) (codes "-attr01-") (omega arith)) ∙ sym e)
    ] ∙ sym has_is

    tail_is : HasTrailer b → trailer a ≡ kept_tail (reach b) (trailer b)
    unfolding trailer
    tail_is h = ap (λ p. drop p a) place_too ∙ g.tail (sym has_is ∙ h)
        ∙ ap (λ p. kept_tail (reach b) (drop p b)) (sym place_is)

    goes : HasTrailer b → IsTrailer (word b 8) (trailer b) → IsTrailer (word a 8) (trailer a)
    goes h x = subst (λ t. IsTrailer (word a 8) t) (sym (tail_is h))
        (subst (λ n. IsTrailer n (kept_tail (reach b) (trailer b))) (sym full_too)
        ((judged (trailer b) (reach b)).0 (subst (λ n. IsTrailer n (trailer b)) full_is x)))

    comes : HasTrailer b → IsTrailer (word a 8) (trailer a) → IsTrailer (word b 8) (trailer b)
    comes h x = subst (λ n. IsTrailer n (trailer b)) (sym full_is)
        ((judged (trailer b) (reach b)).1 (subst (λ n. IsTrailer n (kept_tail (reach b) (trailer b))) full_too
        (subst (λ t. IsTrailer (word a 8) t) (tail_is h) x)))

    broken_forth : IsTrailerBroken b → IsTrailerBroken a
    broken_forth (h, n) = (has_same ∙ h, λ x. n (comes h x))

    broken_back : IsTrailerBroken a → IsTrailerBroken b
    broken_back (h, n) = (let k = sym has_same ∙ h in (k, λ x. n (goes k x)))

    pub rows_alike : ¬ IsTrailerBroken b → rows a ≡ rows b
    rows_alike k = elim (cases_Bool (has_trailer b)) [
      | inl h ↦ by_has has_same (ap (λ t. first_rows t (row_count t)) (tail_is h)
          ∙ rows_same (trailer b) (reach b) (subst (λ n. IsTrailer n (trailer b)) full_is (kept_trailer b h k)))
      | inr e ↦ ap (λ x. shown x (first_rows (trailer a) (row_count (trailer a)))) (has_same ∙ e)
          ∙ sym (ap (λ x. shown x (first_rows (trailer b) (row_count (trailer b)))) e)
    ]
      where
        by_has : has_trailer a ≡ has_trailer b → first_rows (trailer a) (row_count (trailer a)) ≡ first_rows (trailer b) (row_count
            (trailer b))
            → rows a ≡ rows b
        by_has e f = ap (λ x. shown x (first_rows (trailer a) (row_count (trailer a)))) e ∙ ap (λ xs. shown (has_trailer b) xs) f

    pub lists_alike : ¬ IsTrailerBroken b → lists a ≡ lists b
    lists_alike k = elim (cases_Bool (has_trailer b)) [
      | inl h ↦ by_has has_same (ap (λ t. first_lists t (row_count t)) (tail_is h)
          ∙ lists_same (trailer b) (reach b) (subst (λ n. IsTrailer n (trailer b)) full_is (kept_trailer b h k)))
      | inr e ↦ ap (λ x. shown x (first_lists (trailer a) (row_count (trailer a)))) (has_same ∙ e)
          ∙ sym (ap (λ x. shown x (first_lists (trailer b) (row_count (trailer b)))) e)
    ]
      where
        by_has : has_trailer a ≡ has_trailer b → first_lists (trailer a) (row_count (trailer a)) ≡ first_lists (trailer b) (row_count
            (trailer b))
            → lists a ≡ lists b
        by_has e f = ap (λ x. shown x (first_lists (trailer a) (row_count (trailer a)))) e ∙ ap (λ xs. shown (has_trailer b) xs) f

    no_root_forth : HasNoRoot (image b) → HasNoRoot (image a)
    unfolding front
    no_root_forth n = subst (λ xs. HasNoRoot xs) (sym image_front) (root_forth b front g.front least most n)

    no_root_back : HasNoRoot (image a) → HasNoRoot (image b)
    unfolding front
    no_root_back n = root_back b front g.front least most (subst (λ xs. HasNoRoot xs) image_front n)

    same_root : root (image b) ≡ root (image a)
    unfolding front
    same_root = roots b front g.front least most ∙ ap root (sym image_front)

    headers_forth : (profile : Profile) (r : Rule) (p : ℕ) → BreaksHeader profile (image b) r p → BreaksHeader profile (image a) r p
    unfolding front
    headers_forth profile r p x = subst (λ xs. BreaksHeader profile xs r p) (sym image_front)
        (header_forth b front g.front least most profile r p x)

    headers_back : (profile : Profile) (r : Rule) (p : ℕ) → BreaksHeader profile (image a) r p → BreaksHeader profile (image b) r p
    unfolding front
    headers_back profile r p x = header_back b front g.front least most profile r p
        (subst (λ xs. BreaksHeader profile xs r p) image_front x)

    each_forth : (profile : Profile) (r : Rule) (p : ℕ) → Breaks profile b r p → Breaks profile a r p
    each_forth profile Short p x = volume_goes b a (volume_sym a b front_volume) profile Short p (omega arith) x
    each_forth profile Magic p x = volume_goes b a (volume_sym a b front_volume) profile Magic p (omega arith) x
    each_forth profile FullSize p x = volume_goes b a (volume_sym a b front_volume) profile FullSize p (omega arith) x
    each_forth profile BadSum p x = volume_goes b a (volume_sym a b front_volume) profile BadSum p (omega arith) x
    each_forth profile VolumeName p x = volume_goes b a (volume_sym a b front_volume) profile VolumeName p (omega arith) x
    each_forth profile NoRoot p (x, e) = (no_root_forth x, e ∙ same_root)
    each_forth profile Attributes p (x, y, e) = (x, broken_forth y, e ∙ place_is ∙ sym place_too)
    each_forth profile r p x = headers_forth profile r p x

    each_back : (profile : Profile) (r : Rule) (p : ℕ) → Breaks profile a r p → Breaks profile b r p
    each_back profile Short p x = volume_goes a b front_volume profile Short p (omega arith) x
    each_back profile Magic p x = volume_goes a b front_volume profile Magic p (omega arith) x
    each_back profile FullSize p x = volume_goes a b front_volume profile FullSize p (omega arith) x
    each_back profile BadSum p x = volume_goes a b front_volume profile BadSum p (omega arith) x
    each_back profile VolumeName p x = volume_goes a b front_volume profile VolumeName p (omega arith) x
    each_back profile NoRoot p (x, e) = (no_root_back x, e ∙ sym same_root)
    each_back profile Attributes p (x, y, e) = (x, broken_back y, e ∙ place_too ∙ sym place_is)
    each_back profile r p x = headers_back profile r p x

  twins_forth : (profile : Profile) → Twins profile b a
  twins_forth profile = record {
    volume = volume_sym a b front_volume;
    forth = λ l h r p x. each_forth l h profile r p x;
    back = λ l h r p x. each_back l h profile r p x;
  }

  twins_back : (profile : Profile) → Twins profile a b
  twins_back profile =
      let w = front_volume.words in
      let f = front_volume.fulls in record {
        volume = front_volume;
        forth = λ l h r p x. each_back (omega arith) (omega arith) profile r p x;
        back = λ l h r p x. each_forth (omega arith) (omega arith) profile r p x;
      }

  pub same_fault_with_trailer : (profile : Profile) (fault : Option ImageFault)
      → (IsFaultOf profile b fault → IsFaultOf profile a fault) × (IsFaultOf profile a fault → IsFaultOf profile b fault)
  same_fault_with_trailer profile fault =
      (fault_of_goes profile b a (twins_forth profile) fault, fault_of_goes profile a b (twins_back profile) fault)

  pub same_lists_shown : (profile : Profile) → IsSound profile b → lists_shown profile a ≡ lists_shown profile b
  same_lists_shown profile s = elim (cases_Bool (reads_attributes profile)) [
    | inl e ↦ ap (λ x. shown x (lists a)) e ∙ lists_alike full.0 full.1 (λ x. s.keeps Attributes (trailer_at b) (e, x, refl))
        ∙ sym (ap (λ x. shown x (lists b)) e)
    | inr e ↦ ap (λ x. shown x (lists a)) e ∙ sym (ap (λ x. shown x (lists b)) e)
  ]
    where
      full : (16 ≤ word b 8) × (word b 8 ≤ length b)
      full = full_size profile b s

  pub same_rows_shown : (profile : Profile) → IsSound profile b → rows_shown profile a ≡ rows_shown profile b
  same_rows_shown profile s = elim (cases_Bool (reads_attributes profile)) [
    | inl e ↦ ap (λ x. shown x (rows a)) e ∙ rows_alike full.0 full.1 (λ x. s.keeps Attributes (trailer_at b) (e, x, refl))
        ∙ sym (ap (λ x. shown x (rows b)) e)
    | inr e ↦ ap (λ x. shown x (rows a)) e ∙ sym (ap (λ x. shown x (rows b)) e)
  ]
    where
      full : (16 ≤ word b 8) × (word b 8 ≤ length b)
      full = full_size profile b s
