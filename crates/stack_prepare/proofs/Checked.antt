-- Images that are checked, one after another or in two halves. `one_more` and `all_checked` are the loop; `joined` is the main lemma: the
-- result of two halves is that of the run, of which the lowest broken image is reported. The last lemmas say it for all images.
use Rattle.std.proofs.Common.{◌≡◌, ◌∙◌, sym, ap, ℕ, ◌+◌, ◌≤◌, inl, inr, take, drop, List, [], ◌∷◌, ◌++◌, append_assoc, append-nil, subst, refl, arith, length, map, All, Bool, Result, Ok, Err, IfOk, IfErr}
use Rattle.std.proofs.lemmas.List.{length-map, length-append, map-append, take-append-drop, length-take-le}
use Rattle.std.proofs.lemmas.List.Elements.{All-push, All-append}
use Rattle.romfs_format.specs.Rules.{IsFault, IsSound}
use Rattle.romfs_format.specs.Extended.{Extended}
use Rattle.romfs_format.specs.declared.attribute_row.AttributeRow.{AttributeRow}
use Rattle.romfs_format.specs.declared.rule.ImageFault.{ImageFault}
use Rattle.romfs_format.specs.declared.rule.Profile.{Profile}
use Rattle.romfs_held.specs.declared.image.HeldImage.{HeldImage}
use Rattle.romfs_held.specs.Images.{held_bytes}
use Rattle.romfs_reader.specs.Images.{HeldBytes}
use Rattle.stack_prepare.specs.declared.checking.Checked.{Checked}
use Rattle.stack_prepare.specs.declared.refusal.Refusal.{Refusal}
use Rattle.stack_prepare.specs.declared.refusal.Refusal.TheVariants.{Layer, Layers, Memory}
use Rattle.stack_prepare.specs.Layers.{IsFew, IsLowestBroken, AreRefused}
use Rattle.stack_prepare.specs.Checking.{accessible, rows_of, lists_of, AreChecked, AreBoth, IsBroken, Checks, IsFirstRefusal, Joins}

-- the images before those that are left keep the rules, and this is what is kept of them
pub record AreTaken {A : Type 0} (profile : Profile) (all left : List (HeldImage A)) (kept : List HeldBytes)
    (rows : List (List AttributeRow)) (lists : List (List (List Extended))) : Type 0 where
  pub below : List (HeldImage A)
  pub split : all ≡ below ++ left
  pub sound : All (IsSound profile) (map held_bytes below)
  pub are : kept ≡ map accessible below
  pub rows_are : rows ≡ map (rows_of profile) below
  pub lists_are : lists ≡ map (lists_of profile) below

-- an image that has these bytes, and all or not
pub held_as : (held : HeldBytes) (bytes : List ℕ) (whole : Bool) → held.bytes ≡ bytes → held.whole ≡ whole
    → held ≡ record { bytes = bytes; whole = whole }
held_as held bytes whole e f =
    ap (λ (b : List ℕ). record { bytes = b; whole = held.whole }) e ∙ ap (λ (w : Bool). record { bytes = bytes; whole = w }) f

-- before the first image none is taken
pub none_taken : {A : Type 0} (profile : Profile) (all : List (HeldImage A)) → AreTaken profile all all [] [] []
none_taken profile all = record {
  below = [];
  split = refl;
  sound = λ k d l. absurd (omega arith);
  are = refl;
  rows_are = refl;
  lists_are = refl;
}

module _ {A : Type 0} {profile : Profile} {all left : List (HeldImage A)} {kept : List HeldBytes} {rows : List (List AttributeRow)}
    {lists : List (List (List Extended))} (t : AreTaken profile all left kept rows lists)
    (x : HeldImage A) (rest : List (HeldImage A)) (next : left ≡ x ∷ rest) where
  -- an image that keeps the rules moves from those that are left to those that are taken
  pub one_more : (sound : HeldBytes) (its : List AttributeRow) (those : List (List Extended)) → sound ≡ accessible x
      → its ≡ rows_of profile x → those ≡ lists_of profile x → IsSound profile (held_bytes x)
      → AreTaken profile all rest (kept ++ sound ∷ []) (rows ++ its ∷ []) (lists ++ those ∷ [])
  one_more sound its those e f g d = record {
    below = t.below ++ x ∷ [];
    split = t.split ∙ ap (λ xs. t.below ++ xs) next ∙ sym (append_assoc t.below (x ∷ []) rest);
    sound = subst (All (IsSound profile)) (sym (map-append held_bytes t.below (x ∷ [])))
        (All-push (IsSound profile) (map held_bytes t.below) (held_bytes x) t.sound d);
    are = ap (λ xs. xs ++ sound ∷ []) t.are ∙ ap (λ y. map accessible t.below ++ y ∷ []) e
        ∙ sym (map-append accessible t.below (x ∷ []));
    rows_are = ap (λ xs. xs ++ its ∷ []) t.rows_are ∙ ap (λ y. map (rows_of profile) t.below ++ y ∷ []) f
        ∙ sym (map-append (rows_of profile) t.below (x ∷ []));
    lists_are = ap (λ xs. xs ++ those ∷ []) t.lists_are ∙ ap (λ y. map (lists_of profile) t.below ++ y ∷ []) g
        ∙ sym (map-append (lists_of profile) t.below (x ∷ []));
  }

  -- if the next image breaks a rule, it is the lowest that does
  pub next_breaks : (first n : ℕ) (fault : ImageFault) → n ≡ length kept → IsFault profile (held_bytes x) fault.rule fault.place
      → IsBroken first profile (map held_bytes all) (Layer (first + n) fault)
  next_breaks first n fault h f = (
    n,
    refl,
    record {
      below = map held_bytes t.below;
      above = map held_bytes rest;
      bytes = held_bytes x;
      images_are = ap (map held_bytes) (t.split ∙ ap (λ xs. t.below ++ xs) next) ∙ map-append held_bytes t.below (x ∷ rest);
      layer_is = h ∙ ap length t.are ∙ length-map t.below accessible ∙ sym (length-map t.below held_bytes);
      sound = t.sound;
      broken = f;
    },
  )

-- no more images are taken than there are
pub taken_within : {A : Type 0} {profile : Profile} {all left : List (HeldImage A)} {kept : List HeldBytes}
    {rows : List (List AttributeRow)} {lists : List (List (List Extended))} → AreTaken profile all left kept rows lists
    → length kept ≤ length all
taken_within {left = left} {kept} t =
    let same = ap length t.are ∙ length-map t.below accessible in
    let whole = ap length t.split ∙ length-append t.below left in
    omega arith

nothing : {X : Type 0} (xs : List X) → length xs ≡ 0 → xs ≡ []
nothing [] none = refl
nothing (x ∷ xs) none = absurd (omega (arith, none))

-- if none is left, all are checked
pub all_checked : {A : Type 0} {profile : Profile} {all left : List (HeldImage A)} {kept : List HeldBytes}
    {rows : List (List AttributeRow)} {lists : List (List (List Extended))} (checked : Checked A)
    → AreTaken profile all left kept rows lists → length left ≡ 0 → checked.images.items ≡ kept → checked.rows.items ≡ rows
    → checked.lists.items ≡ lists → AreChecked profile all checked
all_checked {profile = profile} {all} {left} checked t none e f g =
    let same : all ≡ t.below = t.split ∙ ap (λ xs. t.below ++ xs) (nothing left none) ∙ append-nil t.below in
    record {
      sound = subst (λ xs. All (IsSound profile) (map held_bytes xs)) (sym same) t.sound;
      are = e ∙ t.are ∙ ap (map accessible) (sym same);
      rows_are = f ∙ t.rows_are ∙ ap (map (rows_of profile)) (sym same);
      lists_are = g ∙ t.lists_are ∙ ap (map (lists_of profile)) (sym same);
    }

-- two halves that keep the rules
pub whole : {A : Type 0} (profile : Profile) (lows highs : List (HeldImage A)) (low high all : Checked A) → AreChecked profile lows low
    → AreChecked profile highs high → AreBoth low high all → AreChecked profile (lows ++ highs) all
whole profile lows highs low high all l h both = record {
  sound = subst (All (IsSound profile)) (sym (map-append held_bytes lows highs))
      (All-append (IsSound profile) (map held_bytes lows) (map held_bytes highs) l.sound h.sound);
  are = both.images_are ∙ ap (λ xs. xs ++ high.images.items) l.are ∙ ap (λ xs. map accessible lows ++ xs) h.are
      ∙ sym (map-append accessible lows highs);
  rows_are = both.rows_are ∙ ap (λ xs. xs ++ high.rows.items) l.rows_are ∙ ap (λ xs. map (rows_of profile) lows ++ xs) h.rows_are
      ∙ sym (map-append (rows_of profile) lows highs);
  lists_are = both.lists_are ∙ ap (λ xs. xs ++ high.lists.items) l.lists_are
      ∙ ap (λ xs. map (lists_of profile) lows ++ xs) h.lists_are ∙ sym (map-append (lists_of profile) lows highs);
}

-- the lower half's broken image is the lowest of both
pub broken_low : (first : ℕ) (profile : Profile) (lows highs : List (List ℕ)) (refusal : Refusal) → IsBroken first profile lows refusal
    → IsBroken first profile (lows ++ highs) refusal
broken_low first profile lows highs (Layer layer fault) (n, at, broken) = (
  n,
  at,
  record {
    below = broken.below;
    above = broken.above ++ highs;
    bytes = broken.bytes;
    images_are = ap (λ xs. xs ++ highs) broken.images_are ∙ append_assoc broken.below (broken.bytes ∷ broken.above) highs;
    layer_is = broken.layer_is;
    sound = broken.sound;
    broken = broken.broken;
  },
)
broken_low first profile lows highs Memory b = tt
broken_low first profile lows highs (Layers count) b = absurd b

-- the upper half's is, if the lower half keeps the rules
pub broken_high : (first : ℕ) (profile : Profile) (lows : List (List ℕ)) → All (IsSound profile) lows → (highs : List (List ℕ))
    (refusal : Refusal) → IsBroken (first + length lows) profile highs refusal → IsBroken first profile (lows ++ highs) refusal
broken_high first profile lows low highs (Layer layer fault) (n, at, broken) = (
  length lows + n,
  omega arith,
  record {
    below = lows ++ broken.below;
    above = broken.above;
    bytes = broken.bytes;
    images_are = ap (λ ys. lows ++ ys) broken.images_are ∙ sym (append_assoc lows broken.below (broken.bytes ∷ broken.above));
    layer_is = ap (λ m. length lows + m) broken.layer_is ∙ sym (length-append lows broken.below);
    sound = All-append (IsSound profile) lows broken.below low broken.sound;
    broken = broken.broken;
  },
)
broken_high first profile lows low highs Memory b = tt
broken_high first profile lows low highs (Layers count) b = absurd b

-- the result of both checked halves is the images of both, or memory ran out
pub joins_both : {A : Type 0} (low high : Result (Checked A) Refusal) (lows highs : Checked A) (result : Result (Checked A) Refusal)
    → low ≡ Ok lows → high ≡ Ok highs → IfOk result (AreBoth lows highs) → IfErr result (λ refusal. refusal ≡ Memory)
    → Joins low high result
joins_both low high lows highs (Ok all) e f ok err =
    subst (λ l. Joins l high (Ok all)) (sym e) (subst (λ h. Joins (Ok lows) h (Ok all)) (sym f) ok)
joins_both low high lows highs (Err refusal) e f ok err = inl err

-- the result of two halves of a run, the upper one numbered on from where the lower one ends
pub record AreHalves {A : Type 0} (first : ℕ) (profile : Profile) (lows highs : List (HeldImage A)) (low high : Result (Checked A) Refusal)
    : Type 0 where
  pub lower : Checks first profile lows low
  pub upper : Checks (first + length (map held_bytes lows)) profile highs high

module _ {A : Type 0} (first : ℕ) (profile : Profile) (lows highs : List (HeldImage A)) where
  abbrev all_bytes : List (List ℕ)
  all_bytes = map held_bytes lows ++ map held_bytes highs

  -- why the first of two halves stopped is why the run did
  refused_first : (low high : Result (Checked A) Refusal) (refusal : Refusal) → AreHalves first profile lows highs low high
      → IsFirstRefusal low high refusal → IsBroken first profile all_bytes refusal
  refused_first (Err s) high refusal h is =
      subst (IsBroken first profile all_bytes) (sym is)
      (broken_low first profile (map held_bytes lows) (map held_bytes highs) s h.lower.1)
  refused_first (Ok xs) (Err s) refusal h is =
      subst (IsBroken first profile all_bytes) (sym is)
      (broken_high first profile (map held_bytes lows) h.lower.0.sound (map held_bytes highs) s h.upper.1)
  refused_first (Ok xs) (Ok ys) refusal h is = absurd is

  of_all : (refusal : Refusal) → IsBroken first profile all_bytes refusal → IsBroken first profile (map held_bytes (lows ++ highs)) refusal
  of_all refusal b = subst (λ xs. IsBroken first profile xs refusal) (sym (map-append held_bytes lows highs)) b

  -- the result of two halves is that of the run
  pub joined : (low high result : Result (Checked A) Refusal) → AreHalves first profile lows highs low high → Joins low high result
      → Checks first profile (lows ++ highs) result
  joined (Ok xs) (Ok ys) (Ok all) h is = (whole profile lows highs xs ys all h.lower.0 h.upper.0 is, tt)
  joined (Ok xs) (Err s) (Ok all) h is = absurd is
  joined (Err s) high (Ok all) h is = absurd is
  joined low high (Err refusal) h (inl memory) =
      (tt, subst (IsBroken first profile (map held_bytes (lows ++ highs))) (sym memory) tt)
  joined low high (Err refusal) h (inr is) = (tt, of_all refusal (refused_first low high refusal h is))

-- what stopped the check of a few images is why they are refused
pub as_refused : {A : Type 0} (profile : Profile) (all : List (HeldImage A)) (refusal : Refusal) → IsFew (length all)
    → IsBroken 0 profile (map held_bytes all) refusal → AreRefused profile (map held_bytes all) refusal
as_refused profile all (Layer layer fault) few (n, at, broken) = (
  subst IsFew (sym (length-map all held_bytes)) few,
  subst (λ m. IsLowestBroken profile (map held_bytes all) m fault) (sym (at ∙ none n)) broken,
)
  where
    none : (m : ℕ) → 0 + m ≡ m
    none m = omega arith
as_refused profile all Memory few b = subst IsFew (sym (length-map all held_bytes)) few
as_refused profile all (Layers count) few b = absurd b

-- the two parts of a list that is cut are the list
pub halved : {X : Type 0} (all lows highs : List X) (half : ℕ) → lows ≡ take half all → highs ≡ drop half all → lows ++ highs ≡ all
halved all lows highs half l h = ap (λ xs. xs ++ highs) l ∙ ap (λ xs. take half all ++ xs) h ∙ take-append-drop half all

-- the numbers of the upper part begin where those of the lower end
pub counted : {A : Type 0} (all lows : List (HeldImage A)) (half first : ℕ) → lows ≡ take half all → half ≤ length all
    → first + half ≡ first + length (map held_bytes lows)
counted all lows half first l m =
    ap (λ n. first + n) (sym (length-take-le half all m) ∙ ap length (sym l) ∙ sym (length-map lows held_bytes))
