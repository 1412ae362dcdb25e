-- Images that are checked one after another. `one_more` is the step of the loop: the next image is good, and its size is added after the
-- others. `all_sized` ends it, or `first_refused`: the next image is not good. `good_put` says how a check ends.
use Rattle.std.proofs.Common.{◌≡◌, ◌∙◌, sym, ap, refl, subst, arith, ℕ, List, [], ◌∷◌, ◌++◌, append_assoc, append-nil, length, map, inl, Result, Ok, Err, IfErr, IsErrAnd}
use Rattle.std.proofs.lemmas.List.{length-map, map-append}
use Rattle.std.proofs.lemmas.List.Elements.{All-push}
use Rattle.romfs_format.specs.declared.rule.Profile.{Profile}
use Rattle.romfs_format.specs.Fields.{image}
use Rattle.romfs_format.specs.Rules.{IsSound}
use Rattle.strata_images.specs.declared.faults.ImagesFault.{ImagesFault}
use Rattle.strata_words.specs.declared.options.Line.{Line}
use Rattle.strata_images.specs.Checking.{AreAccepted, AreGood, AreSizes, IsFirstFault, IsImageFault}
use Rattle.strata_images.specs.Lines.{ArePut}
use Rattle.strata_images.specs.Texts.{size_lines}
use Rattle.devices.specs.States.{SinkState}

-- the images before those that are left are good, and these are their sizes
pub record AreSized {X : Type 0} (v : X → List ℕ) (profile : Profile) (all : List (List ℕ)) (left : List X) (sizes : List ℕ) : Type 0 where
  pub before : List (List ℕ)
  pub split : all ≡ before ++ map v left
  pub good : AreSizes profile before sizes

-- before the first image none is checked
pub none_sized : {X : Type 0} (v : X → List ℕ) (profile : Profile) (all : List X) → AreSized v profile (map v all) all []
none_sized v profile all = record {
  before = [];
  split = refl;
  good = record { sound = λ k d l. absurd (omega arith); sizes_are = refl };
}

-- a good image moves from those that are left to those that are checked
pub one_more : {X : Type 0} {v : X → List ℕ} {profile : Profile} {all : List (List ℕ)} {left : List X} {sizes : List ℕ}
    → AreSized v profile all left sizes → (x : X) (rest : List X) → left ≡ x ∷ rest → (full : ℕ) → full ≡ length (image (v x))
    → IsSound profile (v x) → AreSized v profile all rest (sizes ++ full ∷ [])
one_more {v = v} {profile} {sizes = sizes} s x rest l full f d = record {
  before = s.before ++ v x ∷ [];
  split = s.split ∙ ap (λ xs. s.before ++ map v xs) l ∙ sym (append_assoc s.before (v x ∷ []) (map v rest));
  good = record {
    sound = All-push (IsSound profile) s.before (v x) s.good.sound d;
    sizes_are = ap (λ xs. xs ++ full ∷ []) s.good.sizes_are ∙ ap (λ n. map (λ b. length (image b)) s.before ++ n ∷ []) f
        ∙ sym (map-append (λ b. length (image b)) s.before (v x ∷ []));
  };
}

nothing : {X : Type 0} (xs : List X) → length xs ≡ 0 → xs ≡ []
nothing [] none = refl
nothing (x ∷ xs) none = absurd (omega (arith, none))

-- if none is left, all are good
pub all_sized : {X : Type 0} (v : X → List ℕ) (profile : Profile) (all : List (List ℕ)) (left : List X) (sizes : List ℕ)
    → AreSized v profile all left sizes → length left ≡ 0 → AreSizes profile all sizes
all_sized v profile all left sizes s none =
    let same : all ≡ s.before = s.split ∙ ap (λ xs. s.before ++ map v xs) (nothing left none) ∙ append-nil s.before in
    subst (λ xs. AreSizes profile xs sizes) (sym same) s.good

-- an image that is not good is the first one
pub first_refused : {X Y : Type 0} {v : X → List ℕ} {profile : Profile} {all : List (List ℕ)} {left : List X} {sizes : List ℕ}
    → AreSized v profile all left sizes → (x : X) (rest : List X) → left ≡ x ∷ rest → (n : ℕ) → n ≡ length sizes → (fault : ImagesFault)
    → IsImageFault profile n (v x) fault → (r : Result Y ImagesFault) → IsErrAnd r (λ told. told ≡ fault)
    → IfErr r (IsFirstFault profile all)
first_refused s x rest l n e fault f (Ok y) same = absurd same
first_refused {v = v} {profile} {all} s x rest l n e fault f (Err told) same =
    subst (IsFirstFault profile all) (sym same) (inl (record {
      before = s.before;
      after = map v rest;
      bytes = v x;
      images_are = s.split ∙ ap (λ xs. s.before ++ map v xs) l;
      sound = s.good.sound;
      refused = subst (λ n. IsImageFault profile n (v x) fault)
          (e ∙ ap (λ (xs : List ℕ). length xs) s.good.sizes_are ∙ length-map s.before (λ b. length (image b))) f;
    }))

-- the lines of the sizes of good images are put
pub good_put : (line : Line) (images : List (List ℕ)) (sizes lines : List ℕ) (old new : SinkState) → AreAccepted line images sizes
    → lines ≡ size_lines 0 sizes → ArePut lines old new → AreGood line images old new
good_put line images sizes lines old new are is put =
    record { sizes = sizes; accepted = are; put = subst (λ xs. ArePut xs old new) is put }
