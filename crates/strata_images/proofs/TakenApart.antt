-- Images that are split one after another: the step at each, and the end.
use Rattle.std.proofs.Common.{◌≡◌, ◌∙◌, ap, arith, refl, List, [], ◌∷◌, ◌++◌, append_assoc, append-nil, length, map, Option, Some, None, sym}
use Rattle.romfs_files.specs.declared.image_data.ImageData.{ImageData}
use Rattle.romfs_files.specs.declared.loaded.LoadedImage.{LoadedImage}
use Rattle.strata_images.specs.Images.{added, before, files_of}

-- what is held of the next one goes to what is held of those that are done
pub one_held : {X Y : Type 0} (f : X → Y) (all done now : List Y) (left rest : List X) (x : X) → all ≡ done ++ map f left
    → left ≡ x ∷ rest → now ≡ done ++ f x ∷ [] → all ≡ now ++ map f rest
one_held f all done now left rest x e l n =
    e ∙ ap (λ xs. done ++ map f xs) l ∙ sym (append_assoc done (f x ∷ []) (map f rest)) ∙ ap (λ ys. ys ++ map f rest) (sym n)

added_before : {T : Type 0} (list rest : List T) (value : Option T) → list ++ before value rest ≡ added list value ++ rest
added_before list rest None = refl
added_before list rest (Some value) = sym (append_assoc list (value ∷ []) rest)

-- and what its data are read from
pub one_file : {F A : Type 0} (all done now : List (ImageData F A)) (left rest : List (LoadedImage F A)) (image : LoadedImage F A)
    → all ≡ done ++ files_of left → left ≡ image ∷ rest → now ≡ added done image.source → all ≡ now ++ files_of rest
one_file all done now left rest image e l n =
    e ∙ ap (λ xs. done ++ files_of xs) l ∙ added_before done (files_of rest) image.source ∙ ap (λ ys. ys ++ files_of rest) (sym n)

nothing : {X : Type 0} (xs : List X) → length xs ≡ 0 → xs ≡ []
nothing [] none = refl
nothing (x ∷ xs) none = absurd (omega (arith, none))

-- if none is left, all are done
pub all_done : {X Y : Type 0} (f : List X → List Y) (all done : List Y) (left : List X) → f [] ≡ [] → all ≡ done ++ f left
    → length left ≡ 0 → done ≡ all
all_done f all done left nil e none =
    sym (e ∙ ap (λ xs. done ++ f xs) (nothing left none) ∙ ap (λ ys. done ++ ys) nil ∙ append-nil done)
