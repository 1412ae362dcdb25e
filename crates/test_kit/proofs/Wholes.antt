-- Images that are held in full, one after another.
use Rattle.std.proofs.Common.{◌≡◌, ◌&&◌, ◌∙◌, Bool, true, refl, List, [], ◌∷◌, ◌++◌}
use Rattle.std.proofs.lemmas.List.Folds.{list_all-append}
use Rattle.romfs_reader.specs.Images.{HeldBytes, all_whole}

both_true : (a b : Bool) → a ≡ true → b ≡ true → (a && b) ≡ true
both_true a b p q = rw (p, q) refl

pub all_whole_and_one : (images : List HeldBytes) (image : HeldBytes)
    → all_whole images ≡ true → image.whole ≡ true → all_whole (images ++ image ∷ []) ≡ true
all_whole_and_one images image all one =
    list_all-append (λ (i : HeldBytes). i.whole) images (image ∷ [])
    ∙ both_true _ _ all (both_true _ _ one refl)
