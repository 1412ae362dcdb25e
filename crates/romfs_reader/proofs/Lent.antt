-- A loop that lends images one by one: with one more, this many are lent.
use Rattle.std.proofs.Common.{◌≡◌, ◌∙◌, sym, ap, ℕ, ◌+◌, ◌<◌, List, [], ◌∷◌, ◌++◌, length, take, get_or}
use Rattle.std.proofs.lemmas.List.{map_more}
use Rattle.romfs_reader.specs.Images.{HeldBytes, bytes_of}

pub one_lent : (images : List HeldBytes) (now new : List (List ℕ)) (i : ℕ) (image : HeldBytes) (lent : List ℕ) → i < length images
    → now ≡ bytes_of (take i images) → new ≡ now ++ lent ∷ [] → lent ≡ image.bytes → image ≡ get_or images i image
    → new ≡ bytes_of (take (i + 1) images)
one_lent images now new i image lent l is push same at =
    push ∙ ap (λ z. now ++ z ∷ []) (same ∙ ap (λ (h : HeldBytes). h.bytes) at)
    ∙ ap (λ zs. zs ++ (get_or images i image).bytes ∷ []) is ∙ sym (map_more (λ (h : HeldBytes). h.bytes) images i image l)
