-- Images that are loaded in halves, or one by one: those of both are loaded, and those so far with one more.
use Rattle.std.proofs.Common.{◌≡◌, ◌⊎◌, ◌<◌, inl, inr, sym, subst, ℕ, zero, suc, List, [], ◌∷◌, ◌++◌, Option, Result, Ok, get_or, length, drop, take, arith, take-append-drop}
use Rattle.romfs_seal.specs.declared.digest.Digest.{Digest}
use Rattle.romfs_files.specs.declared.loaded.LoadedImage.{LoadedImage}
use Rattle.romfs_files.specs.declared.loaded.Loading.{Loading}
use Rattle.romfs_files.specs.declared.images.FilesFault.{FilesFault}
use Rattle.romfs_files.specs.Unread.{IsReadUpTo}
use Rattle.romfs_files.specs.Sealing.{AreLoadedBy, IsLoadedBy}

-- the halves of a list are the list
pub halves : {X : Type 0} (n : ℕ) (lows highs xs : List X) → lows ≡ take n xs → highs ≡ drop n xs → lows ++ highs ≡ xs
halves n lows highs xs front back = rw (front, back) (take-append-drop n xs)

module _ {F A : Type 0} (known : F → Option (List ℕ)) (loading : Loading) where
  -- of fewer images there may be more digests
  more_digests : (ds es : List (Option Digest)) (images : List (LoadedImage F A)) → AreLoadedBy known loading ds images
      → AreLoadedBy known loading (ds ++ es) images
  more_digests ds es [] are = tt
  more_digests [] es (image ∷ images) are = absurd are
  more_digests (d ∷ ds) es (image ∷ images) are = (are.0, more_digests ds es images are.1)

  then_more : (ds es : List (Option Digest)) (low high : List (LoadedImage F A)) → length low ≡ length ds
      → AreLoadedBy known loading ds low → AreLoadedBy known loading es high → AreLoadedBy known loading (ds ++ es) (low ++ high)
  then_more [] es [] high all lower upper = upper
  then_more [] es (image ∷ low) high all lower upper = absurd lower
  then_more (d ∷ ds) es [] high all lower upper = absurd (omega arith)
  then_more (d ∷ ds) es (image ∷ low) high all lower upper = (lower.0, then_more ds es low high (omega (arith, all)) lower.1 upper)

  -- the images of two halves, each of its own digests
  pub both_loaded : (first : ℕ) (ds es digests : List (Option Digest)) (low high all : List (LoadedImage F A))
      (end : Result (Unit {0}) FilesFault) → ds ++ es ≡ digests → IsReadUpTo loading first ds (length low) end
      → (all ≡ low) ⊎ ((end ≡ Ok tt) × (all ≡ low ++ high)) → AreLoadedBy known loading ds low
      → AreLoadedBy known loading es high → AreLoadedBy known loading digests all
  both_loaded first ds es digests low high all end joined run (inl only) lower upper =
      subst (λ images. AreLoadedBy known loading digests images) (sym only)
      (subst (λ l. AreLoadedBy known loading l low) joined (more_digests ds es low lower))
  both_loaded first ds es digests low high all end joined run (inr (done, two)) lower upper =
      let whole : length low ≡ length ds = subst (IsReadUpTo loading first ds (length low)) done run in
      subst (λ images. AreLoadedBy known loading digests images) (sym two)
      (subst (λ l. AreLoadedBy known loading l (low ++ high)) joined (then_more ds es low high whole lower upper))

  -- one more image, of the next digest
  pub one_more : (digests : List (Option Digest)) (i : ℕ) (d : Option Digest) (images new : List (LoadedImage F A))
      (image : LoadedImage F A) → length images ≡ i → i < length digests → AreLoadedBy known loading digests images
      → IsLoadedBy known loading (get_or digests i d) image → new ≡ images ++ image ∷ [] → AreLoadedBy known loading digests new
  one_more digests i d images new image many within are is new_is =
      subst (λ all. AreLoadedBy known loading digests all) (sym new_is) (go digests i images many within are is)
    where
      go : (digests : List (Option Digest)) (i : ℕ) (images : List (LoadedImage F A)) → length images ≡ i → i < length digests
          → AreLoadedBy known loading digests images → IsLoadedBy known loading (get_or digests i d) image
          → AreLoadedBy known loading digests (images ++ image ∷ [])
      go [] i images many within are is = absurd (omega arith)
      go (e ∷ digests) zero [] many within are is = (is, tt)
      go (e ∷ digests) (suc i) [] many within are is = absurd (omega (arith, many))
      go (e ∷ digests) zero (first ∷ images) many within are is = absurd (omega (arith, many))
      go (e ∷ digests) (suc i) (first ∷ images) many within are is =
          (are.0, go digests i images (omega (arith, many)) (omega arith) are.1 is)
