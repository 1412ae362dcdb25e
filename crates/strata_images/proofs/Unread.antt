-- Why the files of the images of a line were not read, as it is reported: `unread_told`.
use Rattle.std.proofs.Common.{◌≡◌, ◌<◌, ◌⊎◌, ◌∙◌, sym, ap, subst, inl, inr, ℕ, true, false, List, Option, None, Result, Ok, Err, IfErr, IsErrAnd, get_or, is_some, vec_len}
use Rattle.std.proofs.lemmas.Bool.{cases_Bool}
use Rattle.romfs_seal.specs.declared.digest.Digest.{Digest}
use Rattle.romfs_files.specs.declared.images.FilesFault.{FilesFault}
use Rattle.romfs_files.specs.declared.images.FilesFault.TheVariants as files
use Rattle.romfs_files.specs.declared.loaded.Loading.{Loading}
use Rattle.romfs_files.specs.declared.loaded.Trailers.TheVariants.{Read}
use Rattle.romfs_files.specs.Loaded.{ReadsTrailer}
use Rattle.romfs_files.specs.Unread.{IsUnreadAt, MayBeFar}
use Rattle.strata_words.specs.declared.options.Line.{Line}
use Rattle.strata_images.specs.declared.faults.ImagesFault.{ImagesFault}
use Rattle.strata_images.specs.Faults.{AreUnread, files_told_of}
use Rattle.strata_images.specs.Images.{AreReadWhole, IsLoadingOf, trailers_of}

-- one of this many images was not read, or memory ran out
abbrev IsOneUnread : Loading → ℕ → List (Option Digest) → FilesFault → Type 0
IsOneUnread loading count digests fault =
    (fault ≡ files.Memory) ⊎ ((image : ℕ) × (image < count) × IsUnreadAt loading image (get_or digests image None) fault)

module _ (line : Line) (loading otherwise : Loading) (is : IsLoadingOf line otherwise loading)
    (read : ReadsTrailer otherwise → trailers_of line ≡ Read) where
  -- where a trailer is read, not all bytes are
  in_part : ReadsTrailer loading → (line.whole ≡ false) × (trailers_of line ≡ Read)
  in_part reads = elim is.is [
    | inl whole ↦ absurd (subst ReadsTrailer whole.1 reads)
    | inr left ↦
        let not_all : line.whole ≡ false = elim (cases_Bool line.whole) [ inl all ↦ absurd (left.0 (inl all)) | inr none ↦ none ] in
        (not_all, read (subst ReadsTrailer left.1 reads))
  ]

  unread : (count : ℕ) (digests : List (Option Digest)) (fault : FilesFault) → count ≡ vec_len line.images → digests ≡ line.digests.items
      → IsOneUnread loading count digests fault → AreUnread line (files_told_of fault)
  unread count digests fault many its (inl memory) = inr (ap files_told_of memory)
  unread count digests fault many its (inr (image, below, inl gone)) =
      inl (image, subst (λ n. image < n) many below, inl (ap files_told_of gone))
  unread count digests fault many its (inr (image, below, inr (inl unsealed))) =
      inl (
        image,
        subst (λ n. image < n) many below,
        inr (inl (ap files_told_of unsealed.0, subst (λ ds. is_some (get_or ds image None) ≡ true) its unsealed.1)),
      )
  unread count digests fault many its (inr (image, below, inr (inr far))) =
      let part = in_part far.1 in
      inl (
        image,
        subst (λ n. image < n) many below,
        inr (inr (
          ap files_told_of far.0,
          record {
            trailers = part.1;
            in_part = part.0;
            by = subst (λ ds. MayBeFar (get_or ds image None)) its far.2;
          },
        )),
      )

  pub unread_told : {X : Type 0} (count : ℕ) (digests : List (Option Digest)) (fault : FilesFault) (told : Result X ImagesFault)
      → count ≡ vec_len line.images → digests ≡ line.digests.items → IsOneUnread loading count digests fault
      → IsErrAnd told (λ t. t ≡ files_told_of fault) → IfErr told (AreUnread line)
  unread_told count digests fault (Ok x) many its one same = tt
  unread_told count digests fault (Err t) many its one same = subst (AreUnread line) (sym same) (unread count digests fault many its one)
