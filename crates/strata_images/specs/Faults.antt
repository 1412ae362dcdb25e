-- Why the images of a line are not used, or not reported.
use Rattle.std.specs.Prelude.{◌≡◌, ◌<◌, ℕ, ◌⊎◌, None, get_or, is_some, true, false, vec_len}
use Rattle.romfs_files.specs.declared.images.FilesFault.{FilesFault}
use Rattle.romfs_files.specs.declared.images.FilesFault.TheVariants as files
use Rattle.romfs_files.specs.declared.loaded.Trailers.TheVariants.{Read}
use Rattle.romfs_files.specs.Unread.{MayBeFar}
use Rattle.node_list.specs.declared.walk.ListFault.{ListFault}
use Rattle.node_list.specs.declared.walk.ListFault.TheVariants as list
use Rattle.strata_words.specs.declared.options.Line.{Line}
use Rattle.strata_images.specs.declared.faults.ImagesFault.{ImagesFault}
use Rattle.strata_images.specs.declared.faults.ImagesFault.TheVariants.{Unread, Unsealed, Far, Broken, Layers, Write, Memory}
use Rattle.strata_images.specs.Images.{trailers_of}

-- the exit status of a fault: 1 for files and the output, 3 for images, 5 for memory
abbrev pub status_of : ImagesFault → ℕ
status_of (Unread image) = 1
status_of (Unsealed image) = 3
status_of (Far image) = 3
status_of (Broken image fault) = 3
status_of (Layers count) = 3
status_of Write = 1
status_of Memory = 5

-- why the files of images were not read
abbrev pub files_told_of : FilesFault → ImagesFault
files_told_of (files.Unread image) = Unread image
files_told_of (files.Unsealed image) = Unsealed image
files_told_of (files.Far image) = Far image
files_told_of files.Memory = Memory

-- why a list was not written
abbrev pub list_told_of : ListFault → ImagesFault
list_told_of list.Write = Write
list_told_of list.Memory = Memory

-- the line has a digest for the image with this number
abbrev pub HasDigestFor : Line → ℕ → Type 0
HasDigestFor line image = is_some (get_or line.digests.items image None) ≡ true

-- the trailer of the image with this number is read from its file, and may end too far: if the line
-- has a digest for it, only if it does in any bytes that are shown under this digest
pub record MayBeFarFor (line : Line) (image : ℕ) : Type 0 where
  pub trailers : trailers_of line ≡ Read
  pub in_part : line.whole ≡ false
  pub by : MayBeFar (get_or line.digests.items image None)

-- the file of one of the images of a line was not read; or one with a digest is not as sealed; or
-- the trailer of one ends too far; or memory ran out
abbrev pub AreUnread : Line → ImagesFault → Type 0
AreUnread line fault =
    ((image : ℕ) × (image < vec_len line.images)
    × ((fault ≡ Unread image) ⊎ (((fault ≡ Unsealed image) × HasDigestFor line image)
    ⊎ ((fault ≡ Far image) × MayBeFarFor line image))))
    ⊎ (fault ≡ Memory)
