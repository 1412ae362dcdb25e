-- What the program prints about images.
use Rattle.std.specs.Prelude.{ℕ, ◌+◌, ◌-◌, ◌&&◌, Bool, List, [], ◌∷◌, ◌++◌, length, nat_le, replicate, codes, false, if◌then◌else◌}
use Rattle.std.specs.Fmt.{decimal, digits}
use Rattle.romfs_format.specs.declared.rule.ImageFault.{ImageFault}
use Rattle.romfs_format.specs.Texts.{text_of}
use Rattle.romfs_format.specs.Trailer.{has_trailer}
use Rattle.romfs_format.specs.declared.limits.TheConstants.{HEAD_SIZE}
use Rattle.strata_words.specs.declared.options.Line.{Line}
use Rattle.strata_images.specs.Images.{asks_attributes}
use Rattle.strata_images.specs.declared.faults.ImagesFault.{ImagesFault}
use Rattle.strata_images.specs.declared.faults.ImagesFault.TheVariants.{Unread, Unsealed, Far, Broken, Layers, Write, Memory}

-- a place in an image as eight hexadecimal digits: zeros (48) and then its own
abbrev pub place_text : ℕ → List ℕ
place_text place = replicate (8 - length (digits 16 false place)) 48 ++ digits 16 false place

-- the line of an image that breaks a rule, by its number, without its end
abbrev pub broken_text : ℕ → ImageFault → List ℕ
broken_text image fault =
    codes "layer " ++ (decimal image
    ++ (codes " at " ++ (place_text fault.place ++ (codes ": " ++ text_of fault.rule))))

-- the line of a fault, without its end
abbrev pub fault_text : ImagesFault → List ℕ
fault_text (Unread image) = codes "image " ++ (decimal image ++ codes ": cannot be read")
fault_text (Unsealed image) = codes "image " ++ (decimal image ++ codes ": not as sealed")
fault_text (Far image) =
    codes "image " ++ (decimal image ++ codes ": trailer ends beyond 4 GiB")
fault_text (Broken image fault) = broken_text image fault
fault_text (Layers count) = codes "layers: " ++ (decimal count ++ codes ", allowed 1 to 128")
fault_text Write = codes "write fault"
fault_text Memory = codes "out of memory"

-- a line for each of these, numbered from this number on
unfoldable pub numbered_lines : {X : Type 0} → (ℕ → X → List ℕ) → ℕ → List X → List ℕ
numbered_lines line n [] = []
numbered_lines line n (x ∷ xs) = line n x ++ numbered_lines line (n + 1) xs

-- the line of an image that was checked, by its number and its size in bytes
abbrev pub size_line : ℕ → ℕ → List ℕ
size_line layer size =
    codes "layer " ++ (decimal layer ++ (codes ": " ++ (decimal size ++ codes " bytes\n")))

-- the lines of images that were checked, numbered from this one on
abbrev pub size_lines : ℕ → List ℕ → List ℕ
size_lines = numbered_lines size_line

-- an image has room for a volume header, and has a trailer
abbrev pub shows_trailer : List ℕ → Bool
shows_trailer b = nat_le HEAD_SIZE (length b) && has_trailer b

-- the line of an image whose trailer was not requested; none for an image without one
abbrev pub trailer_line : ℕ → List ℕ → List ℕ
trailer_line layer b = if shows_trailer b
    then codes "layer " ++ (decimal layer ++ codes ": attributes not read\n") else []

-- those of images
abbrev pub trailer_lines : List (List ℕ) → List ℕ
trailer_lines = numbered_lines trailer_line 0

-- those of the images of a line: none if it asks for attributes
abbrev pub unread_lines : Line → List (List ℕ) → List ℕ
unread_lines line images = if asks_attributes line then [] else trailer_lines images
