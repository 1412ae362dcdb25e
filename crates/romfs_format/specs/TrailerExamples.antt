-- Worked examples: attribute trailers written out, what they say, and why they are broken.
use Rattle.std.specs.Prelude.{◌≡◌, ℕ, ◌-◌, ◌^◌, false, true, List, [], ◌∷◌, ◌++◌, take, replicate, codes, Some, None}
use Rattle.std.specs.List.{flat_map}
use Rattle.byteorder.specs.Endian.{big_bytes}
use Rattle.romfs_format.specs.declared.attribute_row.AttributeRow.{AttributeRow}
use Rattle.romfs_format.specs.declared.rule.Profile.TheVariants.{Usual, Strict, UsualWithAttributes, StrictWithAttributes}
use Rattle.romfs_format.specs.Profiles.{profile_with}
use Rattle.romfs_format.specs.Trailer.{trailer_at, trailer, has_trailer, rows, rows_shown, row_at, IsTrailer, IsTrailerBroken}

-- bytes as a dump prints them, four at a time
abbrev pub bytes_of : List ℕ → List ℕ
bytes_of words = flat_map (λ word. big_bytes 4 word) words

-- an image of 64 bytes: a root at 0x20 that holds nothing
abbrev pub bare_image : List ℕ
bare_image = bytes_of (
    0x2d726f6d ∷ 0x3166732d ∷ 0x00000040 ∷ 0x2b271d26 ∷ 0x76000000 ∷ 0 ∷ 0 ∷ 0
    ∷ 0x00000009 ∷ 0x00000020 ∷ 0x00000000 ∷ 0xd1ffffd7 ∷ 0x2e000000 ∷ 0 ∷ 0 ∷ 0 ∷ [])

-- it with a trailer after it: how many rows, what makes its sum 0, and the words of its rows
abbrev pub behind : List ℕ → List ℕ
behind words = bare_image ++ codes "-attr01-" ++ bytes_of words

-- two rows, with numbers as large as they may be: a root that is sticky, last changed one and a
-- quarter seconds before 1970, and a row for the last place of the image
abbrev pub two_rows : List ℕ
two_rows = behind (
    2 ∷ 0x98c15496
    ∷ 0x20 ∷ 0x3ff ∷ 0 ∷ 0 ∷ 0xffffffff ∷ 0xfffffffe ∷ 750000000 ∷ 0
    ∷ 0x30 ∷ 0xfff ∷ 0xffffffff ∷ 0xfffffffe ∷ 0 ∷ 0x5f5e1000 ∷ 999999999 ∷ 0 ∷ [])

-- what they say
abbrev pub first_row : AttributeRow
first_row = record {
  place = 0x20;
  mode = 0x3ff;
  uid = 0;
  gid = 0;
  seconds = 2 ^ 64 - 2;
  nanoseconds = 750000000;
}

abbrev pub second_row : AttributeRow
second_row = record {
  place = 0x30;
  mode = 0xfff;
  uid = 2 ^ 32 - 1;
  gid = 2 ^ 32 - 2;
  seconds = 1600000000;
  nanoseconds = 999999999;
}

-- one row with this sum, offset, mode, nanoseconds and last word
abbrev pub one_row : ℕ → ℕ → ℕ → ℕ → ℕ → List ℕ
one_row sum place mode nanoseconds last =
    behind (1 ∷ sum ∷ place ∷ mode ∷ 0 ∷ 0 ∷ 0 ∷ 0 ∷ nanoseconds ∷ last ∷ [])

-- two rows with this sum and these offsets
abbrev pub two_places : ℕ → ℕ → ℕ → List ℕ
two_places sum p q = behind ((2 ∷ sum ∷ p ∷ replicate 7 0) ++ (q ∷ replicate 7 0))

-- the start of the trailer of an image of this full size
abbrev pub begins : ℕ → ℕ
begins full = trailer_at (replicate 8 0 ++ bytes_of (full ∷ []))

-- the start of a trailer, and what is none
pub record NoTrailerExamples : Type 0 where
  pub at_full_size : begins 0x40 ≡ 0x40
  pub behind_full_size : begins 0x41 ≡ 0x50
  pub last_place : begins 0xfffffff0 ≡ 0xfffffff0
  pub too_far : begins 0xfffffff1 ≡ 2 ^ 32
  pub nothing : has_trailer bare_image ≡ false
  pub seven_letters : has_trailer (bare_image ++ codes "-attr01") ≡ false
  pub another_letter : has_trailer (bare_image ++ codes "-attr02-" ++ replicate 8 0) ≡ false
  pub one_byte_on : has_trailer (bare_image ++ codes " -attr01-" ++ replicate 8 0) ≡ false
  pub no_rows : rows bare_image ≡ []

-- trailers that keep their rule, and what they say; bytes after the last row say nothing
pub record TrailerExamples : Type 0 where
  pub none : IsTrailer 64 (trailer (behind (0 ∷ 0x606e5a5f ∷ [])))
  pub two : IsTrailer 64 (trailer two_rows)
  pub longer : IsTrailer 64 (trailer (two_rows ++ 7 ∷ []))
  pub has_none : has_trailer (behind (0 ∷ 0x606e5a5f ∷ [])) ≡ true
  pub has_two : has_trailer two_rows ≡ true
  pub says : rows two_rows ≡ first_row ∷ second_row ∷ []
  pub longer_says : rows (two_rows ++ 7 ∷ []) ≡ first_row ∷ second_row ∷ []
  pub first : row_at (rows two_rows) 0x20 ≡ Some first_row
  pub second : row_at (rows two_rows) 0x30 ≡ Some second_row
  pub before : row_at (rows two_rows) 0x10 ≡ None
  pub between : row_at (rows two_rows) 0x28 ≡ None

-- each profile by what it requires, and that it shows rows only if it reads them
pub record ProfileExamples : Type 0 where
  pub usual : profile_with false false ≡ Usual
  pub strict : profile_with true false ≡ Strict
  pub usual_with : profile_with false true ≡ UsualWithAttributes
  pub strict_with : profile_with true true ≡ StrictWithAttributes
  pub hidden : rows_shown Usual two_rows ≡ []
  pub hidden_too : rows_shown Strict two_rows ≡ []
  pub shown : rows_shown UsualWithAttributes two_rows ≡ first_row ∷ second_row ∷ []
  pub shown_too : rows_shown StrictWithAttributes two_rows ≡ first_row ∷ second_row ∷ []

-- trailers that break their rule, each for one thing alone
pub record BrokenTrailerExamples : Type 0 where
  pub letters_alone : IsTrailerBroken (bare_image ++ codes "-attr01-")
  pub cut_off : IsTrailerBroken (take 143 two_rows)
  pub large_sum : IsTrailerBroken (behind (0 ∷ 0x606e5a60 ∷ []))
  pub off_slot : IsTrailerBroken (one_row 0x606e5a3a 0x24 0 0 0)
  pub past_image : IsTrailerBroken (one_row 0x606e5a1e 0x40 0 0 0)
  pub large_mode : IsTrailerBroken (one_row 0x606e4a3e 0x20 0x1000 0 0)
  pub whole_second : IsTrailerBroken (one_row 0x24d3903e 0x20 0 1000000000 0)
  pub last_word : IsTrailerBroken (one_row 0x606e5a3d 0x20 0 0 1)
  pub same_place : IsTrailerBroken (two_places 0x606e59fd 0x30 0x30)
  pub falling : IsTrailerBroken (two_places 0x606e5a0d 0x30 0x20)
