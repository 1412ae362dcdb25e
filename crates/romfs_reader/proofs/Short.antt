-- The data of a header are a part of its image, shorter than that by the headers before them. A
-- reply can therefore say their length (`short_data`), and the part where they lie represents them:
-- `part_of_data` for files and symbolic links, `part_of_none` for all others.
use Rattle.std.proofs.Common.{◌≡◌, ◌≢◌, ◌∙◌, sym, ap, subst, ℕ, ◌+◌, ◌<◌, ◌≤◌, ◌^◌, ◌⊎◌, inl, inr, List, [], ◌∷◌, length, drop, refl, arith, lit≤}
use Rattle.std.proofs.lemmas.List.{length-take, length-drop}
use Rattle.romfs_format.specs.declared.head.Kind.{Kind}
use Rattle.romfs_format.specs.declared.head.Kind.TheVariants.{HardLink, Directory, Regular, SymLink, Block, Character, Socket, Fifo}
use Rattle.romfs_format.specs.declared.head.Head.{Head}
use Rattle.romfs_format.specs.Fields.{data_at, kind, size, padded}
use Rattle.romfs_format.specs.Heads.{name_of}
use Rattle.romfs_reader.specs.Images.{IsImage}
use Rattle.romfs_reader.specs.declared.parts.Part.{Part}
use Rattle.romfs_reader.specs.Readers.{bytes_at, data_of_header, data_of_kind, data_size, IsGiven, IsPart, IsDataPart}
use Rattle.romfs_reader.proofs.Readings.{given_data, given_start, no_data}

part : (a : List ℕ) (at n : ℕ) → 16 ≤ at → length a < 2 ^ 32 → 16 + length (bytes_at a at n) < 2 ^ 32
unfolding bytes_at
part a at n behind small =
    let e = length-take n (drop at a) in
    let f = length-drop at a in
    omega arith

-- the data of a header are short enough that a reply's header can say its length with them
pub short_data : (a : List ℕ) (h : ℕ) → IsImage a → 16 + length (data_of_header a h) < 2 ^ 32
short_data a h image = go (kind a h)
  where
    go : (k : Kind) → 16 + length (data_of_kind k a h) < 2 ^ 32
    go Regular = part a (data_at h (name_of a h)) (size a h) (omega arith) image.small
    go SymLink = part a (data_at h (name_of a h)) (size a h) (omega arith) image.small
    go _ = lit≤ tt

long : (a : List ℕ) (at n : ℕ) → at + n ≤ length a → length (bytes_at a at n) ≡ n
unfolding bytes_at
long a at n within =
    let e = length-take n (drop at a) in
    let f = length-drop at a in
    omega arith

-- the bytes of a part are short enough that a reply's header can say its length with them
pub part_short : (a : List ℕ) (part : Part) → IsPart a part → 16 + length (bytes_at a part.start part.len) < 2 ^ 32
part_short a part p =
    let n = long a part.start part.len p.within in
    let s = p.short in
    omega arith

size_with : (k : Kind) → (k ≡ Regular) ⊎ (k ≡ SymLink) → (n : ℕ) → n ≡ data_size k n
size_with k (inl e) n = rw e refl
size_with k (inr e) n = rw e refl

size_without : (k : Kind) → k ≢ Regular → k ≢ SymLink → (n : ℕ) → 0 ≡ data_size k n
size_without Regular p q n = absurd (p refl)
size_without SymLink p q n = absurd (q refl)
size_without HardLink p q n = refl
size_without Directory p q n = refl
size_without Block p q n = refl
size_without Character p q n = refl
size_without Socket p q n = refl
size_without Fifo p q n = refl

module _ (a : List ℕ) (image : IsImage a) (head : Head) (given : IsGiven a head) where
  size_same : (n : ℕ) → n ≡ data_size head.kind head.size → n ≡ data_size (kind a head.offset) (size a head.offset)
  size_same n e = subst (λ (x : Head). n ≡ data_size x.kind x.size) given.is e

  -- the bytes after the padded name, as many as the size, are the part of a file or symbolic link
  pub part_of_data : (head.kind ≡ Regular) ⊎ (head.kind ≡ SymLink)
      → IsDataPart a head.offset (record {
        start = head.name_at + padded (head.name_len + 1);
        len = head.size;
      })
  part_of_data k =
      let at = head.name_at + padded (head.name_len + 1) in
      let d = given_data a image head given k in
      let n = long a at head.size d.0 in
      let s = short_data a head.offset image in
      let e = ap length d.1 in
      record {
        lies = record { within = d.0; short = omega arith };
        bytes = d.1;
        size_is = size_same head.size (size_with head.kind k head.size);
        start_is = λ some. given_start a image head given k;
      }

  -- a part of no bytes is that of a header whose kind has no data
  pub part_of_none : head.kind ≢ Regular → head.kind ≢ SymLink → IsDataPart a head.offset (record { start = 0; len = 0 })
  part_of_none p q = record {
    lies = record { within = omega arith; short = lit≤ tt };
    bytes = empty (bytes_at a 0 0) (long a 0 0 (omega arith)) ∙ sym (no_data a head given p q);
    size_is = size_same 0 (size_without head.kind p q head.size);
    start_is = λ some. absurd (some refl);
  }
    where
      empty : (xs : List ℕ) → length xs ≡ 0 → xs ≡ []
      empty [] e = refl
      empty (x ∷ xs) e = absurd (omega arith)
