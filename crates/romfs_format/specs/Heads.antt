-- romfs.rst, the file header: all fields of one together.
use Rattle.std.specs.Prelude.{◌≡◌, ℕ, ◌+◌, List, [], length, unwrap_or}
use Rattle.romfs_format.specs.declared.head.Head.{Head}
use Rattle.romfs_format.specs.declared.limits.TheConstants.{HEAD_SIZE}
use Rattle.romfs_format.specs.Fields.{IsInside, kind, exec, next, spec, size, name}

-- the name of a header; empty if it is not ended
abbrev pub name_of : List ℕ → ℕ → List ℕ
name_of a h = unwrap_or (name a h) []

-- the header at h
abbrev pub head_of : List ℕ → ℕ → Head
head_of a h = record {
  offset = h;
  next = next a h;
  kind = kind a h;
  exec = exec a h;
  spec = spec a h;
  size = size a h;
  name_at = h + HEAD_SIZE;
  name_len = length (name_of a h);
}

-- the header is the one at its offset, and lies in the image
pub record IsHeadIn (a : List ℕ) (head : Head) : Type 0 where
  pub is : head ≡ head_of a head.offset
  pub inside : IsInside a head.offset
