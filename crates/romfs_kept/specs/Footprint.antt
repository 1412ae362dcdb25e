-- romfs.rst: what the rules of an image look at, as a set of places that are kept and a set of
-- headers that lead to no others.
use Rattle.std.specs.Prelude.{◌≡◌, ◌≢◌, ℕ, ◌+◌, ◌*◌, ◌/◌, ◌<◌, ◌≤◌, ◌==◌, ◌⊎◌, List, length, get_or, Some, Bool, IsTrue, min, if◌then◌else◌, nat_le}
use Rattle.romfs_format.specs.declared.head.Kind.TheVariants.{Directory, HardLink, SymLink}
use Rattle.romfs_format.specs.declared.limits.TheConstants.{HEAD_SIZE, SUMMED_SIZE, MAX_TARGET_SIZE}
use Rattle.romfs_format.specs.Fields.{root, word, IsInside, kind, next, spec, size, name, data_at, cleared}

-- xs is as long as a, and has its bytes at the kept places
pub record Agrees (kept : ℕ → Bool) (a xs : List ℕ) : Type 0 where
  pub long : length a ≡ length xs
  pub same : (p : ℕ) → IsTrue (kept p) → get_or a p 0 ≡ get_or xs p 0

-- the bytes from p on are kept, block by block, up to the end of the one in which a name ends
pub record IsKeptText (kept : ℕ → Bool) (a : List ℕ) (p : ℕ) : Type 0 where
  pub each : (i : ℕ) → i < 256 → p + i < length a
      → ((j : ℕ) → j < i / 16 * 16 → get_or a (p + j) 0 ≢ 0) → IsTrue (kept (p + i))

-- the target of a symbolic link is kept, unless it is too long
pub record IsKeptTarget (kept : ℕ → Bool) (a : List ℕ) (h : ℕ) : Type 0 where
  pub each : kind a h ≡ SymLink → size a h ≤ MAX_TARGET_SIZE
      → (n : List ℕ) → name a h ≡ Some n
      → (i : ℕ) → i < size a h → data_at h n + i < length a → IsTrue (kept (data_at h n + i))

-- what the volume's rules look at is kept, and the headers of this set with their names and
-- targets; it has the root, and what its headers lead to
pub record IsClosed (kept headers : ℕ → Bool) (a : List ℕ) : Type 0 where
  pub front : (p : ℕ) → p < SUMMED_SIZE → p < length a → IsTrue (kept p)
  pub at_root : IsTrue (headers (root a))
  pub head : (h i : ℕ) → IsTrue (headers h) → i < 16 → h + i < length a → IsTrue (kept (h + i))
  pub text : (h : ℕ) → IsTrue (headers h) → IsKeptText kept a (h + HEAD_SIZE)
  pub target : (h : ℕ) → IsTrue (headers h) → IsKeptTarget kept a h
  pub to_next : (h : ℕ) → IsTrue (headers h) → IsInside a h → next a h ≢ 0
      → IsTrue (headers (next a h))
  pub to_first : (h : ℕ) → IsTrue (headers h)
      → (h ≡ root a) ⊎ (IsInside a h × (kind a h ≡ Directory))
      → cleared (spec a h) ≢ 0 → IsTrue (headers (cleared (spec a h)))
  pub to_link : (h : ℕ) → IsTrue (headers h) → IsInside a h → kind a h ≡ HardLink
      → IsTrue (headers (cleared (spec a h)))

-- the place has the same byte in both
abbrev pub is_same : List ℕ → List ℕ → ℕ → Bool
is_same a xs p = get_or a p 0 == get_or xs p 0

-- how many bytes are looked at: as many as the full size says, and a volume header at least
abbrev pub reach : List ℕ → ℕ
reach b = min (length b) (if nat_le HEAD_SIZE (word b 8) then word b 8 else HEAD_SIZE)
