-- Walks along chains and hard links, counted by steps: no list of headers is longer than there are
-- places for headers.
use Rattle.std.specs.Prelude.{◌≡◌, ◌≢◌, ℕ, zero, suc, ◌/◌, ◌^◌, ◌<◌, ◌==◌, ◌⊎◌, List, [], ◌∷◌, length, Option, MatchOption, if◌then◌else◌}
use Rattle.romfs_format.specs.declared.head.Head.{Head}
use Rattle.romfs_format.specs.Fields.{root as root_of, IsInside, next}
use Rattle.romfs_reader.specs.Readers.{kept}

-- the chain from h on, up to n headers
abbrev pub chain_from : List ℕ → ℕ → ℕ → List ℕ
chain_from a zero h = []
chain_from a (suc n) h = if h == 0 then [] else (h ∷ chain_from a n (next a h))

-- the chain from h on ends within n headers, and all lie in the image
abbrev pub EndsWithin : List ℕ → ℕ → ℕ → Type 0
EndsWithin a zero h = h ≡ 0
EndsWithin a (suc n) h = (h ≡ 0) ⊎ ((h ≢ 0) × IsInside a h × EndsWithin a n (next a h))

-- as many headers as the image has places for
abbrev pub places : List ℕ → ℕ
places a = length a / 16

-- what is left of the members of the directory d, if its chain goes on at h
abbrev pub members_from : List ℕ → ℕ → ℕ → List Head
members_from a d h = kept a d (chain_from a (places a) h)

-- a walk along a chain can go on at h, in the image whose root is r
pub record IsWalk (a : List ℕ) (r h : ℕ) : Type 0 where
  pub small : length a < 2 ^ 32
  pub root : r ≡ root_of a
  pub ends : EndsWithin a (places a) h

-- the first of the remaining members, with which the walk can go on; none if none is left
abbrev pub IsNextMember : List ℕ → ℕ → ℕ → ℕ → Option Head → Type 0
IsNextMember a r d h found = MatchOption found (members_from a d h ≡ [])
    (λ head. (members_from a d h ≡ head ∷ members_from a d head.next) × IsWalk a r head.next)
