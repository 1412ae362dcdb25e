-- Why the images of a list were not read, as it is reported to their caller.
use Rattle.std.proofs.Common.{◌≡◌, sym, subst, ℕ, ◌+◌, ◌<◌, ◌⊎◌, inl, inr, List, length, get_or, Option, None, Result, Ok, Err, IfErr, IsErrAnd, arith}
use Rattle.romfs_seal.specs.declared.digest.Digest.{Digest}
use Rattle.romfs_files.specs.Unread.{IsNextUnread, IsReadUpTo, IsUnreadAt}
use Rattle.romfs_files.specs.declared.loaded.Loading.{Loading}
use Rattle.romfs_files.specs.declared.images.FilesFault.{FilesFault}
use Rattle.romfs_files.specs.declared.images.FilesFault.TheVariants.{Memory}

-- one of this many images was not read, or memory ran out
abbrev pub IsOneUnread : Loading → ℕ → List (Option Digest) → FilesFault → Type 0
IsOneUnread loading count digests fault =
    (fault ≡ Memory) ⊎ ((image : ℕ) × (image < count) × IsUnreadAt loading image (get_or digests image None) fault)

one_unread : (loading : Loading) (count read : ℕ) (digests : List (Option Digest)) (fault : FilesFault) → length digests ≡ count
    → IsNextUnread loading 0 digests read fault → IsOneUnread loading count digests fault
one_unread loading count read digests fault each (inl memory) = inl memory
one_unread loading count read digests fault each (inr (below, is)) =
    let same : 0 + read ≡ read = omega arith in
    inr (read, omega (arith, each, below), subst (λ image. IsUnreadAt loading image (get_or digests read None) fault) same is)

-- a fault that ended the run is reported
pub unread_told : {X : Type 0} (loading : Loading) (count read : ℕ) (digests : List (Option Digest))
    (end : Result (Unit {0}) FilesFault) (fault : FilesFault) (told : Result X FilesFault) → length digests ≡ count
    → IsReadUpTo loading 0 digests read end → end ≡ Err fault → IsErrAnd told (λ t. t ≡ fault)
    → IfErr told (IsOneUnread loading count digests)
unread_told loading count read digests end fault (Ok x) each run is same = tt
unread_told loading count read digests end fault (Err t) each run is same =
    let next : IsNextUnread loading 0 digests read fault = subst (IsReadUpTo loading 0 digests read) is run in
    subst (IsOneUnread loading count digests) (sym same) (one_unread loading count read digests fault each next)
