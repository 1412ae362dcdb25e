-- What is loaded from data that are read under a digest.
use Rattle.std.proofs.Common.{◌≡◌, sym, ap, subst, ℕ, None, Result, Ok, Err, IfOk, length}
use Rattle.devices.specs.Sources.{IfShown, IsSizeOf, MayGive, sealed}
use Rattle.romfs_seal.specs.declared.digest.Digest.{Digest}
use Rattle.romfs_seal.specs.Named.{Named, seal_of}
use Rattle.romfs_kept.specs.Gathered.{IsFar}
use Rattle.romfs_held.specs.declared.image.HeldImage.TheVariants as held
use Rattle.std.specs.declared.vec.Vec.{Vec}
use Rattle.romfs_files.specs.declared.image_data.ImageData.{ImageData}
use Rattle.romfs_files.specs.declared.image_data.ImageData.TheVariants.{File, Memory, Sealed}
use Rattle.romfs_files.specs.declared.loaded.LoadedImage.{LoadedImage}
use Rattle.romfs_files.specs.declared.loaded.Trailers.{Trailers}
use Rattle.romfs_files.specs.Data.{source_of}
use Rattle.romfs_files.specs.Loaded.{IsKeptOf, IsLetGo, IsOpenOver}
use Rattle.romfs_files.specs.Sealing.{IsFarUnder, IsGoneAs, IsHeldUnder, IsNameUnder, IsOpenAs, IsOpenUnder, IsUnder, IsWholeOver, IsWholeUnder, seal_by}

-- the data of a file of such a name are under the digest
pub under_name : {F A : Type 0} (digest : Digest) (name : Named) → IsNameUnder digest name → IsUnder {F = F} {A = A} digest (Sealed name)
under_name digest name under = record { size = under.size; is = ap sealed under.is }

-- what is kept of data that are not read again was gathered under the digest
held_under : {F A : Type 0} (digest : Digest) (source : ImageData F A) (trailers : Trailers) (image : LoadedImage F A)
    → IsUnder digest source → IsLetGo source trailers image → IsHeldUnder digest trailers image
held_under digest (File f) trailers image under gone = absurd (cc)
held_under digest (Memory bytes) trailers image under gone = absurd (cc)
held_under digest (Sealed name) trailers image under gone = record {
  size = under.size;
  kept = subst (λ s. IsKeptOf s trailers image) under.is gone.0;
  let_go = gone.1;
}

pub gathered_under : {F A E : Type 0} (digest : Digest) (source : ImageData F A) (trailers : Trailers) (result : Result (LoadedImage F A) E)
    → IsUnder digest source → IfOk result (IsLetGo source trailers) → IfOk result (IsHeldUnder digest trailers)
gathered_under digest source trailers (Err e) under gone = tt
gathered_under digest source trailers (Ok image) under gone = held_under digest source trailers image under gone

-- an image over data under the digest is open under it
pub opened_under : {F A E : Type 0} (digest : Digest) (source : ImageData F A) (trailers : Trailers) (result : Result (LoadedImage F A) E)
    → IsUnder digest source → IfOk result (IsOpenOver source trailers) → IfOk result (IsOpenUnder digest trailers)
opened_under digest source trailers (Err e) under over = tt
opened_under digest source trailers (Ok image) under over = record { source = source; under = under; over = over }

-- the same of a file of such a name
pub gathered_as : {F A E : Type 0} (digest : Digest) (name : Named) (trailers : Trailers) (result : Result (LoadedImage F A) E)
    → IsNameUnder digest name → IfOk result (IsGoneAs name trailers) → IfOk result (IsHeldUnder digest trailers)
gathered_as digest name trailers result under gone = gathered_under digest (Sealed name) trailers result (under_name digest name under) gone

pub opened_as : {F A E : Type 0} (digest : Digest) (name : Named) (trailers : Trailers) (result : Result (LoadedImage F A) E)
    → IsNameUnder digest name → IfOk result (IsOpenAs name trailers) → IfOk result (IsOpenUnder digest trailers)
opened_as digest name trailers result under over = opened_under digest (Sealed name) trailers result (under_name digest name under) over

-- all bytes of such data are held
pub whole_under : {F A : Type 0} (digest : Digest) (source : ImageData F A) (bytes : Vec ℕ A) (image : LoadedImage F A)
    → IsUnder digest source → MayGive (source_of source) 0 bytes.items → IsSizeOf (source_of source) (length bytes.items)
    → image.held ≡ held.Whole bytes → image.source ≡ None → IsWholeUnder digest image
whole_under digest source bytes image under given sized held_is none = record {
  size = under.size;
  whole = subst (λ h. IsWholeOver (sealed (seal_by digest under.size)) h) (sym held_is)
      (subst (λ s. MayGive s 0 bytes.items) under.is given, subst (λ s. IsSizeOf s (length bytes.items)) under.is sized);
  let_go = none;
}

-- a trailer that ends too far in the bytes of a file of such a name does so under the digest
pub far_under : (digest : Digest) (name : Named) → IsNameUnder digest name → IfShown (sealed (seal_of name)) IsFar → IsFarUnder digest
far_under digest name under far = record {
  size = under.size;
  far = subst (λ s. IfShown (sealed s) IsFar) under.is far;
}
