-- Shown data are answered as they are: the reply is the defined one, or EIO (shown_told); never EIO if no data are missing (whole_told), as
-- of held bytes (held_told). A reply whose data are read after its header (told_whole), or the reply with EIO that is set over it
-- (told_unread).
use Rattle.std.proofs.Common.{◌≡◌, ◌∙◌, sym, ap, subst, ℕ, ◌+◌, ◌-◌, ◌<◌, ◌≤◌, List, ◌++◌, length, take, drop, Some, arith, inl, inr, true, false, refl, append_assoc, take-append-drop, length-append, length-drop}
use Rattle.std.proofs.lemmas.List.{take_at, drop_at, take-take, length-take}
use Rattle.devices.specs.Sources.{Source, MayGive, MayLack, Shows, held}
use Rattle.devices.proofs.Given.{held_lacks}
use Rattle.devices.proofs.Shown.{shown_given}
use Rattle.fuse_wire.specs.declared.errno.Errno.TheVariants.{EIO}
use Rattle.fuse_wire.specs.declared.limits.TheConstants.{OUT_HEADER_SIZE}
use Rattle.fuse_wire.specs.Replies.{reply_head, reply_with, error_reply}
use Rattle.fuse_wire.specs.Told.{IsTold, IsRight, Fills, Reading, TakesTold, read_from}
use Rattle.fuse_wire.proofs.Sizes.{length-head, length-reply_with}

pub shown_told : (reading : Reading) (xs : List ℕ) (unique : ℕ) (defined bytes : List ℕ) → Shows reading.source xs
    → drop OUT_HEADER_SIZE defined ≡ take (length (drop OUT_HEADER_SIZE defined)) (drop reading.place xs)
    → IsTold (Some reading) unique defined bytes → IsRight (Some reading) unique defined bytes
shown_told reading xs unique defined bytes shows is (inr unread) = inr unread
shown_told reading xs unique defined bytes shows is (inl read) =
    let given = shown_given reading.source xs (drop OUT_HEADER_SIZE bytes) reading.place shows read.given in
    let same : length (drop OUT_HEADER_SIZE bytes) ≡ length (drop OUT_HEADER_SIZE defined) =
    length-drop OUT_HEADER_SIZE bytes ∙ ap (λ n. n - OUT_HEADER_SIZE) read.long ∙ sym (length-drop OUT_HEADER_SIZE defined) in
    inl (sym (take-append-drop OUT_HEADER_SIZE bytes)
    ∙ ap (λ l. l ++ drop OUT_HEADER_SIZE bytes) read.head
    ∙ ap (λ l. take OUT_HEADER_SIZE defined ++ l) (given ∙ ap (λ n. take n (drop reading.place xs)) same ∙ sym is)
    ∙ take-append-drop OUT_HEADER_SIZE defined)

right_whole : (reading : Reading) (xs : List ℕ) (unique : ℕ) (defined bytes : List ℕ)
    → ((end : ℕ) → end ≤ length xs → MayLack reading.source end → ⊥)
    → drop OUT_HEADER_SIZE defined ≡ take (length (drop OUT_HEADER_SIZE defined)) (drop reading.place xs)
    → IsRight (Some reading) unique defined bytes → bytes ≡ defined
right_whole reading xs unique defined bytes whole is (inl e) = e
right_whole reading xs unique defined bytes whole is (inr unread) =
    let some = unread.some in
    let size = ap length is ∙ length-take _ (drop reading.place xs) in
    let left = length-drop reading.place xs in
    let long = length-drop OUT_HEADER_SIZE defined in
    absurd (whole (reading.place + (length defined - OUT_HEADER_SIZE)) (omega arith) unread.lacks)

-- of bytes that are shown, and of which none lacks
pub whole_told : (reading : Reading) (xs : List ℕ) (unique : ℕ) (defined bytes : List ℕ) → Shows reading.source xs
    → ((end : ℕ) → end ≤ length xs → MayLack reading.source end → ⊥)
    → drop OUT_HEADER_SIZE defined ≡ take (length (drop OUT_HEADER_SIZE defined)) (drop reading.place xs)
    → IsTold (Some reading) unique defined bytes → bytes ≡ defined
whole_told reading xs unique defined bytes shows whole is told =
    right_whole reading xs unique defined bytes whole is (shown_told reading xs unique defined bytes shows is told)

pub held_told : (xs : List ℕ) (place unique : ℕ) (defined bytes : List ℕ)
    → drop OUT_HEADER_SIZE defined ≡ take (length (drop OUT_HEADER_SIZE defined)) (drop place xs)
    → IsTold (Some (record { source = held xs; place = place })) unique defined bytes → bytes ≡ defined
held_told xs place unique defined bytes is told =
    whole_told (record { source = held xs; place = place }) xs unique defined bytes refl (held_lacks xs) is told

module _ (source : Source) (place unique : ℕ) (bytes filled : List ℕ) (long : length filled ≡ length bytes) where
  whole : reply_with unique bytes ≡ reply_head unique (length bytes) ++ bytes
  unfolding reply_with
  whole = refl

  head_of : (xs : List ℕ) → take OUT_HEADER_SIZE (reply_head unique (length bytes) ++ xs) ≡ reply_head unique (length bytes)
  head_of xs = take_at (reply_head unique (length bytes)) xs OUT_HEADER_SIZE (length-head unique (length bytes))

  with_filled : MayGive source place filled
      → IsTold (read_from source place) unique (reply_with unique bytes) (reply_head unique (length bytes) ++ filled)
  with_filled given = inl (record {
    long = (let a = length-append (reply_head unique (length bytes)) filled in let b = length-head unique (length bytes) in
        let c = length-reply_with unique bytes in omega arith);
    head = head_of filled ∙ sym (head_of bytes) ∙ ap (take OUT_HEADER_SIZE) (sym whole);
    given = subst (MayGive source place) (sym (drop_at (reply_head unique (length bytes)) filled OUT_HEADER_SIZE
        (length-head unique (length bytes)))) given;
  })

pub told_whole : (source : Source) (place unique size : ℕ) (bytes old headed new : List ℕ) → length bytes ≡ size
    → headed ≡ old ++ reply_head unique size → Fills source place size true headed new
    → TakesTold (read_from source place) unique (reply_with unique bytes) old new
told_whole source place unique size bytes old headed new sized is f = (
  reply_head unique (length bytes) ++ f.filled,
  with_filled source place unique bytes f.filled (f.long ∙ sym sized) (f.given refl),
  f.behind ∙ ap (λ v. v ++ f.filled) (is ∙ ap (λ n. old ++ reply_head unique n) (sym sized))
      ∙ append_assoc old (reply_head unique (length bytes)) f.filled,
)

unread : (source : Source) (place unique : ℕ) (bytes : List ℕ) → 0 < length bytes → MayLack source (place + length bytes)
    → IsTold (read_from source place) unique (reply_with unique bytes) (error_reply unique EIO)
unread source place unique bytes some lacks =
    let c = length-reply_with unique bytes in
    let same : place + length bytes ≡ place + (length (reply_with unique bytes) - OUT_HEADER_SIZE) = omega arith in
    inr (record { some = omega arith; is = refl; lacks = subst (MayLack source) same lacks })

-- the bytes before the header are unchanged
before_kept : (at end : ℕ) (old mid head filled : List ℕ) → at ≤ end → length (take at old) ≡ at
    → take end mid ≡ (take at old ++ head) ++ filled → take at mid ≡ take at old
before_kept at end old mid head filled less long is =
    sym (take-take at end mid less) ∙ ap (take at) (is ∙ append_assoc (take at old) head filled)
    ∙ take_at (take at old) (head ++ filled) at long

pub told_unread : (source : Source) (place unique at end size : ℕ) (bytes old mid headed new : List ℕ) → length bytes ≡ size
    → at ≤ end → at ≤ length old → headed ≡ take at old ++ reply_head unique size → Fills source place size false headed (take end mid)
    → new ≡ take at mid ++ error_reply unique EIO
    → TakesTold (read_from source place) unique (reply_with unique bytes) (take at old) new
told_unread source place unique at end size bytes old mid headed new sized less within is f put = (
  error_reply unique EIO,
  unread source place unique bytes (let s = f.some refl in omega arith)
      (subst (λ n. MayLack source (place + n)) (sym sized) (f.lacks refl)),
  put ∙ ap (λ v. v ++ error_reply unique EIO) (before_kept at end old mid (reply_head unique size) f.filled less
      (let l = length-take at old in omega arith) (f.behind ∙ ap (λ v. v ++ f.filled) is)),
)
