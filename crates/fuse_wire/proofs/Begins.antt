-- What bytes begin with, from the length in their first four: `framed` are the cases, and `one_frame`, the main lemma, says that only one
-- fits. `split_first` and `split_none` say that repeated framing splits a stream, `whole_stays` that later bytes change nothing.
use Rattle.std.proofs.Common.{◌≡◌, ◌∙◌, sym, ap, subst, ℕ, ◌<◌, ◌≤◌, inl, inr, List, [], ◌∷◌, ◌++◌, length, take, drop, refl, arith, append_assoc}
use Rattle.std.proofs.lemmas.List.{take-append-drop, length-take-le, take_at}
use Rattle.fuse_wire.specs.declared.framing.Framed.{Framed}
use Rattle.fuse_wire.specs.declared.framing.Framed.TheVariants.{More, Bad, Whole}
use Rattle.fuse_wire.specs.Frames.{Frames}
use Rattle.fuse_wire.specs.declared.limits.TheConstants.{HEADER_SIZE, MAX_MESSAGE_SIZE}
use Rattle.fuse_wire.specs.Stream.{said_length, IsGoodLength, IsMessage, IsBad, IsOpen, IsRest, IsSplit, BeginsMessage}
use Rattle.fuse_wire.proofs.Splits.{said_more, said_front, no_rest, split_goes_on, bad_stays}

-- fewer than four bytes are open: they are none, or a message that lacks bytes
pub open_short : (bytes : List ℕ) → length bytes < 4 → IsOpen bytes
open_short [] short = inl refl
open_short (b ∷ bytes) short = inr (omega arith, inl short)

-- bytes that say a message's length, and are fewer, are open
pub open_unfinished : (bytes : List ℕ) → 4 ≤ length bytes → HEADER_SIZE ≤ said_length bytes → said_length bytes ≤ MAX_MESSAGE_SIZE
    → length bytes < said_length bytes → IsOpen bytes
open_unfinished bytes long low high fewer = inr (omega arith, inr ((low, high), fewer))

-- four bytes that say less than a header has are bad
pub bad_low : (bytes : List ℕ) → 4 ≤ length bytes → said_length bytes < HEADER_SIZE → IsBad bytes (said_length bytes)
bad_low bytes long low = record { long = long; says = refl; bad = λ g. let g0 = g.0 in omega arith }

-- four bytes that say more than the longest message has are bad
pub bad_high : (bytes : List ℕ) → 4 ≤ length bytes → MAX_MESSAGE_SIZE < said_length bytes → IsBad bytes (said_length bytes)
bad_high bytes long high = record { long = long; says = refl; bad = λ g. let g1 = g.1 in omega arith }

-- bytes that say a message's length, and are as many or more, begin with that message
pub begins : (bytes : List ℕ) → HEADER_SIZE ≤ said_length bytes → said_length bytes ≤ MAX_MESSAGE_SIZE → said_length bytes ≤ length bytes
    → BeginsMessage bytes (said_length bytes)
begins bytes low high enough =
    let n = said_length bytes in
    let t : length (take n bytes) ≡ n = length-take-le n bytes enough in
    record {
      message = take n bytes;
      after = drop n bytes;
      is = sym (take-append-drop n bytes);
      whole = record { good = (omega arith, omega arith); says = said_front bytes n (omega arith) enough ∙ sym t };
      sized = t;
    }

-- what bytes begin with, by how many they are and which length they say
pub ruleset framed = (open_short, open_unfinished, bad_low, bad_high, begins)

-- what begins with a message says its length
says_whole : (bytes : List ℕ) (n : ℕ) → BeginsMessage bytes n → (HEADER_SIZE ≤ n) × (said_length bytes ≡ n)
says_whole bytes n b =
    let g = b.whole.good.0 in
    let s = b.sized in
    (omega arith, ap said_length b.is ∙ said_more b.message b.after (omega arith) ∙ b.whole.says ∙ s)

not_rest : (bytes : List ℕ) (n : ℕ) → BeginsMessage bytes n → IsRest bytes → ⊥
not_rest bytes n b r = no_rest b.message b.after bytes b.whole b.is r

-- what is open is not bad
not_bad : (bytes : List ℕ) (n : ℕ) → IsOpen bytes → IsBad bytes n → ⊥
not_bad bytes n o b = elim o [
  | inl z ↦ (let k : length bytes ≡ 0 = ap length z in let l = b.long in omega arith)
  | inr u ↦ (let k = u.1 in elim k [ inl a ↦ (let l = b.long in omega arith) | inr a ↦ b.bad (subst IsGoodLength b.says a.0) ])
]

-- two frames of the same bytes are the same
pub one_frame : (bytes : List ℕ) (f g : Framed) → Frames bytes f → Frames bytes g → f ≡ g
one_frame bytes (Whole n) (Whole k) f g = ap (λ (v : ℕ). Whole v) (sym (says_whole bytes n f).1 ∙ (says_whole bytes k g).1)
one_frame bytes (Whole n) (Bad k) f g = absurd (not_rest bytes n f (inr (k, g)))
one_frame bytes (Whole n) More f g = absurd (not_rest bytes n f (inl g))
one_frame bytes (Bad n) (Whole k) f g = absurd (not_rest bytes k g (inr (n, f)))
one_frame bytes (Bad n) (Bad k) f g = ap (λ (v : ℕ). Bad v) (sym f.says ∙ g.says)
one_frame bytes (Bad n) More f g = absurd (not_bad bytes n g f)
one_frame bytes More (Whole k) f g = absurd (not_rest bytes k g (inl f))
one_frame bytes More (Bad k) f g = absurd (not_bad bytes k f g)
one_frame bytes More More f g = refl

-- a message at the front, and then the split of the bytes after it, are a split of all bytes
pub split_first : (bytes rest : List ℕ) (n : ℕ) (ms : List (List ℕ)) → BeginsMessage bytes n → IsSplit (drop n bytes) ms rest
    → IsSplit bytes (take n bytes ∷ ms) rest
split_first bytes rest n ms b s =
    let t : take n bytes ≡ b.message = ap (take n) b.is ∙ take_at b.message b.after n b.sized in
    let m : IsMessage (take n bytes) = subst IsMessage (sym t) b.whole in
    record {
      whole = sym (take-append-drop n bytes) ∙ ap (λ v. take n bytes ++ v) s.whole ∙ sym (append_assoc (take n bytes) _ rest);
      each = (m, s.each);
      tail = s.tail;
    }

-- bytes that no message begins are split into no messages, and are left as they are
pub split_none : (bytes : List ℕ) → IsRest bytes → IsSplit bytes [] bytes
split_none bytes r = record { whole = refl; each = tt; tail = r }

-- a message at the front stays there, whatever comes after the bytes
pub whole_stays : (bytes y : List ℕ) (n : ℕ) → BeginsMessage bytes n → BeginsMessage (bytes ++ y) n
whole_stays bytes y n b = record {
  message = b.message;
  after = b.after ++ y;
  is = ap (λ v. v ++ y) b.is ∙ append_assoc b.message b.after y;
  whole = b.whole;
  sized = b.sized;
}

-- how a stream that was cut somewhere continues
pub ruleset pieces = (split_goes_on, bad_stays, whole_stays)

-- what frames bytes, and how the frames of a stream are its split
pub ruleset frames = (one_frame, split_first, split_none)
