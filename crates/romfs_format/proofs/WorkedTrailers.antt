-- The worked trailers, by computation (trailers_on_literals). The rows of a trailer are right if it
-- has two right rows that rise (two_right); each broken one breaks a field of what it must keep.
use Rattle.std.proofs.Common.{◌≡◌, ℕ, zero, suc, ◌<◌, ◌≤◌, List, arith, refl, lit<, lit≤}
use Rattle.std.specs.Prelude.{⊤}
use Rattle.romfs_format.specs.Fields.{word}
use Rattle.romfs_format.specs.Trailer.{trailer, trailer_bytes, long_word, part, row_of, IsRow, AreRows}
use Rattle.romfs_format.specs.TrailerExamples.{NoTrailerExamples, TrailerExamples, ProfileExamples, BrokenTrailerExamples}

-- facts for reading trailers that are written out
unfoldable trailers_on_literals : ⊤
unfolding word trailer trailer_bytes long_word part
trailers_on_literals = tt

-- where trailers begin, and what is none
pub absent : NoTrailerExamples
unfolding trailers_on_literals
absent = record {
  at_full_size = refl;
  behind_full_size = refl;
  last_place = refl;
  too_far = refl;
  nothing = refl;
  seven_letters = refl;
  another_letter = refl;
  one_byte_on = refl;
  no_rows = refl;
}

module _ (full : ℕ) (t : List ℕ) (x : IsRow full t 0) (y : IsRow full t 1) (l : (row_of t 0).place < (row_of t 1).place) where
  two_each : (i : ℕ) → i < 2 → IsRow full t i
  two_each zero m = x
  two_each (suc zero) m = y
  two_each (suc (suc i)) m = absurd (omega arith)

  two_rise : (i j : ℕ) → i < j → j < 2 → (row_of t i).place < (row_of t j).place
  two_rise i zero m n = absurd (omega arith)
  two_rise zero (suc zero) m n = l
  two_rise (suc i) (suc zero) m n = absurd (omega arith)
  two_rise i (suc (suc j)) m n = absurd (omega arith)

  pub two_right : AreRows full t 2
  two_right = record { each = two_each; rising = two_rise }

module _ (full : ℕ) (t : List ℕ) (x : IsRow full t 0) where
  one_each : (i : ℕ) → i < 1 → IsRow full t i
  one_each zero m = x
  one_each (suc i) m = absurd (omega arith)

  pub one_right : AreRows full t 1
  one_right = record { each = one_each; rising = λ i j l m. absurd (omega arith) }

-- trailers that keep their rule, and what they say
pub whole : TrailerExamples
unfolding trailers_on_literals
whole = record {
  none = record {
    whole = lit≤ tt;
    sum = refl;
    rows = record { each = λ i l. absurd (omega arith); rising = λ i j l m. absurd (omega arith) };
    part = λ h. absurd (cc);
  };
  two = record {
    whole = lit≤ tt;
    sum = refl;
    rows = two_right 64 _
        (record { aligned = refl; inside = lit< tt; mode = lit≤ tt; nanoseconds = lit< tt; last = refl })
        (record { aligned = refl; inside = lit< tt; mode = lit≤ tt; nanoseconds = lit< tt; last = refl })
        (lit< tt);
    part = λ h. absurd (cc);
  };
  longer = record {
    whole = lit≤ tt;
    sum = refl;
    rows = two_right 64 _
        (record { aligned = refl; inside = lit< tt; mode = lit≤ tt; nanoseconds = lit< tt; last = refl })
        (record { aligned = refl; inside = lit< tt; mode = lit≤ tt; nanoseconds = lit< tt; last = refl })
        (lit< tt);
    part = λ h. absurd (cc);
  };
  has_none = refl;
  has_two = refl;
  says = refl;
  longer_says = refl;
  first = refl;
  second = refl;
  before = refl;
  between = refl;
}

-- what each profile requires, and shows
pub profiles : ProfileExamples
unfolding trailers_on_literals
profiles = record {
  usual = refl;
  strict = refl;
  usual_with = refl;
  strict_with = refl;
  hidden = refl;
  hidden_too = refl;
  shown = refl;
  shown_too = refl;
}

-- trailers that break their rule
pub broken : BrokenTrailerExamples
unfolding trailers_on_literals
broken = record {
  letters_alone = (refl, λ t. let l : 16 ≤ 8 = t.whole in omega arith);
  cut_off = (refl, λ t. let l : 80 ≤ 79 = t.whole in omega arith);
  large_sum = (refl, λ t. let e : 1 ≡ 0 = t.sum in omega arith);
  off_slot = (refl, λ t. let e : 4 ≡ 0 = (t.rows.each 0 (lit< tt)).aligned in omega arith);
  past_image = (refl, λ t. let l : 64 < 64 = (t.rows.each 0 (lit< tt)).inside in omega arith);
  large_mode = (refl, λ t. let l : 4096 ≤ 4095 = (t.rows.each 0 (lit< tt)).mode in omega arith);
  whole_second = (refl, λ t. let l : 1000000000 < 1000000000 = (t.rows.each 0 (lit< tt)).nanoseconds in omega arith);
  last_word = (refl, λ t. let e : 1 ≡ 0 = (t.rows.each 0 (lit< tt)).last in omega arith);
  same_place = (refl, λ t. let l : 48 < 48 = t.rows.rising 0 1 (lit< tt) (lit< tt) in omega arith);
  falling = (refl, λ t. let l : 48 < 32 = t.rows.rising 0 1 (lit< tt) (lit< tt) in omega arith);
}
