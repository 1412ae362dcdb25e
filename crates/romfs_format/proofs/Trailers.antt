-- What keeps its rule is known by its bounds, and bounds that can't fail hold (stable_..). The
-- trailer of a sound image therefore keeps its rule, if the profile reads it (whole_trailer).
use Rattle.std.proofs.Common.{◌≡◌, ℕ, ◌<◌, ◌≤◌, inl, inr, List, IsTrue, arith, refl}
use Rattle.std.specs.Prelude.{Bool, true, false}
use Rattle.std.proofs.lemmas.Bool.{cases_lt, cases_order}
use Rattle.romfs_format.specs.declared.rule.Profile.{Profile}
use Rattle.romfs_format.specs.declared.rule.Rule.TheVariants.{Attributes}
use Rattle.romfs_format.specs.Fields.{word}
use Rattle.romfs_format.specs.Part.{AreTables, AreLists, IsFramed, IsPart}
use Rattle.romfs_format.specs.Profiles.{reads_attributes}
use Rattle.romfs_format.specs.Trailer.{trailer_at, trailer, HasTrailer, IsTrailer, IsTrailerBroken}
use Rattle.romfs_format.specs.Rules.{IsSound}

stable_le : (m n : ℕ) → ¬ ¬ (m ≤ n) → m ≤ n
stable_le m n h = elim (cases_lt n m) [ inl l ↦ absurd (h (λ k. omega arith)) | inr l ↦ l ]

stable_lt : (m n : ℕ) → ¬ ¬ (m < n) → m < n
stable_lt m n h = elim (cases_lt m n) [ inl l ↦ l | inr l ↦ absurd (h (λ k. omega arith)) ]

stable_eq : (m n : ℕ) → ¬ ¬ (m ≡ n) → m ≡ n
stable_eq m n h = elim (cases_order m n) [
  | inl e ↦ e
  | inr (inl l) ↦ absurd (h (λ k. omega arith))
  | inr (inr l) ↦ absurd (h (λ k. omega arith))
]

stable_true : (b : Bool) → ¬ ¬ IsTrue b → IsTrue b
stable_true true h = refl
stable_true false h = absurd (h (λ e. absurd (cc)))

-- tables that cannot break their rule keep it
stable_tables : (y : List ℕ) → ¬ ¬ AreTables y → AreTables y
stable_tables y h = record {
  firsts_fit = stable_le _ _ (λ n. h (λ p. n p.firsts_fit));
  from_zero = stable_eq _ _ (λ n. h (λ p. n p.from_zero));
  firsts_rise = stable_true _ (λ n. h (λ p. n p.firsts_rise));
  edges_fit = stable_le _ _ (λ n. h (λ p. n p.edges_fit));
  edges_rise = stable_true _ (λ n. h (λ p. n p.edges_rise));
  inside = stable_le _ _ (λ n. h (λ p. n p.inside));
}

-- so do lists
stable_lists : (y : List ℕ) → ¬ ¬ AreLists y → AreLists y
stable_lists y h = record {
  tables = stable_tables y (λ n. h (λ p. n p.tables));
  each = stable_true _ (λ n. h (λ p. n p.each));
}

-- and their frame
stable_frame : (n : ℕ) (x : List ℕ) → ¬ ¬ IsFramed n x → IsFramed n x
stable_frame n x h = record {
  head = stable_le _ _ (λ n. h (λ p. n p.head));
  whole = stable_le _ _ (λ n. h (λ p. n p.whole));
  words = stable_eq _ _ (λ n. h (λ p. n p.words));
  sum = stable_eq _ _ (λ n. h (λ p. n p.sum));
  rows_fit = stable_le _ _ (λ n. h (λ p. n p.rows_fit));
}

-- and a part
stable_part : (n : ℕ) (mode : ℕ → ℕ) (x : List ℕ) → ¬ ¬ IsPart n mode x → IsPart n mode x
stable_part n mode x h = record {
  frame = stable_frame n x (λ n. h (λ p. n p.frame));
  lists = stable_lists _ (λ n. h (λ p. n p.lists));
  rows = stable_true _ (λ n. h (λ p. n p.rows));
}

-- a trailer that cannot break its rule keeps it
stable_trailer : (full : ℕ) (t : List ℕ) → ¬ ¬ IsTrailer full t → IsTrailer full t
stable_trailer full t h = record {
  whole = stable_le _ _ (λ n. h (λ x. n x.whole));
  sum = stable_eq _ _ (λ n. h (λ x. n x.sum));
  rows = record {
    each = λ i l. record {
      aligned = stable_eq _ _ (λ n. h (λ x. n (x.rows.each i l).aligned));
      inside = stable_lt _ _ (λ n. h (λ x. n (x.rows.each i l).inside));
      mode = stable_le _ _ (λ n. h (λ x. n (x.rows.each i l).mode));
      nanoseconds = stable_lt _ _ (λ n. h (λ x. n (x.rows.each i l).nanoseconds));
      last = stable_eq _ _ (λ n. h (λ x. n (x.rows.each i l).last));
    };
    rising = λ i j l m. stable_lt _ _ (λ n. h (λ x. n (x.rows.rising i j l m)));
  };
  part = λ v. stable_part _ _ _ (λ n. h (λ x. n (x.part v)));
}

-- a trailer that is not broken keeps its rule
pub kept_trailer : (b : List ℕ) → HasTrailer b → ¬ IsTrailerBroken b → IsTrailer (word b 8) (trailer b)
kept_trailer b h k = stable_trailer (word b 8) (trailer b) (λ n. k (h, n))

-- the trailer of a sound image, if its profile reads it
pub whole_trailer : (profile : Profile) (b : List ℕ) → IsTrue (reads_attributes profile) → IsSound profile b → HasTrailer b
    → IsTrailer (word b 8) (trailer b)
whole_trailer profile b r s h = kept_trailer b h (λ x. s.keeps Attributes (trailer_at b) (r, x, refl))
