-- The worked examples of `specs/Examples` that need a step of their own: those of lengths and of
-- faults. All others are computed (`Computing`).
use Rattle.std.proofs.Common.{ℕ, inl, inr, refl, arith, lit<, lit≤, ap, get_or}
use Rattle.romfs_format.specs.declared.rule.Profile.TheVariants.{Usual}
use Rattle.romfs_format.specs.declared.rule.Rule.{Rule}
use Rattle.romfs_format.specs.declared.rule.Rule.TheVariants.{Short, Magic}
use Rattle.romfs_format.specs.Rules.{IsNamedBefore, Breaks, StartsWith, magic}
use Rattle.std.proofs.lemmas.Bool.{false≢true, eq-eqb}
use Rattle.fuse_wire.specs.Structures.{u32, u64, zeros}
use Rattle.reply_model.specs.Examples.{two_faults, StreamExamples, FaultOrder, FaultExamples}

-- the shortest and the longest message, and lengths beyond
pub lengths : StreamExamples
unfolding u32 u64 zeros
lengths = record {
  shortest = record { good = (lit≤ tt, lit≤ tt); says = refl };
  too_short = record { long = lit≤ tt; says = refl; bad = λ g. let l = g.0 in omega arith };
  longest = (lit< tt, inr ((lit≤ tt, lit≤ tt), lit< tt));
  too_long = record { long = lit≤ tt; says = refl; bad = λ g. let l = g.1 in omega arith };
  three_bytes = (lit< tt, inl (lit< tt));
  nothing = λ u. let l = u.0 in omega arith;
}

-- which of two faults is named
pub order : FaultOrder
order = record {
  volume_by_rule = inl (lit< tt);
  volume_first = inl (lit< tt);
  lower_place = inr (refl, inl (lit< tt));
  lower_rule = inr (refl, inr (refl, lit< tt));
  twice_before_name = inr (refl, inr (refl, lit< tt));
  depth_last = inl (lit< tt);
}

first_byte : ¬ StartsWith two_faults magic
first_byte (rest, e) = false≢true (eq-eqb 46 45 (ap (λ xs. get_or xs 0 0) e))

magic_first : (s : Rule) (q : ℕ) → Breaks Usual two_faults s q → IsNamedBefore s q Magic 0 → ⊥
magic_first Short q b n = let l = b.0 in omega arith
magic_first s q b (inl l) = omega arith
magic_first s q b (inr (e, inl l)) = omega arith
magic_first s q b (inr (e, inr (f, l))) = omega arith

short_first : (s : Rule) (q : ℕ) → IsNamedBefore s q Short 0 → ⊥
short_first s q (inl l) = omega arith
short_first s q (inr (e, inl l)) = omega arith
short_first s q (inr (e, inr (f, l))) = omega arith

-- an image with two faults, and its first 15 bytes
pub faults : FaultExamples
faults = record {
  magic = record { broken = (first_byte, refl); first = magic_first };
  short = record { broken = (lit< tt, refl); first = λ s q b n. short_first s q n };
}
