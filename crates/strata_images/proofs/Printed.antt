-- What numbers look like in print (`as_place`), and how a loop that prints a line for each element of a list (`IsPrinted`) begins,
-- continues and ends.
use Rattle.std.proofs.Common.{◌≡◌, ◌∙◌, sym, ap, ℕ, ◌+◌, ◌-◌, ◌^◌, ◌<◌, ◌≤◌, List, [], ◌++◌, length, drop, replicate, false, append-nil, append_assoc, slice_index_or, arith}
use Rattle.std.proofs.lemmas.List.{drop_more}
use Rattle.std.proofs.Math.ListN.{drop_of_length-le}
use native.Mathlib.Numerals.{unary_clauses}
use Rattle.std.specs.Fmt.{digits, padded_integral, format_spec, char_count}
use Rattle.strata_images.specs.Texts.{place_text, numbered_lines}

-- eight digits with zeros in front, as a hole of the form {:08x} writes them
pub as_place : (n : ℕ) → padded_integral (format_spec 32 0 4 8 (2 ^ 64 - 1)) false [] (digits 16 false n) ≡ place_text n
unfolding padded_integral char_count
as_place n = simp unary_clauses (ap (λ text. replicate (8 - length (digits 16 false n)) 48 ++ text) (append-nil (digits 16 false n)))

module _ {X : Type 0} (line : ℕ → X → List ℕ) (first : ℕ) (xs : List X) where
  -- the text so far, and the lines of those that are left, make up all lines
  pub record IsPrinted (place : ℕ) (text : List ℕ) : Type 0 where
    pub whole : text ++ numbered_lines line (place + first) (drop place xs) ≡ numbered_lines line first xs

  -- before the first one no line is printed
  pub none_printed : (text : List ℕ) → text ≡ [] → IsPrinted 0 text
  none_printed text e =
      let same : 0 + first ≡ first = omega arith in
      record { whole = ap (λ t. t ++ numbered_lines line (0 + first) xs) e ∙ ap (λ n. numbered_lines line n xs) same }

  -- the next line after the text makes it that of one more
  pub one_more_printed : {text : List ℕ} {place : ℕ} → IsPrinted place text → (more : List ℕ) (n : ℕ) (none : X) → n ≡ place + first
      → place < length xs → more ≡ text ++ line n (slice_index_or xs place none) → IsPrinted (place + 1) more
  unfolding numbered_lines
  one_more_printed {text} {place} p more n none is b e =
      let next : place + 1 + first ≡ place + first + 1 = omega arith in
      let x = slice_index_or xs place none in
      record {
        whole = ap (λ t. t ++ numbered_lines line (place + 1 + first) (drop (place + 1) xs)) (e ∙ ap (λ k. text ++ line k x) is)
            ∙ append_assoc text (line (place + first) x) (numbered_lines line (place + 1 + first) (drop (place + 1) xs))
            ∙ ap (λ k. text ++ (line (place + first) x ++ numbered_lines line k (drop (place + 1) xs))) next
            ∙ ap (λ left. text ++ numbered_lines line (place + first) left) (sym (drop_more xs place none b)) ∙ p.whole;
      }

  -- if none is left, the text is all lines
  pub all_printed : (text : List ℕ) (place : ℕ) → length xs ≤ place → IsPrinted place text → text ≡ numbered_lines line first xs
  unfolding numbered_lines
  all_printed text place b p = sym (append-nil text)
      ∙ ap (λ left. text ++ numbered_lines line (place + first) left) (sym (drop_of_length-le xs b)) ∙ p.whole
