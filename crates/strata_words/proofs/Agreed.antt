-- What the arguments of a line determine. Arguments name one command, and each verb has its own name; so two lines of the same arguments
-- are equal (`lines_agree`), and arguments with a line have no fault (`lines_are_faultless`), and neither have those that ask for the
-- version (`version_is_faultless`).
use Rattle.std.proofs.Common.{◌≡◌, ◌∙◌, ◌==◌, ℕ, cond, ap, refl, sym, subst, List, [], ◌∷◌, Option, Some, unwrap_or, option_map, slice_index, inl, inr}
use Rattle.clap.specs.Kinds.{IsAmong, Kinds}
use Rattle.clap.specs.Walk.{Row, Text}
use Rattle.clap.specs.declared.error.kind.ErrorKind.{ErrorKind}
use Rattle.clap.specs.declared.error.kind.ErrorKind.TheVariants.{DisplayVersion}
use Rattle.strata_words.specs.declared.options.Line.{Line}
use Rattle.strata_words.specs.declared.options.LineFault.{LineFault}
use Rattle.strata_words.specs.declared.options.LineFault.TheVariants.{Memory, Usage}
use Rattle.strata_words.specs.declared.options.NoLine.{NoLine}
use Rattle.strata_words.specs.declared.options.NoLine.TheVariants.{Version, Fault}
use Rattle.strata_words.specs.declared.options.Verb.{Verb}
use Rattle.strata_words.specs.declared.options.Verb.TheVariants as verbs
use Rattle.strata_words.specs.CommandLine.{AreCrossed, IsLineFault, IsLineOf, IsNoLine, IsRefusedFor, IsTaken, HaveDigests, HaveNumbersInRange, Says, command_in, faults_in, parts_of, verb_word}
use Rattle.strata_words.specs.LineLaws.{LinesAgree, LinesAreFaultless, VersionIsFaultless}

-- the verb whose word has this second letter
verb_by : ℕ → Verb
verb_by letter = cond (letter == 101) verbs.Serve (cond (letter == 111) verbs.Socket (cond (letter == 104) verbs.Check verbs.List))

verb_is : (verb : Verb) → verb_by (slice_index (verb_word verb) 1) ≡ verb
unfolding verb_by
verb_is verbs.Serve = refl
verb_is verbs.Socket = refl
verb_is verbs.Check = refl
verb_is verbs.List = refl

-- each verb has its own word
pub one_word : (a b : Verb) → verb_word a ≡ verb_word b → a ≡ b
one_word a b e = sym (verb_is a) ∙ ap (λ word. verb_by (slice_index word 1)) e ∙ verb_is b

-- words name one command
pub one_name : (o : Option (Text × List Row)) (a b : Text) (r s : List Row) → o ≡ Some (a, r) → o ≡ Some (b, s) → a ≡ b
one_name o a b r s e f = ap (λ o. unwrap_or (option_map (λ (p : Text × List Row). p.0) o) b) (sym e ∙ f)

-- and it has one list of rows
pub same_rows : (o : Option (Text × List Row)) (a b : Text) (r s : List Row) → o ≡ Some (a, r) → o ≡ Some (b, s) → r ≡ s
same_rows o a b r s e f = ap (λ o. unwrap_or (option_map (λ (p : Text × List Row). p.1) o) s) (sym e ∙ f)

-- two lines of the same words say the same
pub lines_agree : LinesAgree
lines_agree = record {
  both_say = λ words a b is_a is_b.
      let verbs_are = one_word b.verb a.verb (one_name (command_in words) _ _ is_b.rows is_a.rows is_b.command is_a.command) in
      let rows_are = same_rows (command_in words) _ _ is_b.rows is_a.rows is_b.command is_a.command in (
        parts_of a.verb is_a.rows,
        is_a.holds.says,
        subst (λ v. Says b (parts_of v is_a.rows)) verbs_are
            (subst (λ rows. Says b (parts_of b.verb rows)) rows_are is_b.holds.says),
      );
}

-- words that have a line are not refused
not_refused : (words : List Text) (why : ErrorKind) → IsTaken words → IsRefusedFor why words → ⊥
not_refused words why taken refused =
    let P : Kinds → Type 0 = λ faults. IsAmong why faults in
    subst P taken refused

faultless : (words : List Text) (line : Line) (fault : NoLine) → IsLineOf words line → IsNoLine words fault → fault ≡ Fault Memory
faultless words line Version is told = absurd (not_refused words DisplayVersion is.taken told)
faultless words line (Fault Memory) is told = refl
faultless words line (Fault (Usage text)) is told = elim told [
  | inl refused ↦ absurd (not_refused words refused.why is.taken refused.refused)
  | inr (inl bad) ↦
      let rows_are = same_rows (command_in words) _ _ is.rows bad.rows is.command bad.command in
      absurd (bad.wrong (subst HaveNumbersInRange rows_are is.holds.numbered))
  | inr (inr (inl bad)) ↦
      let rows_are = same_rows (command_in words) _ _ bad.rows is.rows bad.command is.command in
      absurd (is.holds.apart (subst AreCrossed rows_are bad.crossed))
  | inr (inr (inr bad)) ↦
      let rows_are = same_rows (command_in words) _ _ is.rows bad.rows is.command bad.command in
      absurd (bad.wrong (subst HaveDigests rows_are is.holds.digested))
]

-- words that have a line meet no fault but lack of memory
pub lines_are_faultless : LinesAreFaultless
lines_are_faultless = record { only_memory = faultless }

-- what is refused for one reason alone is refused for that
one_reason : (a b : ErrorKind) → IsAmong a (b ∷ []) → a ≡ b
one_reason a b (inl same) = same
one_reason a b (inr none) = absurd none

-- words that are refused are no command
not_taken : (words : List Text) → faults_in words ≡ DisplayVersion ∷ [] → IsTaken words → ⊥
not_taken words is taken = let bad : [] ≡ DisplayVersion ∷ [] = sym taken ∙ is in cc

version_faultless : (words : List Text) (fault : LineFault) → faults_in words ≡ DisplayVersion ∷ [] → IsLineFault words fault
    → fault ≡ Memory
version_faultless words Memory is told = refl
version_faultless words (Usage text) is told = elim told [
  | inl refused ↦
      let P : Kinds → Type 0 = λ faults. IsAmong refused.why faults in
      absurd (refused.other (one_reason refused.why DisplayVersion (subst P is refused.refused)))
  | inr (inl bad) ↦ absurd (not_taken words is bad.taken)
  | inr (inr (inl bad)) ↦ absurd (not_taken words is bad.taken)
  | inr (inr (inr bad)) ↦ absurd (not_taken words is bad.taken)
]

-- arguments that ask only for the version meet no fault but lack of memory
pub version_is_faultless : VersionIsFaultless
version_is_faultless = record { only_memory = version_faultless }
