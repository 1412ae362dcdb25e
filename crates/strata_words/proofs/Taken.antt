-- Words that are a command of the program name one of its commands, whose rows are filled: `taken_names`. Each command is examined by
-- itself (`serve_filled` to `list_filled`), and then which one is entered.
use Rattle.std.proofs.Common.{◌≡◌, Bool, cond, codes, true, false, refl, sym, List, [], ◌∷◌, Option, Some, None, is_some, true≢false, option_map}
use Rattle.std.specs.List.{list_all, slice_index_or}
use Rattle.std.specs.Option.{option_map_or}
use Rattle.clap.specs.Faults.{check_fault, entered_fault, level_fault, use_fault}
use Rattle.clap.specs.Simple.{App, Shape, built, entered, help_shape, label_of, names_of, rows_at}
use Rattle.clap.specs.Takes.{is_given}
use Rattle.clap.specs.Walk.{Row, Rule, Text, answers_to, first_of, nothing_held, rows_after, settled, used, walk, walk_from}
use Rattle.clap.specs.declared.error.kind.ErrorKind.TheVariants as kind
use Rattle.strata_words.specs.declared.options.Verb.{Verb}
use Rattle.strata_words.specs.declared.options.Verb.TheVariants as verbs
use Rattle.strata_words.specs.CommandLine.{GivesSocket, IsFilled, IsTaken, command_in, faults_in, program, verb_word}
use Rattle.strata_words.proofs.Walked.{neither, settle_kept, walk_kept}
use Rattle.strata_words.proofs.Valued.{all_filled, defaults_filled, fills, fills_default, rows_filled, some_value, used_filled}

-- ---- one command

-- without this option or word the command is at fault
abbrev Wants : Text → Shape → Type 0
Wants id s = (rows : List Row) → is_given id rows ≡ false → check_fault s rows false ≡ kind.MissingRequiredArgument ∷ []

wanted_given : (id : Text) (s : Shape) (rows : List Row) → Wants id s → check_fault s rows false ≡ [] → is_given id rows ≡ true
wanted_given id s rows wants e = go (is_given id rows) refl
  where
    go : (b : Bool) → is_given id rows ≡ b → is_given id rows ≡ true
    go true is = is
    go false is =
        let bad : check_fault s rows false ≡ kind.MissingRequiredArgument ∷ [] = wants rows is in
        cc

-- the rows of a command whose words are not at fault
leaf_rows : (s : Shape) (words : List Text)
    → ((a : Rule) (vs : List Text) (rows : List Row) → fills a ≡ true
    → use_fault s.args_override_self a vs rows ≡ [] → all_filled rows ≡ true
    → all_filled (used a vs rows) ≡ true)
    → list_all fills s.rules ≡ true → list_all fills_default s.rules ≡ true → level_fault s [] nothing_held words false [] ≡ []
    → (all_filled (rows_after s.rules [] words) ≡ true) × (check_fault s (rows_after s.rules [] words) false ≡ [])
leaf_rows s words kept fit plain e =
    let walk_on = neither _ _ e in
    let settle_on = neither _ _ walk_on.1 in
    let check_on = neither _ _ settle_on.1 in
    let end = (walk s.rules [] nothing_held words).held in
    let held = walk_kept _ fills s kept fit [] (walk_from nothing_held) words walk_on.0 refl in
    let rows = settle_kept _ fills s kept fit end settle_on.0 held in
    (defaults_filled s.rules (settled s.rules end).rows plain rows, check_on.1)

-- are filled, if it requires an image
leaf_filled : (s : Shape) (rows : List Row) → Wants (codes "image") s → (all_filled rows ≡ true) × (check_fault s rows false ≡ [])
    → IsFilled rows
leaf_filled s rows wants e = rows_filled rows e.0 (wanted_given (codes "image") s rows wants e.1)

-- ---- the program

-- the program and its commands, built
abbrev made : App
made = built program

abbrev served : Shape
served = slice_index_or made.subs 0 help_shape

abbrev listening : Shape
listening = slice_index_or made.subs 1 help_shape

abbrev checked : Shape
checked = slice_index_or made.subs 2 help_shape

abbrev listed : Shape
listed = slice_index_or made.subs 3 help_shape

serve_filled : (words : List Text) → level_fault served [] nothing_held words false [] ≡ [] → IsFilled (rows_after served.rules [] words)
serve_filled words e = leaf_filled served (rows_after served.rules [] words) (λ rows none. rw none refl)
    (leaf_rows served words used_filled refl refl e)

socket_filled : (words : List Text) → level_fault listening [] nothing_held words false [] ≡ []
    → IsFilled (rows_after listening.rules [] words)
socket_filled words e = leaf_filled listening (rows_after listening.rules [] words) wants
    (leaf_rows listening words used_filled refl refl e)
  where
    wants : Wants (codes "image") listening
    wants rows none = go (is_given (codes "listen") rows) refl
      where
        go : (b : Bool) → is_given (codes "listen") rows ≡ b → check_fault listening rows false ≡ kind.MissingRequiredArgument ∷ []
        go true is = rw (is, none) refl
        go false is = rw is refl

socket_given : (words : List Text) → level_fault listening [] nothing_held words false [] ≡ []
    → is_some (first_of (codes "listen") (rows_after listening.rules [] words)) ≡ true
socket_given words e =
    let rows = rows_after listening.rules [] words in
    let made = leaf_rows listening words used_filled refl refl e in
    some_value (codes "listen") rows refl made.0 (wanted_given (codes "listen") listening rows (λ rows none. rw none refl) made.1)

check_filled : (words : List Text) → level_fault checked [] nothing_held words false [] ≡ [] → IsFilled (rows_after checked.rules [] words)
check_filled words e = leaf_filled checked (rows_after checked.rules [] words) (λ rows none. rw none refl)
    (leaf_rows checked words used_filled refl refl e)

list_filled : (words : List Text) → level_fault listed [] nothing_held words false [] ≡ [] → IsFilled (rows_after listed.rules [] words)
list_filled words e = leaf_filled listed (rows_after listed.rules [] words) (λ rows none. rw none refl)
    (leaf_rows listed words used_filled refl refl e)

-- a command of the program, with rows that are filled
pub record NamesCommand (o : Option (Text × List Row)) : Type 0 where
  pub verb : Verb
  pub rows : List Row
  pub is : o ≡ Some (verb_word verb, rows)
  pub filled : IsFilled rows
  pub gives : GivesSocket verb rows

-- a command with these rows after its words
named : (verb : Verb) (s : Shape) (words : List Text) → IsFilled (rows_after s.rules [] words)
    → GivesSocket verb (rows_after s.rules [] words)
    → NamesCommand (Some (verb_word verb, rows_after s.rules [] words))
named verb s words filled gives = record { verb = verb; rows = rows_after s.rules [] words; is = refl; filled = filled; gives = gives }

-- the command that is met, by which name its word is
abbrev met : Bool → Bool → Bool → Bool → Option Shape
met a b c d = cond a (Some served) (cond b (Some listening) (cond c (Some checked) (cond d (Some listed) None)))

-- the command that was entered is one of the four
entered_names : (p : Text × List Text) → entered_fault made (Some p) ≡ [] → is_some (entered made (Some p)) ≡ true
    → NamesCommand (entered made (Some p))
entered_names p e some =
    go (answers_to p.0 (label_of served)) (answers_to p.0 (label_of listening)) (answers_to p.0 (label_of checked))
    (answers_to p.0 (label_of listed)) e some
  where
    go : (a b c d : Bool) → option_map_or (λ s. level_fault s [] nothing_held p.1 false []) (met a b c d) [] ≡ []
        → is_some (option_map (λ s. rows_at s p.1) (met a b c d)) ≡ true → NamesCommand (option_map (λ s. rows_at s p.1) (met a b c d))
    go true b c d e some = named verbs.Serve served p.1 (serve_filled p.1 e) (λ same. absurd (cc))
    go false true c d e some = named verbs.Socket listening p.1 (socket_filled p.1 e) (λ _. socket_given p.1 e)
    go false false true d e some = named verbs.Check checked p.1 (check_filled p.1 e) (λ same. absurd (cc))
    go false false false true e some = named verbs.List listed p.1 (list_filled p.1 e) (λ same. absurd (cc))
    go false false false false e some = absurd (true≢false (sym some))

some_entered : (stop : Option (Text × List Text)) → entered_fault made stop ≡ [] → is_some (entered made stop) ≡ true
    → NamesCommand (entered made stop)
some_entered None e some = absurd (true≢false (sym some))
some_entered (Some p) e some = entered_names p e some

-- the program requires a command
one_wanted : (rows : List Row) (has : Bool) → check_fault made.top rows has ≡ [] → has ≡ true
one_wanted rows true e = refl
one_wanted rows false e = cc

-- words that are a command of the program name it, and its rows are filled
pub taken_names : (words : List Text) → IsTaken words → NamesCommand (command_in words)
unfolding faults_in command_in
taken_names words e =
    let walk_on = neither _ _ e in
    let below_on = neither _ _ walk_on.1 in
    let settle_on = neither _ _ below_on.1 in
    let check_on = neither _ _ settle_on.1 in
    let stop = (walk made.top.rules (names_of made) nothing_held words).stopped in
    some_entered stop below_on.0 (one_wanted (rows_after made.top.rules (names_of made) words) (is_some (entered made stop))
    check_on.1)
