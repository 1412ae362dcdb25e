-- The worked command lines, by computation. The result of words is one value (`told`), so each example computes once: what is wrong with
-- them, the command that they name, and its rows. The numbers of a line are tested by a function that computes (`is_numbered`).
use Rattle.std.proofs.Common.{◌≡◌, ◌∙◌, ◌&&◌, ◌==◌, ◌^◌, eqb-true, is_some, ℕ, Bool, codes, refl, ap, sym, subst, true, false, true≢false, nat_lt, nat_le, length, unwrap_or, option_map, List, [], ◌∷◌, Option, Some, None, IfSome}
use Rattle.std.specs.Char.{digit_value}
use Rattle.std.specs.List.{All, list_all}
use Rattle.std.specs.Str.Parse.{AllDigits, digits_value}
use Rattle.std.proofs.lemmas.Bool.{eq-eqb, le-leb, leb-true, lt-ltb, ltb-true}
use Rattle.std.proofs.lemmas.List.Elements.{All-cons, All-head, All-nil, All-tail}
use Rattle.clap.specs.Kinds.{Kinds}
use Rattle.clap.specs.Walk.{Row, Text, all_of, first_of}
use Rattle.hex.proofs.OnLiterals.{hex_on_literals}
use Rattle.clap.proofs.OnLiterals.{clap_on_literals}
use Rattle.clap.proofs.WalkLemmas.{both}
use Rattle.strata_words.specs.declared.options.Verb.{Verb}
use Rattle.strata_words.specs.declared.options.Verb.TheVariants as verbs
use Rattle.strata_words.specs.CommandLine.{AreCrossed, IsCrossed, names_both_of, IsMisnumbered, IsMissealed, IsNumberTo, HaveDigests, HaveNumbersInRange, images_in, Number, numbers, IsTaken, LineParts, Says, command_in, faults_in, parts_of, verb_word}
use Rattle.strata_words.specs.Owners.{IsId, IsOwner, group_in, user_in}
use Rattle.strata_words.specs.Digests.{AreDigests, AreNamed, named_in}
use Rattle.strata_words.specs.LineExamples.{MisnumberedLines, MissealedLines, ReadsAs, RefusedLines, TakenLines, words_of}
use Rattle.strata_words.proofs.Agreed.{one_name, one_word, same_rows}

-- ---- a test of numbers

abbrev all_digits : Text → Bool
all_digits [] = true
all_digits (c ∷ cs) = nat_lt (digit_value c) 10 && all_digits cs

abbrev is_number : ℕ → Text → Bool
is_number most text = nat_lt 0 (length text) && (all_digits text && (nat_le 1 (digits_value 10 text) && nat_le (digits_value 10 text) most))

digits_pass : (text : Text) → AllDigits 10 text → all_digits text ≡ true
digits_pass [] digits = refl
digits_pass (c ∷ cs) digits = rw (lt-ltb (digit_value c) 10 digits.0, digits_pass cs digits.1) refl

digits_passed : (text : Text) → all_digits text ≡ true → AllDigits 10 text
digits_passed [] e = tt
digits_passed (c ∷ cs) e =
    let tests = both (nat_lt (digit_value c) 10) (all_digits cs) e in
    (ltb-true (digit_value c) 10 tests.0, digits_passed cs tests.1)

number_passes : (most : ℕ) (text : Text) → IsNumberTo most text → is_number most text ≡ true
number_passes most text is =
    rw (
      lt-ltb 0 (length text) is.0.0,
      digits_pass text is.0.1,
      le-leb 1 (digits_value 10 text) is.1.0,
      le-leb (digits_value 10 text) most is.1.1,
    ) refl

number_passed : (most : ℕ) (text : Text) → is_number most text ≡ true → IsNumberTo most text
number_passed most text e =
    let some = both (nat_lt 0 (length text)) _ e in
    let digits = both (all_digits text) _ some.1 in
    let ends = both (nat_le 1 (digits_value 10 text)) (nat_le (digits_value 10 text) most) digits.1 in (
      (ltb-true 0 (length text) some.0, digits_passed text digits.0),
      (
        leb-true 1 (digits_value 10 text) ends.0,
        leb-true (digits_value 10 text) most ends.1,
      ),
    )

-- the same, if there is a text
abbrev passes : ℕ → Option Text → Bool
passes most None = true
passes most (Some text) = is_number most text

given_passes : (most : ℕ) (o : Option Text) → IfSome o (IsNumberTo most) → passes most o ≡ true
given_passes most None is = refl
given_passes most (Some text) is = number_passes most text is

given_passed : (most : ℕ) (o : Option Text) → passes most o ≡ true → IfSome o (IsNumberTo most)
given_passed most None e = tt
given_passed most (Some text) e = number_passed most text e

abbrev is_in_range : List Row → Number → Bool
is_in_range rows number = passes number.most (first_of number.name rows)

-- ---- a test of owners

abbrev is_id : Text → Bool
is_id text = nat_lt 0 (length text) && (all_digits text && nat_lt (digits_value 10 text) (2 ^ 32))

id_passes : (text : Text) → IsId text → is_id text ≡ true
id_passes text is = rw (lt-ltb 0 (length text) is.0.0, digits_pass text is.0.1, lt-ltb (digits_value 10 text) (2 ^ 32) is.1) refl

id_passed : (text : Text) → is_id text ≡ true → IsId text
id_passed text e =
    let some = both (nat_lt 0 (length text)) _ e in
    let digits = both (all_digits text) _ some.1 in
    ((ltb-true 0 (length text) some.0, digits_passed text digits.0), ltb-true (digits_value 10 text) (2 ^ 32) digits.1)

abbrev owns : Option Text → Bool
owns None = true
owns (Some text) = is_id (user_in text) && is_id (group_in text)

owner_passes : (o : Option Text) → IfSome o IsOwner → owns o ≡ true
owner_passes None is = refl
owner_passes (Some text) is = rw (id_passes (user_in text) is.0, id_passes (group_in text) is.1) refl

owner_passed : (o : Option Text) → owns o ≡ true → IfSome o IsOwner
owner_passed None e = tt
owner_passed (Some text) e =
    let tests = both (is_id (user_in text)) (is_id (group_in text)) e in
    (id_passed (user_in text) tests.0, id_passed (group_in text) tests.1)

-- ---- the numbers of a command

abbrev is_numbered : List Row → Bool
is_numbered rows = owns (first_of (codes "owner") rows) && list_all (is_in_range rows) numbers

numbers_pass : (rows : List Row) (ns : List Number) → All (λ n. IfSome (first_of n.name rows) (IsNumberTo n.most)) ns
    → list_all (is_in_range rows) ns ≡ true
numbers_pass rows [] all = refl
numbers_pass rows (n ∷ ns) all =
    let P : Number → Type 0 = λ n. IfSome (first_of n.name rows) (IsNumberTo n.most) in
    let first = given_passes n.most (first_of n.name rows) (All-head P n ns all) in
    rw (first, numbers_pass rows ns (All-tail P n ns all)) refl

numbers_passed : (rows : List Row) (ns : List Number) → list_all (is_in_range rows) ns ≡ true
    → All (λ n. IfSome (first_of n.name rows) (IsNumberTo n.most)) ns
numbers_passed rows [] e = All-nil (λ n. IfSome (first_of n.name rows) (IsNumberTo n.most))
numbers_passed rows (n ∷ ns) e =
    let tests = both (is_in_range rows n) (list_all (is_in_range rows) ns) e in
    All-cons (λ n. IfSome (first_of n.name rows) (IsNumberTo n.most)) n ns (given_passed n.most (first_of n.name rows) tests.0)
    (numbers_passed rows ns tests.1)

in_range : (rows : List Row) → HaveNumbersInRange rows → is_numbered rows ≡ true
in_range rows have =
    rw (owner_passes (first_of (codes "owner") rows) have.owner, numbers_pass rows numbers have.each) refl

are_in_range : (rows : List Row) → is_numbered rows ≡ true → HaveNumbersInRange rows
are_in_range rows e =
    let tests = both (owns (first_of (codes "owner") rows)) (list_all (is_in_range rows) numbers) e in
    record { each = numbers_passed rows numbers tests.1; owner = owner_passed (first_of (codes "owner") rows) tests.0 }

-- ---- the digests of a command

abbrev are_named : List Text → Bool
are_named = list_all (λ text. is_some (named_in text))

names_pass : (texts : List Text) → AreNamed texts → are_named texts ≡ true
names_pass [] all = refl
names_pass (t ∷ ts) all =
    let P : Text → Type 0 = λ text. is_some (named_in text) ≡ true in
    rw (All-head P t ts all, names_pass ts (All-tail P t ts all)) refl

names_passed : (texts : List Text) → are_named texts ≡ true → AreNamed texts
names_passed [] e = All-nil (λ text. is_some (named_in text) ≡ true)
names_passed (t ∷ ts) e =
    let tests = both (is_some (named_in t)) (are_named ts) e in
    All-cons (λ text. is_some (named_in text) ≡ true) t ts tests.0 (names_passed ts tests.1)

abbrev are_digests : ℕ → Option (List Text) → Bool
are_digests count None = true
are_digests count (Some texts) = (length texts == count) && are_named texts

digests_pass : (count : ℕ) (given : Option (List Text)) → AreDigests count given → are_digests count given ≡ true
digests_pass count None are = refl
digests_pass count (Some texts) are =
    rw (eq-eqb (length texts) count are.each, names_pass texts are.named) refl

digests_passed : (count : ℕ) (given : Option (List Text)) → are_digests count given ≡ true → AreDigests count given
digests_passed count None e = record { named = tt; each = tt }
digests_passed count (Some texts) e =
    let tests = both (length texts == count) (are_named texts) e in
    record { named = names_passed texts tests.1; each = eqb-true (length texts) count tests.0 }

abbrev is_digested : List Row → Bool
is_digested rows = are_digests (length (images_in rows)) (all_of (codes "digest") rows)

digested : (rows : List Row) → HaveDigests rows → is_digested rows ≡ true
digested rows have = digests_pass (length (images_in rows)) (all_of (codes "digest") rows) have

are_digested : (rows : List Row) → is_digested rows ≡ true → HaveDigests rows
are_digested rows e = digests_passed (length (images_in rows)) (all_of (codes "digest") rows) e

-- ---- the result of words

-- what is wrong with the words, and the command that they name, with its rows
told : {X : Type 0} → (List Row → X) → List Text → Kinds × Option (Text × X)
told see words = (faults_in words, option_map (λ p. let rows = p.1 in (p.0, see rows)) (command_in words))

-- the words are a command of the program, with these rows
record Shows {X : Type 0} (see : List Row → X) (words : List Text) (name : Text) (x : X) : Type 0 where
  taken : IsTaken words
  rows : List Row
  command : command_in words ≡ Some (name, rows)
  seen : see rows ≡ x

shows : {X : Type 0} (see : List Row → X) (words : List Text) (name : Text) (x : X) → told see words ≡ ([], Some (name, x))
    → Shows see words name x
unfolding told
shows {X} see words name x e = go (command_in words) refl (ap (λ t. t.1) e)
  where
    go : (o : Option (Text × List Row)) → command_in words ≡ o → option_map {U = Text × X} (λ p. (p.0, see p.1)) o ≡ Some (name, x)
        → Shows see words name x
    go None is same = absurd (cc)
    go (Some p) is same =
        let both = ap (λ o. unwrap_or o (name, x)) same in
        record {
          taken = ap (λ t. t.0) e;
          rows = p.1;
          command = is ∙ ap (λ n. Some (n, p.1)) (ap (λ b. b.0) both);
          seen = ap (λ b. b.1) both;
        }

-- whether the rows have numbers in their ranges, whether they name a file beside the device, whether
-- they have digests for all images or none, and what a line of them says
abbrev line_seen : Verb → List Row → Bool × Bool × Bool × LineParts
line_seen verb rows = (is_numbered rows, names_both_of rows, is_digested rows, parts_of verb rows)

reads : {text : Text} {parts : LineParts} → told (line_seen parts.verb) (words_of text)
    ≡ ([], Some (verb_word parts.verb, (true, false, true, parts)))
    → ReadsAs text parts
reads {text} {parts} e =
    let words = words_of text in
    let verb = parts.verb in
    let shown = shows (line_seen verb) words (verb_word verb) (true, false, true, parts) e in
    let rows = shown.rows in
    let numbers_are : is_numbered rows ≡ true = ap (λ s. s.0) shown.seen in
    let apart : names_both_of rows ≡ false = ap (λ s. s.1) shown.seen in
    let digests_are : is_digested rows ≡ true = ap (λ s. s.2) shown.seen in
    let are : parts_of verb rows ≡ parts = ap (λ s. s.3) shown.seen in
    record {
      taken = shown.taken;
      numbered = λ bad.
          let numbered : HaveNumbersInRange rows = are_in_range rows numbers_are in
          bad.wrong (subst HaveNumbersInRange (same_rows (command_in words) _ _ rows bad.rows shown.command bad.command) numbered);
      apart = λ bad. true≢false (sym (subst AreCrossed (same_rows (command_in words) _ _ bad.rows rows bad.command shown.command)
          bad.crossed) ∙ apart);
      sealed = λ bad.
          let have : HaveDigests rows = are_digested rows digests_are in
          bad.wrong (subst HaveDigests (same_rows (command_in words) _ _ rows bad.rows shown.command bad.command) have);
      says = λ line is.
          let verb_is = one_word line.verb verb (one_name (command_in words) _ _ is.rows rows is.command shown.command) in
          let rows_are = same_rows (command_in words) _ _ is.rows rows is.command shown.command in
          subst (Says line) are (subst (λ v. Says line (parts_of v rows)) verb_is
          (subst (λ rows. Says line (parts_of line.verb rows)) rows_are is.holds.says));
    }

crosses : {words : List Text} (verb : Verb) → told names_both_of words ≡ ([], Some (verb_word verb, true)) → IsCrossed words
crosses {words} verb e =
    let shown = shows names_both_of words (verb_word verb) true e in
    record { taken = shown.taken; name = verb_word verb; rows = shown.rows; command = shown.command; crossed = shown.seen }

misnumbers : {words : List Text} (verb : Verb) → told is_numbered words ≡ ([], Some (verb_word verb, false)) → IsMisnumbered words
misnumbers {words} verb e =
    let shown = shows is_numbered words (verb_word verb) false e in
    record {
      taken = shown.taken;
      name = verb_word verb;
      rows = shown.rows;
      command = shown.command;
      wrong = λ numbered. true≢false (sym (in_range shown.rows numbered) ∙ shown.seen);
    }

misseals : {words : List Text} (verb : Verb) → told is_digested words ≡ ([], Some (verb_word verb, false)) → IsMissealed words
misseals {words} verb e =
    let shown = shows is_digested words (verb_word verb) false e in
    record {
      taken = shown.taken;
      name = verb_word verb;
      rows = shown.rows;
      command = shown.command;
      wrong = λ have. true≢false (sym (digested shown.rows have) ∙ shown.seen);
    }

-- the lines that are commands say what the examples state
pub taken_lines : TakenLines
unfolding clap_on_literals hex_on_literals faults_in command_in told
taken_lines = record {
  check_one = reads refl;
  check_two = reads refl;
  check_strict = reads refl;
  check_attributes = reads refl;
  check_whole = reads refl;
  check_as_mounted = reads refl;
  list_one = reads refl;
  list_strict = reads refl;
  list_attributes = reads refl;
  list_whole = reads refl;
  list_as_mounted = reads refl;
  serve_one = reads refl;
  serve_device = reads refl;
  most_readers = reads refl;
  serve_layers = reads refl;
  all_options = reads refl;
  largest_owner = reads refl;
  attached = reads refl;
  least_numbers = reads refl;
  most_numbers = reads refl;
  leading_zeros = reads refl;
  options_last = reads refl;
  option_between = reads refl;
  after_dashes = reads refl;
  short_digest = reads refl;
  long_digest = reads refl;
  digests_in_order = reads refl;
  no_digests = reads refl;
  image_like_a_verb = reads refl;
  socket_one = reads refl;
  socket_options = reads refl;
  most_sessions = reads refl;
}

-- the lines that are none are refused for what the examples state
pub refused_lines : RefusedLines
unfolding clap_on_literals faults_in command_in told
refused_lines = record {
  no_words = refl;
  asks_version = refl;
  asks_version_in_short = refl;
  asks_version_of_serve = refl;
  asks_help = refl;
  asks_help_on_serve = refl;
  another_command = refl;
  no_image = refl;
  no_image_to_check = refl;
  no_image_to_list = refl;
  another_option = refl;
  workers_of_check = refl;
  balances_of_list = refl;
  option_twice = refl;
  number_twice = refl;
  flag_twice = refl;
  whole_twice = refl;
  flag_with_value = refl;
  whole_with_value = refl;
  option_without_file = refl;
  device_of_check = refl;
  lasting_list = refl;
  in_files_of_check = refl;
  serve_as_mounted = refl;
  socket_as_mounted = refl;
  requests_and_device = crosses verbs.Serve refl;
  replies_and_device = crosses verbs.Serve refl;
  balances_and_device = crosses verbs.Serve refl;
  no_socket = refl;
  no_image_at_socket = refl;
  requests_of_socket = refl;
  device_of_socket = refl;
  readers_of_socket = refl;
  sessions_of_serve = refl;
  listen_of_list = refl;
  owner_of_check = refl;
  owner_of_list = refl;
  minus_apart = refl;
}

-- the lines with a number out of its range are refused for it
pub misnumbered_lines : MisnumberedLines
unfolding clap_on_literals faults_in command_in told
misnumbered_lines = record {
  no_workers = misnumbers verbs.Serve refl;
  many_workers = misnumbers verbs.Serve refl;
  no_batch = misnumbers verbs.Serve refl;
  large_batch = misnumbers verbs.Serve refl;
  no_readers = misnumbers verbs.Serve refl;
  many_readers = misnumbers verbs.Serve refl;
  no_sessions = misnumbers verbs.Socket refl;
  many_sessions = misnumbers verbs.Socket refl;
  plus = misnumbers verbs.Serve refl;
  minus = misnumbers verbs.Serve refl;
  no_digits = misnumbers verbs.Serve refl;
  another_digit = misnumbers verbs.Serve refl;
  fraction = misnumbers verbs.Serve refl;
  past_32_bits = misnumbers verbs.Serve refl;
  past_64_bits = misnumbers verbs.Serve refl;
  user_alone = misnumbers verbs.Serve refl;
  no_user = misnumbers verbs.Serve refl;
  no_group = misnumbers verbs.Serve refl;
  three_ids = misnumbers verbs.Serve refl;
  named_owner = misnumbers verbs.Serve refl;
  plus_owner = misnumbers verbs.Serve refl;
  large_user = misnumbers verbs.Serve refl;
  large_group = misnumbers verbs.Socket refl;
}

-- the lines with a digest that is none, or with more or fewer than images, are refused for it
pub missealed_lines : MissealedLines
unfolding clap_on_literals hex_on_literals faults_in command_in told
missealed_lines = record {
  one_for_two = misseals verbs.Check refl;
  two_for_one = misseals verbs.List refl;
  no_algorithm = misseals verbs.Check refl;
  another_algorithm = misseals verbs.Check refl;
  digit_too_few = misseals verbs.Check refl;
  byte_too_few = misseals verbs.Check refl;
  byte_too_many = misseals verbs.Check refl;
  short_for_long = misseals verbs.Serve refl;
  no_hex_digit = misseals verbs.Serve refl;
  upper_name = misseals verbs.Serve refl;
  no_text = misseals verbs.Serve refl;
}
