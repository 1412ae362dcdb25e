-- What parsing with the program says about the words. It leads from the matches to the rows of the command, from these to the numbers and
-- names of a line, and ends with `line_is` and `fault_is`: what the code returns is the line of the words, or one of their faults.
use Rattle.std.specs.Borrow.{Bor}
use Rattle.std.specs.Prelude.{Box}
use Rattle.std.specs.Box.{box_value}
use Rattle.std.specs.List.{All, find}
use Rattle.std.specs.Str.{bytes_eq}
use Rattle.std.proofs.lemmas.List.{length-map}
use Rattle.std.proofs.lemmas.List.Elements.{All-head, All-tail}
use Rattle.std.proofs.Common.{◌≡◌, ◌≤◌, ◌∙◌, ◌⊎◌, ◌∷◌, ℕ, Bool, arith, cond, codes, is_some, length, option_map, unwrap_or, Option, Some, None, Result, Ok, Err, IfOk, IfErr, OnOk, IfSome, MatchOption, replicate, true, false, true≢false, refl, sym, ap, ap₂, subst, List, [], inl, inr}
use Rattle.clap.specs.Kinds.{HasKind, IsAmong, Kinds}
use Rattle.clap.specs.Faults.{fault_of, is_simple_and_free}
use Rattle.clap.specs.Simple.{App, HasMatchesOf, is_simple, subcommand_of, subcommand_rows, subcommand_rows_of}
use Rattle.clap.specs.Takes.{is_given}
use Rattle.clap.specs.declared.parser.matches.ArgMatches.TheViews.{out-ArgMatches, out-SubCommand}
use Rattle.clap.specs.declared.parser.matches.Found.{Found}
use Rattle.clap.specs.declared.parser.matches.SubCommand.{SubCommand}
use Rattle.clap.proofs.CallerLemmas.{some_of_text}
use Rattle.clap.proofs.TakesLemmas.{some_rows}
use Rattle.clap.proofs.WalkLemmas.{one_text-rows, raw_values-rows}
use Rattle.clap.specs.Values.{bool_text, kind_of}
use Rattle.clap.specs.Matches.{found_of, has_subcommand, matched_of, one_text, raw_values, subcommand_name_of}
use Rattle.clap.specs.Walk.{Row, Text, all_of, first_of, one_of, rows_of, texts}
use Rattle.clap.specs.declared.error.Error.{Error}
use Rattle.clap.specs.declared.error.kind.ErrorKind.{ErrorKind}
use Rattle.clap.specs.declared.error.kind.ErrorKind.TheVariants.{DisplayVersion, OutOfMemory}
use Rattle.clap.specs.declared.parser.matches.ArgMatches.{ArgMatches}
use Rattle.strata_words.specs.declared.options.Line.{Line}
use Rattle.strata_words.specs.declared.options.LineFault.{LineFault}
use Rattle.strata_words.specs.declared.options.LineFault.TheVariants.{Usage, Memory}
use Rattle.strata_words.specs.declared.options.NoLine.{NoLine}
use Rattle.strata_words.specs.declared.options.NoLine.TheVariants.{Version, Fault}
use Rattle.strata_words.specs.declared.options.Verb.{Verb}
use Rattle.strata_words.specs.declared.options.Verb.TheVariants as verbs
use Rattle.strata_words.proofs.Agreed.{one_name, one_word, same_rows}
use Rattle.strata_words.proofs.Taken.{taken_names}
use Rattle.strata_words.specs.CommandLine.{AreCrossed, GivesSocket, HoldsRows, IsFilled, IsFlagFilled, LineParts, Says, names_both, names_both_of, parts_of, IsLineOf, IsLineFault, IsNoLine, IsRefusedFor, TellsKind, IsNumberNamed, IsNumberTo, HaveDigests, HaveNumbersInRange, images_in, Number, numbers, IsTaken, command_in, faults_in, program, verb_word}
use Rattle.romfs_seal.specs.declared.digest.Digest.{Digest}
use Rattle.strata_words.specs.Digests.{AreDigests, AreNamed, digests_for, digests_named}
use Rattle.strata_words.specs.Owners.{IsOwner}

program_is_simple : is_simple program ≡ true
program_is_simple = refl

program_is_free : is_simple_and_free program ≡ true
program_is_free = refl

-- if it gives matches, the words are a command of the program
pub parsed_taken : (a : App) (words : List Text) → a ≡ program → (is_simple_and_free a ≡ true → fault_of a words ≡ []) → IsTaken words
unfolding faults_in
parsed_taken a words is kinds = ap (λ x. fault_of x words) (sym is) ∙ kinds (ap is_simple_and_free is ∙ program_is_free)

-- and they have the command that the words name
pub parsed_command : (a : App) (words : List Text) (m : ArgMatches) → a ≡ program → HasMatchesOf a words m → subcommand_rows_of m
    ≡ command_in words
unfolding command_in
parsed_command a words m is matches = (matches (ap is_simple is ∙ program_is_simple)).1 ∙ ap (λ x. subcommand_of x words) is

-- an error has a kind that the words are refused for, or memory ran out
parsed_kind : (a : App) (words : List Text) (error : Error) → a ≡ program → (is_simple_and_free a ≡ true → HasKind (fault_of a words) error)
    → (kind_of error ≡ OutOfMemory) ⊎ IsRefusedFor (kind_of error) words
unfolding faults_in
parsed_kind a words error is kinds = elim (kinds (ap is_simple_and_free is ∙ program_is_free)) [
  | inl memory ↦ inl memory
  | inr among ↦
      let P : Kinds → Type 0 = λ kinds. IsAmong (kind_of error) kinds in
      inr (subst P (ap (λ x. fault_of x words) is) among)
]

-- if it gives an error, the arguments are refused for its kind, or ask for the version
pub parsed_fault : (a : App) (words : List Text) (error : Error) (told : NoLine) → a ≡ program
    → (is_simple_and_free a ≡ true → HasKind (fault_of a words) error)
    → TellsKind (kind_of error) told → IsNoLine words told
unfolding faults_in
parsed_fault a words error (Fault Memory) is kinds tells = tt
parsed_fault a words error Version is kinds tells =
    let P : ErrorKind → Type 0 = λ why. IsRefusedFor why words in
    elim (parsed_kind a words error is kinds) [
      | inl memory ↦ let bad : DisplayVersion ≡ OutOfMemory = sym tells ∙ memory in absurd (cc)
      | inr among ↦ subst P tells among
    ]
parsed_fault a words error (Fault (Usage text)) is kinds tells = elim (parsed_kind a words error is kinds) [
  | inl memory ↦ absurd (tells.0 memory)
  | inr among ↦ inl (record { why = kind_of error; refused = among; other = tells.1 })
]

-- ---- what the matches give

-- if the rows are filled, the matches hold images
pub some_images : (f : Found) (o : Option (Bor (List (Bor Text)))) → option_map (λ s. texts s.now) o ≡ option_map raw_values
    (matched_of f (codes "image"))
    → IsFilled (rows_of f) → is_some o ≡ true
some_images f o are filled = some_of_text (λ s. texts s.now) o _ (are ∙ (raw_values-rows f (codes "image") ∙ filled.images)) refl

-- the images that the matches hold are those of the rows
pub images_are : (f : Found) (o : Option (Bor (List (Bor Text)))) (s : Bor (List (Bor Text)))
    → option_map (λ s. texts s.now) o ≡ option_map raw_values (matched_of f (codes "image")) → o ≡ Some s
    → Some (texts s.now) ≡ all_of (codes "image") (rows_of f)
images_are f o s are is = ap (option_map (λ s. texts s.now)) (sym is) ∙ (are ∙ raw_values-rows f (codes "image"))

-- the images of filled rows are one or more
pub one_or_more : (rows : List Row) (images : List (Bor Text)) → IsFilled rows → Some (texts images) ≡ all_of (codes "image") rows
    → 1 ≤ length images
one_or_more rows images filled are =
    let same : texts images ≡ filled.first ∷ filled.rest = ap (λ o. unwrap_or o []) (are ∙ filled.images) in
    omega (arith, length-map {A = Bor Text} images (λ s. s.now), ap length same)

-- a flag, by what it reads
pub flag_is : (f : Found) (id : Text) (flag : Bool) → IsFlagFilled id (rows_of f) → (one_text f id ≡ None → flag ≡ false)
    → (one_text f id ≡ Some (codes "true") → flag ≡ true) → (one_text f id ≡ Some (codes "false") → flag ≡ false)
    → flag ≡ is_given id (rows_of f)
flag_is f id flag filled absent is_true is_false =
    go (one_of id (rows_of f)) (is_given id (rows_of f)) (one_text-rows f id) filled
  where
    go : (o : Option Text) (given : Bool) → one_text f id ≡ o → MatchOption o (given ≡ false) (λ t. t ≡ bool_text given) → flag ≡ given
    go None given is reads = absent is ∙ sym reads
    go (Some t) true is reads = is_true (is ∙ ap Some reads)
    go (Some t) false is reads = is_false (is ∙ ap Some reads)

-- ---- the command

module _ {Z : Type 0} where
  name_in_rows : (sub : Option (Box SubCommand Z)) → option_map (λ b. (out-SubCommand (box_value b)).name.now) sub ≡ option_map (λ p. p.0)
      (subcommand_rows sub)
  name_in_rows None = refl
  name_in_rows (Some b) = refl

both_parts : (o : Option (Text × List Row)) (name : Text) (rows : List Row)
    → Some name ≡ option_map (λ p. p.0) o → Some rows ≡ option_map (λ p. p.1) o → o ≡ Some (name, rows)
both_parts None name rows e f = cc
both_parts (Some p) name rows e f = ap₂ (λ n r. Some (n, r)) (ap (λ o. unwrap_or o name) (sym e)) (ap (λ o. unwrap_or o rows) (sym f))

-- the command that was met, by its name and its rows
pub met_command : (m : ArgMatches) (words : List Text) (o : Option (Bor Text × Bor ArgMatches)) (p : Bor Text × Bor ArgMatches)
    → option_map (λ p. p.0.now) o ≡ subcommand_name_of m → option_map (λ p. rows_of (found_of p.1.now)) o ≡ option_map (λ p. p.1)
    (subcommand_rows_of m)
    → o ≡ Some p → subcommand_rows_of m ≡ command_in words → command_in words ≡ Some (p.0.now, rows_of (found_of p.1.now))
met_command m words o p name_is rows_are some is =
    let name = ap (option_map (λ (q : Bor Text × Bor ArgMatches). q.0.now)) (sym some) ∙ name_is
    ∙ name_in_rows (out-ArgMatches m).subcommand in
    let rows = ap (option_map (λ (q : Bor Text × Bor ArgMatches). rows_of (found_of q.1.now))) (sym some) ∙ rows_are in
    sym is ∙ both_parts (subcommand_rows_of m) p.0.now (rows_of (found_of p.1.now)) name rows

-- its rows are filled
pub command_filled : (words : List Text) (name : Text) (rows : List Row) → IsTaken words → command_in words ≡ Some (name, rows)
    → IsFilled rows
command_filled words name rows taken is =
    let names = taken_names words taken in
    let rows_are : names.rows ≡ rows = ap (λ o. unwrap_or (option_map (λ (p : Text × List Row). p.1) o) rows) (sym names.is ∙ is) in
    subst IsFilled rows_are names.filled

-- and give the path of a socket, if the command is to listen at one
pub command_gives : (words : List Text) (name : Text) (rows : List Row) (verb : Verb) → IsTaken words → command_in words ≡ Some (name, rows)
    → verb_word verb ≡ name → GivesSocket verb rows
command_gives words name rows verb taken is named =
    let names = taken_names words taken in
    let both : command_in words ≡ Some (verb_word names.verb, names.rows) = names.is in
    let verbs_are : names.verb ≡ verb = one_word names.verb verb (one_name (command_in words) _ _ names.rows rows both is ∙ sym named) in
    let rows_are : names.rows ≡ rows = same_rows (command_in words) _ _ names.rows rows both is in
    subst (λ v. GivesSocket v rows) verbs_are (subst (GivesSocket names.verb) rows_are names.gives)

-- and it is one of the four
pub command_verb : (words : List Text) (name : Text) (rows : List Row) → IsTaken words → command_in words ≡ Some (name, rows)
    → (name ≡ codes "serve") ⊎ (name ≡ codes "socket") ⊎ (name ≡ codes "check") ⊎ (name ≡ codes "list")
command_verb words name rows taken is =
    let names = taken_names words taken in
    go names.verb (ap (λ o. unwrap_or (option_map (λ (p : Text × List Row). p.0) o) name) (sym is ∙ names.is))
  where
    go : (verb : Verb) → name ≡ verb_word verb → (name ≡ codes "serve") ⊎ (name ≡ codes "socket") ⊎ (name ≡ codes "check")
        ⊎ (name ≡ codes "list")
    go verbs.Serve same = inl same
    go verbs.Socket same = inr (inl same)
    go verbs.Check same = inr (inr (inl same))
    go verbs.List same = inr (inr (inr same))

-- words that are a command have one among the matches
pub some_command : (m : ArgMatches) (words : List Text) → IsTaken words → subcommand_rows_of m ≡ command_in words → has_subcommand m ≡ true
some_command m words taken is =
    let names = taken_names words taken in
    some_rows (out-ArgMatches m).subcommand ∙ ap (λ o. is_some o) (is ∙ names.is)

-- ---- the line

-- the first of two, or otherwise what comes after it, passes
first_passes : (P : Number → Type 0) (m n : Number) (o : Option Number) (b : Bool) → P m → (o ≡ Some n → P n)
    → cond b (Some m) o ≡ Some n → P n
first_passes P m n o true here later is = subst P (ap (λ o. unwrap_or o m) is) here
first_passes P m n o false here later is = later is

-- what is found in a list that all passes passes
found_passes : (P : Number → Type 0) (test : Number → Bool) (ns : List Number) (n : Number) → All P ns → find test ns ≡ Some n → P n
found_passes P test [] n all is = absurd (cc)
found_passes P test (m ∷ ms) n all is =
    first_passes P m n (find test ms) (test m) (All-head P m ms all) (found_passes P test ms n (All-tail P m ms all)) is

-- a number that is none, or is out of its range, is a fault of the rows
pub number_fault : (rows : List Row) (name : Text) (most default : ℕ) → IsNumberNamed name most default
    → ¬ IfSome (first_of name rows) (IsNumberTo most) → ¬ HaveNumbersInRange rows
number_fault rows name most default named bad numbered =
    bad (found_passes (λ number. IfSome (first_of number.name rows) (IsNumberTo number.most)) (λ number. bytes_eq number.name name) numbers
    (record { name = name; most = most; default = default }) numbered.each named)

-- the digests that the matches hold are those of the rows
pub digests_are : (f : Found) (o : Option (Bor (List (Bor Text))))
    → option_map (λ s. texts s.now) o ≡ option_map raw_values (matched_of f (codes "digest"))
    → option_map (λ s. texts s.now) o ≡ all_of (codes "digest") (rows_of f)
digests_are f o are = are ∙ raw_values-rows f (codes "digest")

-- if none are given
pub none_given : (count : ℕ) (given : Option (List Text)) → given ≡ None
    → (replicate count None ≡ digests_for count given) × AreDigests count given
none_given count given is =
    (ap (λ o. digests_for count o) (sym is), subst (AreDigests count) (sym is) (record { named = tt; each = tt }))

-- if more or fewer are given than images
pub miscounted : (count : ℕ) (given : Option (List Text)) (texts : List Text) → given ≡ Some texts → (length texts ≡ count → ⊥)
    → ¬ AreDigests count given
miscounted count given texts is other are = other ((subst (AreDigests count) is are).each)

-- if as many are given as images, they are read
pub all_read : {X : Type 0} (items : X → List (Option Digest)) (count : ℕ) (given : Option (List Text)) (texts : List Text)
    (r : Result X LineFault) → given ≡ Some texts → length texts ≡ count
    → IfOk r (λ x. items x ≡ digests_named texts) → OnOk r (AreNamed texts)
    → IfErr r (λ fault. (fault ≡ Memory) ⊎ ¬ AreNamed texts)
    → (IfOk r (λ x. items x ≡ digests_for count given)) × (OnOk r (AreDigests count given))
    × IfErr r (λ fault. (fault ≡ Memory) ⊎ ¬ AreDigests count given)
all_read items count given texts (Ok x) is many ok named err =
    (ok ∙ ap (λ o. digests_for count o) (sym is), subst (AreDigests count) (sym is) (record { named = named; each = many }), tt)
all_read items count given texts (Err fault) is many ok named err =
    (tt, tt, elim err [ inl memory ↦ inl memory | inr wrong ↦ inr (λ are. wrong ((subst (AreDigests count) is are).named)) ])

-- digests that are none, or not one for each image, are a fault of the rows
pub digest_fault : (rows : List Row) (count : ℕ) (fault : LineFault) → count ≡ length (images_in rows)
    → (fault ≡ Memory) ⊎ ¬ AreDigests count (all_of (codes "digest") rows)
    → (fault ≡ Memory) ⊎ ((¬ HaveNumbersInRange rows) ⊎ (AreCrossed rows ⊎ ¬ HaveDigests rows))
digest_fault rows count fault many (inl memory) = inl memory
digest_fault rows count fault many (inr wrong) =
    inr (inr (inr (λ have. wrong (subst (λ n. AreDigests n (all_of (codes "digest") rows)) (sym many) have))))

-- an owner that is none is a fault of the rows
pub owner_fault : (rows : List Row) → ¬ IfSome (first_of (codes "owner") rows) IsOwner → ¬ HaveNumbersInRange rows
owner_fault rows bad numbered = bad numbered.owner

-- an option that is given, as the line has it
some_named : (o : Option (Bor Text)) (p : Option Text) → option_map (λ file. file.now) o ≡ p → is_some o ≡ is_some p
some_named None p e = ap (λ o. is_some o) e
some_named (Some file) p e = ap (λ o. is_some o) e

-- the line names the socket's path if the rows give one
pub names_socket : (verb : Verb) (rows : List Row) (listen : Option (Bor Text)) → GivesSocket verb rows
    → option_map (λ path. path.now) listen ≡ first_of (codes "listen") rows → verb ≡ verbs.Socket → is_some listen ≡ true
names_socket verb rows listen gives listen_is is = some_named listen (first_of (codes "listen") rows) listen_is ∙ gives is

-- the line names a file beside the device if the rows do
pub names_as : (rows : List Row) (line : Line) → Says line (parts_of line.verb rows) → names_both line ≡ names_both_of rows
names_as rows line says =
    let parts = parts_of line.verb rows in
    rw (
      ap (λ (p : LineParts). p.device) says,
      some_named line.requests parts.requests (ap (λ (p : LineParts). p.requests) says),
      some_named line.replies parts.replies (ap (λ (p : LineParts). p.replies) says),
      some_named line.balances parts.balances (ap (λ (p : LineParts). p.balances) says),
    ) refl

-- a line that says what the rows give, and names no file beside the device, holds them
pub held : (rows : List Row) (line : Line) → HaveNumbersInRange rows → HaveDigests rows → Says line (parts_of line.verb rows)
    → names_both line ≡ false → HoldsRows rows line
held rows line numbered digested says apart = record {
  numbered = numbered;
  digested = digested;
  apart = λ crossed. true≢false (sym crossed ∙ sym (names_as rows line says) ∙ apart);
  says = says;
}

-- and if it names one, the rows do
pub rows_crossed : (rows : List Row) (line : Line) → Says line (parts_of line.verb rows) → names_both line ≡ true → AreCrossed rows
rows_crossed rows line says both = sym (names_as rows line says) ∙ both

-- a line that holds the rows of a command is the line of the words
pub line_is : (words : List Text) (name : Text) (rows : List Row) (verb : Verb) (r : Result Line LineFault)
    → IsTaken words → command_in words ≡ Some (name, rows) → verb_word verb ≡ name
    → IfOk r (λ line. line.verb ≡ verb) → IfOk r (HoldsRows rows) → IfOk r (IsLineOf words)
line_is words name rows verb (Ok line) taken command named verb_is holds = record {
  taken = taken;
  rows = rows;
  command = command ∙ ap (λ n. Some (n, rows)) (sym (ap verb_word verb_is ∙ named));
  holds = holds;
}
line_is words name rows verb (Err fault) taken command named verb_is holds = tt

-- and a fault of its numbers is a fault of the words
pub fault_is : (words : List Text) (name : Text) (rows : List Row) (fault : LineFault) → IsTaken words
    → command_in words ≡ Some (name, rows)
    → (fault ≡ Memory) ⊎ ((¬ HaveNumbersInRange rows) ⊎ (AreCrossed rows ⊎ ¬ HaveDigests rows)) → IsLineFault words fault
fault_is words name rows Memory taken command told = tt
fault_is words name rows (Usage text) taken command told = elim told [
  | inl same ↦ cc
  | inr (inl wrong) ↦ inr (inl (record { taken = taken; name = name; rows = rows; command = command; wrong = wrong }))
  | inr (inr (inl crossed)) ↦ inr (inr (inl (record { taken = taken; name = name; rows = rows; command = command; crossed = crossed })))
  | inr (inr (inr wrong)) ↦ inr (inr (inr (record { taken = taken; name = name; rows = rows; command = command; wrong = wrong })))
]
