-- The command line: the program for `clap`, and the meaning of the arguments after its name.
use Rattle.std.specs.Prelude.{◌≡◌, ◌≢◌, ◌⊎◌, ℕ, Bool, true, false, List, [], ◌∷◌, ◌++◌, codes, is_some, ◌&&◌, ◌||◌}
use Rattle.std.specs.Prelude.{Option, Some, IfSome, MatchOption, option_map, unwrap_or}
use Rattle.std.specs.Prelude.{Result, IfOk, ◌≤◌, length, vec_len}
use Rattle.std.specs.Int.{IsInRange}
use Rattle.std.specs.List.{All, find, list_any}
use Rattle.std.specs.Option.{option_map_or}
use Rattle.std.specs.Str.{bytes_eq}
use Rattle.std.specs.Str.Parse.{IsNumeral, digits_value}
use Rattle.draw_board.specs.declared.limits.TheConstants.{MAX_BATCH, MAX_WORKERS}
use Rattle.strata_words.specs.declared.options.TheConstants.{MAX_READERS, MAX_SESSIONS}
use Rattle.clap.specs.Lexer.{usize_max}
use Rattle.clap.specs.Values.{bool_text}
use Rattle.clap.specs.Walk.{Row, Rule, Text, all_of, first_of, one_of, texts}
use Rattle.clap.specs.Simple.{App, app_of, new_app, new_rule, on_top, subcommand_of, with_subcommand}
use Rattle.clap.specs.Takes.{is_given}
use Rattle.clap.specs.Kinds.{IsAmong, Kinds}
use Rattle.clap.specs.Words.{found_of, rows_of}
use Rattle.clap.specs.Faults.{fault_of}
use Rattle.clap.specs.declared.builder.action.ArgAction.TheVariants.{Append, SetTrue}
use Rattle.clap.specs.declared.builder.command.Command.{Command}
use Rattle.clap.specs.declared.error.kind.ErrorKind.{ErrorKind}
use Rattle.clap.specs.declared.error.kind.ErrorKind.TheVariants as kinds
use Rattle.clap.specs.declared.parser.matches.ArgMatches.{ArgMatches}
use Rattle.strata_words.specs.declared.commands.Form.TheVariants as forms
use Rattle.strata_words.specs.declared.commands.Argument.{Argument}
use Rattle.strata_words.specs.declared.options.Line.{Line}
use Rattle.strata_words.specs.declared.options.LineFault.{LineFault}
use Rattle.strata_words.specs.declared.options.LineFault.TheVariants.{Usage, Memory}
use Rattle.strata_words.specs.declared.options.NoLine.{NoLine}
use Rattle.strata_words.specs.declared.options.NoLine.TheVariants.{Version, Fault}
use Rattle.strata_words.specs.declared.options.Verb.{Verb}
use Rattle.strata_words.specs.declared.options.Verb.TheVariants as verbs
use Rattle.strata_words.specs.Digests.{AreDigests, digests_for}
use Rattle.strata_words.specs.Owners.{IsOwner, owner_or_root}
use Rattle.romfs_seal.specs.declared.digest.Digest.{Digest}
use Rattle.stack_model.specs.declared.owner.Owner.{Owner}

-- ---- the program

-- an option with one value, such as `--workers N` or `--requests FILE`
abbrev pub value_option : Text → Rule
value_option name = record (new_rule name) { long = Some name; value_names = 1 }

-- one that is required, such as `--listen PATH`
abbrev pub wanted_option : Text → Rule
wanted_option name = record (value_option name) { required = true }

-- one that may be repeated, such as `--digest DIGEST`
abbrev pub repeated_option : Text → Rule
repeated_option name = record (value_option name) { action = Some Append }

-- an option without a value, such as `--strict`
abbrev pub flag : Text → Rule
flag name = record (new_rule name) { long = Some name; action = Some SetTrue }

-- arguments with this name, one or more
abbrev pub words : Text → Rule
words name = record (new_rule name) {
  value_names = 1;
  required = true;
  range = Some (record { start_inclusive = 1; end_inclusive = usize_max });
  action = Some Append;
}

-- an argument of a command, in the form of `clap`
abbrev pub rule_for : Argument → Rule
rule_for argument = elim argument.form [
  | forms.Flag ↦ flag argument.name.now
  | forms.Value value ↦ value_option argument.name.now
  | forms.WantedValue value ↦ wanted_option argument.name.now
  | forms.Values value ↦ repeated_option argument.name.now
  | forms.Words value ↦ words argument.name.now
]

-- the command with this name, and these options and arguments
abbrev pub command_with : Text → List Rule → App
command_with name rules = on_top (λ s. record s { rules = rules }) (new_app name)

-- how requests are divided among workers
abbrev pub plan_options : List Rule
plan_options = value_option (codes "workers") ∷ value_option (codes "batch") ∷ []

-- the images, and how they are read
abbrev pub images : List Rule
images = flag (codes "strict") ∷ flag (codes "attributes") ∷ flag (codes "whole")
    ∷ repeated_option (codes "digest") ∷ words (codes "image") ∷ []

-- the served images, what the client learns about them, the owner of their files, and whether they
-- stay in their files
abbrev pub served_images : List Rule
served_images = flag (codes "lasting") ∷ value_option (codes "owner") ∷ flag (codes "in-files")
    ∷ images

-- the command `serve`
abbrev pub serve_command : App
serve_command = command_with (codes "serve") (plan_options ++ (
    value_option (codes "requests") ∷ value_option (codes "replies")
    ∷ value_option (codes "balances") ∷ flag (codes "device")
    ∷ value_option (codes "readers") ∷ served_images))

-- the command `socket`
abbrev pub socket_command : App
socket_command = command_with (codes "socket") (plan_options ++ (
    wanted_option (codes "listen") ∷ value_option (codes "sessions") ∷ served_images))

-- a command over images, such as `check` and `list`: it can accept them as a mount does
abbrev pub images_command : Text → App
images_command name = command_with name (flag (codes "as-mounted") ∷ images)

-- the command that was made, if there was memory for it, is this one
abbrev pub IsApp : {E : Type 0} → Result Command E → App → Type 0
IsApp made app = IfOk made (λ command. app_of command ≡ app)

-- the program's name, which is no argument; it needs a command, or prints its help or version
abbrev pub top_command : App
top_command = on_top
    (λ s. record s {
      no_binary_name = true;
      has_version = true;
      disable_help_subcommand = true;
      subcommand_required = true;
    })
    (new_app (codes "strata"))

-- the program, with its four commands
abbrev pub program : App
program = with_subcommand (with_subcommand (with_subcommand
    (with_subcommand top_command serve_command.top) socket_command.top)
    (images_command (codes "check")).top) (images_command (codes "list")).top

-- what is wrong with the arguments, by the kinds of `clap`
unfoldable pub faults_in : List Text → Kinds
faults_in words = fault_of program words

-- the name of the command in the arguments, and the rows of values that they give it
unfoldable pub command_in : List Text → Option (Text × List Row)
command_in words = subcommand_of program words

-- the arguments are a command of the program
abbrev pub IsTaken : List Text → Type 0
IsTaken words = faults_in words ≡ []

-- the arguments are refused for this: `clap` may return it
abbrev pub IsRefusedFor : ErrorKind → List Text → Type 0
IsRefusedFor why words = IsAmong why (faults_in words)

-- the arguments ask for the version
abbrev pub AsksVersion : List Text → Type 0
AsksVersion = IsRefusedFor kinds.DisplayVersion

-- the arguments are no command of the program, and refused for another reason than to print the
-- version
pub record IsRefused (words : List Text) : Type 0 where
  pub why : ErrorKind
  pub refused : IsRefusedFor why words
  pub other : why ≢ kinds.DisplayVersion

-- ---- numbers

-- the text is a decimal number from 1 to `most`, only digits
abbrev pub IsNumberTo : ℕ → Text → Type 0
IsNumberTo most text = IsNumeral 10 text × IsInRange 1 most (digits_value 10 text)

-- the number in a text, or the default without a text
abbrev pub number_or : ℕ → Option Text → ℕ
number_or default text = option_map_or (digits_value 10) text default

-- the number of an option: the given one, from 1 to `most`, or otherwise the default
pub record IsNumberOf (most default : ℕ) (given : Option Text) (number : ℕ) : Type 0 where
  pub numbered : IfSome given (IsNumberTo most)
  pub value : number ≡ number_or default given

-- an option with a number from 1 to `most`, and its default
pub record Number : Type 0 where
  pub name : Text
  pub most : ℕ
  pub default : ℕ

-- those of the program
abbrev pub numbers : List Number
numbers = record { name = codes "workers"; most = MAX_WORKERS; default = 4 }
    ∷ record { name = codes "batch"; most = MAX_BATCH; default = 16 }
    ∷ record { name = codes "readers"; most = MAX_READERS; default = 1 }
    ∷ record { name = codes "sessions"; most = MAX_SESSIONS; default = 1 } ∷ []

-- the one with this name
abbrev pub number_named : Text → Option Number
number_named name = find (λ number. bytes_eq number.name name) numbers

-- the option with this name has a number from 1 to `most`, or otherwise the default
abbrev pub IsNumberNamed : Text → ℕ → ℕ → Type 0
IsNumberNamed name most default =
    number_named name ≡ Some (record { name = name; most = most; default = default })

-- the numbers in the rows of a command are in their ranges, those of an owner too
pub record HaveNumbersInRange (rows : List Row) : Type 0 where
  pub each : All (λ number. IfSome (first_of number.name rows) (IsNumberTo number.most)) numbers
  pub owner : IfSome (first_of (codes "owner") rows) IsOwner

-- ---- images and their digests

-- the images in the rows of a command
abbrev pub images_in : List Row → List Text
images_in rows = unwrap_or (all_of (codes "image") rows) []

-- the digests in the rows are one for each image, or none at all
abbrev pub HaveDigests : List Row → Type 0
HaveDigests rows = AreDigests (length (images_in rows)) (all_of (codes "digest") rows)

-- ---- lines

-- the word for a verb
abbrev pub verb_word : Verb → Text
verb_word verbs.Serve = codes "serve"
verb_word verbs.Socket = codes "socket"
verb_word verbs.Check = codes "check"
verb_word verbs.List = codes "list"

-- the rows that were found
abbrev pub rows_in : ArgMatches → List Row
rows_in found = rows_of (found_of found)

-- what a line says, its files as text
pub record LineParts : Type 0 where
  pub verb : Verb
  pub strict : Bool
  pub attributes : Bool
  pub as_mounted : Bool
  pub whole : Bool
  pub in_files : Bool
  pub device : Bool
  pub readers : ℕ
  pub lasting : Bool
  pub workers : ℕ
  pub batch : ℕ
  pub requests : Option Text
  pub replies : Option Text
  pub balances : Option Text
  pub listen : Option Text
  pub sessions : ℕ
  pub owner : Owner
  pub images : List Text
  pub digests : List (Option Digest)

-- the number with this name in the rows of a command, or otherwise its default
abbrev pub number_in : Text → List Row → ℕ
number_in name rows =
    number_or (option_map_or (λ number. number.default) (number_named name) 0) (first_of name rows)

-- the content of the rows of a command: whether each flag is given, the first value of each option
-- or otherwise its default, and all images in order
abbrev pub parts_of : Verb → List Row → LineParts
parts_of verb rows = record {
  verb = verb;
  strict = is_given (codes "strict") rows;
  attributes = is_given (codes "attributes") rows;
  as_mounted = is_given (codes "as-mounted") rows;
  whole = is_given (codes "whole") rows;
  in_files = is_given (codes "in-files") rows;
  device = is_given (codes "device") rows;
  readers = number_in (codes "readers") rows;
  lasting = is_given (codes "lasting") rows;
  workers = number_in (codes "workers") rows;
  batch = number_in (codes "batch") rows;
  requests = first_of (codes "requests") rows;
  replies = first_of (codes "replies") rows;
  balances = first_of (codes "balances") rows;
  listen = first_of (codes "listen") rows;
  sessions = number_in (codes "sessions") rows;
  owner = owner_or_root (first_of (codes "owner") rows);
  images = images_in rows;
  digests = digests_for (length (images_in rows)) (all_of (codes "digest") rows);
}

-- what a line says
abbrev pub parts_in : Line → LineParts
parts_in line = record {
  verb = line.verb;
  strict = line.strict;
  attributes = line.attributes;
  as_mounted = line.as_mounted;
  whole = line.whole;
  in_files = line.in_files;
  device = line.device;
  readers = line.readers;
  lasting = line.lasting;
  workers = line.workers;
  batch = line.batch;
  requests = option_map (λ file. file.now) line.requests;
  replies = option_map (λ file. file.now) line.replies;
  balances = option_map (λ file. file.now) line.balances;
  listen = option_map (λ path. path.now) line.listen;
  sessions = line.sessions;
  owner = line.owner;
  images = texts line.images.items;
  digests = line.digests.items;
}

-- the line says this
abbrev pub Says : Line → LineParts → Type 0
Says line parts = parts_in line ≡ parts

-- a line has the device, and names a file instead of one of its ends or for the balances
abbrev pub names_both : Line → Bool
names_both line =
    line.device && (is_some line.requests || (is_some line.replies || is_some line.balances))

-- the same for the rows of a command
abbrev pub names_both_of : List Row → Bool
names_both_of rows = is_given (codes "device") rows
    && (is_some (first_of (codes "requests") rows) || (is_some (first_of (codes "replies") rows)
    || is_some (first_of (codes "balances") rows)))

-- the rows name a file beside the device
abbrev pub AreCrossed : List Row → Type 0
AreCrossed rows = names_both_of rows ≡ true

-- the line has what the rows of a command give; their numbers are in range, there is a digest for
-- each image or none at all, and no file is named beside the device
pub record HoldsRows (rows : List Row) (line : Line) : Type 0 where
  pub numbered : HaveNumbersInRange rows
  pub digested : HaveDigests rows
  pub apart : ¬ AreCrossed rows
  pub says : Says line (parts_of line.verb rows)

-- the arguments are a command of the program, and the line says the same
pub record IsLineOf (words : List Text) (line : Line) : Type 0 where
  pub taken : IsTaken words
  pub rows : List Row
  pub command : command_in words ≡ Some (verb_word line.verb, rows)
  pub holds : HoldsRows rows line

-- the numbers of a line are in their ranges, and each of its images has a digest, or none
pub record IsInLimits (line : Line) : Type 0 where
  pub workers : IsInRange 1 MAX_WORKERS line.workers
  pub batch : IsInRange 1 MAX_BATCH line.batch
  pub readers : IsInRange 1 MAX_READERS line.readers
  pub sessions : IsInRange 1 MAX_SESSIONS line.sessions
  pub digests : vec_len line.digests ≡ vec_len line.images

-- a line of the command `socket` has the path of the socket
abbrev pub NamesSocket : Line → Type 0
NamesSocket line = line.verb ≡ verbs.Socket → is_some line.listen ≡ true

-- the rows of the command `socket` have it
abbrev pub GivesSocket : Verb → List Row → Type 0
GivesSocket verb rows = verb ≡ verbs.Socket → is_some (first_of (codes "listen") rows) ≡ true

-- a line of a command with this verb, which says what its rows give
pub record IsReadFrom (verb : Verb) (rows : List Row) (line : Line) : Type 0 where
  pub same : line.verb ≡ verb
  pub holds : HoldsRows rows line
  pub limits : IsInLimits line
  pub some_image : 1 ≤ vec_len line.images
  pub socket : NamesSocket line

-- the arguments are a command of the program, except for a malformed number, or one out of range
pub record IsMisnumbered (words : List Text) : Type 0 where
  pub taken : IsTaken words
  pub name : Text
  pub rows : List Row
  pub command : command_in words ≡ Some (name, rows)
  pub wrong : ¬ HaveNumbersInRange rows

-- the arguments are a command of the program, but name a file beside the device
pub record IsCrossed (words : List Text) : Type 0 where
  pub taken : IsTaken words
  pub name : Text
  pub rows : List Row
  pub command : command_in words ≡ Some (name, rows)
  pub crossed : AreCrossed rows

-- the arguments are a command of the program, except for a malformed digest, or for more or fewer
-- digests than images
pub record IsMissealed (words : List Text) : Type 0 where
  pub taken : IsTaken words
  pub name : Text
  pub rows : List Row
  pub command : command_in words ≡ Some (name, rows)
  pub wrong : ¬ HaveDigests rows

-- the arguments are no command of the program, or misnumbered or missealed, or name a file beside
-- the device, or memory ran out
abbrev pub IsLineFault : List Text → LineFault → Type 0
IsLineFault words (Usage text) =
    IsRefused words ⊎ (IsMisnumbered words ⊎ (IsCrossed words ⊎ IsMissealed words))
IsLineFault words Memory = Unit {0}

-- the arguments ask for the version, or have a fault
abbrev pub IsNoLine : List Text → NoLine → Type 0
IsNoLine words Version = AsksVersion words
IsNoLine words (Fault fault) = IsLineFault words fault

-- an error of `clap` of this kind becomes this
abbrev pub TellsKind : ErrorKind → NoLine → Type 0
TellsKind why Version = why ≡ kinds.DisplayVersion
TellsKind why (Fault Memory) = Unit {0}
TellsKind why (Fault (Usage text)) = (why ≢ kinds.OutOfMemory) × (why ≢ kinds.DisplayVersion)

-- the flag with this name reads as whether it is given
abbrev pub IsFlagFilled : Text → List Row → Type 0
IsFlagFilled id rows = MatchOption (one_of id rows) (is_given id rows ≡ false)
    (λ text. text ≡ bool_text (is_given id rows))

-- the flags of the program
abbrev pub flags : List Text
flags = codes "strict" ∷ codes "attributes" ∷ codes "as-mounted" ∷ codes "whole"
    ∷ codes "in-files" ∷ codes "device" ∷ codes "lasting" ∷ []

-- the option with this name is one of them
abbrev pub is_flag : Text → Bool
is_flag id = list_any (bytes_eq id) flags

-- the rows of a command have an image, and the flags read as whether they are given
pub record IsFilled (rows : List Row) : Type 0 where
  pub first : Text
  pub rest : List Text
  pub images : all_of (codes "image") rows ≡ Some (first ∷ rest)
  pub flags : (id : Text) → is_flag id ≡ true → IsFlagFilled id rows
