-- Worked examples: command lines, and what they mean or why they are refused.
use Rattle.std.specs.Prelude.{◌≡◌, ◌==◌, if◌then◌else◌, true, false, codes}
use Rattle.std.specs.Prelude.{List, [], ◌∷◌, ◌++◌, Some, None, map, replicate}
use Rattle.clap.specs.Walk.{Text}
use Rattle.clap.specs.declared.error.kind.ErrorKind.{ErrorKind}
use Rattle.clap.specs.declared.error.kind.ErrorKind.TheVariants as kind
use Rattle.strata_words.specs.declared.options.Line.{Line}
use Rattle.strata_words.specs.declared.options.Verb.{Verb}
use Rattle.strata_words.specs.declared.options.Verb.TheVariants as verbs
use Rattle.romfs_seal.specs.declared.digest.Digest.TheVariants.{Short, Long}
use Rattle.strata_words.specs.CommandLine.{IsCrossed, IsLineOf, IsMisnumbered, IsMissealed, IsTaken, LineParts, Says, faults_in}

-- the words of a text, cut at each blank, after the characters of the current word so far
abbrev pub cut : Text → Text → List Text
cut word [] = word ∷ []
cut word (c ∷ cs) = if c == 32 then word ∷ cut [] cs else cut (word ++ c ∷ []) cs

-- the words of a text, cut at each blank
abbrev pub words_of : Text → List Text
words_of = cut []

-- a line without options
abbrev pub plain : Verb → Text → LineParts
plain verb images = record {
  verb = verb;
  strict = false;
  attributes = false;
  as_mounted = false;
  whole = false;
  in_files = false;
  device = false;
  readers = 1;
  lasting = false;
  workers = 4;
  batch = 16;
  requests = None;
  replies = None;
  balances = None;
  listen = None;
  sessions = 1;
  owner = record { uid = 0; gid = 0 };
  images = words_of images;
  digests = map (λ _. None) (words_of images);
}

-- a line of the command `socket` with the path of a socket and no other option
abbrev pub at_socket : Text → Text → LineParts
at_socket path images = record (plain verbs.Socket images) { listen = Some path }

-- the words are a command with numbers in range, digests for all images or none, and no file beside
-- the device, and each line of them says this
pub record ReadsAs (text : Text) (parts : LineParts) : Type 0 where
  pub taken : IsTaken (words_of text)
  pub numbered : ¬ IsMisnumbered (words_of text)
  pub apart : ¬ IsCrossed (words_of text)
  pub sealed : ¬ IsMissealed (words_of text)
  pub says : (line : Line) → IsLineOf (words_of text) line → Says line parts

-- each option of `serve` except the device
abbrev pub every_option : Text
every_option =
    codes "serve --workers 2 --batch 3 --requests q --replies r --balances b --readers 6"
    ++ codes " --owner 7:8 --attributes --strict --whole --in-files --lasting f"

-- arguments that are a command, and their meaning
pub record TakenLines : Type 0 where
  pub check_one : ReadsAs (codes "check e.img") (plain verbs.Check (codes "e.img"))
  pub check_two : ReadsAs (codes "check b a") (plain verbs.Check (codes "b a"))
  pub check_strict : ReadsAs (codes "check --strict a")
      (record (plain verbs.Check (codes "a")) { strict = true })
  pub check_attributes : ReadsAs (codes "check --attributes a")
      (record (plain verbs.Check (codes "a")) { attributes = true })
  pub check_whole : ReadsAs (codes "check --whole a")
      (record (plain verbs.Check (codes "a")) { whole = true })
  pub check_as_mounted : ReadsAs (codes "check --as-mounted --strict a")
      (record (plain verbs.Check (codes "a")) { as_mounted = true; strict = true })
  pub list_one : ReadsAs (codes "list f.img") (plain verbs.List (codes "f.img"))
  pub list_strict : ReadsAs (codes "list a b --strict")
      (record (plain verbs.List (codes "a b")) { strict = true })
  pub list_attributes : ReadsAs (codes "list a b --attributes")
      (record (plain verbs.List (codes "a b")) { attributes = true })
  pub list_whole : ReadsAs (codes "list a --whole b")
      (record (plain verbs.List (codes "a b")) { whole = true })
  pub list_as_mounted : ReadsAs (codes "list a b --as-mounted")
      (record (plain verbs.List (codes "a b")) { as_mounted = true })
  pub serve_one : ReadsAs (codes "serve f.img") (plain verbs.Serve (codes "f.img"))
  pub serve_device : ReadsAs (codes "serve --device --workers 2 f")
      (record (plain verbs.Serve (codes "f")) { device = true; workers = 2 })
  pub most_readers : ReadsAs (codes "serve --device --readers 64 f")
      (record (plain verbs.Serve (codes "f")) { device = true; readers = 64 })
  pub serve_layers : ReadsAs (codes "serve --replies r f g e")
      (record (plain verbs.Serve (codes "f g e")) { replies = Some (codes "r") })
  pub all_options : ReadsAs every_option
      (record {
        verb = verbs.Serve;
        strict = true;
        attributes = true;
        as_mounted = false;
        whole = true;
        in_files = true;
        device = false;
        readers = 6;
        lasting = true;
        workers = 2;
        batch = 3;
        requests = Some (codes "q");
        replies = Some (codes "r");
        balances = Some (codes "b");
        listen = None;
        sessions = 1;
        owner = record { uid = 7; gid = 8 };
        images = codes "f" ∷ [];
        digests = None ∷ [];
      })
  pub socket_one : ReadsAs (codes "socket --listen s f") (at_socket (codes "s") (codes "f"))
  pub socket_options : ReadsAs
      (codes "socket --workers 2 --batch 3 --listen s --sessions 5 --lasting --strict"
      ++ codes " --owner 7:8 --attributes --whole --in-files f g")
      (record (at_socket (codes "s") (codes "f g")) {
        strict = true;
        attributes = true;
        whole = true;
        in_files = true;
        lasting = true;
        workers = 2;
        batch = 3;
        sessions = 5;
        owner = record { uid = 7; gid = 8 };
      })
  pub most_sessions : ReadsAs (codes "socket f --sessions 65535 --listen=s")
      (record (at_socket (codes "s") (codes "f")) { sessions = 65535 })
  pub largest_owner : ReadsAs (codes "serve --owner 4294967295:0004294967295 f")
      (record (plain verbs.Serve (codes "f")) {
        owner = record { uid = 4294967295; gid = 4294967295 };
      })
  pub attached : ReadsAs (codes "serve --workers=5 --requests=q f")
      (record (plain verbs.Serve (codes "f")) { workers = 5; requests = Some (codes "q") })
  pub least_numbers : ReadsAs (codes "serve --workers 1 --batch 1 f")
      (record (plain verbs.Serve (codes "f")) { workers = 1; batch = 1 })
  pub most_numbers : ReadsAs (codes "serve --workers 64 --batch 256 f")
      (record (plain verbs.Serve (codes "f")) { workers = 64; batch = 256 })
  pub leading_zeros : ReadsAs (codes "serve --workers 0008 --batch 00000000000000000000256 f")
      (record (plain verbs.Serve (codes "f")) { workers = 8; batch = 256 })
  pub options_last : ReadsAs (codes "serve f g --balances b")
      (record (plain verbs.Serve (codes "f g")) { balances = Some (codes "b") })
  pub option_between : ReadsAs (codes "serve f --batch 7 g")
      (record (plain verbs.Serve (codes "f g")) { batch = 7 })
  pub after_dashes : ReadsAs (codes "check -- --help --strict")
      (plain verbs.Check (codes "--help --strict"))
  pub short_digest : ReadsAs
      (codes "check --digest sha256:" ++ codes "0a" ++ replicate 62 48 ++ codes " f")
      (record (plain verbs.Check (codes "f")) {
        digests = Some (Short (10 ∷ replicate 31 0)) ∷ [];
      })
  pub long_digest : ReadsAs (codes "list f --digest=sha512:" ++ replicate 126 48 ++ codes "fF")
      (record (plain verbs.List (codes "f")) {
        digests = Some (Long (replicate 63 0 ++ 255 ∷ [])) ∷ [];
      })
  pub digests_in_order : ReadsAs
      (codes "serve --digest - f --digest sha256:" ++ replicate 64 49 ++ codes " g")
      (record (plain verbs.Serve (codes "f g")) {
        digests = None ∷ Some (Short (replicate 32 17)) ∷ [];
      })
  pub no_digests : ReadsAs (codes "socket --listen s --digest - --digest - f g")
      (at_socket (codes "s") (codes "f g"))
  pub image_like_a_verb : ReadsAs (codes "list check") (plain verbs.List (codes "check"))

-- the arguments are no command, for this reason alone
abbrev pub HasOneFault : Text → ErrorKind → Type 0
HasOneFault text why = faults_in (words_of text) ≡ why ∷ []

-- arguments that are no command, and why: `DisplayVersion` if they ask for the version; or
-- arguments of a command that names a file beside the device
pub record RefusedLines : Type 0 where
  pub no_words : faults_in [] ≡ kind.MissingSubcommand ∷ []
  pub asks_version : HasOneFault (codes "--version") kind.DisplayVersion
  pub asks_version_in_short : HasOneFault (codes "-V") kind.DisplayVersion
  pub asks_version_of_serve : HasOneFault (codes "serve --version") kind.UnknownArgument
  pub asks_help : HasOneFault (codes "--help") kind.DisplayHelp
  pub asks_help_on_serve : HasOneFault (codes "serve -h") kind.DisplayHelp
  pub another_command :
      faults_in (words_of (codes "fly")) ≡ kind.UnknownArgument ∷ kind.InvalidSubcommand ∷ []
  pub no_image : HasOneFault (codes "serve") kind.MissingRequiredArgument
  pub no_image_to_check : HasOneFault (codes "check --strict") kind.MissingRequiredArgument
  pub no_image_to_list : HasOneFault (codes "list") kind.MissingRequiredArgument
  pub another_option : HasOneFault (codes "serve --bogus a") kind.UnknownArgument
  pub workers_of_check : HasOneFault (codes "check --workers 4 a") kind.UnknownArgument
  pub balances_of_list : HasOneFault (codes "list --balances b a") kind.UnknownArgument
  pub option_twice : HasOneFault (codes "serve --requests=a --requests=b c") kind.ArgumentConflict
  pub number_twice : HasOneFault (codes "serve --workers 4 --workers 4 a") kind.ArgumentConflict
  pub flag_twice : HasOneFault (codes "check --strict --strict a") kind.ArgumentConflict
  pub whole_twice : HasOneFault (codes "list --whole a --whole") kind.ArgumentConflict
  pub flag_with_value : HasOneFault (codes "check --strict=true a") kind.TooManyValues
  pub whole_with_value : HasOneFault (codes "serve --whole=x a") kind.TooManyValues
  pub option_without_file : HasOneFault (codes "serve a --requests") kind.InvalidValue
  pub device_of_check : HasOneFault (codes "check --device a") kind.UnknownArgument
  pub lasting_list : HasOneFault (codes "list --lasting a") kind.UnknownArgument
  pub in_files_of_check : HasOneFault (codes "check --in-files a") kind.UnknownArgument
  pub serve_as_mounted : HasOneFault (codes "serve --as-mounted a") kind.UnknownArgument
  pub socket_as_mounted :
      HasOneFault (codes "socket --as-mounted --listen s a") kind.UnknownArgument
  pub requests_and_device : IsCrossed (words_of (codes "serve --requests q --device a"))
  pub replies_and_device : IsCrossed (words_of (codes "serve --device --replies r a"))
  pub balances_and_device : IsCrossed (words_of (codes "serve a --device --balances b"))
  pub no_socket : HasOneFault (codes "socket a") kind.MissingRequiredArgument
  pub no_image_at_socket : HasOneFault (codes "socket --listen s") kind.MissingRequiredArgument
  pub requests_of_socket :
      HasOneFault (codes "socket --requests q --listen s a") kind.UnknownArgument
  pub device_of_socket : HasOneFault (codes "socket --device --listen s a") kind.UnknownArgument
  pub readers_of_socket :
      HasOneFault (codes "socket --readers 2 --listen s a") kind.UnknownArgument
  pub sessions_of_serve : HasOneFault (codes "serve --sessions 2 a") kind.UnknownArgument
  pub listen_of_list : HasOneFault (codes "list --listen s a") kind.UnknownArgument
  pub owner_of_check : HasOneFault (codes "check --owner 1:1 a") kind.UnknownArgument
  pub owner_of_list : HasOneFault (codes "list --owner 1:1 a") kind.UnknownArgument
  pub minus_apart : HasOneFault (codes "serve --workers -4 a") kind.UnknownArgument

-- arguments that would be a command without a malformed number
pub record MisnumberedLines : Type 0 where
  pub no_workers : IsMisnumbered (words_of (codes "serve --workers 0 a"))
  pub many_workers : IsMisnumbered (words_of (codes "serve --workers 65 a"))
  pub no_batch : IsMisnumbered (words_of (codes "serve --batch 0 a"))
  pub large_batch : IsMisnumbered (words_of (codes "serve --batch 257 a"))
  pub no_readers : IsMisnumbered (words_of (codes "serve --device --readers 0 a"))
  pub many_readers : IsMisnumbered (words_of (codes "serve --device --readers 65 a"))
  pub no_sessions : IsMisnumbered (words_of (codes "socket --listen s --sessions 0 a"))
  pub many_sessions : IsMisnumbered (words_of (codes "socket --listen s --sessions 65536 a"))
  pub plus : IsMisnumbered (words_of (codes "serve --workers +4 a"))
  pub minus : IsMisnumbered (words_of (codes "serve --workers=-4 a"))
  pub no_digits : IsMisnumbered (words_of (codes "serve --batch= a"))
  pub another_digit : IsMisnumbered (words_of (codes "serve --batch 0x10 a"))
  pub fraction : IsMisnumbered (words_of (codes "serve --batch 16.0 a"))
  pub past_32_bits : IsMisnumbered (words_of (codes "serve --workers 4294967300 a"))
  pub past_64_bits : IsMisnumbered (words_of (codes "serve --batch 18446744073709551632 a"))
  pub user_alone : IsMisnumbered (words_of (codes "serve --owner 7 a"))
  pub no_user : IsMisnumbered (words_of (codes "serve --owner :7 a"))
  pub no_group : IsMisnumbered (words_of (codes "serve --owner 7: a"))
  pub three_ids : IsMisnumbered (words_of (codes "serve --owner 7:8:9 a"))
  pub named_owner : IsMisnumbered (words_of (codes "serve --owner root:root a"))
  pub plus_owner : IsMisnumbered (words_of (codes "serve --owner +7:8 a"))
  pub large_user : IsMisnumbered (words_of (codes "serve --owner 4294967296:0 a"))
  pub large_group : IsMisnumbered (words_of (codes "socket --listen s --owner 0:4294967296 a"))

-- arguments that would be a command without a malformed digest
pub record MissealedLines : Type 0 where
  pub one_for_two : IsMissealed (words_of (codes "check --digest - f g"))
  pub two_for_one : IsMissealed (words_of (codes "list --digest - --digest - f"))
  pub no_algorithm : IsMissealed (words_of (codes "check f --digest " ++ replicate 64 48))
  pub another_algorithm :
      IsMissealed (words_of (codes "check f --digest sha1:" ++ replicate 40 48))
  pub digit_too_few : IsMissealed (words_of (codes "check f --digest sha256:" ++ replicate 63 48))
  pub byte_too_few : IsMissealed (words_of (codes "check f --digest sha256:" ++ replicate 62 48))
  pub byte_too_many : IsMissealed (words_of (codes "check f --digest sha512:" ++ replicate 130 48))
  pub short_for_long : IsMissealed (words_of (codes "serve f --digest sha512:" ++ replicate 64 48))
  pub no_hex_digit :
      IsMissealed (words_of (codes "serve f --digest sha256:" ++ replicate 63 48 ++ codes "g"))
  pub upper_name : IsMissealed (words_of (codes "serve f --digest SHA256:" ++ replicate 64 48))
  pub no_text : IsMissealed (words_of (codes "serve f --digest="))
