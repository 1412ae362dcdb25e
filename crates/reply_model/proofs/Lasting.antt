-- What differs in a lasting stream. First that the distinguished replies are different; then the replies of ready sessions, from the few
-- facts that a row depends on; then those of all sessions (`replies_last`), the lookups that are moved (`moves_stay`), and how sessions
-- continue.
use Rattle.std.proofs.Common.{◌≡◌, ◌≢◌, ◌∙◌, sym, ap, ℕ, ◌-◌, ◌%◌, ◌^◌, List, [], ◌∷◌, ◌++◌, length, get_or, map, Bool, true, false, Option, Some, None, cond, refl}
use Rattle.std.specs.Prelude.{bit_and, nat_lt, not, ◌&&◌, ◌||◌, ◌==◌, is_none, is_some}
use Rattle.std.specs.Option.{option_map_or, option_to_list}
use Rattle.std.proofs.lemmas.Bool.{false≢true, eq-eqb}
use Rattle.romfs_format.specs.declared.head.Kind.{Kind}
use Rattle.romfs_format.specs.declared.head.Kind.TheVariants.{Directory, Regular}
use Rattle.fuse_wire.specs.declared.errno.Errno.{Errno}
use Rattle.fuse_wire.specs.declared.errno.Errno.TheVariants.{ENOENT, EIO, ENOTDIR, EISDIR, EINVAL, EROFS, ERANGE, ENAMETOOLONG, ENOSYS, ENODATA, EPROTO, EOPNOTSUPP, ESTALE}
use Rattle.fuse_wire.specs.declared.flags.TheConstants.{FOPEN_KEEP_CACHE}
use Rattle.fuse_wire.specs.declared.limits.TheConstants.{MAX_NAME_SIZE}
use Rattle.fuse_wire.specs.declared.reply.InitOut.TheVariants.{Version, Terms}
use Rattle.fuse_wire.specs.Requests.{NodeOp, Op, Asked, asked, init, at_node, lookup, open_file, opendir, done, flush, destroy}
use Rattle.fuse_wire.specs.Structures.{u16, u32, u64, zeros, errno_number, has_export, has_acl, has_no_open, has_no_opendir, served_flags, init_out, init_out_22, init_out_rest, entry_out, negative_entry_out, open_out}
use Rattle.fuse_wire.specs.Replies.{reply_head, reply_with, error_reply}
use Rattle.stack_model.specs.Listing.{Stacked}
use Rattle.stack_model.specs.Numbers.{Place, node_of}
use Rattle.stack_model.specs.Attributes.{is_directory, kind_at, attr_of, has_acls}
use Rattle.reply_model.specs.declared.session.Agreement.{Agreement}
use Rattle.reply_model.specs.declared.session.Session.{Session}
use Rattle.reply_model.specs.declared.session.Session.TheVariants.{Fresh, Ready, LastingFresh, LastingReady}
use Rattle.reply_model.specs.Sessions.{session_after, agreement_of, is_spoken}
use Rattle.reply_model.specs.Lookups.{is_itself, looked_up}
use Rattle.reply_model.specs.Services.{refuse_if, unless_regular, opendir_flags, give}
use Rattle.reply_model.specs.Refusals.{first_refusal, refused_at}
use Rattle.reply_model.specs.Replies.{answer_at, reply}
use Rattle.reply_model.specs.Moves.{moves, balance}
use Rattle.reply_model.specs.Streams.{moves_by, balance_after}
use Rattle.reply_model.specs.Laws.{is_moving}
use Rattle.reply_model.specs.LastingExamples.{LastingStayExamples}
use Rattle.reply_model.specs.Lasting.{usual_of, Becomes, told_of_opening, LastsAs}
use Rattle.reply_model.proofs.Given.{others_move_nothing, fresh_moves_nothing}

-- a request, by its parts
abbrev asking : ℕ → ℕ → Op → Asked
asking unique node op = record { unique = unique; node = node; op = op }

stays : (from to reply : List ℕ) → reply ≢ from → Becomes from to reply reply
stays from to reply n = record { there = λ e. absurd (n e); elsewhere = λ n. refl }

turns : (from to : List ℕ) → Becomes from to from to
turns from to = record { there = λ e. refl; elsewhere = λ n. absurd (n refl) }

-- where the error of a reply begins
abbrev error_byte : List ℕ → ℕ
error_byte bytes = get_or bytes 4 0

some_error : (errno : Errno) → ((2 ^ 32 - errno_number errno) % 256 == 0) ≡ false
some_error ENOENT = refl
some_error EIO = refl
some_error ENOTDIR = refl
some_error EISDIR = refl
some_error EINVAL = refl
some_error EROFS = refl
some_error ERANGE = refl
some_error ENAMETOOLONG = refl
some_error ENOSYS = refl
some_error ENODATA = refl
some_error EPROTO = refl
some_error EOPNOTSUPP = refl
some_error ESTALE = refl

-- an error is no reply with data, and no other error
error_no_data : (unique : ℕ) (errno : Errno) (bytes : List ℕ) → error_reply unique errno ≢ reply_with unique bytes
unfolding error_reply reply_with reply_head u32 u64
error_no_data unique errno bytes e =
    false≢true (sym (some_error errno) ∙ eq-eqb ((2 ^ 32 - errno_number errno) % 256) 0 (ap error_byte e))

data_no_error : (unique : ℕ) (errno : Errno) (bytes : List ℕ) → reply_with unique bytes ≢ error_reply unique errno
data_no_error unique errno bytes e = error_no_data unique errno bytes (sym e)

other_error : (unique : ℕ) (errno : Errno) → ((2 ^ 32 - errno_number errno) % 256 == 254) ≡ false
    → error_reply unique errno ≢ error_reply unique ENOENT
unfolding error_reply u32 u64
other_error unique errno n e = false≢true (sym n ∙ eq-eqb ((2 ^ 32 - errno_number errno) % 256) 254 (ap error_byte e))

-- the version without terms is not the terms: max_background is missing
abbrev background_byte : List ℕ → ℕ
background_byte bytes = get_or bytes 32 0

version_no_terms : (unique : ℕ) (lasting acls : Bool) (minor readahead flags : ℕ)
    → reply_with unique (init_out Version) ≢ reply_with unique (init_out (Terms lasting acls minor readahead flags))
unfolding reply_with reply_head init_out init_out_22 init_out_rest u16 u32 u64 zeros
version_no_terms unique lasting acls minor readahead flags = either (nat_lt minor 23)
  where
    front : List ℕ
    front = init_out_22 readahead (bit_and flags (served_flags lasting acls))

    either : (b : Bool) → reply_with unique (init_out Version)
        ≢ reply_with unique (cond b front (front ++ init_out_rest lasting flags))
    either true e = false≢true (eq-eqb 0 12 (ap background_byte e))
    either false e = false≢true (eq-eqb 0 12 (ap background_byte e))

-- INIT in a fresh session, by whether the major version is later and whether the version is supported
abbrev begun : ℕ → Bool → Bool → Bool → Bool → ℕ → ℕ → ℕ → List ℕ
begun unique lasting acls later spoken minor readahead flags =
    option_map_or (error_reply unique) (first_refusal (refuse_if (not (later || spoken)) EPROTO ∷ []))
    (reply_with unique (init_out (cond later Version (Terms lasting acls minor readahead flags))))

begun_lasts : (unique : ℕ) (acls later spoken : Bool) (minor readahead flags : ℕ)
    → Becomes (reply_with unique (init_out (Terms false acls minor readahead flags)))
    (reply_with unique (init_out (Terms true acls minor readahead flags)))
    (begun unique false acls later spoken minor readahead flags) (begun unique true acls later spoken minor readahead flags)
begun_lasts unique acls true spoken minor readahead flags = stays _ _ _ (version_no_terms unique false acls minor readahead flags)
begun_lasts unique acls false true minor readahead flags = turns _ _
begun_lasts unique acls false false minor readahead flags = stays _ _ _ (error_no_data unique EPROTO _)

-- OPEN and OPENDIR of a node, by its kind
abbrev opened : ℕ → Bool → Kind → Bool → List ℕ
opened unique no_open k writes =
    option_map_or (error_reply unique)
    (first_refusal (first_refusal (unless_regular k ∷ cond writes (Some EROFS) (refuse_if no_open ENOSYS) ∷ []) ∷ []))
    (reply_with unique (open_out FOPEN_KEEP_CACHE))

opened_lasts : (unique : ℕ) (no_open : Bool) (k : Kind) (writes : Bool)
    → Becomes (reply_with unique (open_out FOPEN_KEEP_CACHE)) (told_of_opening no_open unique FOPEN_KEEP_CACHE)
    (opened unique false k writes) (opened unique no_open k writes)
opened_lasts unique no_open Regular true = stays _ _ _ (error_no_data unique EROFS _)
opened_lasts unique true Regular false = turns _ _
opened_lasts unique false Regular false = turns _ _
opened_lasts unique no_open Directory writes = stays _ _ _ (error_no_data unique EISDIR _)
opened_lasts unique no_open _ writes = stays _ _ _ (error_no_data unique EINVAL _)

abbrev entered : ℕ → Bool → Bool → Bool → List ℕ
entered unique lasting no_opendir directory =
    option_map_or (error_reply unique)
    (first_refusal (first_refusal (refuse_if (not directory) ENOTDIR ∷ refuse_if no_opendir ENOSYS ∷ []) ∷ []))
    (reply_with unique (open_out (opendir_flags lasting)))

entered_lasts : (unique : ℕ) (no_opendir directory : Bool)
    → Becomes (reply_with unique (open_out 0)) (told_of_opening no_opendir unique (opendir_flags true))
    (entered unique false false directory) (entered unique true no_opendir directory)
entered_lasts unique true true = turns _ _
entered_lasts unique false true = turns _ _
entered_lasts unique no_opendir false = stays _ _ _ (error_no_data unique ENOTDIR _)

module _ (stack : Stacked) where
  -- LOOKUP at a node: the name finds the node itself or the node is a directory; it is too long; it
  -- finds a node
  abbrev sought : Bool → Bool → Bool → Bool → Option Place → Option Errno
  sought lasting itself directory long found =
      first_refusal (first_refusal (cond itself None (refuse_if (not directory) ENOTDIR)
      ∷ cond long (Some ENAMETOOLONG) (refuse_if (is_none found && not lasting) ENOENT) ∷ []) ∷ [])

  abbrev looked : ℕ → Bool → Bool → Bool → Bool → Option Place → List ℕ
  looked unique lasting itself directory long found =
      option_map_or (error_reply unique) (sought lasting itself directory long found)
      (reply_with unique (option_map_or (λ c. entry_out (attr_of stack c)) found negative_entry_out))

  looked_lasts : (unique : ℕ) (itself directory long : Bool) (found : Option Place)
      → Becomes (error_reply unique ENOENT) (reply_with unique negative_entry_out)
      (looked unique false itself directory long found) (looked unique true itself directory long found)
  looked_lasts unique false false long found = stays _ _ _ (other_error unique ENOTDIR refl)
  looked_lasts unique false true true found = stays _ _ _ (other_error unique ENAMETOOLONG refl)
  looked_lasts unique false true false None = turns _ _
  looked_lasts unique false true false (Some c) = stays _ _ _ (data_no_error unique ENOENT _)
  looked_lasts unique true directory true found = stays _ _ _ (other_error unique ENAMETOOLONG refl)
  looked_lasts unique true directory false None = turns _ _
  looked_lasts unique true directory false (Some c) = stays _ _ _ (data_no_error unique ENOENT _)

  looked_moves : (itself directory long : Bool) (found : Option Place)
      → cond (is_some (sought true itself directory long found)) [] (map (give stack) (option_to_list found))
      ≡ cond (is_some (sought false itself directory long found)) [] (map (give stack) (option_to_list found))
  looked_moves false false long found = refl
  looked_moves false true true found = refl
  looked_moves false true false None = refl
  looked_moves false true false (Some c) = refl
  looked_moves true directory true found = refl
  looked_moves true directory false None = refl
  looked_moves true directory false (Some c) = refl

  module _ (export acls no_open no_opendir : Bool) where
    abbrev usually : Agreement
    usually = agreement_of (Ready export acls)

    abbrev lastingly : Agreement
    lastingly = agreement_of (LastingReady export acls no_open no_opendir)

    -- a request about a node in a ready session, by the place that its number finds
    abbrev replied : Agreement → ℕ → NodeOp → Option Place → List ℕ
    replied agreed unique op o =
        option_map_or (error_reply unique) (first_refusal (option_map_or (refused_at stack agreed op) o (Some ESTALE) ∷ []))
        (reply_with unique (option_map_or (answer_at stack agreed op) o []))

    node_lasts : (unique : ℕ) (op : NodeOp) (o : Option Place)
        → LastsAs (has_acls stack) lastingly unique (at_node op) (replied usually unique op o) (replied lastingly unique op o)
    node_lasts unique (lookup name) None = stays _ _ _ (other_error unique ESTALE refl)
    node_lasts unique (lookup name) (Some p) =
        looked_lasts unique (is_itself export name) (is_directory (kind_at stack.layers p))
        (nat_lt MAX_NAME_SIZE (length name)) (looked_up stack.entries export p name)
    node_lasts unique (open_file flags) None = stays _ _ _ (error_no_data unique ESTALE _)
    node_lasts unique (open_file flags) (Some p) = opened_lasts unique no_open (kind_at stack.layers p) (not (flags % 4 == 0))
    node_lasts unique opendir None = stays _ _ _ (error_no_data unique ESTALE _)
    node_lasts unique opendir (Some p) = entered_lasts unique no_opendir (is_directory (kind_at stack.layers p))
    node_lasts unique _ o = refl

    ready_lasts : (unique node : ℕ) (op : Op) →
        LastsAs (has_acls stack) lastingly unique op (reply stack (Ready export acls) (asking unique node op))
        (reply stack (LastingReady export acls no_open no_opendir) (asking unique node op))
    ready_lasts unique node (init major minor readahead flags) = stays _ _ _ (error_no_data unique EIO _)
    ready_lasts unique node (at_node (lookup name)) = node_lasts unique (lookup name) (node_of stack.entries node)
    ready_lasts unique node (at_node (open_file flags)) = node_lasts unique (open_file flags) (node_of stack.entries node)
    ready_lasts unique node (at_node opendir) = node_lasts unique opendir (node_of stack.entries node)
    ready_lasts unique node (at_node _) = refl
    ready_lasts unique node (done flush) = turns _ _
    ready_lasts unique node (done _) = refl
    ready_lasts unique node _ = refl

    looked_up_moves : (unique node : ℕ) (name : List ℕ) →
        moves stack (LastingReady export acls no_open no_opendir) (asking unique node (at_node (lookup name)))
        ≡ moves stack (Ready export acls) (asking unique node (at_node (lookup name)))
    looked_up_moves unique node name = at_place (node_of stack.entries node)
      where
        at_place : (o : Option Place)
            → cond (is_some (first_refusal (option_map_or (refused_at stack lastingly (lookup name)) o (Some ESTALE) ∷ []))) []
            (option_map_or (λ p. map (give stack) (option_to_list (looked_up stack.entries export p name))) o [])
            ≡ cond (is_some (first_refusal (option_map_or (refused_at stack usually (lookup name)) o (Some ESTALE) ∷ []))) []
            (option_map_or (λ p. map (give stack) (option_to_list (looked_up stack.entries export p name))) o [])
        at_place None = refl
        at_place (Some p) = looked_moves (is_itself export name) (is_directory (kind_at stack.layers p))
            (nat_lt MAX_NAME_SIZE (length name)) (looked_up stack.entries export p name)

    none_moved : (q : Asked) → is_moving q.op ≡ false
        → moves stack (LastingReady export acls no_open no_opendir) q ≡ moves stack (Ready export acls) q
    none_moved q e =
        others_move_nothing stack (LastingReady export acls no_open no_opendir) q e
        ∙ sym (others_move_nothing stack (Ready export acls) q e)

    ready_moves : (unique node : ℕ) (op : Op) →
        moves stack (LastingReady export acls no_open no_opendir) (asking unique node op)
        ≡ moves stack (Ready export acls) (asking unique node op)
    ready_moves unique node (at_node (lookup name)) = looked_up_moves unique node name
    ready_moves unique node (at_node (open_file flags)) =
        none_moved (asking unique node (at_node (open_file flags))) refl
    ready_moves unique node (at_node opendir) =
        none_moved (asking unique node (at_node opendir)) refl
    ready_moves unique node (done flush) = refl
    ready_moves unique node _ = refl

  fresh_lasts : (unique node : ℕ) (op : Op) →
      LastsAs (has_acls stack) (agreement_of LastingFresh) unique op (reply stack Fresh (asking unique node op))
      (reply stack LastingFresh (asking unique node op))
  fresh_lasts unique node (init major minor readahead flags) =
      begun_lasts unique (has_acls stack) (nat_lt 7 major) (is_spoken major minor) minor readahead flags
  fresh_lasts unique node (at_node (lookup name)) = stays _ _ _ (other_error unique EIO refl)
  fresh_lasts unique node (at_node (open_file flags)) = stays _ _ _ (error_no_data unique EIO _)
  fresh_lasts unique node (at_node opendir) = stays _ _ _ (error_no_data unique EIO _)
  fresh_lasts unique node (at_node _) = refl
  fresh_lasts unique node (done flush) = stays _ _ _ (error_no_data unique EIO _)
  fresh_lasts unique node (done _) = refl
  fresh_lasts unique node _ = refl

  -- a lasting session replies what the usual one does, except in the cases that `LastsAs` lists
  pub replies_last : (s : Session) (q : Asked) → (agreement_of s).lasting ≡ true
      → LastsAs (has_acls stack) (agreement_of s) q.unique q.op (reply stack (usual_of s) q) (reply stack s q)
  replies_last Fresh q e = absurd (cc)
  replies_last (Ready export acls) q e = absurd (cc)
  replies_last LastingFresh q e = fresh_lasts q.unique q.node q.op
  replies_last (LastingReady export acls no_open no_opendir) q e = ready_lasts export acls no_open no_opendir q.unique q.node q.op

  -- a request moves in a lasting session what it moves in the usual one
  pub moves_stay : (s : Session) (q : Asked) → moves stack s q ≡ moves stack (usual_of s) q
  moves_stay Fresh q = refl
  moves_stay (Ready export acls) q = refl
  moves_stay LastingFresh q = fresh_moves_nothing stack LastingFresh q refl ∙ sym (fresh_moves_nothing stack Fresh q refl)
  moves_stay (LastingReady export acls no_open no_opendir) q = ready_moves export acls no_open no_opendir q.unique q.node q.op

-- sessions continue as the usual ones do
begun_goes_on : (spoken export acls no_open no_opendir : Bool)
    → usual_of (cond spoken (LastingReady export acls no_open no_opendir) LastingFresh) ≡ cond spoken (Ready export acls) Fresh
begun_goes_on true export acls no_open no_opendir = refl
begun_goes_on false export acls no_open no_opendir = refl

usual_begun : (spoken export acls : Bool) → usual_of (cond spoken (Ready export acls) Fresh) ≡ cond spoken (Ready export acls) Fresh
usual_begun true export acls = refl
usual_begun false export acls = refl

-- a lasting session continues, request by request, as the usual one would
pub session_goes_on : (s : Session) (op : Op) → usual_of (session_after s op) ≡ session_after (usual_of s) op
session_goes_on Fresh (init major minor readahead flags) = usual_begun (is_spoken major minor) (has_export flags) (has_acl flags)
session_goes_on Fresh _ = refl
session_goes_on LastingFresh (init major minor readahead flags) =
    begun_goes_on (is_spoken major minor) (has_export flags) (has_acl flags) (has_no_open flags) (has_no_opendir flags)
session_goes_on LastingFresh _ = refl
session_goes_on (Ready export acls) (done destroy) = refl
session_goes_on (Ready export acls) (done _) = refl
session_goes_on (Ready export acls) _ = refl
session_goes_on (LastingReady export acls no_open no_opendir) (done destroy) = refl
session_goes_on (LastingReady export acls no_open no_opendir) (done _) = refl
session_goes_on (LastingReady export acls no_open no_opendir) _ = refl

module _ (stack : Stacked) where
  -- so a stream moves what it moves usually
  moves_by_stay : (s : Session) (qs : List Asked) → moves_by (moves stack) s qs ≡ moves_by (moves stack) (usual_of s) qs
  moves_by_stay s [] = refl
  moves_by_stay s (q ∷ qs) =
      let moved = moves stack in
      ap (λ m. m ++ moves_by moved (session_after s q.op) qs) (moves_stay stack s q)
      ∙ ap (λ v. moved (usual_of s) q ++ v)
      (moves_by_stay (session_after s q.op) qs ∙ ap (λ t. moves_by moved t qs) (session_goes_on s q.op))

  -- a lasting stream leaves the usual balances
  pub balances_are_usual : (messages : List (List ℕ)) (node : ℕ)
      → balance_after stack LastingFresh messages node ≡ balance_after stack Fresh messages node
  balances_are_usual messages node = ap (balance node) (moves_by_stay LastingFresh (map asked messages))

-- the examples of a reply that stays and of one that becomes another
pub stay : LastingStayExamples
stay = record { too_long = λ lasting b. b.elsewhere (other_error 2 ENAMETOOLONG refl); missing = λ lasting b. b.there refl }

-- what differs and what stays in a lasting stream
pub ruleset lasting = (replies_last, moves_stay, session_goes_on, balances_are_usual)
