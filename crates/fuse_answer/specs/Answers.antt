-- The decision about a request: its answer's data and moves, or the error that refuses it.
use Rattle.std.specs.Prelude.{◌≡◌, ℕ, Bool, true, false, List, [], ◌∷◌, Option, Some, None, MatchOption, MatchResult, Result, Ok, Err, pos, ◌+◌, ◌<◌, ◌≤◌, ◌==◌, nat_lt, take, drop, length, if◌then◌else◌}
use Rattle.std.specs.List.{filter_map}
use Rattle.std.specs.Option.{option_map}
use Rattle.fuse_wire.specs.declared.errno.Errno.{Errno}
use Rattle.fuse_wire.specs.declared.errno.Errno.TheVariants.{ENOENT, ERANGE, ESTALE}
use Rattle.fuse_wire.specs.declared.forget.Forget.{Forget}
use Rattle.fuse_wire.specs.Requests.{NodeOp, Asked}
use Rattle.devices.specs.Sources.{Source}
use Rattle.fuse_wire.specs.Told.{Reading}
use Rattle.fuse_wire.specs.Reads.{items_of}
use Rattle.fuse_wire.specs.Structures.{init_out, entry_out, negative_entry_out, attr_out, open_out, getxattr_out, statfs_out}
use Rattle.romfs_format.specs.declared.head.Kind.{Kind}
use Rattle.stack_model.specs.Attributes.{kind_at, is_directory_at, data_of}
use Rattle.stack_model.specs.Numbers.{Place, number, node_of}
use Rattle.stack_model.specs.Listing.{Stacked}
use Rattle.node_reader.specs.declared.node.Node.{Node}
use Rattle.node_reader.specs.Readers.{HoldsData, attr_at, placed}
use Rattle.reply_model.specs.declared.moves.Move.{Move}
use Rattle.reply_model.specs.declared.session.Agreement.{Agreement}
use Rattle.reply_model.specs.declared.session.Session.{Session}
use Rattle.reply_model.specs.Sessions.{is_fresh, agreement_of}
use Rattle.reply_model.specs.Lookups.{is_itself, looked_up}
use Rattle.reply_model.specs.Refusals.{refusal_in, refused_at}
use Rattle.reply_model.specs.Replies.{answer, answer_at}
use Rattle.reply_model.specs.Moves.{moved, gives_at, take_back}
use Rattle.reply_model.specs.Readings.{Sourced, sourced, data_reading, reading_at, reading_in}
use Rattle.fuse_answer.specs.declared.outcome.Answer.{Answer}
use Rattle.fuse_answer.specs.declared.outcome.FilePart.{FilePart}
use Rattle.romfs_format.specs.declared.limits.TheConstants.{MAX_XATTR_SIZE}
use Rattle.fuse_answer.specs.Names.{names_said, AreAllowed}
use Rattle.fuse_answer.specs.declared.outcome.Answer.TheVariants.{Done, Terms, Entry, NoEntry, Attributes, Opened, Target, Data, Size, Value, Names, Totals, Rows, Forgotten, AllForgotten}
use Rattle.fuse_answer.specs.Listings.{listed_data, listed_moves, IsWhole}

-- this many bytes of a node's data, from an offset on
abbrev pub node_data : Stacked → Node → ℕ → ℕ → List ℕ
node_data stack node offset len = take len (drop offset (data_of stack.layers (placed node.place)))

-- the bytes of a part of a file
abbrev pub part_data : Stacked → FilePart → List ℕ
part_data stack part = node_data stack part.node.now part.offset part.len

-- the data of an answer
abbrev pub answer_data : {A : Type 0} → Stacked → Answer A → List ℕ
answer_data stack Done = []
answer_data stack (Terms init) = init_out init
answer_data stack (Entry attr) = entry_out attr
answer_data stack NoEntry = negative_entry_out
answer_data stack (Attributes attr) = attr_out attr
answer_data stack (Opened flags) = open_out flags
answer_data stack (Target node) = data_of stack.layers (placed node.now.place)
answer_data stack (Data part) = part_data stack part
answer_data stack (Size size) = getxattr_out size
answer_data stack (Value value) = value.now
answer_data stack (Names names) = names_said names
answer_data stack (Totals blocks nodes) = statfs_out blocks nodes
answer_data stack (Rows listing) = listed_data stack listing
answer_data stack (Forgotten forget) = []
answer_data stack (AllForgotten items) = []

-- bytes by the size of a request: their length if it is 0, otherwise the bytes, unless they are
-- more
abbrev pub by_size : {A : Type 0} → ℕ → ℕ → Answer A → Result (Answer A) Errno
by_size size len a =
    if size == 0 then Ok (Size len) else if nat_lt size len then Err ERANGE else Ok a

-- what they are read from, and from where on
abbrev pub answer_reading : {A : Type 0} → Sourced → Answer A → Option Reading
answer_reading by (Data part) = data_reading by part.offset (placed part.node.now.place)
answer_reading by _ = None

-- the lookups that are taken back, of the nodes that are in use
abbrev pub taken_back : Stacked → List Forget → List Move
taken_back stack forgets = filter_map (take_back stack) forgets

-- the lookups that it gives and takes
abbrev pub answer_moves : {A : Type 0} → Stacked → Answer A → List Move
answer_moves stack (Entry attr) = record { node = attr.ino; amount = pos 1 } ∷ []
answer_moves stack (Rows listing) = listed_moves listing
answer_moves stack (Forgotten forget) = taken_back stack (forget ∷ [])
answer_moves stack (AllForgotten items) = taken_back stack (items_of items)
answer_moves stack _ = []

-- the kind of the node with this number, or the error if it is not in use
abbrev pub TellsKind : Stacked → ℕ → Result Kind Errno → Type 0
TellsKind stack node result =
    MatchOption (node_of stack.entries node) (result ≡ Err ESTALE)
    (λ p. result ≡ Ok (kind_at stack.layers p))

-- the number that a name other than the node's own finds below a directory
abbrev pub FindsBelow : Stacked → Bool → ℕ → List ℕ → Option ℕ → Type 0
FindsBelow stack export node name result =
    MatchOption (node_of stack.entries node) (result ≡ None)
    (λ p. is_directory_at stack.layers p ≡ true → is_itself export name ≡ false
    → result ≡ option_map (number stack.entries) (looked_up stack.entries export p name))

-- the entry of a node
abbrev pub TellsEntry : {A : Type 0} → Stacked → ℕ → Result (Answer A) Errno → Type 0
TellsEntry stack node result =
    MatchOption (attr_at stack node) (result ≡ Err ENOENT) (λ attr. result ≡ Ok (Entry attr))

-- the node has the place of its data
abbrev pub HoldsOwnData : Stacked → Node → Type 0
HoldsOwnData stack node = HoldsData stack.layers node.place.layer node (placed node.place)

-- the node of the part holds its data, and the bytes of the part, if there are any, are among them
abbrev pub IsInFile : Stacked → FilePart → Type 0
IsInFile stack part =
    HoldsOwnData stack part.node.now
    × (0 < part.len → part.offset + part.len ≤ part.node.now.part.len)

-- its data are where they are read from, and have a length that fits in a reply's header
abbrev pub IsSized : {A : Type 0} → Stacked → Answer A → Type 0
IsSized stack (Target node) = HoldsOwnData stack node.now
IsSized stack (Data part) = IsInFile stack part
IsSized stack (Rows listing) = IsWhole listing
IsSized stack (Value value) = length value.now ≤ MAX_XATTR_SIZE
IsSized stack (Names names) = AreAllowed names
IsSized stack _ = Unit {0}

-- the answer to a request about the node at a place
pub record IsAnswerAt {A : Type 0} (stack : Stacked) (agreed : Agreement) (op : NodeOp) (p : Place)
    (a : Answer A) : Type 0 where
  pub taken : refused_at stack agreed op p ≡ None
  pub data_is : answer_data stack a ≡ answer_at stack agreed op p
  pub reads_are : (sources : List Source)
      → answer_reading (sourced stack sources) a ≡ reading_at (sourced stack sources) op p
  pub sized : IsSized stack a
  pub moves_are : answer_moves stack a ≡ gives_at stack agreed op p

-- the decision about a request at the node with this number: an answer, or an error
abbrev pub DecidesAt : {A : Type 0} → Stacked → Agreement → ℕ → NodeOp → Result (Answer A) Errno
    → Type 0
DecidesAt stack agreed node op result =
    MatchOption (node_of stack.entries node) (result ≡ Err ESTALE)
    (λ p. MatchResult result (IsAnswerAt stack agreed op p)
    (λ errno. refused_at stack agreed op p ≡ Some errno))

-- the answer to a request that is not refused, in a session that is fresh or not
pub record IsAnswer {A : Type 0} (stack : Stacked) (fresh : Bool) (agreed : Agreement) (q : Asked)
    (a : Answer A) : Type 0 where
  pub taken : refusal_in stack fresh agreed q.node q.op ≡ None
  pub data_is : answer_data stack a ≡ answer stack agreed q.node q.op
  pub reads_are : (sources : List Source)
      → answer_reading (sourced stack sources) a ≡ reading_in (sourced stack sources) q.node q.op
  pub sized : IsSized stack a
  pub moves_are : answer_moves stack a ≡ moved stack agreed q.node q.op

-- the decision about a request
abbrev pub DecidesIn : {A : Type 0} → Stacked → Bool → Agreement → Asked → Result (Answer A) Errno
    → Type 0
DecidesIn stack fresh agreed q result =
    MatchResult result (IsAnswer stack fresh agreed q)
    (λ errno. refusal_in stack fresh agreed q.node q.op ≡ Some errno)

-- the same, in a session
abbrev pub Decides : {A : Type 0} → Stacked → Session → Asked → Result (Answer A) Errno → Type 0
Decides stack s q result = DecidesIn stack (is_fresh s) (agreement_of s) q result
