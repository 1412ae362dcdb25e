-- The effect of a call on replies or a vector that it appends to, and on balances.
use Rattle.std.specs.Prelude.{◌≡◌, ◌+◌, ◌<◌, ◌≤◌, ◌^◌, ℤ, unsigned_abs, List, ◌++◌, length, map, Result, OnOk, OnErr, vec_len, vec_capacity}
use Rattle.std.specs.List.{All}
use Rattle.std.specs.declared.vec.Vec.{Vec}
use Rattle.devices.specs.Sources.{Source}
use Rattle.fuse_wire.specs.Appends.{Filled}
use Rattle.fuse_wire.specs.Told.{AppendsTold}
use Rattle.fuse_wire.specs.Requests.{Asked}
use Rattle.stack_model.specs.Listing.{Stacked}
use Rattle.reply_model.specs.declared.moves.Move.{Move}
use Rattle.reply_model.specs.declared.session.Session.{Session}
use Rattle.reply_model.specs.Moves.{moves}
use Rattle.reply_model.specs.Replies.{reply}
use Rattle.reply_model.specs.Readings.{Sourced, sourced, reading_of}
use Rattle.reply_model.specs.Balances.{IsMoved}
use Rattle.fuse_answer.specs.declared.served.Served.{Served}

-- the call appends exactly these; or, if the vector has no room for them and cannot grow, nothing
abbrev pub Puts : {X A E : Type 0} → Result (Unit {0}) E → Vec X A → Vec X A → List X → Type 0
Puts result before after appended =
    OnOk result (after.items ≡ before.items ++ appended)
    × OnErr result (after.items ≡ before.items)
    × OnErr result (vec_capacity before < vec_len before + length appended)
    × (vec_capacity before ≤ vec_capacity after)

-- the call appends exactly these; or, if the vector has no room for them and cannot grow, some of
-- them
abbrev pub Grows : {X A E : Type 0} → Result (Unit {0}) E → Vec X A → Vec X A → List X → Type 0
Grows {X = X} result before after appended =
    OnOk result (after.items ≡ before.items ++ appended)
    × OnErr result ((some : List X) × (after.items ≡ before.items ++ some))
    × OnErr result (vec_capacity before < vec_len before + length appended)
    × (vec_capacity before ≤ vec_capacity after)

-- no move has more lookups than 64 bits can count
abbrev pub AreSmall : List Move → Type 0
AreSmall moves = All (λ m. unsigned_abs m.amount ≤ 2 ^ 64) moves

-- the stack of a table, and what its files may return
abbrev pub sourced_by : {A D : Type 0} → (D → Source) → Served A D → Sourced
sourced_by source served = sourced served.table.now (map source served.files.now)

-- a possible reply to a request is appended; or, if there is no room for it, nothing
abbrev pub PutsReply : {E : Type 0} → Sourced → Session → Asked → Result (Unit {0}) E → Filled
    → Filled → Type 0
PutsReply by s q result before after =
    AppendsTold result before after (reading_of by q) q.unique (reply by.stack s q)

-- the lookups that a request over a stack moves are appended; or, if there is no room, none
abbrev pub PutsMoves : {A E : Type 0} → Stacked → Session → Asked → Result (Unit {0}) E → Vec Move A
    → Vec Move A → Type 0
PutsMoves stack s q result before after =
    Puts result before after (moves stack s q)

-- the balances rise by these moves; or, if memory is refused, they are unchanged
abbrev pub AddsMoves : {E : Type 0} → List Move → Result (Unit {0}) E → List ℤ → List ℤ → Type 0
AddsMoves moves result before after =
    OnOk result (IsMoved moves before after) × OnErr result (after ≡ before)
