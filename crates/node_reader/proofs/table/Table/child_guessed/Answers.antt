use Rattle.std.proofs.Common.{◌∙◌, ◌<◌, sym, ap, length, Some, arith}
use Rattle.node_reader.specs.Rows.{Line}
use Rattle.node_reader.proofs.Names.{number_at, number_nowhere, place_within}
use Rattle.node_reader.proofs.Nodes.{found, keys_end, child_is, child_none}
use Rattle.node_reader.proofs.Noting.{number_within}
use Rattle.node_reader.proofs.table.Table.child_guessed.Goals as goal

pub rows_of-rows-requires-clause-start : goal.rows_of-rows-requires-clause-start
rows_of-rows-requires-clause-start g c =
    (found _ _ _ _ c.self.invariant.table c.args.number _
    (rw c.deref.ensures.value at c.in_ok-directory.ensures)).holds.start

pub rows_of-rows-requires-clause-end : goal.rows_of-rows-requires-clause-end
rows_of-rows-requires-clause-end g c =
    (found _ _ _ _ c.self.invariant.table c.args.number _
    (rw c.deref.ensures.value at c.in_ok-directory.ensures)).holds.end

pub keys_of-keys-requires-clause-start : goal.keys_of-keys-requires-clause-start
keys_of-keys-requires-clause-start g c =
    (found _ _ _ _ c.self.invariant.table c.args.number _
    (rw c.deref.ensures.value at c.in_ok-directory.ensures)).holds.start

pub keys_of-keys-requires-clause-end : goal.keys_of-keys-requires-clause-end
keys_of-keys-requires-clause-end g c = (keys_end _ _ _ _ c.self.invariant.table c.args.number _
    (rw c.deref.ensures.value at c.in_ok-directory.ensures))

pub place_of-requires-clause-noted : goal.place_of-requires-clause-noted
place_of-requires-clause-noted g c =
    let e = rw c.deref.ensures.value at c.in_ok-directory.ensures in
    rw c.keys_of-keys.ensures
    (c.self.invariant.noted.each _ _ (number_within _ c.self.inside.directories _ _ e) e)

pub place_of-requires-clause-keyed : goal.place_of-requires-clause-keyed
place_of-requires-clause-keyed g c = rw (c.rows_of-rows.ensures, c.keys_of-keys.ensures)
    (found _ _ _ _ c.self.invariant.table c.args.number _
    (rw c.deref.ensures.value at c.in_ok-directory.ensures)).holds.keyed

pub returns-in_err-directory : goal.returns-in_err-directory
returns-in_err-directory g c = c.from_residual.ensures
    ∙ rw (← c.self.view_is) (child_none _ _ _ _ c.self.invariant.table c.args.number c.args.name.now
    (rw c.deref.ensures.value at c.in_err-directory.ensures))

pub returns-in_err-at : goal.returns-in_err-at
returns-in_err-at g c = c.from_residual-in_err-at.ensures
    ∙ sym (number_nowhere c.args.name.now c.rows_of-rows.result.now (sym c.in_err-at.ensures))
    ∙ rw (c.rows_of-rows.ensures, ← c.self.view_is)
    (child_is _ _ _ _ c.self.invariant.table c.args.number _ c.args.name.now
    (rw c.deref.ensures.value at c.in_ok-directory.ensures))

pub returns : goal.returns
returns g c =
    let found = number_at c.args.name.now c.rows_of-rows.result.now c.in_ok-at.at c.index-rows-at.result (sym c.in_ok-at.ensures) in
    ap (λ (l : Line). Some l.number) (c.row.view_is ∙ c.index-rows-at.is) ∙ sym found
    ∙ rw (c.rows_of-rows.ensures, ← c.self.view_is)
    (child_is _ _ _ _ c.self.invariant.table c.args.number _ c.args.name.now
    (rw c.deref.ensures.value at c.in_ok-directory.ensures))

pub offset_bounds-rows-at : goal.offset_bounds-rows-at
offset_bounds-rows-at g c =
    let within : c.in_ok-at.at < length c.rows_of-rows.result.now =
    place_within c.args.name.now c.rows_of-rows.result.now c.in_ok-at.at (sym c.in_ok-at.ensures) in
    omega arith

pub bounds-rows-at : goal.bounds-rows-at
bounds-rows-at g c = place_within c.args.name.now c.rows_of-rows.result.now c.in_ok-at.at (sym c.in_ok-at.ensures)
