use Rattle.std.proofs.Common.{rules}
use Rattle.romfs_rules.proofs.Reach.{noted_inside, noted_spec}
use Rattle.romfs_rules.proofs.outside.Known.note_spec.Goals as goal

pub returns-then-is_inside : goal.returns-then-is_inside
returns-then-is_inside g c =
    let inside = c.is_inside.ensures.0 c.if-is_inside.true in
    rw (← c.self.view_is) (noted_inside _ c.args.at c.args.found (search (rules, inside)))

pub returns : goal.returns
returns g c = noted_spec c.args.self.now c.args.at c.args.found c.note-with_first.result c.note.result
    (rw c.self.view_is at c.first_link-first.ensures) c.destination-destination.ensures
    (rw c.self.view_is at c.note-with_first.ensures) (rw c.self.view_is at c.note.ensures)
