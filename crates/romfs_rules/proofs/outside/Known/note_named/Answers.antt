use Rattle.romfs_rules.proofs.Reach.{noted_named}
use Rattle.romfs_rules.proofs.outside.Known.note_named.Goals as goal

pub returns : goal.returns
returns g c = noted_named c.args.self.now c.args.at c.next_link-next.result c.args.found c.note-with_next.result c.note_spec.result
    (rw c.self.view_is at c.next_link-next.ensures) (rw c.self.view_is at c.note-with_next.ensures) c.note_spec.ensures
