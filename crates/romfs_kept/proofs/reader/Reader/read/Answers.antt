use Rattle.std.proofs.Common.{◌∙◌, ap, arith, take, drop, ◌++◌, ◌-◌}
use Rattle.romfs_kept.proofs.Reading.{room_read}
use Rattle.romfs_kept.proofs.reader.Reader.read.Goals as goal

pub returns-clause-room : goal.returns-clause-room
returns-clause-room g c =
    room_read g.S.Contents.source (record { source = c.self.inside.source.now; size = c.self.inside.size }) _ c.look_at.new.window.start
    c.min-count.result _ c.look_at.new.window.bytes.items c.clear.new.room _ c.self.invariant.0 c.in_ok-look_at.ensures.held
    c.in_ok-look_at.ensures.low c.in_ok-look_at.ensures.high (omega arith) (omega (arith, c.min-count.ensures)) c.clear.ensures
    (c.copy_part.ensures
    ∙ ap (λ b. take c.min-count.result (drop (c.args.at - c.look_at.new.window.start) b)
    ++ drop c.min-count.result c.clear.new.room) c.deref.ensures.value)
