use Rattle.std.proofs.Common.{◌+◌, ◌-◌, arith, rules}
use Rattle.romfs_seal.proofs.Parts.{read_lent}
use Rattle.romfs_seal.proofs.sealed.Sealed.read_all.Goals as goal

pub loop-done-preserved : goal.loop-done-preserved
loop-done-preserved g c =
    let least = c.min-count.ensures in
    record {
      within = search rules;
      read = read_lent (g.F.NamedFiles.seal c.args.self.now.files) (c.args.place) (c.loop-done.done)
          (c.min-count.result) (c.loop-done.done + c.min-count.result - c.loop-done.done) (c.loop-done.room) (c.read_under.new.room)
          (omega (arith, least)) (omega arith) (c.read_under.auto.room) (c.loop-done.invariant.read) (c.in_ok-read_under.ensures.ok);
    }
