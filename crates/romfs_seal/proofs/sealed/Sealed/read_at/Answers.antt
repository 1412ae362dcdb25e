use Rattle.std.proofs.Common.{◌≡◌, ◌∙◌, ap, take, drop, length, arith, length-take-le}
use Rattle.std.proofs.lemmas.List.{take_at}
use Rattle.devices.proofs.Shown.{read_are}
use Rattle.romfs_seal.proofs.sealed.Sealed.read_at.Goals as goal

pub returns-clause-unmatched : goal.returns-clause-unmatched
returns-clause-unmatched g c xs u =
    let e = read_are (g.F.NamedFiles.seal c.args.self.now.files) c.args.offset c.read_all.new.room c.in_ok-read_all.ensures.ok xs u in
    let count = c.min-count.ensures in
    let size : length c.read_all.new.room ≡ c.min-count.result =
    c.read_all.auto.room ∙ length-take-le c.min-count.result c.args.room.now (omega (arith, count)) in
    take_at c.read_all.new.room (drop c.min-count.result c.args.room.now) c.min-count.result size
    ∙ e ∙ ap (λ k. take k (drop c.args.offset xs)) size
