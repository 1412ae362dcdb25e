use Rattle.std.proofs.Common.{◌∙◌, ap}
use Rattle.std.proofs.lemmas.List.{take_all}
use Rattle.romfs_reader.specs.Images.{bytes_of}
use Rattle.romfs_reader.proofs.Lent.{one_lent}
use Rattle.romfs_reader.proofs.view.views_of.Goals as goal

pub loop-image-preserved : goal.loop-image-preserved
loop-image-preserved g c = one_lent c.args.images.now c.loop-image.views.items c.push.new.self.items c.loop-image.image-index
    c.image-item.result c.view.result c.loop-image-test.true c.loop-image.invariant c.in_ok-push.ensures.items c.view.ensures
    c.image-item.is

pub returns : goal.returns
returns g c = c.loop-image.invariant ∙ ap bytes_of (take_all c.loop-image.image-index c.args.images.now c.loop-image-test.false)
