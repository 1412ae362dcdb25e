use Rattle.std.proofs.Common.{subst}
use Rattle.fuse_wire.specs.Appends.{Appends}
use Rattle.fuse_wire.specs.Replies.{reply_with}
use Rattle.fuse_answer.proofs.Reading.{all_data}
use Rattle.fuse_answer.proofs.write.put_target.Goals as goal

pub returns : goal.returns
returns g c = subst (λ d. Appends c.put_held.result c.args.out.now c.put_held.new.out (reply_with c.args.unique d))
    (all_data _ _ _ _ c.requires) c.put_held.ensures
