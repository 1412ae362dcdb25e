use Rattle.std.proofs.Common.{◌∙◌, ◌++◌, sym, ap, length, arith, append_assoc, length-append}
use Rattle.fuse_answer.specs.Names.{said_at, said_before}
use Rattle.fuse_answer.proofs.NamesSaid.{said_fits, said_next}
use Rattle.fuse_answer.proofs.names.put_all.Goals as goal

pub put_told-requires : goal.put_told-requires
put_told-requires g c =
    let names = c.args.names.now in
    let was = c.loop-position.invariant in
    let long = ap length was.items ∙ length-append c.args.out.now.items (said_before names c.loop-position.position) in
    let fits = said_fits names c.loop-position.position in
    let room = was.room in
    let all = c.requires in
    omega arith

pub loop-position-preserved : goal.loop-position-preserved
loop-position-preserved g c =
    let names = c.args.names.now in
    let n = c.loop-position.position in
    let was = c.loop-position.invariant in
    let first = c.args.out.now.items in
    record {
      items = c.put_told.ensures.items ∙ ap (λ b. b ++ said_at names n) was.items
          ∙ append_assoc first (said_before names n) (said_at names n)
          ∙ ap (λ b. first ++ b) (sym (said_next names n));
      room = omega (arith, was.room, c.put_told.ensures.room);
    }
