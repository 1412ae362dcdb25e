use Rattle.node_list.proofs.Runs.{IsCut, put_none, put_more, run_fits, byte_fits, name_put}
use Rattle.node_list.proofs.path_text.PathText.go_down.Goals as goal

pub append-requires-2 : goal.append-requires-2
append-requires-2 g c =
    let cut : IsCut c.args.name.now c.split_at.result.0.now c.split_at.result.1.now c.count_unescaped.result =
    record { plain = c.count_unescaped.ensures.same; front = c.split_at.ensures.front; back = c.split_at.ensures.back } in
    run_fits c.args.name.now c.args.self.now c.requires cut c.append.ensures

pub loop-byte-init : goal.loop-byte-init
loop-byte-init g c = put_none c.append-2.new.self c.split_at.result.1.now

pub append_escaped-requires : goal.append_escaped-requires
append_escaped-requires g c =
    let cut : IsCut c.args.name.now c.split_at.result.0.now c.split_at.result.1.now c.count_unescaped.result =
    record { plain = c.count_unescaped.ensures.same; front = c.split_at.ensures.front; back = c.split_at.ensures.back } in
    byte_fits c.args.name.now c.args.self.now c.requires cut
    (record { slash_is = c.append.ensures; front_is = c.append-2.ensures; here_is = c.loop-byte.invariant }) c.loop-byte-test.true

pub loop-byte-preserved : goal.loop-byte-preserved
loop-byte-preserved g c = put_more c.append-2.new.self c.split_at.result.1.now c.loop-byte.byte-index c.loop-byte.invariant
    c.loop-byte-test.true c.append_escaped.ensures

pub returns : goal.returns
returns g c =
    let cut : IsCut c.args.name.now c.split_at.result.0.now c.split_at.result.1.now c.count_unescaped.result =
    record { plain = c.count_unescaped.ensures.same; front = c.split_at.ensures.front; back = c.split_at.ensures.back } in
    name_put cut (record { slash_is = c.append.ensures; front_is = c.append-2.ensures; here_is = c.loop-byte.invariant })
    c.loop-byte-test.false
