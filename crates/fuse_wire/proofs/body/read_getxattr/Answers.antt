use Rattle.std.proofs.Common.{◌≡◌, ◌∙◌, ap, ◌-◌, length, drop, Some, arith, length-drop}
use Rattle.std.proofs.lemmas.List.{take_all, drop-drop}
use Rattle.std.specs.Option.{option_map_or}
use Rattle.fuse_wire.specs.declared.limits.TheConstants.{HEADER_SIZE}
use Rattle.fuse_wire.specs.Stream.{field}
use Rattle.fuse_wire.specs.Requests.{at_node, getxattr, malformed, cut_at_zero, body_name}
use Rattle.fuse_wire.proofs.body.read_getxattr.Goals as goal

pub read_name-requires : goal.read_name-requires
read_name-requires c =
    let body = c.args.body.now in
    let l = length-drop 8 body in
    take_all (length body - 8) (drop 8 body) (omega arith) ∙ ap (drop 8) c.requires.rest ∙ drop-drop 8 HEADER_SIZE c.args.message.now

pub returns-in-Some : goal.returns-in-Some
returns-in-Some c =
    let body = c.args.body.now in
    let l = length-drop 8 body in
    let behind = take_all (length body - 8) (drop 8 body) (omega arith) in
    let named : Some c.in-Some.name.now ≡ body_name (cut_at_zero (drop 8 body)) =
    c.in-Some.ensures ∙ ap (λ v. body_name (cut_at_zero v)) behind in
    ap (λ n. at_node (getxattr n c.in-Some.name.now)) c.word.ensures
    ∙ ap (λ o. option_map_or (λ name. at_node (getxattr (field 4 0 body) name)) o (malformed 22)) named
