use Rattle.std.proofs.Common.{rules, ◌≡◌, sym, ap, subst}
use Rattle.romfs_format.specs.Fields.{spec, cleared}
use Rattle.romfs_format.specs.Heads.{head_of}
use Rattle.romfs_format.specs.Links.{IsFinal}
use Rattle.romfs_reader.proofs.Given.{sets_out, next_inside, moves_on, way_falls}
use Rattle.romfs_reader.proofs.Noting.{final_on, one_more}
use Rattle.romfs_reader.proofs.ends.note.Goals as goal

pub loop-known-init : goal.loop-known-init
loop-known-init g c = record {
  way = sets_out c.args.image.now c.requires.image c.args.head.now c.requires.given;
  final = c.requires.end;
  known = c.requires.known;
}

pub head_at-at-requires-clause-inside : goal.head_at-at-requires-clause-inside
head_at-at-requires-clause-inside g c =
    let way = c.loop-known.invariant.way in
    let s : c.loop-known.at.spec ≡ spec c.args.image.now c.loop-known.at.offset = ap (λ x. x.spec) way.is in
    rw (c.cleared.ensures, s) (next_inside c.args.image.now c.requires.image c.args.head.now c.loop-known.at c.requires.given way
    (search rules)).1

pub loop-known-smaller : goal.loop-known-smaller
loop-known-smaller g c =
    let way = c.loop-known.invariant.way in
    let s : c.loop-known.at.spec ≡ spec c.args.image.now c.loop-known.at.offset = ap (λ x. x.spec) way.is in
    let on : c.head_at-at.result ≡ head_of c.args.image.now
    (cleared (spec c.args.image.now c.loop-known.at.offset)) = rw (← s, ← c.cleared.ensures)
    c.head_at-at.ensures in
    way_falls c.args.image.now c.requires.image c.args.head.now c.loop-known.at c.head_at-at.result way (search rules) on

pub loop-known-preserved : goal.loop-known-preserved
loop-known-preserved g c =
    let i = c.loop-known.invariant in
    let s : c.loop-known.at.spec ≡ spec c.args.image.now c.loop-known.at.offset = ap (λ x. x.spec) i.way.is in
    let on : c.head_at-at.result ≡ head_of c.args.image.now
    (cleared (spec c.args.image.now c.loop-known.at.offset)) = rw (← s, ← c.cleared.ensures)
    c.head_at-at.ensures in
    record {
      way = moves_on c.args.image.now c.requires.image c.args.head.now c.loop-known.at c.head_at-at.result c.requires.given i.way
          (search rules) on;
      final = subst (λ x. IsFinal c.args.image.now x c.args.end) (sym (ap (λ x. x.offset) on))
          (final_on c.args.image.now c.requires.image c.args.head.now c.loop-known.at c.requires.given i.way
          (search rules) c.args.end i.final);
      known = one_more c.args.image.now c.loop-known.known c.insert.new.self c.loop-known.at.offset c.args.end i.known i.final
          c.in_ok-insert.ensures.updates.0;
    }
