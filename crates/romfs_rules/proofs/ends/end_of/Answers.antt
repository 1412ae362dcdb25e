use Rattle.std.proofs.Common.{sym, ◌∙◌, ◌/◌, ◌<◌, ◌^◌, length, arith, refl}
use Rattle.std.proofs.lemmas.Bool.{false≢true}
use Rattle.romfs_format.specs.declared.head.End.TheVariants.{Nowhere}
use Rattle.romfs_format.specs.Fields.{spec}
use Rattle.romfs_rules.proofs.EndWalk.{goes, arrives, comes_back, passes, fewer, meets, passing, passing_on, passed_at, passed_on, next_target}
use Rattle.romfs_rules.proofs.ends.end_of.Goals as goal

pub loop-walks-init : goal.loop-walks-init
loop-walks-init g c = record {
  target = c.requires.target;
  same = refl;
  going = goes c.args.volume.now.bytes.now c.args.ends.now c.args.from c.args.walks.now.by_slot c.requires.sized
      (omega (arith, c.requires.hard.0.1)) c.requires.aligned c.requires.known;
  passing = passing c.args.from c.args.walks.now.by_slot;
}

pub returns-then-walk-mine-clause-end : goal.returns-then-walk-mine-clause-end
returns-then-walk-mine-clause-end g c = c.loop-walks.invariant.going.start Nowhere
    (comes_back c.args.volume.now.bytes.now c.args.ends.now c.args.from c.loop-walks.at c.loop-walks.walks.by_slot
    c.loop-walks.invariant.going (sym c.at-walk.ensures ∙ c.if-walk-mine.true))

pub returns-then-walk-mine-clause-known : goal.returns-then-walk-mine-clause-known
returns-then-walk-mine-clause-known g c = arrives c.args.volume.now.bytes.now c.args.ends.now c.args.from c.loop-walks.at
    c.loop-walks.walks.by_slot Nowhere c.loop-walks.invariant.going
    (comes_back c.args.volume.now.bytes.now c.args.ends.now c.args.from c.loop-walks.at c.loop-walks.walks.by_slot
    c.loop-walks.invariant.going (sym c.at-walk.ensures ∙ c.if-walk-mine.true))

pub returns-then-walk-mine-clause-passes : goal.returns-then-walk-mine-clause-passes
returns-then-walk-mine-clause-passes g c = passed_at c.args.from c.loop-walks.at c.args.walks.now.by_slot
    c.loop-walks.walks.by_slot c.loop-walks.invariant.passing
    (let e = sym c.at-walk.ensures ∙ c.if-walk-mine.true in omega arith)

pub returns-then-walk-ne0-clause-end : goal.returns-then-walk-ne0-clause-end
returns-then-walk-ne0-clause-end g c = c.loop-walks.invariant.going.start _
    (meets c.args.volume.now.bytes.now c.args.ends.now c.loop-walks.invariant.going _ (sym c.at-walk.ensures) c.if-walk-ne0.true
    c.if-walk-mine.false)

pub returns-then-walk-ne0-clause-known : goal.returns-then-walk-ne0-clause-known
returns-then-walk-ne0-clause-known g c = arrives c.args.volume.now.bytes.now c.args.ends.now c.args.from c.loop-walks.at
    c.loop-walks.walks.by_slot _ c.loop-walks.invariant.going
    (meets c.args.volume.now.bytes.now c.args.ends.now c.loop-walks.invariant.going _ (sym c.at-walk.ensures) c.if-walk-ne0.true
    c.if-walk-mine.false)

pub returns-then-walk-ne0-clause-passes : goal.returns-then-walk-ne0-clause-passes
returns-then-walk-ne0-clause-passes g c = passed_at c.args.from c.loop-walks.at c.args.walks.now.by_slot
    c.loop-walks.walks.by_slot c.loop-walks.invariant.passing
    (λ e. c.if-walk-ne0.true (c.at-walk.ensures ∙ e))

pub loop-walks-smaller : goal.loop-walks-smaller
loop-walks-smaller g c = rw c.put.ensures.put (fewer c.args.volume.now.bytes.now c.args.ends.now c.args.from
    c.loop-walks.at c.loop-walks.walks.by_slot c.loop-walks.invariant.going (c.loop-walks-test.ensures.0 refl)
    (sym c.at-walk.ensures ∙ c.if-walk-ne0.false))

pub loop-walks-preserved : goal.loop-walks-preserved
loop-walks-preserved g c =
    let hard = c.loop-walks-test.ensures.0 refl in
    let s : spec c.args.volume.now.bytes.now c.loop-walks.at < 2 ^ 32 = rw (← c.word.ensures) (omega arith) in
    let sized = c.loop-walks.invariant.going.sized in
    let inside = hard.0.1 in
    let l : c.loop-walks.at / 16 < length c.loop-walks.walks.by_slot = omega arith in
    record {
      target = rw (c.cleared-at.ensures, c.word.ensures)
          (next_target c.args.volume.now.bytes.now c.loop-walks.at c.loop-walks.invariant.target hard);
      same = c.put.ensures.same ∙ c.loop-walks.invariant.same;
      going = rw (c.put.ensures.put, c.cleared-at.ensures, c.word.ensures)
          (passes c.args.volume.now.bytes.now c.args.ends.now c.args.from c.loop-walks.at c.loop-walks.walks.by_slot
          c.loop-walks.invariant.going hard (sym c.at-walk.ensures ∙ c.if-walk-ne0.false) s);
      passing = rw c.put.ensures.put (passing_on c.args.from c.loop-walks.at _ (length c.args.ends.now)
          c.args.walks.now.by_slot c.loop-walks.walks.by_slot c.loop-walks.invariant.passing l);
    }

pub at-walk-requires : goal.at-walk-requires
at-walk-requires g c = rw c.loop-walks.invariant.same
    (c.requires.targets.all c.loop-walks.at c.loop-walks.invariant.target
    (c.loop-walks-test.ensures.0 refl).0)

pub put-requires : goal.put-requires
put-requires g c = rw c.loop-walks.invariant.same (c.requires.targets.all c.loop-walks.at c.loop-walks.invariant.target
    (c.loop-walks-test.ensures.0 refl).0)

pub end_at-requires-clause-last : goal.end_at-requires-clause-last
end_at-requires-clause-last g c = λ l. false≢true (c.loop-walks-test.ensures.1 l)

pub returns-clause-end : goal.returns-clause-end
returns-clause-end g c = c.loop-walks.invariant.going.start c.end_at.result c.end_at.ensures

pub returns-clause-known : goal.returns-clause-known
returns-clause-known g c = arrives c.args.volume.now.bytes.now c.args.ends.now c.args.from c.loop-walks.at
    c.loop-walks.walks.by_slot c.end_at.result c.loop-walks.invariant.going c.end_at.ensures

pub returns-clause-passes : goal.returns-clause-passes
returns-clause-passes g c = passed_on c.args.from c.loop-walks.at c.args.walks.now.by_slot
    c.loop-walks.walks.by_slot c.loop-walks.invariant.passing
    (λ q. false≢true (c.loop-walks-test.ensures.1 (rw (← q) c.requires.hard)))
