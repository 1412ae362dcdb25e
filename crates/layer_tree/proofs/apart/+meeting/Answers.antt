use Rattle.std.proofs.Common.{rules, ◌≡◌, refl, [], false}
use Rattle.std.proofs.lemmas.List.{nil_from_length}
use Rattle.layer_tree.proofs.Clashing.{file_alone, unmarked_folder}
use Rattle.layer_tree.proofs.Meeting.{alone, apart, deeper_measure, meeting_ended}
use Rattle.layer_tree.proofs.Stepping.{shorter}
use Rattle.layer_tree.proofs.apart.+meeting.Goals as goal

pub few_are_apart-is_apart-requires : goal.few_are_apart-is_apart-requires
few_are_apart-is_apart-requires g t c κs within =
    let so_far = rw c.in-Some.ensures.cases.0 at c.loop-one.invariant in
    let from = rw c.name.ensures at c.seek.ensures.rest in
    let there = rw (c.in-Some-found.is, c.name.ensures) at c.seek.ensures.first in
    let m = deeper_measure _ _ _ _ _ _ _ so_far from _ there in
    search (rules, m)

pub few_are_apart-loop-one-preserved-else-not-is_apart : goal.few_are_apart-loop-one-preserved-else-not-is_apart
few_are_apart-loop-one-preserved-else-not-is_apart g t c =
    let so_far = rw c.in-Some.ensures.cases.0 at c.loop-one.invariant in
    let from = rw c.name.ensures at c.seek.ensures.rest in
    let there = rw (c.in-Some-found.is, c.name.ensures) at c.seek.ensures.first in
    apart _ _ _ _ _ _ _ so_far from _ there (c.is_apart.ensures (search rules))

pub few_are_apart-loop-one-preserved : goal.few_are_apart-loop-one-preserved
few_are_apart-loop-one-preserved g t c =
    let so_far = rw c.in-Some.ensures.cases.0 at c.loop-one.invariant in
    let from = rw c.name.ensures at c.seek.ensures.rest in
    alone _ _ _ _ _ _ _ so_far from (rw (c.in_default-found.is, c.name.ensures) at c.seek.ensures.first)

pub few_are_apart-returns : goal.few_are_apart-returns
few_are_apart-returns g t c e =
    let ended = nil_from_length c.loop-one.left.now (search rules) in
    meeting_ended _ _ _ _ _ c.loop-one.invariant ended c.requires.few.names c.requires.many.names

pub are_apart-returns-then-highs-lows : goal.are_apart-returns-then-highs-lows
are_apart-returns-then-highs-lows g t c e =
    let other_way = c.few_are_apart.ensures e in
    record { low_files = other_way.high_files; high_files = other_way.low_files }

pub is_apart-returns-then-is_bare : goal.is_apart-returns-then-is_bare
is_apart-returns-then-is_bare g t c e = record {
  low_file = file_alone g.T.Cuts.removed c.args.low.now c.args.high.now (c.is_bare-then-is_bare.ensures e);
  high_file = file_alone g.T.Cuts.removed c.args.high.now c.args.low.now (c.is_bare.ensures (search rules));
}

pub is_apart-returns : goal.is_apart-returns
is_apart-returns g t c e =
    let apart = c.are_apart.ensures e in
    let low : (g.T.Cuts.removed c.args.low.now.value).cut ≡ false = search rules in
    let high : (g.T.Cuts.removed c.args.high.now.value).cut ≡ false = search rules in
    record {
      low_file = unmarked_folder g.T.Cuts.removed c.args.low.now c.args.high.now c.children.result.now c.children-2.result.now [] refl
          c.children.ensures.below c.children-2.ensures.below low apart.low_files;
      high_file = unmarked_folder g.T.Cuts.removed c.args.high.now c.args.low.now c.children-2.result.now c.children.result.now [] refl
          c.children-2.ensures.below c.children.ensures.below high apart.high_files;
    }

pub few_are_apart-seek-requires : goal.few_are_apart-seek-requires
few_are_apart-seek-requires g t c = c.loop-one.invariant.rest_names

pub few_are_apart-loop-one-smaller-else-not-is_apart : goal.few_are_apart-loop-one-smaller-else-not-is_apart
few_are_apart-loop-one-smaller-else-not-is_apart g t c = shorter _ _ _ c.in-Some.ensures.cases.0

pub few_are_apart-loop-one-smaller : goal.few_are_apart-loop-one-smaller
few_are_apart-loop-one-smaller g t c = shorter _ _ _ c.in-Some.ensures.cases.0
