use Rattle.std.proofs.Common.{arith, length}
use Rattle.std.proofs.lemmas.Result.{IfOk-weaker}
use Rattle.romfs_rules.specs.SameNames.{AreChosen, HaveSameNames}
use Rattle.romfs_rules.proofs.HeadNumbers.{class_below, next_below}
use Rattle.romfs_rules.proofs.SameNaming.{AreClimbed, numbered, same_names}
use Rattle.romfs_rules.proofs.same_names.same_names_by.Goals as goal

pub next_numbers-requires-clause-numbered : goal.next_numbers-requires-clause-numbered
next_numbers-requires-clause-numbered g c = rw c.in_ok-numbers.ensures (numbered _ _ _ c.requires.chains.headers c.requires.heads)

pub chosen-requires-clause-rising : goal.chosen-requires-clause-rising
chosen-requires-clause-rising g c = c.requires.heads.rising

pub returns : goal.returns
returns g c =
    let a = c.args.volume.now.bytes.now in
    let heads = c.args.heads.now in
    let climbed : AreClimbed a heads c.args.chains.now.headers c.in_ok-noted.noted.items = record {
      order = record { numbered = numbered a _ heads c.requires.chains.headers c.requires.heads; alone = c.requires.alone };
      next = c.in_ok-next.next.items;
      class = c.args.class.items;
      leads = c.in_ok-next.ensures;
      classes = c.requires.class;
      notes = c.in_ok-noted.ensures;
    } in
    IfOk-weaker c.chosen.result (λ found. AreChosen heads c.in_ok-noted.noted.items (length heads) found.items)
    (λ found. HaveSameNames a found.items)
    (λ found chosen. same_names a heads c.args.chains.now.headers c.in_ok-noted.noted.items climbed found.items chosen)
    (rw c.deref.ensures.value at c.chosen.ensures)

pub note_repeats-requires-clause-few : goal.note_repeats-requires-clause-few
note_repeats-requires-clause-few g c =
    let few = c.requires.heads.few in
    let sized = c.requires.chains.headers.sized in
    let small = c.args.volume.now.keeps.small in
    let next = c.in_ok-next.ensures.sized in
    omega arith

pub note_repeats-requires-clause-leads : goal.note_repeats-requires-clause-leads
note_repeats-requires-clause-leads g c = next_below c.in_ok-next.ensures

pub note_repeats-requires-clause-classes : goal.note_repeats-requires-clause-classes
note_repeats-requires-clause-classes g c = class_below c.in_ok-next.ensures c.requires.class
