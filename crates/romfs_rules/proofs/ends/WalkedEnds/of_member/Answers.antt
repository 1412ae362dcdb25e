use Rattle.std.proofs.Common.{refl}
use Rattle.romfs_rules.proofs.EndWalk.{back, first_target}
use Rattle.romfs_rules.proofs.ends.WalkedEnds.of_member.Goals as goal

pub at-requires : goal.at-requires
at-requires g c = (
  c.args.volume.now.bytes.now,
  record {
    known = c.requires.ends;
    target = rw (c.cleared-to.ensures, c.word.ensures) (first_target c.args.volume.now.bytes.now c.args.at c.requires.member
        c.requires.hard);
    hard = c.if-is_hard_link.ensures.0 refl;
  },
)

pub returns-then-is_hard_link : goal.returns-then-is_hard_link
returns-then-is_hard_link g c =
    let a = c.args.volume.now.bytes.now in
    let at = c.args.at in
    back a at c.at.result c.requires.hard (rw (← c.word.ensures, ← c.cleared-to.ensures) (c.at.ensures a (record {
      known = c.requires.ends;
      target = rw (c.cleared-to.ensures, c.word.ensures) (first_target a at c.requires.member c.requires.hard);
      hard = c.if-is_hard_link.ensures.0 refl;
    })))

pub returns-else-is_hard_link : goal.returns-else-is_hard_link
returns-else-is_hard_link g c = back c.args.volume.now.bytes.now c.args.at c.end_at.result c.requires.hard
    (rw (← c.word.ensures, ← c.cleared-to.ensures) c.end_at.ensures)
