use Rattle.std.proofs.Common.{◌≡◌, ◌≤◌, ap, subst, arith, ◌+◌, ◌/◌, length}
use Rattle.romfs_held.specs.Blocks.{HasNumbers, IsFollowed, filled}
use Rattle.romfs_held.proofs.Fronts.{filled_long}
use Rattle.romfs_held.proofs.Rows.{followed_kept, followed_below, followed_filled}
use Rattle.romfs_held.proofs.kept.Kept.followed.Given.{Over}
use Rattle.romfs_held.proofs.kept.Kept.followed.Goals.{In_ok-note}
use Rattle.romfs_held.proofs.kept.Kept.followed.Goals as goal

module _ (g : Over) (c : In_ok-note g) where
  behind : c.self.inside.size ≤ c.args.at
  behind =
      let v = ap length c.self.view_is in
      let f = filled_long c.self.inside.size c.self.inside.blocks.items c.self.inside.bytes.items in
      let b = c.requires.behind in
      omega arith

  row : HasNumbers c.self.inside.blocks.items (c.args.at / 16) ((length c.args.tail.now + 15) / 16) c.add_row.new.blocks.items
  row =
      let count : c.div_ceil-count.result ≡ (length c.args.tail.now + 15) / 16 = omega (arith, c.div_ceil-count.ensures) in
      subst (λ n. HasNumbers c.self.inside.blocks.items (c.args.at / 16) n c.add_row.new.blocks.items) count c.in_ok-add_row.ensures

pub invariant_of-result : goal.invariant_of-result
invariant_of-result g c = (
  followed_kept _ _ _ _ _ c.self.inside.size _ c.self.invariant.0 c.self.invariant.1 (behind g c) c.requires.even (row g c)
      c.in_ok-add_padded.ensures,
  followed_below _ _ _ _ _ c.self.inside.size _ c.self.invariant.0 c.self.invariant.1 (behind g c) c.requires.even (row g c)
      c.in_ok-add_padded.ensures,
)

pub returns : goal.returns
returns g c =
    subst (λ a. IsFollowed a c.args.at c.args.tail.now (filled (c.args.at + length c.args.tail.now) c.add_row.new.blocks.items
    c.add_padded.new.bytes.items)) c.self.view_is
    (followed_filled _ _ _ _ _ c.self.inside.size _ c.self.invariant.0 c.self.invariant.1 (behind g c) c.requires.even (row g c)
    c.in_ok-add_padded.ensures)
