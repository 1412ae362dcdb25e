use Rattle.std.proofs.Common.{◌≡◌}
use Rattle.std.specs.Io.KnownBytes.{Consumes}
use Rattle.romfs_files.proofs.whole.read_all.Given as goal

-- what was appended so far is what the source has given, in one pull a turn, none of which met the
-- end or failed
abbrev pub invariant-loop-pull : goal.invariant-loop-pull
invariant-loop-pull g l =
    let p = (g.S.Source.state l.source).counts in
    Consumes (g.S.Source.state l.fn.source).left (g.S.Source.state l.source).left l.bytes.items
    × (p.pulls ≡ l._pull) × (p.ends ≡ 0) × (p.failures ≡ 0)
