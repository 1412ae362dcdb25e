use Rattle.std.proofs.Common.{◌≡◌, ◌<◌, ◌^◌}
use Rattle.std.specs.Prelude.{IfSome}
use Rattle.romfs_format.specs.Acls.{bits_among}
use Rattle.romfs_rows.proofs.acl.bits_of.Given as goal

-- what was found among the entries so far
abbrev pub invariant-loop-number : goal.invariant-loop-number
invariant-loop-number l = record {
  is : l.found ≡ bits_among l.tag l.value l.number;
  small : IfSome l.found (λ bits. bits < 2 ^ 16);
}
