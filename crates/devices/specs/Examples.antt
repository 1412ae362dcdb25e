-- Worked examples: the numbers of the limits.
use Rattle.std.specs.Prelude.{◌≡◌, ◌^◌}
use Rattle.devices.specs.declared.limits.TheConstants.{MAX_TURNS, PULL_SIZE}

-- the limits of what is pulled
pub record LimitExamples : Type 0 where
  pub pull : PULL_SIZE ≡ 65536
  pub turns : MAX_TURNS ≡ 2 ^ 40
