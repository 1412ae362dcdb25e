-- A place of an image.
use Rattle.std.specs.Prelude.{ℕ, List}

-- the place of a header in this image
pub record HeaderPlace : Type 0 where
  pub image : List ℕ
  pub at : ℕ
