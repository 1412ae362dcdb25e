-- Laws of command lines.
use Rattle.std.specs.Prelude.{◌≡◌, List, [], ◌∷◌}
use Rattle.clap.specs.Walk.{Text}
use Rattle.clap.specs.declared.error.kind.ErrorKind.TheVariants.{DisplayVersion}
use Rattle.strata_words.specs.declared.options.Line.{Line}
use Rattle.strata_words.specs.declared.options.LineFault.{LineFault}
use Rattle.strata_words.specs.declared.options.LineFault.TheVariants.{Memory}
use Rattle.strata_words.specs.declared.options.NoLine.{NoLine}
use Rattle.strata_words.specs.declared.options.NoLine.TheVariants.{Fault}
use Rattle.strata_words.specs.CommandLine.{IsLineFault, IsLineOf, IsNoLine, LineParts, Says, faults_in}

-- two lines of the same arguments are equal
pub record LinesAgree : Type 0 where
  pub both_say : (words : List Text) (a b : Line) → IsLineOf words a → IsLineOf words b
      → (parts : LineParts) × Says a parts × Says b parts

-- arguments with a line meet no fault but lack of memory, and do not ask for the version
pub record LinesAreFaultless : Type 0 where
  pub only_memory : (words : List Text) (line : Line) (fault : NoLine) → IsLineOf words line
      → IsNoLine words fault → fault ≡ Fault Memory

-- arguments that `clap` refuses to print the version, and for nothing else, meet no fault but lack
-- of memory
pub record VersionIsFaultless : Type 0 where
  pub only_memory : (words : List Text) (fault : LineFault)
      → faults_in words ≡ DisplayVersion ∷ [] → IsLineFault words fault → fault ≡ Memory
