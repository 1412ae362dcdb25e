use Rattle.std.proofs.Common.{refl}
use Rattle.std.specs.Fmt.{digits}
use Rattle.romfs_format.specs.Fields.{word}
use Rattle.stack_model.specs.Numbers.{nodes, number_of, children}
use Rattle.node_list.specs.Lines.{line_with}
use Rattle.node_list.proofs.examples.root_alone.Goals as goal

pub returns : goal.returns
unfolding line_with nodes number_of children word digits
returns c = refl
