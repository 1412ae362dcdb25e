-- What the proofs of worked examples open, so that replies over images that are written out are
-- computed.
use Rattle.std.specs.Prelude.{⊤}
use Rattle.fuse_wire.proofs.Computing.{wire_on_literals}
use Rattle.stack_model.proofs.Computing.{stacks_on_literals}
use Rattle.reply_model.specs.Rows.{rows, rows_after, dirent_of, direntplus_of}
use Rattle.reply_model.specs.Examples.{empty_image, sample_image, empty_entries, sample_entries}

-- requests, replies, and the images of the examples
unfoldable pub replies_on_literals : ⊤
unfolding wire_on_literals stacks_on_literals rows rows_after dirent_of direntplus_of empty_image sample_image empty_entries sample_entries
replies_on_literals = tt
