use Rattle.std.proofs.Common.{◌≡◌, vec_len}
use Rattle.romfs_files.specs.Sealing.{AreLoadedBy}
use Rattle.romfs_files.proofs.images.add_in_turn.Given as goal

-- an image for each path so far, as it is read
abbrev pub invariant-loop-at : goal.invariant-loop-at
invariant-loop-at g l = record {
  count : vec_len l.images ≡ l.at;
  read : AreLoadedBy g.R.File.Read.remaining l.fn.loading l.fn.digests l.images.items;
}
