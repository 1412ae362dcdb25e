use Rattle.std.proofs.Common.{◌≡◌, ◌+◌, ◌-◌, ◌^◌, ◌≤◌, ◌%◌, take, drop}
use Rattle.romfs_format.specs.Fields.{word_sum}
use Rattle.romfs_held.specs.Blocks.{filled}
use Rattle.romfs_held.proofs.blocks.sum_of_words.Given as goal

-- the sum so far, with that of the rest, is that of all bytes
abbrev pub invariant-loop-done : goal.invariant-loop-done
invariant-loop-done l = record {
  within : l.done ≤ l.len;
  sum : (l.sum + word_sum (drop l.done (take l.len (drop l.at (filled l.size l.blocks.all.now l.bytes))))) % 2 ^ 32
      ≡ word_sum (take l.len (drop l.at (filled l.size l.blocks.all.now l.bytes))) % 2 ^ 32;
}

-- how many bytes are left
abbrev pub decreases-loop-done : goal.decreases-loop-done
decreases-loop-done l = l.len - l.done
