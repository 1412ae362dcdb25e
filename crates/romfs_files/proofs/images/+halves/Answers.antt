use Rattle.std.proofs.Common.{◌+◌, sym, subst, vec_len, arith}
use Rattle.romfs_files.specs.Unread.{IsReadUpTo}
use Rattle.romfs_files.proofs.Loads.{both_loaded, halves}
use Rattle.romfs_files.proofs.images.+halves.Goals as goal

pub split_at-requires : goal.split_at-requires
split_at-requires g t c = omega arith

pub overflow_add-next : goal.overflow_add-next
overflow_add-next g t c = omega arith

pub returns-clause-count : goal.returns-clause-count
returns-clause-count g t c =
    let (low_digests, high_digests) = c.split_at-2.result in
    let (high, low) = c.join-high.result in
    let parts = c.split_at-2.ensures in
    let upper = subst (λ n. IsReadUpTo c.args.loading (c.args.first + n) high_digests.now (vec_len high.images) high.end)
    (sym parts.front_len) c.join-high.ensures.first.0 in
    subst (λ ds. IsReadUpTo c.args.loading c.args.first ds (vec_len c.both.result.images) c.both.result.end)
    (halves _ low_digests.now high_digests.now c.args.digests.now parts.front parts.back)
    (c.both.ensures.read c.args.loading c.args.first low_digests.now high_digests.now c.join-high.ensures.second.0 upper)

pub returns-clause-read : goal.returns-clause-read
returns-clause-read g t c =
    let (high, low) = c.join-high.result in
    let (low_digests, high_digests) = c.split_at-2.result in
    let parts = c.split_at-2.ensures in
    both_loaded g.R.File.Read.remaining c.args.loading c.args.first low_digests.now high_digests.now c.args.digests.now
    low.images.items high.images.items c.both.result.images.items low.end
    (halves _ low_digests.now high_digests.now c.args.digests.now parts.front parts.back)
    (subst (λ m. IsReadUpTo c.args.loading c.args.first low_digests.now m low.end) low.images.ok.0 c.join-high.ensures.second.0)
    c.both.ensures.either c.join-high.ensures.second.1 c.join-high.ensures.first.1

pub overflow_sub-less : goal.overflow_sub-less
overflow_sub-less g t c = omega arith

pub load_in_turn-requires : goal.load_in_turn-requires
load_in_turn-requires g t c = c.requires

pub returns-then-forks-eq0-clause-count : goal.returns-then-forks-eq0-clause-count
returns-then-forks-eq0-clause-count g t c = c.load_in_turn.ensures.count

pub returns-then-forks-eq0-clause-read : goal.returns-then-forks-eq0-clause-read
returns-then-forks-eq0-clause-read g t c = c.load_in_turn.ensures.read

pub join+arg2-returns : goal.join+arg2-returns
join+arg2-returns g t c = record { count = c.load_from.ensures.count; read = c.load_from.ensures.read }

pub join+arg3-returns : goal.join+arg3-returns
join+arg3-returns g t c = record { count = c.load_from.ensures.count; read = c.load_from.ensures.read }
