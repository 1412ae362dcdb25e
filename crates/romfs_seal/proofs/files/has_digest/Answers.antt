use Rattle.std.proofs.Common.{◌∙◌, sym, ap}
use Rattle.devices.specs.Tree.{digest_size}
use Rattle.romfs_seal.proofs.Blocks.{digest_is}
use Rattle.romfs_seal.proofs.files.has_digest.Goals as goal

pub returns-clause-there : goal.returns-clause-there
returns-clause-there g c is =
    sym (c.as_bytes.ensures ∙ c.hash-digest.ensures) ∙ c.stands_at.ensures.there is
    ∙ digest_is ((g.F.NamedFiles.seal c.args.files.now).algorithm) c.digest_size.result c.args.place c.args.digests.now
    (c.digest_size.ensures.size ∙ ap digest_size c.algorithm.ensures)

pub returns-clause-not : goal.returns-clause-not
returns-clause-not g c is same =
    c.stands_at.ensures.not is
    (c.as_bytes.ensures ∙ c.hash-digest.ensures ∙ same
    ∙ sym (digest_is ((g.F.NamedFiles.seal c.args.files.now).algorithm) c.digest_size.result c.args.place c.args.digests.now
    (c.digest_size.ensures.size ∙ ap digest_size c.algorithm.ensures)))
