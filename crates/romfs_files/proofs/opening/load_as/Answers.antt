use Rattle.std.proofs.Common.{sym, subst}
use Rattle.romfs_files.specs.Data.{source_of}
use Rattle.romfs_files.specs.Loaded.{ReadsTrailer}
use Rattle.romfs_files.proofs.Files.{not_gathered, opened_as}
use Rattle.romfs_files.proofs.opening.load_as.Goals as goal

pub returns-in_ok-data_of-in-Open-clause-ok : goal.returns-in_ok-data_of-in-Open-clause-ok
returns-in_ok-data_of-in-Open-clause-ok g c =
    opened_as c.args.kind (g.F.Read.remaining c.args.file) c.args.loading c.in-Open.trailers c.in_ok-data_of-in-Open.field-0
    c.open.result c.in-Open.is c.in_ok-data_of-in-Open.ensures.ok c.open.ensures.ok

pub returns-in_ok-data_of-in-Open-clause-err : goal.returns-in_ok-data_of-in-Open-clause-err
returns-in_ok-data_of-in-Open-clause-err g c =
    not_gathered c.in-Open.trailers (source_of c.in_ok-data_of-in-Open.field-0) c.open.result
    (λ read far. subst ReadsTrailer (sym c.in-Open.is) read) c.open.ensures.err

pub returns-in_ok-data_of-in-Gather-clause-err : goal.returns-in_ok-data_of-in-Gather-clause-err
returns-in_ok-data_of-in-Gather-clause-err g c =
    not_gathered c.in-Gather.trailers (source_of c.in_ok-data_of-in-Gather.field-0) c.let_go.result
    (λ read far. subst ReadsTrailer (sym c.in-Gather.is) read) c.let_go.ensures.err
