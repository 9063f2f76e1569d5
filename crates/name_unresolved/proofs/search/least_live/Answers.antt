use Rattle.std.proofs.Common.{◌∙◌, sym}
use Rattle.name_unresolved.specs.Search.{rows_of}
use Rattle.name_unresolved.proofs.Closed.{nothing_open}
use Rattle.name_unresolved.proofs.search.least_live.Goals as goal

pub returns-then-all_mean : goal.returns-then-all_mean
returns-then-all_mean g c =
    let s = c.args.search.now in
    nothing_open s.objects.now (rows_of s) s.live.now.words s.chunks.now (sym c.all_mean.ensures ∙ c.if-all_mean.true)
