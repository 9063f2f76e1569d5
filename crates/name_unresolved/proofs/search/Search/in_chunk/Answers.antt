use Rattle.std.proofs.Common.{◌∙◌, arith}
use Rattle.name_unresolved.proofs.Live.{ctors_refer}
use Rattle.name_unresolved.proofs.search.Search.in_chunk.Goals as goal

pub returns-then-chunk-eq0-2 : goal.returns-then-chunk-eq0-2
returns-then-chunk-eq0-2 c = c.in_inits.ensures ∙ ctors_refer c.args.self.now c.args.chunk (omega arith) (omega arith) (omega arith)
