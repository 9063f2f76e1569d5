use Rattle.std.proofs.Common.{sym, ap, ◌∙◌, map, filter_map}
use Rattle.partial_imports.specs.Opens.{open_at, open_seen}
use Rattle.partial_imports.proofs.Opened.{opens_are}
use Rattle.partial_imports.proofs.opens.opens_of.Goals as goal

pub returns : goal.returns
returns c = λ d p is objects names seen standing.
    ap (map (open_seen p.objects))
    (c.in_ok-opens.ensures ∙ (λ i. filter_map (open_at c.args.sight.now (sym names i).names (sym objects i)) c.args.symbols.now))
    ∙ opens_are d p is c.args.sight.now seen c.args.symbols.now standing
