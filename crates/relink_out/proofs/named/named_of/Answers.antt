use Rattle.std.proofs.Common.{map, sym, ap, ◌∙◌}
use Rattle.partial_items.specs.partial_symbols.Known.{symbol_there}
use Rattle.relink_out.proofs.named.named_of.Goals as goal

pub returns : goal.returns
returns c = λ p is strict found.
    let standing = ap (map (symbol_there p.objects)) c.symbols-standing.ensures ∙ found.standing.symbols in
    record {
      exports = c.in_ok-exports.ensures p is found.kept found.functions;
      symbols = c.in_ok-symbols.ensures c.args.program p is (sym c.requires.objects) (sym c.requires.names)
          (record { sight = found.sight; kept = found.kept; chunks = is.tables.chunks; functions = found.functions; globals = found.globals }) standing;
      inits = c.in_ok-inits.ensures c.args.program p is strict (sym c.requires.objects) (sym c.requires.names) found.standing;
    }
