use Rattle.std.proofs.Common.{sym, ap, ◌∙◌, map}
use Rattle.partial_items.specs.partial_symbols.Known.{symbol_there}
use Rattle.partial_items.specs.partial_imports.Opens.{open_seen}
use Rattle.relink_out.proofs.found.found_of.Goals as goal

pub returns : goal.returns
returns c = λ p is.
    let sight = c.in_ok-sight.ensures p is in
    let standing = c.in_ok-standing.ensures p is sight in
    let opens = c.in_ok-opens.ensures c.args.program p is (sym c.requires.objects) (sym c.requires.names) sight (ap (map (symbol_there p.objects)) c.symbols.ensures ∙ standing.symbols) in
    let list = ap (map (open_seen p.objects)) c.as_slice-list.ensures ∙ opens in
    record {
      sight = sight;
      standing = standing;
      kept = c.in_ok-kept.ensures p is;
      opens = opens;
      functions = c.in_ok-functions.ensures p list;
      globals = c.in_ok-globals.ensures p list;
    }
