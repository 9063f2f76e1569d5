use Rattle.std.proofs.Common.{◌≡◌, map, slice_get, sym, ap, ◌∙◌}
use Rattle.partial_items.specs.partial_rules.Partial as partial
use Rattle.partial_items.specs.partial_symbols.Known.{symbol_there}
use Rattle.partial_items.specs.partial_imports.Opens.{open_seen}
use Rattle.partial_items.specs.Types.{number_in}
use Rattle.relink_out.proofs.typed.typed_of.Goals as goal

pub returns : goal.returns
returns c = λ p is strict found.
    let opens = ap (map (open_seen p.objects)) c.as_slice-opens.ensures ∙ found.opens in
    let kept = ap (map (slice_get p.parts)) c.functions-functions.ensures ∙ found.kept.functions in
    let standing = ap (map (symbol_there p.objects)) c.symbols-symbols.ensures ∙ found.standing.symbols in
    let types : c.new-types.result ≡ partial.types p = c.new-types.ensures ∙ c.in_ok-table.ensures p is opens kept in
    let numbers = c.in_ok-numbers.ensures.numbers ∙ (λ i. map (number_in (types i)) (c.as_slice-all.ensures i)) in
    record {
      types = c.in_ok-imports.ensures.types ∙ (c.in_ok-numbers.ensures.types ∙ types);
      numbers = numbers;
      imports = c.in_ok-imports.ensures.imports p (sym (c.requires.objects ∙ is.objects)) (c.in_ok-numbers.ensures.types ∙ types) standing opens;
      functions = c.in_ok-function_types.ensures p is strict (c.as_slice-own.ensures ∙ numbers) kept;
    }
