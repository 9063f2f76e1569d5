use Rattle.std.proofs.Common.{◌<◌, length, refl, sym, subst}
use Rattle.link_program.specs.wasm_types.declared.import.Import.{Import}
use Rattle.link_program.specs.linking_section.declared.symbol.SymbolKind.TheVariants.{Function}
use Rattle.link_program.specs.object_rules.Spaces.{is_of, imports_of}
use Rattle.found_numbers.specs.Found.{is_function_at}
use Rattle.found_numbers.proofs.Found.{counted_step}
use Rattle.found_numbers.proofs.counting.imported_functions.Goals as goal

pub loop-at-preserved : goal.loop-at-preserved
loop-at-preserved c =
    counted_step (λ (i : Import). is_of Function i.kind) is_function_at (λ i. refl) c.args.imports.now c.loop-at.at (subst (λ n. c.loop-at.at < n) c.len-at-end.ensures c.loop-at-test.true) c.loop-at.count c.plus_if-count.result (length (imports_of Function c.args.imports.now))
    c.is_function_at.result (sym c.is_function_at.ensures) c.plus_if-count.ensures c.loop-at.invariant
