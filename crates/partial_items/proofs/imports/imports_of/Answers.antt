use Rattle.std.proofs.Common.{sym, ap, ◌∙◌, ◌∷◌, filter_map}
use Rattle.partial_tree.specs.partial_rules.Partial.{memory_import}
use Rattle.partial_items.specs.Imports.{first_table, import_if}
use Rattle.partial_items.proofs.Taken.{imports_are}
use Rattle.partial_items.proofs.imports.imports_of.Goals as goal

pub returns-clause-imports : goal.returns-clause-imports
returns-clause-imports c = λ p objects types standing seen.
    c.in_ok-imports.ensures.imports
    ∙ (ap (λ w. memory_import ∷ filter_map (import_if c.args.numbers.now c.args.entries.objects.now w) c.args.opens.now) c.first_table-table.ensures
    ∙ ((λ i. memory_import ∷ filter_map (import_if (types i) (sym objects i) (first_table (sym objects i) c.args.symbols.now)) c.args.opens.now)
    ∙ imports_are p c.args.opens.now c.args.symbols.now standing seen))
