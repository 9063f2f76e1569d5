use Rattle.std.proofs.Common.{◌≡◌, sym, ap, ◌∙◌, rules, to_z, of_z, w32}
use Rattle.std.proofs.lemmas.Int.{to_z-of_z}
use Rattle.link_program.specs.declared.symbol.Lead.TheVariants as leads
use Rattle.link_loader.specs.Cells.{cell_at}
use Rattle.link_loader.specs.Words.{foreign_value, value_by}
use Rattle.link_loader.specs.Layout.{loading}
use Rattle.link_loader.proofs.windows.symbol_value.Goals as goal

pub returns-in-Import : goal.returns-in-Import
returns-in-Import g c =
    let a = c.args in
    let k = loading g.s a.layout in
    let lead : a.symbol.lead ≡ leads.Import c.in-Import.field-0 = search rules in
    let round : to_z w32 (of_z w32 a.addend) ≡ a.addend = to_z-of_z w32 a.addend c.ranges.addend in
    c.outside_value-value.ensures g.s
    ∙ ap (λ n. foreign_value k a.kind n (cell_at k.cells a.at a.symbol)) round
    ∙ ap (value_by k a.kind a.addend a.at a.symbol) (sym lead)
