use Rattle.std.proofs.Common.{◌≡◌, ap, ◌∙◌, to_z, of_z, w32}
use Rattle.std.proofs.lemmas.Int.{to_z-of_z}
use Rattle.link_loader.specs.Words.{foreign_value}
use Rattle.link_loader.specs.Layout.{loading}
use Rattle.link_loader.proofs.windows.outside_value.Goals as goal

pub returns : goal.returns
returns c = λ s.
    let a = c.args in
    let k = loading s a.layout in
    let round : to_z w32 (of_z w32 a.addend) ≡ a.addend = to_z-of_z w32 a.addend c.ranges.addend in
    c.foreign_value.ensures s ∙ ap (λ n. foreign_value k a.kind n c.cell_at-cell.result) round ∙ ap (foreign_value k a.kind a.addend) c.cell_at-cell.ensures
