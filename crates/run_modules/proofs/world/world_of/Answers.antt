use Rattle.std.proofs.Common.{ap, ◌∙◌, ◌++◌}
use Rattle.run_rules.specs.Modules.{first, imported_tables}
use Rattle.run_modules.proofs.Seen.{fit_table}
use Rattle.run_modules.proofs.world.world_of.Goals as goal

pub table_of-requires : goal.table_of-requires
table_of-requires c =
    let m = c.args.m.now in
    fit_table c.args.firsts.now m c.first_table-table.result c.as_slice-3.result.now
    (c.first_table-table.ensures ∙ ap (λ is. first (imported_tables is ++ c.as_slice-2.result.now)) c.as_slice.ensures ∙ ap (λ ts. first (imported_tables m.imports ++ ts)) c.as_slice-2.ensures)
    c.as_slice-3.ensures c.requires
