use Rattle.std.proofs.Common.{rules, ◌≡◌, Some, sym, ap, ◌∙◌}
use Rattle.link_keys.specs.link_program.declared.named.Named.TheVariants.{Symbol}
use Rattle.shared_keys.specs.Foreign.{put_cell, put_named}
use Rattle.shared_keys.proofs.foreign.put_named.Goals as goal

pub returns-in_ok-put_cell-in-Symbol : goal.returns-in_ok-put_cell-in-Symbol
returns-in_ok-put_cell-in-Symbol c =
    let is : c.args.named ≡ Symbol c.in-Symbol.kind c.in-Symbol.place c.in-Symbol.addend c.in-Symbol.symbol = search rules in
    let put : put_cell c.args.names.now.names c.args.resolution.now.imports c.in-Symbol.kind c.symbol_at-shown.result (Some c.args.cells.now.keys) ≡ Some c.put_cell.new.cells.keys = search rules in
    ap (put_named c.args.names.now.names c.args.resolution.now.imports c.args.symbols.now (Some c.args.cells.now.keys)) is
    ∙ ap (λ s. put_cell c.args.names.now.names c.args.resolution.now.imports c.in-Symbol.kind s (Some c.args.cells.now.keys)) (sym c.symbol_at-shown.ensures)
    ∙ put
