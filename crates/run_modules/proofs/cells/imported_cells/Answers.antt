use Rattle.std.proofs.Common.{ℕ, ap, sym, ◌∙◌, Some}
use Rattle.std.specs.Prelude.{option_map}
use Rattle.run_rules.specs.Modules.{imported_globals, cell_at}
use Rattle.run_modules.specs.Keys.{key_seen}
use Rattle.run_modules.proofs.Steps.{cells_more, cells_passed}
use Rattle.run_modules.proofs.cells.imported_cells.Goals as goal
use Rattle.run_modules.proofs.cells.imported_cells.Goals.{in-Some+in_ok-cell+in_ok-push, in_default}

pub loop-import-preserved : goal.loop-import-preserved
loop-import-preserved c =
    let all = c.args.imports.now in
    let globals = imported_globals all in
    let i = c.loop-import.import-index in
    elim c.match-key_in.branch [
      | in-Some+in_ok-cell+in_ok-push w ↦
          let g = key_seen w.in-Some.key in
          rw w.cells-is (cells_more all globals i c.import-item.result g w.in_ok-cell.cell c.loop-import.cells w.push.new.self _ c.loop-import-test.true c.import-item.is
          (sym c.key_in.ensures ∙ ap (option_map key_seen) w.in-Some.is)
          (w.in_ok-cell.ensures globals c.in_ok-places.ensures ∙ ap (λ (n : ℕ). cell_at globals n (Some g)) w.len.ensures)
          w.in_ok-push.ensures.ok c.loop-import.invariant)
      | in_default w ↦
          rw w.cells-is (cells_passed all globals i c.import-item.result c.loop-import.cells _ c.loop-import-test.true c.import-item.is
          (sym c.key_in.ensures ∙ ap (option_map key_seen) w.in_default.is) c.loop-import.invariant)
    ]
