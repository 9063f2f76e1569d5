use Rattle.std.proofs.Common.{ap, ◌∙◌}
use Rattle.run_rules.specs.Modules.{first_values, imported_globals}
use Rattle.run_modules.specs.Cells.{cells_from}
use Rattle.run_modules.proofs.Seen.{world_is}
use Rattle.run_modules.proofs.world.module_world.Goals as goal

pub returns-clause-world : goal.returns-clause-world
returns-clause-world c =
    let s = c.args.session.now in
    c.in_ok-world.ensures ∙ world_is s c.args.m.now c.as_slice-3.result.now c.as_slice-4.result.now
    (c.as_slice-3.ensures ∙ c.in_ok-firsts.ensures ∙ ap (λ is. first_values s (imported_globals is)) c.as_slice.ensures)
    (c.as_slice-4.ensures ∙ c.in_ok-numbers.ensures ∙ ap (λ is. cells_from (imported_globals is) 0 (imported_globals is)) c.as_slice-2.ensures)
