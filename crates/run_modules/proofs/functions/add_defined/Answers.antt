use Rattle.std.proofs.Common.{ap, ◌∙◌}
use Rattle.std.specs.Prelude.{slice_get, get_or}
use Rattle.run_rules.specs.declared.world.Source.{Source}
use Rattle.run_rules.specs.Modules.{typed}
use Rattle.run_rules.specs.Ops.{op_of}
use Rattle.run_modules.specs.Cells.{cell_seen}
use Rattle.run_modules.proofs.functions.add_defined.Goals as goal
use Rattle.run_modules.proofs.Steps.{defined_more}

pub loop-place-preserved : goal.loop-place-preserved
loop-place-preserved c =
    defined_more (op_of c.args.types.now (cell_seen c.args.cells.now)) c.args.types.now c.args.indexes.now c.args.bodies.now c.loop-place.place 0 c.in_ok-typed.field-0 c.loop-place.to c.push.new.self _ c.loop-place-test.true
    (c.in_ok-typed.ensures ∙ ap (λ (s : Source). typed s (slice_get c.args.types.now (get_or c.args.indexes.now c.loop-place.place 0))) c.in_ok-source.ensures)
    c.in_ok-push.ensures.ok c.loop-place.invariant
