use Rattle.std.proofs.Common.{ap, sym, ◌∙◌, Some, None}
use Rattle.std.specs.Prelude.{option_copied}
use Rattle.run_modules.proofs.SameCells.{found_cell}
use Rattle.run_modules.proofs.keys.cell_of.Goals as goal
use Rattle.run_modules.proofs.keys.cell_of.Goals.{in-Some, in-None}

pub returns : goal.returns
returns c = λ globals are.
    elim c.match-get.branch [
      | in-Some w ↦ w.cell-is ∙ found_cell globals c.args.key (Some w.in-Some.place.now) c.args.next (sym (ap option_copied w.in-Some.is) ∙ c.get.ensures.value ∙ are c.args.key)
      | in-None w ↦ w.cell-is ∙ found_cell globals c.args.key None c.args.next (sym (ap option_copied w.in-None.is) ∙ c.get.ensures.value ∙ are c.args.key)
    ]
