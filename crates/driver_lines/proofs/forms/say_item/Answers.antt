use Rattle.std.proofs.Common.{ap}
use Rattle.link_lines.specs.declared.label.Label.{Label}
use Rattle.link_lines.specs.Labels.{label_texts}
use Rattle.driver_lines.specs.Called.{called_texts}
use Rattle.driver_lines.specs.Lines.{item_line}
use Rattle.driver_lines.proofs.Said.{said}
use Rattle.driver_lines.proofs.forms.say_item.Goals as goal

pub returns-in-Alone : goal.returns-in-Alone
unfolding item_line
returns-in-Alone g c =
    said _ _ _ _ _ (ap (λ (l : Label). item_line c.args.program.now (called_texts c.args.called) (label_texts l)) c.in-Alone.is) c.print.ensures

pub returns-in-With : goal.returns-in-With
unfolding item_line
returns-in-With g c =
    said _ _ _ _ _ (ap (λ (l : Label). item_line c.args.program.now (called_texts c.args.called) (label_texts l)) c.in-With.is) c.print-in-With.ensures

pub returns-in-WithTwo : goal.returns-in-WithTwo
unfolding item_line
returns-in-WithTwo g c =
    said _ _ _ _ _ (ap (λ (l : Label). item_line c.args.program.now (called_texts c.args.called) (label_texts l)) c.in-WithTwo.is) c.print-in-WithTwo.ensures
