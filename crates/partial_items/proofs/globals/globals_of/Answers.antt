use Rattle.std.proofs.Common.{ap, ◌∙◌, filter_map}
use Rattle.partial_items.specs.Items.{global_for}
use Rattle.partial_items.proofs.Contents.{globals_are}
use Rattle.partial_items.proofs.globals.globals_of.Goals as goal

pub returns : goal.returns
returns c = λ p is strict files same.
    c.in_ok-rows.ensures
    ∙ (ap (λ fs. filter_map (global_for fs c.args.program.objects.now c.args.program.tables.now) c.args.globals.now) files
    ∙ globals_are c.args.program p is strict c.args.globals.now same)
