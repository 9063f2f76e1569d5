use Rattle.std.proofs.Common.{◌+◌, arith, sym, ap}
use Rattle.link_marks.specs.link_program.name_entries.View.{entry_at}
use Rattle.lost_ctors.specs.Inits.{lost_by}
use Rattle.lost_ctors.proofs.LostInits.{shown_none, number_within}
use Rattle.lost_ctors.proofs.inits.is_lost.Goals as goal

pub returns-in_default : goal.returns-in_default
returns-in_default c =
    sym (ap (lost_by c.args.tables.now c.args.alive (c.args.first + c.args.init.symbol)) (shown_none c.args.entries.names.now.names (entry_at c.args.entries.objects.now c.args.object c.args.init.symbol) c.in_default.ensures))

pub overflow_add-number : goal.overflow_add-number
overflow_add-number c =
    let within = number_within c.args.entries.names.now.names c.args.entries.objects.now c.args.object c.args.init.symbol c.in-Some.entry c.in-Some.ensures in
    omega (arith, within, c.requires.few)
