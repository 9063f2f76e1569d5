use Rattle.std.proofs.Common.{take}
use Rattle.lib_rounds.specs.State.{Looks, names_at}
use Rattle.lib_rounds.proofs.gather.look_new.Given as goal

abbrev pub ghost-look_object : goal.ghost-look_object
ghost-look_object g a = g.w

abbrev pub invariant-loop-input : goal.invariant-loop-input
invariant-loop-input g l = Looks g.w l.sight.inputs.libraries.now l.sight.inputs.files.now l.sight.slots.now (names_at l.sight.slots.now
    (take l.input-index l.new)) l.fn.adds l.adds
