use Rattle.std.proofs.Common.{take}
use Rattle.lib_rounds.specs.State.{Looks}
use Rattle.lib_rounds.proofs.Gathering.{strong_part}
use Rattle.lib_rounds.proofs.gather.look_object.Given as goal

abbrev pub ghost-look : goal.ghost-look
ghost-look g a = g.w

abbrev pub invariant-loop-at : goal.invariant-loop-at
invariant-loop-at g l = Looks g.w l.sight.inputs.libraries.now l.sight.inputs.files.now l.sight.slots.now (strong_part
    (take l.at l.object.symbols)) l.fn.adds l.adds
