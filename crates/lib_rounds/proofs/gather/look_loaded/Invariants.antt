use Rattle.std.proofs.Common.{take}
use Rattle.std.specs.Prelude.{flat_map}
use Rattle.round_rules.specs.Rounds.{strong_names}
use Rattle.lib_rounds.specs.Held.{loaded_objects}
use Rattle.lib_rounds.specs.State.{Looks}
use Rattle.lib_rounds.proofs.gather.look_loaded.Given as goal

abbrev pub ghost-look_object : goal.ghost-look_object
ghost-look_object g a = g.w

abbrev pub invariant-loop-at : goal.invariant-loop-at
invariant-loop-at g l = Looks g.w l.sight.inputs.libraries.now l.sight.inputs.files.now l.sight.slots.now (flat_map strong_names (loaded_objects
    (take l.at l.sight.slots.now))) l.fn.adds l.adds
