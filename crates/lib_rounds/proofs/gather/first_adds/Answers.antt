use Rattle.std.proofs.Common.{[]}
use Rattle.std.specs.Prelude.{flat_map}
use Rattle.round_rules.specs.Rounds.{strong_names}
use Rattle.lib_rounds.specs.Held.{loaded_objects}
use Rattle.lib_rounds.proofs.Gathering.{looks_more, looks_empty}
use Rattle.lib_rounds.proofs.gather.first_adds.Goals as goal

pub returns : goal.returns
returns g c inputs shows =
    looks_more g.w c.args.sight.inputs.libraries.now c.args.sight.inputs.files.now c.args.sight.slots.now c.args.wanted.now (flat_map strong_names
    (loaded_objects c.args.sight.slots.now)) c.new-adds.result c.look_asked.new.adds c.look_loaded.new.adds c.in_ok-look_asked.ensures
    c.in_ok-look_loaded.ensures
    inputs [] shows (looks_empty g.w c.args.sight.inputs.libraries.now c.args.sight.inputs.files.now c.args.sight.slots.now c.new-adds.result
    inputs c.new-adds.ensures.empty c.new-adds.ensures.ordered)
