use Rattle.std.proofs.Common.{[]}
use Rattle.lib_rounds.proofs.Gathering.{looks_empty}
use Rattle.lib_rounds.proofs.gather.next_adds.Goals as goal

pub returns : goal.returns
returns g c inputs shows = c.in_ok-look_new.ensures inputs [] shows (looks_empty g.w c.args.sight.inputs.libraries.now
    c.args.sight.inputs.files.now c.args.sight.slots.now c.new-adds.result inputs c.new-adds.ensures.empty c.new-adds.ensures.ordered)
