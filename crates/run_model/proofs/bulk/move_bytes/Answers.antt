use Rattle.std.proofs.Common.{◌∙◌}
use Rattle.run_model.proofs.bulk.move_bytes.Goals as goal
use Rattle.run_model.proofs.Moved.{copied}

pub returns : goal.returns
returns c = c.copy_within.ensures.after ∙ copied c.args.memory.now c.args.from c.args.to c.args.count c.requires.from
