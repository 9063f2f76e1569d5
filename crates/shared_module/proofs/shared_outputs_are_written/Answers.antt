use Rattle.shared_module.proofs.shared_outputs_are_written.Goals as goal
use Rattle.shared_module.proofs.Ranged.{output_is_written}

pub returns : goal.returns
returns c = output_is_written c.entries_take_bytes.ensures.entries
