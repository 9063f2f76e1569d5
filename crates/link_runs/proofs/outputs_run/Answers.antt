use Rattle.link_runs.proofs.outputs_run.Goals as goal
use Rattle.link_runs.proofs.OutputsRun.{output_law}

pub returns : goal.returns
returns c = output_law c.runs_agree.ensures c.outputs_are_read.ensures c.bodies_take_references.ensures c.values_and_segments_fit.ensures.values c.values_and_segments_fit.ensures.memory
