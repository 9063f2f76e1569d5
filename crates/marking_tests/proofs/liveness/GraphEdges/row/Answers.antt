use Rattle.std.proofs.Common.{◌∙◌}
use Rattle.marking_tests.proofs.Graphs.{all_lead}
use Rattle.marking_tests.proofs.liveness.GraphEdges.row.Goals as goal

pub returns : goal.returns
returns c = all_lead c.row.result.now ∙ c.row.ensures
