use Rattle.lib_index.proofs.MemberSteps.{rest_of}
use Rattle.lib_index.proofs.members.behind_header.Goals as goal

pub returns-clause-value : goal.returns-clause-value
returns-clause-value c = rest_of 60 c.args.bytes.now
