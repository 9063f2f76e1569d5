use Rattle.partial_inputs.proofs.Ranges.{bare_is_bare}
use Rattle.partial_inputs.proofs.Refusing.{refused_first, then_joined}
use Rattle.partial_inputs.proofs.laws.inputs_come_first.Goals as goal

pub returns-clause-refused : goal.returns-clause-refused
returns-clause-refused c = refused_first

pub returns-clause-joined : goal.returns-clause-joined
returns-clause-joined c = then_joined

pub returns-clause-bare : goal.returns-clause-bare
returns-clause-bare c = bare_is_bare
