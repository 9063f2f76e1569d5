use Rattle.leb_codec.proofs.Computed.{s64_spelled, s64_least}
use Rattle.leb_codec.proofs.number_laws.shortest_s64.Goals as goal

pub returns-clause-spells : goal.returns-clause-spells
returns-clause-spells c = s64_spelled

pub returns-clause-shortest : goal.returns-clause-shortest
returns-clause-shortest c = s64_least
