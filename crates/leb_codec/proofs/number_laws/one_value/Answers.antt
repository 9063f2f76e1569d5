use Rattle.leb_codec.specs.Spelling.{magnitude, signed_value}
use Rattle.leb_codec.proofs.Laws.{no_other}
use Rattle.leb_codec.proofs.number_laws.one_value.Goals as goal

pub returns-clause-unsigned : goal.returns-clause-unsigned
returns-clause-unsigned c = no_other magnitude

pub returns-clause-signed : goal.returns-clause-signed
returns-clause-signed c = no_other signed_value
