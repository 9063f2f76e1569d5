use Rattle.leb_codec.specs.Spelling.{magnitude, signed_value}
use Rattle.leb_codec.proofs.Laws.{number_read}
use Rattle.leb_codec.proofs.number_laws.read_again.Goals as goal

pub returns-clause-unsigned : goal.returns-clause-unsigned
returns-clause-unsigned c = number_read magnitude

pub returns-clause-signed : goal.returns-clause-signed
returns-clause-signed c = number_read signed_value
