use Rattle.byte_text.proofs.Found.{first_is, first_within}
use Rattle.byte_text.proofs.search.first_zero.Goals as goal

pub returns-clause-value : goal.returns-clause-value
returns-clause-value c = first_is 0 c.args.bytes.now c.find_byte.result c.find_byte.ensures

pub returns-clause-within : goal.returns-clause-within
returns-clause-within c = first_within 0 c.args.bytes.now c.find_byte.result c.find_byte.ensures
