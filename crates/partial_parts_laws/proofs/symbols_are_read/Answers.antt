use Rattle.partial_parts_laws.proofs.SymbolsRead.{symbols_are_read}
use Rattle.partial_parts_laws.proofs.symbols_are_read.Goals as goal

pub returns : goal.returns
returns c = symbols_are_read
