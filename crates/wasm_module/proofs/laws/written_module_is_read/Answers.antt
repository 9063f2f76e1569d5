use Rattle.std.proofs.Common.{length}
use Rattle.wasm_module.proofs.ModuleLaws.{module_again}
use Rattle.wasm_module.proofs.laws.written_module_is_read.Goals as goal

pub returns : goal.returns
returns c = λ m bytes s. (s.0, s.1, module_again (length bytes) bytes s.0 s.2)
