use Rattle.wasm_grammar.specs.ReaderLaws.{one_value}
use Rattle.wasm_types.specs.Types.{SpellsLimits, limits_at}
use Rattle.wasm_types.specs.TypeLaws.{limits_reader}
use Rattle.wasm_types.proofs.laws.limits_are_unambiguous.Goals as goal

pub returns : goal.returns
returns c = one_value SpellsLimits limits_at limits_reader
