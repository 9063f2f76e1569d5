use Rattle.wasm_grammar.specs.ReaderLaws.{one_value}
use Rattle.wasm_types.specs.Types.{SpellsValType, val_type_at}
use Rattle.wasm_types.specs.TypeLaws.{val_type_reader}
use Rattle.wasm_types.proofs.laws.val_type_is_unambiguous.Goals as goal

pub returns : goal.returns
returns c = one_value SpellsValType val_type_at val_type_reader
