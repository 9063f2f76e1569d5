use Rattle.wasm_types.specs.SameLaws.{same_val_is, same_type_is, same_global_type_is}
use Rattle.wasm_types.proofs.laws.same_types_are_equal.Goals as goal

pub returns-clause-value : goal.returns-clause-value
returns-clause-value c = same_val_is

pub returns-clause-function : goal.returns-clause-function
returns-clause-function c = same_type_is

pub returns-clause-of_global : goal.returns-clause-of_global
returns-clause-of_global c = same_global_type_is
