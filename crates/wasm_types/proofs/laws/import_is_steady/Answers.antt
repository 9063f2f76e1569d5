use Rattle.wasm_types.specs.Stays.{import_kind_stays, import_stays}
use Rattle.wasm_types.proofs.laws.import_is_steady.Goals as goal

pub returns-clause-kind : goal.returns-clause-kind
returns-clause-kind c = import_kind_stays

pub returns-clause-whole : goal.returns-clause-whole
returns-clause-whole c = import_stays
