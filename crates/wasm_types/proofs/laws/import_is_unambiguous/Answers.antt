use Rattle.wasm_grammar.specs.ReaderLaws.{one_value}
use Rattle.wasm_types.specs.Types.{SpellsImportKind, SpellsImport, import_kind_at, import_at}
use Rattle.wasm_types.specs.TypeLaws.{import_kind_reader, import_reader}
use Rattle.wasm_types.proofs.laws.import_is_unambiguous.Goals as goal

pub returns-clause-kind : goal.returns-clause-kind
returns-clause-kind c = one_value SpellsImportKind import_kind_at import_kind_reader

pub returns-clause-whole : goal.returns-clause-whole
returns-clause-whole c = one_value SpellsImport import_at import_reader
