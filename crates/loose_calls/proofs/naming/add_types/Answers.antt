use Rattle.std.proofs.Common.{map}
use Rattle.program_tables.specs.link_program.wasm_types.Types.{val_byte}
use Rattle.loose_calls.proofs.Marked.{marked}
use Rattle.loose_calls.proofs.naming.add_types.Goals as goal

pub returns : goal.returns
returns c = marked c.args.bytes.now _ _ (map val_byte c.args.types.now) c.in_ok-push.ensures.ok c.in_ok-add_bytes.ensures
