use Rattle.std.proofs.Common.{false, None, sym, ◌∙◌}
use Rattle.name_rules.specs.object_file.wasm_types.declared.value.ValType.TheVariants.{I32}
use Rattle.name_rules.specs.object_file.Spaces.{global_types}
use Rattle.name_entries.proofs.Found.{or_else}
use Rattle.name_entries.proofs.spaces.global_type.Goals as goal

pub returns-in-None : goal.returns-in-None
returns-in-None c = or_else None (global_types c.args.from.now) c.args.index (record { kind = I32; var = false })
    (sym c.in-None.is ∙ c.known_global.ensures)
