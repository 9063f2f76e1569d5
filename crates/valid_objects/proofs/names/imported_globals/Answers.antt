use Rattle.std.proofs.Common.{ap, sym, ◌∙◌}
use Rattle.std.specs.Option.{option_map}
use Rattle.wasm_types.specs.declared.import.Import.{Import}
use Rattle.object_file.specs.object_columns.Seen.{import_seen}
use Rattle.object_file.specs.Spaces.{imported_global}
use Rattle.valid_objects.proofs.Steps.{gives}
use Rattle.valid_objects.proofs.names.imported_globals.Goals as goal

pub loop-at-preserved : goal.loop-at-preserved
loop-at-preserved c =
    let at = sym c.get.ensures ∙ ap (option_map import_seen) c.in-Some.is in
    gives (λ (i : Import). imported_global i.kind) c.args.o.now.imports c.loop-at.at (import_seen c.in-Some.import) c.loop-at.found c.put_global.new.found _ at c.in_ok-put_global.ensures c.loop-at.invariant
