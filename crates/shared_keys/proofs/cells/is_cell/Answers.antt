use Rattle.std.proofs.Common.{◌<◌, [], Some, length, slice_get, arith, sym, ap, ◌∙◌}
use Rattle.std.proofs.lemmas.Bool.Decides.{nat_tests}
use Rattle.std.proofs.lemmas.Option.{slice_get_within, get_or_from_slice_get}
use Rattle.link_keys.specs.link_program.name_meanings.Kept.{type_kept, cell_key}
use Rattle.shared_keys.proofs.CellIs.{the_cell}
use Rattle.shared_keys.proofs.cells.is_cell.Goals as goal

pub returns : goal.returns
returns c = λ is.
    let within : c.args.name < length c.args.names.now.names = slice_get_within c.args.names.now.names c.args.name c.name-name.result.now c.name-name.ensures in (
      grind (arith, nat_tests),
      the_cell (slice_get c.args.resolution.now.imports c.args.number) c.args.function c.import.result.0.now c.import.result.1.now c.name-name.result.now (type_kept c.import_type-kind.result.now)
          c.import.ensures.place c.import.ensures.field c.import_type-kind.ensures (sym c.agrees.ensures ∙ is)
          ∙ ap (λ n. Some (cell_key c.args.function n)) (sym (get_or_from_slice_get c.args.names.now.names c.args.name c.name-name.result.now [] c.name-name.ensures)),
    )
