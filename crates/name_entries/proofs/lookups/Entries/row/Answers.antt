use Rattle.std.proofs.Common.{sym, ap, ◌∙◌}
use Rattle.std.specs.Option.{option_copied}
use Rattle.name_entries.proofs.Told.{no_rows, row_told}
use Rattle.name_entries.proofs.lookups.Entries.row.Goals as goal

pub returns-in_err-rows : goal.returns-in_err-rows
returns-in_err-rows c =
    let es = c.args.self.now in
    rw c.from_residual.ensures (no_rows es.objects.now es.names.now.symbols es.rows.now c.args.object c.args.place c.requires.rows
    (sym (ap option_copied (sym c.in_err-rows.was) ∙ c.get.ensures)))

pub returns : goal.returns
returns c =
    let es = c.args.self.now in
    row_told es.objects.now es.names.now.symbols es.rows.now c.args.object c.args.place c.in_ok-rows.rows.now c.requires.rows
    (sym (ap option_copied (sym c.in_ok-rows.was) ∙ c.get.ensures)) c.row_in.result c.row_in.ensures
