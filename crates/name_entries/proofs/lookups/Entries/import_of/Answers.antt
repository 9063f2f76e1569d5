use Rattle.std.proofs.Common.{sym, ap, ◌∙◌}
use Rattle.std.specs.Option.{option_copied}
use Rattle.name_entries.proofs.Told.{import_told}
use Rattle.name_entries.proofs.lookups.Entries.import_of.Goals as goal

pub returns : goal.returns
returns c e is =
    let es = c.args.self.now in
    import_told es.objects.now es.names.now.symbols c.args.object c.args.place c.in_ok-row.row.now c.in_ok-from.from.now e c.get.result
    c.in_ok-row.ensures (sym (ap option_copied (sym c.in_ok-from.was) ∙ c.object_at.ensures)) c.get.ensures is
