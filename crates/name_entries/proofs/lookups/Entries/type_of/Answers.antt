use Rattle.std.proofs.Common.{sym, ap, ◌∙◌}
use Rattle.std.specs.Option.{option_copied}
use Rattle.name_entries.specs.Shown.{type_seen}
use Rattle.name_entries.proofs.Told.{type_shown}
use Rattle.name_entries.proofs.lookups.Entries.type_of.Goals as goal

pub returns : goal.returns
returns c =
    let es = c.args.self.now in
    type_shown es.objects.now es.names.now.symbols c.args.object c.args.place c.in_ok-row.row.now c.in_ok-from.from.now (type_seen c.type_by.result)
    c.in_ok-row.ensures (sym (ap option_copied (sym c.in_ok-from.was) ∙ c.object_at.ensures)) c.type_by.ensures
