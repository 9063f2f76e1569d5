use Rattle.std.proofs.Common.{sym, ◌∙◌}
use Rattle.name_entries.proofs.Told.{imported_told}
use Rattle.name_entries.proofs.lookups.Entries.is_imported.Goals as goal

pub returns-in-Some : goal.returns-in-Some
returns-in-Some c e is =
    let es = c.args.self.now in
    imported_told es.objects.now es.names.now.symbols c.args.object c.args.place c.in-Some.row.now e c.in-Some.ensures is

pub returns-in-None : goal.returns-in-None
returns-in-None c e is = let none = sym c.in-None.ensures ∙ is in cc
