use Rattle.std.specs.Option.{option_map}
use Rattle.name_rules.specs.object_file.object_columns.Seen.{symbol_seen}
use Rattle.name_entries.proofs.Told.{plain_is, entry_shown}
use Rattle.name_entries.proofs.lookups.Entries.entry.Goals as goal

pub returns : goal.returns
returns c =
    let es = c.args.self.now in
    let t = c.in_ok-row.ensures in
    let plain = plain_is es.objects.now es.names.now.symbols c.args.object c.args.place c.in_ok-row.row.now t (option_map symbol_seen c.plain_symbol.result) c.plain_symbol.ensures in
    entry_shown es.objects.now es.names.now.names es.names.now.symbols c.args.object c.args.place c.in_ok-row.row.now c.entry_by.result c.requires.symbols t
    (symbol_seen c.symbol_of-symbol.result) (c.symbol_of-symbol.ensures t.symbol plain t.tells.kind t.tells.flags t.tells.offset) c.entry_by.ensures
