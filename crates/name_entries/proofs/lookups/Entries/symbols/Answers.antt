use Rattle.std.proofs.Common.{◌∙◌}
use Rattle.name_entries.proofs.Rows.{as_many}
use Rattle.name_entries.proofs.lookups.Entries.symbols.Goals as goal

pub returns : goal.returns
returns c = let es = c.args.self.now in c.symbols.ensures
    ∙ as_many es.objects.now es.names.now.names es.names.now.symbols c.args.object c.requires.symbols
