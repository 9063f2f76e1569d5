use Rattle.std.proofs.Common.{◌∙◌, arith}
use Rattle.name_entries.specs.made_symbols.Made.{made_at}
use Rattle.name_cases.specs.Rows.{names_shown}
use Rattle.name_cases.proofs.Made.{made_is, made_number, shows_made}
use Rattle.name_cases.proofs.rows.Rows.made_entry.Goals as goal

pub returns : goal.returns
returns c =
    let mode = c.args.self.now.mode in
    let view = c.args.self.now.view in
    let numbered = c.made.ensures ∙ made_number mode view.objects.now view.names.now c.args.place c.requires.numbers (omega arith) in
    rw (made_is mode c.args.place (omega arith))
    (shows_made (names_shown c.args.self.now) c.args.place (made_at mode c.args.place) c.kind.result c.name.result c.made.result c.class.result c.kind.ensures c.name.ensures numbered c.class.ensures)
