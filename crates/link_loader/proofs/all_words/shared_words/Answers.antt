use Rattle.std.proofs.Common.{rules, ◌≡◌, true, ◌∙◌}
use Rattle.std.specs.List.{list_all}
use Rattle.link_layout.specs.Layout.{looked}
use Rattle.link_loader.specs.Cells.{all_tell}
use Rattle.link_loader.specs.Words.{told_part}
use Rattle.link_loader.proofs.Whole.{words_are}
use Rattle.link_loader.proofs.all_words.shared_words.Goals as goal

pub returns : goal.returns
returns g c =
    let cells : all_tell c.args.layout.program.names.now.names c.args.layout.program.resolution.now.imports c.args.layout.program.resolution.now.cells 0 c.args.layout.program.tables.now.symbols ≡ true = search rules in
    let windows : list_all (told_part (looked c.args.layout)) c.args.live.now ≡ true = search rules in
    c.in_ok-words.ensures ∙ words_are g.s c.args.layout c.requires.0 c.args.live.now c.requires.1.0 c.requires.1.1 cells windows
