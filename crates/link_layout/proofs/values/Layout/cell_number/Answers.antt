use Rattle.std.proofs.Common.{◌≡◌, ap, ◌∙◌, rules}
use Rattle.std.specs.Prelude.{slice_index_or}
use Rattle.link_program.specs.index_layout.Numbers.{number_by}
use Rattle.link_program.specs.declared.symbol.Symbol.{Symbol}
use Rattle.link_program.specs.Keys.{same_global_key}
use Rattle.link_program.specs.Seen.{no_symbol}
use Rattle.link_layout.specs.Rows.{cell_number}
use Rattle.link_layout.specs.Layout.{looked}
use Rattle.link_layout.proofs.values.Layout.cell_number.Goals as goal

pub returns : goal.returns
returns c =
    let k = looked c.args.self in
    let same : c.symbol_at-symbol.result ≡ slice_index_or c.args.self.program.tables.now.symbols c.args.at no_symbol = search rules in
    c.key_number.ensures ∙ ap (number_by same_global_key c.args.self.numbering.now.globals) c.global_or_cell-key.ensures ∙ ap (λ (s : Symbol). cell_number k c.args.at s) same
