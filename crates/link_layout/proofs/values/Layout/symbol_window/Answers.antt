use Rattle.std.proofs.Common.{◌≡◌, ap, ◌∙◌, rules, to_z, of_z, w32}
use Rattle.std.proofs.lemmas.Int.{to_z-of_z}
use Rattle.std.specs.Prelude.{slice_index_or}
use Rattle.link_program.specs.link_rules.Values.{asks}
use Rattle.link_program.specs.declared.symbol.Symbol.{Symbol}
use Rattle.link_program.specs.Seen.{no_symbol}
use Rattle.link_layout.specs.Seen.{target_of, window_to}
use Rattle.link_layout.specs.Layout.{looked}
use Rattle.link_layout.proofs.values.Layout.symbol_window.Goals as goal

pub returns-clause-is : goal.returns-clause-is
returns-clause-is c =
    let k = looked c.args.self in
    let a = c.args in
    let s = slice_index_or a.self.program.tables.now.symbols a.at no_symbol in
    let same : c.symbol_at-symbol.result ≡ s = search rules in
    let target : c.target_by-target.result ≡ target_of k s (asks a.kind) = search rules in
    let round : to_z w32 (of_z w32 a.addend) ≡ a.addend = to_z-of_z w32 a.addend c.ranges.addend in
    c.window_to.ensures.is ∙ ap (λ n. window_to a.place a.kind n c.symbol_at-symbol.result.lead c.target_by-target.result) round ∙ ap (λ (x : Symbol). window_to a.place a.kind a.addend x.lead c.target_by-target.result) same ∙ ap (window_to a.place a.kind a.addend s.lead) target
