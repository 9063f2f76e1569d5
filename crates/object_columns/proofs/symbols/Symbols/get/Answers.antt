use Rattle.std.proofs.Common.{◌∙◌, Some, sym, ap}
use Rattle.std.specs.Prelude.{slice_get, option_copied}
use Rattle.object_columns.specs.Columns.{symbol_of}
use Rattle.object_columns.proofs.Joined.{joined_at, none_of_first, none_of_second}
use Rattle.object_columns.proofs.symbols.Symbols.get.Goals as goal

pub returns-in_default : goal.returns-in_default
returns-in_default c =
    let o = c.self.inside in
    sym (none_of_first symbol_of o.rows o.names c.args.at (sym c.get.ensures ∙ ap option_copied c.in_default.is)) ∙ ap (λ list. slice_get list c.args.at) c.self.view_is

pub returns-in_default-get : goal.returns-in_default-get
returns-in_default-get c =
    let o = c.self.inside in
    sym (none_of_second symbol_of o.rows o.names c.args.at (sym c.get-2.ensures ∙ ap option_copied c.in_default-get.is)) ∙ ap (λ list. slice_get list c.args.at) c.self.view_is

pub returns : goal.returns
returns c =
    let o = c.self.inside in
    ap Some c.with_name.ensures ∙ sym (joined_at symbol_of o.rows o.names c.args.at c.in-Some.row.now c.in-Some-get.name.now (sym c.get.ensures ∙ ap option_copied c.in-Some.is) (sym c.get-2.ensures ∙ ap option_copied c.in-Some-get.is))
    ∙ ap (λ list. slice_get list c.args.at) c.self.view_is
