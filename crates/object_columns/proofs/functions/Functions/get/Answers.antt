use Rattle.std.proofs.Common.{◌∙◌, Some, sym, ap}
use Rattle.std.specs.Prelude.{slice_get, option_copied}
use Rattle.object_columns.specs.Columns.{function_of}
use Rattle.object_columns.proofs.Joined.{three_at, three_none_first, three_none_second, three_none_third}
use Rattle.object_columns.proofs.functions.Functions.get.Goals as goal

pub returns-in_default : goal.returns-in_default
returns-in_default c =
    let o = c.self.inside in
    sym (three_none_first function_of o.rows o.references o.names c.args.at (sym c.get.ensures ∙ ap option_copied c.in_default.is)) ∙ ap (λ list. slice_get list c.args.at) c.self.view_is

pub returns-in_default-get : goal.returns-in_default-get
returns-in_default-get c =
    let o = c.self.inside in
    sym (three_none_second function_of o.rows o.references o.names c.args.at (sym c.get-2.ensures ∙ ap option_copied c.in_default-get.is)) ∙ ap (λ list. slice_get list c.args.at) c.self.view_is

pub returns-in_default-get-2 : goal.returns-in_default-get-2
returns-in_default-get-2 c =
    let o = c.self.inside in
    sym (three_none_third function_of o.rows o.references o.names c.args.at (sym c.get-3.ensures ∙ ap option_copied c.in_default-get-2.is)) ∙ ap (λ list. slice_get list c.args.at) c.self.view_is

pub returns : goal.returns
returns c =
    let o = c.self.inside in
    ap Some c.with.ensures ∙ sym (three_at function_of o.rows o.references o.names c.args.at c.in-Some.row.now c.in-Some-get.references.now c.in-Some-get-2.name.now (sym c.get.ensures ∙ ap option_copied c.in-Some.is) (sym c.get-2.ensures ∙ ap option_copied c.in-Some-get.is) (sym c.get-3.ensures ∙ ap option_copied c.in-Some-get-2.is))
    ∙ ap (λ list. slice_get list c.args.at) c.self.view_is
