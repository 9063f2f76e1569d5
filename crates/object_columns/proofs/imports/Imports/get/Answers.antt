use Rattle.std.proofs.Common.{◌∙◌, sym, ap}
use Rattle.std.specs.Prelude.{slice_get, option_copied}
use Rattle.object_columns.specs.Columns.{import_of}
use Rattle.object_columns.proofs.Joined.{three_at, three_none_first, three_none_second, three_none_third}
use Rattle.object_columns.proofs.imports.Imports.get.Goals as goal

pub returns-in_default : goal.returns-in_default
returns-in_default c =
    let o = c.self.inside in
    sym (three_none_first import_of o.kinds o.modules o.fields c.args.at (sym c.get.ensures ∙ ap option_copied c.in_default.is)) ∙ ap (λ list. slice_get list c.args.at) c.self.view_is

pub returns-in_default-get : goal.returns-in_default-get
returns-in_default-get c =
    let o = c.self.inside in
    sym (three_none_second import_of o.kinds o.modules o.fields c.args.at (sym c.get-2.ensures ∙ ap option_copied c.in_default-get.is)) ∙ ap (λ list. slice_get list c.args.at) c.self.view_is

pub returns-in_default-get-2 : goal.returns-in_default-get-2
returns-in_default-get-2 c =
    let o = c.self.inside in
    sym (three_none_third import_of o.kinds o.modules o.fields c.args.at (sym c.get-3.ensures ∙ ap option_copied c.in_default-get-2.is)) ∙ ap (λ list. slice_get list c.args.at) c.self.view_is

pub returns : goal.returns
returns c =
    let o = c.self.inside in
    sym (three_at import_of o.kinds o.modules o.fields c.args.at c.in-Some.kind.now c.in-Some-get.«module».now c.in-Some-get-2.field.now (sym c.get.ensures ∙ ap option_copied c.in-Some.is) (sym c.get-2.ensures ∙ ap option_copied c.in-Some-get.is) (sym c.get-3.ensures ∙ ap option_copied c.in-Some-get-2.is))
    ∙ ap (λ list. slice_get list c.args.at) c.self.view_is
