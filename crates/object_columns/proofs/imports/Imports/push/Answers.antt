use Rattle.std.proofs.Common.{◌∙◌, ◌++◌, ◌∷◌, [], ap}
use Rattle.object_columns.specs.Columns.{joined_three, import_of}
use Rattle.object_columns.proofs.Joined.{three_more}
use Rattle.object_columns.proofs.imports.Imports.push.Goals as goal

pub returns-in-Ok-clause-ok : goal.returns-in-Ok-clause-ok
returns-in-Ok-clause-ok c =
    let o = c.self.inside in
    let import = c.args.import.now in
    ap (λ xs. joined_three import_of xs c.push-2.new.self c.push-3.new.self) c.in_ok-push.ensures.ok
    ∙ ap (λ ys. joined_three import_of (o.kinds ++ import.kind ∷ []) ys c.push-3.new.self) (c.in_default.ensures.ok ∙ ap (λ p. o.modules ++ p ∷ []) c.as_slice.ensures)
    ∙ ap (joined_three import_of (o.kinds ++ import.kind ∷ []) (o.modules ++ import.«module» ∷ [])) (c.in-Ok.ensures.ok ∙ ap (λ p. o.fields ++ p ∷ []) c.as_slice-2.ensures)
    ∙ three_more import_of o.kinds o.modules o.fields import.kind import.«module» import.field c.self.invariant.0 c.self.invariant.1
    ∙ ap (λ list. list ++ import ∷ []) c.self.view_is
