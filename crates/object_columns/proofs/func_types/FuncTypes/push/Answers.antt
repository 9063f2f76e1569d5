use Rattle.std.proofs.Common.{◌∙◌, ◌++◌, ◌∷◌, [], ap}
use Rattle.object_columns.specs.Columns.{joined, func_type}
use Rattle.object_columns.proofs.Joined.{joined_more}
use Rattle.object_columns.proofs.func_types.FuncTypes.push.Goals as goal

pub returns-in-Ok-clause-ok : goal.returns-in-Ok-clause-ok
returns-in-Ok-clause-ok c =
    let o = c.self.inside in
    let kind = c.args.kind.now in
    ap (λ xs. joined func_type xs c.push-2.new.self) (c.in_ok-push.ensures.ok ∙ ap (λ p. o.params ++ p ∷ []) c.as_slice.ensures)
    ∙ ap (joined func_type (o.params ++ kind.params ∷ [])) (c.in-Ok.ensures.ok ∙ ap (λ p. o.results ++ p ∷ []) c.as_slice-2.ensures)
    ∙ joined_more func_type o.params o.results kind.params kind.results c.self.invariant
    ∙ ap (λ list. list ++ kind ∷ []) c.self.view_is
