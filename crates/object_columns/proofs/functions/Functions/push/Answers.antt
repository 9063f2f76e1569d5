use Rattle.std.proofs.Common.{ℕ, List, Option, ◌∙◌, ◌++◌, ◌∷◌, [], ap}
use Rattle.body_windows.specs.Operands.{operands_seen}
use Rattle.object_columns.specs.declared.functions.FunctionDef.{FunctionDef}
use Rattle.std.specs.Prelude.{option_copied}
use Rattle.body_windows.specs.wasm_instr.wl_base.declared.span.Span.{Span}
use Rattle.object_columns.specs.declared.functions.FunctionRow.{FunctionRow}
use Rattle.object_columns.specs.Columns.{joined_three, function_of, span_of}
use Rattle.object_columns.specs.Seen.{function_seen}
use Rattle.object_columns.proofs.Joined.{three_more}
use Rattle.object_columns.proofs.functions.Functions.push.Goals as goal

pub returns-in-Ok-clause-ok : goal.returns-in-Ok-clause-ok
returns-in-Ok-clause-ok c =
    let o = c.self.inside in
    let f = c.args.function in
    let row : FunctionRow = record { span = c.in_ok-span.span; type_index = f.type_index; behind = f.operands.behind; is_exported = c.split-is_exported.result.0 } in
    let references = f.operands.references.now in
    let name = c.split-is_exported.result.1.now in
    let of : Span → Option (List ℕ) → FunctionDef = λ span n. record { type_index = f.type_index; span = span; operands = operands_seen f.operands; export_name = n } in
    ap (λ xs. joined_three function_of xs c.push-2.new.self c.push-3.new.self) c.in_ok-push.ensures.ok
    ∙ ap (λ ys. joined_three function_of (o.rows ++ row ∷ []) ys c.push-3.new.self) c.in_default.ensures.ok
    ∙ ap (joined_three function_of (o.rows ++ row ∷ []) (o.references ++ references ∷ [])) c.in-Ok.ensures.ok
    ∙ three_more function_of o.rows o.references o.names row references name c.self.invariant.0 c.self.invariant.1
    ∙ ap (λ n. joined_three function_of o.rows o.references o.names ++ of (span_of c.in_ok-span.span) n ∷ []) c.split-is_exported.ensures
    ∙ ap (λ span. joined_three function_of o.rows o.references o.names ++ of span (option_copied f.export_name) ∷ []) c.in_ok-span.ensures
    ∙ ap (λ list. list ++ function_seen f ∷ []) c.self.view_is
