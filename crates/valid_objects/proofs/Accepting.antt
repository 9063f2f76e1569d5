-- A body that is read beside its references is accepted or not as the one whose references are looked up.
use Rattle.std.proofs.Common.{◌≡◌, ℕ, Bool, List, length, map, Result, Ok, Err, ap, sym, ◌∙◌, subst}
use Rattle.std.specs.Prelude.{IfOk}
use Rattle.wasm_types.specs.declared.function.FuncType.{FuncType}
use Rattle.object_file.specs.body_windows.declared.operands.Reference.{Reference}
use Rattle.object_file.specs.body_windows.Operands.{spread, StandIn}
use Rattle.object_file.specs.object_columns.declared.functions.FunctionDef.{FunctionDef}
use Rattle.object_file.specs.declared.object.Object.{Object}
use Rattle.object_file.specs.Spaces.{written_type}
use Rattle.wasm_instr.specs.wasm_grammar.declared.fault.Stop.{Stop}
use Rattle.wasm_instr.specs.declared.body.Body.{Body}
use Rattle.wasm_instr.specs.Bodies.{SpellsBody}
use Rattle.wasm_instr.specs.Places.{body_rises}
use Rattle.valid_bodies.specs.Went.{accepts}
use Rattle.valid_objects.specs.Objects.{accepted, object_shape, object_shapes}
use Rattle.valid_objects.specs.Merging.{merged}
use Rattle.valid_objects.proofs.Merge.{merged_is}

pub on_ok : {A E : Type 0} {P Q : A → Type 0} (r : Result A E) → ((x : A) → P x → Q x) → IfOk r P → IfOk r Q
on_ok (Ok x) f p = f x p
on_ok (Err e) f p = tt

module _ (o : Object) (f : FunctionDef) (left : List Reference) (numbers : ℕ) (operands : f.operands ≡ spread left numbers) (stand : StandIn 0 f.span.len f.operands) where
  shapes_are : (body : Body) (part : List ℕ) → SpellsBody body part → merged o (written_type o f.type_index) body.locals left body.code ≡ object_shapes o f body
  shapes_are body part spelled =
      let rises = body_rises body part spelled in
      merged_is o (written_type o f.type_index) body.locals left numbers (length rises.0) (length part) f.span.len body.code rises.4 (subst (StandIn 0 f.span.len) operands stand)
      ∙ ap (λ ops. map (object_shape o ops (written_type o f.type_index) body.locals) body.code) (sym operands)

  pub accepted_is : (body : Body) (part : List ℕ) (kind : FuncType) (read : Result Body Stop) (so : Bool) → SpellsBody body part → read ≡ Ok body → kind ≡ written_type o f.type_index
      → so ≡ accepts kind.results (merged o kind body.locals left body.code) → so ≡ accepted o f read
  accepted_is body part kind read so spelled is same e =
      e ∙ ap (λ k. accepts k.results (merged o k body.locals left body.code)) same
      ∙ ap (accepts (written_type o f.type_index).results) (shapes_are body part spelled) ∙ ap (accepted o f) (sym is)
