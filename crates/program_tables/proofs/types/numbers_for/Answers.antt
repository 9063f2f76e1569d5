use Rattle.std.proofs.Common.{arith, List, ℕ, ◌+◌, ◌<◌, ◌≡◌, length, take, subst, sym, ap, Some, ◌∙◌}
use Rattle.std.specs.Prelude.{slice_get}
use Rattle.link_program.specs.wasm_types.declared.function.FuncType.{FuncType}
use Rattle.program_tables.specs.Types.{AreNumbered}
use Rattle.program_tables.proofs.Steps.{read_at}
use Rattle.program_tables.proofs.Typing.{keep_on, kept, numbered_more}
use Rattle.program_tables.proofs.types.numbers_for.Goals as goal

pub loop-kind-preserved : goal.loop-kind-preserved
loop-kind-preserved c =
    let these = c.args.these.now in
    let i = c.loop-kind.kind-index in
    let t : FuncType = c.kind-item.result in
    let seen : FuncType = record { params = c.as_slice-params.result.now; results = c.as_slice-results.result.now } in
    let same : seen ≡ t = λ k. record { params = c.as_slice-params.ensures k; results = c.as_slice-results.ensures k } in
    let within : i < length these = omega arith in
    let at : slice_get these i ≡ Some t = read_at these i t within c.kind-item.is in
    let keep = kept c.loop-kind.table c.number_of.new.table seen c.in_ok-number_of.ensures.types in
    record {
      keep = keep_on c.args.table.now c.loop-kind.table c.number_of.new.table c.loop-kind.invariant.keep keep;
      numbers = subst (λ (r : List ℕ). AreNumbered c.number_of.new.table r (take (i + 1) these)) (sym c.in_ok-push.ensures.ok)
          (numbered_more c.loop-kind.table c.number_of.new.table c.loop-kind.numbers these i c.in_ok-number_of.field-0 t keep c.loop-kind.invariant.numbers at (c.in_ok-number_of.ensures.at ∙ ap Some same));
    }
