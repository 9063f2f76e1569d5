use Rattle.std.proofs.Common.{◌≡◌, ◌⊎◌, [], Some, IsTrue, sym, subst, Result}
use Rattle.std.specs.Prelude.{IfOk}
use Rattle.link_plan.specs.declared.plan.Plan.{Plan}
use Rattle.wl_base.specs.declared.usage.Usage.{Usage}
use Rattle.link_command.specs.Command.{input_names}
use Rattle.driver_command.specs.Named.{names_held}
use Rattle.driver_command.specs.Mismatched.{told_lines}
use Rattle.driver_command.proofs.Lines.{without_inputs, names_on}
use Rattle.driver_command.proofs.mismatches.say_mismatches.Goals as goal

pub returns-then-is_empty-clause-told : goal.returns-then-is_empty-clause-told
returns-then-is_empty-clause-told g c = (
  _,
  without_inputs c.args.told.now c.args.program.now c.args.word.now c.args.end.now (g.F.Shelf.shown c.args.shelf.now) c.args.own.now,
  c.say_named.ensures,
)

pub returns-in_default-clause-told : goal.returns-in_default-clause-told
returns-in_default-clause-told g c = (
  _,
  without_inputs c.args.told.now c.args.program.now c.args.word.now c.args.end.now (g.F.Shelf.shown c.args.shelf.now) c.args.own.now,
  c.say_named-in_default.ensures,
)

pub returns-clause-told : goal.returns-clause-told
returns-clause-told g c =
    let before = g.F.Shelf.shown c.args.shelf.now in
    let after = g.F.Shelf.shown c.names_again-names.new.shelf in
    let names = c.names_again-names.result in (
      _,
      record {
        inputs = names.inputs;
        line = λ i. told_lines c.args.program.now c.args.word.now (c.as_slice.ensures i) c.args.told.now c.args.end.now;
        named = subst (λ (r : Result Plan Usage). IfOk r (λ plan. IsTrue after.tells → (names_held after.held (input_names c.args.own.now plan) ≡ Some names.inputs) ⊎ (names.inputs ≡ [])))
            (sym c.in-Ok.ensures.plan)
            (names_on before after c.args.own.now c.in-Ok.plan names.inputs c.names_again-names.ensures.same c.names_again-names.ensures.counts c.names_again-names.ensures.inputs);
      },
      c.say_named-2.ensures,
    )
