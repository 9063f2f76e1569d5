use Rattle.std.proofs.Common.{◌≡◌, refl, sym, subst, Result, List, ℕ}
use Rattle.std.specs.Prelude.{IfOk}
use Rattle.std.specs.Option.{option_map}
use Rattle.link_plan.specs.declared.plan.Plan.{Plan}
use Rattle.wl_base.specs.declared.usage.Usage.{Usage}
use Rattle.driver_lines.specs.Lines.{refusal_line}
use Rattle.driver_command.specs.Named.{AreNames}
use Rattle.driver_command.proofs.Lines.{are_names}
use Rattle.driver_command.proofs.saying.say_fault.Goals as goal

pub returns-clause-told : goal.returns-clause-told
returns-clause-told g c =
    let after = g.F.Shelf.shown c.names_again-names.new.shelf in
    let names = c.names_again-names.result in (
      _,
      record {
        entry = option_map (λ n. n.now) c.entry_of.result;
        inputs = names.inputs;
        files = names.files;
        line = λ i. refusal_line c.args.program.now (option_map (λ n. n.now) c.entry_of.result) (c.as_slice-inputs.ensures i) (c.as_slice-files.ensures i) c.args.fault.now;
        named = subst (λ (r : Result Plan Usage). IfOk r (λ plan. AreNames after c.args.own.now plan (option_map (λ n. n.now) c.entry_of.result) names.files names.inputs))
            (sym c.in-Ok.ensures.plan)
            (are_names _ after c.args.own.now c.in-Ok.plan _ names.files names.inputs c.names_again-names.ensures.same c.names_again-names.ensures.counts c.entry_of.ensures
            c.names_again-names.ensures.files c.names_again-names.ensures.inputs);
      },
      c.say_named-2.ensures,
    )
