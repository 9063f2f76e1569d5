use Rattle.std.proofs.Common.{ℕ, List, ap, subst, sym, ◌∙◌}
use Rattle.link_core.specs.link_runs.Links.{Runs}
use Rattle.link_core.specs.link_runs.link_program.link_rules.ModeOf.{IsPlain}
use Rattle.std.specs.Option.{option_map}
use Rattle.link_command.specs.Ending.{summary_of}
use Rattle.link_command.proofs.Lines.{line_is}
use Rattle.link_command.proofs.Saves.{save_shows, save_runs, save_works}
use Rattle.link_command.proofs.Telling.{saved_tells}
use Rattle.link_core.specs.Whole.{whole_link, told_calls, MakesModule}
use Rattle.link_command.proofs.command.run_plan.Goals as goal

pub returns-clause-cause : goal.returns-clause-cause
returns-clause-cause g c =
    save_shows _ _ (g.F.Shelf.shown c.files.new.shelf) _ _ c.args.plan.now _ _ c.save_output-status.ensures.answer c.in-Ok.ensures.held
    c.in-Ok.ensures.counts c.in-Ok.ensures.files (ap (whole_link c.args.plan.now) (sym c.as_slice.ensures) ∙ c.in-Ok-link_telling.ensures.exact)
    c.save_output-status.ensures.linked c.save_output-status.ensures.torn c.save_output-status.ensures.cause

pub returns-clause-runs : goal.returns-clause-runs
returns-clause-runs g c =
    save_runs _ _ (g.F.Shelf.shown c.files.new.shelf) _ _ c.args.plan.now _ _ c.in-Ok.ensures.held c.in-Ok.ensures.counts c.in-Ok.ensures.files
    (subst (λ (fs : List (List ℕ)). MakesModule c.args.plan.now → IsPlain c.args.plan.now → Runs c.args.plan.now fs c.in-Ok-link_telling.bytes) c.as_slice.ensures c.in-Ok-link_telling.ensures.runs) c.save_output-status.ensures.linked

pub returns-clause-line : goal.returns-clause-line
returns-clause-line g c =
    line_is c.save_output-status.result c.args.plan.now (g.F.Shelf.shown c.args.shelf.now) _ _ c.in-Ok-link_telling.bytes _ c.save_output-status.ensures.answer
    (c.case_of.ensures ∙ ap (λ (bs : List ℕ). option_map (summary_of bs) c.args.plan.now.make_case) c.as_slice-2.ensures) c.in-Ok.ensures.files (ap (whole_link c.args.plan.now) (sym c.as_slice.ensures) ∙ c.in-Ok-link_telling.ensures.exact)

pub returns-clause-told : goal.returns-clause-told
returns-clause-told g c = λ none.
    saved_tells _ _ c.args.plan.now _ c.link_telling.new.told c.save_output-status.result c.save_output-status.ensures.answer
    (c.in-Ok-link_telling.ensures.told none ∙ ap (told_calls c.args.plan.now) c.as_slice.ensures) c.in-Ok.ensures.files

pub returns-clause-is_linked : goal.returns-clause-is_linked
returns-clause-is_linked g c = λ bytes told link loads works.
    save_works c.args.plan.now.output c.save_output-status.result (g.F.Shelf.shown c.args.shelf.now) (g.F.Shelf.shown c.files.new.shelf)
    (g.F.Shelf.shown c.save_output-status.new.shelf) c.save_output-status.ensures.answer c.in-Ok.ensures.counts c.save_output-status.ensures.cause works
