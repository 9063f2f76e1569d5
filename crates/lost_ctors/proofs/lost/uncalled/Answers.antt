use Rattle.std.proofs.Common.{◌≡◌, ◌∙◌, None, ap, refl, subst, sym}
use Rattle.link_marks.specs.link_program.made_symbols.declared.mode.Mode.TheVariants.{Plain, Shared}
use Rattle.link_marks.specs.link_program.name_entries.Fits.{Fits}
use Rattle.link_marks.specs.link_program.link_rules.ModeOf.{mode_of}
use Rattle.link_marks.specs.link_program.link_rules.Marks.{uncalled}
use Rattle.link_marks.specs.link_program.Answers.{Passes}
use Rattle.link_marks.specs.link_program.Program.{IsProgramOf}
use Rattle.lost_ctors.proofs.lost.uncalled.Goals as goal

pub plain_uncalled-requires : goal.plain_uncalled-requires
plain_uncalled-requires g c =
    let plain : mode_of g.w.program.plan ≡ Plain = sym (c.in-Plain.ensures ∙ ap mode_of c.requires.0.plan) in (
      subst (λ m. IsProgramOf m c.args.program g.w.program) plain c.requires.0,
      (subst (λ m. Fits m c.args.entries) plain c.requires.1.0, (c.requires.1.1.0, c.requires.1.1.1)),
    )

pub returns-in-Plain : goal.returns-in-Plain
returns-in-Plain g c =
    subst (λ m. Passes c.plain_uncalled.result (uncalled m g.w.program g.w.parts)) (c.in-Plain.ensures ∙ ap mode_of c.requires.0.plan) c.plain_uncalled.ensures

pub returns-in-Shared : goal.returns-in-Shared
unfolding uncalled
returns-in-Shared g c =
    let none : uncalled Shared g.w.program g.w.parts ≡ None = refl in
    subst (λ m. uncalled m g.w.program g.w.parts ≡ None) (c.in-Shared.ensures ∙ ap mode_of c.requires.0.plan) none
