-- What is known of a program whose plan asks for a plain output.
use Rattle.std.proofs.Common.{◌≡◌, ◌∙◌, sym, ap, subst}
use Rattle.name_meanings.specs.name_entries.made_symbols.declared.mode.Mode.TheVariants.{Plain}
use Rattle.link_rules.specs.Program as rules
use Rattle.link_rules.specs.ModeOf.{mode_of}
use Rattle.link_program.specs.declared.program.Program.{Program}
use Rattle.link_program.specs.Program.{IsProgramOf, IsProgram}

-- The data and the program have one plan.
pub plain_plan : (d : Program) (p : rules.Program) → mode_of d.plan.now ≡ Plain → IsProgram d p → mode_of p.plan ≡ Plain
plain_plan d p plain is = sym (ap mode_of is.plan) ∙ plain

-- The data are those of a plain program.
pub opened : (d : Program) (p : rules.Program) → mode_of d.plan.now ≡ Plain → IsProgram d p → IsProgramOf Plain d p
opened d p plain is = subst (λ m. IsProgramOf m d p) (plain_plan d p plain is) is
