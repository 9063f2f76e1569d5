use Rattle.std.proofs.Common.{rules, ◌≡◌, Some, None, sym, subst, ◌∙◌}
use Rattle.partial_items.specs.link_program.made_symbols.declared.mode.Mode.TheVariants.{Plain}
use Rattle.partial_items.specs.link_program.name_entries.View.{InputsRise}
use Rattle.partial_items.specs.link_program.link_rules.ModeOf.{plain_mode}
use Rattle.partial_items.specs.link_program.Program.{IsProgramOf}
use Rattle.partial_items.specs.partial_rules.Relocatable.{relocatable_bytes}
use Rattle.partial_items.specs.partial_rules.Partial.{relocatable}
use Rattle.relink_out.specs.Judged.{IsJudged}
use Rattle.relink_out.proofs.Ends.{is_refused, is_bytes, is_long}
use Rattle.relink_out.proofs.relink.partial.Goals as goal

pub object-requires : goal.object-requires
object-requires g c κs within =
    let is : IsProgramOf Plain c.args.program g.p = subst (λ m. IsProgramOf m c.args.program g.p) (plain_mode g.p.plan c.requires.1.1.1.0) c.requires.1.1.0 in
    let strict = c.requires.1.1.1.1.0 in
    let stand = c.requires.1.1.1.1.1.0 in
    let fits = c.requires.1.1.1.1.1.1.0 in
    let objects = c.requires.1.1.1.1.1.1.1.0 in
    let names = c.requires.1.1.1.1.1.1.1.1.0 in
    let files = c.requires.1.1.1.1.1.1.1.1.1 in
    let rise = subst (InputsRise 0) objects fits.inputs in
    (search rules, (search rules, (is, (strict, (stand, (rise, (fits, (objects, (names, files)))))))))

pub returns-in-Some-clause-exact : goal.returns-in-Some-clause-exact
returns-in-Some-clause-exact g c =
    let is : IsProgramOf Plain c.args.program g.p = subst (λ m. IsProgramOf m c.args.program g.p) (plain_mode g.p.plan c.requires.1.1.1.0) c.requires.1.1.0 in
    is_refused g.p c.in-Some.fault (sym c.in-Some.is ∙ c.in-Ok.ensures c.args.program g.p is c.requires.1.1.1.1.0 c.requires.1.1.1.1.1.1.1.0)

pub returns-in-Bytes-clause-exact : goal.returns-in-Bytes-clause-exact
returns-in-Bytes-clause-exact g c =
    let is : IsProgramOf Plain c.args.program g.p = subst (λ m. IsProgramOf m c.args.program g.p) (plain_mode g.p.plan c.requires.1.1.1.0) c.requires.1.1.0 in
    let none = sym c.in_default-fault.is ∙ c.in-Ok.ensures c.args.program g.p is c.requires.1.1.1.1.0 c.requires.1.1.1.1.1.1.1.0 in
    let judged = subst (IsJudged (relocatable_bytes (relocatable g.p))) c.in-Bytes.is c.in-Ok-object.ensures in
    is_bytes g.p c.in-Bytes.bytes none judged.0 judged.1

pub returns-in-TooLong-clause-exact : goal.returns-in-TooLong-clause-exact
returns-in-TooLong-clause-exact g c =
    let is : IsProgramOf Plain c.args.program g.p = subst (λ m. IsProgramOf m c.args.program g.p) (plain_mode g.p.plan c.requires.1.1.1.0) c.requires.1.1.0 in
    let none = sym c.in_default-fault.is ∙ c.in-Ok.ensures c.args.program g.p is c.requires.1.1.1.1.0 c.requires.1.1.1.1.1.1.1.0 in
    let judged = subst (IsJudged (relocatable_bytes (relocatable g.p))) c.in-TooLong.is c.in-Ok-object.ensures in
    is_long g.p c.in-TooLong.needed none judged.0 judged.1
