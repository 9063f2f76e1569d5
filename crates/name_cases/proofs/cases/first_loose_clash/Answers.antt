use Rattle.std.proofs.Common.{◌∙◌, ap, sym}
use Rattle.std.specs.Option.{option_map}
use Rattle.name_entries.specs.name_rules.Entries.{entries}
use Rattle.name_entries.specs.name_rules.Cases.{other_import, broken, loose_clash}
use Rattle.name_cases.specs.Told.{clash_told}
use Rattle.name_cases.proofs.Clash.{first_is, then_is}
use Rattle.name_cases.proofs.cases.first_loose_clash.Goals as goal

pub returns-in-Some-clause-is : goal.returns-in-Some-clause-is
unfolding loose_clash
returns-in-Some-clause-is g c =
    let es = entries c.args.mode c.args.view.objects.now in
    let tell = clash_told c.args.view.names.now.names in
    first_is tell c.in-Some.case (other_import es) (broken es) (ap (option_map tell) (sym c.in-Some.is) ∙ c.in_ok-case.ensures.is)

pub returns-clause-is : goal.returns-clause-is
unfolding loose_clash
returns-clause-is g c =
    let es = entries c.args.mode c.args.view.objects.now in
    let tell = clash_told c.args.view.names.now.names in
    then_is tell c.in_ok-broken.broken (other_import es) (broken es) (ap (option_map tell) (sym c.in_default.is) ∙ c.in_ok-case.ensures.is) c.in_ok-broken.ensures.is
