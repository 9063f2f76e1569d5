use Rattle.std.proofs.Common.{◌≡◌, ◌∷◌, [], true, false, sym, ap, ◌∙◌, Some, None}
use Rattle.program_tables.specs.link_program.wl_base.Choice.{distinct_onto}
use Rattle.program_tables.specs.link_program.name_rules.Entries.{entries}
use Rattle.program_tables.specs.Loose.{loosens}
use Rattle.mismatch_rules.specs.Mismatches.{beside, same_call}
use Rattle.loose_calls.specs.Told.{meant}
use Rattle.loose_calls.proofs.Listing.{of_one, told_not, told_beside, means_one}
use Rattle.loose_calls.proofs.telling.tell_symbol.Goals as goal

pub returns-then-not-is_loose : goal.returns-then-not-is_loose
returns-then-not-is_loose g c = λ e at.
    let objects = c.args.asking.entries.objects.now in
    let no : loosens c.args.asking.mode true g.allow objects e ≡ false = sym (c.is_loose.ensures e at) ∙ c.if-not-is_loose.true in
    ap (distinct_onto same_call c.args.told.now) (sym (of_one c.args.asking.mode g.allow objects e None (told_not (entries c.args.asking.mode objects) e (meant c.args.asking.mode g.allow objects e) no)))

pub returns : goal.returns
returns g c = λ e at.
    let objects = c.args.asking.entries.objects.now in
    let yes : loosens c.args.asking.mode true g.allow objects e ≡ true = sym (c.is_loose.ensures e at) ∙ c.if-not-is_loose.false in
    let (d, means) = means_one (entries c.args.asking.mode objects) e (meant c.args.asking.mode g.allow objects e) yes in
    c.in_ok-tell.ensures
    ∙ ap (λ m. distinct_onto same_call c.args.told.now (m ∷ [])) (c.in_ok-mismatch.ensures e d at means)
    ∙ ap (distinct_onto same_call c.args.told.now) (sym (of_one c.args.asking.mode g.allow objects e (Some (beside e d)) (told_beside (entries c.args.asking.mode objects) e d (meant c.args.asking.mode g.allow objects e) means yes)))
