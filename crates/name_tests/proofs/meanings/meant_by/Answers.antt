use Rattle.name_entries.specs.made_symbols.declared.mode.Mode.TheVariants.{Plain}
use Rattle.name_entries.specs.name_rules.Entries.{entries}
use Rattle.name_tests.proofs.meanings.meant_by.Goals as goal

pub summary-requires : goal.summary-requires
summary-requires g c =
    let objects = c.args.entries.objects.now in
    c.resolved_is_meant.ensures Plain c.args.allow_undefined (entries Plain objects) objects c.in-Ok-resolve.resolution c.in-Ok-resolve.ensures
