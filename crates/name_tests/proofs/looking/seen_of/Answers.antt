use Rattle.name_entries.specs.made_symbols.declared.mode.Mode.TheVariants.{Plain}
use Rattle.name_tests.proofs.looking.seen_of.Goals as goal

pub what_is_seen-requires-after_bounds : goal.what_is_seen-requires-after_bounds
what_is_seen-requires-after_bounds g c κs within = c.view.ensures.fits Plain c.requires.numbers c.requires.inputs c.in-Ok-new.ensures
