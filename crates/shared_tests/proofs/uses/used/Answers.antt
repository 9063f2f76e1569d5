use Rattle.name_entries.specs.made_symbols.declared.mode.Mode.TheVariants.{Plain}
use Rattle.shared_tests.proofs.uses.used.Goals as goal

pub uses_of-requires-clause-fits : goal.uses_of-requires-clause-fits
uses_of-requires-clause-fits g c = (c.view.ensures.fits Plain c.requires.numbers c.requires.inputs c.in-Ok-new.ensures).objects
