use Rattle.lib_rounds.proofs.Offered.{first_small, from_either}
use Rattle.lib_rounds.proofs.offer.offer_of.Goals as goal

pub library_offer-requires : goal.library_offer-requires
library_offer-requires g c k d lt m within = first_small g.all c.args.inputs.libraries.now c.args.inputs.files.now _ c.requires k d lt m within

pub returns-clause-from : goal.returns-clause-from
returns-clause-from g c = from_either g.all c.args.inputs.libraries.now c.args.inputs.files.now _ c.requires c.args.name.now c.lesser.result
    c.library_offer.result c.input_of.result c.lesser.ensures.from c.library_offer.ensures.from c.input_of.ensures
