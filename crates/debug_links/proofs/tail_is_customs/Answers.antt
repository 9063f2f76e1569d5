use Rattle.debug_links.proofs.Customs.{tail_customs}
use Rattle.debug_links.proofs.tail_is_customs.Goals as goal

pub returns : goal.returns
returns c = tail_customs c.objects_are_named.ensures c.sections_are_customs.ensures
