use Rattle.shared_laws.proofs.Numbered.{shared_numbered}
use Rattle.shared_laws.proofs.shared_words_are_numbered.Goals as goal

pub returns : goal.returns
returns c = shared_numbered c.reached_exactly.ensures c.loaded_objects_are_sound.ensures c.parts_stand.ensures
