use Rattle.shared_laws.proofs.shared_words_are_loaded.Goals as goal
use Rattle.shared_laws.proofs.Placed.{shared_loaded}

pub returns : goal.returns
returns c = shared_loaded c.words_are_linked.ensures c.words_are_loaded.ensures.spelled c.words_are_loaded.ensures.loaded c.loaded_objects_are_sound.ensures c.parts_stand.ensures
