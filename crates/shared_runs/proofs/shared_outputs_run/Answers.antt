use Rattle.shared_runs.proofs.shared_outputs_run.Goals as goal
use Rattle.shared_runs.proofs.Links.{outputs_run}

pub returns : goal.returns
returns c =
    outputs_run c.reached_exactly.ensures c.places_do_not_count.ensures c.shared_memory_holds.ensures c.shared_runs_agree.ensures c.shared_words_are_loaded.ensures c.loaded_objects_are_sound.ensures c.parts_stand.ensures
