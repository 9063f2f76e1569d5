use Rattle.key_laws.proofs.links_number.Goals as goal
use Rattle.key_laws.proofs.Links.{links_number}

pub returns : goal.returns
returns c = links_number c.keys_differ.ensures c.keys_stand.ensures c.loaded_objects_are_sound.ensures
