use Rattle.debug_links.proofs.Offsets.{offsets_law}
use Rattle.debug_links.proofs.offsets_stay.Goals as goal

pub returns : goal.returns
returns c =
    let o = c.offsets_name_instructions.ensures in
    offsets_law c.read_objects_are_spellable.ensures c.loaded_objects_are_sound.ensures c.facts_hold.ensures o.named o.dropped o.placed
