use Rattle.object_file.proofs.Spelled.{read_is_spellable}
use Rattle.object_file.proofs.laws.read_objects_are_spellable.Goals as goal

pub returns : goal.returns
returns c = read_is_spellable
