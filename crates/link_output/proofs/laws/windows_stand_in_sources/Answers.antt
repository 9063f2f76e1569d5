use Rattle.link_output.proofs.Sources.{image_lies, windows_stand, held_windows_stand}
use Rattle.link_output.proofs.laws.windows_stand_in_sources.Goals as goal

pub returns-clause-lie : goal.returns-clause-lie
returns-clause-lie c = image_lies

pub returns-clause-stand : goal.returns-clause-stand
returns-clause-stand c = windows_stand

pub returns-clause-held : goal.returns-clause-held
returns-clause-held c = held_windows_stand
