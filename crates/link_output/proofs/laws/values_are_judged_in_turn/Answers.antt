use Rattle.std.proofs.Common.{refl}
use Rattle.link_program.specs.Moved.{moved_windows}
use Rattle.link_output.proofs.Writes.{refuses}
use Rattle.link_output.proofs.laws.values_are_judged_in_turn.Goals as goal

pub returns : goal.returns
returns c = λ files i m wss vss f lie measured stand told. refuses files i m wss (moved_windows m.places wss) (moved_windows m.places vss) vss lie measured refl stand f told
