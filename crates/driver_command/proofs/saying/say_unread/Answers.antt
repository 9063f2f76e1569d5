use Rattle.std.proofs.Common.{refl}
use Rattle.driver_command.proofs.saying.say_unread.Goals as goal

pub returns : goal.returns
returns g c = (_, record { there = c.is_there.result; line = refl; held = c.is_there.ensures }, c.say_unread_there.ensures)
