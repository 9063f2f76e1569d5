use Rattle.partial_rules.proofs.Written.{is_object}
use Rattle.partial_rules.proofs.laws.relocatable_bytes_are_an_object.Goals as goal

pub returns : goal.returns
returns c = λ input r codes writable short agrees. is_object input r codes writable short agrees
