use Rattle.index_layout.proofs.Codes.{by_code}
use Rattle.index_layout.proofs.laws.numbered_by_code.Goals as goal

pub returns : goal.returns
returns g c = λ same code key keys all. by_code same code key keys all
