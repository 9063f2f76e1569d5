use Rattle.body_windows.proofs.Spread.{filter_spread}
use Rattle.body_windows.proofs.laws.references_are_kept.Goals as goal

pub returns : goal.returns
returns c = λ references behind. filter_spread references behind
