use Rattle.std.proofs.Common.{refl}
use Rattle.link_loader.specs.Words.{entry_told}
use Rattle.link_loader.proofs.windows.address.Goals as goal

pub returns : goal.returns
returns g c = c.address.ensures (entry_told c.args.definition) refl
