use Rattle.key_laws.proofs.keys_differ.Goals as goal
use Rattle.key_laws.proofs.Loaded.{keys_differ}

pub returns : goal.returns
returns c = keys_differ
