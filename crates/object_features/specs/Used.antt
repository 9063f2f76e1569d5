-- What was read until now.
use Rattle.std.specs.Prelude.{ℕ, List, Option, option_map}
use Rattle.object_features.specs.declared.said.Used.{Used}

-- the payload that was read last
abbrev pub last_seen : Used → Option (List ℕ)
last_seen used = option_map (λ l. l.now) used.last
