use Rattle.std.proofs.Common.{◌≡◌, ◌++◌, filter_map, drop}
use Rattle.link_image.specs.Imports.{global_seen}
use Rattle.link_image.proofs.imports.add_globals.Given as goal

abbrev pub invariant-loop-key : goal.invariant-loop-key
invariant-loop-key l =
    l.imports ++ filter_map (global_seen l.resolution.imports) (drop l.key-index l.keys) ≡ l.initial.imports ++ filter_map (global_seen l.resolution.imports) l.keys
