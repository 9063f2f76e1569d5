use Rattle.std.proofs.Common.{◌≡◌, ◌++◌, filter_map, drop}
use Rattle.link_loader.specs.Section.{global_info}
use Rattle.link_loader.proofs.section.add_globals.Given as goal

abbrev pub invariant-loop-key : goal.invariant-loop-key
invariant-loop-key l =
    l.infos ++ filter_map (global_info l.resolution.imports l.weak) (drop l.key-index l.keys) ≡ l.initial.infos ++ filter_map (global_info l.resolution.imports l.weak) l.keys
