use Rattle.std.proofs.Common.{◌≡◌, ◌≤◌, drop}
use Rattle.std.specs.List.{position_from}
use Rattle.indexmap.specs.IndexMap.{get}
use Rattle.run_rules.specs.Modules.{imported_globals, same_cell}
use Rattle.run_modules.specs.declared.keys.CellKey.{CellKey}
use Rattle.run_modules.specs.Fits.{or_next}
use Rattle.run_modules.specs.Keys.{key_seen, same_key}
use Rattle.run_modules.proofs.keys.first_places.Given as goal

-- what is found, or else found in what is left, is found in the whole
abbrev pub invariant-loop-import : goal.invariant-loop-import
invariant-loop-import l = record {
  found : (q : CellKey) → or_next (get same_key l.places q) (position_from (same_cell (key_seen q)) l.place (imported_globals (drop l.import-index l.imports))) ≡ position_from (same_cell (key_seen q)) 0 (imported_globals l.imports);
  within : l.place ≤ l.import-index;
}
