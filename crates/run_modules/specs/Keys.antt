-- The keys of imported globals, and where the first of each stands.
use Rattle.std.specs.Prelude.{◌≡◌, ℕ, Bool, List, Option, Some, None, if◌then◌else◌}
use Rattle.std.specs.List.{position_from}
use Rattle.indexmap.specs.IndexMap.{IndexMap, get}
use Rattle.run_rules.specs.Modules.{GlobalImport, same_cell}
use Rattle.run_modules.specs.declared.keys.CellKey.{CellKey}
use Rattle.run_modules.specs.contracts.keys.CellKeyPartialEq.TheImpl as key_eq

-- the import that a key tells
abbrev pub key_seen : CellKey → GlobalImport
key_seen k = record { from = k.«module».now; field = k.field.now; kind = record { kind = k.kind; var = k.var } }

abbrev pub same_key : CellKey → CellKey → Bool
same_key = (key_eq.eq-value).it

-- the place of a key after one was noted, unless that had one
abbrev pub noted : Option ℕ → Bool → ℕ → Option ℕ → Option ℕ
noted (Some n) same place old = old
noted None same place old = if same then Some place else old

-- each key is found by the place of the first of these globals that it tells
abbrev pub ArePlaces : {S : Type 0} → List GlobalImport → IndexMap CellKey ℕ S → Type 0
ArePlaces globals places = (q : CellKey) → get same_key places q ≡ position_from (same_cell (key_seen q)) 0 globals
