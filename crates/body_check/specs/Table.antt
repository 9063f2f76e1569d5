-- The locals of a body, where an instruction looks them up. Contracts of private functions alone cite it.
use Rattle.std.specs.Prelude.{◌≡◌, ◌≤◌, ◌<◌, ℕ, List, [], ◌∷◌, ◌++◌, replicate, Some, slice_get}
use Rattle.wasm_types.specs.declared.value.ValType.{ValType}
use Rattle.wasm_instr.specs.declared.body.LocalRun.{LocalRun}
use Rattle.valid_bodies.specs.Shapes.{local_type}
use Rattle.body_check.specs.declared.table.Stretch.{Stretch}
use Rattle.body_check.specs.declared.table.Table.{Table}

-- The types of the locals that runs declare.
abbrev pub spread : List LocalRun → List ValType
spread [] = []
spread (run ∷ runs) = replicate run.count run.kind ++ spread runs

-- The first locals of a function with these parameters and runs have these types. What lies behind them isn't told.
abbrev pub TellsFirst : List ValType → List LocalRun → List ValType → Type 0
TellsFirst params runs first = (x : ℕ) (t : ValType) → slice_get first x ≡ Some t → local_type params runs x ≡ Some t

-- The locals in these places have the types that stand there.
abbrev pub Tells : List ValType → List LocalRun → List Stretch → Type 0
Tells params runs others = (k : ℕ) (s : Stretch) → slice_get others k ≡ Some s → (x : ℕ) → s.from ≤ x → x < s.to → local_type params runs x ≡ Some s.kind

-- What a table tells of locals is so.
abbrev pub IsTable : List ValType → List LocalRun → Table → Type 0
IsTable params runs table = TellsFirst params runs table.first × Tells params runs table.others
