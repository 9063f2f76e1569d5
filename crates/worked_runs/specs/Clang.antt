-- An object that clang 14 wrote of `int f(int x) { return x + 1; }` for wasm32 with -O2, byte for byte, and the module that it is linked to.
use Rattle.std.specs.Prelude.{ℕ, List, [], ◌∷◌, ◌++◌, codes}
use Rattle.link_plan.specs.declared.plan.Plan.{Plan}
use Rattle.link_rules.specs.Examples.{hex, exporting}

-- its type, its import of the memory, its function and the body `local.get 0, i32.const 1, i32.add, end`, each size in five bytes
abbrev pub front : List ℕ
front =
    hex (codes "00 61 73 6D 01 00 00 00 01 86 80 80 80 00 01 60 01 7F 01 7F 02 98 80 80 80 00 01 03") ++ codes "env" ++ 0x0F ∷ codes "__linear_memory"
    ++ hex (codes "02 00 00 03 82 80 80 80 00 01 00 0A 89 80 80 80 00 01 07 00 20 00 41 01 6A 0B")

-- its symbol table, and which compiler wrote it
abbrev pub back : List ℕ
back =
    hex (codes "00 95 80 80 80 00 07") ++ codes "linking" ++ hex (codes "02 08 86 80 80 80 00 01 00 04 00 01 66 00 AD 80 80 80 00 09") ++ codes "producers"
    ++ hex (codes "01 0C") ++ codes "processed-by" ++ hex (codes "01 0C") ++ codes "Debian clang" ++ 6 ∷ codes "14.0.6"

abbrev pub clang_object : List ℕ
clang_object = front ++ back

-- `--no-entry --export=f` and one input
abbrev pub exporting_f : Plan
exporting_f = exporting 1 (codes "f" ∷ [])

-- A module of one function, with a table of one place and a memory of two pages, which exports the memory and f.
abbrev pub linked : List ℕ
linked =
    hex (codes "00 61 73 6D 01 00 00 00 01 06 01 60 01 7F 01 7F 03 02 01 00 04 05 01 70 01 01 01 05 03 01 00 02 07 0E 02 06") ++ codes "memory"
    ++ hex (codes "02 00 01 66 00 00 0A 09 01 07 00 20 00 41 01 6A 0B")
