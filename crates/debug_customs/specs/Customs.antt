-- The joined debug sections, as the format spells them (WebAssembly Core 2.0, 5.5.3).
use Rattle.std.specs.Prelude.{◌≡◌, ℕ, List, filter, IsUtf8, Ok}
use Rattle.std.specs.List.{AllByRecursion}
use Rattle.wasm_module.specs.Sections.{AreCustoms}
use Rattle.debug_rules.specs.Sections.{Custom, customs, is_debug}
use Rattle.debug_rules.specs.Faults.{Input}
use Rattle.debug_rules.specs.Joined.{Places, joined}

-- The name of a section is UTF-8 (Core 5.2.4).
abbrev pub IsNamed : Custom → Type 0
IsNamed c = IsUtf8 c.name

-- So are those of all debug sections of the objects.
abbrev pub AreNamed : List Input → Type 0
AreNamed inputs = AllByRecursion (λ (i : Input). AllByRecursion IsNamed (filter is_debug (customs i.bytes))) inputs

-- Then what the joined sections are is spelled as custom sections, one behind another, or none.
abbrev pub JoinedAreCustoms : Type 0
JoinedAreCustoms = (len : ℕ) (inputs : List Input) (p : Places) (tail : List ℕ) → AreNamed inputs → joined len inputs p ≡ Ok tail → AreCustoms tail
