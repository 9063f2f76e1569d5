-- The section among those of a module (WebAssembly Core 2.0, 5.5.3).
use Rattle.std.specs.Prelude.{◌<◌, ◌^◌, List, length}
use Rattle.wasm_module.specs.Sections.{AreCustoms}
use Rattle.name_section.specs.Names.{Named, name_section}

-- Where it is short enough to be spelled, it is a custom section, or none. What stands behind a custom section's name are any bytes.
abbrev pub NamesAreCustom : Type 0
NamesAreCustom = (names : List Named) → length (name_section names) < 2 ^ 32 → AreCustoms (name_section names)
