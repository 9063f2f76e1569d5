-- Names of exported functions, by the places of exports.
use Rattle.std.specs.Prelude.{◌≡◌, ℕ, ◌<◌, ◌==◌, nat_lt, ◌&&◌, if◌then◌else◌, List, length, slice_get, slice_index_or, slice_set, Option, Some, None}
use Rattle.object_rules.specs.wasm_module.declared.parts.Export.{Export}
use Rattle.object_file.specs.Objects.{export_name}

abbrev pub named : Option Export → Option (List ℕ)
named None = None
named (Some e) = Some e.name

-- The name of the export at a place.
abbrev pub name_at : List Export → Option ℕ → Option (List ℕ)
name_at exports None = None
name_at exports (Some place) = named (slice_get exports place)

-- The places of the last export of each of so many functions.
abbrev pub AreLast : List Export → ℕ → List (Option ℕ) → Type 0
AreLast exports functions places = (k : ℕ) → k < functions → name_at exports (slice_index_or places k None) ≡ export_name exports k

-- The places with one export more, which stands at this place.
abbrev pub noted : Export → ℕ → List (Option ℕ) → List (Option ℕ)
noted e at places = if (e.kind == 0) && nat_lt e.index (length places) then slice_set places e.index (Some at) else places
