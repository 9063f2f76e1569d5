-- The first segment of a module that doesn't fit.
use Rattle.std.specs.Prelude.{ℕ, ◌+◌, ◌*◌, Bool, List, [], ◌∷◌, ◌++◌, length, if◌then◌else◌, Option, Some, None}
use Rattle.std.specs.List.{list_all}
use Rattle.wasm_types.specs.declared.table.TableType.{TableType}
use Rattle.wasm_module.specs.declared.structure.Module.{Module}
use Rattle.run_rules.specs.declared.value.Value.{Value}
use Rattle.run_rules.specs.declared.session.Session.{Session}
use Rattle.run_rules.specs.Modules.{first, imported_tables, imported_memories, module_firsts, least_of, first_pages, element_fits, segment_fits}

-- the number of the first that fails a test, where the first has this one
abbrev pub first_not : {A : Type 0} → (A → Bool) → ℕ → List A → Option ℕ
first_not test n [] = None
first_not test n (x ∷ xs) = if test x then first_not test (n + 1) xs else Some n

abbrev pub or_next : Option ℕ → Option ℕ → Option ℕ
or_next (Some n) next = Some n
or_next None next = next

abbrev pub table_in : Module → Option TableType
table_in m = first (imported_tables m.imports ++ m.tables)

abbrev pub pages_in : Session → Module → ℕ
pages_in s m = first_pages s (imported_memories m.imports) m.memories

-- Of the element segments and then the data segments, the first that doesn't fit the first table or memory, or has no offset: what
-- instantiation refuses (Core 4.5.4).
unfoldable pub first_outside : Session → Module → Option ℕ
first_outside s m = or_next
    (first_not (element_fits (module_firsts s m) (least_of (table_in m))) 0 m.elements)
    (first_not (segment_fits (module_firsts s m) (65536 * pages_in s m)) (length m.elements) m.data_segments)

-- where no segment doesn't fit
abbrev pub all_elements_fit : List Value → Module → Bool
all_elements_fit firsts m = list_all (element_fits firsts (least_of (table_in m))) m.elements

abbrev pub all_segments_fit : Session → List Value → Module → Bool
all_segments_fit s firsts m = list_all (segment_fits firsts (65536 * pages_in s m)) m.data_segments
