-- What sections hold: by their ids (WebAssembly Core Specification 2.0, section 5.5.2; 13 is the
-- tag section of the exception handling proposal), and custom ones by their names (tool
-- conventions, Linking.md and DynamicLinking.md).
use Rattle.std.specs.Prelude.{ℕ, ◌==◌, ◌||◌, List, take, codes, if◌then◌else◌}
use Rattle.std.specs.Str.{bytes_eq}
use Rattle.object_parts.specs.declared.kind.SectionKind.{SectionKind}
use Rattle.object_parts.specs.declared.kind.SectionKind.TheVariants.{Custom, Types, Imports, Functions, Tables, Memories, Globals, Exports, Start, Elements, DataCount, Code, Segments, Tags}
use Rattle.object_parts.specs.declared.kind.CustomKind.{CustomKind}
use Rattle.object_parts.specs.declared.kind.CustomKind.TheVariants.{Linking, Relocs, Shared, Other}

abbrev pub kind_of : ℕ → SectionKind
kind_of id =
    if id == 0 then Custom
    else (if id == 1 then Types
    else (if id == 2 then Imports
    else (if id == 3 then Functions
    else (if id == 4 then Tables
    else (if id == 5 then Memories
    else (if id == 6 then Globals
    else (if id == 7 then Exports
    else (if id == 8 then Start
    else (if id == 9 then Elements
    else (if id == 10 then Code
    else (if id == 11 then Segments
    else (if id == 12 then DataCount
    else Tags))))))))))))

-- Linking.md, "Linking Metadata Section" and "Relocation Sections"; DynamicLinking.md, "The
-- dylink.0 Section" (`dylink` is its older name).
abbrev pub custom_kind_of : List ℕ → CustomKind
custom_kind_of name =
    if bytes_eq name (codes "linking") then Linking
    else (if bytes_eq (take 6 name) (codes "reloc.") then Relocs
    else (if bytes_eq name (codes "dylink.0") || bytes_eq name (codes "dylink") then Shared
    else Other))
