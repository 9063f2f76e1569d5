-- An object in two steps: the lists that are kept as columns, and the rest.
use Rattle.std.specs.Prelude.{ℕ, List, map}
use Rattle.object_rules.specs.wasm_sections.declared.section.SectionSpan.{SectionSpan}
use Rattle.object_rules.specs.object_parts.declared.parts.Parts.{Parts}
use Rattle.object_rules.specs.Spaces.{counts_of}
use Rattle.object_rules.specs.Windows.{relocs_for, start_of}
use Rattle.object_file.specs.declared.building.Columns.{Columns}
use Rattle.object_file.specs.declared.object.Object.{Object}
use Rattle.object_file.specs.Objects.{functions_from, segments_from, with_name, linking_of}

abbrev pub columns_of : List SectionSpan → Parts → Columns
columns_of all parts = record {
  types = parts.types;
  imports = parts.imports;
  functions = functions_from parts.exports (counts_of all parts).imported_functions parts.functions parts.bodies;
  segments = segments_from (start_of 11 all) (relocs_for 11 all parts.relocs) (linking_of parts.linking).segments parts.segments;
  symbols = map (with_name parts.imports) (linking_of parts.linking).symbols;
}

abbrev pub joined : ℕ → Columns → Parts → Object
joined input c parts = record {
  input = input;
  types = c.types;
  imports = c.imports;
  functions = c.functions;
  globals = parts.globals;
  segments = c.segments;
  symbols = c.symbols;
  inits = (linking_of parts.linking).inits;
  groups = (linking_of parts.linking).groups;
}
