-- What is looked up of an object.
use Rattle.std.specs.Prelude.{ℕ, ◌+◌, ◌-◌, ◌==◌, Bool, not, List, [], length, slice_get, slice_index_or, if◌then◌else◌, Option, Some, None}
use Rattle.link_program.specs.wl_base.declared.span.Span.{Span}
use Rattle.link_program.specs.wl_base.declared.span.FileSpan.{FileSpan}
use Rattle.link_program.specs.object_file.declared.object.Object.{Object}
use Rattle.link_program.specs.name_entries.declared.parts.ObjectParts.{ObjectParts}
use Rattle.link_program.specs.name_entries.Parts.{has_flag}
use Rattle.link_program.specs.link_rules.Program.{no_source}
use Rattle.link_program.specs.declared.home.Home.{Home}
use Rattle.program_tables.specs.declared.view.Lookups.{Lookups}
use Rattle.program_tables.specs.declared.view.ObjectView.{ObjectView}

-- An object, its dropped parts, the number of its first symbol, the numbers of its types, where its bytes begin, and by number the symbols that
-- calls name.
pub record View : Type 0 where
  pub object : Object
  pub parts : ObjectParts
  pub first : ℕ
  pub types : List ℕ
  pub home : Option Home
  pub called : List ℕ

abbrev pub view_seen : ObjectView → View
view_seen v = record { object = v.from.now; parts = v.parts.now; first = v.first; types = v.types.now; home = v.home; called = v.called.now }

abbrev pub view_with : Lookups → ℕ → Option Object → Option ObjectParts → Option View
view_with l i (Some o) (Some p) = Some (record {
  object = o;
  parts = p;
  first = slice_index_or l.firsts.now i 0;
  types = slice_index_or l.types.now i [];
  home = slice_get l.homes.now (o.input - 1);
  called = l.called.now;
})
view_with l i (Some o) None = None
view_with l i None p = None

-- The object at a place.
abbrev pub view_at : Lookups → ℕ → Option View
view_at l i = view_with l i (slice_get l.entries.objects.now i) (slice_get l.entries.parts.now i)

-- whether a defined function is kept; groups name it behind the imports
abbrev pub keeps_function : View → ℕ → Bool
keeps_function v index = not (has_flag v.parts.dropped_functions (index + length v.parts.imports.functions))

-- The number of the symbol that a call of a symbol of the object names, and of the one that a relocation of this type names.
abbrev pub called_from : View → ℕ → ℕ
called_from v symbol = slice_index_or v.called (v.first + symbol) (v.first + symbol)

abbrev pub number_named : View → ℕ → ℕ → ℕ
number_named v kind symbol = if kind == 0 then called_from v symbol else v.first + symbol

-- The number of a type of the object. One that isn't there is () to ().
abbrev pub type_from : View → ℕ → ℕ
type_from v index = slice_index_or v.types index 0

-- A span of the object as a span of its file.
abbrev pub source_from : Option Home → Span → FileSpan
source_from None s = no_source
source_from (Some home) s = record { file = home.file; span = record { start = home.start + s.start; len = s.len } }
