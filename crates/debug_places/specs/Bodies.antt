-- Where bodies begin, as the data of a link show it.
use Rattle.std.specs.Prelude.{ℕ, ◌-◌, ◌==◌, ◌&&◌, not, List, map, filter, length, position, slice_index_or, if◌then◌else◌, Option, Some, None}
use Rattle.link_program.specs.wl_base.declared.span.Span.{Span}
use Rattle.link_program.specs.object_file.declared.object.Object.{Object}
use Rattle.link_program.specs.object_file.Spaces.{function_imports}
use Rattle.link_program.specs.linking_section.declared.symbol.Symbol.{Symbol}
use Rattle.link_program.specs.linking_section.declared.symbol.SymbolKind.TheVariants.{Function}
use Rattle.link_program.specs.linking_section.Flags.{kind_code, is_undefined}
use Rattle.link_program.specs.declared.keys.FunctionKey.{FunctionKey}
use Rattle.link_program.specs.declared.keys.FunctionKey.TheVariants as functions
use Rattle.link_program.specs.Keys.{same_function_key}
use Rattle.link_program.specs.image_emit.declared.measuring.Measured.{Measured}
use Rattle.link_layout.specs.declared.values.Layout.{Layout}
use Rattle.link_layout.specs.link_numbers.Numbered.{is_import}
use Rattle.debug_places.specs.declared.bodies.Bodies.{Bodies}

-- What is looked up: the functions by number, how many of them are imports, where each source stands, and the payload of the
-- code section.
pub record Code : Type 0 where
  pub functions : List FunctionKey
  pub imported : ℕ
  pub places : List ℕ
  pub payload : Option Span

abbrev pub bodies_seen : Bodies → Code
bodies_seen b = record { functions = b.numbering.now.functions; imported = b.imported; places = b.places.now; payload = b.code }

-- what a layout and the measure of its image show
abbrev pub code_of : Layout → Measured → Code
code_of l m = record { functions = l.numbering.now.functions; imported = length (filter is_import l.numbering.now.functions); places = m.places; payload = m.code }

-- the place of the function of a number, behind the first byte of the payload
abbrev pub place_in : Code → ℕ → Option Span → Option ℕ
place_in c n None = None
place_in c n (Some payload) = Some (slice_index_or c.places (n - c.imported) 0 - payload.start)

abbrev pub place_by : Code → Option ℕ → Option ℕ
place_by c None = None
place_by c (Some n) = place_in c n c.payload

abbrev pub body_at : Code → ℕ → ℕ → Option ℕ
body_at c input index = place_by c (position (same_function_key (functions.Own input index)) c.functions)

-- The function that a symbol defines, of an object in which so many are imported.
abbrev pub body_of : Code → ℕ → ℕ → Symbol → Option ℕ
body_of c input imported s = if (kind_code s.kind == kind_code Function) && not (is_undefined s) then body_at c input (s.index - imported) else None

abbrev pub body_for : Code → ℕ → ℕ → Option Symbol → Option ℕ
body_for c input imported None = None
body_for c input imported (Some s) = body_of c input imported s

abbrev pub body_row : Code → Object → List (Option ℕ)
body_row c o = map (body_of c o.input (length (function_imports o))) o.symbols
