-- Where the things of a link are that debug sections name, by input and symbol (Linking.md, "Relocation Sections").
use Rattle.std.specs.Prelude.{ℕ, ◌+◌, ◌-◌, ◌==◌, Bool, not, ◌&&◌, ◌||◌, List, map, find, position, slice_index_or, if◌then◌else◌, Option, Some, None, option_map}
use Rattle.std.specs.List.{list_any}
use Rattle.object_file.specs.wl_base.declared.span.Span.{Span}
use Rattle.object_file.specs.wl_base.declared.span.FileSpan.{FileSpan}
use Rattle.object_file.specs.linking_section.declared.symbol.SymbolKind.TheVariants.{Function, Datum, GlobalVar}
use Rattle.object_file.specs.linking_section.Flags.{is_undefined}
use Rattle.object_file.specs.declared.object.Object.{Object}
use Rattle.made_symbols.specs.declared.mode.Mode.{Mode}
use Rattle.mark_bits.specs.declared.kinds.TheConstants as chunks
use Rattle.round_rules.specs.Rounds.{Candidate}
use Rattle.name_rules.specs.Entries.{InputSymbol, is_kind}
use Rattle.name_rules.specs.Meanings.{Meaning, here, imported, null, nothing, Resolved}
use Rattle.image_emit.specs.Bytes.{Tree, tree_of, file_part}
use Rattle.image_emit.specs.Filled.{tree_filled}
use Rattle.image_emit.specs.Pieces.{code_place, source_places}
use Rattle.reloc_apply.specs.Windows.{patch_of}
use Rattle.link_rules.specs.Program.{Program, Part, no_source, span_of, chunk_at, same_chunk}
use Rattle.link_rules.specs.Keys.{FunctionKey, outside, own, same_function, function_of, GlobalKey, outside_global, same_global, global_of}
use Rattle.link_rules.specs.Values.{Layout, address_of}
use Rattle.link_rules.specs.Output.{image, defined, source_windows, held}
use Rattle.debug_rules.specs.Faults.{Input}
use Rattle.debug_rules.specs.Joined.{Places}

-- ---- bodies

-- Where the body of this number begins in the payload of the code section, behind its size (Core 5.5.13).
abbrev pub place_in : Tree → ℕ → Option Span → Option ℕ
place_in t k None = None
place_in t k (Some code) = Some (slice_index_or (source_places t) k 0 - code.start)

abbrev pub place_of : Tree → Option ℕ → Option ℕ
place_of t None = None
place_of t (Some k) = place_in t k (code_place t)

module _ (mode : Mode) (p : Program) (parts : List Part) (exports : List InputSymbol) (l : Layout) where
  -- The output as a tree, each window written.
  abbrev pub tree : Tree
  tree = tree_filled (map (map patch_of) (held mode (source_windows mode p parts exports l))) (tree_of p.files (image mode p parts exports l))

  -- Where the body of a function stands, if it is one that the output defines.
  abbrev pub function_place : FunctionKey → Option ℕ
  function_place f = place_of tree (position (same_function f) (defined mode p parts exports l))

  -- FUNCTION_OFFSET_I32: the function that the object itself defines, whoever wins its name.
  abbrev pub body_place : InputSymbol → Option ℕ
  body_place e = if is_kind Function e && not (is_undefined e.symbol) then function_place (own e.input e.index) else None

-- ---- addresses

-- whether a datum has an address: one of the linker's, or one of a live segment
abbrev pub is_placed : Layout → InputSymbol → Bool
is_placed l e = (e.input == 0) || list_any (same_chunk (chunk_at e.input chunks.SEGMENT e.index)) l.segments

-- MEMORY_ADDR_I32: the address of the datum that is meant.
abbrev pub address_place : Mode → Layout → Meaning → Option ℕ
address_place mode l (here e) = if is_kind Datum e && is_placed l e then Some (address_of mode l e) else None
address_place mode l (imported k) = None
address_place mode l null = None
address_place mode l nothing = None

-- ---- slots

abbrev pub slot_place : Layout → FunctionKey → Option ℕ
slot_place l f = option_map (λ k. l.numbers.first_slot + k) (position (same_function f) l.numbers.slots)

-- TABLE_INDEX_I32: the slot of the function that is meant; null has none.
abbrev pub meant_slot : Layout → Meaning → Option ℕ
meant_slot l (here e) = if is_kind Function e then slot_place l (function_of e) else None
meant_slot l (imported k) = slot_place l (outside k)
meant_slot l null = None
meant_slot l nothing = None

-- ---- globals

abbrev pub global_place : Layout → GlobalKey → Option ℕ
global_place l g = position (same_global g) l.numbers.globals

-- GLOBAL_INDEX_I32: the number of the global that is meant.
abbrev pub meant_global : Mode → Layout → Meaning → Option ℕ
meant_global mode l (here e) = if is_kind GlobalVar e then global_place l (global_of mode e) else None
meant_global mode l (imported k) = global_place l (outside_global k)
meant_global mode l null = None
meant_global mode l nothing = None

-- ---- all

-- The places of a link, a list for each loaded object and a place for each symbol.
unfoldable pub link_places : Mode → Program → List Part → List InputSymbol → Layout → Places
link_places mode p parts exports l = record {
  bodies = map (λ (r : Resolved). map (body_place mode p parts exports l) r.symbols) p.resolved;
  addresses = map (λ (r : Resolved). map (address_place mode l) r.meanings) p.resolved;
  slots = map (λ (r : Resolved). map (meant_slot l) r.meanings) p.resolved;
  globals = map (λ (r : Resolved). map (meant_global mode l) r.meanings) p.resolved;
}

-- ---- the bytes of objects

-- The bytes of a candidate as a part of its file.
abbrev pub span_at : List Candidate → ℕ → Option Candidate → FileSpan
span_at all input None = no_source
span_at all input (Some c) = span_of all input (record { start = 0; len = c.len })

-- A loaded object with its bytes.
abbrev pub input_in : List (List ℕ) → List Candidate → Object → Input
input_in files all o = record {
  input = o.input;
  bytes = file_part files (span_at all o.input (find (λ c. c.input == o.input) all));
  symbols = o.symbols;
}

unfoldable pub link_inputs : List (List ℕ) → List Candidate → List Object → List Input
link_inputs files all objects = map (input_in files all) objects
