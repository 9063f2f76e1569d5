-- The parts of an object and what they name, by the numbers of symbols and types.
use Rattle.std.specs.Prelude.{ℕ, zero, suc, ◌+◌, ◌==◌, ◌&&◌, nat_lt, Bool, true, not, List, [], ◌∷◌, ◌++◌, filter, filter_map, length, if◌then◌else◌, Option, Some, None, option_map, ℤ}
use Rattle.link_program.specs.wl_base.Choice.{given}
use Rattle.link_program.specs.linking_section.declared.symbol.SymbolKind.{SymbolKind}
use Rattle.link_program.specs.reloc_section.declared.entry.Reloc.{Reloc}
use Rattle.link_program.specs.body_windows.declared.operand.Operand.{Operand}
use Rattle.link_program.specs.body_windows.declared.operand.Operand.TheVariants as operands
use Rattle.link_program.specs.object_parts.declared.parts.GlobalDef.{GlobalDef}
use Rattle.link_program.specs.object_columns.declared.functions.FunctionDef.{FunctionDef}
use Rattle.link_program.specs.object_columns.declared.segments.SegmentDef.{SegmentDef}
use Rattle.link_program.specs.mark_bits.declared.chunk.Chunk.{Chunk}
use Rattle.link_program.specs.made_symbols.declared.mode.Mode.{Mode}
use Rattle.link_program.specs.made_symbols.Made.{made, MadeSymbol, call_ctors}
use Rattle.link_program.specs.name_entries.Parts.{has_flag}
use Rattle.link_program.specs.link_rules.Program.{indexed, option_onto, made_kind, no_source}
use Rattle.link_program.specs.declared.named.Named.{Named}
use Rattle.link_program.specs.declared.named.Named.TheVariants as items
use Rattle.link_program.specs.declared.part.Content.TheVariants.{Function, Segment, Global, Made}
use Rattle.link_program.specs.declared.part.Part.{Part}
use Rattle.program_tables.specs.declared.view.Lookups.{Lookups}
use Rattle.program_tables.specs.Views.{View, view_at, keeps_function, number_named, type_from, source_from}
use Rattle.program_tables.specs.Inits.{call_names}

-- A part, and what it names.
pub record Row : Type 0 where
  pub part : Part
  pub named : List Named

-- ---- what windows name

abbrev pub symbol_named : View → ℕ → ℕ → ℤ → ℕ → Option Named
symbol_named v place kind addend symbol = given (nat_lt symbol (length v.object.symbols)) (items.Symbol kind place addend (number_named v kind symbol))

abbrev pub operand_named : View → Operand → Option Named
operand_named v operands.Number = None
operand_named v (operands.Symbol kind place symbol addend) = symbol_named v place kind addend symbol
operand_named v (operands.TypeRef place index) = Some (items.Type place (type_from v index))
operand_named v operands.TableZero = None

abbrev pub window_named : View → Reloc → Option Named
window_named v w = symbol_named v w.offset w.kind w.addend w.index

-- ---- parts

abbrev pub function_row : View → ℕ → FunctionDef → Row
function_row v index f = record {
  part = record {
    chunk = record { input = v.object.input; kind = 0; index = index };
    content = Function (type_from v f.type_index);
    source = source_from v.home f.span;
  };
  named = filter_map (operand_named v) f.operands;
}

abbrev pub segment_row : View → ℕ → SegmentDef → Row
segment_row v index g = record {
  part = record {
    chunk = record { input = v.object.input; kind = 1; index = index };
    content = Segment g.info.align g.info.flags;
    source = source_from v.home g.span;
  };
  named = filter_map (window_named v) g.windows;
}

abbrev pub global_row : View → ℕ → GlobalDef → Row
global_row v index g = record {
  part = record {
    chunk = record { input = v.object.input; kind = 2; index = index };
    content = Global g.kind g.value;
    source = no_source;
  };
  named = [];
}

abbrev pub keeps_chunk : View → Chunk → Bool
keeps_chunk v c =
    if c.kind == 0 then keeps_function v c.index else if c.kind == 1 then not (has_flag v.parts.dropped_segments c.index) else true

abbrev pub keeps_row : View → Row → Bool
keeps_row v row = keeps_chunk v row.part.chunk

-- The kept parts of an object.
abbrev pub rows_in : View → List Row
rows_in v =
    filter (keeps_row v) (indexed (function_row v) 0 v.object.functions)
    ++ filter (keeps_row v) (indexed (segment_row v) 0 v.object.segments)
    ++ filter (keeps_row v) (indexed (global_row v) 0 v.object.globals)

-- ---- all parts

-- A linker-made symbol as a part. The calls are those of `__wasm_call_ctors`.
abbrev pub made_row : List Named → ℕ → SymbolKind → Option Row
made_row calls place symbol_kind = option_map (λ kind. record {
  part = record { chunk = record { input = 0; kind = kind; index = place }; content = Made; source = no_source };
  named = if (kind == 0) && (place == call_ctors) then calls else [];
}) (made_kind symbol_kind)

abbrev pub made_rows : List Named → ℕ → List MadeSymbol → List Row
made_rows calls place [] = []
made_rows calls place (m ∷ ms) = option_onto (made_row calls place m.kind) (made_rows calls (place + 1) ms)

abbrev pub rows_of_view : Option View → List Row
rows_of_view None = []
rows_of_view (Some v) = rows_in v

-- Those of the first objects.
abbrev pub rows_upto : Lookups → ℕ → List Row
rows_upto l zero = []
rows_upto l (suc n) = rows_upto l n ++ rows_of_view (view_at l n)

-- Those of so many objects from one on.
abbrev pub rows_from : Lookups → ℕ → ℕ → List Row
rows_from l from zero = []
rows_from l from (suc n) = rows_from l from n ++ rows_of_view (view_at l (from + n))

-- The kept parts of all objects: the linker's own by number, then those of each object.
abbrev pub all_rows : Mode → Lookups → List Row
all_rows mode l = made_rows (call_names l) 0 (made mode) ++ rows_upto l (length l.entries.objects.now)
