-- What stands in windows.
use Rattle.std.specs.Prelude.{ℕ, ◌+◌, ◌-◌, ◌*◌, ◌^◌, ◌==◌, min, Bool, not, ◌&&◌, ◌||◌, List, [], map, filter, length, position, slice_index_or, if◌then◌else◌, unwrap_or, ℤ, pos}
use Rattle.std.specs.List.{list_all}
use Rattle.name_rules.specs.object_file.linking_section.declared.symbol.SymbolKind.TheVariants.{Datum}
use Rattle.name_rules.specs.object_file.reloc_section.declared.kinds.TheConstants as relocs
use Rattle.made_symbols.specs.declared.mode.Mode.{Mode}
use Rattle.made_symbols.specs.declared.mode.Mode.TheVariants.{Plain, Shared}
use Rattle.made_symbols.specs.declared.roles.Role.{Role}
use Rattle.made_symbols.specs.declared.roles.Role.TheVariants.{CallCtors, ApplyDataRelocs, StackPointer, MemoryBase, TableBase, IndirectFunctionTable, HeapBase, DataEnd, GlobalBase, DsoHandle, StackLow, StackHigh, HeapEnd}
use Rattle.made_symbols.specs.Made.{made, stack_pointer}
use Rattle.name_rules.specs.Entries.{InputSymbol, is_kind}
use Rattle.name_rules.specs.Meanings.{Meaning, here, imported, null, nothing}
use Rattle.mark_bits.specs.declared.chunk.Chunk.{Chunk}
use Rattle.mark_bits.specs.declared.kinds.TheConstants as chunks
use Rattle.memory_layout.specs.declared.rules.MemoryRules.{MemoryRules}
use Rattle.memory_layout.specs.declared.rules.MemoryRules.TheVariants.{Absolute, Relative}
use Rattle.memory_layout.specs.declared.rules.SegmentShape.{SegmentShape}
use Rattle.memory_layout.specs.declared.rules.Places.{Places}
use Rattle.reloc_apply.specs.declared.window.Form.{Form}
use Rattle.reloc_apply.specs.declared.window.Form.TheVariants.{Unsigned5, Signed5, Word4}
use Rattle.reloc_apply.specs.declared.window.Window.{Window}
use Rattle.dylink_out.specs.image_emit.Bytes.{file_part}
use Rattle.link_plan.specs.declared.plan.Plan.{Plan}
use Rattle.link_rules.specs.Program.{Program, Part, Content, function, segment, global, linker_made, Ref, TypeWindow, Named, a_symbol, a_type, same_chunk, chunk_at}
use Rattle.link_rules.specs.Marks.{by_mode}
use Rattle.link_rules.specs.Keys.{Numbers, GotKey, got_entry, got_import, got_null, outside, function_of, ref_function, ref_global, is_null, function_number, global_number, slot_of, type_place}

-- ---- segments

abbrev pub part_bytes : Program → Part → List ℕ
part_bytes p part = file_part p.files part.source

-- The data segments among the parts.
abbrev pub segments : List Part → List Part
segments parts = filter (λ part. part.chunk.kind == chunks.SEGMENT) parts

abbrev pub content_align : Content → ℕ
content_align (function t) = 0
content_align (segment info) = info.align
content_align (global g) = 0
content_align (linker_made m) = 0

-- A segment is zero where all its bytes are 0 and no window lies in it.
abbrev pub is_zero : Program → Part → Bool
is_zero p part = (length part.named == 0) && list_all (λ b. b == 0) (part_bytes p part)

abbrev pub shape_of : Program → Part → SegmentShape
shape_of p part = record { len = part.source.span.len; align = content_align part.content; zero = is_zero p part }

-- The shapes of the live segments, by input and index.
unfoldable pub shapes : Program → List Part → List SegmentShape
shapes p parts = map (shape_of p) (segments parts)

-- What the words say of memory.
abbrev pub rules_of : Mode → Plan → MemoryRules
rules_of Plain plan = Absolute plan.stack_first plan.global_base plan.stack_size plan.initial_memory plan.max_memory
rules_of Shared plan = Relative

-- The segments that aren't zero, by rising address.
abbrev pub solid_segments : Program → List Part → List Part
solid_segments p parts = filter (λ part. not (is_zero p part)) (segments parts)

-- ---- the layout: what windows are filled by

-- `segments` has the live segments by input and index; the places have the address of each at the same place.
pub record Layout : Type 0 where
  pub segments : List Chunk
  pub places : Places
  pub numbers : Numbers

abbrev pub segment_address : Layout → Chunk → ℕ
segment_address l c = slice_index_or l.places.addresses (unwrap_or (position (same_chunk c) l.segments) 0) 0

-- The address of a linker-made datum of a plain output, by what it stands for; 0 of the others, which are no data. The heap's end is
-- that of the initial memory, and at most 2^32 - 1.
abbrev pub made_address : Places → Role → ℕ
made_address at CallCtors = 0
made_address at ApplyDataRelocs = 0
made_address at StackPointer = 0
made_address at MemoryBase = 0
made_address at TableBase = 0
made_address at IndirectFunctionTable = 0
made_address at HeapBase = at.heap_base
made_address at DataEnd = at.data_end
made_address at GlobalBase = at.base
made_address at DsoHandle = at.base
made_address at StackLow = at.stack_low
made_address at StackHigh = at.stack_high
made_address at HeapEnd = min (at.pages * 65536) (2 ^ 32 - 1)

-- The same of each linker-made symbol, by number.
abbrev pub made_data : Places → List ℕ
made_data at = map (λ m. made_address at m.role) (made Plain)

-- The address of a datum: its segment's address and its offset there. In a shared output both count from `__memory_base`, where
-- `__dso_handle` is.
abbrev pub address_of : Mode → Layout → InputSymbol → ℕ
address_of mode l e =
    if e.input == 0 then slice_index_or (by_mode mode (made_data l.places) []) e.place 0
    else segment_address l (chunk_at e.input chunks.SEGMENT e.index) + e.symbol.offset

-- The value of a linker-made global: `__stack_pointer` begins at the stack's top, the bases of a plain output are 0.
abbrev pub made_global_value : Layout → ℕ → ℕ
made_global_value l k = if k == stack_pointer then l.places.stack_high else 0

abbrev pub meant_address : Mode → Layout → Meaning → ℕ
meant_address mode l (here e) = address_of mode l e
meant_address mode l (imported k) = 0
meant_address mode l null = 0
meant_address mode l nothing = 0

-- The addend of a null datum isn't added.
abbrev pub meant_addend : Meaning → ℤ → ℤ
meant_addend (here e) addend = addend
meant_addend (imported k) addend = addend
meant_addend null addend = pos 0
meant_addend nothing addend = addend

-- The slot of a function; that of null is 0.
abbrev pub ref_slot : Layout → Ref → ℕ
ref_slot l ref = if is_null ref.meaning then 0 else slot_of l.numbers (ref_function ref)

-- What a cell of an address holds.
abbrev pub got_value : Mode → Layout → GotKey → ℕ
got_value mode l (got_entry e) = if is_kind Datum e then address_of mode l e else slot_of l.numbers (function_of e)
got_value mode l (got_import k) = slot_of l.numbers (outside k)
got_value mode l (got_null kind) = 0

-- ---- what the types of relocations ask for (Linking.md, "Relocation Sections")

pub data Asks : Type 0 where
  a_function : Asks
  a_slot : Asks
  an_address : Asks
  a_global : Asks
  a_table : Asks

-- Of the types that name no type of functions, the one that isn't named here is TABLE_NUMBER_LEB.
abbrev pub asks : ℕ → Asks
asks kind =
    if kind == relocs.FUNCTION_INDEX_LEB then a_function
    else if (kind == relocs.TABLE_INDEX_SLEB) || (kind == relocs.TABLE_INDEX_I32) || (kind == relocs.TABLE_INDEX_REL_SLEB) then a_slot
    else if (kind == relocs.MEMORY_ADDR_LEB) || (kind == relocs.MEMORY_ADDR_SLEB) || (kind == relocs.MEMORY_ADDR_I32) || (kind == relocs.MEMORY_ADDR_REL_SLEB) then an_address
    else if kind == relocs.GLOBAL_INDEX_LEB then a_global
    else a_table

-- TABLE_INDEX_SLEB, MEMORY_ADDR_SLEB and both REL_SLEB are signed, the I32 types have four bytes, all others are unsigned.
abbrev pub form_of : ℕ → Form
form_of kind =
    if (kind == relocs.TABLE_INDEX_SLEB) || (kind == relocs.MEMORY_ADDR_SLEB) || (kind == relocs.MEMORY_ADDR_REL_SLEB) || (kind == relocs.TABLE_INDEX_REL_SLEB) then Signed5
    else if (kind == relocs.TABLE_INDEX_I32) || (kind == relocs.MEMORY_ADDR_I32) then Word4
    else Unsigned5

-- The number that a reference stands for, without its addend. The table is number 0.
abbrev pub target_by : Mode → Layout → Ref → Asks → ℕ
target_by mode l ref a_function = function_number l.numbers (ref_function ref)
target_by mode l ref a_slot = ref_slot l ref
target_by mode l ref an_address = meant_address mode l ref.meaning
target_by mode l ref a_global = global_number l.numbers (ref_global mode ref)
target_by mode l ref a_table = 0

-- Only addresses have an addend.
abbrev pub addend_by : Ref → Asks → ℤ
addend_by ref a_function = pos 0
addend_by ref a_slot = pos 0
addend_by ref an_address = meant_addend ref.meaning ref.addend
addend_by ref a_global = pos 0
addend_by ref a_table = pos 0

abbrev pub ref_window : Mode → Layout → Ref → Window
ref_window mode l ref = record {
  place = ref.place;
  form = form_of ref.kind;
  target = pos (target_by mode l ref (asks ref.kind));
  addend = addend_by ref (asks ref.kind);
}

-- TYPE_INDEX_LEB: the number of the type in the output.
abbrev pub type_window : Layout → TypeWindow → Window
type_window l w = record { place = w.place; form = Unsigned5; target = pos (type_place l.numbers w.type); addend = pos 0 }

abbrev pub named_window : Mode → Layout → Named → Window
named_window mode l (a_symbol ref) = ref_window mode l ref
named_window mode l (a_type w) = type_window l w

-- The windows of a part, by rising place in it.
unfoldable pub windows : Mode → Layout → Part → List Window
windows mode l part = map (named_window mode l) part.named

abbrev pub slot_count : Layout → ℕ
slot_count l = length l.numbers.slots
