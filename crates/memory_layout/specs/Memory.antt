-- Where segments, the stack and the heap stand.
use Rattle.std.specs.Prelude.{ℕ, ◌+◌, ◌-◌, ◌*◌, ◌/◌, ◌^◌, nat_lt, max, Bool, true, false, not, List, [], ◌∷◌, ◌++◌, filter, find, if◌then◌else◌, Option, Some, None, unwrap_or, option_map, Result, pos}
use Rattle.wl_base.specs.Choice.{first_some, given, unless}
use Rattle.wl_base.specs.declared.fault.What.{What}
use Rattle.wl_base.specs.declared.fault.What.TheVariants.{DataEnd, HeapBase, MaxMemory}
use Rattle.wl_base.specs.declared.layout_error.LayoutError.{LayoutError}
use Rattle.wl_base.specs.declared.layout_error.LayoutError.TheVariants.{Overflow}
use Rattle.memory_layout.specs.declared.rules.MemoryRules.{MemoryRules}
use Rattle.memory_layout.specs.declared.rules.MemoryRules.TheVariants.{Absolute, Relative}
use Rattle.memory_layout.specs.declared.rules.SegmentShape.{SegmentShape}
use Rattle.memory_layout.specs.declared.rules.Places.{Places}

-- The least multiple of the size that is at least n.
abbrev pub up : ℕ → ℕ → ℕ
up n size = (n + size - 1) / size * size

-- Segments

-- A segment that is placed behind an end begins at the next address that its alignment allows.
abbrev pub address_after : ℕ → SegmentShape → ℕ
address_after at s = up at (2 ^ s.align)

abbrev pub end_after : ℕ → SegmentShape → ℕ
end_after at s = address_after at s + s.len

-- The end of each of these, placed one behind the other.
abbrev pub ends : ℕ → List SegmentShape → List ℕ
ends at [] = []
ends at (s ∷ ss) = end_after at s ∷ ends (end_after at s) ss

abbrev pub last_end : ℕ → List SegmentShape → ℕ
last_end at [] = at
last_end at (s ∷ ss) = last_end (end_after at s) ss

abbrev pub solid : List SegmentShape → List SegmentShape
solid shapes = filter (λ s. not s.zero) shapes

abbrev pub zeros : List SegmentShape → List SegmentShape
zeros shapes = filter (λ s. s.zero) shapes

-- The order of placing: those that aren't zero, then the zero ones.
abbrev pub placed : List SegmentShape → List SegmentShape
placed shapes = solid shapes ++ zeros shapes

-- The address of each in the order given, where those that aren't zero and those that are go on from these two ends.
abbrev pub addresses : ℕ → ℕ → List SegmentShape → List ℕ
addresses next next_zero [] = []
addresses next next_zero (s ∷ ss) =
    address_after (if s.zero then next_zero else next) s
    ∷ addresses (if s.zero then next else end_after next s) (if s.zero then end_after next_zero s else next_zero) ss

-- The stack and the heap

-- What of the memory isn't segments. The stack and the heap are told by the data's end.
pub record Around : Type 0 where
  pub base : ℕ
  pub stack_low : ℕ → ℕ
  pub stack_high : ℕ → ℕ
  pub heap_base : ℕ → ℕ
  pub least_pages : ℕ
  pub max : Option ℕ

-- The stack stands behind the data, or first.
abbrev pub around_stack : Bool → Option ℕ → ℕ → ℕ → Option ℕ → Around
around_stack false base stack initial limit = record {
  base = unwrap_or base 1024;
  stack_low = λ end. up end 16;
  stack_high = λ end. up end 16 + stack;
  heap_base = λ end. up end 16 + stack;
  least_pages = initial / 65536;
  max = limit;
}
around_stack true base stack initial limit = record {
  base = max stack (unwrap_or base 0);
  stack_low = λ end. 0;
  stack_high = λ end. stack;
  heap_base = λ end. up end 16;
  least_pages = initial / 65536;
  max = limit;
}

-- Where the loader chooses the base there is no stack, no heap and no page.
abbrev pub around : MemoryRules → Around
around (Absolute first base stack initial limit) = around_stack first base stack initial limit
around Relative = record { base = 0; stack_low = λ end. 0; stack_high = λ end. 0; heap_base = λ end. 0; least_pages = 0; max = None }

abbrev pub base_of : MemoryRules → ℕ
base_of rules = (around rules).base

abbrev pub data_end : MemoryRules → List SegmentShape → ℕ
data_end rules shapes = last_end (base_of rules) (placed shapes)

-- Where the heap begins, by the data's end.
abbrev pub heap_base : MemoryRules → ℕ → ℕ
heap_base rules end = (around rules).heap_base end

-- The whole pages that reach to a place, and at least so many.
abbrev pub pages_over : ℕ → ℕ → ℕ
pages_over place least = max (up place 65536 / 65536) least

-- The pages of the memory, by the data's end.
abbrev pub pages : MemoryRules → ℕ → ℕ
pages rules end = pages_over (heap_base rules end) (around rules).least_pages

abbrev pub places_by : MemoryRules → List ℕ → ℕ → Places
places_by rules addresses end = record {
  addresses = addresses;
  base = base_of rules;
  data_end = end;
  stack_low = (around rules).stack_low end;
  stack_high = (around rules).stack_high end;
  heap_base = heap_base rules end;
  pages = pages rules end;
}

-- All of it, whether or not it fits.
unfoldable pub places : MemoryRules → List SegmentShape → Places
places rules shapes = places_by rules (addresses (base_of rules) (last_end (base_of rules) (solid shapes)) shapes) (data_end rules shapes)

-- What doesn't fit

-- A number that passes its limit.
pub record Passed : Type 0 where
  pub what : What
  pub needed : ℕ

abbrev pub passed : What → ℕ → Passed
passed what needed = record { what = what; needed = needed }

abbrev pub is_above : ℕ → ℕ → Bool
is_above limit n = nat_lt limit n

-- The first end of these segments that is too high.
abbrev pub data_past : ℕ → List SegmentShape → Option Passed
data_past at shapes = option_map (passed DataEnd) (find (is_above (2 ^ 32 - 1)) (ends at shapes))

abbrev pub heap_past : MemoryRules → ℕ → Option Passed
heap_past rules end = option_map (passed HeapBase) (given (is_above (2 ^ 32 - 1) (heap_base rules end)) (heap_base rules end))

abbrev pub above_max : ℕ → Option ℕ → Option ℕ
above_max bytes None = None
above_max bytes (Some limit) = given (is_above limit bytes) bytes

abbrev pub max_past : MemoryRules → ℕ → Option Passed
max_past rules end = option_map (passed MaxMemory) (above_max (pages rules end * 65536) (around rules).max)

-- The first that applies: an end of a segment, the heap base, the pages in bytes.
unfoldable pub memory_overflow : MemoryRules → List SegmentShape → Option Passed
memory_overflow rules shapes = first_some
    (data_past (base_of rules) (placed shapes)
    ∷ heap_past rules (data_end rules shapes)
    ∷ max_past rules (data_end rules shapes)
    ∷ [])

abbrev pub too_much : What → ℕ → LayoutError
too_much what needed = Overflow what (pos needed)

abbrev pub too_much_of : Passed → LayoutError
too_much_of x = too_much x.what x.needed

-- The places, or the first number that passes its limit.
unfoldable pub memory_of : MemoryRules → List SegmentShape → Result Places LayoutError
memory_of rules shapes = unless (option_map too_much_of (memory_overflow rules shapes)) (places rules shapes)
