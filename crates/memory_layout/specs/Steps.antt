-- What placing asks for, and what its steps give.
use Rattle.std.specs.Prelude.{◌≡◌, ℕ, ◌*◌, ◌-◌, ◌%◌, ◌^◌, ◌≤◌, List, [], ◌∷◌, if◌then◌else◌, Option, option_map, Result, Ok, All, IfSome}
use Rattle.wl_base.specs.Choice.{given, unless, first_some, ◌>>=◌}
use Rattle.wl_base.specs.declared.layout_error.LayoutError.{LayoutError}
use Rattle.wl_base.specs.declared.fault.What.TheVariants.{DataEnd, MaxMemory}
use Rattle.memory_layout.specs.declared.rules.MemoryRules.{MemoryRules}
use Rattle.memory_layout.specs.declared.rules.MemoryRules.TheVariants.{Absolute, Relative}
use Rattle.memory_layout.specs.declared.rules.SegmentShape.{SegmentShape}
use Rattle.memory_layout.specs.declared.rules.Places.{Places}
use Rattle.memory_layout.specs.Memory.{address_after, end_after, last_end, is_above, passed, data_past, heap_past, max_past, above_max, pages_over, places_by, too_much_of}

-- A size of a memory: whole pages, at most 2 ^ 32 bytes.
abbrev pub IsPages : ℕ → Type 0
IsPages bytes = (bytes % 65536 ≡ 0) × (bytes ≤ 2 ^ 32)

abbrev pub AreRules : MemoryRules → Type 0
AreRules Relative = Unit {0}
AreRules (Absolute first base stack initial limit) = IsPages initial × IfSome limit IsPages

abbrev pub AreAligned : List SegmentShape → Type 0
AreAligned shapes = All (λ s. s.align ≤ 31) shapes

-- The address and the end of a segment that is placed behind an end.
abbrev pub placed_after : ℕ → SegmentShape → Result (ℕ × ℕ) LayoutError
placed_after at s = unless
    (option_map too_much_of (option_map (passed DataEnd) (given (is_above (2 ^ 32 - 1) (end_after at s)) (end_after at s))))
    (address_after at s, end_after at s)

-- The end of the last of these, placed one behind the other.
abbrev pub run : ℕ → List SegmentShape → Result ℕ LayoutError
run at shapes = unless (option_map too_much_of (data_past at shapes)) (last_end at shapes)

-- The addresses in the order given, and the end of the zero segments.
abbrev pub placed_both : ℕ → ℕ → List SegmentShape → Result (List ℕ × ℕ) LayoutError
placed_both next next_zero [] = Ok ([], next_zero)
placed_both next next_zero (s ∷ ss) = do
  one ← placed_after (if s.zero then next_zero else next) s
  rest ← placed_both (if s.zero then next else one.1) (if s.zero then one.1 else next_zero) ss
  Ok (one.0 ∷ rest.0, rest.1)

-- The pages up to the heap base, at least so many, and at most the greatest memory.
abbrev pub pages_for : ℕ → ℕ → Option ℕ → Result ℕ LayoutError
pages_for heap_base least limit =
    let count = pages_over heap_base least in
    unless (option_map too_much_of (option_map (passed MaxMemory) (above_max (count * 65536) limit))) count

-- What stands around data that end there.
abbrev pub around_of : MemoryRules → List ℕ → ℕ → Result Places LayoutError
around_of rules addresses end = unless (option_map too_much_of (first_some (heap_past rules end ∷ max_past rules end ∷ []))) (places_by rules addresses end)
