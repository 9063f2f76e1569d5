-- Worked examples.
use Rattle.std.specs.Prelude.{◌≡◌, List, [], ◌∷◌, true, false, Some, None}
use Rattle.std.proofs.Common.{refl}
use Rattle.wl_base.specs.declared.fault.What.TheVariants.{DataEnd, HeapBase, MaxMemory}
use Rattle.memory_layout.specs.declared.rules.MemoryRules.TheVariants.{Absolute, Relative}
use Rattle.memory_layout.specs.declared.rules.SegmentShape.{SegmentShape}
use Rattle.memory_layout.specs.Memory.{places, memory_overflow, passed}

-- Segments of 3 and 4 bytes, of which the second is to stand at a multiple of 8.
abbrev pub two : List SegmentShape
two = record { len = 3; align = 0; zero = false } ∷ record { len = 4; align = 3; zero = false } ∷ []

by_default : places (Absolute false None 65536 0 None) two
    ≡ record { addresses = 1024 ∷ 1032 ∷ []; base = 1024; data_end = 1036; stack_low = 1040; stack_high = 66576; heap_base = 66576; pages = 2 }
unfolding places
by_default = refl

stack_first : places (Absolute true None 65536 0 None) two
    ≡ record { addresses = 65536 ∷ 65544 ∷ []; base = 65536; data_end = 65548; stack_low = 0; stack_high = 65536; heap_base = 65552; pages = 2 }
unfolding places
stack_first = refl

-- Without a base of the linker's own all but the addresses and the data's end is 0.
by_the_loader : places Relative two
    ≡ record { addresses = 0 ∷ 8 ∷ []; base = 0; data_end = 12; stack_low = 0; stack_high = 0; heap_base = 0; pages = 0 }
unfolding places
by_the_loader = refl

-- One segment of 4 bytes at a multiple of 4.
four_bytes : places (Absolute false None 65536 0 None) (record { len = 4; align = 2; zero = false } ∷ [])
    ≡ record { addresses = 1024 ∷ []; base = 1024; data_end = 1028; stack_low = 1040; stack_high = 66576; heap_base = 66576; pages = 2 }
unfolding places
four_bytes = refl

-- A zero segment that is given first stands last.
zero_last : places (Absolute false (Some 0) 65536 0 None) (record { len = 5; align = 0; zero = true } ∷ two)
    ≡ record { addresses = 12 ∷ 0 ∷ 8 ∷ []; base = 0; data_end = 17; stack_low = 32; stack_high = 65568; heap_base = 65568; pages = 2 }
unfolding places
zero_last = refl

-- The greatest stack that fits takes the whole memory.
whole_memory : places (Absolute false None 4294966256 0 None) []
    ≡ record { addresses = []; base = 1024; data_end = 1024; stack_low = 1024; stack_high = 4294967280; heap_base = 4294967280; pages = 65536 }
unfolding places
whole_memory = refl

whole_memory_fits : memory_overflow (Absolute false None 4294966256 0 None) [] ≡ None
unfolding memory_overflow
whole_memory_fits = refl

heap_passes : memory_overflow (Absolute false None 4294966272 0 None) [] ≡ Some (passed HeapBase 4294967296)
unfolding memory_overflow
heap_passes = refl

pages_pass : memory_overflow (Absolute false None 65536 0 (Some 65536)) [] ≡ Some (passed MaxMemory 131072)
unfolding memory_overflow
pages_pass = refl

-- The end of the data is judged first, also where the loader chooses the base.
data_pass : memory_overflow Relative (record { len = 4294967295; align = 0; zero = false } ∷ two) ≡ Some (passed DataEnd 4294967298)
unfolding memory_overflow
data_pass = refl
