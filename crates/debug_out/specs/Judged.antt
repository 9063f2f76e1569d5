-- Relocations that are judged while they are read.
use Rattle.std.specs.Prelude.{ℕ, zero, suc, ◌+◌, ◌&&◌, nat_le, Bool, true, false, List, [], ◌∷◌, length, Result, Ok, Err}
use Rattle.wasm_grammar.specs.declared.fault.Stop.{Stop}
use Rattle.wasm_grammar.specs.Reading.{u32_at}
use Rattle.reloc_section.specs.declared.entry.Reloc.{Reloc}
use Rattle.reloc_section.specs.Relocs.{reloc_at}

abbrev pub none_left : List ℕ → Bool
none_left [] = true
none_left (byte ∷ rest) = false

-- an entry that may stand, whose window lies from this place on and in the length, and what is judged behind it
abbrev pub judged_at : (Reloc → Bool) → ℕ → ℕ → Result (Reloc × List ℕ) Stop → (ℕ → List ℕ → Bool) → Bool
judged_at keep len from (Ok x) others = keep x.0 && (nat_le from x.0.offset && (nat_le (x.0.offset + 4) len && others (x.0.offset + 4) x.1))
judged_at keep len from (Err stop) others = false

-- so many entries that are all the bytes
abbrev pub judged : (Reloc → Bool) → ℕ → ℕ → ℕ → ℕ → List ℕ → Bool
judged keep len zero end from bytes = none_left bytes
judged keep len (suc n) end from bytes = judged_at keep len from (reloc_at end bytes) (λ next rest. judged keep len n end next rest)

abbrev pub judged_count : (Reloc → Bool) → ℕ → ℕ → Result (ℕ × List ℕ) Stop → Bool
judged_count keep len end (Ok count) = judged keep len count.0 end 0 count.1
judged_count keep len end (Err stop) = false

abbrev pub judged_target : (Reloc → Bool) → ℕ → ℕ → Result (ℕ × List ℕ) Stop → Bool
judged_target keep len end (Ok target) = judged_count keep len end (u32_at end target.1)
judged_target keep len end (Err stop) = false

-- a payload: the target, the number of the entries, and as many
abbrev pub judged_payload : (Reloc → Bool) → ℕ → List ℕ → Bool
judged_payload keep len payload = judged_target keep len (length payload) (u32_at (length payload) payload)
