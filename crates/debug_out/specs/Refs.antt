-- What lent sections tell.
use Rattle.std.specs.Prelude.{ℕ, zero, suc, List, [], ◌∷◌, length, Result, Ok, Err}
use Rattle.wasm_grammar.specs.declared.fault.Stop.{Stop}
use Rattle.wasm_grammar.specs.Reading.{u32_at}
use Rattle.reloc_section.specs.declared.entry.Reloc.{Reloc}
use Rattle.reloc_section.specs.Relocs.{reloc_at}
use Rattle.debug_rules.specs.Sections.{Custom}
use Rattle.debug_rules.specs.Faults.{Debug}
use Rattle.debug_out.specs.declared.refs.CustomRef.{CustomRef}
use Rattle.debug_out.specs.declared.refs.DebugRef.{DebugRef}

abbrev pub custom_seen : CustomRef → Custom
custom_seen c = record { at = c.at; name = c.name.now; content = c.content.now }

-- an entry that is read, and those behind it
abbrev pub entry_onto : Result (Reloc × List ℕ) Stop → (List ℕ → List Reloc) → List Reloc
entry_onto (Ok x) others = x.0 ∷ others x.1
entry_onto (Err stop) others = []

-- so many entries, up to the first that can't be read
abbrev pub entries_from : ℕ → ℕ → List ℕ → List Reloc
entries_from zero end bytes = []
entries_from (suc n) end bytes = entry_onto (reloc_at end bytes) (λ rest. entries_from n end rest)

abbrev pub counted : ℕ → Result (ℕ × List ℕ) Stop → List Reloc
counted end (Ok count) = entries_from count.0 end count.1
counted end (Err stop) = []

abbrev pub behind_target : ℕ → Result (ℕ × List ℕ) Stop → List Reloc
behind_target end (Ok target) = counted end (u32_at end target.1)
behind_target end (Err stop) = []

-- The entries of a payload, up to the first that can't be read: the target, their number, and as many.
abbrev pub entries_of : List ℕ → List Reloc
entries_of payload = behind_target (length payload) (u32_at (length payload) payload)

abbrev pub debug_seen : DebugRef → Debug
debug_seen d = record {
  object = d.object;
  symbols = d.symbols.now;
  section = record { at = d.at; name = d.name.now; content = d.content.now };
  relocs = entries_of d.relocs.now;
}
