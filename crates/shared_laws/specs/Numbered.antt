-- The slots and offsets that the words of a shared output hold are those of the functions and data that are named: a key that is missing would
-- get the number 0 in silence (`number_by` in index_layout, Numbers.antt).
use Rattle.std.specs.Prelude.{◌≡◌, ◌⊎◌, ℕ, ◌+◌, ◌≤◌, List, length, slice_get, unwrap_or, Some, Ok}
use Rattle.list_places.specs.Has.{Has}
use Rattle.linking_section.specs.declared.symbol.SymbolKind.TheVariants.{Function, Datum}
use Rattle.made_symbols.specs.declared.mode.Mode.TheVariants.{Shared}
use Rattle.mark_bits.specs.declared.kinds.TheConstants as chunks
use Rattle.reloc_section.specs.declared.kinds.TheConstants as relocs
use Rattle.object_file.specs.declared.object.Object.{Object}
use Rattle.name_rules.specs.Entries.{InputSymbol}
use Rattle.name_rules.specs.Meanings.{here}
use Rattle.round_rules.specs.Rounds.{Candidate, load}
use Rattle.index_layout.specs.Numbers.{number_by}
use Rattle.link_plan.specs.declared.plan.Plan.{Plan}
use Rattle.link_rules.specs.ModeOf.{mode_of}
use Rattle.link_rules.specs.Candidates.{candidates_of}
use Rattle.link_rules.specs.Program.{Program, Part, Ref, refs, same_chunk, chunk_at, program_of}
use Rattle.link_rules.specs.Marks.{live, exported}
use Rattle.link_rules.specs.Keys.{got_entry, got_entries, function_of, slot_of}
use Rattle.link_rules.specs.Values.{segment_address}
use Rattle.link_rules.specs.LinkOf.{asked_names, the_readers, link_of}
use Rattle.shared_laws.specs.Linked.{shared_layout}

module _ (p : Program) (exports : List InputSymbol) where
  -- The function stands in the table at its slot.
  abbrev pub HasSlot : InputSymbol → Type 0
  HasSlot e = slice_get (shared_layout p exports).numbers.slots (slot_of (shared_layout p exports).numbers (function_of e)) ≡ Some (function_of e)

  -- The datum of an object stands in a live segment, which has its number among the segments and lies in the data.
  pub record IsPlaced (e : InputSymbol) : Type 0 where
    pub part : Part
    pub live_part : Has (live p exports) part
    pub chunk : part.chunk ≡ chunk_at e.input chunks.SEGMENT e.index
    pub inside : e.symbol.offset ≤ part.source.span.len
    pub numbered : slice_get (shared_layout p exports).segments (number_by same_chunk (shared_layout p exports).segments part.chunk) ≡ Some part.chunk
    pub within : segment_address (shared_layout p exports) part.chunk + part.source.span.len ≤ (shared_layout p exports).places.data_end

  pub record AreNumbered : Type 0 where
    -- windows of live data
    pub slots : (part : Part) (ref : Ref) (e : InputSymbol) → Has (live p exports) part → part.chunk.kind ≡ chunks.SEGMENT → Has (refs part) ref → ref.kind ≡ relocs.TABLE_INDEX_I32 → ref.meaning ≡ here e
        → (e.symbol.kind ≡ Function) × HasSlot e
    pub offsets : (part : Part) (ref : Ref) (e : InputSymbol) → Has (live p exports) part → part.chunk.kind ≡ chunks.SEGMENT → Has (refs part) ref → ref.kind ≡ relocs.MEMORY_ADDR_I32 → ref.meaning ≡ here e
        → (e.symbol.kind ≡ Datum) × ((e.input ≡ 0 → ⊥) → IsPlaced e)
    -- cells of addresses
    pub cells : (e : InputSymbol) → Has (got_entries Shared (live p exports)) (got_entry e)
        → ((e.symbol.kind ≡ Function) × HasSlot e) ⊎ ((e.symbol.kind ≡ Datum) × ((e.input ≡ 0 → ⊥) → IsPlaced e))

-- Of each link of a shared output that gives bytes.
abbrev pub SharedWordsAreNumbered : Type 0
SharedWordsAreNumbered = (plan : Plan) (files : List (List ℕ)) (bytes : List ℕ) (all : List Candidate) (objects : List Object)
    → length files ≡ unwrap_or plan.make_case (length plan.inputs) → mode_of plan ≡ Shared
    → candidates_of the_readers plan files ≡ Ok all → load Shared (asked_names plan) all ≡ Ok objects → link_of plan files ≡ Ok bytes
    → AreNumbered (program_of Shared plan files all objects) (exported Shared (program_of Shared plan files all objects))
