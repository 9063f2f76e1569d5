-- What a shared output holds when a loader has placed it and `__wasm_apply_data_relocs` has run (DynamicLinking.md).
use Rattle.std.specs.Prelude.{◌≡◌, ℕ, ◌+◌, ◌%◌, ◌^◌, ◌<◌, ◌==◌, List, [], ◌∷◌, ◌++◌, true, length, map, flat_map, slice_get, slice_range, if◌then◌else◌, unwrap_or, Some, Ok, pos, ◌+ℤ◌}
use Rattle.list_places.specs.Has.{Has}
use Rattle.made_symbols.specs.declared.mode.Mode.TheVariants.{Shared}
use Rattle.made_symbols.specs.Made.{apply_data_relocs}
use Rattle.mark_bits.specs.declared.kinds.TheConstants as chunks
use Rattle.object_file.specs.declared.object.Object.{Object}
use Rattle.reloc_section.specs.declared.kinds.TheConstants as relocs
use Rattle.name_rules.specs.Entries.{InputSymbol}
use Rattle.name_rules.specs.Meanings.{cell_of}
use Rattle.round_rules.specs.Rounds.{Candidate, load}
use Rattle.reloc_apply.specs.Windows.{bits32, little}
use Rattle.image_emit.specs.declared.tree.Source.TheVariants.{Own}
use Rattle.dylink_out.specs.Shared.{apply_body}
use Rattle.dylink_out.specs.Loading.{cell, step_bytes, word_steps, Machine, run, Agree}
use Rattle.link_plan.specs.declared.plan.Plan.{Plan}
use Rattle.link_rules.specs.ModeOf.{mode_of}
use Rattle.link_rules.specs.Candidates.{candidates_of}
use Rattle.link_rules.specs.Program.{Program, Part, Ref, refs, program_of}
use Rattle.link_rules.specs.Marks.{live, exported, is_foreign}
use Rattle.link_rules.specs.Keys.{GlobalKey, outside_global, linker_function, GotKey, got, got_entries, global_number}
use Rattle.link_rules.specs.Values.{segment_address, meant_address, ref_slot, got_value}
use Rattle.link_rules.specs.Loader.{dylink, cell_number, is_function_got}
use Rattle.link_rules.specs.Output.{body_of}
use Rattle.link_rules.specs.LinkOf.{asked_names, the_readers, link_of}
use Rattle.shared_laws.specs.Linked.{the_linkers, shared_layout, shared_words, import_count}

-- ---- what a word holds, by the values of globals when the function is called. Global 1 is `__memory_base`, and global 2 `__table_base`

-- An own datum stands at the memory's base and its offset, and an own function's slot is the table's base and its place.
abbrev pub datum_number : List ℕ → ℕ → ℕ
datum_number cells offset = (cell cells 1 + offset) % 2 ^ 32

abbrev pub slot_number : List ℕ → ℕ → ℕ
slot_number cells place = (cell cells 2 + place) % 2 ^ 32

module _ (p : Program) (exports : List InputSymbol) where
  -- What the loader put into the cell of a foreign symbol.
  abbrev pub foreign_number : List ℕ → Ref → ℕ
  foreign_number cells ref = cell cells (cell_number Shared p (live p exports) (shared_layout p exports) ref)

  -- A window of data: a slot, or an address and the addend.
  abbrev pub slot_held : List ℕ → Ref → ℕ
  slot_held cells ref = if is_foreign ref then foreign_number cells ref else slot_number cells (ref_slot (shared_layout p exports) ref)

  abbrev pub address_held : List ℕ → Ref → ℕ
  address_held cells ref =
      if is_foreign ref then bits32 (pos (foreign_number cells ref) +ℤ ref.addend)
      else datum_number cells (bits32 (pos (meant_address Shared (shared_layout p exports) ref.meaning) +ℤ ref.addend))

  abbrev pub window_held : List ℕ → Ref → ℕ
  window_held cells ref = if ref.kind == relocs.TABLE_INDEX_I32 then slot_held cells ref else address_held cells ref

  -- A cell of the link's own: the slot of a function, or the address of a datum.
  abbrev pub cell_held : List ℕ → GotKey → ℕ
  cell_held cells key =
      if is_function_got Shared p (live p exports) (shared_layout p exports) key then slot_number cells (got_value Shared (shared_layout p exports) key)
      else datum_number cells (got_value Shared (shared_layout p exports) key)

  -- ---- what holds behind the function

  -- Of a window, its four bytes; of a cell, its value. Imported globals stay, and the memory keeps its length.
  pub record AreRelocated (before after : Machine) : Type 0 where
    pub windows : (part : Part) (ref : Ref) → Has (live p exports) part → part.chunk.kind ≡ chunks.SEGMENT → Has (refs part) ref
        → (let at = cell before.cells 1 + (segment_address (shared_layout p exports) part.chunk + ref.place) in slice_range after.memory at (at + 4) ≡ little (window_held before.cells ref))
    pub cells : (key : GotKey) → Has (got_entries Shared (live p exports)) key → cell after.cells (global_number (shared_layout p exports).numbers (got key)) ≡ cell_held before.cells key
    pub same : (g : ℕ) → g < import_count p exports → cell after.cells g ≡ cell before.cells g
    pub size : length after.memory ≡ length before.memory

  -- ---- the function

  pub record WordsAreLoaded : Type 0 where
    -- its body in the output spells the instructions of the words
    pub body : body_of Shared p (live p exports) exports (shared_layout p exports) (linker_function apply_data_relocs) ≡ Own (apply_body (shared_words p exports))
    pub spelled : apply_body (shared_words p exports) ≡ 0 ∷ flat_map step_bytes (flat_map word_steps (shared_words p exports)) ++ 0x0B ∷ []
    -- the first three globals are the linker's imports
    pub bases : (rest : List GlobalKey) × ((shared_layout p exports).numbers.globals ≡ map outside_global the_linkers ++ rest)
    -- what is read for a window of a foreign symbol is the import of the symbol's cell
    pub foreign : (part : Part) (ref : Ref) → Has (live p exports) part → part.chunk.kind ≡ chunks.SEGMENT → Has (refs part) ref → is_foreign ref ≡ true
        → slice_get (shared_layout p exports).numbers.globals (cell_number Shared p (live p exports) (shared_layout p exports) ref) ≡ Some (outside_global (cell_of ref.entry))
    -- in a module with these globals, under all bases that agree with the section, the instructions end
    pub loaded : (entries : ℕ) (m : Machine) → length m.cells ≡ length (shared_layout p exports).numbers.globals → Agree (dylink Shared p (live p exports) (shared_layout p exports)) entries m
        → (after : Machine) × (run (flat_map word_steps (shared_words p exports)) m ≡ Some after) × AreRelocated m after × (after.stack ≡ m.stack)

-- Of each link of a shared output that gives bytes, through the program of its loaded objects.
abbrev pub SharedWordsAreLoaded : Type 0
SharedWordsAreLoaded = (plan : Plan) (files : List (List ℕ)) (bytes : List ℕ) (all : List Candidate) (objects : List Object)
    → length files ≡ unwrap_or plan.make_case (length plan.inputs) → mode_of plan ≡ Shared
    → candidates_of the_readers plan files ≡ Ok all → load Shared (asked_names plan) all ≡ Ok objects → link_of plan files ≡ Ok bytes
    → WordsAreLoaded (program_of Shared plan files all objects) (exported Shared (program_of Shared plan files all objects))
