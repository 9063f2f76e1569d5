-- Each key that a link names stands in the list that numbers it. A key that is missing would get the number 0 in silence
-- (`number_by` in index_layout, Numbers.antt), so this says that each number in the output is the number of what is named.
use Rattle.std.specs.Prelude.{◌≡◌, ◌⊎◌, ℕ, Bool, true, false, List, None}
use Rattle.list_places.specs.Has.{Has, Stands}
use Rattle.wasm_types.specs.declared.function.FuncType.{FuncType}
use Rattle.wasm_types.specs.Same.{same_type}
use Rattle.linking_section.specs.declared.symbol.SymbolKind.{SymbolKind}
use Rattle.linking_section.specs.declared.symbol.SymbolKind.TheVariants.{Function, Datum, GlobalVar, Section, Table}
use Rattle.object_file.specs.declared.object.Object.{Object}
use Rattle.made_symbols.specs.declared.mode.Mode.TheVariants.{Plain}
use Rattle.mark_bits.specs.declared.chunk.Chunk.{Chunk}
use Rattle.mark_bits.specs.declared.kinds.TheConstants as chunks
use Rattle.name_rules.specs.Entries.{InputSymbol, SymbolType, of_function, of_global, untyped, ImportKey, is_kind}
use Rattle.name_rules.specs.Meanings.{Meaning, here, imported, null, nothing}
use Rattle.name_rules.specs.Cases.{clash_by}
use Rattle.round_rules.specs.Rounds.{Candidate}
use Rattle.link_plan.specs.declared.plan.Plan.{Plan}
use Rattle.index_layout.specs.Numbers.{number_by}
use Rattle.link_rules.specs.Program.{Program, program_of, Part, Ref, refs, Named, a_symbol, a_type, same_chunk, chunk_at}
use Rattle.link_rules.specs.Marks.{exported, live, unresolved}
use Rattle.link_rules.specs.Keys.{FunctionKey, outside, GlobalKey, outside_global, linker_global, own_global, got, exported_datum, GotKey, got_entry, got_import, got_null, same_function, same_global, function_of, global_of, ref_function, ref_global, is_null, type_of}
use Rattle.link_rules.specs.Values.{Layout, Asks, a_function, a_slot, an_address, a_global, a_table, asks}
use Rattle.link_facts.specs.Loaded.{AreLoaded}
use Rattle.link_worlds.specs.Worlds.{layout_of}

-- At the number of the key stands the key.
abbrev pub IsNumbered : {X : Type 0} → (X → X → Bool) → List X → X → Type 0
IsNumbered same keys key = Stands (same key) keys (number_by same keys key)

module _ (l : Layout) where
  abbrev pub HasFunction : FunctionKey → Type 0
  HasFunction k = IsNumbered same_function l.numbers.functions k

  abbrev pub HasSlot : FunctionKey → Type 0
  HasSlot k = IsNumbered same_function l.numbers.slots k

  abbrev pub HasGlobal : GlobalKey → Type 0
  HasGlobal k = IsNumbered same_global l.numbers.globals k

  abbrev pub HasType : FuncType → Type 0
  HasType t = IsNumbered same_type l.numbers.types t

  abbrev pub HasSegment : Chunk → Type 0
  HasSegment c = IsNumbered same_chunk l.segments c

  -- The address of a datum counts from its segment. The linker's own data are in none.
  abbrev pub HasDatum : InputSymbol → Type 0
  HasDatum e = (e.input ≡ 0 → ⊥) → HasSegment (chunk_at e.input chunks.SEGMENT e.index)

  -- ---- windows

  -- An address is that of a definition, or null.
  abbrev pub HasAddress : Meaning → Type 0
  HasAddress (here e) = HasDatum e
  HasAddress (imported k) = ⊥
  HasAddress null = Unit {0}
  HasAddress nothing = ⊥

  -- What a reference stands for, by what its type asks for: as in `target_by`. Null has no slot, and the table is number 0.
  abbrev pub HasAsked : Ref → Asks → Type 0
  HasAsked ref a_function = HasFunction (ref_function ref)
  HasAsked ref a_slot = is_null ref.meaning ≡ false → HasSlot (ref_function ref)
  HasAsked ref an_address = HasAddress ref.meaning
  HasAsked ref a_global = HasGlobal (ref_global Plain ref)
  HasAsked ref a_table = Unit {0}

  abbrev pub HasNamed : Named → Type 0
  HasNamed (a_symbol ref) = HasAsked ref (asks ref.kind)
  HasNamed (a_type w) = HasType w.type

  -- ---- what cells hold: as in `got_value` and `global_for`

  abbrev pub HasCell : GotKey → Type 0
  HasCell (got_entry e) = (is_kind Datum e ≡ true → HasDatum e) × (is_kind Datum e ≡ false → HasSlot (function_of e))
  HasCell (got_import k) = HasSlot (outside k)
  HasCell (got_null kind) = Unit {0}

  abbrev pub HasHeld : GlobalKey → Type 0
  HasHeld (outside_global k) = Unit {0}
  HasHeld (linker_global k) = Unit {0}
  HasHeld (own_global input index) = Unit {0}
  HasHeld (got k) = HasCell k
  HasHeld (exported_datum e) = HasDatum e

  -- ---- imports and exports: as in `imported_kind` and `export_of`

  abbrev pub HasImported : SymbolType → Type 0
  HasImported (of_function t) = HasType t
  HasImported (of_global g) = Unit {0}
  HasImported untyped = ⊥

  abbrev pub HasExported : InputSymbol → SymbolKind → Type 0
  HasExported e Function = HasFunction (function_of e)
  HasExported e Datum = HasGlobal (exported_datum e)
  HasExported e GlobalVar = HasGlobal (global_of Plain e)
  HasExported e Section = Unit {0}
  HasExported e Table = Unit {0}

-- All keys that the output's definition looks up, of its live parts and exports.
pub record AllStand (p : Program) (parts : List Part) (exports : List InputSymbol) (l : Layout) : Type 0 where
  -- in windows
  pub windows : (part : Part) (named : Named) → Has parts part → Has part.named named → HasNamed l named
  -- in the calls of `__wasm_call_ctors`
  pub calls : (part : Part) (ref : Ref) → Has parts part → part.chunk.input ≡ 0 → Has (refs part) ref → HasFunction l (ref_function ref)
  -- for exports
  pub exported : (e : InputSymbol) → Has exports e → HasExported l e e.symbol.kind
  -- for imports
  pub imports : (k : ImportKey) → Has l.numbers.functions (outside k) ⊎ Has l.numbers.globals (outside_global k) → HasImported l k.type
  -- for the functions' types
  pub types : (k : FunctionKey) → Has l.numbers.functions k → HasType l (type_of p parts k)
  -- for the functions in the table
  pub slots : (k : FunctionKey) → Has l.numbers.slots k → HasFunction l k
  -- for what globals hold
  pub held : (k : GlobalKey) → Has l.numbers.globals k → HasHeld l k
  -- for where segments begin
  pub segments : (part : Part) → Has parts part → part.chunk.kind ≡ chunks.SEGMENT → HasSegment l part.chunk

-- Where no names of loaded objects clash, and nothing stays unresolved.
abbrev pub KeysStand : Type 0
KeysStand = (plan : Plan) (files : List (List ℕ)) (all : List Candidate) (objects : List Object) → AreLoaded objects
    → clash_by plan.loose_calls (program_of Plain plan files all objects).entries ≡ None
    → unresolved (program_of Plain plan files all objects) (live (program_of Plain plan files all objects) (exported Plain (program_of Plain plan files all objects))) ≡ None
    → AllStand (program_of Plain plan files all objects) (live (program_of Plain plan files all objects) (exported Plain (program_of Plain plan files all objects)))
    (exported Plain (program_of Plain plan files all objects)) (layout_of (program_of Plain plan files all objects) (exported Plain (program_of Plain plan files all objects)))
