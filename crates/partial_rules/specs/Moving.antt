-- Where symbols and parts of one program stand in another that is the same but for places: that of a link, say, and that of a link in which one
-- object stands for several.
use Rattle.std.specs.Prelude.{◌≡◌, ◌==◌, ◌<◌, false, List, [], ◌∷◌, map, length, Some, option_map, All, IsTrue}
use Rattle.std.specs.List.{AllZip}
use Rattle.object_file.specs.linking_section.declared.symbol.SymbolKind.{SymbolKind}
use Rattle.object_rules.specs.Relocs.{may_name}
use Rattle.name_rules.specs.Entries.{InputSymbol, name_of, same_entry}
use Rattle.name_rules.specs.Meanings.{Meaning, here, imported, null, nothing}
use Rattle.mark_bits.specs.declared.chunk.Chunk.{Chunk}
use Rattle.reloc_apply.specs.declared.window.Patch.{Patch}
use Rattle.reloc_apply.specs.Windows.{filled}
use Rattle.link_rules.specs.Program.{Program, Part, Content, Named, a_symbol, a_type, Ref, refs, chunk_at, chunk_of, same_chunk, types_named}
use Rattle.name_rules.specs.Cases.{first_entry}
use Rattle.link_rules.specs.Marks.{refs_of, export_name, is_retained}
use Rattle.link_rules.specs.Keys.{callable, imports_in_order, stub_names, entry_type, FunctionKey, outside, linker_function, stub, own, GotKey, got_entry, got_import, got_null, GlobalKey, outside_global, linker_global, own_global, got, exported_datum, parts_of_kind, content_type}
use Rattle.partial_rules.specs.Partial.{empty_window}
use Rattle.link_rules.specs.Values.{part_bytes, is_zero, rules_of, content_align}
use Rattle.link_rules.specs.Output.{content_global}
use Rattle.made_symbols.specs.declared.mode.Mode.TheVariants.{Plain}

-- Windows of the same places and forms.
abbrev pub SameWindows : List Patch → List Patch → Type 0
SameWindows [] [] = Unit {0}
SameWindows [] (q ∷ qs) = ⊥
SameWindows (p ∷ ps) [] = ⊥
SameWindows (p ∷ ps) (q ∷ qs) = (p.place ≡ q.place) × (p.form ≡ q.form) × SameWindows ps qs

-- What the output has of a part's content: of a global its type and first value, and not where the object spells that.
pub record AlikeContent (c d : Content) : Type 0 where
  pub type : content_type d ≡ content_type c
  pub align : content_align d ≡ content_align c
  pub retained : is_retained d ≡ is_retained c
  pub global : content_global d ≡ content_global c

-- Where a chunk stands in the other program, and which symbol stands for a definition.
pub record Moving : Type 0 where
  pub chunk : Chunk → Chunk
  pub entry : InputSymbol → InputSymbol

module _ (m : Moving) where
  abbrev pub moved_meaning : Meaning → Meaning
  moved_meaning (here e) = here (m.entry e)
  moved_meaning (imported k) = imported k
  moved_meaning null = null
  moved_meaning nothing = nothing

  abbrev pub moved_function : FunctionKey → FunctionKey
  moved_function (outside k) = outside k
  moved_function (linker_function n) = linker_function n
  moved_function (stub name) = stub name
  moved_function (own input index) = own (m.chunk (chunk_at input 0 index)).input (m.chunk (chunk_at input 0 index)).index

  abbrev pub moved_got : GotKey → GotKey
  moved_got (got_entry e) = got_entry (m.entry e)
  moved_got (got_import k) = got_import k
  moved_got (got_null kind) = got_null kind

  abbrev pub moved_global : GlobalKey → GlobalKey
  moved_global (outside_global k) = outside_global k
  moved_global (linker_global n) = linker_global n
  moved_global (own_global input index) = own_global (m.chunk (chunk_at input 2 index)).input (m.chunk (chunk_at input 2 index)).index
  moved_global (got key) = got (moved_got key)
  moved_global (exported_datum e) = exported_datum (m.entry e)

  -- ---- what is asked of it: of the chunks of kept parts, and of the definitions that something means

  module _ (C : Chunk → Type 0) (K : InputSymbol → Type 0) where
    pub record IsMoving : Type 0 where
      pub chunks_apart : (a b : Chunk) → C a → C b → same_chunk (m.chunk a) (m.chunk b) ≡ same_chunk a b
      pub chunk_kind : (c : Chunk) → C c → (m.chunk c).kind ≡ c.kind
      pub chunk_made : (c : Chunk) → C c → ((m.chunk c).input == 0) ≡ (c.input == 0)
      pub chunk_stays : (c : Chunk) → C c → c.input ≡ 0 → m.chunk c ≡ c
      pub entries_apart : (a b : InputSymbol) → K a → K b → same_entry (m.entry a) (m.entry b) ≡ same_entry a b
      pub entry_kind : (e : InputSymbol) → K e → (m.entry e).symbol.kind ≡ e.symbol.kind
      pub entry_name : (e : InputSymbol) → K e → name_of (m.entry e) ≡ name_of e
      pub entry_flags : (e : InputSymbol) → K e → (m.entry e).symbol.flags ≡ e.symbol.flags
      pub entry_offset : (e : InputSymbol) → K e → (m.entry e).symbol.offset ≡ e.symbol.offset
      pub entry_made : (e : InputSymbol) → K e → ((m.entry e).input == 0) ≡ (e.input == 0)
      pub entry_stays : (e : InputSymbol) → K e → e.input ≡ 0 → m.entry e ≡ e
      pub entry_chunk : (e : InputSymbol) → K e → chunk_of (m.entry e) ≡ option_map m.chunk (chunk_of e)
      pub entry_held : (e : InputSymbol) (c : Chunk) → K e → chunk_of e ≡ Some c → C c

    -- ---- references and parts

    -- What a meaning leads to is held, and of the kind of the symbol.
    abbrev pub MeansHeld : SymbolKind → Meaning → Type 0
    MeansHeld kind (here e) = K e × (e.symbol.kind ≡ kind)
    MeansHeld kind (imported k) = Unit {0}
    MeansHeld kind null = Unit {0}
    MeansHeld kind nothing = Unit {0}

    pub record AlikeRef (a b : Ref) : Type 0 where
      pub place : b.place ≡ a.place
      pub kind : b.kind ≡ a.kind
      pub addend : b.addend ≡ a.addend
      pub symbol_kind : b.entry.symbol.kind ≡ a.entry.symbol.kind
      pub name : name_of b.entry ≡ name_of a.entry
      pub meaning : b.meaning ≡ moved_meaning a.meaning
      pub held : MeansHeld a.entry.symbol.kind a.meaning
      pub may : IsTrue (may_name a.kind a.entry.symbol.kind)

    abbrev pub AlikeNamed : Named → Named → Type 0
    AlikeNamed (a_symbol a) (a_symbol b) = AlikeRef a b
    AlikeNamed (a_symbol a) (a_type w) = ⊥
    AlikeNamed (a_type v) (a_symbol b) = ⊥
    AlikeNamed (a_type v) (a_type w) = w ≡ v

    -- A part has the same windows, and the same bytes once they are written.
    pub record AlikePart (p q : Program) (x y : Part) : Type 0 where
      pub chunk : y.chunk ≡ m.chunk x.chunk
      pub held : C x.chunk
      pub content : AlikeContent x.content y.content
      pub named : AllZip AlikeNamed x.named y.named
      pub len : y.source.span.len ≡ x.source.span.len
      pub long : length (part_bytes q y) ≡ length (part_bytes p x)
      pub bytes : (ps : List Patch) → SameWindows (map empty_window x.named) ps → filled ps (part_bytes q y) ≡ filled ps (part_bytes p x)
      -- of the linker's functions a plain link has one
      pub made : x.chunk.input ≡ 0 → x.chunk.kind ≡ 0 → x.chunk.index ≡ 0
      -- it calls the init functions
      pub calls : x.chunk.input ≡ 0 → All (λ (ref : Ref). ref.kind ≡ 0) (refs x)
      pub zero : is_zero q y ≡ is_zero p x

    -- By kind they are in one order; of different kinds they may stand otherwise, since a made object has all its functions before its segments.
    pub record AlikeParts (p q : Program) (xs ys : List Part) : Type 0 where
      pub functions : AllZip (AlikePart p q) (parts_of_kind 0 xs) (parts_of_kind 0 ys)
      pub segments : AllZip (AlikePart p q) (parts_of_kind 1 xs) (parts_of_kind 1 ys)
      pub globals : AllZip (AlikePart p q) (parts_of_kind 2 xs) (parts_of_kind 2 ys)
      pub few : All (λ (x : Part). x.chunk.kind < 3) xs
      pub few_too : All (λ (y : Part). y.chunk.kind < 3) ys
      -- windows of code alone name types
      pub untyped : All (λ (x : Part). (x.chunk.kind == 0) ≡ false → types_named x ≡ []) xs
      pub untyped_too : All (λ (y : Part). (y.chunk.kind == 0) ≡ false → types_named y ≡ []) ys

    -- ---- what is live, with what is exported

    pub record AlikeStage (p q : Program) (xs ys : List Part) (exports exports_too : List InputSymbol) : Type 0 where
      -- the words say the same of memory
      pub rules : rules_of Plain q.plan ≡ rules_of Plain p.plan
      pub imports : imports_in_order q ≡ imports_in_order p
      pub parts : AlikeParts p q xs ys
      pub exports_are : exports_too ≡ map m.entry exports
      pub exports_held : All K exports
      pub export_names : All (λ e. export_name q (m.entry e) ≡ export_name p e) exports
      pub imported : q.plan.import_memory ≡ p.plan.import_memory
      pub most : q.plan.max_memory ≡ p.plan.max_memory
      -- the names of null functions that are called, and their types
      pub stubs : stub_names q (refs_of ys) ≡ stub_names p (refs_of xs)
      pub stub_types : All (λ name. entry_type (first_entry (callable q) name) ≡ entry_type (first_entry (callable p) name)) (stub_names p (refs_of xs))
