-- What a link that gives a shared output makes sure of, under the output's layout.
use Rattle.std.specs.Prelude.{◌≡◌, true, false, List, None}
use Rattle.list_places.specs.Has.{Has}
use Rattle.linking_section.specs.declared.symbol.SymbolKind.TheVariants.{GlobalVar}
use Rattle.made_symbols.specs.declared.mode.Mode.TheVariants.{Shared}
use Rattle.name_rules.specs.Entries.{InputSymbol, is_kind, is_entry}
use Rattle.name_rules.specs.Meanings.{here}
use Rattle.name_rules.specs.Further.{is_here}
use Rattle.reloc_apply.specs.Windows.{fits}
use Rattle.link_rules.specs.Program.{Program, Part, Ref, refs, Named}
use Rattle.link_rules.specs.Marks.{live, unresolved}
use Rattle.link_rules.specs.Keys.{is_global_type}
use Rattle.link_rules.specs.Values.{named_window}
use Rattle.link_worlds.specs.Sound.{Sound, SoundExports, IsShaped, IsGlobalPart}
use Rattle.shared_module.specs.Outputs.{shared_lay}

-- The linker's symbols that are meant or exported are entries, and its globals have types of globals. A live symbol under `global.get` or
-- `global.set` that is no entry means a definition. A reference's kind is its relocation's type (Linking.md, "Relocation Sections"): 7 is a global's index.
pub record HasEntries (p : Program) (exports : List InputSymbol) : Type 0 where
  pub globals : (e : InputSymbol) → Has p.entries e → e.input ≡ 0 → is_kind GlobalVar e ≡ true → is_global_type e.type ≡ true
  pub meant : (part : Part) (ref : Ref) (e : InputSymbol) → Has (live p exports) part → Has (refs part) ref → ref.meaning ≡ here e → e.input ≡ 0 → Has p.entries e
  pub exported : (e : InputSymbol) → Has exports e → Has p.entries e
  pub local : (part : Part) (ref : Ref) → Has (live p exports) part → Has (refs part) ref → ref.kind ≡ 7 → is_entry ref.entry ≡ false → is_here ref.meaning ≡ true

-- A chunk's kind is 0 for a function and 2 for a global, and its input is 0 for the linker; a reference of kind 0 is a call.
pub record SharedLinkedBy (p : Program) (exports : List InputSymbol) : Type 0 where
  pub sound : Sound p
  pub exported : SoundExports p exports
  pub entries : HasEntries p exports
  -- the code of each live function of an object is a body, its references at instructions that take them
  pub shaped : (part : Part) → Has (live p exports) part → part.chunk.kind ≡ 0 → (part.chunk.input ≡ 0 → ⊥) → IsShaped p part
  -- the linker's functions call what they refer to
  pub calls : (part : Part) (ref : Ref) → Has (live p exports) part → part.chunk.input ≡ 0 → Has (refs part) ref → ref.kind ≡ 0
  -- globals of objects begin with constants
  pub constants : (part : Part) → Has (live p exports) part → part.chunk.kind ≡ 2 → (part.chunk.input ≡ 0 → ⊥) → IsGlobalPart part.content
  -- nothing is unresolved, and each window of live code holds its value
  pub resolved : unresolved p (live p exports) ≡ None
  pub in_range : (part : Part) (named : Named) → Has (live p exports) part → part.chunk.kind ≡ 0 → (part.chunk.input ≡ 0 → ⊥) → Has part.named named
      → fits (named_window Shared (shared_lay p exports) named) ≡ true
