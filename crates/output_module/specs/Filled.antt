-- A body whose windows are written is the body with numbers in the place of its references. This needs that each reference stands on an
-- immediate that has a window, and not that its value is in range: a window holds its value's last 32 bits.
use Rattle.std.specs.Prelude.{◌≡◌, ℕ, false, IsTrue, List, [], ◌∷◌, map, filter_map, Option, Some, None}
use Rattle.wasm_instr.specs.declared.body.Body.{Body}
use Rattle.wasm_instr.specs.Bodies.{SpellsBody}
use Rattle.body_windows.specs.declared.immediate.Immediate.{Immediate}
use Rattle.body_windows.specs.declared.immediate.ImmediateKind.TheVariants.{TypeIndex}
use Rattle.body_windows.specs.Immediates.{immediates, may_stand, needs_window}
use Rattle.made_symbols.specs.declared.mode.Mode.{Mode}
use Rattle.made_symbols.specs.declared.mode.Mode.TheVariants.{Plain}
use Rattle.reloc_apply.specs.declared.window.Patch.{Patch}
use Rattle.reloc_apply.specs.Windows.{patch_of, filled}
use Rattle.link_worlds.specs.link_rules.Program.{Program, Ref, Named, a_symbol, a_type}
use Rattle.link_worlds.specs.link_rules.Values.{Layout, named_window}
use Rattle.link_worlds.specs.Bodies.{named_at, placed_in}
use Rattle.link_worlds.specs.Sound.{Takes}
use Rattle.list_places.specs.Has.{Has}
use Rattle.linking_section.specs.declared.symbol.SymbolKind.TheVariants.{GlobalVar}
use Rattle.name_rules.specs.Entries.{is_kind}
use Rattle.wasm_instr.specs.declared.body.Placed.{Placed}
use Rattle.wasm_instr.specs.declared.instr.Instr.{Instr}
use Rattle.wasm_instr.specs.declared.instr.Instr.TheVariants as instrs

-- What stands on an immediate: nothing, where no window is needed; or a reference in a window of five bytes, whose type may stand there.
-- Type 6 names a type (Linking.md, "Relocation Sections"), and all others a symbol.
abbrev pub StandsOn : Immediate → Option Named → Type 0
StandsOn i None = needs_window i.kind ≡ false
StandsOn i (Some (a_symbol ref)) = (ref.place ≡ i.place) × (i.len ≡ 5) × IsTrue (may_stand ref.kind i.kind) × (ref.kind ≡ 6 → ⊥)
StandsOn i (Some (a_type w)) = (w.place ≡ i.place) × (i.len ≡ 5) × (i.kind ≡ TypeIndex)

-- One for each immediate, in order.
abbrev pub AllStandOn : List Immediate → List (Option Named) → Type 0
AllStandOn [] [] = Unit {0}
AllStandOn [] (o ∷ os) = ⊥
AllStandOn (i ∷ is) [] = ⊥
AllStandOn (i ∷ is) (o ∷ os) = StandsOn i o × AllStandOn is os

-- those that are there
abbrev pub names_in : List (Option Named) → List Named
names_in os = filter_map (λ o. o) os

-- What is written into the windows.
abbrev pub patches_in : Mode → Layout → List Named → List Patch
patches_in mode l names = map (λ n. patch_of (named_window mode l n)) names

abbrev pub patches : Layout → List Named → List Patch
patches l names = patches_in Plain l names

abbrev pub numbered_with : Mode → Layout → List Named → Body → Body
numbered_with mode l names b = record { locals = b.locals; code = map (placed_in mode l names) b.code }

abbrev pub linked_with : Program → Layout → List Named → Body → Body
linked_with p l names b = numbered_with Plain l names b

-- Where the references stand on the immediates of a body, the bytes with their windows written spell the body with numbers: in an output of each
-- mode, and so in a plain one.
abbrev pub FilledBodies : Type 0
FilledBodies = (mode : Mode) (l : Layout) (body : Body) (os : List (Option Named)) (bytes : List ℕ) → SpellsBody body bytes → AllStandOn (immediates body.code) os
    → SpellsBody (numbered_with mode l (names_in os) body) (filled (patches_in mode l (names_in os)) bytes)

abbrev pub FilledBody : Type 0
FilledBody = (p : Program) (l : Layout) (body : Body) (os : List (Option Named)) (bytes : List ℕ) → SpellsBody body bytes → AllStandOn (immediates body.code) os
    → SpellsBody (linked_with p l (names_in os) body) (filled (patches l (names_in os)) bytes)

-- An instruction that takes the address of a datum or function from a cell reads it.
abbrev pub ReadsAt : List Named → Placed → Instr → Type 0
ReadsAt names x (instrs.GlobalAt op g) = (ref : Ref) → named_at names x.mid ≡ Some (a_symbol ref) → is_kind GlobalVar ref.entry ≡ false → op ≡ 0x23
ReadsAt names x i = Unit {0}

abbrev pub Reads : List Named → Placed → Type 0
Reads names x = ReadsAt names x x.instr

-- Each instruction has the references that it takes.
abbrev pub TakenBody : Type 0
TakenBody = (p : Program) (l : Layout) (body : Body) (os : List (Option Named)) (bytes : List ℕ) → SpellsBody body bytes → AllStandOn (immediates body.code) os
    → ((x : Placed) → Has body.code x → Reads (names_in os) x) → (x : Placed) → Has body.code x → Takes (names_in os) x
