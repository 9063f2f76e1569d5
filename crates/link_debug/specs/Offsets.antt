-- A place in a function, counted from its body's first byte, is the place of the same instruction in the object and in the output.
use Rattle.std.specs.Prelude.{◌≡◌, ℕ, not, ◌&&◌, List, [], length, take, drop, find, if◌then◌else◌, Option, Some, None}
use Rattle.linking_section.specs.declared.symbol.SymbolKind.TheVariants.{Function}
use Rattle.linking_section.specs.Flags.{is_undefined}
use Rattle.wasm_instr.specs.declared.body.Body.{Body}
use Rattle.wasm_instr.specs.declared.body.Placed.{Placed}
use Rattle.wasm_instr.specs.Bodies.{SpellsBody}
use Rattle.wasm_instr.specs.wl_base.declared.span.Span.{Span}
use Rattle.made_symbols.specs.declared.mode.Mode.TheVariants.{Plain}
use Rattle.name_rules.specs.Entries.{InputSymbol, is_kind}
use Rattle.image_emit.specs.Pieces.{code_place}
use Rattle.list_places.specs.Has.{Has}
use Rattle.link_rules.specs.Program.{Program, Part}
use Rattle.link_rules.specs.Marks.{live}
use Rattle.link_rules.specs.Keys.{is_function_at}
use Rattle.link_rules.specs.Values.{part_bytes}
use Rattle.link_rules.specs.Output.{image, source_windows}
use Rattle.link_rules.specs.LinkOf.{output_bytes}
use Rattle.link_worlds.specs.Bodies.{linked_placed}
use Rattle.link_worlds.specs.Sound.{Sound}
use Rattle.link_worlds.specs.Worlds.{layout_of}
use Rattle.output_module.specs.Filled.{linked_with}
use Rattle.output_module.specs.Outputs.{IsCoded}
use Rattle.link_debug.specs.Places.{tree, body_place}

-- The payload of the code section in the bytes of the output.
abbrev pub cut_from : List ℕ → Option Span → List ℕ
cut_from bytes None = []
cut_from bytes (Some s) = take s.len (drop s.start bytes)

module _ (p : Program) (exports : List InputSymbol) where
  abbrev pub bytes : List ℕ
  bytes = output_bytes Plain p (image Plain p (live p exports) exports (layout_of p exports)) (source_windows Plain p (live p exports) exports (layout_of p exports))

  abbrev pub code : List ℕ
  code = cut_from bytes (code_place (tree Plain p (live p exports) exports (layout_of p exports)))

  -- In the code stands, from a place on, a text that spells a function's body with numbers for its references. Each instruction of the
  -- object's body has one there that is made of it, at the same place from the body's first byte on (`linked_placed` keeps places).
  pub record IsSameFrom (part : Part) (n : ℕ) : Type 0 where
    pub body : Body
    pub text : List ℕ
    pub object : SpellsBody body (part_bytes p part)
    pub stands : take (length text) (drop n code) ≡ text
    pub output : SpellsBody (linked_with p (layout_of p exports) part.named body) text
    pub each : (x : Placed) → Has body.code x → Has (linked_with p (layout_of p exports) part.named body).code (linked_placed p (layout_of p exports) part.named x)

-- What is asked of a program: it is sound, and each live function of an object is a body with its references.
pub record AreCoded (p : Program) (exports : List InputSymbol) : Type 0 where
  pub sound : Sound p
  pub coded : (part : Part) → Has (live p exports) part → part.chunk.kind ≡ 0 → (part.chunk.input ≡ 0 → ⊥) → IsCoded p part

-- The live function that a symbol's own object defines by it, if there is one.
abbrev pub own_part : Program → List InputSymbol → InputSymbol → Option Part
own_part p exports e = if is_kind Function e && not (is_undefined e.symbol) then find (is_function_at e.input e.index) (live p exports) else None

-- Where a function of an object has a place, it is live, and an offset into it names the same instruction there.
abbrev pub OffsetsName : Type 0
OffsetsName = (p : Program) (exports : List InputSymbol) → AreCoded p exports → (e : InputSymbol) (n : ℕ)
    → body_place Plain p (live p exports) exports (layout_of p exports) e ≡ Some n
    → (part : Part) × (own_part p exports e ≡ Some part) × IsSameFrom p exports part n

-- Where no live part is the function that a symbol's object defines, it has no place: the dead word stands for it.
abbrev pub DroppedHaveNone : Type 0
DroppedHaveNone = (p : Program) (exports : List InputSymbol) → AreCoded p exports → (e : InputSymbol)
    → own_part p exports e ≡ None → body_place Plain p (live p exports) exports (layout_of p exports) e ≡ None

-- Where one is, it has a place. (Input 0 is the linker itself.)
abbrev pub LiveHavePlaces : Type 0
LiveHavePlaces = (p : Program) (exports : List InputSymbol) → AreCoded p exports → (e : InputSymbol) (part : Part) → (e.input ≡ 0 → ⊥)
    → own_part p exports e ≡ Some part → (n : ℕ) × (body_place Plain p (live p exports) exports (layout_of p exports) e ≡ Some n)
