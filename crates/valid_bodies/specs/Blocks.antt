-- The blocks that are open as frames, where all operands lie on one stack and all types in one list.
use Rattle.std.specs.Prelude.{◌≡◌, ℕ, ◌-◌, ◌+◌, ◌≤◌, List, [], ◌∷◌, ◌++◌, length, map, take, drop, Option, Some, None, false}
use Rattle.wasm_types.specs.declared.value.ValType.{ValType}
use Rattle.wasm_types.specs.declared.function.FuncType.{FuncType}
use Rattle.valid_rules.specs.declared.types.Operand.{Operand}
use Rattle.valid_rules.specs.declared.types.Frame.{Frame}
use Rattle.valid_rules.specs.declared.types.Opener.{Opener}
use Rattle.valid_rules.specs.Leads.{Labels}
use Rattle.valid_rules.specs.Reading.{label_as, put}
use Rattle.valid_bodies.specs.declared.blocks.Block.{Block}
use Rattle.valid_bodies.specs.declared.blocks.Outer.{Outer}
use Rattle.valid_bodies.specs.Layer.{Layer, above, under}

-- The type of a block: its parameters and its results follow each other in the list.
abbrev pub kind_in : List ValType → Block → FuncType
kind_in ts b = record { params = take (b.mid - b.from) (drop b.from ts); results = take (b.to - b.mid) (drop b.mid ts) }

abbrev pub frame_in : List ValType → Block → List Operand → Frame
frame_in ts b vs = record { opener = b.opener; kind = kind_in ts b; operands = vs; unreachable = b.unreachable }

-- The types that a branch to a block takes.
abbrev pub label_in : List ValType → Block → List ValType
label_in ts b = label_as b.opener (kind_in ts b)

-- The blocks, the innermost first.
abbrev pub blocks_in : Block → List Outer → List Block
blocks_in b os = b ∷ map (λ o. o.block) os

abbrev pub labels_in : List ValType → Block → List Outer → Labels
labels_in ts b os = map (label_in ts) (blocks_in b os)

-- The blocks around the innermost one, which have these operands.
abbrev pub outer : List ValType → List Outer → List Operand → List Frame
outer ts [] vs = []
outer ts (o ∷ os) vs = frame_in ts o.block (above o.height vs) ∷ outer ts os (under o.height vs)

-- All of them.
abbrev pub frames : List ValType → Option Block → List Outer → Layer → List Frame
frames ts None os l = []
frames ts (Some b) os l = frame_in ts b l.own ∷ outer ts os l.below

-- A block's types stand in the first of so many, and those of the blocks around it before them.
abbrev pub Stands : Block → ℕ → Type 0
Stands b n = (b.from ≤ b.mid) × (b.mid ≤ b.to) × (b.to ≤ n)

abbrev pub Around : List Outer → ℕ → ℕ → Type 0
Around [] n m = Unit {0}
Around (o ∷ os) n m = Stands o.block n × (o.height ≤ m) × Around os o.block.from o.height

-- Of so many types and operands below the innermost block.
abbrev pub Open : Option Block → List Outer → ℕ → ℕ → Type 0
Open None os n m = Unit {0}
Open (Some b) os n m = Stands b n × Around os b.from m

-- A block of this type has opened in another, on what that has left.
pub record Entered (o : Opener) (t : FuncType) (ts : List ValType) (os : List Outer) (l : Layer) (b made : Block) (ts' : List ValType) (os' : List Outer) (l' : Layer) : Type 0 where
  pub types : ts' ≡ ts ++ t.params ++ t.results
  pub around : os' ≡ record { block = b; height = length l.below } ∷ os
  pub operands : l' ≡ record { own = put t.params []; below = l.own ++ l.below }
  pub inner : made ≡ record { opener = o; from = length ts; mid = length ts + length t.params; to = length ts + length t.params + length t.results; unreachable = false }

-- A block that is over is closed: the block around it is the innermost now, where there is one, with the results on its operands.
abbrev pub Left : List ValType → List Outer → Layer → Block → Option Block → List ValType → List Outer → Layer → Type 0
Left ts [] l b inner ts' os' l' = inner ≡ None
Left ts (o ∷ os) l b inner ts' os' l' =
    (inner ≡ Some o.block) × (ts' ≡ take b.from ts) × (os' ≡ os)
    × (l' ≡ record { own = put (kind_in ts b).results (above o.height l.below); below = under o.height l.below })
