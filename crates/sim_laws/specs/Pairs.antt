-- Worlds that are one another, renamed: the same instructions, tables, exports and memory, under other names of functions and cells.
use Rattle.std.specs.Prelude.{◌≡◌, ℕ, List, [], ◌∷◌, Option, Some, None, slice_get}
use Rattle.run_rules.specs.declared.value.Value.TheVariants.{I32}
use Rattle.run_rules.specs.declared.op.Op.{Op}
use Rattle.run_rules.specs.declared.op.Op.TheVariants.{Own, OpenBlock, CallTo, CallThrough, ReadCell, WriteCell, Number, Absent}
use Rattle.run_rules.specs.declared.world.Source.{Source}
use Rattle.run_rules.specs.declared.world.Source.TheVariants.{Nowhere, Host, Code}
use Rattle.run_rules.specs.declared.world.Function.{Function}
use Rattle.run_rules.specs.declared.world.Target.{Target}
use Rattle.run_rules.specs.declared.world.Target.TheVariants.{ToFunction, ToCell, ToNumber, Elsewhere}
use Rattle.run_rules.specs.declared.world.Exported.{Exported}
use Rattle.run_rules.specs.declared.world.World.{World}
use Rattle.run_rules.specs.declared.state.State.{State}
use Rattle.run_rules.specs.declared.session.Session.{Session}
use Rattle.run_rules.specs.Steps.{Cells, function_at}
use Rattle.run_rules.specs.Runs.{trace_of}

-- The other world's name of a function and of a cell, where it has one, and the number in those of its cells that nothing writes.
pub record Renaming : Type 0 where
  pub function : ℕ → Option ℕ
  pub cell : ℕ → Option ℕ
  pub constant : ℕ → Option ℕ

abbrev pub Calls : Renaming → ℕ → ℕ → Type 0
Calls r f g = r.function f ≡ Some g

-- both are there and are related, or neither is
abbrev pub Both : {A B : Type 0} → (A → B → Type 0) → Option A → Option B → Type 0
Both R None None = Unit {0}
Both R (Some a) (Some b) = R a b
Both R _ _ = ⊥

-- the lists are related one by one
abbrev pub Each : {A B : Type 0} → (A → B → Type 0) → List A → List B → Type 0
Each R [] [] = Unit {0}
Each R (a ∷ xs) (b ∷ ys) = R a b × Each R xs ys
Each R _ _ = ⊥

-- The same instruction, its function or cell renamed. A number of the one world may be a cell of the other that nothing writes.
abbrev pub OpPairs : Renaming → Op → Op → Type 0
OpPairs r (Own x) (Own y) = x ≡ y
OpPairs r (OpenBlock op t) (OpenBlock op' u) = (op ≡ op') × (t ≡ u)
OpPairs r (CallTo f) (CallTo g) = Calls r f g
OpPairs r (CallThrough t) (CallThrough u) = t ≡ u
OpPairs r (ReadCell c) (ReadCell d) = r.cell c ≡ Some d
OpPairs r (WriteCell c) (WriteCell d) = r.cell c ≡ Some d
OpPairs r (Number n) (Number k) = n ≡ k
OpPairs r (Number n) (ReadCell d) = r.constant d ≡ Some n
OpPairs r Absent Absent = Unit {0}
OpPairs r _ _ = ⊥

abbrev pub SourcePairs : Renaming → Source → Source → Type 0
SourcePairs r Nowhere Nowhere = Unit {0}
SourcePairs r (Host m n) (Host m' n') = (m ≡ m') × (n ≡ n')
SourcePairs r (Code ls code) (Code ls' code') = (ls ≡ ls') × Each (OpPairs r) code code'
SourcePairs r _ _ = ⊥

pub record FunctionPairs (r : Renaming) (f g : Function) : Type 0 where
  pub kind : f.kind ≡ g.kind
  pub source : SourcePairs r f.source g.source

abbrev pub TargetPairs : Renaming → Target → Target → Type 0
TargetPairs r (ToFunction f) (ToFunction g) = Calls r f g
TargetPairs r (ToCell c) (ToCell d) = r.cell c ≡ Some d
TargetPairs r (ToNumber n) (ToNumber k) = n ≡ k
TargetPairs r (ToNumber n) (ToCell d) = r.constant d ≡ Some n
TargetPairs r Elsewhere Elsewhere = Unit {0}
TargetPairs r _ _ = ⊥

pub record ExportPairs (r : Renaming) (e f : Exported) : Type 0 where
  pub name : e.name ≡ f.name
  pub target : TargetPairs r e.target f.target

-- The worlds are one another, renamed: the functions that have a name in the other world, all slots, all exports, the memory. No two
-- cells have one name, and none is a cell that nothing writes.
pub record WorldPairs (r : Renaming) (w m : World) : Type 0 where
  pub functions : (f g : ℕ) → Calls r f g → Both (FunctionPairs r) (function_at w f) (function_at m g)
  pub table : Both (Each (Both (Calls r))) w.table m.table
  pub exports : Each (ExportPairs r) w.exports m.exports
  pub memory : w.memory ≡ m.memory
  pub apart : (c d e : ℕ) → r.cell c ≡ Some e → r.cell d ≡ Some e → c ≡ d
  pub free : (c d : ℕ) → r.cell c ≡ Some d → r.constant d ≡ None

-- The cells hold the same, renamed, and those that nothing writes hold their numbers.
pub record CellsPair (r : Renaming) (a b : Cells) : Type 0 where
  pub renamed : (c d : ℕ) → r.cell c ≡ Some d → slice_get a c ≡ slice_get b d
  pub constant : (d n : ℕ) → r.constant d ≡ Some n → slice_get b d ≡ Some (Some (I32 n))

-- States that pair: all but the names of functions and cells is the same.
pub record Alike (r : Renaming) (s t : State) : Type 0 where
  pub names : Each (Calls r) s.names t.names
  pub cells : CellsPair r s.cells t.cells
  pub inner : s.inner ≡ t.inner

abbrev pub Lockstep : Type 0
Lockstep = (r : Renaming) (w m : World) (s : Session) (a b : State) (n : ℕ) → WorldPairs r w m → Alike r a b → trace_of w s a n ≡ trace_of m s b n
