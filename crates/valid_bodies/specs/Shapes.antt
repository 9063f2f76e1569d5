-- What typing sees of an instruction: a line an instruction, by what its index names. So modules and objects,
-- whose instructions name things in other ways, share this table.
use Rattle.std.specs.Prelude.{ℕ, ◌-◌, List, [], ◌∷◌, ◌++◌, map, Option, Some, None, slice_get, Bool, true, false, if◌then◌else◌, nat_eq, nat_lt, length}
use Rattle.wasm_types.specs.declared.value.ValType.{ValType}
use Rattle.wasm_types.specs.declared.value.ValType.TheVariants.{I32, I64, F32, F64}
use Rattle.wasm_types.specs.declared.function.FuncType.{FuncType}
use Rattle.wasm_types.specs.declared.table.GlobalType.{GlobalType}
use Rattle.wasm_instr.specs.declared.instr.Instr.{Instr}
use Rattle.wasm_instr.specs.declared.instr.Instr.TheVariants.{Plain, Block, Branch, BranchTable, Call, CallIndirect, SelectTyped, Local, GlobalAt, Access, MemorySize, MemoryGrow, I32Const, I64Const, MemoryCopy, MemoryFill, F32Const, F64Const, Truncate}
use Rattle.wasm_instr.specs.declared.body.LocalRun.{LocalRun}
use Rattle.wasm_instr.specs.declared.body.Body.{Body}
use Rattle.valid_rules.specs.declared.types.Opener.{Opener}
use Rattle.valid_rules.specs.declared.types.Opener.TheVariants.{Block as BlockOpener, Loop, If}
use Rattle.valid_rules.specs.declared.types.Shape.{Shape}
use Rattle.valid_rules.specs.declared.types.Shape.TheVariants.{Typed, Drops, Selects, Leaves, Branches, BranchesIf, BranchesBy, Opens, Else, End, Untyped}
use Rattle.valid_rules.specs.Leads.{IsTyped}
use Rattle.valid_bodies.specs.declared.types.Context.{Context}
use Rattle.valid_bodies.specs.declared.types.Meaning.{Meaning}
use Rattle.valid_bodies.specs.declared.types.Meaning.TheVariants.{OfType, OfGlobal}
use Rattle.valid_bodies.specs.Numeric.{to, one, numeric, truncation}
use Rattle.valid_bodies.specs.Accesses.{access}
use Rattle.valid_bodies.specs.Meanings.{meaning}

-- Without immediates (Core 5.4.1, 5.4.3): unreachable 00, nop 01, else 05, end 0B, return 0F, drop 1A, select 1B,
-- and the numeric ones. `return` takes the function's results.
unfoldable pub plain : List ValType → ℕ → Shape
plain results op =
    if nat_eq op 0x00 then Leaves [] else if nat_eq op 0x01 then to [] [] else if nat_eq op 0x05 then Else else if nat_eq op 0x0b then End
    else if nat_eq op 0x0f then Leaves results else if nat_eq op 0x1a then Drops else if nat_eq op 0x1b then Selects else numeric op

-- What opens a block (5.4.1): block 02, loop 03, if 04.
abbrev pub opener : ℕ → Opener
opener op = if nat_eq op 0x03 then Loop else if nat_eq op 0x04 then If else BlockOpener

-- Locals (3.3.5): local.get 20, local.set 21, local.tee 22.
abbrev pub local : ℕ → ValType → Shape
local op t = if nat_eq op 0x20 then to [] (t ∷ []) else if nat_eq op 0x21 then to (t ∷ []) [] else one t t

-- Globals (3.3.5): global.get 23, global.set 24, of which the second needs one that is var.
abbrev pub global : ℕ → GlobalType → Shape
global op g = if nat_eq op 0x23 then to [] (g.kind ∷ []) else if g.var then to (g.kind ∷ []) [] else Untyped

-- `select` with types has one (3.3.4).
abbrev pub select_typed : List ValType → Shape
select_typed (t ∷ []) = to (t ∷ t ∷ I32 ∷ []) (t ∷ [])
select_typed _ = Untyped

-- A call through a table takes the slot behind the arguments (3.3.8).
abbrev pub called_through : FuncType → Shape
called_through t = to (t.params ++ I32 ∷ []) t.results

abbrev pub in_memory : Bool → Shape → Shape
in_memory true s = s
in_memory false s = Untyped

-- The type of a local: the parameters come first, then the runs that the body declares (3.4.1).
unfoldable pub run_type : List LocalRun → ℕ → Option ValType
run_type [] x = None
run_type (r ∷ rs) x = if nat_lt x r.count then Some r.kind else run_type rs (x - r.count)

abbrev pub local_type : List ValType → List LocalRun → ℕ → Option ValType
local_type params runs x = if nat_lt x (length params) then slice_get params x else run_type runs (x - length params)

-- What isn't there has no typing.
abbrev pub there : {A : Type 0} → (A → Shape) → Option A → Shape
there f None = Untyped
there f (Some a) = f a

abbrev pub as_type : (FuncType → Shape) → Meaning → Shape
as_type f (OfType t) = f t
as_type f _ = Untyped

abbrev pub as_global : (GlobalType → Shape) → Meaning → Shape
as_global f (OfGlobal g) = f g
as_global f _ = Untyped

-- An instruction, where there is a memory or not, in a function of this type with these locals, by what its
-- index names. Branches: br 0C, br_if 0D.
abbrev pub shape_as : Bool → FuncType → List LocalRun → Meaning → Instr → Shape
shape_as memory t ls m (Plain op) = plain t.results op
shape_as memory t ls m (Block op k) = as_type (Opens (opener op)) m
shape_as memory t ls m (Branch op l) = if nat_eq op 0x0c then Branches l else BranchesIf l
shape_as memory t ls m (BranchTable ks l) = BranchesBy ks l
shape_as memory t ls m (Call f) = as_type Typed m
shape_as memory t ls m (CallIndirect k n) = as_type called_through m
shape_as memory t ls m (SelectTyped ts) = select_typed ts
shape_as memory t ls m (Local op x) = there (local op) (local_type t.params ls x)
shape_as memory t ls m (GlobalAt op g) = as_global (global op) m
shape_as memory t ls m (Access op align offset) = access memory op align
shape_as memory t ls m MemorySize = in_memory memory (to [] (I32 ∷ []))
shape_as memory t ls m MemoryGrow = in_memory memory (to (I32 ∷ []) (I32 ∷ []))
shape_as memory t ls m (I32Const n) = to [] (I32 ∷ [])
shape_as memory t ls m (I64Const n) = to [] (I64 ∷ [])
shape_as memory t ls m MemoryCopy = in_memory memory (to (I32 ∷ I32 ∷ I32 ∷ []) [])
shape_as memory t ls m MemoryFill = in_memory memory (to (I32 ∷ I32 ∷ I32 ∷ []) [])
shape_as memory t ls m (F32Const n) = to [] (F32 ∷ [])
shape_as memory t ls m (F64Const n) = to [] (F64 ∷ [])
shape_as memory t ls m (Truncate n) = truncation n

-- An instruction in its context.
abbrev pub shape : Context → FuncType → List LocalRun → Instr → Shape
shape c t ls i = shape_as c.memory t ls (meaning c i) i

-- What typing sees of a body of this type. Its places don't count.
abbrev pub shapes_in : Context → FuncType → Body → List Shape
shapes_in c t b = map (λ p. shape c t b.locals p.instr) b.code

-- A body of this type has a typing in its context (Core 3.4.1).
abbrev pub BodyIsTyped : Context → FuncType → Body → Type 0
BodyIsTyped c t b = IsTyped t.results (shapes_in c t b)
