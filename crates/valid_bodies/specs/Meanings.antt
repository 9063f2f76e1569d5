-- What the indices of a module's instructions name.
use Rattle.std.specs.Prelude.{ℕ, List, [], ◌∷◌, Option, Some, None, slice_get, option_and_then, Bool, true}
use Rattle.wasm_types.specs.declared.function.FuncType.{FuncType}
use Rattle.wasm_types.specs.declared.table.GlobalType.{GlobalType}
use Rattle.wasm_instr.specs.declared.instr.BlockKind.{BlockKind}
use Rattle.wasm_instr.specs.declared.instr.BlockKind.TheVariants.{Empty, Value, Index}
use Rattle.wasm_instr.specs.declared.instr.Instr.{Instr}
use Rattle.wasm_instr.specs.declared.instr.Instr.TheVariants.{Block, Call, CallIndirect, GlobalAt}
use Rattle.valid_bodies.specs.declared.types.Context.{Context}
use Rattle.valid_bodies.specs.declared.types.Meaning.{Meaning}
use Rattle.valid_bodies.specs.declared.types.Meaning.TheVariants.{Nothing, OfType, OfGlobal}

-- The type of a block (Core 3.2.2).
abbrev pub block_type : List FuncType → BlockKind → Option FuncType
block_type types Empty = Some (record { params = []; results = [] })
block_type types (Value t) = Some (record { params = []; results = t ∷ [] })
block_type types (Index n) = slice_get types n

abbrev pub typed_as : Option FuncType → Meaning
typed_as None = Nothing
typed_as (Some t) = OfType t

abbrev pub global_as : Option GlobalType → Meaning
global_as None = Nothing
global_as (Some g) = OfGlobal g

-- A call goes through a table of funcref alone.
abbrev pub in_table : Option Bool → Meaning → Meaning
in_table (Some true) m = m
in_table _ m = Nothing

-- The type of a function.
abbrev pub type_at : Context → ℕ → Option FuncType
type_at c f = option_and_then (slice_get c.types) (slice_get c.functions f)

-- Blocks and calls name types (Core 3.3.8), accesses to globals their globals (3.3.5). Labels and locals aren't
-- the context's.
abbrev pub meaning : Context → Instr → Meaning
meaning c (Block op k) = typed_as (block_type c.types k)
meaning c (Call f) = typed_as (type_at c f)
meaning c (CallIndirect k t) = in_table (slice_get c.tables t) (typed_as (slice_get c.types k))
meaning c (GlobalAt op g) = global_as (slice_get c.globals g)
meaning c _ = Nothing
