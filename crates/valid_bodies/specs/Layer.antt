-- The operands of a block, and those of the blocks around it, on one stack with the newest first.
use Rattle.std.specs.Prelude.{ℕ, ◌-◌, List, length, take, drop}
use Rattle.valid_rules.specs.declared.types.Operand.{Operand}

-- The operands of the innermost block, and those below them.
pub record Layer : Type 0 where
  pub own : List Operand
  pub below : List Operand

-- What lies above a height, and below it.
abbrev pub above : ℕ → List Operand → List Operand
above h vs = take (length vs - h) vs

abbrev pub under : ℕ → List Operand → List Operand
under h vs = drop (length vs - h) vs

abbrev pub layer : ℕ → List Operand → Layer
layer h vs = record { own = above h vs; below = under h vs }
