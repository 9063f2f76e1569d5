-- The labels of a `br_table`, at their bytes. Contracts of private functions alone cite it.
use Rattle.std.specs.Prelude.{◌≡◌, ℕ, zero, suc, List, Bool, true, false, ◌&&◌, Result, Ok, Err}
use Rattle.wasm_grammar.specs.declared.fault.Stop.{Stop}
use Rattle.wasm_grammar.specs.Reading.{u32_at, many_at}
use Rattle.wasm_instr.specs.declared.instr.Instr.TheVariants.{BranchTable}
use Rattle.wasm_instr.specs.Reading.{instr_at}
use Rattle.valid_rules.specs.declared.types.Frame.{Frame}
use Rattle.valid_bodies.specs.Steps.{label_fits}

-- A `br_table` stands at the front: so many labels at the front of these bytes, and a last one.
pub record Labelled (end : ℕ) (bytes : List ℕ) (count : ℕ) (labels : List ℕ) (last : ℕ) (rest : List ℕ) : Type 0 where
  pub targets : List ℕ
  pub mid : List ℕ
  pub many : many_at u32_at count end labels ≡ Ok (targets, mid)
  pub reads : instr_at end bytes ≡ Ok (BranchTable targets last, mid, rest)

-- A branch to the label that is read takes so many operands, and the innermost block has them; and so it is of what is behind.
abbrev pub first_fits : List Frame → ℕ → (List ℕ → Bool) → Result (ℕ × List ℕ) Stop → Bool
first_fits fs arity others (Err e) = false
first_fits fs arity others (Ok x) = label_fits fs arity x.0 && others x.1

-- Branches to so many labels do.
abbrev pub all_fit : List Frame → ℕ → ℕ → ℕ → List ℕ → Bool
all_fit fs arity zero end bytes = true
all_fit fs arity (suc n) end bytes = first_fits fs arity (λ rest. all_fit fs arity n end rest) (u32_at end bytes)
