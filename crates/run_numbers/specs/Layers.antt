-- Values on one stack, newest first, with the blocks that are open, as values by block.
use Rattle.std.specs.Prelude.{◌≡◌, ℕ, suc, ◌-◌, ◌≤◌, ◌<◌, List, [], ◌∷◌, ◌++◌, Option, Some, None, length, take, drop, slice_get}
use Rattle.run_rules.specs.declared.value.Value.{Value}
use Rattle.run_rules.specs.declared.state.Label.{Label}
use Rattle.run_numbers.specs.declared.layers.Opened.{Opened}
use Rattle.run_numbers.specs.declared.layers.Jump.{Jump}
use Rattle.run_numbers.specs.declared.layers.Jump.TheVariants.{To, Short, Past}

-- the values of the innermost block, and the labels with the values outside
pub record Layers : Type 0 where
  pub values : List Value
  pub labels : List Label

abbrev pub inside : List Opened → List Value → List Value
inside [] vs = vs
inside (b ∷ bs) vs = take (length vs - b.height) vs

abbrev pub outside : List Opened → List Value → List Label
outside [] vs = []
outside (b ∷ bs) vs =
    let rest = drop (length vs - b.height) vs in
    record { target = b.target; arity = b.arity; outside = inside bs rest } ∷ outside bs rest

abbrev pub layers : List Opened → List Value → Layers
layers bs vs = record { values = inside bs vs; labels = outside bs vs }

-- no block is higher than what is in it
abbrev pub Heights : List Opened → ℕ → Type 0
Heights [] n = Unit {0}
Heights (b ∷ bs) n = (b.height ≤ n) × Heights bs b.height

-- ---- what the calls do

-- the innermost block is closed; its label led there
pub record Closes (old : Layers) (target : ℕ) (new : Layers) : Type 0 where
  pub label : Label
  pub labels : old.labels ≡ label ∷ new.labels
  pub leads : label.target ≡ target
  pub values : new.values ≡ old.values ++ label.outside

pub record JumpsTo (old : Layers) (k target : ℕ) (new : Layers) : Type 0 where
  pub label : Label
  pub at : slice_get old.labels k ≡ Some label
  pub leads : label.target ≡ target
  pub enough : label.arity ≤ length old.values
  pub values : new.values ≡ take label.arity old.values ++ label.outside
  pub labels : new.labels ≡ drop (suc k) old.labels

pub record JumpsShort (old : Layers) (k : ℕ) : Type 0 where
  pub label : Label
  pub at : slice_get old.labels k ≡ Some label
  pub few : length old.values < label.arity

abbrev pub Jumps : Layers → ℕ → Jump → Layers → Type 0
Jumps old k (To t) new = JumpsTo old k t new
Jumps old k Short new = JumpsShort old k
Jumps old k Past new = (slice_get old.labels k ≡ None) × (new ≡ old)
