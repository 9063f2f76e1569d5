-- Where blocks end, for each instruction of a body.
use Rattle.std.specs.Prelude.{ℕ, ◌+◌, List, [], ◌∷◌, Option, Some, None, map, drop, slice_get}
use Rattle.run_rules.specs.declared.op.Mark.{Mark}
use Rattle.run_rules.specs.declared.op.Mark.TheVariants.{Opens, Parts, Closes, Passes}
use Rattle.run_rules.specs.declared.world.Source.{Source}
use Rattle.run_rules.specs.declared.world.Source.TheVariants.{Nowhere, Host, Code}
use Rattle.run_rules.specs.declared.world.Function.{Function}
use Rattle.run_rules.specs.Control.{mark, end_from, else_from}
use Rattle.run_model.specs.declared.ends.Ends.{Ends}

abbrev pub no_ends : Ends
no_ends = record { end = None; other = None }

-- Of the block whose first instruction stands at this place, where these marks are those from there on.
abbrev pub ends_behind : ℕ → List Mark → Ends
ends_behind next ms = record { end = end_from next 0 ms; other = else_from next 0 ms }

-- of an instruction of this mark, before the others
abbrev pub ends_before : Mark → ℕ → List Mark → Ends
ends_before Opens next ms = ends_behind next ms
ends_before Parts next ms = no_ends
ends_before Closes next ms = no_ends
ends_before Passes next ms = no_ends

-- of the instructions from this place on
abbrev pub ends_from : ℕ → List Mark → List Ends
ends_from at [] = []
ends_from at (m ∷ ms) = ends_before m (at + 1) ms ∷ ends_from (at + 1) ms

-- of a function
abbrev pub ends_of_source : Source → List Ends
ends_of_source Nowhere = []
ends_of_source (Host m n) = []
ends_of_source (Code locals code) = ends_from 0 (map mark code)

abbrev pub ends_in : Option Function → List Ends
ends_in None = []
ends_in (Some f) = ends_of_source f.source

-- ---- the blocks that are open at a place, the innermost first, before an instruction of this mark where these are those behind it

-- where each ends
abbrev pub ends_over : Mark → ℕ → List ℕ → List ℕ
ends_over Opens at ends = drop 1 ends
ends_over Parts at ends = ends
ends_over Closes at ends = at ∷ ends
ends_over Passes at ends = ends

-- where each goes on that is not taken
abbrev pub others_over : Mark → ℕ → List ℕ → List ℕ
others_over Opens at others = drop 1 others
others_over Parts at others = (at + 1) ∷ drop 1 others
others_over Closes at others = at ∷ others
others_over Passes at others = others

-- where the block ends that it opens
abbrev pub ends_here : Mark → List ℕ → List ℕ → Ends
ends_here Opens ends others = record { end = slice_get ends 0; other = slice_get others 0 }
ends_here Parts ends others = no_ends
ends_here Closes ends others = no_ends
ends_here Passes ends others = no_ends
