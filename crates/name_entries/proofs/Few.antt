-- Inputs that rise are few.
use Rattle.std.proofs.Common.{ℕ, ◌+◌, ◌<◌, ◌^◌, List, [], ◌∷◌, length, arith}
use Rattle.name_rules.specs.object_file.declared.object.Object.{Object}
use Rattle.name_entries.specs.View.{InputsRise}

pub few : (last : ℕ) (objects : List Object) → last < 2 ^ 20 → InputsRise last objects → length objects + last < 2 ^ 20
few last [] below rise = omega arith
few last (o ∷ os) below rise = let rest = few o.input os rise.1 rise.2 in let up : last < o.input = rise.0 in omega arith
