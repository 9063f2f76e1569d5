use Rattle.std.proofs.Common.{◌≡◌, ℕ, List, Some, None, cond, take}
use Rattle.std.specs.List.{list_any}
use Rattle.std.specs.Map.{lookup}
use Rattle.std.specs.Str.{bytes_eq}
use Rattle.lib_index.specs.Table.{shown}
use Rattle.made_symbols.specs.Made.{made}
use Rattle.lib_rounds.proofs.begin.made_names.Given as goal

abbrev pub invariant-loop-k : goal.invariant-loop-k
invariant-loop-k l = (n : List ℕ) → lookup (bytes_eq n) (shown l.table) ≡ cond (list_any (λ m. bytes_eq n m.name) (take l.k (made l.mode)))
    (Some 0) None
