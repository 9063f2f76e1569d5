-- The least symbol, by input and then by place.
use Rattle.std.specs.Prelude.{◌==◌, nat_lt, Bool, ◌&&◌, ◌||◌, List, [], ◌∷◌, if◌then◌else◌, Option, Some, None}
use Rattle.name_unresolved.specs.Refers.{SymbolAt}

abbrev pub is_before : SymbolAt → SymbolAt → Bool
is_before a b = nat_lt a.0 b.0 || ((a.0 == b.0) && nat_lt a.1 b.1)

abbrev pub lesser : Option SymbolAt → Option SymbolAt → Option SymbolAt
lesser None b = b
lesser (Some a) None = Some a
lesser (Some a) (Some b) = if is_before b a then Some b else Some a

-- The least of what the items give.
abbrev pub least_by : {A : Type 0} → (A → Option SymbolAt) → List A → Option SymbolAt
least_by f [] = None
least_by f (x ∷ xs) = lesser (f x) (least_by f xs)

abbrev pub least : List SymbolAt → Option SymbolAt
least = least_by Some
