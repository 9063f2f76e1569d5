-- What is unresolved, as the data tell it.
use Rattle.std.specs.Prelude.{ℕ, ◌==◌, not, List, [], map, find, slice_get, slice_index_or, Option, None, option_map, option_and_then, unwrap_or, is_some}
use Rattle.link_program.specs.wl_base.Choice.{given, first_some}
use Rattle.link_program.specs.wl_base.Names.{number_of}
use Rattle.link_program.specs.wl_base.declared.fault.Fault.{Fault}
use Rattle.link_program.specs.wl_base.declared.fault.Fault.TheVariants.{Unresolved}
use Rattle.link_program.specs.linking_section.declared.symbol.Symbol.{Symbol}
use Rattle.link_program.specs.object_file.declared.object.Object.{Object}

-- The rank of the winner of a name, by the name's number.
abbrev pub rank_seen : List (List ℕ) → List (Option ℕ) → List ℕ → Option ℕ
rank_seen names ranks name = option_and_then (λ n. slice_index_or ranks n None) (number_of names name)

abbrev pub missing_seen : List (List ℕ) → List (Option ℕ) → List ℕ → Option Fault
missing_seen names ranks name = given (not (is_some (rank_seen names ranks name))) (Unresolved name 0)

-- The first of the names without a winner.
abbrev pub first_missing : List (List ℕ) → List (Option ℕ) → List (List ℕ) → Option Fault
first_missing names ranks words = first_some (map (missing_seen names ranks) words)

-- The name of a symbol by its input and place.
abbrev pub symbol_name_at : List Object → ℕ → ℕ → List ℕ
symbol_name_at objects input place =
    unwrap_or (option_and_then (λ (s : Symbol). s.name) (option_and_then (λ (o : Object). slice_get o.symbols place) (find (λ (o : Object). o.input == input) objects))) []

abbrev pub open_fault : List Object → Option (ℕ × ℕ) → Option Fault
open_fault objects s = option_map (λ (at : ℕ × ℕ). Unresolved (symbol_name_at objects at.0 at.1) at.0) s
