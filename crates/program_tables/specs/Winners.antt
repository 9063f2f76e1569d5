-- The winners of names, by the ranks of the winners.
use Rattle.std.specs.Prelude.{ℕ, ◌==◌, Bool, false, List, ◌++◌, filter_map, flat_map, slice_index_or, Option, Some, None, option_and_then}
use Rattle.link_program.specs.wl_base.Choice.{given}
use Rattle.link_program.specs.object_file.declared.object.Object.{Object}
use Rattle.link_program.specs.made_symbols.declared.mode.Mode.{Mode}
use Rattle.link_program.specs.made_symbols.Made.{made}
use Rattle.link_program.specs.name_rules.Entries.{InputSymbol, made_from}
use Rattle.link_program.specs.name_rules.Meanings.{entry_rank}
use Rattle.link_program.specs.name_entries.View.{rows_of, entry_number}
use Rattle.link_program.specs.declared.symbol.Winner.{Winner}
use Rattle.link_program.specs.Told.{told_definition}

abbrev pub is_rank : ℕ → Option ℕ → Bool
is_rank rank None = false
is_rank rank (Some best) = rank == best

-- The entry as the winner of the name of this number, if it has the rank of the winner.
abbrev pub winner_by : List (Option ℕ) → InputSymbol → ℕ → Option Winner
winner_by ranks e name =
    given (is_rank (entry_rank e) (slice_index_or ranks name None)) (record { definition = told_definition e; name = name; flags = e.symbol.flags })

-- The entry as the winner of its name, if it is that.
abbrev pub winner_of : List (List ℕ) → List (Option ℕ) → InputSymbol → Option Winner
winner_of names ranks e = option_and_then (winner_by ranks e) (entry_number names e)

-- The winners of all names: the linker's own, then those of objects.
abbrev pub winners_in : Mode → List (List ℕ) → List (Option ℕ) → List Object → List Winner
winners_in mode names ranks objects =
    filter_map (winner_of names ranks) (made_from 0 (made mode)) ++ flat_map (λ row. filter_map (winner_of names ranks) row) (rows_of objects)
