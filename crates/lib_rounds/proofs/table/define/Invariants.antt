use Rattle.std.proofs.Common.{◌≡◌, ℕ, List, drop}
use Rattle.std.specs.Map.{lookup}
use Rattle.std.specs.Str.{bytes_eq}
use Rattle.lib_index.specs.Table.{shown}
use Rattle.object_file.specs.linking_section.Flags.{is_definition}
use Rattle.lib_rounds.proofs.Names.{names_in, after_names}
use Rattle.lib_rounds.proofs.table.define.Given as goal

abbrev pub invariant-loop-at : goal.invariant-loop-at
invariant-loop-at l = (n : List ℕ)
    → after_names (names_in is_definition (drop l.at l.object.symbols)) l.input n (lookup (bytes_eq n) (shown l.table))
    ≡ after_names (names_in is_definition l.fn.object.symbols) l.fn.input n (lookup (bytes_eq n) (shown l.fn.table))
