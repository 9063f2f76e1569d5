use Rattle.std.proofs.Common.{◌≡◌, drop}
use Rattle.std.specs.List.{list_any}
use Rattle.link_marks.specs.link_program.name_entries.View.{is_number}
use Rattle.lost_ctors.proofs.words.objects_name.Given as goal

abbrev pub invariant-loop-object : goal.invariant-loop-object
invariant-loop-object l =
    list_any (λ row. list_any (is_number l.number) row) (drop l.object l.names.symbols) ≡ list_any (λ row. list_any (is_number l.number) row) l.names.symbols
