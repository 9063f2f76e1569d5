use Rattle.std.proofs.Common.{◌≡◌, [], length, get_or, None}
use Rattle.name_entries.specs.Rows.{Tells}
use Rattle.name_entries.proofs.Added.{Beside}
use Rattle.name_entries.proofs.symbol_rows.fill_rows.Given as goal

abbrev pub invariant-loop-place : goal.invariant-loop-place
invariant-loop-place l = record {
  count : l.place ≡ length l.rows;
  each : Beside (λ k s r. Tells l.objects l.from (get_or (get_or l.names.symbols l.object []) k None) s r) l.from.symbols l.rows;
}
