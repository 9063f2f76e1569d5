use Rattle.std.proofs.Common.{sym, subst}
use Rattle.name_entries.specs.Parts.{AreParts}
use Rattle.name_entries.specs.Rows.{AreRows}
use Rattle.name_entries.proofs.Along.{all_parts, all_rows}
use Rattle.name_entries.proofs.table.EntryTable.by_workers.Goals as goal

pub returns : goal.returns
returns g c =
    let objects = c.args.objects.now in
    let names = c.args.names.now.symbols in
    let all = c.in_ok-piece.piece in
    record {
      parts = subst (AreParts objects) (sym c.table_of.ensures.parts) (all_parts objects names all c.in_ok-piece.ensures);
      rows = subst (AreRows objects names) (sym c.table_of.ensures.rows) (all_rows objects names all c.in_ok-piece.ensures);
    }
