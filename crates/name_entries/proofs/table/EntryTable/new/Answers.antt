use Rattle.std.proofs.Common.{◌≡◌, length, sym, subst, arith}
use Rattle.name_entries.specs.Parts.{AreParts}
use Rattle.name_entries.specs.Rows.{AreRows}
use Rattle.name_entries.proofs.Few.{few}
use Rattle.name_entries.proofs.Along.{all_parts, all_rows}
use Rattle.name_entries.proofs.table.EntryTable.new.Goals as goal

pub overflow_cast-objects : goal.overflow_cast-objects
overflow_cast-objects c = let h = few 0 c.args.objects.now (omega arith) c.requires.inputs in omega arith

pub returns : goal.returns
returns c =
    let objects = c.args.objects.now in
    let names = c.args.names.now.symbols in
    let all = c.in_ok-piece.piece in
    record {
      parts = subst (AreParts objects) (sym c.table_of.ensures.parts) (all_parts objects names all c.in_ok-piece.ensures);
      rows = subst (AreRows objects names) (sym c.table_of.ensures.rows) (all_rows objects names all c.in_ok-piece.ensures);
    }
