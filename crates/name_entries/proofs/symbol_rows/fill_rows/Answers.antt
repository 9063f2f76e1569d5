use Rattle.std.proofs.Common.{[], None, length, get_or, sym, ap, subst, ◌∙◌, arith, length-append}
use Rattle.std.specs.Option.{option_map}
use Rattle.name_rules.specs.object_file.linking_section.declared.symbol.Symbol.{Symbol}
use Rattle.name_rules.specs.object_file.object_columns.Seen.{symbol_seen}
use Rattle.name_entries.specs.Rows.{Tells}
use Rattle.name_entries.specs.declared.symbol_rows.EntryRow.{EntryRow}
use Rattle.name_entries.proofs.Added.{one_more}
use Rattle.name_entries.proofs.symbol_rows.fill_rows.Goals as goal

pub loop-place-preserved : goal.loop-place-preserved
loop-place-preserved c =
    let objects = c.args.objects.now in
    let from = c.args.from.now in
    let numbers = get_or c.args.names.now.symbols c.args.object [] in
    let symbol = symbol_seen c.in-Some.symbol in
    let there = sym c.get.ensures ∙ ap (option_map symbol_seen) c.in-Some.is in
    let told = subst (λ n. Tells objects from n symbol c.in_ok-row_of.field-0) c.symbol-number.ensures c.in_ok-row_of.ensures in
    record {
      count = omega (arith, simp length-append at (ap length c.in_ok-push.ensures.ok));
      each = one_more (λ k (s : Symbol) (r : EntryRow). Tells objects from (get_or numbers k None) s r) from.symbols c.loop-place.rows _ c.loop-place.place symbol
          c.in_ok-row_of.field-0 c.in_ok-push.ensures.ok c.loop-place.invariant.count there told c.loop-place.invariant.each;
    }
