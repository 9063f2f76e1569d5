use Rattle.std.proofs.Common.{ap, sym, subst, ◌∙◌, ◌+◌, take, arith}
use Rattle.std.specs.Prelude.{flat_map, option_map}
use Rattle.object_file.specs.wl_base.Names.{Names}
use Rattle.object_file.specs.object_columns.Seen.{symbol_seen}
use Rattle.link_names.specs.Numbered.{number_seen, symbol_number, Short}
use Rattle.link_names.specs.Interning.{Gains, Tells, TellsAll, entry_name}
use Rattle.link_names.proofs.Steps.{gains_more, tells_more, at_get, not_none, tells_all, gains_all, short_numbers, taken, refused}
use Rattle.link_names.proofs.build.symbol_numbers.Goals as goal
use Rattle.link_names.proofs.build.symbol_numbers.Goals.{in-Some+in_ok-symbol_number+in_ok-push, in_default-get}

pub returns-in_err-symbol_number : goal.returns-in_err-symbol_number
returns-in_err-symbol_number c =
    let s = symbol_seen c.in-Some.symbol in
    let at = at_get c.args.symbols.now c.loop-place.place s (sym c.get.ensures ∙ ap (option_map symbol_seen) c.in-Some.is) in
    refused (Tells symbol_number number_seen s) (λ names numbers. TellsAll symbol_number number_seen c.args.symbols.now names numbers.items × Short numbers.items) entry_name c.args.symbols.now c.loop-place.place s c.args.table.now c.loop-place.table c.symbol_number.new.table c.symbol_number.new.table
    c.symbol_number.result c.from_residual.result c.in_err-symbol_number.field-0.0 at c.loop-place.invariant.0 c.in_err-symbol_number.was c.from_residual.ensures c.symbol_number.ensures

pub loop-place-preserved : goal.loop-place-preserved
loop-place-preserved c = elim c.match-get.branch [
  | in-Some+in_ok-symbol_number+in_ok-push w ↦
      let s = symbol_seen w.in-Some.symbol in
      let at = at_get c.args.symbols.now c.loop-place.place s (sym c.get.ensures ∙ ap (option_map symbol_seen) w.in-Some.is) in
      let step = taken (Tells symbol_number number_seen s) w.symbol_number.result c.loop-place.table w.symbol_number.new.table (entry_name s) w.in_ok-symbol_number.field-0 w.in_ok-symbol_number.was w.symbol_number.ensures in (
        subst (λ (t : Names). Gains c.args.table.now t (flat_map entry_name (take (c.loop-place.place + 1) c.args.symbols.now))) (sym w.table-is)
            (gains_more entry_name c.args.symbols.now c.loop-place.place s c.args.table.now c.loop-place.table w.symbol_number.new.table at c.loop-place.invariant.0 step.0),
        subst (λ (t : Names). TellsAll symbol_number number_seen (take (c.loop-place.place + 1) c.args.symbols.now) t.names c.match-get.numbers.items) (sym w.table-is)
            (subst (TellsAll symbol_number number_seen (take (c.loop-place.place + 1) c.args.symbols.now) w.symbol_number.new.table.names) (sym w.in_ok-push.ensures.items ∙ ap (λ ns. ns.items) (sym w.numbers-is))
            (tells_more symbol_number number_seen c.args.symbols.now entry_name c.loop-place.place s w.in_ok-symbol_number.field-0 c.loop-place.table w.symbol_number.new.table c.loop-place.numbers.items at c.loop-place.invariant.1 step.0 step.1)),
      )
  | in_default-get w ↦ absurd (not_none c.args.symbols.now c.loop-place.place (sym c.get.ensures ∙ ap (option_map symbol_seen) w.in_default-get.is) (omega (arith, c.loop-place-test.true, c.len-place-end.ensures)))
]

pub returns : goal.returns
returns c =
    let told = tells_all symbol_number number_seen c.args.symbols.now c.loop-place.place c.loop-place.table.names c.loop-place.numbers.items (omega (arith, c.loop-place-test.false, c.len-place-end.ensures)) c.loop-place.invariant.1 in (
      gains_all entry_name c.args.symbols.now c.loop-place.place c.args.table.now c.loop-place.table (omega (arith, c.loop-place-test.false, c.len-place-end.ensures)) c.loop-place.invariant.0,
      (told, short_numbers symbol_number number_seen c.args.symbols.now c.loop-place.table.names c.loop-place.numbers.items told (omega (arith, c.if-len.false, c.len.ensures))),
    )
