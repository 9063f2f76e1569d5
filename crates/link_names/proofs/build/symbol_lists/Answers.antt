use Rattle.std.proofs.Common.{◌≡◌, [], ◌∷◌, ◌++◌, sym, subst, ◌+◌, take, OnOk}
use Rattle.std.proofs.lemmas.List.Elements.{All-push}
use Rattle.link_names.specs.Numbered.{number_seen, numbers_seen, symbol_number, Short, AllShort}
use Rattle.link_names.specs.Interning.{TellsAll, names_in, symbols_numbered}
use Rattle.link_names.proofs.Steps.{gains_more, tells_more, IsAt, pushed, taken, refused}
use Rattle.link_names.proofs.build.symbol_lists.Goals as goal

pub returns-in_err-numbers : goal.returns-in_err-numbers
returns-in_err-numbers c =
    let o = c.object-item.result in
    refused (λ names numbers. TellsAll symbol_number number_seen o.symbols names numbers.items × Short numbers.items) (λ names lists. TellsAll symbols_numbered numbers_seen c.args.objects.now names lists × AllShort lists) names_in c.args.objects.now c.loop-object.object-index o
    c.args.table.now c.loop-object.table c.symbol_numbers.new.table c.symbol_numbers.new.table
    c.symbol_numbers.result c.from_residual.result c.in_err-numbers.field-0.0 (c.loop-object-test.true, sym c.object-item.is) c.loop-object.invariant.0 c.in_err-numbers.was c.from_residual.ensures c.symbol_numbers.ensures

pub loop-object-preserved : goal.loop-object-preserved
loop-object-preserved c =
    let o = c.object-item.result in
    let numbers = c.in_ok-numbers.numbers.items in
    let at : IsAt c.args.objects.now c.loop-object.object-index o = (c.loop-object-test.true, sym c.object-item.is) in
    let step = taken (λ names numbers. TellsAll symbol_number number_seen o.symbols names numbers.items × Short numbers.items) c.symbol_numbers.result c.loop-object.table c.symbol_numbers.new.table (names_in o) c.in_ok-numbers.numbers c.in_ok-numbers.was c.symbol_numbers.ensures in
    let after : c.push.new.self ≡ c.loop-object.lists ++ numbers ∷ [] =
    pushed c.push.result c.kept.result c.in_ok-kept.field-0 (c.push.new.self ≡ c.loop-object.lists ++ numbers ∷ []) c.kept.ensures c.in_ok-kept.was (subst (λ l. OnOk c.push.result (c.push.new.self ≡ c.loop-object.lists ++ l ∷ [])) c.deref.ensures.value c.push.ensures.ok) in (
      gains_more names_in c.args.objects.now c.loop-object.object-index o c.args.table.now c.loop-object.table c.symbol_numbers.new.table at c.loop-object.invariant.0 step.0,
      subst (TellsAll symbols_numbered numbers_seen (take (c.loop-object.object-index + 1) c.args.objects.now) c.symbol_numbers.new.table.names) (sym after)
          (tells_more symbols_numbered numbers_seen c.args.objects.now names_in c.loop-object.object-index o numbers c.loop-object.table c.symbol_numbers.new.table c.loop-object.lists at c.loop-object.invariant.1 step.0 step.1.0),
      subst (λ lists. AllShort lists) (sym after) (All-push (λ l. Short l) c.loop-object.lists numbers c.loop-object.invariant.2 step.1.1),
    )
