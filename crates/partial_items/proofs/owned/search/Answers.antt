use Rattle.std.proofs.Common.{rules, Ok, Err, sym}
use Rattle.std.proofs.lemmas.List.Sorted.{answers_always}
use Rattle.partial_items.proofs.Places.{found}
use Rattle.partial_items.proofs.owned.search.Goals as goal

pub returns-in-Ok : goal.returns-in-Ok
returns-in-Ok c =
    let by_key = c.in-Ok.ensures.position (λ o. o.input) (answers_always _ _ _ (λ f a r g called. search rules)) in
    sym (found c.args.objects.now c.args.input (Ok c.in-Ok.place) c.requires c.in-Ok.ensures.bound by_key)

pub returns-in-Err : goal.returns-in-Err
returns-in-Err c =
    let by_key = c.in-Err.ensures.position (λ o. o.input) (answers_always _ _ _ (λ f a r g called. search rules)) in
    sym (found c.args.objects.now c.args.input (Err c.in-Err.field-0) c.requires c.in-Err.ensures.bound by_key)
