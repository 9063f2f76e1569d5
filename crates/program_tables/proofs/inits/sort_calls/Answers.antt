use Rattle.std.proofs.Common.{rules}
use Rattle.std.proofs.lemmas.List.Sorted.{answers_always, IsNonDecreasingBy-from_sort_by_key}
use Rattle.program_tables.specs.Inits.{priority_of}
use Rattle.program_tables.proofs.Sorted.{sorted_is}
use Rattle.program_tables.proofs.inits.sort_calls.Goals as goal

pub returns : goal.returns
returns c =
    sorted_is priority_of c.args.calls.now.items c.sort_by_key.new.self.items
    (IsNonDecreasingBy-from_sort_by_key priority_of _ c.in_ok-sort_by_key.ensures.sorted (λ a r q k. search rules))
    (c.in_ok-sort_by_key.ensures.stable priority_of (answers_always _ _ _ (λ f a r q k. search rules)))
