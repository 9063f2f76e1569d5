use Rattle.std.proofs.Common.{ap, sym, ◌∙◌}
use Rattle.std.specs.Option.{option_map}
use Rattle.object_file.specs.object_columns.Seen.{function_seen}
use Rattle.valid_objects.proofs.Steps.{refused_here, goes_on}
use Rattle.valid_objects.proofs.validating.first_refused.Goals as goal

pub returns-then-not-accepted-clause-found : goal.returns-then-not-accepted-clause-found
returns-then-not-accepted-clause-found c =
    let at = sym c.get.ensures ∙ ap (option_map function_seen) c.in-Some.is in
    refused_here c.args.o.now c.args.bytes.now c.args.first c.loop-at.at c.args.o.now.functions _ c.loop-at.invariant (function_seen c.in-Some.function) at (sym c.in_ok-accepted.ensures ∙ c.if-not-accepted.true)

pub loop-at-preserved : goal.loop-at-preserved
loop-at-preserved c =
    let at = sym c.get.ensures ∙ ap (option_map function_seen) c.in-Some.is in
    goes_on c.args.o.now c.args.bytes.now c.args.first c.loop-at.at c.args.o.now.functions _ c.loop-at.invariant (function_seen c.in-Some.function) at (sym c.in_ok-accepted.ensures ∙ c.if-not-accepted.false)
