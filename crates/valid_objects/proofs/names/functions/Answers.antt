use Rattle.std.proofs.Common.{ap, sym, ◌∙◌}
use Rattle.std.specs.Option.{option_map}
use Rattle.object_file.specs.object_columns.declared.functions.FunctionDef.{FunctionDef}
use Rattle.object_file.specs.object_columns.Seen.{function_seen}
use Rattle.valid_objects.proofs.Steps.{maps}
use Rattle.valid_objects.proofs.names.functions.Goals as goal

pub loop-at-preserved : goal.loop-at-preserved
loop-at-preserved c =
    let at = sym c.get.ensures ∙ ap (option_map function_seen) c.in-Some.is in
    maps (λ (f : FunctionDef). f.type_index) c.args.o.now.functions c.loop-at.at (function_seen c.in-Some.function) c.loop-at.found c.push.new.self _ at c.in_ok-push.ensures.ok c.loop-at.invariant
