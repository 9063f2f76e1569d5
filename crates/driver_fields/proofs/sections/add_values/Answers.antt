use Rattle.std.proofs.Common.{◌≡◌, ◌++◌, ℕ, List, ap, ◌∙◌, lit<}
use Rattle.std.specs.List.{filter}
use Rattle.std.proofs.lemmas.Iterator.Consumers.{YieldsList-end}
use Rattle.std.proofs.lemmas.Iterator.Splits.{YieldsList-from_str_split}
use Rattle.driver_fields.specs.Sections.{is_value}
use Rattle.driver_fields.proofs.Parts.{part_more}
use Rattle.driver_fields.proofs.sections.add_values.Goals as goal

pub loop-part-preserved : goal.loop-part-preserved
loop-part-preserved c =
    part_more (λ part. part.now) c.loop-part.yielded c.in-Some.part c.args.names.now c.loop-part.names c.add_value.new.names c.loop-part.invariant c.in_ok-add_value.ensures

pub returns : goal.returns
returns c =
    let end =
    YieldsList-end (YieldsList-from_str_split 44 c.args.value.now (lit< tt) (cc) (cc) (cc)) c.loop-part.yielded _ c.loop-part.yielded_by _ _ c.in-None.is c.next.ensures.steps in
    c.loop-part.invariant ∙ ap (λ (parts : List (List ℕ)). c.args.names.now ++ filter is_value parts) end.0
