use Rattle.std.proofs.Common.{◌∙◌}
use Rattle.program_build.proofs.Finding.{numbers_told, too_many_told}
use Rattle.program_build.proofs.numbers.numbers_of.Goals as goal

pub returns-in-Ok : goal.returns-in-Ok
returns-in-Ok c =
    numbers_told c.args.mode c.in-Ok.names c.as_slice.result.now c.args.plan.now c.args.objects.now (c.as_slice.ensures ∙ c.in_ok-words.ensures) c.in-Ok.ensures

pub returns-in-Err-TooMany : goal.returns-in-Err-TooMany
returns-in-Err-TooMany c =
    too_many_told c.args.mode c.in-Err-TooMany.field-0 c.as_slice.result.now c.args.plan.now c.args.objects.now c.in-Err-TooMany.field-0-is (c.as_slice.ensures ∙ c.in_ok-words.ensures) c.in-Err-TooMany.ensures
