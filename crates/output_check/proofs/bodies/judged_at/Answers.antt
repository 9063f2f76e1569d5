use Rattle.std.proofs.Common.{◌≡◌, Some, length, map, refl}
use Rattle.std.specs.Prelude.{slice_get}
use Rattle.std.proofs.lemmas.Option.{slice_get_read}
use Rattle.output_check.proofs.OneByOne.{part_told, seen_at}
use Rattle.output_check.proofs.bodies.judged_at.Goals as goal

pub returns : goal.returns
returns c =
    let parts = c.args.parts.now in
    let l = c.in-Some.ensures.lookup in
    let here : slice_get parts c.args.at ≡ Some c.in-Some.part.now = slice_get_read parts (length parts) c.args.at c.in-Some.part.now refl l.3.0 l.1 in
    part_told c.args.context.now c.args.functions.now (map (λ p. p.now) parts) c.args.at c.in-Some.part.now.now c.is_typed.result
    (seen_at parts (λ p. p.now) c.args.at c.in-Some.part.now here) c.is_typed.ensures
