use Rattle.std.proofs.Common.{◌≡◌, ℕ, List, [], ◌∷◌, ◌++◌, Some, subst}
use Rattle.std.specs.List.{flat_map}
use Rattle.std.proofs.lemmas.Option.{same_Some}
use Rattle.wl_outside.specs.Sink.{Wrote}
use Rattle.link_lines.specs.Pieces.{joined}
use Rattle.link_command.specs.mismatch_rules.declared.mismatch.Mismatch.{Mismatch}
use Rattle.driver_lines.specs.Mismatch.{first_and_rest}
use Rattle.driver_lines.proofs.Parts.{both, last, stops, stops_first, later}
use Rattle.driver_command.specs.Mismatched.{line_of, next_lines, told_lines}
use Rattle.driver_command.proofs.mismatches.say_named.Goals as goal

-- the lines of the first and the others
whole : (program word : List ℕ) (inputs : List (List ℕ)) (told : List Mismatch) (end : List ℕ) (m : Mismatch) (ms : List Mismatch) → Some (m, ms) ≡ first_and_rest told
    → line_of program word inputs m ++ (flat_map (next_lines program word inputs) ms ++ joined (end ∷ [])) ≡ told_lines program word inputs told end
whole program word inputs [] end m ms is = absurd cc
whole program word inputs (x ∷ xs) end m ms is =
    let same : (m, ms) ≡ (x, xs) = same_Some (m, ms) (x, xs) is in
    λ i. line_of program word inputs (same i).0 ++ (flat_map (next_lines program word inputs) (same i).1 ++ joined (end ∷ []))

pub returns-in_err-say_one : goal.returns-in_err-say_one
returns-in_err-say_one g c =
    let old = g.E.Sink.told c.args.say.now in
    let new = g.E.Sink.told c.say_one.new.say in
    let program = c.args.program.now in
    let word = c.args.word.now in
    let inputs = c.args.inputs.now in
    let rest = flat_map (next_lines program word inputs) c.in-Some.rest.now in
    subst (λ l. Wrote c.from_residual.result l old new) (whole program word inputs c.args.told.now c.args.end.now c.in-Some.first.now c.in-Some.rest.now c.in-Some.ensures)
    (stops_first (line_of program word inputs c.in-Some.first.now) (rest ++ joined (c.args.end.now ∷ [])) c.from_residual.result old new c.from_residual.ensures.0 c.in_err-say_one.ensures)

pub returns-in_err-say_more : goal.returns-in_err-say_more
returns-in_err-say_more g c =
    let old = g.E.Sink.told c.args.say.now in
    let mid = g.E.Sink.told c.say_one.new.say in
    let new = g.E.Sink.told c.say_more.new.say in
    let program = c.args.program.now in
    let word = c.args.word.now in
    let inputs = c.args.inputs.now in
    let rest = flat_map (next_lines program word inputs) c.in-Some.rest.now in
    let r = c.from_residual-in_err-say_more.result in
    subst (λ l. Wrote r l old new) (whole program word inputs c.args.told.now c.args.end.now c.in-Some.first.now c.in-Some.rest.now c.in-Some.ensures)
    (stops (line_of program word inputs c.in-Some.first.now) rest (joined (c.args.end.now ∷ [])) r old mid new c.from_residual-in_err-say_more.ensures.0 c.in_ok-say_one.ensures c.in_err-say_more.ensures)

pub returns : goal.returns
returns g c =
    let old = g.E.Sink.told c.args.say.now in
    let mid = g.E.Sink.told c.say_one.new.say in
    let next = g.E.Sink.told c.say_more.new.say in
    let new = g.E.Sink.told c.print.new.say in
    let program = c.args.program.now in
    let word = c.args.word.now in
    let inputs = c.args.inputs.now in
    let first = line_of program word inputs c.in-Some.first.now in
    let rest = flat_map (next_lines program word inputs) c.in-Some.rest.now in
    let end = joined (c.args.end.now ∷ []) in
    subst (λ l. Wrote c.print.result l old new) (whole program word inputs c.args.told.now c.args.end.now c.in-Some.first.now c.in-Some.rest.now c.in-Some.ensures)
    (later first rest end c.print.result old new (last (first ++ rest) end c.print.result old next new (both first rest old mid next c.in_ok-say_one.ensures c.in_ok-say_more.ensures) c.print.ensures))
