use Rattle.std.proofs.Common.{arith, [], ◌<◌, take, length, sym, subst}
use Rattle.link_program.specs.made_symbols.Made.{made, made_at}
use Rattle.link_program.specs.link_rules.Program.{option_onto}
use Rattle.program_tables.specs.Rows.{made_row, made_rows}
use Rattle.program_tables.specs.Gains.{AreGained}
use Rattle.program_tables.proofs.Growing.{gained_more, made_step}
use Rattle.program_tables.proofs.pieces.Piece.of_made.Goals as goal

pub loop-number-preserved : goal.loop-number-preserved
loop-number-preserved c =
    let calls = c.args.calls.now in
    let n = c.loop-number.number in
    let within : n < length (made c.args.mode) = omega arith in
    subst (λ rows. AreGained rows c.add_made.new.self) (sym (made_step calls (made c.args.mode) n _ within))
    (gained_more (made_rows calls 0 (take n (made c.args.mode))) (option_onto (made_row calls n (made_at c.args.mode n).kind) []) c.loop-number.made c.add_made.new.self
    c.loop-number.invariant c.in_ok-add_made.ensures)
