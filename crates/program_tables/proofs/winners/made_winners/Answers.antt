use Rattle.std.proofs.Common.{arith, [], ap, sym, ◌∙◌}
use Rattle.link_program.specs.made_symbols.Made.{made}
use Rattle.link_program.specs.name_rules.Entries.{made_from}
use Rattle.program_tables.specs.Winners.{winner_of}
use Rattle.program_tables.proofs.Steps.{kept_more}
use Rattle.program_tables.proofs.MadeOnes.{made_row_at, made_count}
use Rattle.program_tables.proofs.winners.made_winners.Goals as goal

pub loop-number-preserved : goal.loop-number-preserved
loop-number-preserved c =
    let g = winner_of c.args.entries.names.now.names c.args.ranks.now in
    kept_more g (made_from 0 (made c.args.mode)) c.loop-number.number [] c.loop-number.winners _ c.made_winner.result (omega (arith, made_count c.args.mode)) c.loop-number.invariant
    (λ e at. c.made_winner.ensures ∙ ap g (sym (made_row_at c.args.mode c.loop-number.number e at))) c.in_ok-push_some.ensures
