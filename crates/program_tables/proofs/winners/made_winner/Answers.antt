use Rattle.std.proofs.Common.{Some, sym, ap, subst, ◌∙◌, ◌<◌, ℕ}
use Rattle.link_program.specs.wl_base.Choice.{given}
use Rattle.link_program.specs.made_symbols.Made.{made_at}
use Rattle.link_program.specs.name_rules.Entries.{made_entry}
use Rattle.link_program.specs.declared.symbol.Definition.{Definition}
use Rattle.link_program.specs.Told.{told_definition}
use Rattle.link_program.specs.symbol_race.Ranks.{rank_of}
use Rattle.program_tables.proofs.MadeOnes.{made_class}
use Rattle.program_tables.proofs.Defining.{made_number, wins_is}
use Rattle.program_tables.proofs.winners.made_winner.Goals as goal

pub rank-requires-clause-class : goal.rank-requires-clause-class
rank-requires-clause-class c = subst (λ (n : ℕ). n < 3) (sym c.class.ensures) (made_class c.args.mode c.args.number c.requires.below)

pub returns-then-not-is_rank : goal.returns-then-not-is_rank
returns-then-not-is_rank c =
    let n = c.args.entries.names.now in
    let number = made_number c.args.mode c.args.entries.objects.now n c.args.number c.in_ok-name.name c.requires.fits.numbers (sym c.made.ensures ∙ c.in_ok-name.was) in
    let won = wins_is n.names c.args.ranks.now (made_entry c.args.number (made_at c.args.mode c.args.number)) c.in_ok-name.name c.rank.result c.of.result c.is_rank.result number
    (c.rank.ensures ∙ ap (λ k. rank_of k 0 c.args.number) c.class.ensures) c.of.ensures c.is_rank.ensures in
    sym (won ∙ ap (λ b. given b (record { definition = told_definition (made_entry c.args.number (made_at c.args.mode c.args.number)); name = c.in_ok-name.name; flags = 4 })) c.if-not-is_rank.true)

pub returns : goal.returns
returns c =
    let n = c.args.entries.names.now in
    let number = made_number c.args.mode c.args.entries.objects.now n c.args.number c.in_ok-name.name c.requires.fits.numbers (sym c.made.ensures ∙ c.in_ok-name.was) in
    let won = wins_is n.names c.args.ranks.now (made_entry c.args.number (made_at c.args.mode c.args.number)) c.in_ok-name.name c.rank.result c.of.result c.is_rank.result number
    (c.rank.ensures ∙ ap (λ k. rank_of k 0 c.args.number) c.class.ensures) c.of.ensures c.is_rank.ensures in
    ap (λ (d : Definition). Some (record { definition = d; name = c.in_ok-name.name; flags = 4 })) c.made_definition.ensures
    ∙ sym (won ∙ ap (λ b. given b (record { definition = told_definition (made_entry c.args.number (made_at c.args.mode c.args.number)); name = c.in_ok-name.name; flags = 4 })) c.if-not-is_rank.false)
