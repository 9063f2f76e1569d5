use Rattle.std.proofs.Common.{◌∙◌, ap, subst, sym}
use Rattle.std.proofs.lemmas.List.Elements.{All-contains}
use Rattle.link_program.specs.name_entries.View.{InputsRise}
use Rattle.link_marks.specs.Names.{name_seen}
use Rattle.link_marks.proofs.Held.{HeldOf}
use Rattle.link_marks.proofs.Winning.{winner_names_held, name_is, winner_number}
use Rattle.link_marks.proofs.exported.export_name.Goals as goal

pub name_seen-requires-clause-inputs : goal.name_seen-requires-clause-inputs
name_seen-requires-clause-inputs g c = subst (InputsRise 0) (sym c.requires.0.1.objects) c.requires.0.1.rise

pub name_seen-requires-clause-name : goal.name_seen-requires-clause-name
name_seen-requires-clause-name g c =
    winner_number c.args.program.names.now.names g.p.winners c.args.winner.now (winner_names_held c.requires.0.0 c.args.program g.p c.requires.0.1) c.requires.1

pub returns : goal.returns
returns g c = λ e among told.
    c.name_seen.ensures ∙ ap (name_seen c.args.program.objects.now c.args.program.names.now.names) told
    ∙ name_is c.requires.0.0 c.args.program g.p c.requires.0.1 e (All-contains (HeldOf c.args.program.names.now.names) g.p.winners e (winner_names_held c.requires.0.0 c.args.program g.p c.requires.0.1) among)
