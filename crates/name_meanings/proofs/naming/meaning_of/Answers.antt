use Rattle.std.proofs.Common.{◌<◌, sym, subst}
use Rattle.name_entries.specs.View.{entry_at}
use Rattle.name_meanings.specs.Columns.{empty_column}
use Rattle.name_meanings.proofs.naming.meaning_of.Goals as goal
use Rattle.name_meanings.proofs.Noted.{shown_below}
use Rattle.name_meanings.proofs.Finding.{finds_itself, finds_definition, source_has_import, source_is_own, finds_import, finds_lacking}

pub returns-in_default-number : goal.returns-in_default-number
returns-in_default-number c =
    finds_itself c.args.known c.args.found.now c.args.object c.args.place c.in-Some.entry c.itself.result c.requires.known c.requires.found c.in-Some.ensures c.in_default-number.is c.itself.ensures

pub returns-in-Some-of : goal.returns-in-Some-of
returns-in-Some-of c =
    finds_definition c.args.known c.args.found.now c.args.object c.args.place c.in-Some-number.name c.in-Some-of.rank c.in-Some.entry c.definition.result c.requires.known c.requires.found
    c.in-Some.ensures c.in-Some-number.is (sym c.in-Some-of.ensures) c.definition.ensures

pub bounds-known-name : goal.bounds-known-name
bounds-known-name c =
    subst (λ m. c.in-Some-number.name < m) (sym c.requires.known.columns.count)
    (shown_below c.args.known.entries.names.now.names c.in-Some.entry (entry_at c.args.known.entries.objects.now c.args.object c.args.place) c.in-Some-number.name c.in-Some.ensures c.in-Some-number.is)

pub number-requires-clause-name : goal.number-requires-clause-name
number-requires-clause-name c =
    subst (λ m. c.in-Some-number.name < m) (sym c.requires.known.columns.count)
    (shown_below c.args.known.entries.names.now.names c.in-Some.entry (entry_at c.args.known.entries.objects.now c.args.object c.args.place) c.in-Some-number.name c.in-Some.ensures c.in-Some-number.is)

pub number-requires-clause-stands : goal.number-requires-clause-stands
number-requires-clause-stands c =
    source_has_import c.args.known c.args.object c.args.place c.in-Some-number.name c.in-Some.entry c.uses_at-uses.result c.in-Some-source.at c.requires.known c.in-Some.ensures c.in-Some-number.is
    (sym c.in_default-of.ensures) c.uses_at-uses.ensures (record { may = c.may_stand.result; tells = c.may_stand.ensures; is = c.in-Some-source.ensures })

pub number-requires-clause-own : goal.number-requires-clause-own
number-requires-clause-own c =
    source_is_own c.args.known c.in-Some-number.name c.in-Some.entry c.uses_at-uses.result c.in-Some-source.at (record { may = c.may_stand.result; tells = c.may_stand.ensures; is = c.in-Some-source.ensures })

pub returns-in_ok-number-in-Some-source : goal.returns-in_ok-number-in-Some-source
returns-in_ok-number-in-Some-source c =
    finds_import c.args.known c.args.found.now c.number.new.self c.args.object c.args.place c.in-Some-number.name c.in_ok-number-in-Some-source.field-0 c.in-Some.entry c.uses_at-uses.result c.in-Some-source.at
    c.requires.known c.in-Some.ensures c.in-Some-number.is (sym c.in_default-of.ensures) c.uses_at-uses.ensures
    (record { may = c.may_stand.result; tells = c.may_stand.ensures; is = c.in-Some-source.ensures }) c.in_ok-number-in-Some-source.ensures

pub lacking-requires-clause-name : goal.lacking-requires-clause-name
lacking-requires-clause-name c =
    shown_below c.args.known.entries.names.now.names c.in-Some.entry (entry_at c.args.known.entries.objects.now c.args.object c.args.place) c.in-Some-number.name c.in-Some.ensures c.in-Some-number.is

pub returns-in_ok-told-in-None : goal.returns-in_ok-told-in-None
returns-in_ok-told-in-None c =
    finds_lacking c.args.known c.args.found.now c.lacking.new.found c.args.object c.args.place c.in-Some-number.name c.in-Some.entry c.uses_at-uses.result c.in_ok-told-in-None.told
    c.requires.known c.in-Some.ensures c.in-Some-number.is (sym c.in_default-of.ensures) c.uses_at-uses.ensures
    (record { may = c.may_stand.result; tells = c.may_stand.ensures; is = c.in-None.ensures }) c.in_ok-told-in-None.ensures
