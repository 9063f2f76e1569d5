use Rattle.std.proofs.Common.{subst, sym, ◌<◌}
use Rattle.name_entries.specs.View.{entry_at}
use Rattle.name_meanings.proofs.columns.note_symbol.Goals as goal
use Rattle.name_meanings.proofs.Noted.{skip_unnumbered, skip_defined, shown_below, noted}

pub returns-in_default-number : goal.returns-in_default-number
returns-in_default-number c =
    skip_unnumbered c.args.entries.names.now.names c.args.entries.objects.now c.in-Some.entry (entry_at c.args.entries.objects.now c.args.object c.args.place) c.args.columns.now
    c.in-Some.ensures c.in_default-number.is

pub returns-then-entry : goal.returns-then-entry
returns-then-entry c =
    skip_defined c.args.entries.names.now.names c.args.entries.objects.now c.in-Some.entry (entry_at c.args.entries.objects.now c.args.object c.args.place) c.args.columns.now
    c.in-Some.ensures c.if-entry.true

pub bounds-columns-number : goal.bounds-columns-number
bounds-columns-number c =
    subst (λ m. c.in-Some-number.number < m) (sym c.requires.count)
    (shown_below c.args.entries.names.now.names c.in-Some.entry (entry_at c.args.entries.objects.now c.args.object c.args.place) c.in-Some-number.number c.in-Some.ensures c.in-Some-number.is)

pub returns : goal.returns
returns c =
    noted c.args.entries.names.now.names c.args.entries.objects.now c.in-Some.entry c.args.object c.args.place c.in-Some-number.number c.is_imported-stands.result
    c.args.columns.now c.with.result c.in-Some.ensures c.in-Some-number.is c.if-entry.false c.is_imported-stands.ensures
    c.with.ensures.explicit c.with.ensures.least c.with.ensures.strong
