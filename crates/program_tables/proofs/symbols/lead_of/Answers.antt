use Rattle.std.proofs.Common.{get_or, sym, ap, subst, ◌∙◌, ◌≡◌, ℕ}
use Rattle.std.specs.Prelude.{slice_get, IsSome}
use Rattle.std.proofs.lemmas.Option.{slice_get_within, get_or_from_slice_get}
use Rattle.link_program.specs.name_entries.View.{entry_at}
use Rattle.link_program.specs.declared.symbol.Lead.TheVariants.{Here}
use Rattle.program_tables.specs.Leads.{IsThere, lead_from}
use Rattle.program_tables.proofs.Defining.{lead_is}
use Rattle.program_tables.proofs.symbols.lead_of.Goals as goal

pub bounds-places-input : goal.bounds-places-input
bounds-places-input c =
    let there = subst (IsThere c.args.mode c.args.entries.objects.now) c.in-Here.is c.requires.there in
    slice_get_within c.args.places.now c.in-Here.input there.0
    (ap (slice_get c.args.places.now) (sym there.3) ∙ c.requires.places there.0 there.1 there.2)

pub definition_at-requires-clause-there : goal.definition_at-requires-clause-there
definition_at-requires-clause-there c =
    let there = subst (IsThere c.args.mode c.args.entries.objects.now) c.in-Here.is c.requires.there in
    let place : get_or c.args.places.now c.in-Here.input 0 ≡ there.0 =
    get_or_from_slice_get c.args.places.now c.in-Here.input there.0 0 (ap (slice_get c.args.places.now) (sym there.3) ∙ c.requires.places there.0 there.1 there.2) in
    subst (λ (i : ℕ). IsSome (entry_at c.args.entries.objects.now i c.in-Here.symbol)) (sym place) there.4

pub returns-in-Here : goal.returns-in-Here
returns-in-Here c =
    let objects = c.args.entries.objects.now in
    let there = subst (IsThere c.args.mode objects) c.in-Here.is c.requires.there in
    let place : get_or c.args.places.now c.in-Here.input 0 ≡ there.0 =
    get_or_from_slice_get c.args.places.now c.in-Here.input there.0 0 (ap (slice_get c.args.places.now) (sym there.3) ∙ c.requires.places there.0 there.1 there.2) in
    ap Here (lead_is objects c.in-Here.input c.in-Here.symbol there.0 there.1 c.definition_at.result c.requires.fits.inputs there.2 there.3 there.4
    (λ e at. c.definition_at.ensures e (ap (λ i. entry_at objects i c.in-Here.symbol) place ∙ at)))
    ∙ ap (lead_from c.args.mode objects) (sym c.in-Here.is)
