-- To which definition the answer for a symbol leads.
use Rattle.std.proofs.Common.{◌≡◌, ℕ, ◌<◌, Bool, true, List, refl, sym, ap, ◌∙◌, arith, subst, inl, inr, Option, Some, None}
use Rattle.std.specs.Prelude.{slice_get, option_map, unwrap_or, is_some, IsSome}
use Rattle.std.proofs.lemmas.Option.{same_Some}
use Rattle.program_tables.specs.link_program.linking_section.declared.symbol.SymbolKind.{SymbolKind}
use Rattle.program_tables.specs.link_program.linking_section.declared.symbol.SymbolKind.TheVariants.{Function, Datum, GlobalVar, Section, Table}
use Rattle.program_tables.specs.link_program.object_file.declared.object.Object.{Object}
use Rattle.program_tables.specs.link_program.object_file.Spaces.{no_type}
use Rattle.program_tables.specs.link_program.made_symbols.declared.mode.Mode.{Mode}
use Rattle.program_tables.specs.link_program.made_symbols.Made.{MadeSymbol, made_at}
use Rattle.program_tables.specs.link_program.name_rules.declared.meaning.Meaning.{Meaning as Answer}
use Rattle.program_tables.specs.link_program.name_rules.declared.meaning.Meaning.TheVariants.{Here, Made, Import, Null, Nothing}
use Rattle.program_tables.specs.link_program.name_rules.Entries.{InputSymbol, ImportKey, SymbolType, entries, made_entry, made_type}
use Rattle.program_tables.specs.link_program.name_rules.Meanings.{Meaning, here}
use Rattle.program_tables.specs.link_program.name_entries.View.{InputsRise, entry_at}
use Rattle.program_tables.specs.link_program.name_meanings.Means.{Answers}
use Rattle.program_tables.specs.link_program.link_rules.Keys.{function_type_of}
use Rattle.program_tables.specs.link_program.declared.symbol.Definition.{Definition}
use Rattle.program_tables.specs.link_program.declared.symbol.Lead.{Lead}
use Rattle.program_tables.specs.link_program.declared.symbol.Lead.TheVariants as leads
use Rattle.program_tables.specs.link_program.Told.{told_definition, told_lead}
use Rattle.program_tables.specs.Objects.{symbol_of}
use Rattle.program_tables.specs.Leads.{no_definition, definition_of, made_definition, lead_from, IsThere}
use Rattle.program_tables.proofs.Defining.{an_entry, entry_is, object_at, placed_at}
use Rattle.program_tables.proofs.There.{OfObject, OfLinker, Stands, MeansThere, symbol_found, no_input, one_entry, meaning_stands}
use Rattle.program_tables.proofs.Answered.{Answered, IsMeant}
use Rattle.loose_calls.specs.Told.{meant, LeadsTo}

of_object : (objects : List Object) (i k : ℕ) (e : InputSymbol) → entry_at objects i k ≡ Some e → OfObject objects e
of_object objects i k e there =
    let (o, at) = object_at objects i k e there in
    let is = entry_is objects i k o e at there in
    record {
      place = i;
      object = o;
      at = at;
      input = ap (λ (x : InputSymbol). x.input) is.is;
      there = ap (entry_at objects i) (placed_at objects i k e there) ∙ there;
    }

definition_in : Lead → Definition
definition_in (leads.Here d) = d
definition_in (leads.Import n) = no_definition
definition_in leads.Null = no_definition
definition_in leads.Nothing = no_definition

-- ---- a definition of an object

here_leads : (mode : Mode) (objects : List Object) (input place : ℕ) (d : InputSymbol) → InputsRise 0 objects → Stands mode objects d → definition_of objects input place ≡ told_definition d
    → IsThere mode objects (Here input place) → LeadsTo objects (Here input place) d
here_leads mode objects input place d rise stands is (i, o, at, of, some) =
    let (x, found) = an_entry (entry_at objects i place) some in
    let there : symbol_of objects input place ≡ Some x = ap (λ n. symbol_of objects n place) (sym of) ∙ symbol_found objects i place o x rise at found in
    let same : told_definition x ≡ told_definition d = sym (ap (λ s. unwrap_or (option_map told_definition s) no_definition) there) ∙ is in
    let one : x ≡ d =
    one_entry mode objects x d rise (inr (of_object objects i place x found)) stands (ap (λ (t : Definition). t.input) same) (ap (λ (t : Definition). t.place) same) in
    let from = of_object objects i place x found in
    let input_is : x.input ≡ input = ap (λ (y : InputSymbol). y.input) (entry_is objects i place o x at found).is ∙ of in
    (ap (λ (y : InputSymbol). y.input) (sym one) ∙ input_is, there ∙ ap Some one)

-- ---- a definition of the linker

made_of : (place : ℕ) (m : MadeSymbol) (kind : SymbolKind) → function_type_of (made_type m kind) ≡ no_type
made_of place m Function = refl
made_of place m Datum = refl
made_of place m GlobalVar = refl
made_of place m Section = refl
made_of place m Table = refl

made_leads : (mode : Mode) (objects : List Object) (number : ℕ) (d : InputSymbol) → InputsRise 0 objects → Stands mode objects d → made_definition mode number ≡ told_definition d → LeadsTo objects (Made number) d
made_leads mode objects number d rise (inl a) is =
    let m : MadeSymbol = made_at mode d.place in
    (ap (λ (x : InputSymbol). x.input) a.is, ap (λ (x : InputSymbol). function_type_of x.type) a.is ∙ made_of d.place m m.kind)
made_leads mode objects number d rise (inr a) is =
    let some = no_input objects d rise a in
    let none : 0 ≡ d.input = ap (λ (t : Definition). t.input) is in
    absurd (omega (arith, some, none))

-- ---- an answer

leads_by : (mode : Mode) (objects : List Object) (imports : List ImportKey) (answer : Answer) (d : InputSymbol) → InputsRise 0 objects → Stands mode objects d
    → lead_from mode objects answer ≡ told_lead imports (here d) → IsThere mode objects answer → LeadsTo objects answer d
unfolding definition_in
leads_by mode objects imports (Here input place) d rise stands lead there = here_leads mode objects input place d rise stands (ap definition_in lead) there
leads_by mode objects imports (Made number) d rise stands lead there = made_leads mode objects number d rise stands (ap definition_in lead)
leads_by mode objects imports (Import number) d rise stands lead there = absurd cc
leads_by mode objects imports Null d rise stands lead there = absurd cc
leads_by mode objects imports Nothing d rise stands lead there = absurd cc

pub answer_leads : (mode : Mode) (objects : List Object) (allow : Bool) (r : Answers) (i k : ℕ) (e d : InputSymbol) (answer : Answer) → InputsRise 0 objects → entry_at objects i k ≡ Some e
    → (a : Answered mode objects r (meant mode allow objects e) e) → a.answer ≡ answer → meant mode allow objects e ≡ here d → LeadsTo objects answer d
answer_leads mode objects allow r i k e d answer rise at a is means =
    let stands : Stands mode objects d = subst (MeansThere mode objects) means (meaning_stands mode objects allow e (of_object objects i k e at)) in
    subst (λ x. LeadsTo objects x d) is (leads_by mode objects r.imports a.answer d rise stands (a.leads.lead ∙ ap (told_lead r.imports) means) a.leads.there)

-- ---- what is there

pub type_is : (objects : List Object) (input place object : ℕ) (t : SymbolType) (d : InputSymbol) → InputsRise 0 objects → ((o : Object) → slice_get objects object ≡ Some o → o.input ≡ input)
    → Some t ≡ option_map (λ (e : InputSymbol). e.type) (entry_at objects object place) → symbol_of objects input place ≡ Some d → t ≡ d.type
type_is objects input place object t d rise of is found = by (entry_at objects object place) refl is
  where
    by : (e : Option InputSymbol) → entry_at objects object place ≡ e → Some t ≡ option_map (λ (e : InputSymbol). e.type) e → t ≡ d.type
    by None none is = absurd cc
    by (Some e) at is =
        let (o, there) = object_at objects object place e at in
        let same : Some e ≡ Some d = sym (ap (λ n. symbol_of objects n place) (sym (of o there)) ∙ symbol_found objects object place o e rise there at) ∙ found in
        same_Some t e.type is ∙ ap (λ (x : InputSymbol). x.type) (same_Some e d same)
