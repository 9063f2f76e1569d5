-- What the answers of a resolution lead to.
use Rattle.std.proofs.Common.{◌≡◌, ℕ, zero, suc, ◌+◌, ◌<◌, ◌∙◌, Bool, List, [], ◌∷◌, refl, ap, sym, subst, arith, Option, Some, None, length, inl, inr}
use Rattle.std.specs.Prelude.{slice_get, flat_map, map, filter_map, option_map, unwrap_or, is_some}
use Rattle.std.specs.List.{AllZip}
use Rattle.std.proofs.lemmas.List.{length-map}
use Rattle.std.proofs.lemmas.Option.{same_Some, slice_get_within, slice_get-map}
use Rattle.link_program.specs.linking_section.declared.symbol.Symbol.{Symbol as SymbolOf}
use Rattle.link_program.specs.object_file.declared.object.Object.{Object}
use Rattle.link_program.specs.made_symbols.declared.mode.Mode.{Mode}
use Rattle.link_program.specs.made_symbols.Made.{made, made_at}
use Rattle.link_program.specs.name_rules.declared.meaning.Meaning.{Meaning as Answer}
use Rattle.link_program.specs.name_rules.declared.meaning.Meaning.TheVariants.{Here, Made, Import, Null, Nothing}
use Rattle.link_program.specs.name_rules.Entries.{InputSymbol, ImportKey, symbols_of, entry_in, entries_from, entries, made_entry}
use Rattle.link_program.specs.name_rules.Meanings.{Meaning, here, imported, null, nothing, Resolved, resolve, resolved_in, meaning, uses_of}
use Rattle.link_program.specs.name_rules.Further.{further_imports}
use Rattle.link_program.specs.name_entries.View.{InputsRise, entry_at}
use Rattle.link_program.proofs.name_entries_lemmas.Found.{mapped}
use Rattle.link_program.proofs.name_entries_lemmas.Rows.{no_entry}
use Rattle.link_program.specs.name_meanings.Means.{Means, Answers, row_of, answer_at, IsResolution, import_meant, imports_meant}
use Rattle.link_program.specs.declared.symbol.Symbol.{Symbol}
use Rattle.link_program.specs.declared.symbol.Lead.TheVariants as leads
use Rattle.link_program.specs.Told.{told_definition, told_lead, told_symbol, told_all, told_symbols}
use Rattle.program_tables.specs.Objects.{symbol_of}
use Rattle.program_tables.specs.Leads.{no_definition, lead_from, IsThere, AreAnswered}
use Rattle.program_tables.specs.declared.symbols.Sources.{Sources}
use Rattle.program_tables.specs.Symbols.{symbols_of as all_symbols, symbol_of as source_symbol}
use Rattle.program_tables.proofs.Lists.{Each, each_from, each_at, zip_at}
use Rattle.program_tables.proofs.There.{row_at, OfObject, Stands, MeansThere, object_stands, meaning_stands, found_there, no_input, linker_input}
use Rattle.program_tables.proofs.Imports.{Differ, all_differ, differ_onto, number_is}

-- ---- one answer

-- An answer is there, and leads where the meaning does.
pub record LeadsTo (mode : Mode) (objects : List Object) (imports : List ImportKey) (answer : Answer) (m : Meaning) : Type 0 where
  pub lead : lead_from mode objects answer ≡ told_lead imports m
  pub there : IsThere mode objects answer

here_leads : (mode : Mode) (objects : List Object) (imports : List ImportKey) (input place : ℕ) (d : InputSymbol) → InputsRise 0 objects → d.input ≡ input → d.place ≡ place → 0 < input → Stands mode objects d
    → LeadsTo mode objects imports (Here input place) (here d)
here_leads mode objects imports input place d rise is_input is_place some (inl a) = let none = linker_input mode d a in absurd (omega arith)
here_leads mode objects imports input place d rise is_input is_place some (inr a) =
    let found : symbol_of objects input place ≡ Some d =
    ap (λ n. symbol_of objects n place) (sym is_input) ∙ ap (symbol_of objects d.input) (sym is_place) ∙ found_there objects d rise a in
    record {
      lead = ap (λ o. leads.Here (unwrap_or (option_map told_definition o) no_definition)) found;
      there = (a.place, a.object, a.at, sym a.input ∙ is_input, ap is_some (ap (entry_at objects a.place) (sym is_place) ∙ a.there));
    }

made_leads : (mode : Mode) (objects : List Object) (imports : List ImportKey) (number : ℕ) (d : InputSymbol) → InputsRise 0 objects → d.input ≡ 0 → d.place ≡ number → Stands mode objects d
    → LeadsTo mode objects imports (Made number) (here d)
made_leads mode objects imports number d rise is_input is_place (inr a) = let some = no_input objects d rise a in absurd (omega arith)
made_leads mode objects imports number d rise is_input is_place (inl a) =
    record {
      lead = ap (λ n. leads.Here (told_definition (made_entry n (made_at mode n)))) (sym is_place) ∙ ap (λ e. leads.Here (told_definition e)) (sym a.is);
      there = subst (λ n. n < length (made mode)) is_place a.below;
    }

leads_to : (mode : Mode) (objects : List Object) (imports : List ImportKey) (answer : Answer) (m : Meaning) → InputsRise 0 objects → Differ imports
    → Means imports answer m → MeansThere mode objects m → LeadsTo mode objects imports answer m
leads_to mode objects imports (Here input place) (here d) rise differ means stands = here_leads mode objects imports input place d rise means.0 means.1 means.2 stands
leads_to mode objects imports (Made number) (here d) rise differ means stands = made_leads mode objects imports number d rise means.0 means.1 stands
leads_to mode objects imports (Import number) (imported key) rise differ means stands =
    record {
      lead = ap leads.Import (sym (number_is imports number key differ means));
      there = tt;
    }
leads_to mode objects imports Null null rise differ means stands = record { lead = refl; there = tt }
leads_to mode objects imports Nothing nothing rise differ means stands = record { lead = refl; there = tt }
leads_to mode objects imports (Here i s) (imported key) rise differ means stands = absurd means
leads_to mode objects imports (Here i s) null rise differ means stands = absurd means
leads_to mode objects imports (Here i s) nothing rise differ means stands = absurd means
leads_to mode objects imports (Made k) (imported key) rise differ means stands = absurd means
leads_to mode objects imports (Made k) null rise differ means stands = absurd means
leads_to mode objects imports (Made k) nothing rise differ means stands = absurd means
leads_to mode objects imports (Import n) (here e) rise differ means stands = absurd means
leads_to mode objects imports (Import n) null rise differ means stands = absurd means
leads_to mode objects imports (Import n) nothing rise differ means stands = absurd means
leads_to mode objects imports Null (here e) rise differ means stands = absurd means
leads_to mode objects imports Null (imported key) rise differ means stands = absurd means
leads_to mode objects imports Null nothing rise differ means stands = absurd means
leads_to mode objects imports Nothing (here e) rise differ means stands = absurd means
leads_to mode objects imports Nothing (imported key) rise differ means stands = absurd means
leads_to mode objects imports Nothing null rise differ means stands = absurd means

-- ---- the answers of all symbols

abbrev pub meant : Mode → List Object → Bool → InputSymbol → Meaning
meant mode objects allow e = meaning mode (uses_of mode objects) allow (entries mode objects) e

abbrev pub resolved_of : Mode → List Object → Bool → Object → Resolved
resolved_of mode objects allow o = resolved_in mode (uses_of mode objects) allow (entries mode objects) objects o

abbrev pub IsMeant : Mode → List Object → Bool → Answers → Type 0
IsMeant mode objects allow r = IsResolution mode (entries mode objects) r (resolve mode allow (entries mode objects) objects)

row_means : (mode : Mode) (objects : List Object) (allow : Bool) (r : Answers) (i : ℕ) (o : Object) → IsMeant mode objects allow r → slice_get objects i ≡ Some o
    → AllZip (Means r.imports) (row_of r.rows o.input) (map (meant mode objects allow) (symbols_of objects o))
unfolding resolve
row_means mode objects allow r i o is at =
    let within = slice_get_within objects i o at in
    let counted : length (map (resolved_of mode objects allow) objects) ≡ length objects = length-map objects (resolved_of mode objects allow) in
    let d = resolved_of mode objects allow o in
    subst (λ (x : Resolved). AllZip (Means r.imports) (row_of r.rows x.object.input) x.meanings) (mapped (resolved_of mode objects allow) objects i o d at)
    (is.meanings i d (omega arith))

each_place : (objects : List Object) (o : Object) (start : ℕ) (ss : List SymbolOf) (k : ℕ) (e : InputSymbol) → slice_get (entries_from objects o start ss) k ≡ Some e
    → (e.place ≡ start + k) × (e.input ≡ o.input)
each_place objects o start [] k e at = let lt = slice_get_within [] k e at in absurd (omega arith)
each_place objects o start (s ∷ ss) zero e at =
    let same : entry_in objects o start s ≡ e = same_Some (entry_in objects o start s) e at in
    let z : start ≡ start + 0 = omega arith in
    (ap (λ (x : InputSymbol). x.place) (sym same) ∙ z, ap (λ (x : InputSymbol). x.input) (sym same))
each_place objects o start (s ∷ ss) (suc k) e at =
    let rest = each_place objects o (start + 1) ss k e at in
    let z : start + 1 + k ≡ start + suc k = omega arith in
    (rest.0 ∙ z, rest.1)

placed : (objects : List Object) (o : Object) (k : ℕ) (e : InputSymbol) → slice_get (symbols_of objects o) k ≡ Some e → (e.place ≡ k) × (e.input ≡ o.input)
placed objects o k e there = let both = each_place objects o 0 o.symbols k e there in let z : 0 + k ≡ k = omega arith in (both.0 ∙ z, both.1)

-- What is answered for a symbol.
pub record Answered (mode : Mode) (objects : List Object) (r : Answers) (m : Meaning) (e : InputSymbol) : Type 0 where
  pub answer : Answer
  pub at : answer_at r e.input e.place ≡ Some answer
  pub leads : LeadsTo mode objects r.imports answer m

-- Imports are numbered that differ: those that symbols mean, and behind them what a shared output may import besides.
imports_differ : (mode : Mode) (objects : List Object) (allow : Bool) (r : Answers) → IsMeant mode objects allow r → Differ r.imports
imports_differ mode objects allow r is =
    let resolved = resolve mode allow (entries mode objects) objects in
    let metas = flat_map (λ (x : Resolved). x.meanings) resolved in
    subst Differ (sym is.imports) (differ_onto (imports_meant metas) (further_imports mode (entries mode objects) resolved) (all_differ (filter_map import_meant metas)))

pub symbol_answered : (mode : Mode) (objects : List Object) (allow : Bool) (r : Answers) (i k : ℕ) (o : Object) (e : InputSymbol) → InputsRise 0 objects → IsMeant mode objects allow r → slice_get objects i ≡ Some o
    → slice_get (symbols_of objects o) k ≡ Some e → Answered mode objects r (meant mode objects allow e) e
symbol_answered mode objects allow r i k o e rise is at there =
    let stands = each_at (OfObject objects) (symbols_of objects o) k e (object_stands objects i o at) there in
    let place : e.place ≡ k = (placed objects o k e there).0 in
    let input : e.input ≡ o.input = (placed objects o k e there).1 in
    let m_at : slice_get (map (meant mode objects allow) (symbols_of objects o)) k ≡ Some (meant mode objects allow e) =
    slice_get-map (meant mode objects allow) (symbols_of objects o) k ∙ ap (option_map (meant mode objects allow)) there in
    let found = zip_at (Means r.imports) (row_of r.rows o.input) (map (meant mode objects allow) (symbols_of objects o)) k (meant mode objects allow e) (row_means mode objects allow r i o is at) m_at in
    record {
      answer = found.0;
      at = ap (λ n. answer_at r n e.place) input ∙ ap (answer_at r o.input) place ∙ found.1;
      leads = leads_to mode objects r.imports found.0 (meant mode objects allow e) rise (imports_differ mode objects allow r is) found.2 (meaning_stands mode objects allow e stands);
    }

-- ---- together

pub are_answered : (mode : Mode) (objects : List Object) (allow : Bool) (r : Answers) → InputsRise 0 objects → IsMeant mode objects allow r → AreAnswered mode objects r
are_answered mode objects allow r rise is i k e at = by (slice_get objects i) refl
  where
    by : (o : Option Object) → slice_get objects i ≡ o → (answer : Answer) × (answer_at r e.input e.place ≡ Some answer) × IsThere mode objects answer
    by None none = absurd (let x = sym (no_entry objects i k none) ∙ at in let y : None ≡ Some e = x in cc)
    by (Some o) there =
        let a = symbol_answered mode objects allow r i k o e rise is there (ap (λ l. slice_get l k) (sym (row_at objects i o there)) ∙ at) in
        (a.answer, a.at, a.leads.there)

told_row : (names : List (List ℕ)) (imports : List ImportKey) (m : InputSymbol → Meaning) (f : InputSymbol → Symbol) (es : List InputSymbol) → Each (λ e. f e ≡ told_symbol names imports e (m e)) es
    → map f es ≡ told_all names imports es (map m es)
told_row names imports m f [] all = refl
told_row names imports m f (e ∷ es) all = rw (all.0, told_row names imports m f es all.1) refl

told_rows : (s : Sources) (allow : Bool) (os : List Object) (i : ℕ) → InputsRise 0 s.entries.objects.now → IsMeant s.mode s.entries.objects.now allow s.resolution.now
    → ((j : ℕ) → slice_get os j ≡ slice_get s.entries.objects.now (i + j))
    → flat_map (λ row. map (source_symbol s) row) (map (symbols_of s.entries.objects.now) os)
    ≡ told_symbols s.entries.names.now.names s.resolution.now.imports (map (resolved_of s.mode s.entries.objects.now allow) os)
told_rows s allow [] i rise is same = refl
told_rows s allow (o ∷ os) i rise is same =
    let mode = s.mode in
    let objects = s.entries.objects.now in
    let e : i + 0 ≡ i = omega arith in
    let first : slice_get objects i ≡ Some o = ap (slice_get objects) (sym e) ∙ sym (same zero) in
    let each = each_from (λ x. source_symbol s x ≡ told_symbol s.entries.names.now.names s.resolution.now.imports x (meant mode objects allow x)) (symbols_of objects o)
    (λ k x there. let a = symbol_answered mode objects allow s.resolution.now i k o x rise is first there in
    rw (a.at, a.leads.lead) refl) in
    rw (
      told_row s.entries.names.now.names s.resolution.now.imports (meant mode objects allow) (source_symbol s) (symbols_of objects o) each,
      told_rows s allow os (i + 1) rise is (λ j. let f : i + suc j ≡ i + 1 + j = omega arith in same (suc j) ∙ ap (slice_get objects) f),
    ) refl

pub symbols_told : (s : Sources) (allow : Bool) → InputsRise 0 s.entries.objects.now → IsMeant s.mode s.entries.objects.now allow s.resolution.now
    → all_symbols s ≡ told_symbols s.entries.names.now.names s.resolution.now.imports (resolve s.mode allow (entries s.mode s.entries.objects.now) s.entries.objects.now)
unfolding resolve
symbols_told s allow rise is =
    told_rows s allow s.entries.objects.now 0 rise is (λ j. let e : j ≡ 0 + j = omega arith in ap (slice_get s.entries.objects.now) e)
