use Rattle.std.proofs.Common.{◌≡◌, ◌<◌, ◌^◌, ◌++◌, true, false, List, All, refl, sym, subst, arith}
use Rattle.std.specs.Prelude.{bytes_eq}
use Rattle.std.specs.List.{list_any}
use Rattle.std.proofs.lemmas.List.{append-nil}
use Rattle.std.proofs.lemmas.List.Elements.{All-nil}
use Rattle.program_tables.specs.link_program.name_rules.Entries.{InputSymbol, entries as all_entries, name_of}
use Rattle.program_tables.specs.link_program.name_rules.Meanings.{resolve}
use Rattle.program_tables.specs.link_program.name_meanings.Means.{IsResolution}
use Rattle.program_tables.specs.link_program.Program.{variant_names}
use Rattle.program_tables.specs.Loose.{IsLoose, variants_in}
use Rattle.loose_calls.specs.declared.variant.Variant.{Variant}
use Rattle.loose_calls.specs.Found.{AreCalls}
use Rattle.loose_calls.specs.Interned.{Interns}
use Rattle.loose_calls.proofs.Whole.{is_loose, names_behind, all_apart}
use Rattle.loose_calls.proofs.loosening.loosened.Goals as goal

pub calls_in-requires : goal.calls_in-requires
calls_in-requires g c =
    let fits = c.view.ensures.fits c.args.mode c.requires.0 c.requires.1.0 c.requires.1.1.0 in
    let meant = subst (λ os. IsResolution c.args.mode (all_entries c.args.mode os) c.args.resolution.now (resolve c.args.mode g.allow (all_entries c.args.mode os) os)) (sym c.view.ensures.objects) c.requires.1.1.1 in
    (fits, meant)

-- ---- none

pub returns-then-not-loose_calls-clause-loose : goal.returns-then-not-loose_calls-clause-loose
returns-then-not-loose_calls-clause-loose g c =
    subst (λ b. IsLoose c.args.mode b g.allow c.args.names.now.names c.args.resolution.now.imports c.args.objects.now c.none.result) (sym c.if-not-loose_calls.true)
    (c.none.ensures c.args.mode g.allow c.args.names.now.names c.args.resolution.now.imports c.args.objects.now)

pub returns-then-not-loose_calls-clause-names : goal.returns-then-not-loose_calls-clause-names
returns-then-not-loose_calls-clause-names g c =
    subst (λ b. c.args.names.now.names ≡ c.args.names.now.names ++ variant_names (variants_in c.args.mode b g.allow c.args.objects.now)) (sym c.if-not-loose_calls.true) (sym (append-nil c.args.names.now.names))

pub returns-then-not-loose_calls-clause-stays : goal.returns-then-not-loose_calls-clause-stays
returns-then-not-loose_calls-clause-stays g c = record { made = refl; symbols = refl; groups = refl }

pub returns-then-not-loose_calls-clause-few : goal.returns-then-not-loose_calls-clause-few
returns-then-not-loose_calls-clause-few g c = subst (λ n. n < 2 ^ 32) c.count.ensures (omega arith)

pub returns-then-not-loose_calls-clause-apart : goal.returns-then-not-loose_calls-clause-apart
returns-then-not-loose_calls-clause-apart g c =
    subst (λ b. All (λ (v : InputSymbol). list_any (bytes_eq (name_of v)) c.args.names.now.names ≡ false) (variants_in c.args.mode b g.allow c.args.objects.now)) (sym c.if-not-loose_calls.true)
    (All-nil (λ (v : InputSymbol). list_any (bytes_eq (name_of v)) c.args.names.now.names ≡ false))

-- ---- by what is found

pub returns-clause-loose : goal.returns-clause-loose
returns-clause-loose g c =
    let are : AreCalls c.args.mode g.allow c.args.objects.now c.in_ok-calls.calls = subst (λ os. AreCalls c.args.mode g.allow os c.in_ok-calls.calls) c.view.ensures.objects c.in_ok-calls.ensures in
    let interns : Interns c.args.names.now c.intern_all.new.names c.in_ok-calls.calls.variants c.in_ok-named.named =
    subst (λ (vs : List Variant). Interns c.args.names.now c.intern_all.new.names vs c.in_ok-named.named) c.as_slice.ensures c.in_ok-named.ensures in
    subst (λ b. IsLoose c.args.mode b g.allow c.intern_all.new.names.names c.args.resolution.now.imports c.args.objects.now (record { called = c.in_ok-calls.calls.called; symbols = c.in_ok-named.named.symbols; types = c.in_ok-named.named.types })) (sym c.if-not-loose_calls.false)
    (is_loose c.args.mode g.allow c.args.objects.now c.args.resolution.now.imports c.args.names.now c.intern_all.new.names c.in_ok-calls.calls c.in_ok-named.named are interns)

pub returns-clause-names : goal.returns-clause-names
returns-clause-names g c =
    let are : AreCalls c.args.mode g.allow c.args.objects.now c.in_ok-calls.calls = subst (λ os. AreCalls c.args.mode g.allow os c.in_ok-calls.calls) c.view.ensures.objects c.in_ok-calls.ensures in
    let interns : Interns c.args.names.now c.intern_all.new.names c.in_ok-calls.calls.variants c.in_ok-named.named =
    subst (λ (vs : List Variant). Interns c.args.names.now c.intern_all.new.names vs c.in_ok-named.named) c.as_slice.ensures c.in_ok-named.ensures in
    subst (λ b. c.intern_all.new.names.names ≡ c.args.names.now.names ++ variant_names (variants_in c.args.mode b g.allow c.args.objects.now)) (sym c.if-not-loose_calls.false)
    (names_behind c.args.mode g.allow c.args.objects.now c.args.resolution.now.imports c.args.names.now c.intern_all.new.names c.in_ok-calls.calls c.in_ok-named.named are interns)

pub returns-clause-apart : goal.returns-clause-apart
returns-clause-apart g c =
    let are : AreCalls c.args.mode g.allow c.args.objects.now c.in_ok-calls.calls = subst (λ os. AreCalls c.args.mode g.allow os c.in_ok-calls.calls) c.view.ensures.objects c.in_ok-calls.ensures in
    let interns : Interns c.args.names.now c.intern_all.new.names c.in_ok-calls.calls.variants c.in_ok-named.named =
    subst (λ (vs : List Variant). Interns c.args.names.now c.intern_all.new.names vs c.in_ok-named.named) c.as_slice.ensures c.in_ok-named.ensures in
    subst (λ b. All (λ (v : InputSymbol). list_any (bytes_eq (name_of v)) c.args.names.now.names ≡ false) (variants_in c.args.mode b g.allow c.args.objects.now)) (sym c.if-not-loose_calls.false)
    (all_apart c.args.mode g.allow c.args.objects.now c.args.resolution.now.imports c.args.names.now c.intern_all.new.names c.in_ok-calls.calls c.in_ok-named.named are interns)

pub returns-clause-stays : goal.returns-clause-stays
returns-clause-stays g c = c.in_ok-named.ensures.stays

pub returns-clause-few : goal.returns-clause-few
returns-clause-few g c = c.in_ok-named.ensures.few
