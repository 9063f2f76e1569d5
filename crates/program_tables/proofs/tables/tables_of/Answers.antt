use Rattle.std.proofs.Common.{List, ℕ, map, Some, ◌≡◌, ◌++◌, subst, sym, refl, ap, ◌∙◌, rules}
use Rattle.program_tables.specs.Symbols.{symbols_of as all_symbols}
use Rattle.link_program.specs.name_rules.Entries.{entries}
use Rattle.link_program.specs.name_rules.Meanings.{resolve}
use Rattle.link_program.specs.name_entries.View.{WinnersAre}
use Rattle.link_program.specs.name_entries.Fits.{Fits}
use Rattle.link_program.specs.name_meanings.Means.{IsResolution}
use Rattle.std.specs.Prelude.{slice_get}
use Rattle.link_program.specs.Loaded.{IsLoaded}
use Rattle.program_tables.specs.declared.loose.Loose.{Loose}
use Rattle.program_tables.specs.Loose.{IsLoose}
use Rattle.link_program.specs.declared.program.Tables.{Tables}
use Rattle.program_tables.specs.declared.symbols.Sources.{Sources}
use Rattle.program_tables.specs.declared.view.Lookups.{Lookups}
use Rattle.program_tables.specs.Objects.{ArePlaces}
use Rattle.program_tables.specs.Types.{AreTyped}
use Rattle.program_tables.proofs.Answered.{are_answered}
use Rattle.program_tables.proofs.Together.{tables_are}
use Rattle.program_tables.proofs.tables.tables_of.Goals as goal

pub all_symbols-requires : goal.all_symbols-requires
all_symbols-requires g c =
    let fits : Fits c.args.mode c.args.entries = search rules in
    let meant : IsResolution c.args.mode (entries c.args.mode c.args.entries.objects.now) c.args.resolution.now (resolve c.args.mode g.origin.plan.allow_undefined (entries c.args.mode c.args.entries.objects.now) c.args.entries.objects.now) = search rules in
    record {
      fits = fits.objects;
      places = subst (ArePlaces c.args.entries.objects.now) (sym c.as_slice.ensures) c.in_ok-places.ensures;
      answers = are_answered c.args.mode c.args.entries.objects.now g.origin.plan.allow_undefined c.args.resolution.now fits.objects.inputs meant;
    }

pub returns : goal.returns
returns g c =
    let fits : Fits c.args.mode c.args.entries = search rules in
    let meant : IsResolution c.args.mode (entries c.args.mode c.args.entries.objects.now) c.args.resolution.now (resolve c.args.mode g.origin.plan.allow_undefined (entries c.args.mode c.args.entries.objects.now) c.args.entries.objects.now) = search rules in
    let ranked : WinnersAre c.args.entries.names.now.names (entries c.args.mode c.args.entries.objects.now) c.args.ranks.now = search rules in
    let loaded : IsLoaded g.origin.files g.origin.all c.args.entries.objects.now c.args.homes.now = search rules in
    let lo : Loose = c.args.loose.now in
    let loose : IsLoose c.args.mode g.origin.plan.loose_calls g.origin.plan.allow_undefined c.args.entries.names.now.names c.args.resolution.now.imports c.args.entries.objects.now lo = search rules in
    let objects = c.args.entries.objects.now in
    let s : Sources = record { entries = c.args.entries; mode = c.args.mode; resolution = c.args.resolution; places = c.as_slice.result } in
    let l : Lookups = record { entries = c.args.entries; firsts = c.as_slice-4.result; types = c.numbers.result; homes = c.args.homes; called = c.as_slice-5.result } in
    let t : Tables = record {
      symbols = c.in_ok-symbols.field-0.symbols;
      winners = c.in_ok-winners.winners;
      parts = c.in_ok-parts.field-0.parts;
      named = c.in_ok-parts.field-0.named;
      types = c.in_ok-kinds.kinds.types;
      chunks = c.in_ok-parts.field-0.chunks;
      variants = c.in_ok-kinds.kinds.variants;
    } in
    tables_are s g.origin c.args.ranks.now lo l t
    (record {
      lookups = record {
        entries = refl;
        rise = fits.objects.inputs;
        meant = meant;
        parts = fits.objects.parts;
        firsts = c.as_slice-4.ensures ∙ c.in_ok-symbols.ensures.firsts;
        typed = subst (λ (n : List (List ℕ)). AreTyped t.types n objects) (sym c.numbers.ensures) c.in_ok-kinds.ensures.typed;
        homes = loaded.homes;
        numbered = loaded.numbered;
        loose = loose;
        called = c.as_slice-5.ensures;
      };
      ranked = record { numbers = fits.numbers; rise = fits.objects.inputs; winners = ranked };
      symbols = c.in_ok-symbols.ensures.symbols ∙ ap (λ l. all_symbols s ++ l) c.as_slice-2.ensures;
      few_symbols = c.in_ok-symbols.ensures.few;
      winners = c.in_ok-winners.ensures;
      parts = c.in_ok-parts.ensures.parts.parts;
      named = c.in_ok-parts.ensures.parts.named;
      chunks = c.in_ok-parts.ensures.parts.chunks;
      differ = c.in_ok-parts.ensures.differ;
      few_parts = c.in_ok-parts.ensures.few;
      variants = subst (λ ts. map (slice_get t.types) t.variants ≡ map Some ts) c.as_slice-3.ensures c.in_ok-kinds.ensures.variants;
    })
