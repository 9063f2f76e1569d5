-- The tables, from all rows.
use Rattle.std.proofs.Common.{◌≡◌, ℕ, ◌-◌, ◌<◌, ◌^◌, ◌∙◌, Bool, true, false, List, [], ◌∷◌, ◌++◌, refl, ap, sym, subst, Option, Some, length}
use Rattle.std.specs.Prelude.{map, slice_get}
use Rattle.std.specs.List.{AllZip, All}
use Rattle.std.proofs.lemmas.List.{length-map}
use Rattle.link_program.specs.wasm_types.declared.function.FuncType.{FuncType}
use Rattle.link_program.specs.mark_bits.Chunks.{Differ}
use Rattle.link_program.specs.name_rules.Entries.{InputSymbol, ImportKey, entries}
use Rattle.link_program.specs.name_rules.Meanings.{resolve}
use Rattle.link_program.specs.link_rules.Program as rules
use Rattle.link_program.specs.link_rules.Program.{program_of, parts_of, a_symbol, a_type, loose_named, loose_part, loose_parts}
use Rattle.link_program.specs.declared.symbol.Symbol.{Symbol}
use Rattle.link_program.specs.declared.named.Named.{Named}
use Rattle.link_program.specs.declared.program.Tables.{Tables}
use Rattle.link_program.specs.Seen.{seen_named, told_named, NamesOne, seen_part, told_part, HasType}
use Rattle.link_program.specs.Loaded.{Origin}
use Rattle.link_program.specs.Program.{AreTables, ChunksDiffer, variant_names, variant_type}
use Rattle.link_program.specs.Told.{told_symbols}
use Rattle.program_tables.specs.declared.symbols.Sources.{Sources}
use Rattle.program_tables.specs.declared.view.Lookups.{Lookups}
use Rattle.program_tables.specs.declared.loose.Loose.{Loose}
use Rattle.program_tables.specs.Loose.{variants_in}
use Rattle.program_tables.specs.Symbols.{symbols_of as all_symbols}
use Rattle.program_tables.specs.Winners.{winners_in}
use Rattle.program_tables.specs.Rows.{Row, all_rows}
use Rattle.program_tables.proofs.Lists.{Each, all_from_each, zip_maps, zip_left}
use Rattle.program_tables.proofs.Answered.{symbols_told}
use Rattle.program_tables.proofs.Winning.{IsRanked, winners_told}
use Rattle.program_tables.proofs.Rows.{ShowsNamed, ShowsPart, named_by}
use Rattle.program_tables.proofs.Whole.{AreLookups, parts_shown}

map_both : {A B C : Type 0} (f : B → C) (g : A → B) (xs : List A) → map f (map g xs) ≡ map (λ x. f (g x)) xs
map_both f g [] = refl
map_both f g (x ∷ xs) = ap (λ l. f (g x) ∷ l) (map_both f g xs)

-- ---- what loosening changes

module _ (names : List (List ℕ)) (imports : List ImportKey) (es : List InputSymbol) where
  named_is : (n : rules.Named) → named_by true es n ≡ loose_named es n
  named_is (a_symbol ref) = refl
  named_is (a_type w) = refl

  row_is : (ns : List rules.Named) → map (λ n. told_named names imports (named_by true es n)) ns ≡ map (told_named names imports) (map (loose_named es) ns)
  row_is [] = refl
  row_is (n ∷ ns) = λ i. told_named names imports (named_is n i) ∷ row_is ns i

  strict_is : (n : rules.Named) → named_by false es n ≡ n
  strict_is (a_symbol ref) = refl
  strict_is (a_type w) = refl

  strict_row : (ns : List rules.Named) → map (λ n. told_named names imports (named_by false es n)) ns ≡ map (told_named names imports) ns
  strict_row [] = refl
  strict_row (n ∷ ns) = λ i. told_named names imports (strict_is n i) ∷ strict_row ns i

  pub loose_told : (like : Bool) (ps : List rules.Part) → map (λ (p : rules.Part). map (λ n. told_named names imports (named_by like es n)) p.named) ps
      ≡ map (λ (p : rules.Part). map (told_named names imports) p.named) (loose_parts like es ps)
  loose_told true [] = refl
  loose_told true (p ∷ ps) = λ i. row_is p.named i ∷ loose_told true ps i
  loose_told false [] = refl
  loose_told false (p ∷ ps) = λ i. strict_row p.named i ∷ loose_told false ps i

-- all else stays
loose_same : {A : Type 0} (es : List InputSymbol) (f : rules.Part → A) → ((p : rules.Part) → f (loose_part es p) ≡ f p) → (like : Bool) (ps : List rules.Part) → map f ps ≡ map f (loose_parts like es ps)
loose_same es f same true [] = refl
loose_same es f same true (p ∷ ps) = λ i. sym (same p) i ∷ loose_same es f same true ps i
loose_same es f same false ps = refl

module _ (like : Bool) (es : List InputSymbol) (symbols : List Symbol) (types : List FuncType) (names : List (List ℕ)) (imports : List ImportKey) where
  abbrev Shows : Row → rules.Part → Type 0
  Shows = ShowsPart like es symbols types names imports

  chunks_told : (rows : List Row) (ps : List rules.Part) → AllZip Shows rows ps → map (λ (row : Row). row.part.chunk) rows ≡ map (λ (p : rules.Part). p.chunk) ps
  chunks_told rows ps all = zip_maps Shows (λ (row : Row). row.part.chunk) (λ (p : rules.Part). p.chunk) (λ row p shows. shows.chunk) rows ps all

  part_told : (row : Row) (p : rules.Part) → Shows row p → seen_part types row.part ≡ told_part p
  part_told row p shows = rw (shows.chunk, shows.content, shows.source) refl

  parts_told : (rows : List Row) (ps : List rules.Part) → AllZip Shows rows ps → map (seen_part types) (map (λ (row : Row). row.part) rows) ≡ map told_part ps
  parts_told rows ps all =
      map_both (seen_part types) (λ (row : Row). row.part) rows ∙ zip_maps Shows (λ (row : Row). seen_part types row.part) told_part part_told rows ps all

  row_told : (row : Row) (p : rules.Part) → Shows row p → map (seen_named symbols types) row.named ≡ map (λ n. told_named names imports (named_by like es n)) p.named
  row_told row p shows =
      zip_maps (ShowsNamed like es symbols types names imports) (seen_named symbols types) (λ n. told_named names imports (named_by like es n)) (λ n r one. one.seen) row.named p.named shows.named

  named_told : (rows : List Row) (ps : List rules.Part) → AllZip Shows rows ps
      → map (map (seen_named symbols types)) (map (λ (row : Row). row.named) rows) ≡ map (λ (p : rules.Part). map (told_named names imports) p.named) (loose_parts like es ps)
  named_told rows ps all =
      map_both (map (seen_named symbols types)) (λ (row : Row). row.named) rows
      ∙ zip_maps Shows (λ (row : Row). map (seen_named symbols types) row.named) (λ (p : rules.Part). map (λ n. told_named names imports (named_by like es n)) p.named) row_told rows ps all
      ∙ loose_told names imports es like ps

  row_there : (row : Row) (p : rules.Part) → Shows row p → All (NamesOne symbols types) row.named
  row_there row p shows =
      all_from_each (NamesOne symbols types) row.named
      (zip_left (ShowsNamed like es symbols types names imports) (NamesOne symbols types) (λ n r one. one.there) row.named p.named shows.named)

  each_map : {A B : Type 0} (P : B → Type 0) (f : A → B) (xs : List A) → Each (λ x. P (f x)) xs → Each P (map f xs)
  each_map P f [] all = tt
  each_map P f (x ∷ xs) all = (all.0, each_map P f xs all.1)

  named_there : (rows : List Row) (ps : List rules.Part) → AllZip Shows rows ps → All (λ row. All (NamesOne symbols types) row) (map (λ (row : Row). row.named) rows)
  named_there rows ps all =
      let P = λ (row : List Named). All (NamesOne symbols types) row in
      all_from_each P (map (λ (row : Row). row.named) rows)
      (each_map P (λ (row : Row). row.named) rows (zip_left Shows (λ row. All (NamesOne symbols types) row.named) row_there rows ps all))

  types_there : (rows : List Row) (ps : List rules.Part) → AllZip Shows rows ps → All (λ part. HasType types part.content) (map (λ (row : Row). row.part) rows)
  types_there rows ps all =
      all_from_each (λ part. HasType types part.content) (map (λ (row : Row). row.part) rows)
      (each_map (λ part. HasType types part.content) (λ (row : Row). row.part) rows (zip_left Shows (λ row. HasType types row.part.content) (λ row p shows. shows.typed) rows ps all))

-- What the tables are made of.
pub record AreMade (s : Sources) (origin : Origin) (ranks : List (Option ℕ)) (lo : Loose) (l : Lookups) (t : Tables) : Type 0 where
  pub lookups : AreLookups s t.types origin.all origin.plan.loose_calls origin.plan.allow_undefined lo l
  pub ranked : IsRanked s.mode s.entries.objects.now s.entries.names.now ranks
  pub symbols : t.symbols ≡ all_symbols s ++ lo.symbols
  pub few_symbols : length t.symbols < 2 ^ 32
  pub winners : t.winners ≡ winners_in s.mode s.entries.names.now.names ranks s.entries.objects.now
  pub parts : t.parts ≡ map (λ (row : Row). row.part) (all_rows s.mode l)
  pub named : t.named ≡ map (λ (row : Row). row.named) (all_rows s.mode l)
  pub chunks : t.chunks ≡ map (λ (row : Row). row.part.chunk) (all_rows s.mode l)
  pub differ : Differ t.chunks
  pub few_parts : length t.chunks < 2 ^ 32 - 1
  pub variants : map (slice_get t.types) t.variants ≡ map Some lo.types

pub tables_are : (s : Sources) (origin : Origin) (ranks : List (Option ℕ)) (lo : Loose) (l : Lookups) (t : Tables) → AreMade s origin ranks lo l t
    → AreTables s.entries.names.now.names s.resolution.now.imports t (program_of s.mode origin.plan origin.files origin.all s.entries.objects.now)
unfolding program_of
tables_are s origin ranks lo l t made =
    let names = s.entries.names.now.names in
    let imports = s.resolution.now.imports in
    let objects = s.entries.objects.now in
    let like = origin.plan.loose_calls in
    let es = entries s.mode objects in
    let rows = all_rows s.mode l in
    let resolved = resolve s.mode origin.plan.allow_undefined es objects in
    let ps = parts_of s.mode origin.all objects resolved in
    let variants = variants_in s.mode like origin.plan.allow_undefined objects in
    let shown : AllZip (ShowsPart like es t.symbols t.types names imports) rows ps =
    subst (λ sy. AllZip (ShowsPart like es sy t.types names imports) rows ps) (sym made.symbols) (parts_shown s t.types origin.all like origin.plan.allow_undefined lo l made.lookups) in
    let chunks : t.chunks ≡ map (λ (p : rules.Part). p.chunk) (loose_parts like es ps) =
    made.chunks ∙ chunks_told like es t.symbols t.types names imports rows ps shown ∙ loose_same es (λ (p : rules.Part). p.chunk) (λ p. refl) like ps in
    let counted : length (map (λ (p : rules.Part). p.chunk) (loose_parts like es ps)) ≡ length (loose_parts like es ps) = length-map (loose_parts like es ps) (λ (p : rules.Part). p.chunk) in
    let same_count : length t.chunks ≡ length (loose_parts like es ps) = ap (λ l. length l) chunks ∙ counted in
    record {
      symbols = made.symbols
          ∙ ap (λ l. l ++ lo.symbols) (symbols_told s origin.plan.allow_undefined made.lookups.rise made.lookups.meant)
          ∙ ap (λ l. told_symbols names imports resolved ++ l) made.lookups.loose.symbols;
      variants = made.variants ∙ ap (map Some) made.lookups.loose.types ∙ map_both Some (variant_type variants) (variant_names variants);
      winners = made.winners ∙ winners_told s.mode objects s.entries.names.now ranks made.ranked;
      chunks = chunks;
      differ = subst ChunksDiffer chunks made.differ;
      parts = ap (map (seen_part t.types)) made.parts ∙ parts_told like es t.symbols t.types names imports rows ps shown ∙ loose_same es told_part (λ p. refl) like ps;
      named = ap (map (map (seen_named t.symbols t.types))) made.named ∙ named_told like es t.symbols t.types names imports rows ps shown;
      named_there = subst (All (λ row. All (NamesOne t.symbols t.types) row)) (sym made.named) (named_there like es t.symbols t.types names imports rows ps shown);
      types_there = subst (All (λ part. HasType t.types part.content)) (sym made.parts) (types_there like es t.symbols t.types names imports rows ps shown);
      few_parts = subst (λ n. n < 2 ^ 32 - 1) same_count made.few_parts;
      few_symbols = made.few_symbols;
    }
