-- The names that windows name, by number, are those that the definition's references name.
use Rattle.std.proofs.Common.{◌≡◌, ℕ, ◌<◌, Bool, true, false, ◌&&◌, ◌||◌, List, [], ◌∷◌, map, filter_map, flat_map, fold, length, slice_get, get_or, replicate, Some, refl, sym, ap, ◌∙◌}
use Rattle.std.specs.Prelude.{bytes_eq}
use Rattle.std.specs.List.{list_any, IsDistinct}
use Rattle.std.proofs.lemmas.Option.{slice_get_within}
use Rattle.link_program.specs.wasm_types.declared.function.FuncType.{FuncType}
use Rattle.link_program.specs.name_rules.Entries.{ImportKey}
use Rattle.link_program.specs.name_entries.View.{is_number}
use Rattle.link_program.specs.link_rules.Program as rules
use Rattle.link_program.specs.link_rules.Program.{Part, a_symbol, a_type, named_ref, refs}
use Rattle.link_program.specs.link_rules.Marks.{refs_of}
use Rattle.link_program.specs.declared.symbol.Symbol.{Symbol}
use Rattle.link_program.specs.declared.named.Named.{Named}
use Rattle.link_program.specs.declared.named.Named.TheVariants as windows
use Rattle.link_program.specs.Seen.{SeenNamed, seen_symbol, seen_type, seen_named, told_named}
use Rattle.partial_rules.specs.Partial.{names_it}
use Rattle.partial_symbols.specs.Columns.{named_number, flagged}
use Rattle.partial_symbols.proofs.Lists.{all_agree, any_agree, fold_rows, any_flat, any_map, and_true}
use Rattle.partial_symbols.proofs.Cells.{flags_of}
use Rattle.partial_symbols.proofs.Placed.{entry_is}

module _ (p : rules.Program) (names : List (List ℕ)) (differ : IsDistinct bytes_eq names) (n : ℕ) (name : List ℕ) (at : slice_get names n ≡ Some name) where
  -- whether what is seen, or told, names the name
  abbrev names_number : SeenNamed → Bool
  names_number (seen_symbol r) = is_number n r.symbol.name
  names_number (seen_type place t) = false

  module _ (symbols : List Symbol) (types : List FuncType) where
    item_seen : (m : Named) → (is_number n (named_number symbols m) && true) ≡ names_number (seen_named symbols types m)
    item_seen (windows.Symbol kind place addend symbol) = and_true (is_number n (named_number symbols (windows.Symbol kind place addend symbol)))
    item_seen (windows.Type place number) = refl

    row_seen : (row : List Named) → list_any (λ (m : Named). is_number n (named_number symbols m) && true) row ≡ list_any names_number (map (seen_named symbols types) row)
    row_seen row =
        any_agree (λ (m : Named). is_number n (named_number symbols m) && true) (λ (m : Named). names_number (seen_named symbols types m)) row (all_agree _ item_seen row)
        ∙ sym (any_map names_number (seen_named symbols types) row)

  module _ (imports : List ImportKey) where
    row_told : (ns : List rules.Named) → list_any names_number (map (told_named names imports) ns) ≡ list_any (names_it p name) (filter_map named_ref ns)
    row_told [] = refl
    row_told (a_symbol ref ∷ ns) = let h = entry_is names name n differ at ref.entry in let t = row_told ns in λ i. h i || t i
    row_told (a_type w ∷ ns) = row_told ns

  -- The flag of the name.
  pub flag_seen : (symbols : List Symbol) (types : List FuncType) (imports : List ImportKey) (rows : List (List Named)) (parts : List Part)
      → map (map (seen_named symbols types)) rows ≡ map (λ (part : Part). map (told_named names imports) part.named) parts
      → get_or (fold (fold (flagged symbols)) (replicate (length names) false) rows) n false ≡ list_any (names_it p name) (refs_of parts)
  flag_seen symbols types imports rows parts same =
      let test : Named → Bool = λ m. is_number n (named_number symbols m) && true in
      let below : n < length names = slice_get_within names n name at in
      ap (λ flags. get_or flags n false) (fold_rows (flagged symbols) (replicate (length names) false) rows)
      ∙ (flags_of false (named_number symbols) (λ (m : Named) (b : Bool). true) (λ (b : Bool). b) (λ (m : Named). true) steps (length names) (flat_map (λ r. r) rows) n refl below
      ∙ (any_flat test (λ r. r) rows
      ∙ (any_agree (λ (row : List Named). list_any test row) (λ (row : List Named). list_any names_number (map (seen_named symbols types) row)) rows (all_agree _ (row_seen symbols types) rows)
      ∙ (sym (any_map (list_any names_number) (map (seen_named symbols types)) rows)
      ∙ (ap (list_any (list_any names_number)) same
      ∙ (any_map (list_any names_number) (λ (part : Part). map (told_named names imports) part.named) parts
      ∙ (any_agree (λ (part : Part). list_any names_number (map (told_named names imports) part.named)) (λ (part : Part). list_any (names_it p name) (refs part)) parts (all_agree _ (λ (part : Part). row_told imports part.named) parts)
      ∙ sym (any_flat (names_it p name) refs parts))))))))
    where
      steps : (m : Named) (b : Bool) → true ≡ (b || true)
      steps m true = refl
      steps m false = refl
