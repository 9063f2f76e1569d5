-- The imports that references of a shared output name, by number and as the definition has them.
use Rattle.std.proofs.Common.{◌≡◌, ℕ, Bool, true, false, ◌&&◌, List, [], ◌∷◌, map, filter, filter_map, fold, replicate, length, slice_get, Option, Some, refl, sym, ap, ◌∙◌}
use Rattle.std.specs.List.{list_any, All}
use Rattle.std.proofs.lemmas.List.{map-append}
use Rattle.std.proofs.lemmas.List.Sums.{fold-append}
use Rattle.std.proofs.lemmas.Option.{slice_get_within}
use Rattle.link_keys.specs.link_program.index_layout.Numbers.{number_by}
use Rattle.link_keys.specs.link_program.made_symbols.declared.mode.Mode.{Mode}
use Rattle.link_keys.specs.link_program.made_symbols.declared.mode.Mode.TheVariants.{Shared}
use Rattle.link_keys.specs.link_program.name_rules.Entries.{InputSymbol, ImportKey, same_import}
use Rattle.link_keys.specs.link_program.link_rules.Program as rules
use Rattle.link_keys.specs.link_program.link_rules.Program.{Ref}
use Rattle.link_keys.specs.link_program.link_rules.Marks.{refs_of}
use Rattle.link_keys.specs.link_program.link_rules.Keys.{import_of, has_import, used_imports, imports_by, is_function_type, is_global_type}
use Rattle.link_keys.specs.link_program.declared.symbol.Symbol.{Symbol}
use Rattle.link_keys.specs.link_program.declared.named.Named.{Named}
use Rattle.link_keys.specs.link_program.declared.named.Named.TheVariants as windows
use Rattle.link_keys.specs.link_program.declared.program.Tables.{Tables}
use Rattle.link_keys.specs.link_program.Look.{part_at, row_at}
use Rattle.link_keys.specs.link_program.Told.{told_lead}
use Rattle.link_keys.specs.LiveRefs.{LiveRef, named_ref, is_code, refs_at, live_refs}
use Rattle.link_keys.specs.Noted.{where_so, import_named, flagged, is_at}
use Rattle.link_keys.specs.Lists.{flag_at, is_function_import, is_global_import, function_imports, global_imports}
use Rattle.link_keys.proofs.Any.{any_map, any_filter, any_filter_map, option_any, any_same, all_each}
use Rattle.link_keys.proofs.Equals.{OnePlace}
use Rattle.link_keys.proofs.Flags.{flags_set}
use Rattle.link_keys.proofs.Imports.{import_equal, import_itself}
use Rattle.link_keys.proofs.ImportsTold.{names_import, import_numbers}
use Rattle.link_keys.proofs.Known.{KnownRef}
use Rattle.link_keys.proofs.LiveTold.{told_refs, asked_all}
use Rattle.shared_keys.specs.Called.{import_called, flag_named, flag_part, flag_parts}

-- ---- flags of references, one after another

abbrev pub called : LiveRef → Option ℕ
called r = import_called r.kind r.symbol

row_flagged : (symbols : List Symbol) (code : Bool) (row : List Named) (flags : List Bool) → fold (flag_named symbols) flags row ≡ fold flagged flags (map called (filter_map (named_ref symbols code) row))
row_flagged symbols code [] flags = refl
row_flagged symbols code (windows.Symbol kind place addend symbol ∷ row) flags = row_flagged symbols code row (flag_named symbols flags (windows.Symbol kind place addend symbol))
row_flagged symbols code (windows.Type place number ∷ row) flags = row_flagged symbols code row flags

-- The flags of the references of the live parts.
pub parts_flagged : (t : Tables) (live : List ℕ) (flags : List Bool) → flag_parts t flags live ≡ fold flagged flags (map called (live_refs t live))
parts_flagged t [] flags = refl
parts_flagged t (n ∷ live) flags =
    parts_flagged t live (flag_part t flags n)
    ∙ ap (λ fs. fold flagged fs (map called (live_refs t live))) (row_flagged t.symbols (is_code (part_at t n)) (row_at t n) flags)
    ∙ sym (fold-append flagged flags (map called (refs_at t n)) (map called (live_refs t live)))
    ∙ ap (fold flagged flags) (sym (map-append called (refs_at t n) (live_refs t live)))

-- ---- as the definition has them

where_at : (i : ℕ) (b : Bool) (o : Option ℕ) → is_at i (where_so b o) ≡ (b && is_at i o)
where_at i true o = refl
where_at i false o = refl

module _ (mode : Mode) (names : List (List ℕ)) (imports : List ImportKey) (one : OnePlace same_import import_equal import_itself imports) (all : List InputSymbol) where
  abbrev calls : Ref → Option ℕ
  calls ref = where_so (imports_by Shared ref) (import_named (told_lead imports ref.meaning))

  one_called : (i : ℕ) (k : ImportKey) → slice_get imports i ≡ Some k → (ref : Ref) → KnownRef mode imports all ref
      → is_at i (calls ref) ≡ (imports_by Shared ref && option_any (same_import k) (import_of ref.meaning))
  one_called i k at ref known =
      where_at i (imports_by Shared ref) (import_named (told_lead imports ref.meaning))
      ∙ ap (λ b. imports_by Shared ref && b) (names_import mode names imports one all i k at ref.entry ref.meaning known)

  module _ (parts : List rules.Part) (known : All (KnownRef mode imports all) (refs_of parts)) (flags : List Bool)
      (are : flags ≡ fold flagged (replicate (length imports) false) (map called (told_refs names imports parts))) where
    set : (i : ℕ) (k : ImportKey) → slice_get imports i ≡ Some k → flag_at flags i ≡ has_import (used_imports (filter (imports_by Shared) (refs_of parts))) k
    set i k at =
        ap (λ fs. flag_at fs i) are
        ∙ flags_set (length imports) (map called (told_refs names imports parts)) i (slice_get_within imports i k at)
        ∙ ap (list_any (is_at i)) (asked_all names imports called calls (λ code ref. refl) parts)
        ∙ any_map (is_at i) calls (refs_of parts)
        ∙ any_same (λ ref. is_at i (calls ref)) (λ ref. imports_by Shared ref && option_any (same_import k) (import_of ref.meaning)) (refs_of parts)
        (all_each (KnownRef mode imports all) (λ ref. is_at i (calls ref) ≡ (imports_by Shared ref && option_any (same_import k) (import_of ref.meaning))) (one_called i k at) (refs_of parts) known)
        ∙ sym (any_filter (λ ref. option_any (same_import k) (import_of ref.meaning)) (imports_by Shared) (refs_of parts))
        ∙ sym (any_filter_map (same_import k) (λ (ref : Ref). import_of ref.meaning) (filter (imports_by Shared) (refs_of parts)))

    -- The imported functions that are called, and the imported globals.
    pub function_imports_called : function_imports imports flags ≡ map (number_by same_import imports) (filter (λ k. is_function_type k.type && has_import (used_imports (filter (imports_by Shared) (refs_of parts))) k) imports)
    function_imports_called =
        import_numbers mode names imports one all (λ k. is_function_type k.type) is_function_import refl (λ k. refl) flags (has_import (used_imports (filter (imports_by Shared) (refs_of parts)))) set

    pub global_imports_called : global_imports imports flags ≡ map (number_by same_import imports) (filter (λ k. is_global_type k.type && has_import (used_imports (filter (imports_by Shared) (refs_of parts))) k) imports)
    global_imports_called =
        import_numbers mode names imports one all (λ k. is_global_type k.type) is_global_import refl (λ k. refl) flags (has_import (used_imports (filter (imports_by Shared) (refs_of parts)))) set
