-- The imports that are named, by number and as the definition has them.
use Rattle.std.proofs.Common.{◌≡◌, ℕ, zero, suc, ◌+◌, ◌<◌, ◌≤◌, ◌==◌, Bool, true, false, ◌&&◌, List, [], ◌∷◌, ◌++◌, map, filter, filter_map, fold, replicate, length, slice_get, get_or, Option, Some, None, refl, sym, ap, subst, ◌∙◌, arith}
use Rattle.std.specs.Prelude.{if◌then◌else◌, slice_index_or}
use Rattle.std.specs.List.{list_any, All}
use Rattle.std.proofs.lemmas.Option.{slice_get_within, slice_get_past}
use Rattle.link_program.specs.index_layout.Numbers.{number_by}
use Rattle.link_program.specs.made_symbols.declared.mode.Mode.{Mode}
use Rattle.link_program.specs.made_symbols.declared.mode.Mode.TheVariants.{Plain}
use Rattle.link_program.specs.name_rules.Entries.{InputSymbol, ImportKey, same_import}
use Rattle.link_program.specs.name_rules.Meanings.{Meaning, here, imported, null, nothing}
use Rattle.link_program.specs.link_rules.Program as rules
use Rattle.link_program.specs.link_rules.Program.{Ref}
use Rattle.link_program.specs.link_rules.Marks.{refs_of}
use Rattle.link_program.specs.link_rules.Keys.{import_of, has_import, used_imports, imports_by, is_function_type, is_global_type}
use Rattle.link_program.specs.Told.{told_lead}
use Rattle.link_keys.specs.LiveRefs.{LiveRef}
use Rattle.link_keys.specs.Noted.{import_named, flagged, is_at}
use Rattle.link_keys.specs.Lists.{numbers_below, flag_at, is_function_import, is_global_import, function_imports, global_imports}
use Rattle.link_keys.proofs.Any.{any_map, any_filter_map, option_any, any_same, all_each}
use Rattle.link_keys.proofs.Equals.{OnePlace, same_number, passes, numbers_passing, holds_at}
use Rattle.link_keys.proofs.Flags.{flags_set}
use Rattle.link_keys.proofs.Heard.{import_asked}
use Rattle.link_keys.proofs.Imports.{import_equal, import_itself}
use Rattle.link_keys.proofs.Known.{KnownMeaning, KnownRef}
use Rattle.link_keys.proofs.LiveTold.{told_refs, asked_all}

pub below_same : (t u : ℕ → Bool) (n : ℕ) → ((i : ℕ) → i < n → t i ≡ u i) → numbers_below t n ≡ numbers_below u n
below_same t u zero each = refl
below_same t u (suc n) each =
    ap (λ r. numbers_below t n ++ (if r then n ∷ [] else [])) (each n (omega arith))
    ∙ ap (λ ns. ns ++ (if u n then n ∷ [] else [])) (below_same t u n (λ i below. each i (omega arith)))

pub filter_all : {A : Type 0} (xs : List A) → filter (λ x. true) xs ≡ xs
filter_all [] = refl
filter_all (x ∷ xs) = ap (λ r. x ∷ r) (filter_all xs)

and_swap : (a b : Bool) → (a && b) ≡ (b && a)
and_swap true true = refl
and_swap true false = refl
and_swap false true = refl
and_swap false false = refl

module _ (mode : Mode) (names : List (List ℕ)) (imports : List ImportKey) (one : OnePlace same_import import_equal import_itself imports) (all : List InputSymbol) where
  -- whether a reference names the import of a number
  pub names_import : (i : ℕ) (k : ImportKey) → slice_get imports i ≡ Some k → (e : InputSymbol) (m : Meaning) → KnownMeaning mode imports all e m
      → is_at i (import_named (told_lead imports m)) ≡ option_any (same_import k) (import_of m)
  names_import i k at e (here d) known = refl
  names_import i k at e (imported j) known = same_number same_import import_equal import_itself imports i k j one at known
  names_import i k at e null known = refl
  names_import i k at e nothing known = refl

  flag_is : (parts : List rules.Part) → All (KnownRef mode imports all) (refs_of parts) → (i : ℕ) (k : ImportKey) → slice_get imports i ≡ Some k
      → flag_at (fold flagged (replicate (length imports) false) (map import_asked (told_refs names imports parts))) i ≡ has_import (used_imports (refs_of parts)) k
  flag_is parts known i k at =
      flags_set (length imports) (map import_asked (told_refs names imports parts)) i (slice_get_within imports i k at)
      ∙ ap (list_any (is_at i)) (asked_all names imports import_asked (λ (ref : Ref). import_named (told_lead imports ref.meaning)) (λ code ref. refl) parts)
      ∙ any_map (is_at i) (λ (ref : Ref). import_named (told_lead imports ref.meaning)) (refs_of parts)
      ∙ any_same (λ (ref : Ref). is_at i (import_named (told_lead imports ref.meaning))) (λ (ref : Ref). option_any (same_import k) (import_of ref.meaning)) (refs_of parts)
      (all_each (KnownRef mode imports all) (λ (ref : Ref). is_at i (import_named (told_lead imports ref.meaning)) ≡ option_any (same_import k) (import_of ref.meaning)) (λ ref. names_import i k at ref.entry ref.meaning) (refs_of parts) known)
      ∙ sym (any_filter_map (same_import k) (λ (ref : Ref). import_of ref.meaning) (refs_of parts))

  -- the numbers of the imports of one type that are named
  module _ (test : ImportKey → Bool) (told : Option ImportKey → Bool) (none : told None ≡ false) (some : (k : ImportKey) → told (Some k) ≡ test k) (flags : List Bool) (used : ImportKey → Bool)
      (set : (i : ℕ) (k : ImportKey) → slice_get imports i ≡ Some k → flag_at flags i ≡ used k) where
    chosen_at : (i : ℕ) (o : Option ImportKey) → slice_get imports i ≡ o → (flag_at flags i && told o) ≡ passes same_import import_equal import_itself (λ k. test k && used k) o
    chosen_at i None at = rw none (false_right (flag_at flags i))
      where
        false_right : (b : Bool) → (b && false) ≡ false
        false_right true = refl
        false_right false = refl
    chosen_at i (Some k) at = rw (set i k at, some k) (and_swap (used k) (test k))

    pub import_numbers : numbers_below (λ i. flag_at flags i && told (slice_get imports i)) (length imports) ≡ map (number_by same_import imports) (filter (λ k. test k && used k) imports)
    import_numbers =
        below_same (λ i. flag_at flags i && told (slice_get imports i)) (λ i. passes same_import import_equal import_itself (λ k. test k && used k) (slice_get imports i)) (length imports)
        (λ i below. chosen_at i (slice_get imports i) refl)
        ∙ sym (numbers_passing same_import import_equal import_itself imports one (λ k. test k && used k))

  -- The imported functions and globals, as the definition has them.
  abbrev pub kept_imports : (ImportKey → Bool) → List rules.Part → List ImportKey
  kept_imports test parts = filter (λ k. test k && has_import (used_imports (filter (imports_by Plain) (refs_of parts))) k) imports

  module _ (parts : List rules.Part) (known : All (KnownRef mode imports all) (refs_of parts)) (flags : List Bool)
      (are : flags ≡ fold flagged (replicate (length imports) false) (map import_asked (told_refs names imports parts))) where
    set : (i : ℕ) (k : ImportKey) → slice_get imports i ≡ Some k → flag_at flags i ≡ has_import (used_imports (filter (imports_by Plain) (refs_of parts))) k
    set i k at =
        ap (λ fs. flag_at fs i) are ∙ flag_is parts known i k at
        ∙ ap (λ rs. has_import (used_imports rs) k) (sym (filter_all (refs_of parts)))

    pub function_imports_told : function_imports imports flags ≡ map (number_by same_import imports) (kept_imports (λ k. is_function_type k.type) parts)
    function_imports_told = import_numbers (λ k. is_function_type k.type) is_function_import refl (λ k. refl) flags (has_import (used_imports (filter (imports_by Plain) (refs_of parts)))) set

    pub global_imports_told : global_imports imports flags ≡ map (number_by same_import imports) (kept_imports (λ k. is_global_type k.type) parts)
    global_imports_told = import_numbers (λ k. is_global_type k.type) is_global_import refl (λ k. refl) flags (has_import (used_imports (filter (imports_by Plain) (refs_of parts)))) set
