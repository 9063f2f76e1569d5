-- The number of an import that is one of the first three globals.
use Rattle.std.proofs.Common.{◌≡◌, ℕ, suc, Bool, true, false, List, [], ◌∷◌, position, Option, Some, None, option_map, unwrap_or, sym, ap, ◌∙◌}
use Rattle.link_program.specs.index_layout.Numbers.{number_by}
use Rattle.link_program.specs.declared.keys.GlobalKey.{GlobalKey}
use Rattle.link_program.specs.declared.keys.GlobalKey.TheVariants as globals
use Rattle.link_program.specs.Keys.{same_global_key}
use Rattle.link_layout.specs.FirstGlobals.{is_import_at}
use Rattle.link_numbers.proofs.link_keys_lemmas.Positions.{position_next, position_first}

module _ (wanted : ℕ) where
  abbrev test : GlobalKey → Bool
  test = same_global_key (globals.Import wanted)

  at_first : (keys : List GlobalKey) → is_import_at keys 0 wanted ≡ true → position test keys ≡ Some 0
  at_first [] a = absurd cc
  at_first (key ∷ keys) a = position_first test key keys a

  at_second : (keys : List GlobalKey) → is_import_at keys 0 wanted ≡ false → is_import_at keys 1 wanted ≡ true → position test keys ≡ Some 1
  at_second [] a b = absurd cc
  at_second (key ∷ keys) a b = position_next test key keys a ∙ ap (option_map suc) (at_first keys b)

  at_third : (keys : List GlobalKey) → is_import_at keys 0 wanted ≡ false → is_import_at keys 1 wanted ≡ false → is_import_at keys 2 wanted ≡ true → position test keys ≡ Some 2
  at_third [] a b c = absurd cc
  at_third (key ∷ keys) a b c = position_next test key keys a ∙ ap (option_map suc) (at_second keys b c)

pub first : (keys : List GlobalKey) (wanted : ℕ) → is_import_at keys 0 wanted ≡ true → 0 ≡ number_by same_global_key keys (globals.Import wanted)
first keys wanted a = sym (ap (λ o. unwrap_or o 0) (at_first wanted keys a))

pub second : (keys : List GlobalKey) (wanted : ℕ) → is_import_at keys 0 wanted ≡ false → is_import_at keys 1 wanted ≡ true → 1 ≡ number_by same_global_key keys (globals.Import wanted)
second keys wanted a b = sym (ap (λ o. unwrap_or o 0) (at_second wanted keys a b))

pub third : (keys : List GlobalKey) (wanted : ℕ) → is_import_at keys 0 wanted ≡ false → is_import_at keys 1 wanted ≡ false → is_import_at keys 2 wanted ≡ true → 2 ≡ number_by same_global_key keys (globals.Import wanted)
third keys wanted a b c = sym (ap (λ o. unwrap_or o 0) (at_third wanted keys a b c))
