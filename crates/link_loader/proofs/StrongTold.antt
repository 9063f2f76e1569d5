-- Names of which some entry isn't WEAK, as the data tell them.
use Rattle.std.proofs.Common.{◌≡◌, ℕ, ◌+◌, ◌<◌, ◌==◌, Bool, true, false, not, ◌&&◌, ◌||◌, cond, List, [], ◌∷◌, ◌++◌, map, filter, flat_map, replicate, length, get_or, slice_get, Option, Some, None, unwrap_or, IsSome, refl, sym, ap, ◌∙◌}
use Rattle.std.specs.Prelude.{if◌then◌else◌, bytes_eq}
use Rattle.std.specs.List.{list_any, list_all, All}
use Rattle.std.proofs.lemmas.List.Elements.{All-head, All-tail}
use Rattle.std.proofs.lemmas.List.Folds.{list_any-append}
use Rattle.std.proofs.lemmas.Option.{slice_get_within}
use Rattle.link_program.specs.wl_base.Names.{number_of}
use Rattle.link_program.specs.linking_section.declared.symbol.Symbol.{Symbol as Written}
use Rattle.link_program.specs.linking_section.Flags.{is_weak}
use Rattle.link_program.specs.object_file.declared.object.Object.{Object}
use Rattle.link_program.specs.made_symbols.declared.mode.Mode.TheVariants.{Shared}
use Rattle.link_program.specs.made_symbols.Made.{made, MadeSymbol}
use Rattle.link_program.specs.link_names.Numbered.{Numbered, AreNumbers, Held, entry_names, is_entry_symbol, symbol_name, symbol_number}
use Rattle.link_program.specs.name_rules.Entries.{InputSymbol, is_entry, is_named, entries, entries_from, entry_in, symbols_of, made_from, made_entry}
use Rattle.link_layout.specs.link_numbers.link_keys.Noted.{is_at}
use Rattle.link_layout.proofs.link_numbers_lemmas.link_keys_lemmas.Flags.{flags_set}
use Rattle.link_layout.proofs.link_numbers_lemmas.link_keys_lemmas.Any.{any_filter}
use Rattle.link_layout.proofs.link_numbers_lemmas.link_keys_lemmas.Equals.{OnePlace, same_number, same_sym, position_held}
use Rattle.link_layout.proofs.link_numbers_lemmas.link_keys_lemmas.Imports.{name_equal, name_itself}
use Rattle.link_loader.specs.Weak.{flag_at, strong_of, strong_row, strong_rows, strong_names}
use Rattle.link_loader.proofs.Flagged.{folded}

-- ---- numbers of names

pub held_number : (names : List (List ℕ)) (name : List ℕ) → Held names name → (n : ℕ) × (number_of names name ≡ Some n)
held_number names name held = by (number_of names name) refl held
  where
    by : (o : Option ℕ) → number_of names name ≡ o → IsSome o → (n : ℕ) × (number_of names name ≡ Some n)
    by None is some = absurd cc
    by (Some n) is some = (n, is)

module _ (names : List (List ℕ)) (one : OnePlace bytes_eq name_equal name_itself names) (i : ℕ) (name : List ℕ) (at : slice_get names i ≡ Some name) where
  -- a held name has this number where it is the name that has it
  name_hit : (x : List ℕ) → Held names x → is_at i (number_of names x) ≡ bytes_eq x name
  name_hit x held =
      let n = held_number names x held in
      let holds : list_any (bytes_eq x) names ≡ true = position_held bytes_eq name_equal name_itself names x n.0 n.1 in
      ap (is_at i) n.1
      ∙ ap (λ o. unwrap_or o 0 == i) (sym n.1)
      ∙ same_number bytes_eq name_equal name_itself names i name x one at holds
      ∙ same_sym bytes_eq name_equal name_itself name x

  -- whether an entry has the name and isn't WEAK
  abbrev pub IsStrong : InputSymbol → Bool
  IsStrong f = is_named name f && not (is_weak f.symbol)

  and_true : (b : Bool) → b ≡ (b && true)
  and_true true = refl
  and_true false = refl

  and_false : (b : Bool) → false ≡ (b && false)
  and_false true = refl
  and_false false = refl

  -- ---- the linker's

  made_hits : (place : ℕ) (ms : List MadeSymbol) → All (Held names) (map (λ m. m.name) ms) → list_any (is_at i) (map (λ m. number_of names m.name) ms) ≡ list_any IsStrong (made_from place ms)
  made_hits place [] held = refl
  made_hits place (m ∷ ms) held =
      let first : is_at i (number_of names m.name) ≡ IsStrong (made_entry place m) = name_hit m.name (All-head (Held names) m.name (map (λ m. m.name) ms) held) ∙ and_true (bytes_eq m.name name) in
      let rest = made_hits (place + 1) ms (All-tail (Held names) m.name (map (λ m. m.name) ms) held) in
      λ j. first j || rest j

  -- ---- those of objects

  one_hit : (s : Written) (e : InputSymbol) → e.symbol ≡ s → (r : Bool) → is_entry_symbol s ≡ r → (r ≡ true → Held names (symbol_name s))
      → is_at i (strong_of (symbol_number names s) s) ≡ (r && IsStrong e)
  one_hit s e same r entry held =
      by_weak (is_weak s) refl
      ∙ ap (λ (x : Written). r && (bytes_eq (unwrap_or x.name []) name && not (is_weak x))) (sym same)
    where
      entry_hit : (b : Bool) → is_entry_symbol s ≡ b → (b ≡ true → Held names (symbol_name s)) → is_at i (if b then number_of names (symbol_name s) else None) ≡ (b && bytes_eq (symbol_name s) name)
      entry_hit true e h = name_hit (symbol_name s) (h refl)
      entry_hit false e h = refl

      spread : (a b : Bool) → (a && b) ≡ (a && (b && true))
      spread true b = and_true b
      spread false b = refl

      lost : (a b : Bool) → false ≡ (a && (b && false))
      lost true b = and_false b
      lost false b = refl

      by_weak : (w : Bool) → is_weak s ≡ w → is_at i (if is_weak s then None else symbol_number names s) ≡ (r && (bytes_eq (symbol_name s) name && not (is_weak s)))
      by_weak true w =
          ap (λ b. is_at i (if b then None else symbol_number names s)) w
          ∙ lost r (bytes_eq (symbol_name s) name)
          ∙ ap (λ b. r && (bytes_eq (symbol_name s) name && not b)) (sym w)
      by_weak false w =
          ap (λ b. is_at i (if b then None else symbol_number names s)) w
          ∙ ap (λ b. is_at i (if b then number_of names (symbol_name s) else None)) entry
          ∙ entry_hit r entry held
          ∙ spread r (bytes_eq (symbol_name s) name)
          ∙ ap (λ b. r && (bytes_eq (symbol_name s) name && not b)) (sym w)

  row_hits : (objects : List Object) (o : Object) (place : ℕ) (ss : List Written) → All (Held names) (map symbol_name (filter is_entry_symbol ss))
      → list_any (is_at i) (strong_row (map (symbol_number names) ss) ss) ≡ list_any (λ e. is_entry e && IsStrong e) (entries_from objects o place ss)
  row_hits objects o place [] held = refl
  row_hits objects o place (s ∷ ss) held = by (is_entry_symbol s) refl held (λ h. row_hits objects o (place + 1) ss h)
    where
      by : (r : Bool) → is_entry_symbol s ≡ r → All (Held names) (map symbol_name (cond r (s ∷ filter is_entry_symbol ss) (filter is_entry_symbol ss)))
          → (All (Held names) (map symbol_name (filter is_entry_symbol ss)) → list_any (is_at i) (strong_row (map (symbol_number names) ss) ss) ≡ list_any (λ e. is_entry e && IsStrong e) (entries_from objects o (place + 1) ss))
          → (is_at i (strong_of (symbol_number names s) s) || list_any (is_at i) (strong_row (map (symbol_number names) ss) ss))
          ≡ ((is_entry_symbol s && IsStrong (entry_in objects o place s)) || list_any (λ e. is_entry e && IsStrong e) (entries_from objects o (place + 1) ss))
      by true entry h again =
          let first = one_hit s (entry_in objects o place s) refl true entry (λ t. All-head (Held names) (symbol_name s) (map symbol_name (filter is_entry_symbol ss)) h)
          ∙ ap (λ b. b && IsStrong (entry_in objects o place s)) (sym entry) in
          let rest = again (All-tail (Held names) (symbol_name s) (map symbol_name (filter is_entry_symbol ss)) h) in
          λ j. first j || rest j
      by false entry h again =
          let first = one_hit s (entry_in objects o place s) refl false entry (λ t. absurd cc) ∙ ap (λ b. b && IsStrong (entry_in objects o place s)) (sym entry) in
          let rest = again h in
          λ j. first j || rest j

  object_hits : (objects os : List Object) → All (λ o. All (Held names) (entry_names o)) os
      → list_any (is_at i) (strong_rows (map (λ (o : Object). map (symbol_number names) o.symbols) os) os) ≡ list_any (λ e. is_entry e && IsStrong e) (flat_map (symbols_of objects) os)
  object_hits objects [] held = refl
  object_hits objects (o ∷ os) held =
      let first = row_hits objects o 0 o.symbols (All-head (λ o. All (Held names) (entry_names o)) o os held) in
      let rest = object_hits objects os (All-tail (λ o. All (Held names) (entry_names o)) o os held) in
      list_any-append (is_at i) (strong_row (map (symbol_number names) o.symbols) o.symbols) (strong_rows (map (λ (o : Object). map (symbol_number names) o.symbols) os) os)
      ∙ (λ j. first j || rest j)
      ∙ sym (list_any-append (λ e. is_entry e && IsStrong e) (symbols_of objects o) (flat_map (symbols_of objects) os))

-- By the number of a name: whether some entry of it isn't WEAK.
pub strong_told : (n : Numbered) (objects : List Object) → AreNumbers Shared objects n → OnePlace bytes_eq name_equal name_itself n.names → (i : ℕ) (name : List ℕ) → slice_get n.names i ≡ Some name
    → flag_at (strong_names (length n.names) n.made n.symbols objects) i ≡ list_any (λ (f : InputSymbol). is_named name f && not (is_weak f.symbol)) (entries Shared objects)
unfolding entries
strong_told n objects are one i name at =
    let hits = λ (f : InputSymbol). is_named name f && not (is_weak f.symbol) in
    let rows = strong_rows n.symbols objects in
    let below : i < length n.names = slice_get_within n.names i name at in
    let linkers = ap (list_any (is_at i)) are.made ∙ made_hits n.names one i name at 0 (made Shared) are.made_held in
    let others = ap (λ rs. list_any (is_at i) (strong_rows rs objects)) are.symbols ∙ object_hits n.names one i name at objects objects are.symbols_held
    ∙ sym (any_filter hits is_entry (flat_map (symbols_of objects) objects)) in
    ap (λ flags. get_or flags i false) (sym (folded (replicate (length n.names) false) (map Some n.made) rows))
    ∙ flags_set (length n.names) (map Some n.made ++ rows) i below
    ∙ list_any-append (is_at i) (map Some n.made) rows
    ∙ (λ j. linkers j || others j)
    ∙ sym (list_any-append hits (made_from 0 (made Shared)) (filter is_entry (flat_map (symbols_of objects) objects)))

-- those of a name are all WEAK where none isn't
pub none_strong : (all : List InputSymbol) (name : List ℕ) → list_any (λ (f : InputSymbol). is_named name f && not (is_weak f.symbol)) all ≡ not (list_all (λ f. is_weak f.symbol) (filter (is_named name) all))
none_strong all name = sym (any_filter (λ (f : InputSymbol). not (is_weak f.symbol)) (is_named name) all) ∙ any_not (filter (is_named name) all)
  where
    any_not : (fs : List InputSymbol) → list_any (λ (f : InputSymbol). not (is_weak f.symbol)) fs ≡ not (list_all (λ f. is_weak f.symbol) fs)
    any_not [] = refl
    any_not (f ∷ fs) = by (is_weak f.symbol) (any_not fs)
      where
        by : (b : Bool) → list_any (λ (f : InputSymbol). not (is_weak f.symbol)) fs ≡ not (list_all (λ f. is_weak f.symbol) fs)
            → (not b || list_any (λ (f : InputSymbol). not (is_weak f.symbol)) fs) ≡ not (b && list_all (λ f. is_weak f.symbol) fs)
        by true e = e
        by false e = refl
