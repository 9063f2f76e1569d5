-- Keys that are found among the numbers of a link, as they are told.
use Rattle.std.proofs.Common.{◌≡◌, ℕ, ◌+◌, ◌==◌, Bool, true, false, not, ◌&&◌, List, ◌++◌, map, filter, filter_map, get_or, position, Some, option_map, refl, ap, subst, ◌∙◌}
use Rattle.std.specs.List.{list_any, All}
use Rattle.std.proofs.lemmas.List.Elements.{All-append}
use Rattle.link_program.specs.wl_base.Choice.{given}
use Rattle.link_program.specs.made_symbols.declared.mode.Mode.{Mode}
use Rattle.link_program.specs.made_symbols.declared.mode.Mode.TheVariants.{Plain, Shared}
use Rattle.link_program.specs.name_rules.Entries.{InputSymbol, ImportKey, same_import, is_kind}
use Rattle.link_program.specs.linking_section.declared.symbol.SymbolKind.TheVariants.{Datum}
use Rattle.link_program.specs.link_rules.Program as rules
use Rattle.link_program.specs.link_rules.Marks.{refs_of}
use Rattle.link_program.specs.link_rules.Keys as keys
use Rattle.link_program.specs.link_rules.Keys.{same_function, functions, slots, is_taken, takes_slot, ref_function, outside_global, linker_global, own_global, got, exported_datum, same_global, globals, global_imports_in, made_globals, made_global_key, own_global_key, got_entries, datum_key}
use Rattle.link_program.specs.link_rules.Output.{layout}
use Rattle.link_program.specs.Keys.{told_function, told_global, same_function_key, same_global_key}
use Rattle.link_layout.specs.declared.values.Layout.{Layout}
use Rattle.link_layout.specs.Layout.{IsLayoutIn}
use Rattle.link_layout.specs.link_numbers.Knows.{KnowsFunction}
use Rattle.link_layout.proofs.link_numbers_lemmas.Knows.{tells_function, tells_global}
use Rattle.link_layout.proofs.link_numbers_lemmas.Begun.{given_of}
use Rattle.link_layout.proofs.link_numbers_lemmas.Whole.{functions_known, used_held, all_chosen}
use Rattle.link_layout.proofs.link_numbers_lemmas.link_keys_lemmas.Any.{all_map, all_filtered, all_none}
use Rattle.link_layout.proofs.link_numbers_lemmas.link_keys_lemmas.Imports.{both}
use Rattle.link_layout.proofs.link_numbers_lemmas.link_keys_lemmas.Positions.{position_of_map}
use Rattle.link_debug.specs.Places.{slot_place, global_place}
use Rattle.found_numbers.specs.Found.{slot_among}
use Rattle.debug_places.specs.Seen.{global_among}

-- ---- globals

-- one of the imports that symbols mean, or no import; and no object is input 0
abbrev pub StandsFor : List ImportKey → keys.GlobalKey → Type 0
StandsFor imports (outside_global k) = list_any (same_import k) imports ≡ true
StandsFor imports (linker_global n) = Unit {0}
StandsFor imports (own_global input index) = (input == 0) ≡ false
StandsFor imports (got key) = Unit {0}
StandsFor imports (exported_datum e) = Unit {0}

-- the same, of a symbol
abbrev pub IsMeant : List ImportKey → keys.GlobalKey → Type 0
IsMeant imports (outside_global k) = list_any (same_import k) imports ≡ true
IsMeant imports (linker_global n) = Unit {0}
IsMeant imports (own_global input index) = (input == 0) ≡ false
IsMeant imports (got key) = ⊥
IsMeant imports (exported_datum e) = ⊥

tells : (imports : List ImportKey) (a b : keys.GlobalKey) → IsMeant imports a → StandsFor imports b → same_global_key (told_global imports a) (told_global imports b) ≡ same_global a b
tells imports (outside_global a) (outside_global b) ka kb = tells_global imports (outside_global a) (outside_global b) ka kb
tells imports (outside_global a) (linker_global b) ka kb = refl
tells imports (outside_global a) (own_global b j) ka kb = refl
tells imports (outside_global a) (got b) ka kb = refl
tells imports (outside_global a) (exported_datum b) ka kb = refl
tells imports (linker_global a) (outside_global b) ka kb = refl
tells imports (linker_global a) (linker_global b) ka kb = refl
tells imports (linker_global a) (own_global b j) ka kb = tells_global imports (linker_global a) (own_global b j) ka kb
tells imports (linker_global a) (got b) ka kb = refl
tells imports (linker_global a) (exported_datum b) ka kb = refl
tells imports (own_global a i) (outside_global b) ka kb = refl
tells imports (own_global a i) (linker_global b) ka kb = tells_global imports (own_global a i) (linker_global b) ka kb
tells imports (own_global a i) (own_global b j) ka kb = refl
tells imports (own_global a i) (got b) ka kb = refl
tells imports (own_global a i) (exported_datum b) ka kb = refl
tells imports (got a) b ka kb = absurd ka
tells imports (exported_datum a) b ka kb = absurd ka

given_is : {A : Type 0} (b : Bool) (a x : A) → given b a ≡ Some x → (b ≡ true) × (a ≡ x)
given_is true a x e = (refl, cc)
given_is false a x e = absurd cc

not_true : (b : Bool) → not b ≡ true → b ≡ false
not_true true e = absurd cc
not_true false e = refl

abbrev AreHeld : List ImportKey → List ImportKey → Type 0
AreHeld imports ks = All (λ k. list_any (same_import k) imports ≡ true) ks

module _ (imports : List ImportKey) (mode : Mode) (p : rules.Program) (parts : List rules.Part) (es : List InputSymbol) (held : AreHeld imports (global_imports_in mode p parts)) where
  abbrev G : keys.GlobalKey → Type 0
  G k = StandsFor imports k

  made_stands : (part : rules.Part) (k : keys.GlobalKey) → made_global_key part ≡ Some k → G k
  made_stands part k is = let e = given_is ((part.chunk.input == 0) && (part.chunk.kind == 2)) (linker_global part.chunk.index) k is in subst (λ k. G k) e.1 tt

  all_made : (m : Mode) → All G (made_globals m parts)
  all_made Plain = all_chosen G made_global_key made_stands parts
  all_made Shared = all_none G

  own_stands : (part : rules.Part) (k : keys.GlobalKey) → own_global_key part ≡ Some k → G k
  own_stands part k is =
      let e = given_is (not (part.chunk.input == 0) && (part.chunk.kind == 2)) (own_global part.chunk.input part.chunk.index) k is in
      let some = (both (not (part.chunk.input == 0)) (part.chunk.kind == 2) e.0).0 in
      subst (λ k. G k) e.1 (not_true (part.chunk.input == 0) some)

  datum_stands : (e : InputSymbol) (k : keys.GlobalKey) → datum_key e ≡ Some k → G k
  datum_stands e k is = let x = given_is (is_kind Datum e) (exported_datum e) k is in subst (λ k. G k) x.1 tt

  globals_stand : All G (globals mode p parts es)
  unfolding globals
  globals_stand =
      All-append G (map outside_global (global_imports_in mode p parts)) (made_globals mode parts ++ filter_map own_global_key parts ++ map got (got_entries mode parts) ++ filter_map datum_key es)
      (all_map G outside_global (global_imports_in mode p parts) held)
      (All-append G (made_globals mode parts ++ filter_map own_global_key parts ++ map got (got_entries mode parts)) (filter_map datum_key es)
      (All-append G (made_globals mode parts ++ filter_map own_global_key parts) (map got (got_entries mode parts))
      (All-append G (made_globals mode parts) (filter_map own_global_key parts)
      (all_made mode)
      (all_chosen G own_global_key own_stands parts))
      (all_map G got (got_entries mode parts) (λ k d below. tt)))
      (all_chosen G datum_key datum_stands es))

-- ---- all keys of a layout

imports_held : (mode : Mode) (p : rules.Program) (parts : List rules.Part) (es : List InputSymbol) (d : Layout) → IsLayoutIn mode p parts es d → AreHeld d.program.resolution.now.imports (global_imports_in mode p parts)
imports_held Plain p parts es d is = used_held (given_of d.program p is.live.0 parts is.program is.stand is.live.1 is.meant)
imports_held Shared p parts es d is = is.imported

module _ (mode : Mode) (p : rules.Program) (parts : List rules.Part) (es : List InputSymbol) (d : Layout) (is : IsLayoutIn mode p parts es d) where
  abbrev names : List (List ℕ)
  names = d.program.names.now.names

  abbrev imports : List ImportKey
  imports = d.program.resolution.now.imports

  abbrev K : keys.FunctionKey → Type 0
  K f = KnowsFunction names imports f

  known : All K (functions mode p parts)
  known = functions_known (given_of d.program p is.live.0 parts is.program is.stand is.live.1 is.meant)

  known_slots : All K (slots mode parts (functions mode p parts))
  unfolding slots
  known_slots = all_filtered K (is_taken (map ref_function (filter (takes_slot mode) (refs_of parts)))) (functions mode p parts) known

  pub function_placed : (f : keys.FunctionKey) → K f → position (same_function_key (told_function names imports f)) d.numbering.now.functions ≡ position (same_function f) (functions mode p parts)
  function_placed f kf =
      ap (position (same_function_key (told_function names imports f))) is.numbering.functions
      ∙ position_of_map (told_function names imports) (same_function f) (same_function_key (told_function names imports f)) (functions mode p parts)
      (λ k e below. tells_function names imports f (get_or (functions mode p parts) k e) kf (known k e below))

  pub slot_placed : (f : keys.FunctionKey) → K f → slot_among d.numbering.now (told_function names imports f) ≡ slot_place (layout mode p parts es) f
  unfolding layout
  slot_placed f kf =
      let ss = slots mode parts (functions mode p parts) in
      let at = ap (position (same_function_key (told_function names imports f))) is.numbering.slots
      ∙ position_of_map (told_function names imports) (same_function f) (same_function_key (told_function names imports f)) ss
      (λ k e below. tells_function names imports f (get_or ss k e) kf (known_slots k e below)) in
      let first = is.numbering.first_slot in
      λ i. option_map (λ k. first i + k) (at i)

  pub global_placed : (g : keys.GlobalKey) → IsMeant imports g → global_among d.numbering.now (told_global imports g) ≡ global_place (layout mode p parts es) g
  unfolding layout
  global_placed g kg =
      let gs = globals mode p parts es in
      ap (position (same_global_key (told_global imports g))) is.numbering.globals
      ∙ position_of_map (told_global imports) (same_global g) (same_global_key (told_global imports g)) gs
      (λ k e below. tells imports g (get_or gs k e) kg (globals_stand imports mode p parts es (imports_held mode p parts es d is) k e below))
