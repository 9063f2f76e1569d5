-- What is known of a program by its data: all functions and cells as they are told, and what references mean among them.
use Rattle.std.proofs.Common.{◌≡◌, ℕ, ◌==◌, Bool, true, false, not, ◌&&◌, ◌||◌, List, [], ◌∷◌, ◌++◌, map, filter, filter_map, flat_map, get_or, position, None, refl, sym, ap, subst, ◌∙◌}
use Rattle.std.specs.Prelude.{if◌then◌else◌, bytes_eq}
use Rattle.std.specs.List.{list_any, All, cons_option}
use Rattle.std.proofs.lemmas.Bool.{eqb-true}
use Rattle.std.proofs.lemmas.List.{map-append}
use Rattle.std.proofs.lemmas.List.Elements.{All-head, All-tail, All-cons, All-append, All-map}
use Rattle.link_program.specs.wl_base.Choice.{distinct, given}
use Rattle.link_program.specs.link_names.Numbered.{entry_names, group_names, all_names, different_names}
use Rattle.link_program.specs.made_symbols.declared.mode.Mode.TheVariants.{Plain}
use Rattle.link_program.specs.made_symbols.Made.{made}
use Rattle.link_program.specs.name_rules.Entries.{InputSymbol, ImportKey, same_import, name_of}
use Rattle.link_program.specs.name_rules.Meanings.{Meaning, here, imported, null, nothing, is_nothing}
use Rattle.link_program.specs.name_entries.View.{entry_number}
use Rattle.link_program.specs.link_rules.Program as rules
use Rattle.link_program.specs.link_rules.Program.{Ref}
use Rattle.link_program.specs.link_rules.Marks.{refs_of}
use Rattle.link_program.specs.link_rules.Keys as keys
use Rattle.link_program.specs.link_rules.Keys.{outside, stub, outside_global, linker_global, own_global, got, same_function, same_global, meant_function, global_of, meant_global, ref_got, import_of, imports_in_order, is_global_type, made_global_key, own_global_key, callable}
use Rattle.link_program.specs.link_rules.LinkOf.{asked_names}
use Rattle.link_program.specs.declared.keys.FunctionKey.{FunctionKey}
use Rattle.link_program.specs.declared.keys.GlobalKey.{GlobalKey}
use Rattle.link_program.specs.declared.keys.GlobalKey.TheVariants as globals
use Rattle.link_program.specs.declared.program.Program.{Program as Data}
use Rattle.link_program.specs.Told.{told_definition, told_lead}
use Rattle.link_program.specs.Meant.{index_of}
use Rattle.link_program.specs.Keys.{told_function, told_global, same_function_key, same_global_key}
use Rattle.link_program.specs.Program.{IsProgramOf}
use Rattle.link_program.specs.Stand.{PartsStand}
use Rattle.link_keys.proofs.Any.{all_none, any_left}
use Rattle.link_keys.proofs.Equals.{OnePlace, one_place, holds_distinct}
use Rattle.link_keys.proofs.Imports.{import_equal, import_itself, name_equal, name_itself}
use Rattle.link_keys.proofs.Positions.{position_of_map, position_none}
use Rattle.link_keys.proofs.StubsTold.{later_names, names_in_order}
use Rattle.link_numbers.specs.Knows.{KnowsFunction, KnowsGlobal}
use Rattle.link_numbers.proofs.Knows.{tells_function, tells_global}
use Rattle.link_numbers.proofs.Ordered.{IsNot, one, held}
use Rattle.link_image.proofs.link_layout_lemmas.KeysTold.{function_told, function_known}
use Rattle.link_worlds.specs.Names as rules_names
use Rattle.link_worlds.specs.Names.{all_functions, all_cells}
use Rattle.sym_parts.specs.Keys.{functions_of, cells_of}
use Rattle.sym_parts.specs.Ops as seen
use Rattle.sym_functions.proofs.Known.{KnownMeaning, KnownRef, all_known}
use Rattle.sym_functions.proofs.Listed as listed

pub none_any : {A : Type 0} (test : A → Bool) (xs : List A) → All (λ x. test x ≡ false) xs → list_any test xs ≡ false
none_any test [] all = refl
none_any test (x ∷ xs) all = ap (λ b. b || list_any test xs) (All-head (λ x. test x ≡ false) x xs all) ∙ none_any test xs (All-tail (λ x. test x ≡ false) x xs all)

all_mapped : {A B : Type 0} (P : B → Type 0) (f : A → B) → ((x : A) → P (f x)) → (xs : List A) → All P (map f xs)
all_mapped P f each [] = all_none P
all_mapped P f each (x ∷ xs) = All-cons P (f x) (map f xs) (each x) (all_mapped P f each xs)

given_all : {A B : Type 0} (P : B → Type 0) (test : A → Bool) (f : A → B) → ((x : A) → P (f x)) → (xs : List A) → All P (filter_map (λ x. given (test x) (f x)) xs)
given_all P test f each [] = all_none P
given_all {A} {B} P test f each (x ∷ xs) = by_test (test x) (given_all P test f each xs)
  where
    by_test : (r : Bool) → All P (filter_map (λ x. given (test x) (f x)) xs) → All P (cons_option (given r (f x)) (filter_map (λ x. given (test x) (f x)) xs))
    by_test true rest = All-cons P (f x) (filter_map (λ x. given (test x) (f x)) xs) (each x) rest
    by_test false rest = rest

module _ (d : Data) (p : rules.Program) (is : IsProgramOf Plain d p) (stand : PartsStand p) where
  abbrev pub names_of : List (List ℕ)
  names_of = d.names.now.names

  abbrev pub imports_of : List ImportKey
  imports_of = d.resolution.now.imports

  abbrev pub all_fs : List FunctionKey
  all_fs = functions_of imports_of d.tables.now

  abbrev pub all_gs : List GlobalKey
  all_gs = cells_of imports_of d.tables.now

  -- ---- names: those of entries, those behind them, and those of variants

  abbrev words : List (List ℕ)
  words = asked_names p.plan ++ p.plan.exports_if

  abbrev first : List (List ℕ)
  first = map name_of p.entries

  abbrev last : List (List ℕ)
  last = map name_of p.variants

  abbrev pub others : List (List ℕ)
  others = first ++ later_names words p.objects

  first_in_order : different_names Plain words p.objects ≡ distinct bytes_eq others
  first_in_order = names_in_order words p.objects ∙ ap (λ es. distinct bytes_eq (map name_of es ++ later_names words p.objects)) (sym is.entries)

  pub in_order : names_of ≡ distinct bytes_eq others ++ distinct bytes_eq last
  in_order = is.order ∙ ap (λ ns. ns ++ distinct bytes_eq last) first_in_order

  pub apart : All (IsNot (distinct bytes_eq others)) last
  apart = subst (λ ns. All (IsNot ns) last) first_in_order (All-map (IsNot (different_names Plain words p.objects)) name_of p.variants is.apart)

  pub first_among : (name : List ℕ) → list_any (bytes_eq name) first ≡ true → list_any (bytes_eq name) others ≡ true
  first_among name there = any_left (bytes_eq name) first (later_names words p.objects) there

  pub one_name : OnePlace bytes_eq name_equal name_itself names_of
  one_name = one names_of first (later_names words p.objects) last in_order apart

  names_held : (name : List ℕ) → list_any (bytes_eq name) (map name_of (callable p)) ≡ true → list_any (bytes_eq name) names_of ≡ true
  names_held name there =
      held names_of first (later_names words p.objects) last in_order apart name (subst (λ ns. list_any (bytes_eq name) ns ≡ true) (map-append name_of p.entries p.variants) there)

  -- the names of the linker's symbols are among the first
  made_first : (name : List ℕ) → list_any (bytes_eq name) (map (λ m. m.name) (made Plain)) ≡ true → list_any (bytes_eq name) (different_names Plain words p.objects) ≡ true
  made_first name there = holds_distinct bytes_eq name_equal name_itself (all_names Plain words p.objects) name
      (any_left (bytes_eq name) (map (λ m. m.name) (made Plain) ++ flat_map entry_names p.objects ++ flat_map group_names p.objects) words
      (any_left (bytes_eq name) (map (λ m. m.name) (made Plain) ++ flat_map entry_names p.objects) (flat_map group_names p.objects)
      (any_left (bytes_eq name) (map (λ m. m.name) (made Plain)) (flat_map entry_names p.objects) there)))

  -- ---- functions and cells

  one_import : OnePlace same_import import_equal import_itself imports_of
  unfolding imports_in_order
  one_import = subst (λ ks. OnePlace same_import import_equal import_itself ks) (sym is.imports) (one_place same_import import_equal import_itself (filter_map import_of (flat_map (λ r. r.meanings) p.resolved)))

  pub known : All (KnownRef imports_of (callable p)) (refs_of p.parts)
  known =
      subst (λ ks. All (KnownRef ks (callable p)) (refs_of p.parts)) (sym is.imports)
      (all_known p is.entries is.resolved (different_names Plain words p.objects) made_first is.variants_are is.apart p.parts stand)

  pub functions_are : all_fs ≡ map (told_function names_of imports_of) (all_functions p)
  functions_are = listed.functions_are names_of imports_of (callable p) names_held d.tables.now p is.tables is.imports one_import known

  abbrev pub stub_names : List (List ℕ)
  stub_names = distinct bytes_eq (filter_map rules_names.null_name (refs_of p.parts))

  pub stubs_known : All (listed.StubName names_of) stub_names
  stubs_known = listed.stubs_known names_of imports_of (callable p) names_held d.tables.now p is.tables is.imports one_import known

  pub functions_known : All (KnowsFunction names_of imports_of) (all_functions p)
  functions_known = listed.functions_known names_of imports_of (callable p) names_held d.tables.now p is.tables is.imports one_import known

  pub cells_are : all_gs ≡ map (told_global imports_of) (all_cells p)
  cells_are = listed.cells_are names_of imports_of (callable p) names_held d.tables.now p is.tables is.imports one_import known

  pub cells_known : All (KnowsGlobal imports_of) (all_cells p)
  cells_known = listed.cells_known names_of imports_of (callable p) names_held d.tables.now p is.tables is.imports one_import known

  -- ---- places

  pub function_at : (f : keys.FunctionKey) → KnowsFunction names_of imports_of f → position (same_function_key (told_function names_of imports_of f)) all_fs ≡ rules_names.function_place p f
  function_at f known_f =
      ap (position (same_function_key (told_function names_of imports_of f))) functions_are
      ∙ position_of_map (told_function names_of imports_of) (same_function f) (same_function_key (told_function names_of imports_of f)) (all_functions p)
      (λ k d below. tells_function names_of imports_of f (get_or (all_functions p) k d) known_f (functions_known k d below))

  pub cell_at : (g : keys.GlobalKey) → KnowsGlobal imports_of g → position (same_global_key (told_global imports_of g)) all_gs ≡ rules_names.cell_place p g
  cell_at g known_g =
      ap (position (same_global_key (told_global imports_of g))) cells_are
      ∙ position_of_map (told_global imports_of) (same_global g) (same_global_key (told_global imports_of g)) (all_cells p)
      (λ k d below. tells_global imports_of g (get_or (all_cells p) k d) known_g (cells_known k d below))

  -- ---- functions that are called

  pub meant_told : (e : InputSymbol) (m : Meaning) → KnownMeaning imports_of (callable p) e m
      → seen.function_place all_fs (entry_number names_of e) (told_lead imports_of m) ≡ (if is_nothing m then None else rules_names.function_place p (meant_function (name_of e) m))
  meant_told e (here y) known = ap (λ f. position (same_function_key f) all_fs) (function_told names_of imports_of y) ∙ function_at (keys.function_of y) (function_known names_of imports_of y)
  meant_told e (imported k) known = function_at (outside k) known
  meant_told e null known =
      let there = names_held (name_of e) known.named in
      ap (seen.stub_place all_fs) (listed.name_told names_of imports_of (callable p) names_held e known.entry there) ∙ function_at (stub (name_of e)) there
  meant_told e nothing known = refl

  -- ---- cells that are meant

  own_cell_told : (y : InputSymbol) (r : Bool) → (y.input == 0) ≡ r → globals.Own y.input (if r then y.place else y.index) ≡ told_global imports_of (if r then linker_global y.place else own_global y.input y.index)
  own_cell_told y true is = ap (λ i. globals.Own i y.place) (eqb-true y.input 0 is)
  own_cell_told y false is = refl

  own_cell_known : (y : InputSymbol) (r : Bool) → (y.input == 0) ≡ r → KnowsGlobal imports_of (if r then linker_global y.place else own_global y.input y.index)
  own_cell_known y true is = tt
  own_cell_known y false is = is

  -- the cell of a definition
  pub own_cell : (y : InputSymbol) → position (same_global_key (globals.Own y.input (index_of (told_definition y)))) all_gs ≡ rules_names.cell_place p (global_of Plain y)
  own_cell y = ap (λ g. position (same_global_key g) all_gs) (own_cell_told y (y.input == 0) refl) ∙ cell_at (global_of Plain y) (own_cell_known y (y.input == 0) refl)

  abbrev NoGot : keys.GotKey → keys.GlobalKey → Type 0
  NoGot key g = same_global (got key) g ≡ false

  no_got : (key : keys.GotKey) → rules_names.cell_place p (got key) ≡ None
  no_got key =
      let outs = map outside_global (filter (λ k. is_global_type k.type) (imports_in_order p)) in
      let made = filter_map made_global_key p.parts in
      let owns = filter_map own_global_key p.parts in
      position_none (same_global (got key)) (all_cells p)
      (none_any (same_global (got key)) (all_cells p)
      (All-append (NoGot key) (outs ++ made) owns
      (All-append (NoGot key) outs made (all_mapped (NoGot key) outside_global (λ k. refl) (filter (λ k. is_global_type k.type) (imports_in_order p)))
      (given_all (NoGot key) (λ (part : rules.Part). (part.chunk.input == 0) && (part.chunk.kind == 2)) (λ part. linker_global part.chunk.index) (λ part. refl) p.parts))
      (given_all (NoGot key) (λ (part : rules.Part). not (part.chunk.input == 0) && (part.chunk.kind == 2)) (λ part. own_global part.chunk.input part.chunk.index) (λ part. refl) p.parts)))

  pub cell_told : (ref : Ref) (m : Meaning) → KnownMeaning imports_of (callable p) ref.entry m → seen.cell_place all_gs (told_lead imports_of m) ≡ rules_names.cell_place p (meant_global Plain ref m)
  cell_told ref (here y) held = own_cell y
  cell_told ref (imported k) held = cell_at (outside_global k) held
  cell_told ref null held = sym (no_got (ref_got ref))
  cell_told ref nothing held = sym (no_got (ref_got ref))
