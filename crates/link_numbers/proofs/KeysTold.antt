-- Functions, slots and globals, as they are told.
use Rattle.std.proofs.Common.{◌≡◌, ℕ, ◌==◌, Bool, true, false, not, ◌&&◌, cond, List, [], ◌∷◌, ◌++◌, map, filter, filter_map, Option, Some, None, option_map, refl, sym, ap, ◌∙◌, arith}
use Rattle.std.specs.Prelude.{if◌then◌else◌, bytes_eq}
use Rattle.std.specs.List.{list_any, All, cons_option}
use Rattle.std.proofs.lemmas.Bool.Decides.{nat_tests}
use Rattle.std.proofs.lemmas.List.{map-append}
use Rattle.std.proofs.lemmas.List.Elements.{All-head, All-tail, filter_map-append, filter-append}
use Rattle.link_keys.specs.link_program.wl_base.Choice.{distinct, given}
use Rattle.link_keys.specs.link_program.linking_section.declared.symbol.SymbolKind.TheVariants.{Datum}
use Rattle.link_keys.specs.link_program.linking_section.Flags.{kind_code}
use Rattle.link_keys.specs.link_program.made_symbols.declared.mode.Mode.{Mode}
use Rattle.link_keys.specs.link_program.made_symbols.declared.mode.Mode.TheVariants.{Plain}
use Rattle.link_keys.specs.link_program.name_rules.Entries.{InputSymbol, ImportKey, is_kind, name_of}
use Rattle.link_keys.specs.link_program.name_rules.Meanings.{Meaning, here, imported, null, nothing}
use Rattle.link_keys.specs.link_program.link_rules.Program as rules
use Rattle.link_keys.specs.link_program.link_rules.Program.{Ref, refs}
use Rattle.link_keys.specs.link_program.link_rules.Marks.{refs_of, reads_cell}
use Rattle.link_keys.specs.link_program.link_rules.Keys as keys
use Rattle.link_keys.specs.link_program.link_rules.Keys.{outside, linker_function, stub, own, same_function, got_entry, got_import, got_null, same_got, outside_global, linker_global, own_global, got, exported_datum, meant_function, ref_function, got_of, ref_got, is_null, takes_slot, is_taken, made_function_key, own_function_key, made_global_key, own_global_key, got_entries, parts_of_kind, needs_got, datum_key}
use Rattle.link_keys.specs.link_program.declared.keys.FunctionKey.{FunctionKey}
use Rattle.link_keys.specs.link_program.declared.keys.FunctionKey.TheVariants as functions
use Rattle.link_keys.specs.link_program.declared.keys.GlobalKey.TheVariants as globals
use Rattle.link_keys.specs.link_program.Told.{told_definition, told_lead, told_winner}
use Rattle.link_keys.specs.link_program.Keys.{told_function, told_got, told_global, same_function_key, same_got_key}
use Rattle.link_keys.specs.declared.codes.Code.{Code}
use Rattle.link_keys.specs.Codes.{same_code, function_code}
use Rattle.link_keys.specs.link_program.Meant.{function_of, cell_meant}
use Rattle.link_keys.specs.Noted.{where_so, function_meant, asks_slot}
use Rattle.link_keys.specs.Lists.{is_own, own_function_in, own_global_in, is_taken_code, slots_listed, datum_listed}
use Rattle.link_numbers.specs.Knows.{KnowsFunction, KnowsGot}
use Rattle.link_keys.proofs.Any.{all_each, all_map, all_filtered}
use Rattle.link_keys.proofs.Equals.{any_distinct}
use Rattle.link_keys.proofs.Heard.{slot_asked, cell_asked}
use Rattle.link_keys.proofs.Imports.{both}
use Rattle.link_keys.proofs.Known.{KnownMeaning, KnownRef}
use Rattle.link_numbers.proofs.Knows.{same_function_code, tells_function, tells_got}
use Rattle.link_keys.proofs.LiveTold.{told_live, part_code, part_refs, told_refs, chosen_all}
use Rattle.link_keys.proofs.ToldLists.{any_told, filter_told, distinct_told}

-- ---- codes

code_equal : (x y : Code) → same_code x y ≡ true → x ≡ y
code_equal x y e = let a : x.kind ≡ y.kind = grind (arith, nat_tests) in let b : x.input ≡ y.input = grind (arith, nat_tests) in let d : x.index ≡ y.index = grind (arith, nat_tests) in
    λ i. record { kind = a i; input = b i; index = d i }

code_itself : (x : Code) → same_code x x ≡ true
code_itself x = grind (arith, nat_tests)

-- ---- functions that are meant

module _ (names : List (List ℕ)) (imports : List ImportKey) where
  own_told : (d : InputSymbol) (r : Bool) → (d.input == 0) ≡ r → function_of (told_definition d) ≡ told_function names imports (if r then linker_function d.place else own d.input d.index)
  own_told d true is =
      let zero_input : d.input ≡ 0 = grind (arith, nat_tests) in
      ap (λ r. functions.Own d.input (if r then d.place else d.index)) is ∙ ap (λ i. functions.Own i d.place) zero_input
  own_told d false is = ap (λ r. functions.Own d.input (if r then d.place else d.index)) is

  -- what a reference takes, put before others
  taken_one : (mode : Mode) (all : List InputSymbol) (e : InputSymbol) (m : Meaning) (a : Bool) (rest : List FunctionKey) → KnownMeaning mode imports all e m
      → cons_option (where_so a (function_meant (told_lead imports m))) rest ≡ cond (not (is_null m) && a) (told_function names imports (meant_function (name_of e) m) ∷ rest) rest
  taken_one mode all e (here d) true rest known = ap (λ f. f ∷ rest) (own_told d (d.input == 0) refl)
  taken_one mode all e (here d) false rest known = refl
  taken_one mode all e (imported k) true rest known = refl
  taken_one mode all e (imported k) false rest known = refl
  taken_one mode all e null true rest known = refl
  taken_one mode all e null false rest known = refl
  taken_one mode all e nothing a rest known = absurd known

  kept_told : {A B : Type 0} (f : A → B) (r : Bool) (x : A) (xs : List A) → cond r (f x ∷ map f xs) (map f xs) ≡ map f (cond r (x ∷ xs) xs)
  kept_told f true x xs = refl
  kept_told f false x xs = refl

  abbrev pub taken_functions : List Ref → List keys.FunctionKey
  taken_functions rs = map ref_function (filter (takes_slot Plain) rs)

  function_kept : (r : Bool) (ref : Ref) (rs : List Ref) → cond r (told_function names imports (ref_function ref) ∷ map (told_function names imports) (map ref_function rs)) (map (told_function names imports) (map ref_function rs))
      ≡ map (told_function names imports) (map ref_function (cond r (ref ∷ rs) rs))
  function_kept true ref rs = refl
  function_kept false ref rs = refl

  abbrev slot_of_ref : Ref → Option FunctionKey
  slot_of_ref ref = where_so (asks_slot ref.kind ref.entry.symbol.kind) (function_meant (told_lead imports ref.meaning))

  taken_told_refs : (mode : Mode) (all : List InputSymbol) (rs : List Ref) → All (KnownRef mode imports all) rs → filter_map slot_of_ref rs ≡ map (told_function names imports) (taken_functions rs)
  taken_told_refs mode all [] known = refl
  taken_told_refs mode all (ref ∷ rs) known =
      taken_one mode all ref.entry ref.meaning (asks_slot ref.kind ref.entry.symbol.kind) (filter_map slot_of_ref rs) (All-head (KnownRef mode imports all) ref rs known)
      ∙ ap (λ rest. cond (takes_slot Plain ref) (told_function names imports (ref_function ref) ∷ rest) rest) (taken_told_refs mode all rs (All-tail (KnownRef mode imports all) ref rs known))
      ∙ function_kept (takes_slot Plain ref) ref (filter (takes_slot Plain) rs)

  -- The functions whose slots are taken.
  pub taken_told : (mode : Mode) (all : List InputSymbol) (parts : List rules.Part) → All (KnownRef mode imports all) (refs_of parts) → filter_map slot_asked (told_refs names imports parts) ≡ map (told_function names imports) (taken_functions (refs_of parts))
  taken_told mode all parts known = chosen_all names imports slot_asked slot_of_ref (λ code ref. refl) parts ∙ taken_told_refs mode all (refs_of parts) known

  -- ---- cells

  cell_one : (kind : ℕ) (m : Meaning) → cell_meant kind (told_lead imports m) ≡ told_got imports (got_of kind m)
  cell_one kind (here d) = refl
  cell_one kind (imported k) = refl
  cell_one kind null = refl
  cell_one kind nothing = refl

  abbrev pub read_cells : List Ref → List keys.GotKey
  read_cells rs = map ref_got (filter (needs_got Plain) rs)

  cell_kept : (r : Bool) (ref : Ref) (rs : List Ref) → cons_option (where_so r (Some (told_got imports (ref_got ref)))) (map (told_got imports) (map ref_got rs))
      ≡ map (told_got imports) (map ref_got (cond r (ref ∷ rs) rs))
  cell_kept true ref rs = refl
  cell_kept false ref rs = refl

  cells_told_code : (rs : List Ref) → filter_map cell_asked (map (told_live names imports true) rs) ≡ map (told_got imports) (read_cells rs)
  cells_told_code [] = refl
  cells_told_code (ref ∷ rs) =
      ap (λ g. cons_option (where_so (reads_cell ref) (Some g)) (filter_map cell_asked (map (told_live names imports true) rs))) (cell_one (kind_code ref.entry.symbol.kind) ref.meaning)
      ∙ ap (λ rest. cons_option (where_so (reads_cell ref) (Some (told_got imports (ref_got ref)))) rest) (cells_told_code rs)
      ∙ cell_kept (reads_cell ref) ref (filter (needs_got Plain) rs)

  cells_told_other : (rs : List Ref) → filter_map cell_asked (map (told_live names imports false) rs) ≡ []
  cells_told_other [] = refl
  cells_told_other (ref ∷ rs) = cells_told_other rs

  cells_append : (xs ys : List Ref) → read_cells (xs ++ ys) ≡ read_cells xs ++ read_cells ys
  cells_append xs ys = ap (map ref_got) (filter-append (needs_got Plain) xs ys) ∙ map-append ref_got (filter (needs_got Plain) xs) (filter (needs_got Plain) ys)

  cells_of_part : (r : Bool) (part : rules.Part) (rest : List rules.Part) → filter_map cell_asked (map (told_live names imports r) (refs part)) ++ map (told_got imports) (read_cells (refs_of rest))
      ≡ map (told_got imports) (read_cells (refs_of (cond r (part ∷ rest) rest)))
  cells_of_part true part rest =
      ap (λ xs. xs ++ map (told_got imports) (read_cells (refs_of rest))) (cells_told_code (refs part))
      ∙ sym (map-append (told_got imports) (read_cells (refs part)) (read_cells (refs_of rest)))
      ∙ ap (map (told_got imports)) (sym (cells_append (refs part) (refs_of rest)))
  cells_of_part false part rest = ap (λ xs. xs ++ map (told_got imports) (read_cells (refs_of rest))) (cells_told_other (refs part))

  -- The cells that code reads, in the order of the references.
  pub cells_told : (parts : List rules.Part) → filter_map cell_asked (told_refs names imports parts) ≡ map (told_got imports) (read_cells (refs_of (parts_of_kind 0 parts)))
  cells_told [] = refl
  cells_told (part ∷ parts) =
      filter_map-append cell_asked (part_refs names imports part) (told_refs names imports parts)
      ∙ ap (λ xs. filter_map cell_asked (part_refs names imports part) ++ xs) (cells_told parts)
      ∙ cells_of_part (part_code names imports part) part (parts_of_kind 0 parts)

  -- ---- what parts define

  pub given_told : {A B : Type 0} (f : A → B) (r s : Bool) (x : A) (y : B) → r ≡ s → (s ≡ true → y ≡ f x) → where_so r (Some y) ≡ option_map f (given s x)
  given_told f true true x y same is = ap Some (is refl)
  given_told f false false x y same is = refl
  given_told f true false x y same is = absurd cc
  given_told f false true x y same is = absurd cc

  pub and_swap : (a b : Bool) → (a && b) ≡ (b && a)
  and_swap true true = refl
  and_swap true false = refl
  and_swap false true = refl
  and_swap false false = refl

  pub made_function : (part : rules.Part) → own_function_in true part.chunk ≡ option_map (told_function names imports) (made_function_key part)
  made_function part =
      given_told (told_function names imports) (is_own 0 true part.chunk) ((part.chunk.input == 0) && (part.chunk.kind == 0)) (linker_function part.chunk.index) (functions.Own part.chunk.input part.chunk.index)
      (and_swap (part.chunk.kind == 0) (part.chunk.input == 0))
      (λ is. let first : (part.chunk.input == 0) ≡ true = (both (part.chunk.input == 0) (part.chunk.kind == 0) is).0 in let none : part.chunk.input ≡ 0 = grind (arith, nat_tests) in ap (λ i. functions.Own i part.chunk.index) none)

  pub own_function_told : (part : rules.Part) → own_function_in false part.chunk ≡ option_map (told_function names imports) (own_function_key part)
  own_function_told part =
      given_told (told_function names imports) (is_own 0 false part.chunk) (not (part.chunk.input == 0) && (part.chunk.kind == 0)) (own part.chunk.input part.chunk.index) (functions.Own part.chunk.input part.chunk.index)
      (and_swap (part.chunk.kind == 0) (not (part.chunk.input == 0))) (λ is. refl)

  pub made_global : (part : rules.Part) → own_global_in true part.chunk ≡ option_map (told_global imports) (made_global_key part)
  made_global part =
      given_told (told_global imports) (is_own 2 true part.chunk) ((part.chunk.input == 0) && (part.chunk.kind == 2)) (linker_global part.chunk.index) (globals.Own part.chunk.input part.chunk.index)
      (and_swap (part.chunk.kind == 2) (part.chunk.input == 0))
      (λ is. let first : (part.chunk.input == 0) ≡ true = (both (part.chunk.input == 0) (part.chunk.kind == 2) is).0 in let none : part.chunk.input ≡ 0 = grind (arith, nat_tests) in ap (λ i. globals.Own i part.chunk.index) none)

  pub own_global_told : (part : rules.Part) → own_global_in false part.chunk ≡ option_map (told_global imports) (own_global_key part)
  own_global_told part =
      given_told (told_global imports) (is_own 2 false part.chunk) (not (part.chunk.input == 0) && (part.chunk.kind == 2)) (own_global part.chunk.input part.chunk.index) (globals.Own part.chunk.input part.chunk.index)
      (and_swap (part.chunk.kind == 2) (not (part.chunk.input == 0))) (λ is. refl)

  pub datum_told : (e : InputSymbol) → datum_listed (told_winner names e) ≡ option_map (told_global imports) (datum_key e)
  datum_told e = given_told (told_global imports) (is_kind Datum e) (is_kind Datum e) (exported_datum e) (globals.Datum (told_definition e)) refl (λ is. refl)

  filter_map_told : {A X Y : Type 0} (h : A → Option Y) (g : A → Option X) (f : X → Y) (each : (a : A) → h a ≡ option_map f (g a)) (xs : List A) → filter_map h xs ≡ map f (filter_map g xs)
  filter_map_told h g f each [] = refl
  filter_map_told {A} {X} {Y} h g f each (x ∷ xs) = ap (λ o. cons_option o (filter_map h xs)) (each x) ∙ ap (λ r. cons_option (option_map f (g x)) r) (filter_map_told h g f each xs) ∙ by_option (g x)
    where
      by_option : (o : Option X) → cons_option (option_map f o) (map f (filter_map g xs)) ≡ map f (cons_option o (filter_map g xs))
      by_option None = refl
      by_option (Some y) = refl

  pub made_functions_told : (parts : List rules.Part) → filter_map (λ part. own_function_in true part.chunk) parts ≡ map (told_function names imports) (filter_map made_function_key parts)
  made_functions_told parts = filter_map_told (λ part. own_function_in true part.chunk) made_function_key (told_function names imports) made_function parts

  pub own_functions_told : (parts : List rules.Part) → filter_map (λ part. own_function_in false part.chunk) parts ≡ map (told_function names imports) (filter_map own_function_key parts)
  own_functions_told parts = filter_map_told (λ part. own_function_in false part.chunk) own_function_key (told_function names imports) own_function_told parts

  pub made_globals_told : (parts : List rules.Part) → filter_map (λ part. own_global_in true part.chunk) parts ≡ map (told_global imports) (filter_map made_global_key parts)
  made_globals_told parts = filter_map_told (λ part. own_global_in true part.chunk) made_global_key (told_global imports) made_global parts

  pub own_globals_told : (parts : List rules.Part) → filter_map (λ part. own_global_in false part.chunk) parts ≡ map (told_global imports) (filter_map own_global_key parts)
  own_globals_told parts = filter_map_told (λ part. own_global_in false part.chunk) own_global_key (told_global imports) own_global_told parts

  pub data_told : (es : List InputSymbol) → filter_map datum_listed (map (told_winner names) es) ≡ map (told_global imports) (filter_map datum_key es)
  data_told [] = refl
  data_told (e ∷ es) = ap (λ o. cons_option o (filter_map datum_listed (map (told_winner names) es))) (datum_told e) ∙ ap (λ r. cons_option (option_map (told_global imports) (datum_key e)) r) (data_told es) ∙ by_option (datum_key e)
    where
      by_option : (o : Option keys.GlobalKey) → cons_option (option_map (told_global imports) o) (map (told_global imports) (filter_map datum_key es)) ≡ map (told_global imports) (cons_option o (filter_map datum_key es))
      by_option None = refl
      by_option (Some y) = refl

  -- ---- slots

  code_held : (key : FunctionKey) (ks : List FunctionKey) → list_any (same_code (function_code key)) (map function_code ks) ≡ list_any (same_function_key key) ks
  code_held key ks = any_told function_code same_function_key same_code (λ k. Unit {0}) (λ a b ka kb. same_function_code a b) key ks tt (λ k d below. tt)

  filter_same : {A : Type 0} (p q : A → Bool) (each : (x : A) → p x ≡ q x) (xs : List A) → filter p xs ≡ filter q xs
  filter_same p q each [] = refl
  filter_same p q each (x ∷ xs) = ap (λ r. cond r (x ∷ filter p xs) (filter p xs)) (each x) ∙ ap (λ ys. cond (q x) (x ∷ ys) ys) (filter_same p q each xs)

  pub slots_told : (codes : List Code) (taken fs : List keys.FunctionKey) → codes ≡ distinct same_code (map function_code (map (told_function names imports) taken))
      → All (KnowsFunction names imports) taken → All (KnowsFunction names imports) fs
      → slots_listed codes (map (told_function names imports) fs) ≡ map (told_function names imports) (filter (is_taken taken) fs)
  slots_told codes taken fs are kt kf =
      filter_same (is_taken_code codes) (λ b. list_any (same_function_key b) (map (told_function names imports) taken))
      (λ key. ap (list_any (same_code (function_code key))) are
      ∙ any_distinct same_code code_equal code_itself (map function_code (map (told_function names imports) taken)) (function_code key)
      ∙ code_held key (map (told_function names imports) taken))
      (map (told_function names imports) fs)
      ∙ filter_told (told_function names imports) same_function same_function_key (KnowsFunction names imports) (tells_function names imports) taken fs kt kf

  -- ---- what is known of keys

  function_of_known : (d : InputSymbol) (r : Bool) → (d.input == 0) ≡ r → KnowsFunction names imports (if r then linker_function d.place else own d.input d.index)
  function_of_known d true is = tt
  function_of_known d false is = is

  module _ (mode : Mode) (all : List InputSymbol) (held : (name : List ℕ) → list_any (bytes_eq name) (map name_of all) ≡ true → list_any (bytes_eq name) names ≡ true) where
    meant_known : (e : InputSymbol) (m : Meaning) → KnownMeaning mode imports all e m → KnowsFunction names imports (meant_function (name_of e) m)
    meant_known e (here d) known = function_of_known d (d.input == 0) refl
    meant_known e (imported k) known = known
    meant_known e null known = held (name_of e) known.named
    meant_known e nothing known = absurd known

    pub ref_function_known : (ref : Ref) → KnownRef mode imports all ref → KnowsFunction names imports (ref_function ref)
    ref_function_known ref known = meant_known ref.entry ref.meaning known

    got_known : (kind : ℕ) (e : InputSymbol) (m : Meaning) → KnownMeaning mode imports all e m → KnowsGot imports (got_of kind m)
    got_known kind e (here d) known = tt
    got_known kind e (imported k) known = known
    got_known kind e null known = tt
    got_known kind e nothing known = tt

    pub ref_got_known : (ref : Ref) → KnownRef mode imports all ref → KnowsGot imports (ref_got ref)
    ref_got_known ref known = got_known (kind_code ref.entry.symbol.kind) ref.entry ref.meaning known

    pub all_taken_known : (rs : List Ref) → All (KnownRef mode imports all) rs → All (KnowsFunction names imports) (taken_functions rs)
    all_taken_known rs known =
        all_map (KnowsFunction names imports) ref_function (filter (takes_slot Plain) rs)
        (all_each (KnownRef mode imports all) (λ ref. KnowsFunction names imports (ref_function ref)) ref_function_known (filter (takes_slot Plain) rs) (all_filtered (KnownRef mode imports all) (takes_slot Plain) rs known))

    pub all_cells_known : (rs : List Ref) → All (KnownRef mode imports all) rs → All (KnowsGot imports) (read_cells rs)
    all_cells_known rs known =
        all_map (KnowsGot imports) ref_got (filter (needs_got Plain) rs)
        (all_each (KnownRef mode imports all) (λ ref. KnowsGot imports (ref_got ref)) ref_got_known (filter (needs_got Plain) rs) (all_filtered (KnownRef mode imports all) (needs_got Plain) rs known))

  -- The cells, each once.
  pub cells_once : (ks : List keys.GotKey) → All (KnowsGot imports) ks → distinct same_got_key (map (told_got imports) ks) ≡ map (told_got imports) (distinct same_got ks)
  cells_once ks known = distinct_told (told_got imports) same_got same_got_key (KnowsGot imports) (tells_got imports) ks known
