-- The words of live data and of own cells, as the data tell them, are those of the definition.
use Rattle.std.proofs.Common.{◌≡◌, ℕ, zero, suc, ◌+◌, ◌==◌, Bool, true, false, not, ◌&&◌, ◌||◌, cond, List, [], ◌∷◌, ◌++◌, map, filter, filter_map, flat_map, get_or, slice_get, Option, Some, None, unwrap_or, refl, sym, ap, subst, ◌∙◌, arith, ℤ, pos, ◌+ℤ◌}
use Rattle.std.specs.Prelude.{if◌then◌else◌, bytes_eq}
use Rattle.std.specs.List.{list_any, list_all, cons_option}
use Rattle.std.proofs.lemmas.Bool.{and_parts}
use Rattle.link_program.specs.wl_base.Names.{number_of}
use Rattle.link_program.specs.linking_section.Flags.{kind_code}
use Rattle.link_program.specs.linking_section.declared.symbol.SymbolKind.TheVariants.{Function, Datum, GlobalVar}
use Rattle.link_program.specs.index_layout.Numbers.{number_by}
use Rattle.link_program.specs.made_symbols.declared.mode.Mode.TheVariants.{Shared}
use Rattle.link_program.specs.reloc_apply.Windows.{bits32}
use Rattle.link_program.specs.name_rules.Entries.{InputSymbol, ImportKey, same_import, is_kind, is_entry, name_of}
use Rattle.link_program.specs.name_rules.Meanings.{Meaning, here, imported, null, nothing, cell_of}
use Rattle.link_program.specs.name_meanings.Kept.{cell_key}
use Rattle.link_program.specs.name_entries.View.{entry_number}
use Rattle.link_program.specs.link_rules.Program as rules
use Rattle.link_program.specs.link_rules.Program.{a_symbol, a_type, named_ref}
use Rattle.link_program.specs.link_rules.Marks.{is_foreign}
use Rattle.link_program.specs.name_rules.Further.{is_here}
use Rattle.link_program.specs.link_rules.Keys as keys
use Rattle.link_program.specs.link_rules.Keys.{outside, outside_global, linker_global, own_global, got, exported_datum, got_entry, got_import, got_null, ref_got}
use Rattle.link_program.specs.link_rules.Values as values
use Rattle.link_program.specs.link_rules.Values.{segments, solid_segments}
use Rattle.link_program.specs.link_rules.Output.{layout}
use Rattle.link_program.specs.link_rules.Loader as loader
use Rattle.dylink_out.specs.declared.word.WordPlace.TheVariants.{Window as WindowAt, Got as GotAt}
use Rattle.dylink_out.specs.declared.word.WordValue.TheVariants.{OwnDatum, OwnFunction, ForeignDatum, ForeignFunction}
use Rattle.link_program.specs.declared.symbol.Symbol.{Symbol}
use Rattle.link_program.specs.declared.named.Named.{Named}
use Rattle.link_program.specs.declared.named.Named.TheVariants as names_of
use Rattle.link_program.specs.declared.keys.GlobalKey.TheVariants as globals
use Rattle.link_program.specs.Keys.{told_function, told_global, told_got, same_function_key, same_global_key}
use Rattle.link_program.specs.Told.{told_definition, told_lead, told_symbol}
use Rattle.link_program.specs.Seen.{SeenRef, seen_symbol, seen_named, told_ref, told_named, no_symbol}
use Rattle.link_program.specs.Look.{row_at}
use Rattle.link_program.specs.Meant.{function_of}
use Rattle.link_program.specs.Live.{AreLive}
use Rattle.link_layout.specs.declared.values.Layout.{Layout}
use Rattle.link_layout.specs.link_numbers.Knows.{KnowsFunction, KnowsGlobal, KnowsGot}
use Rattle.link_layout.specs.link_numbers.Laws.{TellsNumbers}
use Rattle.link_layout.specs.Seen.{is_solid_at}
use Rattle.link_layout.specs.Layout.{looked}
use Rattle.link_layout.proofs.Parts.{row_told}
use Rattle.link_layout.proofs.KeysTold.{function_told, function_known}
use Rattle.link_layout.proofs.link_numbers_lemmas.Begun.{given_of}
use Rattle.link_layout.proofs.link_numbers_lemmas.Whole as whole
use Rattle.link_layout.proofs.link_numbers_lemmas.link_keys_lemmas.Equals.{OnePlace, holds_at, position_held, stands as stands_at}
use Rattle.link_layout.proofs.link_numbers_lemmas.link_keys_lemmas.Imports.{import_equal, import_itself, name_equal, name_itself}
use Rattle.link_loader.specs.Cells.{is_addressed, cell_at, name_at, is_cell, tells_cell, all_tell}
use Rattle.link_loader.specs.Words.{Loading, slot, own_value, foreign_value, symbol_value, window_word, segment_words, is_told_by, is_told, told_part, is_function_cell, cell_value, cell_word, words_seen}
use Rattle.link_loader.proofs.Lists.{filter_map_same}
use Rattle.link_loader.proofs.Stands.{Stands}
use Rattle.link_loader.proofs.PlacesTold.{address_told}
use Rattle.link_loader.proofs.Known as all_known

-- ---- lists

-- what each number gives is what the item there gives, where the number passes
pub flat_pairs : {A B : Type 0} (ps : List A) (ok : ℕ → Bool) (f : ℕ → List B) (g : A → List B) → ((n : ℕ) (x : A) → slice_get ps n ≡ Some x → ok n ≡ true → f n ≡ g x)
    → (ns : List ℕ) (xs : List A) → map (slice_get ps) ns ≡ map Some xs → list_all ok ns ≡ true → flat_map f ns ≡ flat_map g xs
flat_pairs ps ok f g each [] [] e all = refl
flat_pairs ps ok f g each [] (x ∷ xs) e all = absurd cc
flat_pairs ps ok f g each (n ∷ ns) [] e all = absurd cc
flat_pairs ps ok f g each (n ∷ ns) (x ∷ xs) e all =
    let at : slice_get ps n ≡ Some x = cc in
    let rest : map (slice_get ps) ns ≡ map Some xs = cc in
    let both = and_parts (ok n) (list_all ok ns) all in
    let h = each n x at both.0 in
    let t = flat_pairs ps ok f g each ns xs rest both.1 in
    λ i. h i ++ t i

-- what is said of those that pass
pub passing_all : {A : Type 0} (test ok : A → Bool) (xs : List A) → list_all (λ x. not (test x) || ok x) xs ≡ true → list_all ok (filter test xs) ≡ true
passing_all test ok [] all = refl
passing_all {A} test ok (x ∷ xs) all =
    let both = and_parts (not (test x) || ok x) (list_all (λ x. not (test x) || ok x) xs) all in by (test x) both.0 (passing_all test ok xs both.1)
  where
    by : (r : Bool) → (not r || ok x) ≡ true → list_all ok (filter test xs) ≡ true → list_all ok (cond r (x ∷ filter test xs) (filter test xs)) ≡ true
    by true one rest = ap (λ b. b && list_all ok (filter test xs)) one ∙ rest
    by false one rest = rest

-- each symbol's cell is told, also where there is no symbol
pub tells_at : (names : List (List ℕ)) (imports : List ImportKey) (cells : List (Option ℕ)) (start : ℕ) (ss : List Symbol) → all_tell names imports cells start ss ≡ true
    → (n : ℕ) → tells_cell names imports cells (start + n) (get_or ss n no_symbol) ≡ true
tells_at names imports cells start [] all n = refl
tells_at names imports cells start (s ∷ ss) all zero =
    let both = and_parts (tells_cell names imports cells start s) (all_tell names imports cells (start + 1) ss) all in
    let e : start + 0 ≡ start = omega arith in
    ap (λ k. tells_cell names imports cells k s) e ∙ both.0
tells_at names imports cells start (s ∷ ss) all (suc n) =
    let both = and_parts (tells_cell names imports cells start s) (all_tell names imports cells (start + 1) ss) all in
    let e : start + suc n ≡ start + 1 + n = omega arith in
    ap (λ k. tells_cell names imports cells k (get_or ss n no_symbol)) e ∙ tells_at names imports cells (start + 1) ss both.1 n

-- ---- cells

-- A told cell: the symbol is an entry, and the import of this number is its cell.
pub record IsCellOf (imports : List ImportKey) (e : InputSymbol) (c : ℕ) : Type 0 where
  pub entry : is_entry e ≡ true
  pub at : slice_get imports c ≡ Some (cell_of e)

-- a symbol with a number is an entry of the name that has it
pub entry_name : (names : List (List ℕ)) (e : InputSymbol) (n : ℕ) → entry_number names e ≡ Some n → (is_entry e ≡ true) × (slice_get names n ≡ Some (name_of e))
entry_name names e n number = by_entry (is_entry e) refl
  where
    by_number : number_of names (name_of e) ≡ Some n → slice_get names n ≡ Some (name_of e)
    by_number found =
        let s = stands_at bytes_eq name_equal name_itself names (name_of e) (position_held bytes_eq name_equal name_itself names (name_of e) n found) in
        let same : Some s.at ≡ Some n = sym s.found ∙ found in
        let e : s.at ≡ n = cc in
        ap (slice_get names) (sym e) ∙ s.there

    by_entry : (r : Bool) → is_entry e ≡ r → (r ≡ true) × (slice_get names n ≡ Some (name_of e))
    by_entry false a = absurd (let f : None ≡ Some n = sym (ap (λ b. if b then number_of names (name_of e) else None) a) ∙ number in cc)
    by_entry true a = (refl, by_number (sym (ap (λ b. if b then number_of names (name_of e) else None) a) ∙ number))

module _ (names : List (List ℕ)) (imports : List ImportKey) (e : InputSymbol) (c : ℕ) where
  -- by the name and the import that were compared
  cell_by : (o : Option (List ℕ)) (k : Option ImportKey) → name_at names (entry_number names e) ≡ o → slice_get imports c ≡ k → is_cell (is_kind Function e) o k ≡ true → IsCellOf imports e c
  cell_by None k named there is = absurd cc
  cell_by (Some name) None named there is = absurd cc
  cell_by (Some name) (Some key) named there is = by_number (entry_number names e) refl named
    where
      by_number : (n : Option ℕ) → entry_number names e ≡ n → name_at names n ≡ Some name → IsCellOf imports e c
      by_number None same at = absurd cc
      by_number (Some n) same at =
          let one = entry_name names e n same in
          let both : Some name ≡ Some (name_of e) = sym at ∙ one.1 in
          let called : name ≡ name_of e = cc in
          let equal : key ≡ cell_key (is_kind Function e) name = import_equal key (cell_key (is_kind Function e) name) is in
          record { entry = one.0; at = there ∙ ap Some (equal ∙ ap (cell_key (is_kind Function e)) called) }

  pub cell_is : is_cell (is_kind Function e) (name_at names (entry_number names e)) (slice_get imports c) ≡ true → IsCellOf imports e c
  cell_is is = cell_by (name_at names (entry_number names e)) (slice_get imports c) refl refl is

not_or : (a b : Bool) → a ≡ true → (not a || b) ≡ true → b ≡ true
not_or true b a e = e
not_or false b a e = absurd cc

-- the cell that is told of a foreign function or datum
pub told_cell : (names : List (List ℕ)) (imports : List ImportKey) (cells : List (Option ℕ)) (at : ℕ) (e : InputSymbol) (k : ImportKey) (s : Symbol) → s ≡ told_symbol names imports e (imported k)
    → is_addressed s ≡ true → tells_cell names imports cells at s ≡ true → IsCellOf imports e (cell_at cells at s)
told_cell names imports cells at e k s same addressed tells =
    subst (λ (s : Symbol). is_addressed s ≡ true → tells_cell names imports cells at s ≡ true → IsCellOf imports e (cell_at cells at s)) (sym same)
    (λ addressed tells. cell_is names imports e (cell_at cells at (told_symbol names imports e (imported k)))
    (not_or (is_addressed (told_symbol names imports e (imported k))) _ addressed tells)) addressed tells

-- what is shown of a reference
pub seen_is : (a b : SeenRef) → seen_symbol a ≡ seen_symbol b → a ≡ b
seen_is a b e = cc

-- ---- a layout of a shared output

module _ (p : rules.Program) (parts : List rules.Part) (es : List InputSymbol) (d : Layout) (is : Stands Shared p parts es d) where
  abbrev N : List (List ℕ)
  N = d.program.names.now.names

  abbrev I : List ImportKey
  I = d.program.resolution.now.imports

  abbrev C : List (Option ℕ)
  C = d.program.resolution.now.cells

  abbrev L : values.Layout
  L = layout Shared p parts es

  -- what is looked up
  abbrev pub K : Loading
  K = record { mode = Shared; layout = layout Shared p parts es; at = looked d; cells = d.program.resolution.now.cells }

  tells : TellsNumbers N I (keys.numbers Shared p parts es)
  tells = all_known.tells Shared p parts es d is

  one_import : OnePlace same_import import_equal import_itself I
  one_import = whole.one_import (given_of d.program p is.live.0 parts is.program is.stand is.live.1 is.meant)

  -- ---- slots and globals

  slot_told : (f : keys.FunctionKey) → KnowsFunction N I f → slot (looked d).numbers (told_function N I f) ≡ keys.slot_of L.numbers f
  unfolding layout
  slot_told f knows =
      (λ i. is.numbering.first_slot i + number_by same_function_key (is.numbering.slots i) (told_function N I f))
      ∙ ap (λ n. L.numbers.first_slot + n) (tells.slots f knows)

  global_told : (g : keys.GlobalKey) → KnowsGlobal I g → number_by same_global_key d.numbering.now.globals (told_global I g) ≡ keys.global_number L.numbers g
  unfolding layout
  global_told g knows = ap (λ gs. number_by same_global_key gs (told_global I g)) is.numbering.globals ∙ tells.globals g knows

  -- the number of a cell among the imports
  pub place_of_cell : (e : InputSymbol) (c : ℕ) → IsCellOf I e c → number_by same_import I (cell_of e) ≡ c
  place_of_cell e c cell = ap (λ o. unwrap_or o 0) (one_import c (cell_of e) cell.at)

  pub cell_held : (e : InputSymbol) (c : ℕ) → IsCellOf I e c → list_any (same_import (cell_of e)) I ≡ true
  cell_held e c cell = holds_at same_import import_equal import_itself I c (cell_of e) cell.at

  cell_number : (e : InputSymbol) (c : ℕ) → IsCellOf I e c → number_by same_global_key d.numbering.now.globals (globals.Import c) ≡ keys.global_number L.numbers (outside_global (cell_of e))
  cell_number e c cell = ap (λ n. number_by same_global_key d.numbering.now.globals (globals.Import n)) (sym (place_of_cell e c cell)) ∙ global_told (outside_global (cell_of e)) (cell_held e c cell)

  -- ---- values of windows

  own_told : (ref : rules.Ref) (e : InputSymbol) → ref.meaning ≡ here e → own_value K ref.kind ref.addend (told_definition e) ≡ loader.own_value Shared p parts L ref
  own_told ref e means =
      let number : slot (looked d).numbers (function_of (told_definition e)) ≡ values.ref_slot L ref =
      ap (slot (looked d).numbers) (function_told N I e) ∙ slot_told (keys.function_of e) (function_known N I e)
      ∙ ap (λ m. if keys.is_null m then 0 else keys.slot_of L.numbers (keys.meant_function (name_of ref.entry) m)) (sym means) in
      let address : values.address_of Shared L e ≡ values.meant_address Shared L ref.meaning = ap (values.meant_address Shared L) (sym means) in
      λ i. if ref.kind == 2 then OwnFunction (number i) else OwnDatum (bits32 (pos (address i) +ℤ ref.addend))

  or_all : (a b c : Bool) → (a || b) ≡ true → (true && true && (a || b || c)) ≡ true
  or_all true b c e = refl
  or_all false true c e = refl
  or_all false false c e = absurd cc

  foreign_is : (ref : rules.Ref) (k : ImportKey) → ref.meaning ≡ imported k → is_entry ref.entry ≡ true → (is_kind Function ref.entry || is_kind Datum ref.entry) ≡ true → is_foreign ref ≡ true
  foreign_is ref k means entry kind =
      (λ i. not (is_here (means i)) && entry i && (is_kind Function ref.entry || is_kind Datum ref.entry || is_kind GlobalVar ref.entry))
      ∙ or_all (is_kind Function ref.entry) (is_kind Datum ref.entry) (is_kind GlobalVar ref.entry) kind

  own_is : (ref : rules.Ref) (e : InputSymbol) → ref.meaning ≡ here e → is_foreign ref ≡ false
  own_is ref e means = λ i. not (is_here (means i)) && is_entry ref.entry && (is_kind Function ref.entry || is_kind Datum ref.entry || is_kind GlobalVar ref.entry)

  foreign_told : (ref : rules.Ref) (c : ℕ) → IsCellOf I ref.entry c → is_foreign ref ≡ true → foreign_value K ref.kind ref.addend c ≡ loader.foreign_value Shared p parts L ref
  foreign_told ref c cell foreign =
      let number : number_by same_global_key d.numbering.now.globals (globals.Import c) ≡ loader.cell_number Shared p parts L ref =
      cell_number ref.entry c cell ∙ ap (λ b. keys.global_number L.numbers (if b then outside_global (cell_of ref.entry) else got (ref_got ref))) (sym foreign) in
      λ i. if ref.kind == 2 then ForeignFunction (number i) else ForeignDatum (number i) ref.addend

  -- what a window holds that names a symbol of this meaning
  value_meant : (ref : rules.Ref) (at : ℕ) (m : Meaning) → ref.meaning ≡ m → is_told_by (told_symbol N I ref.entry m) (told_lead I m) ≡ true → tells_cell N I C at (told_symbol N I ref.entry m) ≡ true
      → symbol_value K ref.kind ref.addend at (told_symbol N I ref.entry m) ≡ (if is_foreign ref then loader.foreign_value Shared p parts L ref else loader.own_value Shared p parts L ref)
  value_meant ref at (here e) means told cell =
      own_told ref e means ∙ ap (λ b. if b then loader.foreign_value Shared p parts L ref else loader.own_value Shared p parts L ref) (sym (own_is ref e means))
  value_meant ref at (imported k) means told cell =
      let c = told_cell N I C at ref.entry k (told_symbol N I ref.entry (imported k)) refl told cell in
      let foreign = foreign_is ref k means c.entry told in
      foreign_told ref (cell_at C at (told_symbol N I ref.entry (imported k))) c foreign ∙ ap (λ b. if b then loader.foreign_value Shared p parts L ref else loader.own_value Shared p parts L ref) (sym foreign)
  value_meant ref at null means told cell = absurd cc
  value_meant ref at nothing means told cell = absurd cc

  value_told : (ref : rules.Ref) (at : ℕ) (s : Symbol) → s ≡ told_symbol N I ref.entry ref.meaning → is_told_by s s.lead ≡ true → tells_cell N I C at s ≡ true
      → symbol_value K ref.kind ref.addend at s ≡ (if is_foreign ref then loader.foreign_value Shared p parts L ref else loader.own_value Shared p parts L ref)
  value_told ref at s same =
      subst (λ (s : Symbol). is_told_by s s.lead ≡ true → tells_cell N I C at s ≡ true → symbol_value K ref.kind ref.addend at s ≡ (if is_foreign ref then loader.foreign_value Shared p parts L ref else loader.own_value Shared p parts L ref)) (sym same)
      (value_meant ref at ref.meaning refl)

  -- ---- windows of data

  module _ (all : all_tell N I C 0 d.program.tables.now.symbols ≡ true) where
    window_told : (a : ℕ) (n : Named) (ref : rules.Ref) → seen_named d.program.tables.now.symbols d.program.tables.now.types n ≡ told_named N I (a_symbol ref) → is_told d.program.tables.now.symbols n ≡ true
        → window_word K a n ≡ Some (loader.window_word Shared p parts L a ref)
    window_told a (names_of.Symbol kind place addend at) ref same told =
        let s : Symbol = get_or d.program.tables.now.symbols at no_symbol in
        let r = seen_is (record { place = place; kind = kind; addend = addend; symbol = s }) (told_ref N I ref) same in
        let places : place ≡ ref.place = ap (λ (x : SeenRef). x.place) r in
        let kinds : kind ≡ ref.kind = ap (λ (x : SeenRef). x.kind) r in
        let addends : addend ≡ ref.addend = ap (λ (x : SeenRef). x.addend) r in
        let symbols : s ≡ told_symbol N I ref.entry ref.meaning = ap (λ (x : SeenRef). x.symbol) r in
        let value = value_told ref at s symbols told (subst (λ (x : ℕ). tells_cell N I C x s ≡ true) (omega arith) (tells_at N I C 0 d.program.tables.now.symbols all at)) in
        (λ i. Some (record { to = WindowAt (a + places i); value = symbol_value K (kinds i) (addends i) at s }))
        ∙ ap (λ v. Some (record { to = WindowAt (a + ref.place); value = v })) value
    window_told a (names_of.Type place number) ref same told = absurd cc

    type_told : (a : ℕ) (n : Named) (w : rules.TypeWindow) → seen_named d.program.tables.now.symbols d.program.tables.now.types n ≡ told_named N I (a_type w) → window_word K a n ≡ None
    type_told a (names_of.Symbol kind place addend at) w same = absurd cc
    type_told a (names_of.Type place number) w same = refl

    row_words : (a : ℕ) (row : List Named) (ns : List rules.Named) → map (seen_named d.program.tables.now.symbols d.program.tables.now.types) row ≡ map (told_named N I) ns
        → list_all (is_told d.program.tables.now.symbols) row ≡ true
        → filter_map (window_word K a) row ≡ map (loader.window_word Shared p parts L a) (filter_map named_ref ns)
    row_words a [] [] e told = refl
    row_words a [] (n ∷ ns) e told = absurd cc
    row_words a (x ∷ row) [] e told = absurd cc
    row_words a (x ∷ row) (a_symbol ref ∷ ns) e told =
        let same : seen_named d.program.tables.now.symbols d.program.tables.now.types x ≡ told_named N I (a_symbol ref) = cc in
        let rest : map (seen_named d.program.tables.now.symbols d.program.tables.now.types) row ≡ map (told_named N I) ns = cc in
        let both = and_parts (is_told d.program.tables.now.symbols x) (list_all (is_told d.program.tables.now.symbols) row) told in
        let first = window_told a x ref same both.0 in
        let more = row_words a row ns rest both.1 in
        λ i. cons_option (first i) (more i)
    row_words a (x ∷ row) (a_type w ∷ ns) e told =
        let same : seen_named d.program.tables.now.symbols d.program.tables.now.types x ≡ told_named N I (a_type w) = cc in
        let rest : map (seen_named d.program.tables.now.symbols d.program.tables.now.types) row ≡ map (told_named N I) ns = cc in
        let both = and_parts (is_told d.program.tables.now.symbols x) (list_all (is_told d.program.tables.now.symbols) row) told in
        let first = type_told a x w same in
        let more = row_words a row ns rest both.1 in
        λ i. cons_option (first i) (more i)

    segment_told : (n : ℕ) (part : rules.Part) → slice_get p.parts n ≡ Some part → list_all (is_told d.program.tables.now.symbols) (row_at d.program.tables.now n) ≡ true
        → segment_words K n ≡ loader.segment_words Shared p parts L part
    segment_told n part at told =
        ap (λ a. filter_map (window_word K a) (row_at d.program.tables.now n)) (address_told Shared p parts es d is n part at)
        ∙ row_words (values.segment_address L part.chunk) (row_at d.program.tables.now n) part.named (row_told N I d.program.tables.now p is.program.tables n part at) told

    segments_told : (live : List ℕ) → AreLive p live parts → list_all (told_part (looked d)) live ≡ true
        → flat_map (segment_words K) (filter (is_solid_at (looked d)) live) ≡ flat_map (loader.segment_words Shared p parts L) (solid_segments p parts)
    segments_told live lives told =
        flat_pairs p.parts (λ n. list_all (is_told d.program.tables.now.symbols) (row_at d.program.tables.now n)) (segment_words K) (loader.segment_words Shared p parts L) segment_told
        (filter (is_solid_at (looked d)) live) (solid_segments p parts) (is.solid live lives)
        (passing_all (is_solid_at (looked d)) (λ n. list_all (is_told d.program.tables.now.symbols) (row_at d.program.tables.now n)) live told)

  -- ---- own cells

  cell_entry : (e : InputSymbol) (r : Bool) → (if r then values.address_of Shared L e else slot (looked d).numbers (told_function N I (keys.function_of e)))
      ≡ (if r then values.address_of Shared L e else keys.slot_of L.numbers (keys.function_of e))
  cell_entry e true = refl
  cell_entry e false = slot_told (keys.function_of e) (function_known N I e)

  held_told : (key : keys.GotKey) → KnowsGot I key → cell_value K (told_got I key) ≡ values.got_value Shared L key
  held_told (got_entry e) knows =
      ap (λ f. if kind_code e.symbol.kind == kind_code Datum then values.address_of Shared L e else slot (looked d).numbers f) (function_told N I e)
      ∙ cell_entry e (kind_code e.symbol.kind == kind_code Datum)
  held_told (got_import k) knows = slot_told (outside k) knows
  held_told (got_null kind) knows = refl

  kind_told : (key : keys.GotKey) → is_function_cell (told_got I key) ≡ loader.is_function_got Shared p parts L key
  kind_told (got_entry e) = refl
  kind_told (got_import k) = refl
  kind_told (got_null kind) = refl

  abbrev Told : keys.GlobalKey → Type 0
  Told g = cell_word K (told_global I g) ≡ loader.got_word Shared p parts L g

  cell_told : (g : keys.GlobalKey) → KnowsGlobal I g → Told g
  cell_told (outside_global k) knows = refl
  cell_told (linker_global n) knows = refl
  cell_told (own_global input index) knows = refl
  cell_told (got key) knows =
      let number = global_told (got key) knows in
      let held = held_told key knows in
      let kind = kind_told key in
      λ i. Some (record { to = GotAt (number i); value = if kind i then OwnFunction (held i) else OwnDatum (held i) })
  cell_told (exported_datum e) knows = refl

  cells_told : filter_map (cell_word K) d.numbering.now.globals ≡ filter_map (loader.got_word Shared p parts L) L.numbers.globals
  unfolding layout
  cells_told =
      ap (filter_map (cell_word K)) is.numbering.globals
      ∙ filter_map_same (cell_word K) (loader.got_word Shared p parts L) (told_global I) (keys.globals Shared p parts es)
      (λ k g below. cell_told (get_or (keys.globals Shared p parts es) k g) (all_known.globals_known Shared p parts es d is k g below).0)

  pub words_told : (live : List ℕ) → AreLive p live parts → all_tell N I C 0 d.program.tables.now.symbols ≡ true → list_all (told_part (looked d)) live ≡ true
      → words_seen K live ≡ loader.words Shared p parts L
  words_told live lives all told = let segments = segments_told all live lives told in let cells = cells_told in λ i. segments i ++ cells i
