-- The imports that live parts use by names of which all entries are WEAK, as the data tell them.
use Rattle.std.proofs.Common.{◌≡◌, ℕ, ◌==◌, Bool, true, false, not, ◌&&◌, ◌||◌, List, [], ◌∷◌, map, filter, filter_map, flat_map, length, get_or, slice_get, Option, Some, None, unwrap_or, refl, sym, ap, subst, ◌∙◌, arith}
use Rattle.std.specs.Prelude.{if◌then◌else◌, bytes_eq}
use Rattle.std.specs.List.{list_any, list_all, All}
use Rattle.std.proofs.lemmas.Bool.{and_parts}
use Rattle.std.proofs.lemmas.List.Elements.{All-head, All-tail}
use Rattle.std.proofs.lemmas.List.Folds.{list_any-append}
use Rattle.std.proofs.lemmas.Option.{slice_get_within}
use Rattle.link_program.specs.wl_base.Choice.{given}
use Rattle.link_program.specs.linking_section.Flags.{is_weak}
use Rattle.link_program.specs.linking_section.declared.symbol.SymbolKind.TheVariants.{Function, Datum, GlobalVar}
use Rattle.link_program.specs.made_symbols.declared.mode.Mode.TheVariants.{Shared}
use Rattle.link_program.specs.index_layout.Numbers.{number_by}
use Rattle.link_program.specs.name_rules.Entries.{InputSymbol, ImportKey, same_import, is_kind, is_entry, name_of, is_named}
use Rattle.link_program.specs.name_rules.Meanings.{Meaning, here, imported, null, nothing, cell_of}
use Rattle.link_program.specs.name_rules.Further.{is_here}
use Rattle.link_program.specs.name_entries.View.{entry_number}
use Rattle.link_program.specs.link_rules.Program as rules
use Rattle.link_program.specs.link_rules.Program.{a_symbol, a_type, named_ref, refs}
use Rattle.link_program.specs.link_rules.Marks.{refs_of}
use Rattle.link_program.specs.link_rules.Keys.{import_of}
use Rattle.link_program.specs.link_rules.Values as values
use Rattle.link_program.specs.link_rules.Output.{layout}
use Rattle.link_program.specs.link_rules.Loader.{import_taken, is_weak_name, weak_imports}
use Rattle.link_program.specs.declared.symbol.Symbol.{Symbol}
use Rattle.link_program.specs.declared.symbol.Lead.TheVariants as leads
use Rattle.link_program.specs.declared.named.Named.{Named}
use Rattle.link_program.specs.declared.named.Named.TheVariants as names_of
use Rattle.link_program.specs.Told.{told_lead, told_symbol}
use Rattle.link_program.specs.Seen.{SeenRef, seen_named, told_ref, told_named, no_symbol}
use Rattle.link_program.specs.Look.{row_at}
use Rattle.link_program.specs.Live.{AreLive}
use Rattle.link_layout.specs.declared.values.Layout.{Layout}
use Rattle.link_layout.specs.link_numbers.Laws.{KnowsSharedRef}
use Rattle.link_layout.specs.link_numbers.link_keys.Noted.{is_at}
use Rattle.link_layout.proofs.Parts.{row_told}
use Rattle.link_layout.proofs.link_numbers_lemmas.Begun.{given_of, refs_known}
use Rattle.link_layout.proofs.link_numbers_lemmas.Whole as whole
use Rattle.link_layout.proofs.link_numbers_lemmas.link_keys_lemmas.Any.{any_filter}
use Rattle.link_layout.proofs.link_numbers_lemmas.link_keys_lemmas.Flags.{flags_set}
use Rattle.link_layout.proofs.link_numbers_lemmas.link_keys_lemmas.Equals.{OnePlace, same_number, holds_at}
use Rattle.link_layout.proofs.link_numbers_lemmas.link_keys_lemmas.Imports.{import_equal, import_itself, name_equal, name_itself}
use Rattle.link_loader.specs.Cells.{is_addressed, cell_at, tells_cell, all_tell}
use Rattle.link_loader.specs.Bound.{has_name, is_bound_by, is_bound, bound_part}
use Rattle.link_loader.specs.Weak.{flag_at, strong_names, taken, weak_by, weak_use, part_uses, weak_seen}
use Rattle.link_loader.proofs.Lists.{import_there, first_ones, last_ones}
use Rattle.link_loader.proofs.Stands.{Stands}
use Rattle.link_loader.proofs.StrongTold.{strong_told, none_strong}
use Rattle.link_loader.proofs.WordsTold.{tells_at, told_cell, entry_name, seen_is}
use Rattle.link_loader.proofs.Anys.{option_any, any_chosen}

-- ---- which cells are asked for

-- no cell is asked for what has no address
unaddressed : (call var ours entry f t : Bool) → (f || t) ≡ false → (not call && not var && (not ours && entry && (f || t || var))) ≡ false
unaddressed true var ours entry f t e = refl
unaddressed false true ours entry f t e = refl
unaddressed false false ours entry true t e = absurd cc
unaddressed false false ours entry false true e = absurd cc
unaddressed false false true entry false false e = refl
unaddressed false false false true false false e = refl
unaddressed false false false false false false e = refl

-- a cell is asked for what is foreign and has one
addressed : (call var entry f t : Bool) → (f || t) ≡ true → (call || var) ≡ false → entry ≡ true → (not call && not var && (not false && entry && (f || t || var))) ≡ true
addressed true var entry f t a v e = absurd cc
addressed false true entry f t a v e = absurd cc
addressed false false true true t a v e = refl
addressed false false true false true a v e = refl
addressed false false true false false a v e = absurd cc
addressed false false false f t a v e = absurd cc

owned : (call var entry more : Bool) → (not call && not var && (not true && entry && more)) ≡ false
owned true var entry more = refl
owned false true entry more = refl
owned false false entry more = refl

no_flag : (w : Bool) → false ≡ (w && false)
no_flag true = refl
no_flag false = refl

-- ---- what a reference uses, by its meaning

abbrev is_by : rules.Ref → Bool
is_by ref = (ref.kind == 0) || is_kind GlobalVar ref.entry

abbrev asks_cell : rules.Ref → Meaning → Bool
asks_cell ref m = not (ref.kind == 0) && not (is_kind GlobalVar ref.entry) && (not (is_here m) && is_entry ref.entry && (is_kind Function ref.entry || is_kind Datum ref.entry || is_kind GlobalVar ref.entry))

abbrev taken_by : rules.Ref → Meaning → Option ImportKey
taken_by ref m = if is_by ref then import_of m else given (asks_cell ref m) (cell_of ref.entry)

-- ---- a layout of a shared output

module _ (p : rules.Program) (parts : List rules.Part) (es : List InputSymbol) (d : Layout) (is : Stands Shared p parts es d) where
  abbrev N : List (List ℕ)
  N = d.program.names.now.names

  abbrev I : List ImportKey
  I = d.program.resolution.now.imports

  abbrev C : List (Option ℕ)
  C = d.program.resolution.now.cells

  abbrev S : List Symbol
  S = d.program.tables.now.symbols

  abbrev L : values.Layout
  L = layout Shared p parts es

  one_import : OnePlace same_import import_equal import_itself I
  one_import = whole.one_import (given_of d.program p is.live.0 parts is.program is.stand is.live.1 is.meant)

  one_name : OnePlace bytes_eq name_equal name_itself N
  one_name = whole.one_name (given_of d.program p is.live.0 parts is.program is.stand is.live.1 is.meant)

  -- two imports are one where they have one number
  same : (i j : ℕ) (a b : ImportKey) → slice_get I i ≡ Some a → slice_get I j ≡ Some b → (j == i) ≡ same_import a b
  same i j a b at_i at_j =
      ap (λ n. n == i) (sym (ap (λ o. unwrap_or o 0) (one_import j b at_j)))
      ∙ same_number same_import import_equal import_itself I i a b one_import at_i (holds_at same_import import_equal import_itself I j b at_j)

  abbrev strong : List Bool
  strong = strong_names (length N) d.program.names.now.made d.program.names.now.symbols d.program.objects.now

  -- whether all entries of an entry's name are WEAK
  weak_name : (e : InputSymbol) (j : ℕ) → slice_get N j ≡ Some (name_of e) → flag_at strong j ≡ not (is_weak_name Shared p parts L e)
  weak_name e j at =
      ap (λ os. flag_at (strong_names (length N) d.program.names.now.made d.program.names.now.symbols os) j) is.program.objects
      ∙ strong_told d.program.names.now p.objects is.program.numbers one_name j (name_of e) at
      ∙ ap (list_any (λ (f : InputSymbol). is_named (name_of e) f && not (is_weak f.symbol))) (sym is.program.entries)
      ∙ none_strong p.entries (name_of e)

  module _ (all : all_tell N I C 0 d.program.tables.now.symbols ≡ true) (n : ℕ) (k : ImportKey) (at_n : slice_get I n ≡ Some k) where
    -- whether a reference uses the import by a WEAK name
    abbrev Uses : rules.Ref → Meaning → Bool
    Uses ref m = is_weak_name Shared p parts L ref.entry && option_any (same_import k) (taken_by ref m)

    -- ---- imported symbols

    cell_taken : (ref : rules.Ref) (at : ℕ) (key : ImportKey) → is_by ref ≡ false → tells_cell N I C at (told_symbol N I ref.entry (imported key)) ≡ true → (r : Bool) → is_addressed (told_symbol N I ref.entry (imported key)) ≡ r
        → is_at n (if r then Some (cell_at C at (told_symbol N I ref.entry (imported key))) else None) ≡ option_any (same_import k) (given (asks_cell ref (imported key)) (cell_of ref.entry))
    cell_taken ref at key by cell false none =
        sym (ap (λ b. option_any (same_import k) (given b (cell_of ref.entry))) (unaddressed (ref.kind == 0) (is_kind GlobalVar ref.entry) false (is_entry ref.entry) (is_kind Function ref.entry) (is_kind Datum ref.entry) none))
    cell_taken ref at key by cell true some =
        let s : Symbol = told_symbol N I ref.entry (imported key) in
        let c = told_cell N I C at ref.entry key s refl some cell in
        same n (cell_at C at s) k (cell_of ref.entry) at_n c.at
        ∙ sym (ap (λ b. option_any (same_import k) (given b (cell_of ref.entry))) (addressed (ref.kind == 0) (is_kind GlobalVar ref.entry) (is_entry ref.entry) (is_kind Function ref.entry) (is_kind Datum ref.entry) some by c.entry))

    import_used : (ref : rules.Ref) (at : ℕ) (key : ImportKey) → list_any (same_import key) I ≡ true → tells_cell N I C at (told_symbol N I ref.entry (imported key)) ≡ true → (r : Bool) → is_by ref ≡ r
        → is_at n (if r then Some (number_by same_import I key) else if is_addressed (told_symbol N I ref.entry (imported key)) then Some (cell_at C at (told_symbol N I ref.entry (imported key))) else None)
        ≡ option_any (same_import k) (if r then Some key else given (asks_cell ref (imported key)) (cell_of ref.entry))
    import_used ref at key held cell true by = same n (number_by same_import I key) k key at_n (import_there I key held)
    import_used ref at key held cell false by = cell_taken ref at key by cell (is_addressed (told_symbol N I ref.entry (imported key))) refl

    import_taken_so : (ref : rules.Ref) (at : ℕ) (key : ImportKey) → list_any (same_import key) I ≡ true → tells_cell N I C at (told_symbol N I ref.entry (imported key)) ≡ true
        → is_at n (taken C ref.kind at (told_symbol N I ref.entry (imported key)) (number_by same_import I key)) ≡ option_any (same_import k) (taken_by ref (imported key))
    import_taken_so ref at key held cell = import_used ref at key held cell (is_by ref) refl

    named_use : (ref : rules.Ref) (at : ℕ) (key : ImportKey) → list_any (same_import key) I ≡ true → tells_cell N I C at (told_symbol N I ref.entry (imported key)) ≡ true → (o : Option ℕ) → entry_number N ref.entry ≡ o → has_name o ≡ true
        → is_at n (weak_by strong C ref.kind at (told_symbol N I ref.entry (imported key)) (leads.Import (number_by same_import I key)) o) ≡ Uses ref (imported key)
    named_use ref at key held cell None number named = absurd cc
    named_use ref at key held cell (Some j) number named =
        let there = (entry_name N ref.entry j number).1 in
        ap (λ b. is_at n (if b then None else taken C ref.kind at (told_symbol N I ref.entry (imported key)) (number_by same_import I key))) (weak_name ref.entry j there)
        ∙ by (is_weak_name Shared p parts L ref.entry) (import_taken_so ref at key held cell)
      where
        by : (w : Bool) → is_at n (taken C ref.kind at (told_symbol N I ref.entry (imported key)) (number_by same_import I key)) ≡ option_any (same_import k) (taken_by ref (imported key))
            → is_at n (if not w then None else taken C ref.kind at (told_symbol N I ref.entry (imported key)) (number_by same_import I key)) ≡ (w && option_any (same_import k) (taken_by ref (imported key)))
        by true e = e
        by false e = refl

    -- ---- other symbols

    none_used : (ref : rules.Ref) (m : Meaning) → import_of m ≡ None → ((r : Bool) → is_by ref ≡ r → r ≡ false → asks_cell ref m ≡ false) → false ≡ Uses ref m
    none_used ref m none no_cell =
        no_flag (is_weak_name Shared p parts L ref.entry) ∙ ap (λ b. is_weak_name Shared p parts L ref.entry && b) (by (is_by ref) refl)
      where
        by : (r : Bool) → is_by ref ≡ r → false ≡ option_any (same_import k) (if r then import_of m else given (asks_cell ref m) (cell_of ref.entry))
        by true e = sym (ap (option_any (same_import k)) none)
        by false e = sym (ap (λ b. option_any (same_import k) (given b (cell_of ref.entry))) (no_cell false e refl))

    or_first : (a b : Bool) → (a || b) ≡ false → a ≡ false
    or_first true b e = absurd cc
    or_first false b e = refl

    not_true : (b : Bool) → not b ≡ true → b ≡ false
    not_true true e = absurd cc
    not_true false e = refl

    -- what is null has no address, unless it is called
    null_asks : (ref : rules.Ref) (m : Meaning) → ((ref.kind == 0) || not (is_kind Function ref.entry || is_kind Datum ref.entry)) ≡ true → (r : Bool) → is_by ref ≡ r → r ≡ false → asks_cell ref m ≡ false
    null_asks ref m bound true e f = absurd cc
    null_asks ref m bound false e f =
        let call = or_first (ref.kind == 0) (is_kind GlobalVar ref.entry) e in
        let none : not (is_kind Function ref.entry || is_kind Datum ref.entry) ≡ true = ap (λ b. b || not (is_kind Function ref.entry || is_kind Datum ref.entry)) (sym call) ∙ bound in
        unaddressed (ref.kind == 0) (is_kind GlobalVar ref.entry) (is_here m) (is_entry ref.entry) (is_kind Function ref.entry) (is_kind Datum ref.entry) (not_true (is_kind Function ref.entry || is_kind Datum ref.entry) none)

    -- ---- windows

    use_meant : (ref : rules.Ref) (at : ℕ) (m : Meaning) → ((key : ImportKey) → m ≡ imported key → list_any (same_import key) I ≡ true)
        → tells_cell N I C at (told_symbol N I ref.entry m) ≡ true → is_bound_by ref.kind (told_symbol N I ref.entry m) (told_lead I m) ≡ true
        → is_at n (weak_by strong C ref.kind at (told_symbol N I ref.entry m) (told_lead I m) (entry_number N ref.entry)) ≡ Uses ref m
    use_meant ref at (here e) held cell bound =
        none_used ref (here e) refl (λ r is f. owned (ref.kind == 0) (is_kind GlobalVar ref.entry) (is_entry ref.entry) (is_kind Function ref.entry || is_kind Datum ref.entry || is_kind GlobalVar ref.entry))
    use_meant ref at (imported key) held cell bound = named_use ref at key (held key refl) cell (entry_number N ref.entry) refl bound
    use_meant ref at null held cell bound = none_used ref null refl (null_asks ref null bound)
    use_meant ref at nothing held cell bound = none_used ref nothing refl (null_asks ref nothing bound)

    use_told : (ref : rules.Ref) (at : ℕ) (s : Symbol) → KnowsSharedRef N I ref → s ≡ told_symbol N I ref.entry ref.meaning → tells_cell N I C at s ≡ true → is_bound_by ref.kind s s.lead ≡ true
        → is_at n (weak_by strong C ref.kind at s s.lead s.name) ≡ Uses ref ref.meaning
    use_told ref at s knows same =
        subst (λ (s : Symbol). tells_cell N I C at s ≡ true → is_bound_by ref.kind s s.lead ≡ true → is_at n (weak_by strong C ref.kind at s s.lead s.name) ≡ Uses ref ref.meaning) (sym same)
        (use_meant ref at ref.meaning knows.imported)

    abbrev UsesIt : rules.Ref → Bool
    UsesIt ref = is_weak_name Shared p parts L ref.entry && option_any (same_import k) (import_taken Shared p parts L ref)

    window_use : (x : Named) (ref : rules.Ref) → KnowsSharedRef N I ref → seen_named S d.program.tables.now.types x ≡ told_named N I (a_symbol ref) → is_bound S x ≡ true → is_at n (weak_use strong C S x) ≡ UsesIt ref
    window_use (names_of.Symbol kind place addend at) ref knows same bound =
        let r = seen_is (record { place = place; kind = kind; addend = addend; symbol = get_or S at no_symbol }) (told_ref N I ref) same in
        let kinds : kind ≡ ref.kind = ap (λ (x : SeenRef). x.kind) r in
        let symbols : get_or S at no_symbol ≡ told_symbol N I ref.entry ref.meaning = ap (λ (x : SeenRef). x.symbol) r in
        ap (λ x. is_at n (weak_by strong C x at (get_or S at no_symbol) (get_or S at no_symbol).lead (get_or S at no_symbol).name)) kinds
        ∙ use_told ref at (get_or S at no_symbol) knows symbols (subst (λ (x : ℕ). tells_cell N I C x (get_or S at no_symbol) ≡ true) (omega arith) (tells_at N I C 0 S all at))
        (ap (λ x. is_bound_by x (get_or S at no_symbol) (get_or S at no_symbol).lead) (sym kinds) ∙ bound)
    window_use (names_of.Type place number) ref knows same bound = absurd cc

    type_use : (x : Named) (w : rules.TypeWindow) → seen_named S d.program.tables.now.types x ≡ told_named N I (a_type w) → is_at n (weak_use strong C S x) ≡ false
    type_use (names_of.Symbol kind place addend at) w same = absurd cc
    type_use (names_of.Type place number) w same = refl

    row_use : (row : List Named) (ns : List rules.Named) → All (KnowsSharedRef N I) (filter_map named_ref ns) → map (seen_named S d.program.tables.now.types) row ≡ map (told_named N I) ns → list_all (is_bound S) row ≡ true
        → list_any (is_at n) (map (weak_use strong C S) row) ≡ list_any UsesIt (filter_map named_ref ns)
    row_use [] [] knows e bound = refl
    row_use [] (y ∷ ns) knows e bound = absurd cc
    row_use (x ∷ row) [] knows e bound = absurd cc
    row_use (x ∷ row) (a_symbol ref ∷ ns) knows e bound =
        let same : seen_named S d.program.tables.now.types x ≡ told_named N I (a_symbol ref) = cc in
        let rest : map (seen_named S d.program.tables.now.types) row ≡ map (told_named N I) ns = cc in
        let both = and_parts (is_bound S x) (list_all (is_bound S) row) bound in
        let first = window_use x ref (All-head (KnowsSharedRef N I) ref (filter_map named_ref ns) knows) same both.0 in
        let more = row_use row ns (All-tail (KnowsSharedRef N I) ref (filter_map named_ref ns) knows) rest both.1 in
        λ i. first i || more i
    row_use (x ∷ row) (a_type w ∷ ns) knows e bound =
        let same : seen_named S d.program.tables.now.types x ≡ told_named N I (a_type w) = cc in
        let rest : map (seen_named S d.program.tables.now.types) row ≡ map (told_named N I) ns = cc in
        let both = and_parts (is_bound S x) (list_all (is_bound S) row) bound in
        let first = type_use x w same in
        let more = row_use row ns knows rest both.1 in
        λ i. first i || more i

    -- ---- parts

    parts_use : (ns : List ℕ) (xs : List rules.Part) → All (KnowsSharedRef N I) (refs_of xs) → map (slice_get p.parts) ns ≡ map Some xs → list_all (bound_part d.program.tables.now) ns ≡ true
        → list_any (is_at n) (flat_map (part_uses strong C d.program.tables.now) ns) ≡ list_any UsesIt (refs_of xs)
    parts_use [] [] knows e bound = refl
    parts_use [] (x ∷ xs) knows e bound = absurd cc
    parts_use (m ∷ ns) [] knows e bound = absurd cc
    parts_use (m ∷ ns) (x ∷ xs) knows e bound =
        let at : slice_get p.parts m ≡ Some x = cc in
        let rest : map (slice_get p.parts) ns ≡ map Some xs = cc in
        let both = and_parts (bound_part d.program.tables.now m) (list_all (bound_part d.program.tables.now) ns) bound in
        let first = row_use (row_at d.program.tables.now m) x.named (first_ones (KnowsSharedRef N I) (refs x) (refs_of xs) knows) (row_told N I d.program.tables.now p is.program.tables m x at) both.0 in
        let more = parts_use ns xs (last_ones (KnowsSharedRef N I) (refs x) (refs_of xs) knows) rest both.1 in
        list_any-append (is_at n) (part_uses strong C d.program.tables.now m) (flat_map (part_uses strong C d.program.tables.now) ns)
        ∙ (λ i. first i || more i)
        ∙ sym (list_any-append UsesIt (refs x) (refs_of xs))

    -- By the number of an import: whether live parts use it by a name of which all entries are WEAK.
    pub weak_told : (live : List ℕ) → AreLive p live parts → list_all (bound_part d.program.tables.now) live ≡ true → flag_at (weak_seen d.program live) n ≡ list_any (same_import k) (weak_imports Shared p parts L)
    weak_told live lives bound =
        flags_set (length I) (flat_map (part_uses strong C d.program.tables.now) live) n (slice_get_within I n k at_n)
        ∙ parts_use live parts (refs_known Shared d.program p is.live.0 parts is.program is.stand is.live.1 is.meant) lives.are bound
        ∙ sym (any_filter (λ ref. option_any (same_import k) (import_taken Shared p parts L ref)) (λ (ref : rules.Ref). is_weak_name Shared p parts L ref.entry) (refs_of parts))
        ∙ sym (any_chosen (same_import k) (import_taken Shared p parts L) (filter (λ (ref : rules.Ref). is_weak_name Shared p parts L ref.entry) (refs_of parts)))
