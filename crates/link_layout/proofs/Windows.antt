-- Addresses, cells and windows of a layout, as the data show them.
use Rattle.std.proofs.Common.{◌≡◌, ℕ, zero, suc, ◌+◌, ◌<◌, ◌==◌, Bool, true, false, not, ◌||◌, List, [], ◌∷◌, ◌++◌, map, filter, filter_map, flat_map, length, get_or, slice_get, position, Option, Some, None, option_map, unwrap_or, refl, sym, ap, subst, ◌∙◌, arith, eqb-true, ℤ, pos}
use Rattle.std.specs.Prelude.{if◌then◌else◌, slice_index_or}
use Rattle.std.specs.List.{All, AllZip}
use Rattle.std.proofs.lemmas.List.Elements.{All-head, All-tail, All-cons, All-append}
use Rattle.std.proofs.lemmas.List.Quantifiers.{position-Some}
use Rattle.std.proofs.lemmas.Option.{slice_get-get_or, slice_get-map, get_or_from_slice_get}
use Rattle.link_program.specs.wasm_types.declared.function.FuncType.{FuncType}
use Rattle.link_program.specs.made_symbols.declared.mode.Mode.{Mode}
use Rattle.link_program.specs.made_symbols.declared.mode.Mode.TheVariants.{Plain, Shared}
use Rattle.link_program.specs.made_symbols.Made.{made}
use Rattle.link_program.specs.mark_bits.declared.chunk.Chunk.{Chunk}
use Rattle.link_program.specs.index_layout.Numbers.{number_by}
use Rattle.link_program.specs.reloc_apply.declared.window.Window.{Window}
use Rattle.link_program.specs.name_rules.Entries.{InputSymbol, ImportKey, is_entry, name_of, same_import, entries, symbols_of, made_from}
use Rattle.link_program.specs.name_rules.Meanings.{Meaning, here, imported, null, nothing, is_nothing}
use Rattle.link_program.specs.name_rules.Further.{made_global_import, made_imports, further_imports}
use Rattle.link_program.specs.name_meanings.Means.{IsNumberOf}
use Rattle.link_program.specs.name_entries.View.{entry_number}
use Rattle.link_program.specs.object_file.Spaces.{no_type}
use Rattle.link_program.specs.memory_layout.Memory.{places}
use Rattle.link_program.specs.memory_layout.declared.rules.Places.{Places}
use Rattle.link_program.specs.link_rules.Program as rules
use Rattle.link_program.specs.link_rules.Program.{Ref, a_symbol, a_type, refs, named_ref, same_chunk, chunk_at}
use Rattle.link_program.specs.link_rules.Marks.{refs_of, by_mode}
use Rattle.link_program.specs.link_rules.Keys as keys
use Rattle.link_program.specs.link_rules.Keys.{outside, is_null, ref_function, ref_global, numbers, imports_in_order, import_of}
use Rattle.link_program.specs.link_rules.Values as values
use Rattle.link_program.specs.link_rules.Values.{segments, segment_address, made_data, Asks, a_function, a_slot, an_address, a_global, a_table, asks, form_of, target_by, addend_by}
use Rattle.link_program.specs.link_rules.Output.{layout}
use Rattle.link_program.specs.declared.symbol.Symbol.{Symbol}
use Rattle.link_program.specs.declared.named.Named.{Named}
use Rattle.link_program.specs.declared.named.Named.TheVariants as items
use Rattle.link_program.specs.declared.keys.FunctionKey.{FunctionKey}
use Rattle.link_program.specs.Told.{told_definition, told_lead, told_symbol}
use Rattle.link_program.specs.Seen.{no_symbol, SeenRef, seen_named, told_named, told_ref, NamesOne}
use Rattle.link_program.specs.Keys.{told_function, told_global, same_function_key, same_global_key}
use Rattle.link_numbers.specs.link_keys.Types.{type_number_in}
use Rattle.link_numbers.specs.Knows.{KnowsFunction, KnowsGlobal}
use Rattle.link_numbers.specs.Laws.{KnowsRefOf}
use Rattle.link_layout.specs.declared.values.Layout.{Layout}
use Rattle.link_layout.specs.Placed.{address_among, chunks_of}
use Rattle.link_program.specs.Look.{chunk_number}
use Rattle.link_program.specs.Meant.{function_of}
use Rattle.link_layout.specs.Seen.{column_at, address_of, slot_of, slot_meant, address_meant, target_of, addend_meant, addend_of, window_to, symbol_window, type_window, window_of}
use Rattle.link_layout.specs.Cells.{is_told}
use Rattle.link_layout.specs.Rows.{cell_number, shared_symbol, is_named_told, window_by}
use Rattle.link_layout.proofs.Told.{IsTold}
use Rattle.link_layout.specs.Layout.{looked}
use Rattle.link_program.proofs.Chunks.{chunk_is, chunk_itself}
use Rattle.link_numbers.proofs.link_keys_lemmas.Positions.{position_next, position_first}
use Rattle.link_numbers.proofs.link_keys_lemmas.Equals.{OnePlace, one_place, one_place_onto}
use Rattle.link_numbers.proofs.link_keys_lemmas.Imports.{import_equal, import_itself}
use Rattle.link_layout.specs.Segments.{segment_numbers}
use Rattle.link_layout.proofs.Parts.{segments_are}
use Rattle.link_layout.proofs.Pairs.{pairs_within}
use Rattle.link_layout.proofs.KeysTold.{function_told, meant_told, global_told, global_known}
use Rattle.link_layout.proofs.CellsTold.{made_told, shared_told}
use Rattle.link_layout.proofs.Linkers.{MeansLinkers}

-- a number by which something is found in a list
at_position : {A : Type 0} (p : A → Bool) (xs : List A) (n : ℕ) → position p xs ≡ Some n → (x : A) × (slice_get xs n ≡ Some x) × (p x ≡ true)
at_position {A} p xs n is = by_list xs is
  where
    by_list : (ys : List A) → position p ys ≡ Some n → (x : A) × (slice_get ys n ≡ Some x) × (p x ≡ true)
    by_list [] is = absurd cc
    by_list (y ∷ ys) is =
        let w = position-Some p (y ∷ ys) n y is in
        (get_or (y ∷ ys) n y, slice_get-get_or (y ∷ ys) n y w.0, w.1)

-- ---- what is known of the parts of a layout

-- What a reference of a live part names is known.
pub record IsKnownRef (mode : Mode) (names : List (List ℕ)) (imports : List ImportKey) (ref : Ref) : Type 0 where
  pub function : KnowsFunction names imports (ref_function ref)
  pub named : is_null ref.meaning ≡ true → is_entry ref.entry ≡ true
  pub meant : is_nothing ref.meaning ≡ false
  pub linkers : MeansLinkers mode ref.meaning

abbrev pub IsKnown : Mode → List (List ℕ) → List ImportKey → rules.Named → Type 0
IsKnown mode names imports (a_symbol ref) = IsKnownRef mode names imports ref
IsKnown mode names imports (a_type w) = Unit {0}

function_known_of : (mode : Mode) (names : List (List ℕ)) (imports : List ImportKey) (ref : Ref) → KnowsRefOf mode names imports ref → KnowsFunction names imports (ref_function ref)
function_known_of Plain names imports ref one = one.function
function_known_of Shared names imports ref one = one.function

named_known_of : (mode : Mode) (names : List (List ℕ)) (imports : List ImportKey) (ref : Ref) → KnowsRefOf mode names imports ref → is_null ref.meaning ≡ true → is_entry ref.entry ≡ true
named_known_of Plain names imports ref one = one.named
named_known_of Shared names imports ref one = one.named

pub known_all_of : (mode : Mode) (names : List (List ℕ)) (imports : List ImportKey) (refs : List Ref) → All (KnowsRefOf mode names imports) refs → All (λ ref. is_nothing ref.meaning ≡ false) refs
    → All (λ ref. MeansLinkers mode ref.meaning) refs → All (IsKnownRef mode names imports) refs
known_all_of mode names imports refs knows meant linkers = λ k d below.
    let ref = get_or refs k d in
    let one = knows k d below in record { function = function_known_of mode names imports ref one; named = named_known_of mode names imports ref one; meant = meant k d below; linkers = linkers k d below }

module _ (mode : Mode) (names : List (List ℕ)) (imports : List ImportKey) where
  known_row : (ns : List rules.Named) → All (IsKnownRef mode names imports) (filter_map named_ref ns) → All (IsKnown mode names imports) ns
  known_row [] all = λ k d below. absurd (omega arith)
  known_row (a_symbol ref ∷ ns) all =
      All-cons (IsKnown mode names imports) (a_symbol ref) ns (All-head (IsKnownRef mode names imports) ref (filter_map named_ref ns) all) (known_row ns (All-tail (IsKnownRef mode names imports) ref (filter_map named_ref ns) all))
  known_row (a_type w ∷ ns) all = All-cons (IsKnown mode names imports) (a_type w) ns tt (known_row ns all)

  first_ones : {A : Type 0} (P : A → Type 0) (xs ys : List A) → All P (xs ++ ys) → All P xs
  first_ones P [] ys all = λ k d below. absurd (omega arith)
  first_ones P (x ∷ xs) ys all = All-cons P x xs (All-head P x (xs ++ ys) all) (first_ones P xs ys (All-tail P x (xs ++ ys) all))

  last_ones : {A : Type 0} (P : A → Type 0) (xs ys : List A) → All P (xs ++ ys) → All P ys
  last_ones P [] ys all = all
  last_ones P (x ∷ xs) ys all = last_ones P xs ys (All-tail P x (xs ++ ys) all)

  -- what a part names, of each part
  pub known_parts : (parts : List rules.Part) → All (IsKnownRef mode names imports) (refs_of parts) → (k : ℕ) (part : rules.Part) → slice_get parts k ≡ Some part → All (IsKnown mode names imports) part.named
  known_parts [] all k part at = absurd cc
  known_parts (x ∷ parts) all zero part at =
      let same : x ≡ part = cc in
      subst (λ (y : rules.Part). All (IsKnown mode names imports) y.named) same (known_row x.named (first_ones (IsKnownRef mode names imports) (refs x) (refs_of parts) all))
  known_parts (x ∷ parts) all (suc k) part at = known_parts parts (last_ones (IsKnownRef mode names imports) (refs x) (refs_of parts) all) k part at

  pub known_all : (parts : List rules.Part) → All (IsKnownRef mode names imports) (refs_of parts) → All (IsKnown mode names imports) (flat_map (λ part. part.named) parts)
  known_all [] all = λ k d below. absurd (omega arith)
  known_all (x ∷ parts) all =
      All-append (IsKnown mode names imports) x.named (flat_map (λ part. part.named) parts)
      (known_row x.named (first_ones (IsKnownRef mode names imports) (refs x) (refs_of parts) all))
      (known_all parts (last_ones (IsKnownRef mode names imports) (refs x) (refs_of parts) all))

-- ---- chunks by place

pub none_there : {A : Type 0} (p : A → Bool) (xs : List A) → position p xs ≡ None → (n : ℕ) (x : A) → slice_get xs n ≡ Some x → p x ≡ false
none_there p [] none n x at = absurd cc
none_there {A} p (y ∷ xs) none n x at = by_head (p y) refl n at (none_there p xs)
  where
    rest_none : (o : Option ℕ) → option_map suc o ≡ None → o ≡ None
    rest_none None e = refl
    rest_none (Some m) e = absurd cc

    by_head : (r : Bool) → p y ≡ r → (n : ℕ) → slice_get (y ∷ xs) n ≡ Some x → (position p xs ≡ None → (n : ℕ) (x : A) → slice_get xs n ≡ Some x → p x ≡ false) → p x ≡ false
    by_head true is n at again = absurd (let e : Some 0 ≡ None = sym (position_first p y xs is) ∙ none in cc)
    by_head false is zero at again = let same : y ≡ x = cc in ap p (sym same) ∙ is
    by_head false is (suc n) at again = again (rest_none (position p xs) (sym (position_next p y xs is) ∙ none)) n x at

pub place_of_chunk : (ps : List rules.Part) (c : Chunk) (n : ℕ) → position (same_chunk c) (chunks_of ps) ≡ Some n → (part : rules.Part) × (slice_get ps n ≡ Some part) × (c ≡ part.chunk)
place_of_chunk ps c n is =
    let w = at_position (same_chunk c) (chunks_of ps) n is in
    by_part (slice_get ps n) refl w.0 (sym (slice_get-map (λ (x : rules.Part). x.chunk) ps n) ∙ w.1) w.2
  where
    by_part : (o : Option rules.Part) → slice_get ps n ≡ o → (x : Chunk) → option_map (λ (x : rules.Part). x.chunk) o ≡ Some x → same_chunk c x ≡ true → (part : rules.Part) × (slice_get ps n ≡ Some part) × (c ≡ part.chunk)
    by_part None at x e same = absurd cc
    by_part (Some part) at x e same = let f : part.chunk ≡ x = cc in (part, at, chunk_is c x same ∙ sym f)

-- ---- what a relocation asks for

abbrev NotGlobal : Asks → Type 0
NotGlobal a_function = Unit {0}
NotGlobal a_slot = Unit {0}
NotGlobal an_address = Unit {0}
NotGlobal a_global = ⊥
NotGlobal a_table = Unit {0}

abbrev asked_by : Bool → Bool → Bool → Bool → Asks
asked_by f s a g = if f then a_function else if s then a_slot else if a then an_address else if g then a_global else a_table

not_global : (f s a : Bool) → NotGlobal (asked_by f s a false)
not_global true s a = tt
not_global false true a = tt
not_global false false true = tt
not_global false false false = tt

other_kind : (kind : ℕ) → (kind == 7) ≡ false → NotGlobal (asks kind)
other_kind kind other =
    subst (λ g. NotGlobal (asked_by (kind == 0) ((kind == 1) || (kind == 2) || (kind == 12)) ((kind == 3) || (kind == 4) || (kind == 5) || (kind == 11)) g)) (sym other)
    (not_global (kind == 0) ((kind == 1) || (kind == 2) || (kind == 12)) ((kind == 3) || (kind == 4) || (kind == 5) || (kind == 11)))

-- ---- a layout

module _ (mode : Mode) (p : rules.Program) (parts : List rules.Part) (es : List InputSymbol) (d : Layout) (is : IsTold mode p parts es d) where
  no_segment : (c : Chunk) → position (same_chunk c) (chunks_of p.parts) ≡ None → position (same_chunk c) (chunks_of (segments parts)) ≡ None
  no_segment c none = by_place (position (same_chunk c) (chunks_of (segments parts))) refl
    where
      by_place : (o : Option ℕ) → position (same_chunk c) (chunks_of (segments parts)) ≡ o → o ≡ None
      by_place None e = refl
      by_place (Some k) e =
          let w = place_of_chunk (segments parts) c k e in
          let t = d.program.tables.now in
          let m = pairs_within p.parts (segment_numbers t is.live.0) (segments parts)
          (segments_are d.program.names.now.names d.program.resolution.now.imports t p is.program.tables is.live.0 parts is.live.1) k w.0 w.1 in
          let there : slice_get (chunks_of p.parts) m.0 ≡ Some w.0.chunk = slice_get-map (λ (x : rules.Part). x.chunk) p.parts m.0 ∙ ap (option_map (λ (x : rules.Part). x.chunk)) m.2 in
          let no : same_chunk c w.0.chunk ≡ false = none_there (same_chunk c) (chunks_of p.parts) none m.0 w.0.chunk there in
          let yes : same_chunk c w.0.chunk ≡ true = ap (same_chunk c) (sym w.2) ∙ chunk_itself c in
          absurd cc

  column_told : (c : Chunk) (o : Option ℕ) → chunk_number d.program.tables.now.chunks c ≡ o → column_at d.placed.now o ≡ address_among (chunks_of (segments parts)) d.placed.now.places.addresses c
  column_told c None e =
      let none = no_segment c (ap (position (same_chunk c)) (sym is.program.tables.chunks) ∙ e) in
      ap (λ o. slice_index_or d.placed.now.places.addresses (unwrap_or o 0) 0) (sym none)
  column_told c (Some n) e =
      let f : rules.Part → ℕ = λ (part : rules.Part). address_among (chunks_of (segments parts)) d.placed.now.places.addresses part.chunk in
      let w = place_of_chunk p.parts c n (ap (position (same_chunk c)) (sym is.program.tables.chunks) ∙ e) in
      ap (λ xs. get_or xs n 0) is.placed.addresses
      ∙ get_or_from_slice_get (map f p.parts) n (f w.0) 0 (slice_get-map f p.parts n ∙ ap (option_map f) w.1)
      ∙ ap (address_among (chunks_of (segments parts)) d.placed.now.places.addresses) (sym w.2)

  -- ---- addresses

  segment_told : (c : Chunk) → column_at d.placed.now (chunk_number d.program.tables.now.chunks c) ≡ segment_address (layout mode p parts es) c
  unfolding layout
  segment_told c =
      column_told c (chunk_number d.program.tables.now.chunks c) refl
      ∙ ap (λ (x : Places). address_among (chunks_of (segments parts)) x.addresses c) is.placed.places

  address_by : (e : InputSymbol) (r : Bool) → (if r then slice_index_or (by_mode (looked d).mode (made_data d.placed.now.places) []) e.place 0 else column_at d.placed.now (chunk_number d.program.tables.now.chunks (chunk_at e.input 1 e.index)) + e.symbol.offset)
      ≡ (if r then slice_index_or (by_mode mode (made_data (layout mode p parts es).places) []) e.place 0 else segment_address (layout mode p parts es) (chunk_at e.input 1 e.index) + e.symbol.offset)
  unfolding layout
  address_by e true = let at = is.placed.places in let same = is.asked in λ i. slice_index_or (by_mode (same i) (made_data (at i)) []) e.place 0
  address_by e false = ap (λ x. x + e.symbol.offset) (segment_told (chunk_at e.input 1 e.index))

  pub address_told : (e : InputSymbol) → address_of (looked d) (told_definition e) ≡ values.address_of mode (layout mode p parts es) e
  address_told e = address_by e (e.input == 0)

  -- ---- numbers

  function_number_told : (f : keys.FunctionKey) → KnowsFunction d.program.names.now.names d.program.resolution.now.imports f
      → number_by same_function_key d.numbering.now.functions (told_function d.program.names.now.names d.program.resolution.now.imports f) ≡ keys.function_number (layout mode p parts es).numbers f
  unfolding layout
  function_number_told f known =
      ap (λ xs. number_by same_function_key xs (told_function d.program.names.now.names d.program.resolution.now.imports f)) is.numbering.functions ∙ is.tells.functions f known

  slot_told : (f : keys.FunctionKey) → KnowsFunction d.program.names.now.names d.program.resolution.now.imports f
      → slot_of (looked d) (told_function d.program.names.now.names d.program.resolution.now.imports f) ≡ keys.slot_of (layout mode p parts es).numbers f
  unfolding layout
  slot_told f known =
      let a = is.numbering.first_slot in
      let b = ap (λ xs. number_by same_function_key xs (told_function d.program.names.now.names d.program.resolution.now.imports f)) is.numbering.slots ∙ is.tells.slots f known in
      λ i. a i + b i

  global_number_told : (g : keys.GlobalKey) → KnowsGlobal d.program.resolution.now.imports g
      → number_by same_global_key d.numbering.now.globals (told_global d.program.resolution.now.imports g) ≡ keys.global_number (layout mode p parts es).numbers g
  unfolding layout
  global_number_told g known =
      ap (λ xs. number_by same_global_key xs (told_global d.program.resolution.now.imports g)) is.numbering.globals ∙ is.tells.globals g known

  -- ---- references

  slot_by : (e : InputSymbol) (m : Meaning) → is_nothing m ≡ false → KnowsFunction d.program.names.now.names d.program.resolution.now.imports (keys.meant_function (name_of e) m)
      → slot_meant (looked d) (entry_number d.program.names.now.names e) (told_lead d.program.resolution.now.imports m)
      ≡ (if is_null m then 0 else keys.slot_of (layout mode p parts es).numbers (keys.meant_function (name_of e) m))
  slot_by e (here x) meant known = ap (slot_of (looked d)) (function_told d.program.names.now.names d.program.resolution.now.imports x) ∙ slot_told (keys.function_of x) known
  slot_by e (imported k) meant known = slot_told (outside k) known
  slot_by e null meant known = refl
  slot_by e nothing meant known = absurd cc

  meant_address_told : (m : Meaning) → address_meant (looked d) (told_lead d.program.resolution.now.imports m) ≡ values.meant_address mode (layout mode p parts es) m
  meant_address_told (here e) = address_told e
  meant_address_told (imported k) = refl
  meant_address_told null = refl
  meant_address_told nothing = refl

  -- what isn't the number of a global stands for the same in both outputs
  target_told : (ref : Ref) → IsKnownRef mode d.program.names.now.names d.program.resolution.now.imports ref → (a : Asks) → NotGlobal a
      → target_of (looked d) (told_symbol d.program.names.now.names d.program.resolution.now.imports ref.entry ref.meaning) a ≡ target_by mode (layout mode p parts es) ref a
  target_told ref known a_function other =
      ap (number_by same_function_key d.numbering.now.functions) (meant_told d.program.names.now.names d.program.resolution.now.imports ref.entry ref.meaning known.named known.meant)
      ∙ function_number_told (ref_function ref) known.function
  target_told ref known a_slot other = slot_by ref.entry ref.meaning known.meant known.function
  target_told ref known an_address other = meant_address_told ref.meaning
  target_told ref known a_global other = absurd other
  target_told ref known a_table other = refl

  -- the number of a global in a plain output
  plain_global_told : (ref : Ref) → IsKnownRef mode d.program.names.now.names d.program.resolution.now.imports ref → mode ≡ Plain
      → target_of (looked d) (told_symbol d.program.names.now.names d.program.resolution.now.imports ref.entry ref.meaning) a_global ≡ target_by mode (layout mode p parts es) ref a_global
  plain_global_told ref known plain =
      ap (number_by same_global_key d.numbering.now.globals) (global_told d.program.names.now.names d.program.resolution.now.imports ref)
      ∙ global_number_told (ref_global Plain ref) (global_known d.program.names.now.names d.program.resolution.now.imports ref known.function)
      ∙ ap (λ m. keys.global_number (layout mode p parts es).numbers (ref_global m ref)) (sym plain)

  plain_target_told : (ref : Ref) → IsKnownRef mode d.program.names.now.names d.program.resolution.now.imports ref → mode ≡ Plain → (a : Asks)
      → target_of (looked d) (told_symbol d.program.names.now.names d.program.resolution.now.imports ref.entry ref.meaning) a ≡ target_by mode (layout mode p parts es) ref a
  plain_target_told ref known plain a_function = target_told ref known a_function tt
  plain_target_told ref known plain a_slot = target_told ref known a_slot tt
  plain_target_told ref known plain an_address = target_told ref known an_address tt
  plain_target_told ref known plain a_global = plain_global_told ref known plain
  plain_target_told ref known plain a_table = target_told ref known a_table tt

  meant_addend_told : (m : Meaning) (addend : ℤ) → addend_meant (told_lead d.program.resolution.now.imports m) addend ≡ values.meant_addend m addend
  meant_addend_told (here e) addend = refl
  meant_addend_told (imported k) addend = refl
  meant_addend_told null addend = refl
  meant_addend_told nothing addend = refl

  addend_told : (ref : Ref) (a : Asks) → addend_of (told_lead d.program.resolution.now.imports ref.meaning) ref.addend a ≡ addend_by ref a
  addend_told ref a_function = refl
  addend_told ref a_slot = refl
  addend_told ref an_address = meant_addend_told ref.meaning ref.addend
  addend_told ref a_global = refl
  addend_told ref a_table = refl

  -- the window of a reference, by what it stands for
  window_is : (ref : Ref) (target : ℕ) → target ≡ target_by mode (layout mode p parts es) ref (asks ref.kind)
      → window_to ref.place ref.kind ref.addend (told_lead d.program.resolution.now.imports ref.meaning) target ≡ values.ref_window mode (layout mode p parts es) ref
  window_is ref target is =
      let addend = addend_told ref (asks ref.kind) in
      λ i. record { place = ref.place; form = form_of ref.kind; target = pos (is i); addend = addend i }

  abbrev symbol_of : Ref → Symbol
  symbol_of ref = told_symbol d.program.names.now.names d.program.resolution.now.imports ref.entry ref.meaning

  type_told : (number : ℕ) → number < length d.program.tables.now.types → slice_index_or d.numbering.now.type_numbers number 0 ≡ keys.type_place (layout mode p parts es).numbers (slice_index_or d.program.tables.now.types number no_type)
  unfolding layout
  type_told number one =
      let f : FuncType → ℕ = type_number_in (numbers mode p parts es).types in
      let types = d.program.tables.now.types in
      ap (λ xs. slice_index_or xs number 0) is.numbering.type_numbers
      ∙ get_or_from_slice_get (map f types) number (f (get_or types number no_type)) 0 (slice_get-map f types number ∙ ap (option_map f) (slice_get-get_or types number no_type one))

  -- ---- the globals of a shared output

  one_import : OnePlace same_import import_equal import_itself d.program.resolution.now.imports
  unfolding imports_in_order
  one_import =
      subst (OnePlace same_import import_equal import_itself) (sym is.program.imports)
      (one_place_onto same_import import_equal import_itself (imports_in_order p) (further_imports mode p.entries p.resolved)
      (one_place same_import import_equal import_itself (filter_map import_of (flat_map (λ r. r.meanings) p.resolved))))

  made_numbers : mode ≡ Shared → AllZip (IsNumberOf d.program.resolution.now.imports) d.program.resolution.now.made
      (filter_map made_global_import (made_from 0 (made Shared) ++ filter is_entry (flat_map (symbols_of p.objects) p.objects)))
  unfolding entries
  made_numbers shared =
      subst (λ es. AllZip (IsNumberOf d.program.resolution.now.imports) d.program.resolution.now.made (filter_map made_global_import es)) (ap (λ m. entries m p.objects) shared)
      (subst (λ es. AllZip (IsNumberOf d.program.resolution.now.imports) d.program.resolution.now.made (filter_map made_global_import es)) is.program.entries
      (subst (λ m. AllZip (IsNumberOf d.program.resolution.now.imports) d.program.resolution.now.made (made_imports m p.entries)) shared is.program.resolution.made))

  cell_number_told : (ref : Ref) (at : ℕ) → IsKnownRef mode d.program.names.now.names d.program.resolution.now.imports ref → mode ≡ Shared → is_told (looked d) at (symbol_of ref) ≡ true
      → cell_number (looked d) at (symbol_of ref) ≡ target_by mode (layout mode p parts es) ref a_global
  cell_number_told ref at known shared told =
      let g = shared_told d.program.names.now.names d.program.resolution.now.imports one_import (looked d) refl refl
      (made_told d.program.resolution.now.imports d.program.resolution.now.made (filter is_entry (flat_map (symbols_of p.objects) p.objects)) (made_numbers shared))
      ref at known.function known.meant (subst (λ m. MeansLinkers m ref.meaning) shared known.linkers) told in
      ap (number_by same_global_key d.numbering.now.globals) g.is
      ∙ global_number_told (ref_global Shared ref) g.known
      ∙ ap (λ m. keys.global_number (layout mode p parts es).numbers (ref_global m ref)) (sym shared)

  shared_symbol_told : (ref : Ref) (at : ℕ) → IsKnownRef mode d.program.names.now.names d.program.resolution.now.imports ref → mode ≡ Shared → (c : Bool) → (ref.kind == 7) ≡ c
      → (not c || is_told (looked d) at (symbol_of ref)) ≡ true
      → (if c then window_to ref.place ref.kind ref.addend (symbol_of ref).lead (cell_number (looked d) at (symbol_of ref)) else symbol_window (looked d) ref.place ref.kind ref.addend (symbol_of ref))
      ≡ values.ref_window mode (layout mode p parts es) ref
  shared_symbol_told ref at known shared true kind told =
      let asked : a_global ≡ asks ref.kind = ap asks (sym (eqb-true ref.kind 7 kind)) in
      window_is ref (cell_number (looked d) at (symbol_of ref)) (cell_number_told ref at known shared told ∙ ap (target_by mode (layout mode p parts es) ref) asked)
  shared_symbol_told ref at known shared false kind told =
      window_is ref (target_of (looked d) (symbol_of ref) (asks ref.kind)) (target_told ref known (asks ref.kind) (other_kind ref.kind kind))

  -- ---- windows

  abbrev seen_at : ℕ → Symbol
  seen_at at = slice_index_or d.program.tables.now.symbols at no_symbol

  -- the window of a symbol's reference
  by_output : (m : Mode) → mode ≡ m → (ref : Ref) (at : ℕ) → IsKnownRef mode d.program.names.now.names d.program.resolution.now.imports ref
      → by_mode m true (not (ref.kind == 7) || is_told (looked d) at (symbol_of ref)) ≡ true
      → by_mode m (symbol_window (looked d) ref.place ref.kind ref.addend (symbol_of ref)) (shared_symbol (looked d) ref.place ref.kind ref.addend at (symbol_of ref))
      ≡ values.ref_window mode (layout mode p parts es) ref
  by_output Plain plain ref at known told =
      window_is ref (target_of (looked d) (symbol_of ref) (asks ref.kind)) (plain_target_told ref known plain (asks ref.kind))
  by_output Shared shared ref at known told = shared_symbol_told ref at known shared (ref.kind == 7) refl told

  abbrev IsNamedTold : Named → Type 0
  IsNamedTold named = by_mode mode true (is_named_told (looked d) named) ≡ true

  either_type : (m : Mode) (w : Window) → by_mode m w w ≡ w
  either_type Plain w = refl
  either_type Shared w = refl

  pub window_told : (named : Named) (n : rules.Named) → seen_named d.program.tables.now.symbols d.program.tables.now.types named ≡ told_named d.program.names.now.names d.program.resolution.now.imports n
      → NamesOne d.program.tables.now.symbols d.program.tables.now.types named → IsKnown mode d.program.names.now.names d.program.resolution.now.imports n → IsNamedTold named
      → window_by mode (looked d) named ≡ values.named_window mode (layout mode p parts es) n
  window_told (items.Symbol kind place addend symbol) (a_symbol ref) e one known told =
      let seen : SeenRef = record { place = place; kind = kind; addend = addend; symbol = seen_at symbol } in
      let same : seen ≡ told_ref d.program.names.now.names d.program.resolution.now.imports ref = cc in
      ap (λ (r : SeenRef). by_mode mode (symbol_window (looked d) r.place r.kind r.addend r.symbol) (shared_symbol (looked d) r.place r.kind r.addend symbol r.symbol)) same
      ∙ by_output mode refl ref symbol known
      (subst (λ (r : SeenRef). by_mode mode true (not (r.kind == 7) || is_told (looked d) symbol r.symbol) ≡ true) same told)
  window_told (items.Symbol kind place addend symbol) (a_type w) e one known told = absurd cc
  window_told (items.Type place number) (a_symbol ref) e one known told = absurd cc
  window_told (items.Type place number) (a_type w) e one known told =
      let at : place ≡ w.place = cc in
      let same : slice_index_or d.program.tables.now.types number no_type ≡ w.type = cc in
      let n = type_told number one ∙ ap (keys.type_place (layout mode p parts es).numbers) same in
      either_type mode (window_of (looked d) (items.Type place number)) ∙ (λ i. type_window (at i) (n i))

  pub rows_told : (row : List Named) (ns : List rules.Named)
      → map (seen_named d.program.tables.now.symbols d.program.tables.now.types) row ≡ map (told_named d.program.names.now.names d.program.resolution.now.imports) ns
      → All (NamesOne d.program.tables.now.symbols d.program.tables.now.types) row → All (IsKnown mode d.program.names.now.names d.program.resolution.now.imports) ns
      → All IsNamedTold row → map (window_by mode (looked d)) row ≡ map (values.named_window mode (layout mode p parts es)) ns
  rows_told [] [] e one known told = refl
  rows_told [] (n ∷ ns) e one known told = absurd cc
  rows_told (x ∷ row) [] e one known told = absurd cc
  rows_told (x ∷ row) (n ∷ ns) e one known told =
      let P = NamesOne d.program.tables.now.symbols d.program.tables.now.types in
      let K = IsKnown mode d.program.names.now.names d.program.resolution.now.imports in
      let first : seen_named d.program.tables.now.symbols d.program.tables.now.types x ≡ told_named d.program.names.now.names d.program.resolution.now.imports n = cc in
      let rest : map (seen_named d.program.tables.now.symbols d.program.tables.now.types) row ≡ map (told_named d.program.names.now.names d.program.resolution.now.imports) ns = cc in
      let h = window_told x n first (All-head P x row one) (All-head K n ns known) (All-head IsNamedTold x row told) in
      let t = rows_told row ns rest (All-tail P x row one) (All-tail K n ns known) (All-tail IsNamedTold x row told) in
      λ i. h i ∷ t i

  pub all_known : All (IsKnownRef mode d.program.names.now.names d.program.resolution.now.imports) (refs_of parts)
  all_known = known_all_of mode d.program.names.now.names d.program.resolution.now.imports (refs_of parts) is.knows is.meant is.linkers
