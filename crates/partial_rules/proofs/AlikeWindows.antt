-- Numbers, addresses and windows of two programs that are one but for places: windows hold the same.
use Rattle.std.proofs.Common.{◌≡◌, ℕ, ◌+◌, ◌==◌, Bool, true, false, ◌||◌, map, refl, sym, ap, subst, ◌∙◌, arith}
use Rattle.std.specs.Prelude.{Option, Some, option_map, unwrap_or, position, slice_index_or, All, if◌then◌else◌, IsTrue, pos}
use Rattle.std.proofs.lemmas.Bool.Decides.{nat_tests}
use Rattle.object_file.specs.linking_section.declared.symbol.SymbolKind.{SymbolKind}
use Rattle.object_file.specs.linking_section.declared.symbol.SymbolKind.TheVariants.{Function, Datum, GlobalVar, Section, Table}
use Rattle.object_file.specs.linking_section.Flags.{kind_code}
use Rattle.object_rules.specs.Relocs.{may_name}
use Rattle.made_symbols.specs.declared.mode.Mode.TheVariants.{Plain}
use Rattle.name_rules.specs.Entries.{InputSymbol, is_kind}
use Rattle.name_rules.specs.Meanings.{Meaning, here, imported, null, nothing}
use Rattle.mark_bits.specs.declared.chunk.Chunk.{Chunk}
use Rattle.memory_layout.specs.declared.rules.Places.{Places}
use Rattle.reloc_apply.specs.declared.window.Form.TheVariants.{Unsigned5}
use Rattle.object_file.specs.wasm_types.Same.{same_type}
use Rattle.index_layout.specs.Numbers.{number_by}
use Rattle.link_rules.specs.Program.{Program, Part, Named, a_symbol, a_type, Ref, chunk_at, chunk_by, chunk_of, same_chunk}
use Rattle.link_rules.specs.Keys.{FunctionKey, same_function, ref_function, is_null, GlobalKey, linker_global, own_global, got, got_of, same_global, ref_global, meant_global, ref_got, global_of, function_number, global_number, slot_of}
use Rattle.link_rules.specs.Values.{Layout, segment_address, address_of, made_data, meant_address, meant_addend, ref_slot, Asks, a_function, a_slot, an_address, a_global, a_table, asks, target_by, addend_by, ref_window, type_window, named_window, windows}
use Rattle.partial_rules.specs.Moving.{Moving, IsMoving, moved_meaning, moved_function, moved_global, MeansHeld, AlikeRef, AlikeNamed, AlikePart}
use Rattle.partial_rules.proofs.Lists.{number_told, zip_map}
use Rattle.partial_rules.proofs.AlikeKeys.{KnowsFunction, KnowsGlobal, tells_function, tells_global, ref_function_moves, ref_got_moves, global_key_moves, chunk_moves, null_moves}
use Rattle.partial_rules.proofs.AlikeNumbers.{is_zero}
use Rattle.partial_rules.proofs.AlikeSlots.{ref_known}

-- ---- what a relocation's type asks for, and of which symbols

abbrev asks_by : Bool → Bool → Bool → Bool → Asks
asks_by t0 t1 t2 t3 = if t0 then a_function else if t1 then a_slot else if t2 then an_address else if t3 then a_global else a_table

function_test : (t0 t1 t2 t3 : Bool) → asks_by t0 t1 t2 t3 ≡ a_function → t0 ≡ true
function_test true t1 t2 t3 e = refl
function_test false true t2 t3 e = absurd cc
function_test false false true t3 e = absurd cc
function_test false false false true e = absurd cc
function_test false false false false e = absurd cc

slot_test : (t0 t1 t2 t3 : Bool) → asks_by t0 t1 t2 t3 ≡ a_slot → t1 ≡ true
slot_test true t1 t2 t3 e = absurd cc
slot_test false true t2 t3 e = refl
slot_test false false true t3 e = absurd cc
slot_test false false false true e = absurd cc
slot_test false false false false e = absurd cc

address_test : (t0 t1 t2 t3 : Bool) → asks_by t0 t1 t2 t3 ≡ an_address → t2 ≡ true
address_test true t1 t2 t3 e = absurd cc
address_test false true t2 t3 e = absurd cc
address_test false false true t3 e = refl
address_test false false false true e = absurd cc
address_test false false false false e = absurd cc

global_test : (t0 t1 t2 t3 : Bool) → asks_by t0 t1 t2 t3 ≡ a_global → t3 ≡ true
global_test true t1 t2 t3 e = absurd cc
global_test false true t2 t3 e = absurd cc
global_test false false true t3 e = absurd cc
global_test false false false true e = refl
global_test false false false false e = absurd cc

is_that : (n k : ℕ) → (n == k) ≡ true → n ≡ k
is_that n k e = grind (arith, nat_tests, e)

no_way : {R : Type 0} → false ≡ true → R
no_way e = absurd cc

-- symbols that a type names are functions, or data
pub only_function : (k : ℕ) → may_name k Datum ≡ false → may_name k GlobalVar ≡ false → may_name k Section ≡ false → may_name k Table ≡ false → (kind : SymbolKind) → IsTrue (may_name k kind) → kind ≡ Function
only_function k a b c d Function may = refl
only_function k a b c d Datum may = no_way (sym a ∙ may)
only_function k a b c d GlobalVar may = no_way (sym b ∙ may)
only_function k a b c d Section may = no_way (sym c ∙ may)
only_function k a b c d Table may = no_way (sym d ∙ may)

only_datum : (k : ℕ) → may_name k Function ≡ false → may_name k GlobalVar ≡ false → may_name k Section ≡ false → may_name k Table ≡ false → (kind : SymbolKind) → IsTrue (may_name k kind) → kind ≡ Datum
only_datum k a b c d Function may = no_way (sym a ∙ may)
only_datum k a b c d Datum may = refl
only_datum k a b c d GlobalVar may = no_way (sym b ∙ may)
only_datum k a b c d Section may = no_way (sym c ∙ may)
only_datum k a b c d Table may = no_way (sym d ∙ may)

three : (R : Type 0) (a b c : Bool) → (a || b || c) ≡ true → (a ≡ true → R) → (b ≡ true → R) → (c ≡ true → R) → R
three R true b c e fa fb fc = fa refl
three R false true c e fa fb fc = fb refl
three R false false true e fa fb fc = fc refl
three R false false false e fa fb fc = absurd cc

four : (R : Type 0) (a b c d : Bool) → (a || b || c || d) ≡ true → (a ≡ true → R) → (b ≡ true → R) → (c ≡ true → R) → (d ≡ true → R) → R
four R true b c d e fa fb fc fd = fa refl
four R false true c d e fa fb fc fd = fb refl
four R false false true d e fa fb fc fd = fc refl
four R false false false true e fa fb fc fd = fd refl
four R false false false false e fa fb fc fd = absurd cc

function_asked : (n : ℕ) (kind : SymbolKind) → asks n ≡ a_function → IsTrue (may_name n kind) → kind ≡ Function
function_asked n kind e may =
    let zero : n ≡ 0 = is_that n 0 (function_test (n == 0) ((n == 1) || (n == 2) || (n == 12)) ((n == 3) || (n == 4) || (n == 5) || (n == 11)) (n == 7) e) in
    only_function 0 refl refl refl refl kind (subst (λ k. IsTrue (may_name k kind)) zero may)

slot_asked : (n : ℕ) (kind : SymbolKind) → asks n ≡ a_slot → IsTrue (may_name n kind) → kind ≡ Function
slot_asked n kind e may =
    three (kind ≡ Function) (n == 1) (n == 2) (n == 12) (slot_test (n == 0) ((n == 1) || (n == 2) || (n == 12)) ((n == 3) || (n == 4) || (n == 5) || (n == 11)) (n == 7) e)
    (λ t. only_function 1 refl refl refl refl kind (subst (λ k. IsTrue (may_name k kind)) (is_that n 1 t) may))
    (λ t. only_function 2 refl refl refl refl kind (subst (λ k. IsTrue (may_name k kind)) (is_that n 2 t) may))
    (λ t. only_function 12 refl refl refl refl kind (subst (λ k. IsTrue (may_name k kind)) (is_that n 12 t) may))

address_asked : (n : ℕ) (kind : SymbolKind) → asks n ≡ an_address → IsTrue (may_name n kind) → kind ≡ Datum
address_asked n kind e may =
    four (kind ≡ Datum) (n == 3) (n == 4) (n == 5) (n == 11) (address_test (n == 0) ((n == 1) || (n == 2) || (n == 12)) ((n == 3) || (n == 4) || (n == 5) || (n == 11)) (n == 7) e)
    (λ t. only_datum 3 refl refl refl refl kind (subst (λ k. IsTrue (may_name k kind)) (is_that n 3 t) may))
    (λ t. only_datum 4 refl refl refl refl kind (subst (λ k. IsTrue (may_name k kind)) (is_that n 4 t) may))
    (λ t. only_datum 5 refl refl refl refl kind (subst (λ k. IsTrue (may_name k kind)) (is_that n 5 t) may))
    (λ t. only_datum 11 refl refl refl refl kind (subst (λ k. IsTrue (may_name k kind)) (is_that n 11 t) may))

-- ---- two layouts

module _ (m : Moving) (C : Chunk → Type 0) (K : InputSymbol → Type 0) (is : IsMoving m C K) where
  pub record AlikeLayout (l o : Layout) : Type 0 where
    pub segments : o.segments ≡ map m.chunk l.segments
    pub held : All C l.segments
    pub places : o.places ≡ l.places
    pub functions : o.numbers.functions ≡ map (moved_function m) l.numbers.functions
    pub functions_known : All (KnowsFunction m C K is) l.numbers.functions
    pub slots : o.numbers.slots ≡ map (moved_function m) l.numbers.slots
    pub slots_known : All (KnowsFunction m C K is) l.numbers.slots
    pub first : o.numbers.first_slot ≡ l.numbers.first_slot
    pub globals : o.numbers.globals ≡ map (moved_global m) l.numbers.globals
    pub globals_known : All (KnowsGlobal m C K is) l.numbers.globals
    pub types : o.numbers.types ≡ l.numbers.types

  global_chunk : (e : InputSymbol) → e.symbol.kind ≡ GlobalVar → chunk_of e ≡ Some (chunk_at e.input 2 e.index)
  global_chunk e of = rw of refl

  pub global_entry : (e : InputSymbol) → K e → e.symbol.kind ≡ GlobalVar → KnowsGlobal m C K is (global_of Plain e)
  global_entry e k of = by_made (e.input == 0)
    where
      by_made : (r : Bool) → KnowsGlobal m C K is (if r then linker_global e.place else own_global e.input e.index)
      by_made true = tt
      by_made false = is.entry_held e (chunk_at e.input 2 e.index) k (global_chunk e of)

  module _ (l o : Layout) (s : AlikeLayout l o) where
    pub function_number_alike : (f : FunctionKey) → KnowsFunction m C K is f → function_number o.numbers (moved_function m f) ≡ function_number l.numbers f
    function_number_alike f k =
        ap (λ fs. number_by same_function fs (moved_function m f)) s.functions
        ∙ number_told (moved_function m) same_function same_function (KnowsFunction m C K is) (tells_function m C K is) f l.numbers.functions k s.functions_known

    pub slot_alike : (f : FunctionKey) → KnowsFunction m C K is f → slot_of o.numbers (moved_function m f) ≡ slot_of l.numbers f
    slot_alike f k =
        ap (λ n. n + number_by same_function o.numbers.slots (moved_function m f)) s.first
        ∙ ap (λ n. l.numbers.first_slot + n) (ap (λ fs. number_by same_function fs (moved_function m f)) s.slots
        ∙ number_told (moved_function m) same_function same_function (KnowsFunction m C K is) (tells_function m C K is) f l.numbers.slots k s.slots_known)

    pub global_number_alike : (g : GlobalKey) → KnowsGlobal m C K is g → global_number o.numbers (moved_global m g) ≡ global_number l.numbers g
    global_number_alike g k =
        ap (λ gs. number_by same_global gs (moved_global m g)) s.globals
        ∙ number_told (moved_global m) same_global same_global (KnowsGlobal m C K is) (tells_global m C K is) g l.numbers.globals k s.globals_known

    -- ---- addresses

    place_alike : (c : Chunk) → C c → unwrap_or (position (same_chunk (m.chunk c)) o.segments) 0 ≡ unwrap_or (position (same_chunk c) l.segments) 0
    place_alike c held =
        ap (λ cs. unwrap_or (position (same_chunk (m.chunk c)) cs) 0) s.segments
        ∙ number_told m.chunk same_chunk same_chunk C is.chunks_apart c l.segments held s.held

    pub segment_alike : (c : Chunk) → C c → segment_address o (m.chunk c) ≡ segment_address l c
    segment_alike c held = ap (λ (at : Places). slice_index_or at.addresses (unwrap_or (position (same_chunk (m.chunk c)) o.segments) 0) 0) s.places ∙ ap (λ n. slice_index_or l.places.addresses n 0) (place_alike c held)

    same_some : (a b : Chunk) → (let r : Option Chunk = Some a in r ≡ Some b) → a ≡ b
    same_some a b e = cc

    address_by : Layout → InputSymbol → Bool → ℕ
    address_by z e true = slice_index_or (made_data z.places) e.place 0
    address_by z e false = segment_address z (chunk_at e.input 1 e.index) + e.symbol.offset

    address_is : (z : Layout) (e : InputSymbol) (r : Bool) → (e.input == 0) ≡ r → address_of Plain z e ≡ address_by z e r
    unfolding address_by
    address_is z e true made = rw made refl
    address_is z e false made = rw made refl

    pub address_alike : (e : InputSymbol) → K e → e.symbol.kind ≡ Datum → address_of Plain o (m.entry e) ≡ address_of Plain l e
    unfolding address_by
    address_alike e k of = by_made (e.input == 0) refl
      where
        by_made : (r : Bool) → (e.input == 0) ≡ r → address_of Plain o (m.entry e) ≡ address_of Plain l e
        by_made true made =
            ap (address_of Plain o) (is.entry_stays e k (is_zero e.input made)) ∙ (address_is o e true made
            ∙ (ap (λ at. slice_index_or (made_data at) e.place 0) s.places ∙ sym (address_is l e true made)))
        by_made false other =
            let at : chunk_at (m.entry e).input 1 (m.entry e).index ≡ m.chunk (chunk_at e.input 1 e.index) = datum_moves other in
            address_is o (m.entry e) false (is.entry_made e k ∙ other)
            ∙ (ap (λ c. segment_address o c + (m.entry e).symbol.offset) at
            ∙ (ap (λ n. segment_address o (m.chunk (chunk_at e.input 1 e.index)) + n) (is.entry_offset e k)
            ∙ (ap (λ n. n + e.symbol.offset) (segment_alike (chunk_at e.input 1 e.index) (datum_held other)) ∙ sym (address_is l e false other))))
          where
            chunk_is : (f : InputSymbol) → (f.input == 0) ≡ false → chunk_by f Datum ≡ Some (chunk_at f.input 1 f.index)
            chunk_is f other = rw other refl

            datum_moves : (e.input == 0) ≡ false → chunk_at (m.entry e).input 1 (m.entry e).index ≡ m.chunk (chunk_at e.input 1 e.index)
            datum_moves other =
                same_some (chunk_at (m.entry e).input 1 (m.entry e).index) (m.chunk (chunk_at e.input 1 e.index))
                (sym (chunk_is (m.entry e) (is.entry_made e k ∙ other)) ∙ (chunk_moves m C K is e Datum k of ∙ ap (option_map m.chunk) (chunk_is e other)))

            datum_held : (e.input == 0) ≡ false → C (chunk_at e.input 1 e.index)
            datum_held other = is.entry_held e (chunk_at e.input 1 e.index) k (ap (chunk_by e) of ∙ chunk_is e other)

    -- ---- what a window holds

    slot_of_ref : (a b : Ref) → AlikeRef m C K a b → a.entry.symbol.kind ≡ Function → ref_slot o b ≡ ref_slot l a
    slot_of_ref a b r of =
        ap (λ z. if z then 0 else slot_of o.numbers (ref_function b)) (ap is_null r.meaning ∙ null_moves m C K is a.meaning)
        ∙ ap (λ n. if is_null a.meaning then 0 else n) (ap (slot_of o.numbers) (ref_function_moves m C K is a b r of) ∙ slot_alike (ref_function a) (ref_known m C K is a b r of))

    meant_alike : (a b : Ref) → AlikeRef m C K a b → a.entry.symbol.kind ≡ Datum → meant_address Plain o b.meaning ≡ meant_address Plain l a.meaning
    meant_alike a b r of = ap (meant_address Plain o) r.meaning ∙ by_meaning a.meaning r.held
      where
        by_meaning : (x : Meaning) → MeansHeld m C K a.entry.symbol.kind x → meant_address Plain o (moved_meaning m x) ≡ meant_address Plain l x
        by_meaning (here e) held = address_alike e held.0 (held.1 ∙ of)
        by_meaning (imported k) held = refl
        by_meaning null held = refl
        by_meaning nothing held = refl

    -- the global or the cell that a reference reads
    abbrev global_by : SymbolKind → Ref → Meaning → GlobalKey → GlobalKey
    global_by kind ref x cell = if kind_code kind == kind_code GlobalVar then meant_global Plain ref x else cell

    global_moves_to : (a b : Ref) → AlikeRef m C K a b → ref_global Plain b ≡ moved_global m (ref_global Plain a)
    global_moves_to a b r = by_kind a.entry.symbol.kind refl
      where
        cell : got (ref_got b) ≡ moved_global m (got (ref_got a))
        cell = ap got (ref_got_moves m C K is a b r)

        by_meaning : a.entry.symbol.kind ≡ GlobalVar → (x : Meaning) → MeansHeld m C K a.entry.symbol.kind x → meant_global Plain b (moved_meaning m x) ≡ moved_global m (meant_global Plain a x)
        by_meaning of (here e) held = global_key_moves m C K is e held.0 (held.1 ∙ of)
        by_meaning of (imported k) held = refl
        by_meaning of null held = cell
        by_meaning of nothing held = cell

        as_global : a.entry.symbol.kind ≡ GlobalVar → ref_global Plain b ≡ moved_global m (ref_global Plain a)
        as_global of =
            ap (λ kind. global_by kind b b.meaning (got (ref_got b))) (r.symbol_kind ∙ of)
            ∙ (ap (meant_global Plain b) r.meaning ∙ (by_meaning of a.meaning r.held
            ∙ ap (λ kind. moved_global m (global_by kind a a.meaning (got (ref_got a)))) (sym of)))

        as_cell : (kind : SymbolKind) → a.entry.symbol.kind ≡ kind → (kind_code kind == kind_code GlobalVar) ≡ false → ref_global Plain b ≡ moved_global m (ref_global Plain a)
        as_cell kind of other =
            ap (λ k. global_by k b b.meaning (got (ref_got b))) (r.symbol_kind ∙ of)
            ∙ (ap (λ z. if z then meant_global Plain b b.meaning else got (ref_got b)) other ∙ (cell
            ∙ (ap (λ z. moved_global m (if z then meant_global Plain a a.meaning else got (ref_got a))) (sym other)
            ∙ ap (λ k. moved_global m (global_by k a a.meaning (got (ref_got a)))) (sym of))))

        by_kind : (kind : SymbolKind) → a.entry.symbol.kind ≡ kind → ref_global Plain b ≡ moved_global m (ref_global Plain a)
        by_kind Function of = as_cell Function of refl
        by_kind Datum of = as_cell Datum of refl
        by_kind GlobalVar of = as_global of
        by_kind Section of = as_cell Section of refl
        by_kind Table of = as_cell Table of refl

    global_known : (a b : Ref) → AlikeRef m C K a b → KnowsGlobal m C K is (ref_global Plain a)
    global_known a b r = by_kind (is_kind GlobalVar a.entry) refl
      where
        cell : KnowsGlobal m C K is (got (ref_got a))
        cell = by_meaning a.meaning r.held
          where
            by_meaning : (x : Meaning) → MeansHeld m C K a.entry.symbol.kind x → KnowsGlobal m C K is (got (got_of (kind_code a.entry.symbol.kind) x))
            by_meaning (here e) held = held.0
            by_meaning (imported k) held = tt
            by_meaning null held = tt
            by_meaning nothing held = tt

        chunk_is : (e : InputSymbol) → e.symbol.kind ≡ GlobalVar → chunk_of e ≡ Some (chunk_at e.input 2 e.index)
        chunk_is e of = rw of refl

        of_entry : (e : InputSymbol) → K e → e.symbol.kind ≡ GlobalVar → KnowsGlobal m C K is (global_of Plain e)
        of_entry e k of = by_made (e.input == 0)
          where
            by_made : (r : Bool) → KnowsGlobal m C K is (if r then linker_global e.place else own_global e.input e.index)
            by_made true = tt
            by_made false = is.entry_held e (chunk_at e.input 2 e.index) k (chunk_is e of)

        code_is : (kind : SymbolKind) → (kind_code kind == kind_code GlobalVar) ≡ true → kind ≡ GlobalVar
        code_is Function e = absurd cc
        code_is Datum e = absurd cc
        code_is GlobalVar e = refl
        code_is Section e = absurd cc
        code_is Table e = absurd cc

        by_meaning : a.entry.symbol.kind ≡ GlobalVar → (x : Meaning) → MeansHeld m C K a.entry.symbol.kind x → KnowsGlobal m C K is (meant_global Plain a x)
        by_meaning of (here e) held = of_entry e held.0 (held.1 ∙ of)
        by_meaning of (imported k) held = tt
        by_meaning of null held = cell
        by_meaning of nothing held = cell

        by_kind : (z : Bool) → is_kind GlobalVar a.entry ≡ z → KnowsGlobal m C K is (if z then meant_global Plain a a.meaning else got (ref_got a))
        by_kind true e = by_meaning (code_is a.entry.symbol.kind e) a.meaning r.held
        by_kind false e = cell

    target_alike : (a b : Ref) → AlikeRef m C K a b → target_by Plain o b (asks b.kind) ≡ target_by Plain l a (asks a.kind)
    target_alike a b r = ap (λ n. target_by Plain o b (asks n)) r.kind ∙ by_asks (asks a.kind) refl
      where
        by_asks : (w : Asks) → asks a.kind ≡ w → target_by Plain o b w ≡ target_by Plain l a w
        by_asks a_function e =
            let of : a.entry.symbol.kind ≡ Function = function_asked a.kind a.entry.symbol.kind e r.may in
            ap (function_number o.numbers) (ref_function_moves m C K is a b r of) ∙ function_number_alike (ref_function a) (ref_known m C K is a b r of)
        by_asks a_slot e = slot_of_ref a b r (slot_asked a.kind a.entry.symbol.kind e r.may)
        by_asks an_address e = meant_alike a b r (address_asked a.kind a.entry.symbol.kind e r.may)
        by_asks a_global e = ap (global_number o.numbers) (global_moves_to a b r) ∙ global_number_alike (ref_global Plain a) (global_known a b r)
        by_asks a_table e = refl

    addend_alike : (a b : Ref) → AlikeRef m C K a b → addend_by b (asks b.kind) ≡ addend_by a (asks a.kind)
    addend_alike a b r = ap (λ n. addend_by b (asks n)) r.kind ∙ by_asks (asks a.kind)
      where
        by_meaning : (x : Meaning) → meant_addend (moved_meaning m x) a.addend ≡ meant_addend x a.addend
        by_meaning (here e) = refl
        by_meaning (imported k) = refl
        by_meaning null = refl
        by_meaning nothing = refl

        by_asks : (w : Asks) → addend_by b w ≡ addend_by a w
        by_asks a_function = refl
        by_asks a_slot = refl
        by_asks an_address = ap (λ x. meant_addend x b.addend) r.meaning ∙ (ap (meant_addend (moved_meaning m a.meaning)) r.addend ∙ by_meaning a.meaning)
        by_asks a_global = refl
        by_asks a_table = refl

    pub window_alike : (a b : Ref) → AlikeRef m C K a b → ref_window Plain o b ≡ ref_window Plain l a
    window_alike a b r = rw (r.place, target_alike a b r, addend_alike a b r, r.kind) refl

    named_alike : (x y : Named) → AlikeNamed m C K x y → named_window Plain o y ≡ named_window Plain l x
    named_alike (a_symbol a) (a_symbol b) r = window_alike a b r
    named_alike (a_symbol a) (a_type w) r = absurd r
    named_alike (a_type v) (a_symbol b) r = absurd r
    named_alike (a_type v) (a_type w) r = ap (type_window o) r ∙ ap (λ ts. record { place = v.place; form = Unsigned5; target = pos (number_by same_type ts v.type); addend = pos 0 }) s.types

    -- The windows of a part hold the same.
    pub windows_alike : (p q : Program) (x y : Part) → AlikePart m C K p q x y → windows Plain o y ≡ windows Plain l x
    unfolding windows
    windows_alike p q x y alike = zip_map (AlikeNamed m C K) (named_window Plain l) (named_window Plain o) named_alike x.named y.named alike.named
