-- The symbols of a program's relocatable object, as a link reads them in the place of a run: few enough, and those that stand in the program.
use Rattle.std.proofs.Common.{◌≡◌, ℕ, ◌<◌, ◌≤◌, ◌^◌, true, false, List, [], ◌∷◌, ◌++◌, map, length, refl, sym, ap, ◌∙◌, arith, zero, suc, inl, inr, ◌+◌}
use Rattle.std.specs.Prelude.{Option, Some, None, option_map, flat_map, All, codes, if◌then◌else◌}
use Rattle.std.proofs.lemmas.Bool.{cases_lt, lt-ltb, le-ltb}
use Rattle.std.proofs.lemmas.List.{length-map, length-append}
use Rattle.std.proofs.lemmas.List.Concat.{flat_map-cons}
use Rattle.name_rules.specs.object_file.linking_section.declared.symbol.Symbol.{Symbol}
use Rattle.name_rules.specs.object_file.linking_section.declared.symbol.SymbolKind.TheVariants.{Datum}
use Rattle.name_rules.specs.object_file.declared.object.Object.{Object}
use Rattle.object_file.specs.Objects.{object_from}
use Rattle.name_rules.specs.Entries.{InputSymbol, ImportKey, is_kind, type_in, import_in, key_of}
use Rattle.image_emit.specs.Bytes.{sized, vector, header, func_type, import_entry, export}
use Rattle.object_file.specs.leb_codec.Shortest.{shortest, u32}
use Rattle.link_rules.specs.Program.{Program}
use Rattle.link_rules.specs.Keys.{content_type}
use Rattle.partial_rules.specs.Relocatable.{Relocatable, Windowed, segment_info, symbol, init, group, subsection, linking, body, segment, spelled_global, relocatable_bytes}
use Rattle.partial_rules.specs.Partial.{kept, windowed, types, type_number, standing, is_open, open_import, symbol_for, relocatable}
use Rattle.partial_rules.specs.WellFormed.{Coded, IsWritable}
use Rattle.partial_rules.specs.Sections.{Raw, raw_bytes, raws_bytes, sec, linking_raw, code_rel, data_rel, raws, sections_told}
use Rattle.partial_rules.specs.ReadAs.{parts_told}
use Rattle.partial_laws.specs.Inputs.{Run, Objects}
use Rattle.partial_laws.specs.Standing.{joined_symbol}
use Rattle.partial_laws.specs.Joined.{SymbolsRead}
use Rattle.partial_laws.proofs.Instance.{all_from_has}
use Rattle.partial_laws.proofs.Loading.{rise_above}
use Rattle.partial_parts_laws.specs.Linked.{Linked, program}
use Rattle.partial_parts_laws.specs.ReadBack.{TreeRead, AreLinked}
use Rattle.partial_parts_laws.specs.SymbolsBack.{AreNamed, SymbolsAreRead}
use Rattle.partial_parts_laws.proofs.Sectioned.{raws_append, sectioned}
use Rattle.partial_parts_laws.proofs.ReadTree.{trees_are_read}
use Rattle.partial_parts_laws.proofs.KeptParts.{of_global}
use Rattle.partial_parts_laws.proofs.SymbolsBack.{symbols_come, types_back, closed_imports_back, open_imports_back}

-- ---- how many there are

long_items : {A : Type 0} (item : A → List ℕ) (xs : List A) → ((x : A) → 1 ≤ length (item x)) → length xs ≤ length (flat_map item xs)
long_items item [] some = omega arith
long_items item (x ∷ xs) some = omega (arith, ap (λ (ys : List ℕ). length ys) (flat_map-cons item x xs), length-append (item x) (flat_map item xs), some x, long_items item xs some)

long_behind : (a b : List Raw) → length (raws_bytes b) ≤ length (raws_bytes (a ++ b))
long_behind a b = omega (arith, ap (λ (ys : List ℕ). length ys) (raws_append a b), length-append (raws_bytes a) (raws_bytes b))

long_linking : (r : Relocatable) → length r.symbols ≤ length (linking r)
long_linking r =
    let v : List ℕ = vector symbol r.symbols in
    let a : List ℕ = u32 2 ++ (8 ∷ sized v) in
    let b : List ℕ = subsection 5 segment_info r.infos in
    let c : List ℕ = subsection 6 init r.inits in
    let d : List ℕ = subsection 7 group r.groups in
    let items : length r.symbols ≤ length (flat_map symbol r.symbols) = long_items symbol r.symbols (λ s. some_symbol s) in
    let in_vector : length (flat_map symbol r.symbols) ≤ length v = omega (arith, length-append (u32 (length r.symbols)) (flat_map symbol r.symbols)) in
    let in_sized : length v ≤ length (sized v) = omega (arith, length-append (u32 (length v)) v) in
    let in_a : length (sized v) ≤ length a = omega (arith, length-append (u32 2) (8 ∷ sized v)) in
    let in_b : length a ≤ length (a ++ b) = omega (arith, length-append a b) in
    let in_c : length (a ++ b) ≤ length (a ++ b ++ c) = omega (arith, length-append (a ++ b) c) in
    let in_d : length (a ++ b ++ c) ≤ length (a ++ b ++ c ++ d) = omega (arith, length-append (a ++ b ++ c) d) in
    omega (arith, items, in_vector, in_sized, in_a, in_b, in_c, in_d)
  where
    some_symbol : (s : Symbol) → 1 ≤ length (symbol s)
    some_symbol s = omega arith

long_bytes : (r : Relocatable) → length r.symbols ≤ length (relocatable_bytes r)
long_bytes r =
    let c : List Raw = code_rel r ++ data_rel r in
    let g : List Raw = linking_raw r ∷ c in
    let f : List Raw = sec 11 segment r.segments ++ g in
    let e : List Raw = sec 10 body r.bodies ++ f in
    let d : List Raw = sec 7 export r.exports ++ e in
    let b : List Raw = sec 6 spelled_global r.globals ++ d in
    let a : List Raw = sec 3 (λ (n : ℕ). u32 n) r.functions ++ b in
    let z : List Raw = sec 2 import_entry r.imports ++ a in
    let payload : List ℕ = sized (codes "linking") ++ linking r in
    let own : length (linking r) ≤ length payload = omega (arith, length-append (sized (codes "linking")) (linking r)) in
    let one : length payload ≤ length (raw_bytes (linking_raw r)) = omega (arith, length-append (u32 (length payload)) payload) in
    let first : length (raw_bytes (linking_raw r)) ≤ length (raws_bytes g) = omega (arith, length-append (raw_bytes (linking_raw r)) (raws_bytes c)) in
    omega (
      arith,
      long_linking r,
      own,
      one,
      first,
      long_behind (sec 11 segment r.segments) g,
      long_behind (sec 10 body r.bodies) f,
      long_behind (sec 7 export r.exports) e,
      long_behind (sec 6 spelled_global r.globals) d,
      long_behind (sec 3 (λ (n : ℕ). u32 n) r.functions) b,
      long_behind (sec 2 import_entry r.imports) a,
      long_behind (sec 1 func_type r.types) z,
      length-append header (raws_bytes (raws r)),
      ap (λ (ys : List ℕ). length ys) (sectioned r),
    )

-- segments have some bytes too
long_segments : (r : Relocatable) → length r.segments ≤ length (relocatable_bytes r)
long_segments r = by_segments r.segments refl
  where
    g : List Raw
    g = linking_raw r ∷ (code_rel r ++ data_rel r)

    behind : (f : List Raw) → f ≡ sec 11 segment r.segments ++ g → length (raws_bytes f) ≤ length (relocatable_bytes r)
    behind f is =
        let e : List Raw = sec 10 body r.bodies ++ (sec 11 segment r.segments ++ g) in
        let d : List Raw = sec 7 export r.exports ++ e in
        let b : List Raw = sec 6 spelled_global r.globals ++ d in
        let a : List Raw = sec 3 (λ (n : ℕ). u32 n) r.functions ++ b in
        let z : List Raw = sec 2 import_entry r.imports ++ a in
        omega (
          arith,
          ap (λ (x : List Raw). length (raws_bytes x)) is,
          long_behind (sec 10 body r.bodies) (sec 11 segment r.segments ++ g),
          long_behind (sec 7 export r.exports) e,
          long_behind (sec 6 spelled_global r.globals) d,
          long_behind (sec 3 (λ (n : ℕ). u32 n) r.functions) b,
          long_behind (sec 2 import_entry r.imports) a,
          long_behind (sec 1 func_type r.types) z,
          length-append header (raws_bytes (raws r)),
          ap (λ (ys : List ℕ). length ys) (sectioned r),
        )

    some_segment : (w : Windowed) → 1 ≤ length (segment w)
    some_segment w = omega arith

    by_segments : (ws : List Windowed) → r.segments ≡ ws → length r.segments ≤ length (relocatable_bytes r)
    by_segments [] none = omega (arith, ap (λ (xs : List Windowed). length xs) none)
    by_segments (w ∷ ws) some =
        let v : List ℕ = vector segment (w ∷ ws) in
        let first : List ℕ = raw_bytes (record { id = 11; payload = v }) in
        let items : length (w ∷ ws) ≤ length (flat_map segment (w ∷ ws)) = long_items segment (w ∷ ws) some_segment in
        let in_vector : length (flat_map segment (w ∷ ws)) ≤ length v = omega (arith, length-append (u32 (length (w ∷ ws))) (flat_map segment (w ∷ ws))) in
        let in_first : length v ≤ length first = omega (arith, length-append (u32 (length v)) v) in
        let in_all : length first ≤ length (raws_bytes (sec 11 segment (w ∷ ws) ++ g)) = omega (arith, length-append first (raws_bytes g)) in
        omega (arith, ap (λ (xs : List Windowed). length xs) some, items, in_vector, in_first, in_all, behind (sec 11 segment (w ∷ ws) ++ g) (ap (λ xs. sec 11 segment xs ++ g) (sym some)))

pub few_segments : (p : Program) → length (relocatable_bytes (relocatable p)) ≤ 2 ^ 30 → length (kept p 1) < 2 ^ 32
unfolding relocatable
few_segments p short =
    let segments : length (kept p 1) ≡ length (relocatable p).segments = sym (length-map (kept p 1) (λ part. windowed p part)) in
    omega (arith, segments, long_segments (relocatable p), short)

one_byte : (k n : ℕ) → 1 ≤ length (shortest k n)
one_byte zero n = omega arith
one_byte (suc k) n = elim (cases_lt n 128) [
  | inl low ↦ rw (lt-ltb n 128 low) (omega arith)
  | inr high ↦ rw (le-ltb n 128 high) (omega arith)
]

some_u32 : (n : ℕ) → 1 ≤ length (u32 n)
unfolding u32
some_u32 n = one_byte 4 n

-- as many items as bytes, at most
long_section : {A : Type 0} (id : ℕ) (item : A → List ℕ) (xs : List A) (ss : List Raw) → ((x : A) → 1 ≤ length (item x)) → length xs ≤ length (raws_bytes (sec id item xs ++ ss))
long_section id item [] ss some = omega arith
long_section id item (x ∷ xs) ss some =
    let v : List ℕ = vector item (x ∷ xs) in
    let first : List ℕ = raw_bytes (record { id = id; payload = v }) in
    let items : length (x ∷ xs) ≤ length (flat_map item (x ∷ xs)) = long_items item (x ∷ xs) some in
    let in_vector : length (flat_map item (x ∷ xs)) ≤ length v = omega (arith, length-append (u32 (length (x ∷ xs))) (flat_map item (x ∷ xs))) in
    let in_first : length v ≤ length first = omega (arith, length-append (u32 (length v)) v) in
    omega (arith, items, in_vector, in_first, length-append first (raws_bytes ss))

long_heads : (r : Relocatable) → (length r.types ≤ length (relocatable_bytes r)) × (length r.functions ≤ length (relocatable_bytes r))
long_heads r =
    let e : List Raw = sec 7 export r.exports ++ (sec 10 body r.bodies ++ (sec 11 segment r.segments ++ (linking_raw r ∷ (code_rel r ++ data_rel r)))) in
    let d : List Raw = sec 6 spelled_global r.globals ++ e in
    let a : List Raw = sec 3 (λ (n : ℕ). u32 n) r.functions ++ d in
    let z : List Raw = sec 2 import_entry r.imports ++ a in
    let all : length (relocatable_bytes r) ≡ length header + length (raws_bytes (raws r)) = ap (λ (ys : List ℕ). length ys) (sym (sectioned r)) ∙ length-append header (raws_bytes (raws r)) in
    let types : length r.types ≤ length (raws_bytes (raws r)) = long_section 1 func_type r.types z (λ t. omega arith) in
    let functions : length r.functions ≤ length (raws_bytes a) = long_section 3 (λ (n : ℕ). u32 n) r.functions d some_u32 in
    (omega (arith, all, types), omega (arith, all, functions, long_behind (sec 2 import_entry r.imports) a, long_behind (sec 1 func_type r.types) z))

-- globals have a type at least
pub few_globals : (p : Program) → length (relocatable_bytes (relocatable p)) ≤ 2 ^ 30 → length (relocatable p).globals ≤ 2 ^ 30
few_globals p short = omega (arith, long_globals (relocatable p), short)
  where
    long_globals : (r : Relocatable) → length r.globals ≤ length (relocatable_bytes r)
    long_globals r =
        let d : List Raw = sec 7 export r.exports ++ (sec 10 body r.bodies ++ (sec 11 segment r.segments ++ (linking_raw r ∷ (code_rel r ++ data_rel r)))) in
        let b : List Raw = sec 6 spelled_global r.globals ++ d in
        let a : List Raw = sec 3 (λ (n : ℕ). u32 n) r.functions ++ b in
        let z : List Raw = sec 2 import_entry r.imports ++ a in
        let globals : length r.globals ≤ length (raws_bytes b) = long_section 6 spelled_global r.globals d (λ g. omega arith) in
        omega (
          arith,
          globals,
          ap (λ (ys : List ℕ). length ys) (sym (sectioned r)) ∙ length-append header (raws_bytes (raws r)),
          long_behind (sec 3 (λ (n : ℕ). u32 n) r.functions) b,
          long_behind (sec 2 import_entry r.imports) a,
          long_behind (sec 1 func_type r.types) z,
        )

pub few_types : (p : Program) → length (relocatable_bytes (relocatable p)) ≤ 2 ^ 30 → length (types p) ≤ 2 ^ 30
unfolding relocatable
few_types p short = omega (arith, (long_heads (relocatable p)).0, short)

pub few_functions : (p : Program) → length (relocatable_bytes (relocatable p)) ≤ 2 ^ 30 → length (kept p 0) ≤ 2 ^ 30
unfolding relocatable
few_functions p short =
    let functions : length (kept p 0) ≡ length (relocatable p).functions = sym (length-map (kept p 0) (λ part. type_number p (content_type part.content))) in
    omega (arith, functions, (long_heads (relocatable p)).1, short)

pub few_standing : (p : Program) → length (relocatable_bytes (relocatable p)) ≤ 2 ^ 30 → length (standing p) ≤ 2 ^ 30
unfolding relocatable
few_standing p short =
    let symbols : length (standing p) ≡ length (relocatable p).symbols = sym (length-map (standing p) (λ x. symbol_for p x)) in
    omega (arith, symbols, long_bytes (relocatable p), short)

-- ---- all

module _ (l : Linked) (objects : List Object) (is : AreLinked l objects) (names : All AreNamed objects) (codes : List Coded) (writable : IsWritable (relocatable (program l objects)) codes) (input : ℕ) where
  abbrev p : Program
  p = program l objects

  abbrev o : Object
  o = object_from input (sections_told (relocatable p)) (parts_told (relocatable p) codes)

  above : All (λ (y : Object). 0 < y.input) objects
  above = rise_above 0 objects is.rise

  tree : TreeRead p o
  tree = trees_are_read input p codes (λ part has. of_global l objects is.strict above part has) writable.bodies

  symbols_are : o.symbols ≡ map (λ x. symbol_for p x) (standing p)
  unfolding object_from relocatable
  symbols_are = symbols_come l objects is names

  abbrev import_in_object : Object → InputSymbol → Option ImportKey
  import_in_object ob x = option_map (key_of (type_in ob (symbol_for p x) (symbol_for p x).kind)) (import_in ob (symbol_for p x) (symbol_for p x).kind)

  -- the same of any object that is this one
  joined_read : (joined : Object) → joined ≡ o → (run : Run) (os : Objects) → os.joined ≡ joined → length (relocatable_bytes (relocatable p)) ≤ 2 ^ 30 → SymbolsRead run os p
  joined_read joined same run os it short = record {
    few = omega (arith, few_standing p short);
    type = all_from_has (λ (x : InputSymbol). (joined_symbol run os p x).type ≡ x.type) (standing p)
        (λ x has. ap (λ ob. type_in ob (symbol_for p x) (symbol_for p x).kind) whole ∙ types_back l objects is names o tree x has);
    closed_import = all_from_has (λ (x : InputSymbol). is_open p x ≡ false → (joined_symbol run os p x).import ≡ x.import) (standing p)
        (λ x has closed. ap (λ ob. import_in_object ob x) whole ∙ closed_imports_back l objects is names o tree x has closed);
    import = all_from_has (λ (x : InputSymbol). is_open p x ≡ true → (joined_symbol run os p x).import ≡ (if is_kind Datum x then None else Some (open_import p x))) (standing p)
        (λ x has opened. ap (λ ob. import_in_object ob x) whole ∙ open_imports_back l objects is names o tree x has opened);
  }
    where
      whole : os.joined ≡ o
      whole = it ∙ same

pub symbols_are_read : SymbolsAreRead
symbols_are_read l objects is names codes writable short run os input it = (
  ap (λ (ob : Object). ob.symbols) it ∙ symbols_are l objects is names codes writable input,
  joined_read l objects is names codes writable input os.joined it run os refl short,
)
