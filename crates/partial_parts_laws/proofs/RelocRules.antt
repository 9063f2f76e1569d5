-- Rules on init functions and relocations that a program's relocatable object keeps: what they name is there, and windows lie apart in their sections.
use Rattle.std.proofs.Common.{◌≡◌, ℕ, suc, ◌+◌, ◌<◌, ◌==◌, Bool, true, false, not, List, [], ◌∷◌, ◌++◌, map, length, inl, inr, ⊎_elim, refl, sym, ap, ◌∙◌, subst, arith}
use Rattle.object_file.specs.leb_codec.Shortest.{u32}
use Rattle.std.specs.Prelude.{cond, nat_lt, Option, Some, None, option_map, unwrap_or, filter_map, flat_map, slice_get, slice_index_or, All, IsTrue, if◌then◌else◌}
use Rattle.std.specs.List.{list_all, cons_option}
use Rattle.std.proofs.lemmas.Bool.{and_parts, and_from, eqb-true, lt-ltb}
use Rattle.std.proofs.lemmas.Bool.Decides.{nat_tests}
use Rattle.std.proofs.lemmas.List.{length-map, length-append}
use Rattle.std.proofs.lemmas.Option.{slice_get-map, slice_get_cases, get_or_from_slice_get}
use Rattle.list_places.specs.Has.{Has}
use Rattle.list_places.proofs.Lists.{by_test, flat_has, has_at, has_either, has_map, has_pick, has_right, pick_has}
use Rattle.object_rules.specs.declared.spaces.Counts.{Counts}
use Rattle.object_rules.specs.Spaces.{imported_type as type_index, function_types as type_indexes, imports_of, is_function}
use Rattle.object_rules.specs.Indexes.{import_in_range}
use Rattle.object_rules.specs.Symbols.{name_of as name_by}
use Rattle.object_rules.specs.Metadata.{is_plain, is_plain_at, is_function_kind, is_init, inits_stand}
use Rattle.object_rules.specs.Relocs.{may_name, is_table_name, names_symbol, entry_stands, entries_stand}
use Rattle.object_rules.specs.reloc_section.declared.section.RelocSection.{RelocSection}
use Rattle.object_rules.specs.object_parts.declared.parts.CodeBody.{CodeBody}
use Rattle.object_rules.specs.object_parts.declared.parts.Parts.{Parts}
use Rattle.name_rules.specs.object_file.wasm_types.declared.import.Import.{Import}
use Rattle.name_rules.specs.object_file.wasm_types.declared.import.ImportKind.{ImportKind}
use Rattle.name_rules.specs.object_file.wasm_types.declared.import.ImportKind.TheVariants as kinds
use Rattle.name_rules.specs.object_file.wasm_module.declared.parts.Export.{Export}
use Rattle.name_rules.specs.object_file.linking_section.declared.init.InitFunc.{InitFunc}
use Rattle.name_rules.specs.object_file.linking_section.declared.symbol.Symbol.{Symbol}
use Rattle.name_rules.specs.object_file.linking_section.declared.symbol.SymbolKind.{SymbolKind}
use Rattle.name_rules.specs.object_file.linking_section.declared.symbol.SymbolKind.TheVariants.{Function, Datum, GlobalVar, Section, Table}
use Rattle.name_rules.specs.object_file.linking_section.Flags.{is_undefined}
use Rattle.name_rules.specs.object_file.reloc_section.declared.entry.Reloc.{Reloc}
use Rattle.name_rules.specs.object_file.reloc_section.declared.kinds.TheConstants.{TABLE_NUMBER_LEB}
use Rattle.name_rules.specs.object_file.object_columns.declared.functions.FunctionDef.{FunctionDef}
use Rattle.name_rules.specs.object_file.declared.object.Object.{Object}
use Rattle.name_rules.specs.object_file.Spaces.{no_type, written_type, defined_type, imported_type, function_types}
use Rattle.object_file.specs.Objects.{functions_from, object_from}
use Rattle.name_rules.specs.Entries.{InputSymbol, of_function, name_of, type_in, symbols_of}
use Rattle.link_rules.specs.Program.{Program, Part, Ref, Named, a_symbol, a_type, TypeWindow, types_named, named_type, InitCall, init_calls_in}
use Rattle.link_rules.specs.Keys.{content_type, function_type_of, window_types}
use Rattle.partial_rules.specs.Relocatable.{Relocatable, Windowed, body_head, segment_head, later, relocs_from, section_relocs, code_place, data_place}
use Rattle.partial_rules.specs.Partial.{standing, symbol_for, symbol_number, types, type_number, import_types, imports, kept, named_reloc, windowed, init_for, open_local, relocatable}
use Rattle.partial_rules.specs.WellFormed.{Coded}
use Rattle.partial_rules.specs.Sections.{sections_told}
use Rattle.partial_rules.specs.ReadAs.{shown, linking_for, bodies_told, rels, codes_told, parts_told}
use Rattle.partial_laws.proofs.Opened.{all_true}
use Rattle.partial_parts_laws.specs.Linked.{Linked, program}
use Rattle.partial_parts_laws.specs.ReadBack.{TreeRead, AreLinked}
use Rattle.partial_parts_laws.specs.SymbolsBack.{AreNamed}
use Rattle.partial_parts_laws.proofs.Inside.{merged_has}
use Rattle.partial_parts_laws.proofs.Symbols.{IsSymbolOf, symbol_of}
use Rattle.partial_parts_laws.proofs.StandingSymbols.{some_name}
use Rattle.partial_parts_laws.proofs.SymbolsBack.{by_open, comes, types_back}
use Rattle.partial_parts_laws.proofs.RulesKept.{all_from, counts, symbols, Stands, stands_back, type_low, types_long, imports_low, functions_low, functions_long, tree}
use Rattle.partial_parts_laws.proofs.Stood.{NamedWell, code_named, data_named, no_types, window_stood, call_of, call_stood}

no_true : false ≡ true → ⊥
no_true e = absurd cc

-- ---- relocations of a section

pub record OfReloc (ws : List Windowed) (y : Reloc) : Type 0 where
  pub whole : Windowed
  pub there : Has ws whole
  pub own : Reloc
  pub one_of : Has whole.relocs own
  pub by : ℕ
  pub is : later by own ≡ y

pub from_has : (head : List ℕ → List ℕ) (at : ℕ) (ws : List Windowed) (y : Reloc) → Has (relocs_from head at ws) y → OfReloc ws y
from_has head at [] y has = absurd has
from_has head at (w ∷ ws) y has = ⊎_elim
    (λ own. let m = has_map (later (at + length (head w.bytes))) w.relocs y own in record { whole = w; there = inl refl; own = m.0; one_of = m.1; by = at + length (head w.bytes); is = m.2 })
    (λ rest. let o = from_has head (at + length (head w.bytes) + length w.bytes) ws y rest in record { whole = o.whole; there = inr o.there; own = o.own; one_of = o.one_of; by = o.by; is = o.is })
    (has_either (map {A = Reloc} {B = Reloc} (later (at + length (head w.bytes))) w.relocs) (relocs_from head (at + length (head w.bytes) + length w.bytes) ws) y has)

rels_all : (t : Reloc → Bool) (target : ℕ) (xs : List Reloc) (rest : List RelocSection) → list_all t xs ≡ true → list_all (λ (r : RelocSection). list_all t r.entries) rest ≡ true
    → list_all (λ (r : RelocSection). list_all t r.entries) (rels target xs ++ rest) ≡ true
rels_all t target [] rest own others = others
rels_all t target (x ∷ xs) rest own others = and_from (list_all t (x ∷ xs)) (list_all (λ (r : RelocSection). list_all t r.entries) rest) own others

rels_last : (t : Reloc → Bool) (target : ℕ) (xs : List Reloc) → list_all t xs ≡ true → list_all (λ (r : RelocSection). list_all t r.entries) (rels target xs) ≡ true
rels_last t target [] own = refl
rels_last t target (x ∷ xs) own = and_from (list_all t (x ∷ xs)) true own refl

-- ---- names of kinds

no_six : (kind : ℕ) (k : SymbolKind) → may_name kind k ≡ true → (kind == 6) ≡ false
no_six kind k may = by_test (kind == 6) (λ e. absurd (no_true (sym (never k) ∙ (ap (λ n. may_name n k) (sym (eqb-true kind 6 e)) ∙ may)))) (λ e. e)
  where
    never : (k : SymbolKind) → may_name 6 k ≡ false
    never Function = refl
    never Datum = refl
    never GlobalVar = refl
    never Section = refl
    never Table = refl

table_name : (o : Option (List ℕ)) → is_table_name o ≡ true → is_table_name (Some (unwrap_or o [])) ≡ true
table_name None e = absurd (no_true e)
table_name (Some name) e = e

-- ---- types of functions, by their indexes

indexes_from : (exports : List Export) (index : ℕ) (ts : List ℕ) (bs : List CodeBody) → length bs ≡ length ts → map (λ (f : FunctionDef). f.type_index) (functions_from exports index ts bs) ≡ ts
indexes_from exports index [] bs same = refl
indexes_from exports index (t ∷ ts) [] same = absurd (omega (arith, same))
indexes_from exports index (t ∷ ts) (b ∷ bs) same = ap (λ xs. t ∷ xs) (indexes_from exports (index + 1) ts bs (omega (arith, same)))

map_map : {A B C : Type 0} (f : A → B) (g : B → C) (xs : List A) → map g (map f xs) ≡ map (λ x. g (f x)) xs
map_map f g [] = refl
map_map f g (x ∷ xs) = ap (λ ys. g (f x) ∷ ys) (map_map f g xs)

map_both : {A B : Type 0} (f : A → B) (xs ys : List A) → map f (xs ++ ys) ≡ map f xs ++ map f ys
map_both f [] ys = refl
map_both f (x ∷ xs) ys = ap (λ zs. f x ∷ zs) (map_both f xs ys)

imported_written : (o : Object) (is : List Import) → filter_map (λ (i : Import). imported_type o i.kind) is ≡ map (written_type o) (filter_map (λ (i : Import). type_index i.kind) is)
imported_written o [] = refl
imported_written o (i ∷ is) = by_kind i.kind (imported_written o is)
  where
    by_kind : (k : ImportKind) → filter_map (λ (i : Import). imported_type o i.kind) is ≡ map (written_type o) (filter_map (λ (i : Import). type_index i.kind) is)
        → cons_option (imported_type o k) (filter_map (λ (i : Import). imported_type o i.kind) is) ≡ map (written_type o) (cons_option (type_index k) (filter_map (λ (i : Import). type_index i.kind) is))
    by_kind (kinds.Function t) rest = ap (λ ts. written_type o t ∷ ts) rest
    by_kind (kinds.Table t) rest = rest
    by_kind (kinds.Memory m) rest = rest
    by_kind (kinds.GlobalVar g) rest = rest

indexes_long : (is : List Import) → length (filter_map (λ (i : Import). type_index i.kind) is) ≡ length (imports_of Function is)
indexes_long [] = refl
indexes_long (i ∷ is) = by_kind i.kind (indexes_long is)
  where
    by_kind : (k : ImportKind) → length (filter_map (λ (i : Import). type_index i.kind) is) ≡ length (imports_of Function is)
        → length (cons_option (type_index k) (filter_map (λ (i : Import). type_index i.kind) is)) ≡ length (cond (is_function k) (i ∷ imports_of Function is) (imports_of Function is))
    by_kind (kinds.Function t) rest = ap suc rest
    by_kind (kinds.Table t) rest = rest
    by_kind (kinds.Memory m) rest = rest
    by_kind (kinds.GlobalVar g) rest = rest

module _ (l : Linked) (objects : List Object) (is : AreLinked l objects) (names : All AreNamed objects) (codes : List Coded)
    (bodies : (relocatable (program l objects)).bodies ≡ map {A = Coded} {B = Windowed} (λ c. c.windowed) codes) (local : open_local (program l objects) ≡ None) where
  abbrev p : Program
  p = program l objects

  abbrev r : Relocatable
  r = relocatable p

  abbrev parts : Parts
  parts = parts_told r codes

  abbrev cs : Counts
  cs = counts l objects is names codes bodies

  abbrev ss : List Symbol
  ss = symbols l objects is names codes bodies

  symbols_are : (linking_for r).symbols ≡ ss
  unfolding relocatable
  symbols_are = refl

  symbol_there : (n : ℕ) (y : InputSymbol) → slice_get (standing p) n ≡ Some y → slice_get ss n ≡ Some (shown (symbol_for p y))
  symbol_there n y at =
      slice_get-map shown (map (λ x. symbol_for p x) (standing p)) n ∙ ap (option_map shown) (slice_get-map (λ x. symbol_for p x) (standing p) n ∙ ap (option_map (λ x. symbol_for p x)) at)

  kind_of : (y : InputSymbol) → (symbol_for p y).kind ≡ y.symbol.kind
  kind_of y = by_open l objects is names (λ s. s.kind ≡ y.symbol.kind) y (λ e. refl) (λ e. refl)

  named_so : (y : InputSymbol) → Has (standing p) y → name_by (imports p) (shown (symbol_for p y)) ≡ Some (name_of y)
  named_so y has =
      ap (λ (s : Symbol). s.name) (comes l objects is names y has)
      ∙ by_open l objects is names (λ s. s.name ≡ Some (name_of y)) y (λ e. refl)
      (λ e. let n = some_name l objects is names y has in n.1 ∙ ap (λ (o : Option (List ℕ)). Some (unwrap_or o [])) (sym n.1))

  -- ---- what relocations name

  abbrev Entry : Reloc → Type 0
  Entry x = entry_stands cs (imports p) ss x ≡ true

  symbol_entry : (k : ℕ) (part : Part) → Has (kept p k) part → (ref : Ref) → Has part.named (a_symbol ref) → NamedWell l objects is names local ref → Entry (named_reloc p (a_symbol ref))
  symbol_entry k part has ref hr n =
      let st = window_stood l objects is names local k part has ref hr n in
      let at = symbol_there (symbol_number p ref.entry) st.by st.at in
      let kind : (shown (symbol_for p st.by)).kind ≡ ref.entry.symbol.kind = kind_of st.by ∙ st.kind in
      let name : name_by (imports p) (shown (symbol_for p st.by)) ≡ Some (name_of ref.entry) = named_so st.by st.there ∙ ap (λ m. Some m) st.name in
      ap (λ (b : Bool). if b then nat_lt (symbol_number p ref.entry) cs.types else names_symbol (imports p) ref.kind (slice_get ss (symbol_number p ref.entry))) (no_six ref.kind ref.entry.symbol.kind n.may)
      ∙ (ap (names_symbol (imports p) ref.kind) at
      ∙ and_from (may_name ref.kind (shown (symbol_for p st.by)).kind) (if ref.kind == TABLE_NUMBER_LEB then is_table_name (name_by (imports p) (shown (symbol_for p st.by))) else true)
      (ap (may_name ref.kind) kind ∙ n.may)
      (by_test (ref.kind == TABLE_NUMBER_LEB)
      (λ e. ap (λ (b : Bool). if b then is_table_name (name_by (imports p) (shown (symbol_for p st.by))) else true) e ∙ (ap is_table_name name ∙ table_name ref.entry.symbol.name (n.table (eqb-true ref.kind TABLE_NUMBER_LEB e))))
      (λ e. ap (λ (b : Bool). if b then is_table_name (name_by (imports p) (shown (symbol_for p st.by))) else true) e)))

  type_entry : (part : Part) → Has (kept p 0) part → (w : TypeWindow) → Has part.named (a_type w) → Entry (named_reloc p (a_type w))
  type_entry part has w hw =
      let there : Has (types p) w.type =
      merged_has (import_types p ++ map (λ part. content_type part.content) (kept p 0) ++ window_types (kept p 0)) w.type
      (has_right (import_types p ++ map (λ part. content_type part.content) (kept p 0)) (window_types (kept p 0)) w.type (flat_has types_named (kept p 0) part w.type has (pick_has named_type part.named (a_type w) w.type hw refl))) in
      lt-ltb (type_number p w.type) cs.types (omega (arith, type_low l objects is names codes bodies w.type there, types_long l objects is names codes bodies))

  code_entry : (x : Reloc) → Has (section_relocs body_head r.bodies) x → Entry x
  unfolding relocatable
  code_entry x has =
      let o = from_has body_head (length (u32 (length r.bodies))) r.bodies x has in
      let m = has_map (λ part. windowed p part) (kept p 0) o.whole o.there in
      let n = has_map (named_reloc p) m.0.named o.own (subst (λ (w : Windowed). Has w.relocs o.own) (sym m.2) o.one_of) in
      subst (λ (y : Reloc). Entry y) o.is (subst (λ (y : Reloc). Entry (later o.by y)) n.2 (by_named m.0 m.1 n.0 n.1))
    where
      by_named : (part : Part) → Has (kept p 0) part → (n : Named) → Has part.named n → Entry (named_reloc p n)
      by_named part has (a_symbol ref) hn = symbol_entry 0 part has ref hn (code_named l objects is names local part has ref hn)
      by_named part has (a_type w) hn = type_entry part has w hn

  data_entry : (x : Reloc) → Has (section_relocs segment_head r.segments) x → Entry x
  unfolding relocatable
  data_entry x has =
      let o = from_has segment_head (length (u32 (length r.segments))) r.segments x has in
      let m = has_map (λ part. windowed p part) (kept p 1) o.whole o.there in
      let n = has_map (named_reloc p) m.0.named o.own (subst (λ (w : Windowed). Has w.relocs o.own) (sym m.2) o.one_of) in
      subst (λ (y : Reloc). Entry y) o.is (subst (λ (y : Reloc). Entry (later o.by y)) n.2 (by_named m.0 m.1 n.0 n.1))
    where
      by_named : (part : Part) → Has (kept p 1) part → (n : Named) → Has part.named n → Entry (named_reloc p n)
      by_named part has (a_symbol ref) hn = symbol_entry 1 part has ref hn (data_named l objects is names local part has ref hn)
      by_named part has (a_type w) hn = absurd (no_types l objects is names local part has w hn)

  pub entries_there : entries_stand cs (imports p) ss parts.relocs ≡ true
  entries_there =
      rels_all (entry_stands cs (imports p) ss) (code_place r) (section_relocs body_head r.bodies) (rels (data_place r) (section_relocs segment_head r.segments))
      (all_from (entry_stands cs (imports p) ss) (section_relocs body_head r.bodies) code_entry)
      (rels_last (entry_stands cs (imports p) ss) (data_place r) (section_relocs segment_head r.segments) (all_from (entry_stands cs (imports p) ss) (section_relocs segment_head r.segments) data_entry))

  -- ---- init functions

  abbrev read : Object
  read = object_from 0 (sections_told r) parts

  read_tree : TreeRead p read
  read_tree = tree l objects is names codes bodies

  bodies_many : length parts.bodies ≡ length parts.functions
  unfolding relocatable
  bodies_many = told (code_place r) codes ∙ (sym (length-map codes (λ (c : Coded). c.windowed)) ∙ (sym (ap (λ ws. length ws) bodies) ∙ (length-map (kept p 0) (λ part. windowed p part) ∙ sym (functions_long l objects is names codes bodies))))
    where
      long : (end : ℕ) (xs : List Coded) → length (bodies_told end xs) ≡ length xs
      long end [] = refl
      long end (c ∷ xs) = ap suc (long end xs)

      told : (n : ℕ) (xs : List Coded) → length (codes_told r xs) ≡ length xs
      told n xs = long _ xs

  indexes_written : function_types read ≡ map (written_type read) (type_indexes parts)
  unfolding object_from
  indexes_written =
      (λ i. imported_written read parts.imports i ++ defined i)
      ∙ sym (map_both (written_type read) (filter_map (λ (x : Import). type_index x.kind) parts.imports) parts.functions)
    where
      defined : map (λ f. defined_type read f) read.functions ≡ map (written_type read) parts.functions
      defined = sym (map_map (λ (f : FunctionDef). f.type_index) (written_type read) read.functions) ∙ ap (map (written_type read)) (indexes_from parts.exports cs.imported_functions parts.functions parts.bodies bodies_many)

  indexes_many : length (type_indexes parts) ≡ cs.functions
  indexes_many = length-append (filter_map (λ (x : Import). type_index x.kind) parts.imports) parts.functions ∙ ap (λ n. n + length parts.functions) (indexes_long parts.imports)

  index_low : (t : ℕ) → Has (type_indexes parts) t → t < cs.types
  unfolding relocatable
  index_low t has = ⊎_elim
      (λ h.
      let m = has_pick (λ (i : Import). type_index i.kind) parts.imports t h in
      by_kind m.0.kind (all_true (λ (i : Import). import_in_range cs i.kind) (imports p) (imports_low l objects is names codes bodies) m.0 m.1) m.2)
      (λ h. let low : nat_lt t cs.types ≡ true = all_true (λ n. nat_lt n cs.types) parts.functions (functions_low l objects is names codes bodies) t h in grind (arith, nat_tests, low))
      (has_either (filter_map (λ (i : Import). type_index i.kind) parts.imports) parts.functions t has)
    where
      by_kind : (k : ImportKind) → import_in_range cs k ≡ true → type_index k ≡ Some t → t < cs.types
      by_kind (kinds.Function n) low e = let same : n ≡ t = cc in let less : n < cs.types = grind (arith, nat_tests, low) in omega (arith, same, less)
      by_kind (kinds.Table x) low e = absurd cc
      by_kind (kinds.Memory x) low e = absurd cc
      by_kind (kinds.GlobalVar x) low e = absurd cc

  -- a function of the type () to ()
  plain_at : (n : ℕ) → n < cs.functions → slice_index_or (function_types read) n no_type ≡ no_type → is_plain_at parts.types (slice_get (type_indexes parts) n) ≡ true
  unfolding object_from
  plain_at n low typed = ⊎_elim
      (λ f.
      let t : ℕ = f.0 in
      let written : slice_get (function_types read) n ≡ Some (written_type read t) = ap (λ ts. slice_get ts n) indexes_written ∙ (slice_get-map (written_type read) (type_indexes parts) n ∙ ap (option_map (written_type read)) f.2) in
      let none : written_type read t ≡ no_type = sym (get_or_from_slice_get (function_types read) n (written_type read t) no_type written) ∙ typed in
      let less : t < length parts.types = index_low t (has_at (type_indexes parts) n t f.2) in
      ap (is_plain_at parts.types) f.2
      ∙ ⊎_elim (λ g. ap is_plain (g.2 ∙ ap (λ x. Some x) (sym (get_or_from_slice_get parts.types t g.0 no_type g.2) ∙ none))) (λ past. absurd (omega (arith, less, past.0))) (slice_get_cases parts.types t).1)
      (λ past. absurd (omega (arith, low, past.0, indexes_many)))
      (slice_get_cases (type_indexes parts) n).1

  init_there : (c : InitCall) → Has (flat_map init_calls_in p.resolved) c → is_init parts.types (type_indexes parts) (slice_get ss (init_for p c).symbol) ≡ true
  init_there c has =
      let o = call_of l objects is names local c has in
      let st = call_stood l objects is names local c has in
      let y : InputSymbol = st.by in
      let e : InputSymbol = c.ref.entry in
      let function : e.symbol.kind ≡ Function = function_kind e.symbol.kind o.sound.0 in
      let kind : (symbol_for p y).kind ≡ Function = kind_of y ∙ (st.kind ∙ function) in
      let of : IsSymbolOf objects o.object e = symbol_of objects o.object e (has_at (symbols_of objects o.object) o.function.symbol e o.symbol) in
      let own : e.type ≡ type_in o.object e.symbol e.symbol.kind = subst (λ (x : InputSymbol). x.type ≡ type_in o.object x.symbol x.symbol.kind) of.is refl in
      let plain : e.type ≡ of_function no_type = own ∙ (ap (type_in o.object e.symbol) function ∙ ap of_function (get_or_from_slice_get (function_types o.object) e.symbol.index no_type no_type o.sound.1)) in
      let typed : of_function (slice_index_or (function_types read) (symbol_for p y).index no_type) ≡ of_function no_type =
      ap (type_in read (symbol_for p y)) (sym kind) ∙ (types_back l objects is names read read_tree y st.there ∙ (st.type ∙ plain)) in
      let there = subst (λ k. Stands l objects is names codes bodies (shown (symbol_for p y)) k) kind (stands_back l objects is names codes bodies y st.there) in
      let low : nat_lt (symbol_for p y).index cs.functions ≡ true = (and_parts (nat_lt (symbol_for p y).index cs.functions) (if nat_lt (symbol_for p y).index cs.imported_functions then is_undefined (shown (symbol_for p y)) else not (is_undefined (shown (symbol_for p y)))) there).0 in
      ap (is_init parts.types (type_indexes parts)) (symbol_there (symbol_number p e) y st.at)
      ∙ and_from (is_function_kind (shown (symbol_for p y)).kind) (is_plain_at parts.types (slice_get (type_indexes parts) (symbol_for p y).index)) (ap is_function_kind kind)
      (plain_at (symbol_for p y).index (grind (arith, nat_tests, low)) (ap function_type_of typed))
    where
      function_kind : (k : SymbolKind) → IsTrue (is_function_kind k) → k ≡ Function
      function_kind Function h = refl
      function_kind Datum h = absurd (no_true h)
      function_kind GlobalVar h = absurd (no_true h)
      function_kind Section h = absurd (no_true h)
      function_kind Table h = absurd (no_true h)

  pub inits_there : inits_stand parts ss (map (λ c. init_for p c) (flat_map init_calls_in p.resolved)) ≡ true
  inits_there =
      all_from (λ (i : InitFunc). is_init parts.types (type_indexes parts) (slice_get ss i.symbol)) (map (λ c. init_for p c) (flat_map init_calls_in p.resolved))
      (λ i has. let m = has_map (λ c. init_for p c) (flat_map init_calls_in p.resolved) i has in subst (λ (j : InitFunc). is_init parts.types (type_indexes parts) (slice_get ss j.symbol) ≡ true) m.2 (init_there m.0 m.1))
