-- The globals that code of a shared output names, as they are told.
use Rattle.std.proofs.Common.{◌≡◌, ℕ, zero, suc, ◌+◌, ◌≤◌, ◌==◌, ◌&&◌, ◌||◌, Bool, true, false, not, List, [], ◌∷◌, ◌++◌, length, get_or, slice_get, position, Option, Some, None, unwrap_or, refl, sym, ap, subst, ◌∙◌, arith, eqb-true, le-ltb}
use Rattle.std.specs.Prelude.{filter_map, if◌then◌else◌, is_some, option_and_then, bytes_eq, codes}
use Rattle.std.specs.List.{AllZip}
use Rattle.std.proofs.lemmas.Bool.{and_parts}
use Rattle.std.proofs.lemmas.List.Quantifiers.{position-Some}
use Rattle.std.proofs.lemmas.Option.{slice_get-get_or}
use Rattle.std.proofs.lemmas.Slice.Eq.{bytes_eq-Decides}
use Rattle.link_program.specs.wasm_types.declared.value.ValType.{ValType}
use Rattle.link_program.specs.wasm_types.declared.value.ValType.TheVariants.{I32, I64, F32, F64}
use Rattle.link_program.specs.wl_base.Names.{number_of}
use Rattle.link_program.specs.linking_section.Flags.{kind_code}
use Rattle.link_program.specs.linking_section.declared.symbol.SymbolKind.{SymbolKind}
use Rattle.link_program.specs.linking_section.declared.symbol.SymbolKind.TheVariants.{Function, Datum, GlobalVar, Section, Table}
use Rattle.link_program.specs.made_symbols.declared.mode.Mode.TheVariants.{Shared}
use Rattle.link_program.specs.made_symbols.Made.{made, made_at, made_role}
use Rattle.link_program.specs.name_rules.Entries.{InputSymbol, ImportKey, SymbolType, of_function, of_global, untyped, is_entry, is_kind, name_of, same_import, made_from, made_entry}
use Rattle.link_program.specs.name_rules.Meanings.{Meaning, here, imported, null, nothing, is_nothing, cell_of}
use Rattle.link_program.specs.name_rules.Further as further
use Rattle.link_program.specs.name_rules.Further.{made_global_import}
use Rattle.link_program.specs.name_entries.View.{entry_number}
use Rattle.link_program.specs.name_meanings.Kept.{cell_key}
use Rattle.link_program.specs.name_meanings.Means.{IsNumberOf}
use Rattle.link_program.specs.link_rules.Program.{Ref}
use Rattle.link_program.specs.link_rules.Marks.{is_foreign}
use Rattle.link_program.specs.link_rules.Keys as keys
use Rattle.link_program.specs.link_rules.Keys.{outside_global, own_global, got, got_of, ref_got, meant_global, ref_global, ref_function, meant_function, global_of}
use Rattle.link_program.specs.declared.keys.GlobalKey.{GlobalKey}
use Rattle.link_program.specs.declared.keys.GlobalKey.TheVariants as globals
use Rattle.link_program.specs.declared.keys.GotKey.TheVariants as cells
use Rattle.link_program.specs.Told.{told_lead, told_symbol}
use Rattle.link_program.specs.Keys.{told_import, told_global}
use Rattle.link_program.specs.Meant.{cell_meant}
use Rattle.link_numbers.specs.Knows.{KnowsFunction, KnowsGot, KnowsGlobal}
use Rattle.link_numbers.proofs.link_keys_lemmas.Equals.{OnePlace, holds_at, number_is}
use Rattle.link_numbers.proofs.link_keys_lemmas.Imports.{import_equal, import_itself}
use Rattle.link_layout.specs.Seen.{Looked}
use Rattle.link_layout.specs.Cells.{global_place, made_place, made_import, may_have_cell, has_cell, cell_import, is_function, global_var, global_or_cell, is_var_told, is_i32, is_cell_type, is_cell_key, is_cell_of, is_cell, is_told}
use Rattle.link_layout.specs.Cells as cell_specs
use Rattle.link_layout.proofs.Linkers.{MeansLinkers}
use Rattle.link_layout.proofs.KeysTold.{cell_told}

-- ---- options

both_there : {A B : Type 0} (o : Option A) (f : A → Option B) (b : B) → option_and_then f o ≡ Some b → (a : A) × (o ≡ Some a) × (f a ≡ Some b)
both_there None f b e = absurd cc
both_there (Some a) f b e = (a, refl, e)

is_there : (o : Option ℕ) → is_some o ≡ true → (n : ℕ) × (o ≡ Some n)
is_there None e = absurd cc
is_there (Some n) e = (n, refl)

-- ---- cells by what is looked at

i32_is : (v : ValType) → is_i32 v ≡ true → v ≡ I32
i32_is I32 e = refl
i32_is I64 e = absurd cc
i32_is F32 e = absurd cc
i32_is F64 e = absurd cc

type_is : (t : SymbolType) → is_cell_type t ≡ true → t ≡ of_global (record { kind = I32; var = true })
type_is (of_function t) e = absurd cc
type_is (of_global g) e =
    let all = and_parts (is_i32 g.kind) g.var e in
    let kind = i32_is g.kind all.0 in
    let var : g.var ≡ true = all.1 in
    λ i. of_global (record { kind = kind i; var = var i })
type_is untyped e = absurd cc

key_is : (function : Bool) (name : List ℕ) (key : ImportKey) → is_cell_key function name key ≡ true → key ≡ cell_key function name
key_is function name key e =
    let all = and_parts (bytes_eq key.module_name (if function then codes "GOT.func" else codes "GOT.mem") && bytes_eq key.field name) (is_cell_type key.type) e in
    let names = and_parts (bytes_eq key.module_name (if function then codes "GOT.func" else codes "GOT.mem")) (bytes_eq key.field name) all.0 in
    let place = (bytes_eq-Decides key.module_name (if function then codes "GOT.func" else codes "GOT.mem")).0 names.0 in
    let field = (bytes_eq-Decides key.field name).0 names.1 in
    let type = type_is key.type all.1 in
    λ i. record { module_name = place i; field = field i; type = type i }

cell_is : (function : Bool) (name : Option (List ℕ)) (key : Option ImportKey) → is_cell_of function name key ≡ true
    → (bytes : List ℕ) × (name ≡ Some bytes) × (key ≡ Some (cell_key function bytes))
cell_is function None key e = absurd cc
cell_is function (Some name) None e = absurd cc
cell_is function (Some name) (Some key) e = (name, refl, ap (λ k. Some k) (key_is function name key e))

-- the name that an entry's number stands for
name_is : (names : List (List ℕ)) (name : List ℕ) (n : ℕ) (bytes : List ℕ) → number_of names name ≡ Some n → slice_get names n ≡ Some bytes → name ≡ bytes
name_is names name n bytes found at = by_list names n found at
  where
    by_list : (ns : List (List ℕ)) (n : ℕ) → position (bytes_eq name) ns ≡ Some n → slice_get ns n ≡ Some bytes → name ≡ bytes
    by_list [] n found at = absurd cc
    by_list (y ∷ ys) n found at =
        let w = position-Some (bytes_eq name) (y ∷ ys) n y found in
        let there : slice_get (y ∷ ys) n ≡ Some (get_or (y ∷ ys) n y) = slice_get-get_or (y ∷ ys) n y w.0 in
        let one : Some (get_or (y ∷ ys) n y) ≡ Some bytes = sym there ∙ at in
        let same : get_or (y ∷ ys) n y ≡ bytes = cc in
        (bytes_eq-Decides name (get_or (y ∷ ys) n y)).0 w.1 ∙ same

named_is : (names : List (List ℕ)) (e : InputSymbol) (bytes : List ℕ) → option_and_then (slice_get names) (entry_number names e) ≡ Some bytes → (is_entry e ≡ true) × (name_of e ≡ bytes)
named_is names e bytes is = by (is_entry e) refl is
  where
    by : (r : Bool) → is_entry e ≡ r → option_and_then (slice_get names) (if r then number_of names (name_of e) else None) ≡ Some bytes → (r ≡ true) × (name_of e ≡ bytes)
    by false entry is = absurd cc
    by true entry is = let w = both_there (number_of names (name_of e)) (slice_get names) bytes is in (refl, name_is names (name_of e) w.0 bytes w.1 w.2)

-- ---- what is foreign

here_told : (imports : List ImportKey) (m : Meaning) → cell_specs.is_here (told_lead imports m) ≡ further.is_here m
here_told imports (here d) = refl
here_told imports (imported k) = refl
here_told imports null = refl
here_told imports nothing = refl

abbrev has_address : SymbolKind → Bool
has_address kind = (kind_code kind == kind_code Function) || (kind_code kind == kind_code Datum) || (kind_code kind == kind_code GlobalVar)

foreign_by : (kind : SymbolKind) (own entry : Bool) → may_have_cell kind && not own ≡ true → entry ≡ true → not own && entry && has_address kind ≡ true
foreign_by Function false true cell entry = refl
foreign_by Function own false cell entry = absurd cc
foreign_by Function true true cell entry = absurd cc
foreign_by Datum false true cell entry = refl
foreign_by Datum own false cell entry = absurd cc
foreign_by Datum true true cell entry = absurd cc
foreign_by GlobalVar own entry cell e = absurd cc
foreign_by Section own entry cell e = absurd cc
foreign_by Table own entry cell e = absurd cc

near_by : (kind : SymbolKind) (own entry : Bool) → (kind_code kind == kind_code GlobalVar) ≡ false → may_have_cell kind && not own ≡ false → not own && entry && has_address kind ≡ false
near_by Function true entry var cell = refl
near_by Function false entry var cell = absurd cc
near_by Datum true entry var cell = refl
near_by Datum false entry var cell = absurd cc
near_by GlobalVar own entry var cell = absurd cc
near_by Section true entry var cell = refl
near_by Section false true var cell = refl
near_by Section false false var cell = refl
near_by Table true entry var cell = refl
near_by Table false true var cell = refl
near_by Table false false var cell = refl

-- ---- the linker's globals

-- the import of a global
abbrev shared_with : InputSymbol → ImportKey
shared_with e = record { module_name = codes "env"; field = name_of e; type = e.type }

abbrev made_key : ℕ → ImportKey
made_key place = shared_with (made_entry place (made_at Shared place))

zip_at : {A B : Type 0} (P : A → B → Type 0) (xs : List A) (ys : List B) (i : ℕ) (x : A) (y : B) → AllZip P xs ys → slice_get xs i ≡ Some x → slice_get ys i ≡ Some y → P x y
zip_at P [] [] i x y all a b = absurd cc
zip_at P [] (z ∷ ys) i x y all a b = absurd all
zip_at P (z ∷ xs) [] i x y all a b = absurd all
zip_at P (u ∷ xs) (v ∷ ys) zero x y all a b =
    let one : u ≡ x = cc in
    let other : v ≡ y = cc in
    subst (λ z. P z y) one (subst (P u) other all.0)
zip_at P (u ∷ xs) (v ∷ ys) (suc i) x y all a b = zip_at P xs ys i x y all.1 a b

module _ (imports : List ImportKey) (numbers : List ℕ) (more : List InputSymbol) (are : AllZip (IsNumberOf imports) numbers (filter_map made_global_import (made_from 0 (made Shared) ++ more))) where
  abbrev all_made : List ImportKey
  all_made = filter_map made_global_import (made_from 0 (made Shared) ++ more)

  one_made : (place i n : ℕ) → option_and_then (slice_get numbers) (made_place place) ≡ Some n → made_place place ≡ Some i → slice_get all_made i ≡ Some (made_key place) → slice_get imports n ≡ Some (made_key place)
  one_made place i n is at there =
      zip_at (IsNumberOf imports) numbers all_made i n (made_key place) are (sym (ap (option_and_then (slice_get numbers)) at) ∙ is) there

  no_made : (place n : ℕ) → made_place place ≡ None → option_and_then (slice_get numbers) (made_place place) ≡ Some n → ⊥
  no_made place n none is = let e : None ≡ Some n = sym (ap (option_and_then (slice_get numbers)) none) ∙ is in absurd cc

  past_all : (place : ℕ) → length (made Shared) ≤ place → made_place place ≡ None
  past_all place past = ap (λ b. if b then global_place (made_role Shared place) else None) (le-ltb place (length (made Shared)) past)

  pub made_told : (place n : ℕ) → option_and_then (slice_get numbers) (made_place place) ≡ Some n → slice_get imports n ≡ Some (made_key place)
  made_told zero n is = absurd (no_made 0 n refl is)
  made_told (suc zero) n is = absurd (no_made 1 n refl is)
  made_told (suc (suc zero)) n is = one_made 2 0 n is refl refl
  made_told (suc (suc (suc zero))) n is = one_made 3 1 n is refl refl
  made_told (suc (suc (suc (suc zero)))) n is = one_made 4 2 n is refl refl
  made_told (suc (suc (suc (suc (suc zero))))) n is = absurd (no_made 5 n refl is)
  made_told (suc (suc (suc (suc (suc (suc zero)))))) n is = absurd (no_made 6 n refl is)
  made_told (suc (suc (suc (suc (suc (suc (suc k))))))) n is = absurd (no_made (suc (suc (suc (suc (suc (suc (suc k))))))) n (past_all (suc (suc (suc (suc (suc (suc (suc k))))))) (omega arith)) is)

-- ---- a reference

-- What is looked up is the key as it is told, and the key is known.
pub record IsGlobal (imports : List ImportKey) (told : GlobalKey) (g : keys.GlobalKey) : Type 0 where
  pub is : told ≡ told_global imports g
  pub known : KnowsGlobal imports g

module _ (names : List (List ℕ)) (imports : List ImportKey) (one : OnePlace same_import import_equal import_itself imports) where
  numbered : (key : ImportKey) (n : ℕ) → slice_get imports n ≡ Some key → told_import imports key ≡ n
  numbered key n at = number_is same_import import_equal import_itself imports key n (one n key at)

  import_is : (key : ImportKey) (n : ℕ) → slice_get imports n ≡ Some key → IsGlobal imports (globals.Import n) (outside_global key)
  import_is key n at = record { is = ap globals.Import (sym (numbered key n at)); known = holds_at same_import import_equal import_itself imports n key at }

  -- the cell of an address that the link makes
  got_known : (kind : ℕ) (name : List ℕ) (m : Meaning) → KnowsFunction names imports (meant_function name m) → KnowsGot imports (got_of kind m)
  got_known kind name (here d) known = tt
  got_known kind name (imported k) known = known
  got_known kind name null known = tt
  got_known kind name nothing known = tt

  got_is : (ref : Ref) → KnowsFunction names imports (ref_function ref)
      → IsGlobal imports (globals.Got (cell_meant (kind_code ref.entry.symbol.kind) (told_lead imports ref.meaning))) (got (ref_got ref))
  got_is ref known = record {
    is = ap globals.Got (cell_told names imports (kind_code ref.entry.symbol.kind) ref.meaning);
    known = got_known (kind_code ref.entry.symbol.kind) (name_of ref.entry) ref.meaning known;
  }

  module _ (k : Looked) (same_names : k.names ≡ names) (same_imports : k.answers.imports ≡ imports)
      (made_is : (place n : ℕ) → made_import k place ≡ Some n → slice_get imports n ≡ Some (made_key place)) where
    -- ---- a global

    definition_is : (d : InputSymbol) → MeansLinkers Shared (here d) → is_var_told k (told_lead imports (here d)) ≡ true → IsGlobal imports (global_var k (told_lead imports (here d))) (global_of Shared d)
    definition_is d own told = by (d.input == 0) refl told
      where
        by : (r : Bool) → (d.input == 0) ≡ r → (not r || is_some (made_import k d.place)) ≡ true
            → IsGlobal imports (if r then globals.Import (unwrap_or (made_import k d.place) 0) else globals.Own d.input d.index) (if r then outside_global (shared_with d) else own_global d.input d.index)
        by false linkers told = record { is = refl; known = linkers }
        by true linkers told =
            let w = is_there (made_import k d.place) told in
            let at : slice_get imports w.0 ≡ Some (shared_with d) = made_is d.place w.0 w.1 ∙ ap (λ (e : InputSymbol). Some (shared_with e)) (sym (own linkers).is) in
            subst (λ (o : Option ℕ). IsGlobal imports (globals.Import (unwrap_or o 0)) (outside_global (shared_with d))) (sym w.1) (import_is (shared_with d) w.0 at)

    var_is : (ref : Ref) (m : Meaning) → ref.meaning ≡ m → is_nothing m ≡ false → MeansLinkers Shared m → KnowsFunction names imports (meant_function (name_of ref.entry) m)
        → is_kind GlobalVar ref.entry ≡ true → is_var_told k (told_lead imports m) ≡ true → IsGlobal imports (global_var k (told_lead imports m)) (meant_global Shared ref m)
    var_is ref (here d) is meant own known var told = definition_is d own told
    var_is ref (imported key) is meant own known var told = record { is = refl; known = known }
    var_is ref null is meant own known var told = record {
      is = ap (λ n. globals.Got (cells.Null n)) (sym (eqb-true (kind_code ref.entry.symbol.kind) (kind_code GlobalVar) var))
          ∙ ap (λ m. told_global imports (got (got_of (kind_code ref.entry.symbol.kind) m))) (sym is);
      known = subst (λ m. KnowsGot imports (got_of (kind_code ref.entry.symbol.kind) m)) (sym is) tt;
    }
    var_is ref nothing is meant own known var told = absurd cc

    -- ---- an address

    foreign_is : (ref : Ref) (at : ℕ) → has_cell ref.entry.symbol.kind (told_lead imports ref.meaning) ≡ true
        → is_cell k (is_function ref.entry.symbol.kind) (entry_number names ref.entry) (cell_import k at ref.entry.symbol.kind (told_lead imports ref.meaning)) ≡ true
        → IsGlobal imports (globals.Import (unwrap_or (cell_import k at ref.entry.symbol.kind (told_lead imports ref.meaning)) 0)) (keys.cell_key Shared ref)
    foreign_is ref at cell told =
        let e = ref.entry in
        let lead = told_lead imports ref.meaning in
        let w = cell_is (is_function e.symbol.kind) (option_and_then (slice_get k.names) (entry_number names e)) (option_and_then (slice_get k.answers.imports) (cell_import k at e.symbol.kind lead)) told in
        let named = named_is names e w.0 (ap (λ ns. option_and_then (slice_get ns) (entry_number names e)) (sym same_names) ∙ w.1) in
        let n = both_there (cell_import k at e.symbol.kind lead) (slice_get k.answers.imports) (cell_key (is_function e.symbol.kind) w.0) w.2 in
        let there : slice_get imports n.0 ≡ Some (cell_of e) =
        ap (λ ks. slice_get ks n.0) (sym same_imports) ∙ n.2 ∙ ap (λ name. Some (cell_key (is_function e.symbol.kind) name)) (sym named.1) in
        let far : is_foreign ref ≡ true =
        foreign_by e.symbol.kind (further.is_here ref.meaning) (is_entry e) (ap (λ h. may_have_cell e.symbol.kind && not h) (sym (here_told imports ref.meaning)) ∙ cell) named.0 in
        subst (λ r. IsGlobal imports (globals.Import (unwrap_or (cell_import k at e.symbol.kind lead) 0)) (if r then outside_global (cell_of e) else got (ref_got ref))) (sym far)
        (subst (λ (o : Option ℕ). IsGlobal imports (globals.Import (unwrap_or o 0)) (outside_global (cell_of e))) (sym n.1) (import_is (cell_of e) n.0 there))

    near_is : (ref : Ref) → is_kind GlobalVar ref.entry ≡ false → has_cell ref.entry.symbol.kind (told_lead imports ref.meaning) ≡ false → KnowsFunction names imports (ref_function ref)
        → IsGlobal imports (globals.Got (cell_meant (kind_code ref.entry.symbol.kind) (told_lead imports ref.meaning))) (keys.cell_key Shared ref)
    near_is ref var cell known =
        let e = ref.entry in
        let near : is_foreign ref ≡ false =
        near_by e.symbol.kind (further.is_here ref.meaning) (is_entry e) var (ap (λ h. may_have_cell e.symbol.kind && not h) (sym (here_told imports ref.meaning)) ∙ cell) in
        subst (λ r. IsGlobal imports (globals.Got (cell_meant (kind_code e.symbol.kind) (told_lead imports ref.meaning))) (if r then outside_global (cell_of e) else got (ref_got ref))) (sym near) (got_is ref known)

    -- ---- both

    abbrev IsMeant : Ref → ℕ → Type 0
    IsMeant ref at = IsGlobal imports (global_or_cell k at ref.entry.symbol.kind (told_lead imports ref.meaning)) (ref_global Shared ref)

    by_cell : (ref : Ref) (at : ℕ) (c : Bool) → has_cell ref.entry.symbol.kind (told_lead imports ref.meaning) ≡ c → is_kind GlobalVar ref.entry ≡ false → KnowsFunction names imports (ref_function ref)
        → (if c then is_cell k (is_function ref.entry.symbol.kind) (entry_number names ref.entry) (cell_import k at ref.entry.symbol.kind (told_lead imports ref.meaning)) else true) ≡ true
        → IsGlobal imports (if c then globals.Import (unwrap_or (cell_import k at ref.entry.symbol.kind (told_lead imports ref.meaning)) 0) else globals.Got (cell_meant (kind_code ref.entry.symbol.kind) (told_lead imports ref.meaning)))
        (keys.cell_key Shared ref)
    by_cell ref at true cell var known told = foreign_is ref at cell told
    by_cell ref at false cell var known told = near_is ref var cell known

    -- the global that a reference names, where it can be told
    pub shared_told : (ref : Ref) (at : ℕ) → KnowsFunction names imports (ref_function ref) → is_nothing ref.meaning ≡ false → MeansLinkers Shared ref.meaning
        → is_told k at (told_symbol names imports ref.entry ref.meaning) ≡ true → IsMeant ref at
    shared_told ref at known meant own told = by (is_kind GlobalVar ref.entry) refl told
      where
        by : (v : Bool) → is_kind GlobalVar ref.entry ≡ v
            → (if v then is_var_told k (told_lead imports ref.meaning) else if has_cell ref.entry.symbol.kind (told_lead imports ref.meaning) then is_cell k (is_function ref.entry.symbol.kind) (entry_number names ref.entry) (cell_import k at ref.entry.symbol.kind (told_lead imports ref.meaning)) else true) ≡ true
            → IsGlobal imports (if v then global_var k (told_lead imports ref.meaning) else if has_cell ref.entry.symbol.kind (told_lead imports ref.meaning) then globals.Import (unwrap_or (cell_import k at ref.entry.symbol.kind (told_lead imports ref.meaning)) 0) else globals.Got (cell_meant (kind_code ref.entry.symbol.kind) (told_lead imports ref.meaning)))
            (if v then meant_global Shared ref ref.meaning else keys.cell_key Shared ref)
        by true var told = var_is ref ref.meaning refl meant own known var told
        by false var told = by_cell ref at (has_cell ref.entry.symbol.kind (told_lead imports ref.meaning)) refl var known told
