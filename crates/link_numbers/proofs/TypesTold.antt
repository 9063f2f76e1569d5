-- The types of functions, as the definition has them.
use Rattle.std.proofs.Common.{◌≡◌, ℕ, zero, suc, ◌+◌, ◌-◌, ◌<◌, ◌==◌, nat_lt, Bool, true, false, not, ◌&&◌, ◌||◌, cond, List, [], ◌∷◌, ◌++◌, map, filter, filter_map, flat_map, length, slice_get, get_or, Option, Some, None, option_map, refl, sym, ap, ◌∙◌, arith}
use Rattle.std.specs.Prelude.{bytes_eq, find}
use Rattle.std.specs.Option.{option_or}
use Rattle.std.specs.List.{list_any, All, cons_option}
use Rattle.std.proofs.lemmas.Bool.Decides.{nat_tests}
use Rattle.std.proofs.lemmas.List.{length-map, length-append}
use Rattle.std.proofs.lemmas.List.Elements.{All-head, All-tail}
use Rattle.std.proofs.lemmas.List.Folds.{find-append}
use Rattle.std.proofs.lemmas.Option.{slice_get-map, slice_get-get_or, get_or_from_slice_get}
use Rattle.link_keys.specs.link_program.wl_base.Choice.{distinct}
use Rattle.link_keys.specs.link_program.wasm_types.declared.function.FuncType.{FuncType}
use Rattle.link_keys.specs.link_program.object_file.declared.object.Object.{Object}
use Rattle.link_keys.specs.link_program.object_file.Spaces.{no_type}
use Rattle.link_keys.specs.link_program.mark_bits.declared.chunk.Chunk.{Chunk}
use Rattle.link_keys.specs.link_program.made_symbols.declared.mode.Mode.{Mode}
use Rattle.link_keys.specs.link_program.made_symbols.Made.{made}
use Rattle.link_keys.specs.link_program.index_layout.Numbers.{number_by}
use Rattle.link_keys.specs.link_program.name_rules.Entries.{InputSymbol, ImportKey, same_import, is_entry, is_named, name_of, symbols_of, entries, made_from}
use Rattle.link_keys.specs.link_program.name_rules.Cases.{first_entry}
use Rattle.link_keys.specs.link_program.name_entries.View.{entry_at}
use Rattle.link_keys.specs.link_program.link_rules.Program as rules
use Rattle.link_keys.specs.link_program.link_rules.Keys.{outside, linker_function, stub, own, function_type_of, content_type, entry_type, part_type, is_function_at, type_of, made_function_key, own_function_key}
use Rattle.link_keys.specs.link_program.declared.program.Tables.{Tables}
use Rattle.link_keys.specs.link_program.Program.{AreTables, ChunksDiffer, variant_names, variant_type}
use Rattle.link_keys.specs.declared.firsts.At.{At}
use Rattle.link_keys.specs.link_program.Look.{part_at}
use Rattle.link_keys.specs.Noted.{where_so}
use Rattle.link_keys.specs.Lists.{is_own}
use Rattle.link_keys.specs.Types.{StubTypes, type_at, stub_by, stub_type, kept_type, content_type_at, type_in, own_types, symbol_type, first_type}
use Rattle.link_keys.proofs.Equals.{stands, number_is, holds_at, holds_distinct}
use Rattle.link_numbers.proofs.Ordered.{Is, IsNot, is_or_not, not_is, before_is_not, last_is_not}
use Rattle.link_keys.proofs.FirstsTold.{AreFirsts, least_of}
use Rattle.link_keys.proofs.Imports.{import_equal, import_itself, name_equal, name_itself, both}
use Rattle.link_numbers.proofs.KeysTold.{given_told, and_swap}
use Rattle.link_keys.proofs.LiveTold.{chunk_is, content_is, given_told as parts_told}

-- ---- imports

import_place : (imports : List ImportKey) (k : ImportKey) → list_any (same_import k) imports ≡ true → slice_get imports (number_by same_import imports k) ≡ Some k
import_place imports k held =
    let s = stands same_import import_equal import_itself imports k held in
    ap (slice_get imports) (number_is same_import import_equal import_itself imports k s.at s.found) ∙ s.there

pub import_types_told : (p : rules.Program) (parts : List rules.Part) (imports ks : List ImportKey) → All (λ k. list_any (same_import k) imports ≡ true) ks
    → map (λ i. kept_type (slice_get imports i)) (map (number_by same_import imports) ks) ≡ map (type_of p parts) (map outside ks)
import_types_told p parts imports [] held = refl
import_types_told p parts imports (k ∷ ks) held =
    ap (λ o. kept_type o ∷ map (λ i. kept_type (slice_get imports i)) (map (number_by same_import imports) ks)) (import_place imports k (All-head (λ k. list_any (same_import k) imports ≡ true) k ks held))
    ∙ ap (λ ts. function_type_of k.type ∷ ts) (import_types_told p parts imports ks (All-tail (λ k. list_any (same_import k) imports ≡ true) k ks held))

-- ---- definitions

-- an item that passes, where one does
record FirstOf {A : Type 0} (test : A → Bool) (xs : List A) : Type 0 where
  pub item : A
  pub at : ℕ
  pub found : find test xs ≡ Some item
  pub there : slice_get xs at ≡ Some item
  pub passes : test item ≡ true

first_of : {A : Type 0} (test : A → Bool) (xs : List A) (i : ℕ) (x : A) → slice_get xs i ≡ Some x → test x ≡ true → FirstOf test xs
first_of test [] i x at is = absurd cc
first_of {A} test (y ∷ xs) i x at is = by_head (test y) refl i at (λ j rest. first_of test xs j x rest is)
  where
    later : FirstOf test xs → test y ≡ false → FirstOf test (y ∷ xs)
    later f no_pass = record { item = f.item; at = suc f.at; found = rw no_pass f.found; there = f.there; passes = f.passes }

    by_head : (r : Bool) → test y ≡ r → (i : ℕ) → slice_get (y ∷ xs) i ≡ Some x → ((j : ℕ) → slice_get xs j ≡ Some x → FirstOf test xs) → FirstOf test (y ∷ xs)
    by_head true passes i at again = record { item = y; at = 0; found = rw passes refl; there = refl; passes = passes }
    by_head false passes zero at again = absurd (let e : y ≡ x = cc in let t : test y ≡ true = ap test e ∙ is in let f : true ≡ false = sym t ∙ passes in cc)
    by_head false passes (suc j) at again = later (again j at) passes

module _ (p : rules.Program) (differ : ChunksDiffer (map (λ part. part.chunk) p.parts)) (numbers : List ℕ) (parts : List rules.Part) (are : map (slice_get p.parts) numbers ≡ map Some parts) where
  record PlaceOf (part : rules.Part) : Type 0 where
    pub number : ℕ
    pub there : slice_get p.parts number ≡ Some part

  place_of_part : (i : ℕ) (part : rules.Part) → slice_get parts i ≡ Some part → PlaceOf part
  place_of_part i part at = by_number (slice_get numbers i) refl (sym (slice_get-map (slice_get p.parts) numbers i) ∙ ap (λ xs. slice_get xs i) are ∙ slice_get-map Some parts i ∙ ap (option_map Some) at)
    where
      by_number : (o : Option ℕ) → slice_get numbers i ≡ o → option_map (slice_get p.parts) o ≡ Some (Some part) → PlaceOf part
      by_number None is e = absurd cc
      by_number (Some n) is e = record { number = n; there = cc }

  one_part : (i j : ℕ) (a b : rules.Part) → slice_get parts i ≡ Some a → slice_get parts j ≡ Some b → a.chunk ≡ b.chunk → a ≡ b
  one_part i j a b at there same =
      let pa = place_of_part i a at in
      let pb = place_of_part j b there in
      let ca : slice_get (map (λ part. part.chunk) p.parts) pa.number ≡ Some b.chunk = slice_get-map (λ part. part.chunk) p.parts pa.number ∙ ap (option_map (λ part. part.chunk)) pa.there ∙ ap Some same in
      let cb : slice_get (map (λ part. part.chunk) p.parts) pb.number ≡ Some b.chunk = slice_get-map (λ part. part.chunk) p.parts pb.number ∙ ap (option_map (λ part. part.chunk)) pb.there in
      let n : pa.number ≡ pb.number = differ pa.number pb.number b.chunk ca cb in
      let e : Some a ≡ Some b = sym pa.there ∙ ap (slice_get p.parts) n ∙ pb.there in cc

  abbrev is_own_function : rules.Part → Bool
  is_own_function part = not (part.chunk.input == 0) && (part.chunk.kind == 0)

  abbrev OwnTyped : rules.Part → Type 0
  OwnTyped part = is_own_function part ≡ true → content_type part.content ≡ type_of p parts (own part.chunk.input part.chunk.index)

  same_chunk : (a b : Chunk) → (a.kind == 0) && (a.input == b.input) && (a.index == b.index) ≡ true → (b.kind == 0) ≡ true → a ≡ b
  same_chunk a b e kind =
      let outer = both ((a.kind == 0) && (a.input == b.input)) (a.index == b.index) e in
      let inner = both (a.kind == 0) (a.input == b.input) outer.0 in
      let k : a.kind ≡ b.kind = let x = inner.0 in grind (arith, nat_tests) in
      let i : a.input ≡ b.input = let x = inner.1 in grind (arith, nat_tests) in
      let n : a.index ≡ b.index = let x = outer.1 in grind (arith, nat_tests) in
      λ d. record { input = i d; kind = k d; index = n d }

  own_typed : (i : ℕ) (part : rules.Part) → slice_get parts i ≡ Some part → OwnTyped part
  own_typed i part at is =
      let kind = (both (not (part.chunk.input == 0)) (part.chunk.kind == 0) is).1 in
      let itself : is_function_at part.chunk.input part.chunk.index part ≡ true = rw kind (grind (arith, nat_tests)) in
      let f = first_of (is_function_at part.chunk.input part.chunk.index) parts i part at itself in
      let same : f.item ≡ part = one_part f.at i f.item part f.there at (same_chunk f.item.chunk part.chunk f.passes kind) in
      sym (ap part_type f.found ∙ ap (λ q. content_type q.content) same)

  all_own_typed : All OwnTyped parts
  all_own_typed = λ k d below. own_typed k (get_or parts k d) (slice_get-get_or parts k d below)

  abbrev made_type_of : rules.Part → Option FuncType
  made_type_of part = where_so (is_own 0 true part.chunk) (Some no_type)

  abbrev own_type_of : rules.Part → Option FuncType
  own_type_of part = where_so (is_own 0 false part.chunk) (Some (content_type part.content))

  pick : {A B : Type 0} (f : A → B) (o : Option A) (xs : List A) → cons_option (option_map f o) (map f xs) ≡ map f (cons_option o xs)
  pick f None xs = refl
  pick f (Some x) xs = refl

  made_types_told : (sub : List rules.Part) → filter_map made_type_of sub ≡ map (type_of p parts) (filter_map made_function_key sub)
  made_types_told [] = refl
  made_types_told (part ∷ sub) =
      ap (λ o. cons_option o (filter_map made_type_of sub))
      (given_told [] [] (type_of p parts) (is_own 0 true part.chunk) ((part.chunk.input == 0) && (part.chunk.kind == 0)) (linker_function part.chunk.index) no_type (and_swap [] [] (part.chunk.kind == 0) (part.chunk.input == 0)) (λ is. refl))
      ∙ ap (λ ts. cons_option (option_map (type_of p parts) (made_function_key part)) ts) (made_types_told sub)
      ∙ pick (type_of p parts) (made_function_key part) (filter_map made_function_key sub)

  own_types_told : (sub : List rules.Part) → All OwnTyped sub → filter_map own_type_of sub ≡ map (type_of p parts) (filter_map own_function_key sub)
  own_types_told [] typed = refl
  own_types_told (part ∷ sub) typed =
      ap (λ o. cons_option o (filter_map own_type_of sub))
      (given_told [] [] (type_of p parts) (is_own 0 false part.chunk) (is_own_function part) (own part.chunk.input part.chunk.index) (content_type part.content) (and_swap [] [] (part.chunk.kind == 0) (not (part.chunk.input == 0))) (All-head OwnTyped part sub typed))
      ∙ ap (λ ts. cons_option (option_map (type_of p parts) (own_function_key part)) ts) (own_types_told sub (All-tail OwnTyped part sub typed))
      ∙ pick (type_of p parts) (own_function_key part) (filter_map own_function_key sub)

  module _ (names : List (List ℕ)) (imports : List ImportKey) (t : Tables) (tables : AreTables names imports t p) where
    pub made_types : own_types true t numbers ≡ map (type_of p parts) (filter_map made_function_key parts)
    made_types =
        parts_told names imports t p tables (λ n. type_in true t.types (part_at t n)) made_type_of
        (λ n part at. ap (λ c. where_so (is_own 0 true c) (Some no_type)) (chunk_is names imports t p tables n part at)) numbers parts are
        ∙ made_types_told parts

    pub own_types_are : own_types false t numbers ≡ map (type_of p parts) (filter_map own_function_key parts)
    own_types_are =
        parts_told names imports t p tables (λ n. type_in false t.types (part_at t n)) own_type_of
        (λ n part at. ap (λ c. where_so (is_own 0 false c) (Some (content_type_at t.types (part_at t n).content))) (chunk_is names imports t p tables n part at)
        ∙ ap (λ x. where_so (is_own 0 false part.chunk) (Some x)) (content_is names imports t p tables n part at)) numbers parts are
        ∙ own_types_told parts all_own_typed

-- ---- stubs

find_none : {A : Type 0} (test : A → Bool) (xs : List A) → list_any test xs ≡ false → find test xs ≡ None
find_none test [] is = refl
find_none {A} test (x ∷ xs) is = by_head (test x) refl (find_none test xs)
  where
    by_head : (r : Bool) → test x ≡ r → (list_any test xs ≡ false → find test xs ≡ None) → cond (test x) (Some x) (find test xs) ≡ None
    by_head true e again = absurd cc
    by_head false e again = let rest : list_any test xs ≡ false = cc in rw e (again rest)

first_is : (objects : List Object) (o : Option At) (l : Option InputSymbol) → option_map (λ at. entry_at objects at.object at.place) o ≡ option_map Some l → first_type objects o ≡ function_type_of (entry_type l)
first_is objects None None e = refl
first_is objects None (Some l) e = absurd cc
first_is objects (Some at) None e = absurd cc
first_is objects (Some at) (Some l) e = let same : entry_at objects at.object at.place ≡ Some l = cc in ap (λ x. function_type_of (symbol_type x)) same

first_entry_is : (mode : Mode) (objects : List Object) (name : List ℕ) → list_any (is_named name) (made_from 0 (made mode)) ≡ false → first_entry (entries mode objects) name ≡ least_of (flat_map (symbols_of objects) objects) name
unfolding entries
first_entry_is mode objects name unmade =
    find-append (is_named name) (made_from 0 (made mode)) (filter is_entry (flat_map (symbols_of objects) objects))
    ∙ ap (λ o. option_or o (least_of (flat_map (symbols_of objects) objects) name)) (find_none (is_named name) (made_from 0 (made mode)) unmade)

-- what stands in a list that is joined of two
joined_left : {A : Type 0} (xs ys : List A) (i : ℕ) → i < length xs → slice_get (xs ++ ys) i ≡ slice_get xs i
joined_left [] ys i below = absurd (omega arith)
joined_left (x ∷ xs) ys zero below = refl
joined_left (x ∷ xs) ys (suc i) below = joined_left xs ys i (omega (arith, below))

joined_right : {A : Type 0} (xs ys : List A) (i : ℕ) → slice_get (xs ++ ys) (length xs + i) ≡ slice_get ys i
joined_right [] ys i = let e : 0 + i ≡ i = omega arith in ap (slice_get ys) e
joined_right (x ∷ xs) ys i = let e : length (x ∷ xs) + i ≡ suc (length xs + i) = omega arith in ap (slice_get (x ∷ (xs ++ ys))) e ∙ joined_right xs ys i

no_entry_named : (es : List InputSymbol) (name : List ℕ) → list_any (bytes_eq name) (map name_of es) ≡ false → first_entry es name ≡ None
no_entry_named [] name none = refl
no_entry_named (e ∷ es) name none = by (bytes_eq (name_of e) name) refl (no_entry_named es name)
  where
    either_none : (a b : Bool) → (a || b) ≡ false → (a ≡ false) × (b ≡ false)
    either_none true b h = absurd cc
    either_none false b h = (refl, h)

    parts : (bytes_eq name (name_of e) ≡ false) × (list_any (bytes_eq name) (map name_of es) ≡ false)
    parts = either_none (bytes_eq name (name_of e)) (list_any (bytes_eq name) (map name_of es)) none

    by : (b : Bool) → bytes_eq (name_of e) name ≡ b → (list_any (bytes_eq name) (map name_of es) ≡ false → first_entry es name ≡ None) → cond b (Some e) (first_entry es name) ≡ None
    by true same later = absurd (let t : bytes_eq name (name_of e) ≡ true = ap (λ n. bytes_eq n (name_of e)) (sym (name_equal (name_of e) name same)) ∙ name_itself (name_of e) in let z : true ≡ false = sym t ∙ parts.0 in cc)
    by false other later = later parts.1

or_none : {A : Type 0} (o : Option A) → option_or o None ≡ o
or_none None = refl
or_none (Some x) = refl

none_or : {A : Type 0} (o p : Option A) → o ≡ None → option_or o p ≡ p
none_or o p none = ap (λ o. option_or o p) none

module _ (mode : Mode) (names : List (List ℕ)) (p : rules.Program) (parts : List rules.Part) (from : p.entries ≡ entries mode p.objects) (column : List (Option At)) (firsts : AreFirsts names p.objects (flat_map (symbols_of p.objects) p.objects) column)
    (others : List (List ℕ)) (in_order : names ≡ distinct bytes_eq others ++ distinct bytes_eq (map name_of p.variants)) (apart : All (IsNot (distinct bytes_eq others)) (map name_of p.variants))
    (entries_among : (name : List ℕ) → list_any (bytes_eq name) (map name_of p.entries) ≡ true → Is others name)
    (types : List FuncType) (variants : List ℕ) (typed : map (slice_get types) variants ≡ map (λ name. Some (variant_type p.variants name)) (variant_names p.variants)) where
  abbrev before : List (List ℕ)
  before = distinct bytes_eq others

  abbrev last : List (List ℕ)
  last = variant_names p.variants

  abbrev lists : StubTypes
  lists = record { objects = p.objects; firsts = column; types = types; variants = variants }

  as_many : length variants ≡ length last
  as_many = sym (length-map variants (slice_get types)) ∙ ap length typed ∙ length-map last (λ name. Some (variant_type p.variants name))

  all_as_many : length names ≡ length before + length last
  all_as_many = ap length in_order ∙ length-append before last

  -- the name of an entry
  first_type_is : (name : List ℕ) (i : ℕ) → slice_get names i ≡ Some name → Is before name → list_any (is_named name) (made_from 0 (made mode)) ≡ false
      → first_type p.objects (get_or column i None) ≡ type_of p parts (stub name)
  first_type_is name i there among unmade =
      let none : first_entry p.variants name ≡ None = no_entry_named p.variants name (not_last name among) in
      first_is p.objects (get_or column i None) (least_of (flat_map (symbols_of p.objects) p.objects) name) (firsts.each i name there)
      ∙ ap (λ e. function_type_of (entry_type e)) (sym (ap (λ es. first_entry es name) from ∙ first_entry_is mode p.objects name unmade)
      ∙ sym (find-append (is_named name) p.entries p.variants ∙ ap (option_or (first_entry p.entries name)) none ∙ or_none (first_entry p.entries name)))
    where
      not_last : (name : List ℕ) → Is before name → list_any (bytes_eq name) (map name_of p.variants) ≡ false
      not_last name is = before_is_not before (map name_of p.variants) apart name is

  -- the name of a variant
  variant_type_is : (name : List ℕ) (j : ℕ) → slice_get last j ≡ Some name → IsNot before name
      → (k : ℕ) × (slice_get variants j ≡ Some k) × (type_at types k ≡ type_of p parts (stub name))
  variant_type_is name j there apart_name = by (slice_get variants j) refl
    where
      none : first_entry p.entries name ≡ None
      none = no_entry_named p.entries name (not_is (list_any (bytes_eq name) (map name_of p.entries)) (λ is. is_or_not before name (holds_distinct bytes_eq name_equal name_itself others name (entries_among name is)) apart_name))

      typed_here : option_map (slice_get types) (slice_get variants j) ≡ Some (Some (variant_type p.variants name))
      typed_here =
          sym (slice_get-map (slice_get types) variants j) ∙ ap (λ xs. slice_get xs j) typed
          ∙ slice_get-map (λ name. Some (variant_type p.variants name)) last j ∙ ap (option_map (λ name. Some (variant_type p.variants name))) there

      same_type_of : variant_type p.variants name ≡ type_of p parts (stub name)
      same_type_of = ap (λ e. function_type_of (entry_type e)) (sym (find-append (is_named name) p.entries p.variants ∙ none_or (first_entry p.entries name) (first_entry p.variants name) none))

      by : (o : Option ℕ) → slice_get variants j ≡ o → (k : ℕ) × (slice_get variants j ≡ Some k) × (type_at types k ≡ type_of p parts (stub name))
      by None at = absurd (let z : None ≡ Some (Some (variant_type p.variants name)) = sym (ap (option_map (slice_get types)) at) ∙ typed_here in cc)
      by (Some k) at =
          let here : slice_get types k ≡ Some (variant_type p.variants name) = let z : Some (slice_get types k) ≡ Some (Some (variant_type p.variants name)) = sym (ap (option_map (slice_get types)) at) ∙ typed_here in cc in
          (k, at, get_or_from_slice_get types k (variant_type p.variants name) no_type here ∙ same_type_of)

  stub_type_is : (name : List ℕ) → list_any (bytes_eq name) names ≡ true → list_any (is_named name) (made_from 0 (made mode)) ≡ false
      → stub_type lists (length names) (number_by bytes_eq names name) ≡ type_of p parts (stub name)
  stub_type_is name held unmade =
      let s = stands bytes_eq name_equal name_itself names name held in
      let number = number_is bytes_eq name_equal name_itself names name s.at s.found in
      ap (stub_type lists (length names)) number ∙ by_place s.at s.there (nat_lt s.at (length before)) refl
    where
      by_place : (i : ℕ) → slice_get names i ≡ Some name → (b : Bool) → nat_lt i (length before) ≡ b → stub_type lists (length names) i ≡ type_of p parts (stub name)
      by_place i there true is =
          let below : i < length before = grind (arith, nat_tests) in
          let less : nat_lt (i + length variants) (length names) ≡ true = grind (arith, nat_tests, as_many, all_as_many) in
          let here : slice_get before i ≡ Some name = sym (ap (λ ns. slice_get ns i) in_order ∙ joined_left before last i below) ∙ there in
          ap (λ b. stub_by lists i (cond b None (slice_get variants (i + length variants - length names)))) less
          ∙ first_type_is name i there (holds_at bytes_eq name_equal name_itself before i name here) unmade
      by_place i there false is =
          let j = i - length before in
          let place : i ≡ length before + j = grind (arith, nat_tests) in
          let less : nat_lt (i + length variants) (length names) ≡ false = grind (arith, nat_tests, as_many, all_as_many) in
          let rest : i + length variants - length names ≡ j = omega (arith, as_many, all_as_many, place) in
          let here : slice_get last j ≡ Some name = sym (ap (λ ns. slice_get ns i) in_order ∙ ap (slice_get (before ++ last)) place ∙ joined_right before last j) ∙ there in
          let v = variant_type_is name j here (last_is_not before (map name_of p.variants) apart name (holds_at bytes_eq name_equal name_itself last j name here)) in
          ap (λ b. stub_by lists i (cond b None (slice_get variants (i + length variants - length names)))) less
          ∙ ap (λ k. stub_by lists i (slice_get variants k)) rest ∙ ap (stub_by lists i) v.1 ∙ v.2

  abbrev pub StubKnown : List ℕ → Type 0
  StubKnown name = (list_any (bytes_eq name) names ≡ true) × (list_any (is_named name) (made_from 0 (made mode)) ≡ false)

  pub stub_types_told : (xs : List (List ℕ)) → All StubKnown xs
      → map (stub_type lists (length names)) (map (number_by bytes_eq names) xs) ≡ map (type_of p parts) (map stub xs)
  stub_types_told [] known = refl
  stub_types_told (name ∷ xs) known =
      let k = All-head StubKnown name xs known in
      ap (λ t. t ∷ map (stub_type lists (length names)) (map (number_by bytes_eq names) xs)) (stub_type_is name k.0 k.1)
      ∙ ap (λ ts. type_of p parts (stub name) ∷ ts) (stub_types_told xs (All-tail StubKnown name xs known))
