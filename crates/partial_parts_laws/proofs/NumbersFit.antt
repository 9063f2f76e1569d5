-- Numbers, names and flags of a program's relocatable object are in range, where those of its objects are.
use Rattle.std.proofs.Common.{◌≡◌, ℕ, suc, ◌+◌, ◌-◌, ◌<◌, ◌≤◌, ◌^◌, ◌==◌, Bool, true, false, not, ◌&&◌, ◌||◌, List, [], ◌∷◌, map, filter, length, inl, inr, refl, sym, ap, ◌∙◌, subst, arith, rules, bit_and}
use Rattle.std.specs.Prelude.{◌⊎◌, nat_le, Option, Some, None, option_map, option_and_then, unwrap_or, filter_map, flat_map, position, slice_get, cond, codes, All, pos, IfSome, IsUtf8, is_some, bit_or, if◌then◌else◌}
use Rattle.std.specs.List.{list_any, list_all, cons_option}
use Rattle.std.specs.Int.Bits.{or_add_and, and_zero_r}
use Rattle.std.proofs.lemmas.Str.{IsUtf8-from_ascii}
use Rattle.std.proofs.lemmas.Bool.{and_parts, and_from, or_from, or_parts}
use Rattle.std.proofs.lemmas.Bool.Decides.{nat_tests}
use Rattle.std.proofs.lemmas.Nat.{and_le_r, and_or_apart, and_assoc}
use Rattle.std.proofs.lemmas.List.{length-map}
use Rattle.list_places.specs.Has.{Has}
use Rattle.list_places.proofs.Lists.{all_has, by_test, filter_has, find_has, has_at, has_either, has_filter, has_flat, has_map, has_pick, position_below, some_is}
use Rattle.object_rules.specs.Spaces.{imports_of, is_of}
use Rattle.name_rules.specs.object_file.wl_base.Choice.{first_some}
use Rattle.name_rules.specs.object_file.wasm_types.declared.function.FuncType.{FuncType}
use Rattle.name_rules.specs.object_file.wasm_types.declared.import.Import.{Import}
use Rattle.name_rules.specs.object_file.wasm_types.Same.{same_type}
use Rattle.name_rules.specs.object_file.wasm_module.declared.parts.Export.{Export}
use Rattle.name_rules.specs.object_file.linking_section.declared.symbol.Symbol.{Symbol}
use Rattle.name_rules.specs.object_file.linking_section.declared.symbol.SymbolKind.{SymbolKind}
use Rattle.name_rules.specs.object_file.linking_section.declared.symbol.SymbolKind.TheVariants.{Function, Datum, GlobalVar, Section, Table}
use Rattle.name_rules.specs.object_file.linking_section.declared.group.Member.{Member}
use Rattle.name_rules.specs.object_file.linking_section.declared.group.Group.{Group}
use Rattle.name_rules.specs.object_file.linking_section.Flags.{has_bit, is_foreign_symbol, is_weak, is_local, is_explicit, is_undefined, is_local_definition}
use Rattle.name_rules.specs.object_file.object_columns.declared.functions.FunctionDef.{FunctionDef}
use Rattle.name_rules.specs.object_file.declared.object.Object.{Object}
use Rattle.name_rules.specs.object_file.Spaces.{function_imports}
use Rattle.object_file.specs.Spellable as spellable
use Rattle.made_symbols.specs.declared.mode.Mode.TheVariants.{Plain}
use Rattle.made_symbols.specs.Made.{made}
use Rattle.name_rules.specs.Entries.{InputSymbol, ImportKey, is_kind, is_entry, named, is_named as has_name, in_kept_part, SymbolType, of_function, of_global, untyped, name_of, type_in, import_in, made_from, group_winner, is_input, same_entry, symbols_of}
use Rattle.name_rules.specs.Meanings.{Resolved, least_import}
use Rattle.image_emit.specs.Spelled as spelled
use Rattle.mark_bits.specs.declared.chunk.Chunk.{Chunk}
use Rattle.link_rules.specs.Program.{Program, Part, InitCall, init_call, init_calls_in, is_skipped, chunk_at, same_chunk, Ref, ref_to}
use Rattle.link_rules.specs.Marks.{resolved_at}
use Rattle.link_rules.specs.Keys.{content_type}
use Rattle.partial_rules.specs.Relocatable.{Relocatable, relocatable_bytes}
use Rattle.partial_rules.specs.Partial.{name_references, standing, is_open, has_import, open_of, open_import, importing, import_kind, import_for, imports, kept, place_of, types, type_number, function_number, global_number, symbol_number, is_for, content_info, exported_name, export_for, init_for, member_for, group_for, groups_in, is_none, object_winner, open_index, defined_index, open_symbol, symbol_for, global_in, relocatable}
use Rattle.partial_rules.specs.WellFormed.{IsU32, IsName, HasPlace, IsInfo, IsInit, IsMember, IsGroup, IsSymbol}
use Rattle.partial_laws.proofs.Flags.{open_weak}
use Rattle.partial_laws.proofs.Instance.{all_from_has}
use Rattle.partial_laws.proofs.Opened.{all_true}
use Rattle.partial_laws.proofs.Same.{name_itself}
use Rattle.partial_laws.proofs.Joins.{all_made}
use Rattle.partial_laws.proofs.Loading.{rise_above}
use Rattle.partial_laws.proofs.Regions.{entry_linked}
use Rattle.partial_parts_laws.specs.Linked.{Linked, program}
use Rattle.partial_parts_laws.specs.ReadBack.{AreLinked}
use Rattle.partial_parts_laws.specs.SymbolsBack.{AreNamed}
use Rattle.partial_parts_laws.specs.NumbersFit.{HasNumbers, NumbersFit}
use Rattle.partial_parts_laws.proofs.Parts.{res, resolved_are, objects_are}
use Rattle.partial_parts_laws.proofs.Imported.{from_least, reference_of, standing_entry}
use Rattle.partial_parts_laws.proofs.KeptParts.{of_segment, of_global as global_from}
use Rattle.partial_parts_laws.proofs.StandingSymbols.{of_objects, origin, standing_in, key_from, some_name, no_section, closed_defined}
use Rattle.partial_parts_laws.proofs.SymbolsRead.{few_standing, few_segments, few_functions, few_types, few_globals as few_globals_of}
use Rattle.partial_parts_laws.proofs.SymbolsBack.{by_open}

-- ---- numbers of keys

low_number : {A : Type 0} (same : A → A → Bool) (xs : List A) (key : A) (m : ℕ) → length xs < m → unwrap_or (position (same key) xs) 0 < m
low_number same xs key m few = position_below (same key) xs (position (same key) xs) refl m few

few_kept : {A : Type 0} (t : A → Bool) (xs : List A) → length (filter t xs) ≤ length xs
few_kept t [] = omega arith
few_kept {A} t (x ∷ xs) = choose (t x) (few_kept t xs)
  where
    choose : (b : Bool) → length (filter t xs) ≤ length xs → length (cond b (x ∷ filter t xs) (filter t xs)) ≤ suc (length xs)
    choose true le = omega (arith, le)
    choose false le = omega (arith, le)

-- an export of a function, with its name
exported_so : (o : Option (List ℕ)) (n : ℕ) (e : Export) → IfSome o IsUtf8 → option_map (λ name. record { name = name; kind = 0; index = n }) o ≡ Some e → IsUtf8 e.name × (e.kind ≡ 0) × (e.index ≡ n)
exported_so None n e utf is = absurd cc
exported_so (Some name) n e utf is = let same = some_is (record { name = name; kind = 0; index = n }) e is in (subst (λ (x : Export). IsUtf8 x.name) same utf, ap (λ (x : Export). x.kind) (sym same), ap (λ (x : Export). x.index) (sym same))

no_true : false ≡ true → ⊥
no_true e = absurd cc

all_picked : {A B : Type 0} (f : A → Option B) (xs : List A) → ((x : A) → Has xs x → (y : B) × (f x ≡ Some y)) → length (filter_map f xs) ≡ length xs
all_picked f [] each = refl
all_picked {A} {B} f (x ∷ xs) each =
    let y = each x (inl refl) in ap (λ (o : Option B). length (cons_option o (filter_map f xs))) y.1 ∙ ap suc (all_picked f xs (λ z h. each z (inr h)))

-- ---- flags of an open symbol

abbrev open_flags : ℕ → Bool → Bool → ℕ
open_flags flags weak explicit = bit_and flags 0xAE + 0x10 + (if weak then 0x01 else 0) + (if explicit then 0x40 else 0)

flags_low : (flags : ℕ) (weak explicit : Bool) → open_flags flags weak explicit < 0x400
flags_low flags true true = omega (arith, and_le_r flags 0xAE)
flags_low flags true false = omega (arith, and_le_r flags 0xAE)
flags_low flags false true = omega (arith, and_le_r flags 0xAE)
flags_low flags false false = omega (arith, and_le_r flags 0xAE)

abbrev where_set : ℕ → Bool → ℕ
where_set bit test = if test then bit else 0

-- numbers without a common bit are added bit by bit
sum_or : (a b : ℕ) → bit_and a b ≡ 0 → a + b ≡ bit_or a b
sum_or a b h = omega (arith, or_add_and a b, h)

add_other : (g n m : ℕ) (b : Bool) → bit_and g n ≡ 0 → bit_and n m ≡ 0 → bit_and (g + where_set n b) m ≡ bit_and g m
add_other g n m true h far = ap (λ x. bit_and x m) (sum_or g n h) ∙ and_or_apart m g n far
add_other g n m false h far = let same : g + 0 ≡ g = omega arith in ap (λ x. bit_and x m) same

cleared : (flags n : ℕ) → bit_and 0xAE n ≡ 0 → bit_and (bit_and flags 0xAE) n ≡ 0
cleared flags n h = and_assoc n flags 0xAE ∙ (ap (bit_and flags) h ∙ and_zero_r flags)

-- a bit that is none of the three is what it was
other_bit : (flags m : ℕ) (weak explicit : Bool) → bit_and 0x10 m ≡ 0 → bit_and 0x01 m ≡ 0 → bit_and 0x40 m ≡ 0 → bit_and (open_flags flags weak explicit) m ≡ bit_and flags (bit_and 0xAE m)
other_bit flags m weak explicit a b c =
    let first : bit_and (bit_and flags 0xAE + 0x10) 0x01 ≡ 0 = add_other (bit_and flags 0xAE) 0x10 0x01 true (cleared flags 0x10 refl) refl ∙ cleared flags 0x01 refl in
    let second : bit_and (bit_and flags 0xAE + 0x10 + where_set 0x01 weak) 0x40 ≡ 0 =
    add_other (bit_and flags 0xAE + 0x10) 0x01 0x40 weak first refl ∙ (add_other (bit_and flags 0xAE) 0x10 0x40 true (cleared flags 0x10 refl) refl ∙ cleared flags 0x40 refl) in
    add_other (bit_and flags 0xAE + 0x10 + where_set 0x01 weak) 0x40 m explicit second c
    ∙ (add_other (bit_and flags 0xAE + 0x10) 0x01 m weak first b ∙ (add_other (bit_and flags 0xAE) 0x10 m true (cleared flags 0x10 refl) a ∙ and_assoc m flags 0xAE))

known_flags : (flags : ℕ) (weak explicit : Bool) → has_bit 0x08 flags ≡ false → (has_bit 0x02 flags ≡ true → weak ≡ false) → is_foreign_symbol (open_flags flags weak explicit) ≡ false
known_flags flags weak explicit eight local =
    let f : ℕ = open_flags flags weak explicit in
    let high : has_bit 0x100 f ≡ false = ap (λ n. not (n == 0)) (other_bit flags 0x100 weak explicit refl refl refl ∙ and_zero_r flags) in
    let higher : has_bit 0x200 f ≡ false = ap (λ n. not (n == 0)) (other_bit flags 0x200 weak explicit refl refl refl ∙ and_zero_r flags) in
    let fourth : has_bit 0x08 f ≡ false = ap (λ n. not (n == 0)) (other_bit flags 0x08 weak explicit refl refl refl) ∙ eight in
    let low : f < 0x400 = flags_low flags weak explicit in
    let few : nat_le 0x400 f ≡ false = grind (arith, nat_tests, low) in
    let two : has_bit 0x02 f ≡ has_bit 0x02 flags = ap (λ n. not (n == 0)) (other_bit flags 0x02 weak explicit refl refl refl) in
    let one : has_bit 0x01 f ≡ weak = open_weak flags weak explicit in
    or_from (has_bit 0x100 f || has_bit 0x200 f || has_bit 0x08 f || nat_le 0x400 f) (has_bit 0x01 f && has_bit 0x02 f)
    (or_from (has_bit 0x100 f || has_bit 0x200 f || has_bit 0x08 f) (nat_le 0x400 f) (or_from (has_bit 0x100 f || has_bit 0x200 f) (has_bit 0x08 f) (or_from (has_bit 0x100 f) (has_bit 0x200 f) high higher) fourth) few)
    (by_test (has_bit 0x02 flags)
    (λ e. ap (λ (b : Bool). b && has_bit 0x02 f) (one ∙ local e))
    (λ e. ap (λ (b : Bool). has_bit 0x01 f && b) (two ∙ e) ∙ nothing (has_bit 0x01 f)))
  where
    nothing : (b : Bool) → (b && false) ≡ false
    nothing true = refl
    nothing false = refl

module _ (l : Linked) (objects : List Object) (is : AreLinked l objects) (names : All AreNamed objects) (spellable_all : All spellable.IsSpellable objects) (short : length (relocatable_bytes (relocatable (program l objects))) ≤ 2 ^ 30) where
  abbrev p : Program
  p = program l objects

  abbrev r : Relocatable
  r = relocatable p

  above : All (λ (y : Object). 0 < y.input) objects
  above = rise_above 0 objects is.rise

  spellable_of : (o : Object) → Has objects o → spellable.IsSpellable o
  spellable_of o ho = all_has spellable.IsSpellable objects spellable_all o ho

  functions_low : (c : Chunk) → function_number p c < 2 ^ 32
  functions_low c =
      let open_few : length (open_of p Function) ≤ length (standing p) = few_kept (λ e. is_open p e && is_kind Function e) (standing p) in
      let place : place_of p 0 c < 2 ^ 30 + 1 = low_number same_chunk (map (λ (part : Part). part.chunk) (kept p 0)) c (2 ^ 30 + 1) (omega (arith, length-map (kept p 0) (λ (part : Part). part.chunk), few_functions p short)) in
      omega (arith, open_few, place, few_standing p short)

  pub types_low : (t : FuncType) → type_number p t < 2 ^ 32
  types_low t = low_number same_type (types p) t (2 ^ 32) (omega (arith, few_types p short))

  pub symbols_low : (e : InputSymbol) → symbol_number p e < 2 ^ 32
  symbols_low e = position_below (is_for p e) (standing p) (position (is_for p e) (standing p)) refl (2 ^ 32) (omega (arith, few_standing p short))

  -- ---- functions and exports

  functions_fit : All IsU32 (map (λ part. type_number p (content_type part.content)) (kept p 0))
  functions_fit =
      all_from_has IsU32 (map (λ part. type_number p (content_type part.content)) (kept p 0))
      (λ n has. let m = has_map (λ part. type_number p (content_type part.content)) (kept p 0) n has in subst IsU32 m.2 (types_low (content_type m.0.content)))

  name_fits : (c : Chunk) → IfSome (exported_name p c) IsUtf8
  name_fits c = by_found (resolved_at p.resolved c.input) refl
    where
      by_function : (o : Object) → Has objects o → (x : Option FunctionDef) → slice_get o.functions c.index ≡ x → IfSome (option_and_then (λ (f : FunctionDef). f.export_name) x) IsUtf8
      by_function o ho None at = tt
      by_function o ho (Some f) at = (all_has spellable.IsFunction o.functions (spellable_of o ho).functions f (has_at o.functions c.index f at)).export_name

      by_found : (x : Option Resolved) → resolved_at p.resolved c.input ≡ x → IfSome (option_and_then (λ (y : Resolved). option_and_then (λ (f : FunctionDef). f.export_name) (slice_get y.object.functions c.index)) x) IsUtf8
      by_found None at = tt
      by_found (Some y) at =
          let f = find_has (λ (x : Resolved). x.object.input == c.input) p.resolved y at in
          let m = has_map (λ o. res l objects o) objects y (subst (λ ys. Has ys y) (resolved_are l objects) f.0) in
          subst (λ (x : Resolved). IfSome (option_and_then (λ (f : FunctionDef). f.export_name) (slice_get x.object.functions c.index)) IsUtf8) m.2 (by_function m.0 m.1 (slice_get m.0.functions c.index) refl)

  exports_fit : All spelled.IsExport (filter_map (λ part. export_for p part) (kept p 0))
  exports_fit =
      all_from_has spelled.IsExport (filter_map (λ part. export_for p part) (kept p 0))
      (λ e has.
      let m = has_pick (λ part. export_for p part) (kept p 0) e has in
      let t = exported_so (exported_name p m.0.chunk) (function_number p m.0.chunk) e (name_fits m.0.chunk) m.2 in
      record { name = t.0; kind = omega (arith, t.1); index = omega (arith, t.2, functions_low m.0.chunk) })

  -- ---- imports

  record NamesFit (k : ImportKey) : Type 0 where
    from : IsUtf8 k.module_name
    field : IsUtf8 k.field

  -- an import on which a symbol of an object stands
  import_names : (x : InputSymbol) → Has (flat_map (symbols_of objects) objects) x → (k : ImportKey) → x.import ≡ Some k → NamesFit k
  import_names x has k e =
      let it = origin l objects is names x has in
      let y = key_from (type_in it.object it.symbol it.symbol.kind) (import_in it.object it.symbol it.symbol.kind) k (ap (λ (z : InputSymbol). z.import) it.made ∙ e) in
      let one = all_has spellable.IsImport it.object.imports (spellable_of it.object it.there).imports y.0 (import_there it.object it.symbol it.symbol.kind y.0 y.1) in
      record { from = subst IsUtf8 (sym y.2) one.from; field = subst IsUtf8 (sym y.3) one.field }
    where
      import_there : (o : Object) (s : Symbol) (kind : SymbolKind) (i : Import) → import_in o s kind ≡ Some i → Has o.imports i
      import_there o s Function i at = (has_filter (λ (z : Import). is_of Function z.kind) o.imports i (has_at (imports_of Function o.imports) s.index i at)).0
      import_there o s Datum i at = absurd cc
      import_there o s GlobalVar i at = (has_filter (λ (z : Import). is_of GlobalVar z.kind) o.imports i (has_at (imports_of GlobalVar o.imports) s.index i at)).0
      import_there o s Section i at = absurd cc
      import_there o s Table i at = (has_filter (λ (z : Import). is_of Table z.kind) o.imports i (has_at (imports_of Table o.imports) s.index i at)).0

  reference_names : (name : List ℕ) (x : InputSymbol) → Has (name_references p name) x → (k : ImportKey) → x.import ≡ Some k → NamesFit k
  reference_names name x has k e =
      let it = reference_of p objects (of_objects l objects is names) is.no_clash name x has in
      either (has_either (made_from 0 (made Plain)) (flat_map (symbols_of objects) objects) x (entry_linked objects x (subst (λ xs. Has xs x) (of_objects l objects is names).entries_are it.0)))
    where
      either : Has (made_from 0 (made Plain)) x ⊎ Has (flat_map (symbols_of objects) objects) x → NamesFit k
      either (inl own) = absurd (some_none (sym e ∙ all_has (λ (y : InputSymbol). y.import ≡ None) (made_from 0 (made Plain)) (all_made (λ (y : InputSymbol). y.import ≡ None) (λ place m. refl) 0 (made Plain)) x own))
        where
          some_none : Some k ≡ None → ⊥
          some_none z = absurd cc
      either (inr h) = import_names x h k e

  -- a standing symbol's own name
  own_name : (x : InputSymbol) → Has (standing p) x → IsUtf8 (name_of x)
  own_name x has =
      let it = origin l objects is names x (standing_in l objects is names x has).0 in
      let one = all_has spellable.IsSymbol it.object.symbols (spellable_of it.object it.there).symbols it.symbol it.one_of in
      let name = some_name l objects is names x has in
      let utf : IfSome x.symbol.name IsUtf8 = subst (λ (y : InputSymbol). IfSome y.symbol.name IsUtf8) it.made one.name in
      subst IsUtf8 (ap (λ (o : Option (List ℕ)). unwrap_or o []) (sym name.1)) (subst (λ (o : Option (List ℕ)). IfSome o IsUtf8) name.1 utf)

  open_names : (x : InputSymbol) → Has (standing p) x → NamesFit (open_import p x)
  open_names x has =
      choose (least_import (filter (λ (y : InputSymbol). is_explicit y.symbol) refs)) (least_import refs)
      (λ k e. let f = from_least (filter (λ (y : InputSymbol). is_explicit y.symbol) refs) k e in reference_names (name_of x) f.0 (has_filter (λ (y : InputSymbol). is_explicit y.symbol) refs f.0 f.1).0 k f.2)
      (λ k e. let f = from_least refs k e in reference_names (name_of x) f.0 f.1 k f.2)
    where
      refs : List InputSymbol
      refs = name_references p (name_of x)

      choose : (a b : Option ImportKey) → ((k : ImportKey) → a ≡ Some k → NamesFit k) → ((k : ImportKey) → b ≡ Some k → NamesFit k)
          → NamesFit (unwrap_or (first_some (a ∷ b ∷ [])) (record { module_name = codes "env"; field = name_of x; type = x.type }))
      choose (Some k) b f g = f k refl
      choose None (Some k) f g = g k refl
      choose None None f g = record { from = IsUtf8-from_ascii (codes "env") (search rules); field = own_name x has }

  import_fits : (e : InputSymbol) → Has (importing p) e → spelled.IsImport (import_for p (open_import p e))
  import_fits e has =
      let n = open_names e (has_filter (λ y. is_open p y && has_import p y y.symbol.kind) (standing p) e has).0 in
      record { from = n.from; field = n.field; kind = by_type (open_import p e).type }
    where
      by_type : (t : SymbolType) → spelled.IsImportKind (import_kind p t)
      by_type (of_function t) = types_low t
      by_type (of_global g) = tt
      by_type untyped = record { least = omega arith; most = tt }

  imports_fit : All spelled.IsImport (imports p)
  imports_fit =
      all_from_has spelled.IsImport (imports p) (λ i has. either i has)
    where
      either : (i : Import) → Has (imports p) i → spelled.IsImport i
      either i (inl own) = subst spelled.IsImport own (record {
        from = IsUtf8-from_ascii (codes "env") (search rules);
        field = IsUtf8-from_ascii (codes "__linear_memory") (search rules);
        kind = record { least = omega arith; most = tt };
      })
      either i (inr h) = let m = has_map (λ e. import_for p (open_import p e)) (importing p) i h in subst spelled.IsImport m.2 (import_fits m.0 m.1)

  -- ---- segment infos, init functions and groups

  infos_fit : All IsInfo (map (λ part. content_info p part.content) (kept p 1))
  infos_fit =
      all_from_has IsInfo (map (λ part. content_info p part.content) (kept p 1))
      (λ i has.
      let m = has_map (λ part. content_info p part.content) (kept p 1) i has in
      let o = of_segment l objects is.strict above m.0 m.1 in
      let one = (all_has spellable.IsSegment o.object.segments (spellable_of o.object o.there).segments o.definition (has_at o.object.segments o.place o.definition o.at)).info in
      let own : IsInfo o.definition.info = record { name = one.name; align = one.align; flags = one.flags; known = one.known } in
      subst IsInfo (ap (λ (x : Part). content_info p x.content) o.is ∙ m.2) own)

  priority_low : (c : InitCall) → Has (flat_map init_calls_in p.resolved) c → IsU32 c.priority
  priority_low c has =
      let f = has_flat init_calls_in p.resolved c has in
      let m = has_map (λ o. res l objects o) objects f.0 (subst (λ ys. Has ys f.0) (resolved_are l objects) f.1) in
      let g = has_filter (λ (d : InitCall). not (is_skipped d)) (filter_map (init_call f.0) f.0.object.inits) c f.2 in
      let h = has_pick (init_call f.0) f.0.object.inits c g.0 in
      let there : Has m.0.inits h.0 = subst (λ (y : Resolved). Has y.object.inits h.0) (sym m.2) h.1 in
      let one = all_has spellable.IsInit m.0.inits (spellable_of m.0 m.1).inits h.0 there in
      by_option (ref_to 0 0 (pos 0) (slice_get f.0.symbols h.0.symbol) (slice_get f.0.meanings h.0.symbol)) h.0.priority one.priority h.2
    where
      by_option : (o : Option Ref) (priority : ℕ) → IsU32 priority → option_map (λ ref. record { priority = priority; ref = ref }) o ≡ Some c → IsU32 c.priority
      by_option None priority low e = absurd cc
      by_option (Some x) priority low e = subst (λ (d : InitCall). IsU32 d.priority) (some_is (record { priority = priority; ref = x }) c e) low

  inits_fit : All IsInit (map (λ c. init_for p c) (flat_map init_calls_in p.resolved))
  inits_fit =
      all_from_has IsInit (map (λ c. init_for p c) (flat_map init_calls_in p.resolved))
      (λ i has. let m = has_map (λ c. init_for p c) (flat_map init_calls_in p.resolved) i has in subst IsInit m.2 (record { priority = priority_low m.0 m.1; symbol = symbols_low m.0.ref.entry }))

  member_fits : (o : Object) (m n : Member) → member_for p o m ≡ Some n → IsMember n
  member_fits o m n = choose (m.kind == 0) (m.kind == 1)
    where
      segment : IsMember (record { kind = 0; index = place_of p 1 (chunk_at o.input 1 m.index) })
      segment = record { kind = refl; index = low_number same_chunk (map (λ (part : Part). part.chunk) (kept p 1)) (chunk_at o.input 1 m.index) (2 ^ 32) (omega (arith, length-map (kept p 1) (λ (part : Part). part.chunk), few_segments p short)) }

      function : IsMember (record { kind = 1; index = function_number p (chunk_at o.input 0 (m.index - length (function_imports o))) })
      function = record { kind = refl; index = functions_low (chunk_at o.input 0 (m.index - length (function_imports o))) }

      choose : (a b : Bool) → (if a then Some (record { kind = 0; index = place_of p 1 (chunk_at o.input 1 m.index) }) else if b then Some (record { kind = 1; index = function_number p (chunk_at o.input 0 (m.index - length (function_imports o))) }) else None) ≡ Some n → IsMember n
      choose true b e = subst IsMember (some_is (record { kind = 0; index = place_of p 1 (chunk_at o.input 1 m.index) }) n e) segment
      choose false true e = subst IsMember (some_is (record { kind = 1; index = function_number p (chunk_at o.input 0 (m.index - length (function_imports o))) }) n e) function
      choose false false e = absurd cc

  groups_fit : All IsGroup (flat_map (groups_in p) p.objects)
  groups_fit =
      all_from_has IsGroup (flat_map (groups_in p) p.objects)
      (λ g has.
      let f = has_flat (groups_in p) p.objects g has in
      let ho : Has objects f.0 = subst (λ os. Has os f.0) (objects_are l objects) f.1 in
      let m = has_map (group_for p f.0) (filter (λ (h : Group). is_input f.0.input (group_winner p.objects h.name)) f.0.groups) g f.2 in
      let one = all_has spellable.IsGroup f.0.groups (spellable_of f.0 ho).groups m.0 (has_filter (λ (h : Group). is_input f.0.input (group_winner p.objects h.name)) f.0.groups m.0 m.1).0 in
      subst IsGroup m.2 (record {
        name = one.name;
        members = all_from_has IsMember (filter_map (member_for p f.0) m.0.members) (λ n hn. let k = has_pick (member_for p f.0) m.0.members n hn in member_fits f.0 k.0 n k.2);
      }))

  -- ---- symbols

  globals_low : (c : Chunk) → global_number p c < 2 ^ 32
  unfolding relocatable
  globals_low c =
      let open_few : length (open_of p GlobalVar) ≤ length (standing p) = few_kept (λ e. is_open p e && is_kind GlobalVar e) (standing p) in
      let place : place_of p 2 c < 2 ^ 30 + 1 = low_number same_chunk (map (λ (part : Part). part.chunk) (kept p 2)) c (2 ^ 30 + 1) (omega (arith, length-map (kept p 2) (λ (part : Part). part.chunk), few_globals)) in
      omega (arith, open_few, place, few_standing p short)
    where
      few_globals : length (kept p 2) ≤ 2 ^ 30
      few_globals =
          let long : length r.globals ≡ length (kept p 2) = all_picked (λ part. global_in p part.chunk.input part.content) (kept p 2) (λ part has. let g = global_from l objects is.strict above part has in (_, ap (global_in p part.chunk.input) g.1)) in
          omega (arith, long, few_globals_of p short)

  -- an index of an open symbol, or of a closed one
  open_low : (e : InputSymbol) (k : SymbolKind) → IsU32 (open_index p e k)
  open_low e Function = low_number same_entry (open_of p Function) e (2 ^ 32) (omega (arith, few_kept (λ y. is_open p y && is_kind Function y) (standing p), few_standing p short))
  open_low e Datum = omega arith
  open_low e GlobalVar = low_number same_entry (open_of p GlobalVar) e (2 ^ 32) (omega (arith, few_kept (λ y. is_open p y && is_kind GlobalVar y) (standing p), few_standing p short))
  open_low e Section = omega arith
  open_low e Table = omega arith

  defined_low : (e : InputSymbol) (k : SymbolKind) → IsU32 (defined_index p e k)
  defined_low e Function = functions_low (chunk_at e.input 0 e.index)
  defined_low e Datum = low_number same_chunk (map (λ (part : Part). part.chunk) (kept p 1)) (chunk_at e.input 1 e.index) (2 ^ 32) (omega (arith, length-map (kept p 1) (λ (part : Part). part.chunk), few_segments p short))
  defined_low e GlobalVar = globals_low (chunk_at e.input 2 e.index)
  defined_low e Section = omega arith
  defined_low e Table = omega arith

  spelled_symbol : (x : InputSymbol) → Has (standing p) x → spellable.IsSymbol x.symbol
  spelled_symbol x has =
      let it = origin l objects is names x (standing_in l objects is names x has).0 in
      subst (λ (y : InputSymbol). spellable.IsSymbol y.symbol) it.made (all_has spellable.IsSymbol it.object.symbols (spellable_of it.object it.there).symbols it.symbol it.one_of)

  -- a LOCAL one that is open is no definition, so one reference isn't WEAK
  not_weak : (x : InputSymbol) → Has (standing p) x → is_open p x ≡ true → is_local x.symbol ≡ true → list_all (λ (y : InputSymbol). is_weak y.symbol) (name_references p (name_of x)) ≡ false
  not_weak x has opened local = by_test (list_all (λ (y : InputSymbol). is_weak y.symbol) refs) (λ t. absurd (no_true (sym own_weak ∙ all_true (λ (y : InputSymbol). is_weak y.symbol) refs t x own))) (λ f. f)
    where
      refs : List InputSymbol
      refs = name_references p (name_of x)

      entry : is_entry x ≡ true
      entry = (and_parts (is_entry x) (is_none (object_winner p (name_of x))) opened).0

      undefined : is_undefined x.symbol ≡ true
      undefined = by_test (is_undefined x.symbol) (λ e. e)
          (λ e. absurd (no_true (sym (ap not (ap (λ (b : Bool). b && not (is_undefined x.symbol)) local ∙ ap not e)) ∙ (and_parts (is_some x.symbol.name) (not (is_local_definition x.symbol)) entry).1)))

      defines : x.defines ≡ false
      defines =
          let it = origin l objects is names x (standing_in l objects is names x has).0 in
          ap (λ (y : InputSymbol). y.defines) (sym it.made) ∙ ap (λ (b : Bool). not b && in_kept_part objects it.object it.symbol it.symbol.kind) (ap (λ (y : InputSymbol). is_undefined y.symbol) it.made ∙ undefined)

      own : Has refs x
      own =
          filter_has (λ (y : InputSymbol). not y.defines) (named p.entries (name_of x)) x
          (filter_has (has_name (name_of x)) p.entries x (standing_entry p objects (of_objects l objects is names) is.no_clash x has entry) (name_itself (name_of x))) (ap not defines)

      own_weak : is_weak x.symbol ≡ false
      own_weak =
          let known = (spelled_symbol x has).known in
          let both : (has_bit 0x01 x.symbol.flags && has_bit 0x02 x.symbol.flags) ≡ false = (or_parts (has_bit 0x100 x.symbol.flags || has_bit 0x200 x.symbol.flags || has_bit 0x08 x.symbol.flags || nat_le 0x400 x.symbol.flags) (has_bit 0x01 x.symbol.flags && has_bit 0x02 x.symbol.flags) known).1 in
          by_test (is_weak x.symbol) (λ e. absurd (no_true (sym both ∙ and_from (has_bit 0x01 x.symbol.flags) (has_bit 0x02 x.symbol.flags) e local))) (λ e. e)

  open_fits : (x : InputSymbol) → Has (standing p) x → is_open p x ≡ true → IsSymbol (open_symbol p x)
  open_fits x has opened =
      let known = (spelled_symbol x has).known in
      let weak : Bool = list_all (λ (y : InputSymbol). is_weak y.symbol) (name_references p (name_of x)) in
      let explicit : Bool = list_any (λ (y : InputSymbol). is_explicit y.symbol) (name_references p (name_of x)) in
      let bits = or_parts (has_bit 0x100 x.symbol.flags || has_bit 0x200 x.symbol.flags || has_bit 0x08 x.symbol.flags || nat_le 0x400 x.symbol.flags) (has_bit 0x01 x.symbol.flags && has_bit 0x02 x.symbol.flags) known in
      let more = or_parts (has_bit 0x100 x.symbol.flags || has_bit 0x200 x.symbol.flags || has_bit 0x08 x.symbol.flags) (nat_le 0x400 x.symbol.flags) bits.0 in
      let last = or_parts (has_bit 0x100 x.symbol.flags || has_bit 0x200 x.symbol.flags) (has_bit 0x08 x.symbol.flags) more.0 in
      let low : (open_symbol p x).flags < 0x400 = flags_low x.symbol.flags weak explicit in
      record {
        flags = omega (arith, low);
        known = known_flags x.symbol.flags weak explicit last.1 (λ local. not_weak x has opened local);
        name = own_name x has;
        index = open_low x x.symbol.kind;
        offset = omega arith;
        size = omega arith;
        place = by_kind x.symbol.kind (no_section l objects is names x has);
      }
    where
      by_kind : (k : SymbolKind) → (k ≡ Section → ⊥) → HasPlace k (record (open_symbol p x) { index = open_index p x k })
      by_kind Function section = (refl, refl)
      by_kind Datum section = λ undefined. (refl, refl, refl)
      by_kind GlobalVar section = (refl, refl)
      by_kind Section section = section refl
      by_kind Table section = (refl, refl)

  closed_fits : (x : InputSymbol) → Has (standing p) x → is_open p x ≡ false → IsSymbol (record x.symbol { index = defined_index p x x.symbol.kind })
  closed_fits x has closed =
      let one = spelled_symbol x has in
      let name = some_name l objects is names x has in
      record {
        flags = one.flags;
        known = one.known;
        name = subst IsName (sym name.1) (subst (λ (o : Option (List ℕ)). IfSome o IsUtf8) name.1 one.name);
        index = defined_low x x.symbol.kind;
        offset = one.offset;
        size = one.size;
        place = by_kind x.symbol.kind (no_section l objects is names x has) one.place;
      }
    where
      by_kind : (k : SymbolKind) → (k ≡ Section → ⊥) → spellable.HasPlace k x.symbol → HasPlace k (record x.symbol { index = defined_index p x k })
      by_kind Function section place = place
      by_kind Datum section place = λ undefined. absurd (no_true (sym (closed_defined l objects is names x has closed) ∙ undefined))
      by_kind GlobalVar section place = place
      by_kind Section section place = section refl
      by_kind Table section place = place

  symbols_fit : All IsSymbol (map (λ x. symbol_for p x) (standing p))
  symbols_fit =
      all_from_has IsSymbol (map (λ x. symbol_for p x) (standing p))
      (λ s has. let m = has_map (λ x. symbol_for p x) (standing p) s has in subst IsSymbol m.2 (by_open l objects is names IsSymbol m.0 (open_fits m.0 m.1) (closed_fits m.0 m.1)))

  -- ---- all

  all_fit : HasNumbers r
  unfolding relocatable
  all_fit = record {
    imports = imports_fit;
    functions = functions_fit;
    exports = exports_fit;
    linking = record { infos = infos_fit; inits = inits_fit; groups = groups_fit; symbols = symbols_fit };
  }

pub numbers_fit : NumbersFit
numbers_fit l objects is names spellable_all short = all_fit l objects is names spellable_all short
