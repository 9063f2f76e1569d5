-- Which symbol of a relocatable object stands for one that a kept part or an init function refers to.
use Rattle.std.proofs.Common.{◌≡◌, ℕ, ◌<◌, ◌==◌, Bool, true, false, not, ◌&&◌, List, [], ◌∷◌, map, length, inl, inr, ⊎_elim, refl, sym, ap, ◌∙◌, subst, arith}
use Rattle.std.specs.Prelude.{Option, Some, None, option_map, unwrap_or, filter_map, flat_map, find, slice_get, is_some, All, ℤ, pos, IsTrue, if◌then◌else◌}
use Rattle.std.specs.List.{list_any}
use Rattle.std.proofs.lemmas.Bool.{and_parts, and_from, or_right, ne_eqb}
use Rattle.list_places.specs.Has.{Has}
use Rattle.list_places.proofs.Lists.{all_has, any_has, filter_has, find_has, flat_has, has_at, has_filter, has_flat, has_left, has_pick, map_has, pick_has, placed, some_is, stands as stands_at}
use Rattle.object_rules.specs.Symbols.{is_section}
use Rattle.object_rules.specs.Metadata.{is_function_kind}
use Rattle.object_rules.specs.Relocs.{may_name, is_table_name}
use Rattle.name_rules.specs.object_file.wl_base.declared.fault.Fault.TheVariants.{Unresolved}
use Rattle.name_rules.specs.object_file.linking_section.declared.symbol.Symbol.{Symbol}
use Rattle.name_rules.specs.object_file.linking_section.declared.symbol.SymbolKind.{SymbolKind}
use Rattle.name_rules.specs.object_file.linking_section.declared.symbol.SymbolKind.TheVariants.{Function, Datum, GlobalVar, Section, Table}
use Rattle.name_rules.specs.object_file.linking_section.declared.init.InitFunc.{InitFunc}
use Rattle.name_rules.specs.object_file.linking_section.Flags.{kind_code, is_local_definition}
use Rattle.name_rules.specs.object_file.reloc_section.declared.kinds.TheConstants.{TABLE_NUMBER_LEB}
use Rattle.name_rules.specs.object_file.body_windows.declared.operand.Operand.{Operand}
use Rattle.name_rules.specs.object_file.body_windows.declared.operand.Operand.TheVariants as operands
use Rattle.name_rules.specs.object_file.object_columns.declared.functions.FunctionDef.{FunctionDef}
use Rattle.name_rules.specs.object_file.object_columns.declared.segments.SegmentDef.{SegmentDef}
use Rattle.name_rules.specs.object_file.declared.object.Object.{Object}
use Rattle.object_file.specs.Sound.{Sound, IsNamedBy, OperandNames, WindowNames, IsInit}
use Rattle.made_symbols.specs.declared.mode.Mode.TheVariants.{Plain}
use Rattle.made_symbols.specs.Made.{made, made_at}
use Rattle.name_rules.specs.Entries.{InputSymbol, is_entry, is_kind, is_named, name_of, made_entry, made_from, same_entry, symbols_of}
use Rattle.name_rules.specs.Meanings.{Meaning}
use Rattle.link_rules.specs.Program.{Program, Part, Ref, Named, a_symbol, a_type, TypeWindow, named_ref, refs, ref_to, operand_named, window_named, is_that, InitCall, init_call, init_calls_in, init_calls, by_priority, is_skipped}
use Rattle.link_rules.specs.Marks.{all_symbols, is_object_part, refs_of}
use Rattle.partial_rules.specs.Partial.{object_winner, least_in_object, name_references, names_it, is_referenced, stands, stands_for_name, standing, is_for, symbol_number, is_lost, is_lost_there, open_local, kept}
use Rattle.partial_laws.specs.Names.{IsOf}
use Rattle.partial_laws.proofs.Cases.{one_type}
use Rattle.partial_laws.proofs.Joins.{all_made}
use Rattle.partial_laws.proofs.Loading.{apart_flat, rise_above}
use Rattle.partial_laws.proofs.Regions.{apart_one, entry_from, linked_entry}
use Rattle.partial_laws.proofs.Same.{name_equal, name_itself, entry_itself}
use Rattle.partial_laws.proofs.Symbols.{flat_of_map}
use Rattle.partial_parts_laws.specs.Linked.{Linked, program}
use Rattle.partial_parts_laws.specs.ReadBack.{AreLinked}
use Rattle.partial_parts_laws.specs.SymbolsBack.{AreNamed}
use Rattle.partial_parts_laws.proofs.Referred.{kinds_equal, not_found}
use Rattle.partial_parts_laws.proofs.Parts.{res, resolved_are, own_parts, object_parts, parts_are}
use Rattle.partial_parts_laws.proofs.RunParts.{own_part}
use Rattle.partial_parts_laws.proofs.Built.{code_section, data_section}
use Rattle.partial_parts_laws.proofs.Symbols.{symbol_at}
use Rattle.partial_parts_laws.proofs.Calls.{has_sorted}
use Rattle.partial_parts_laws.proofs.KeptParts.{of_function, of_segment}
use Rattle.partial_parts_laws.proofs.StandingSymbols.{of_objects, origin, winner_defines}

no_true : false ≡ true → ⊥
no_true e = absurd cc

-- ---- a reference by what it is made of

pub ref_told : (place kind : ℕ) (addend : ℤ) (e : Option InputSymbol) (m : Option Meaning) (ref : Ref) → ref_to place kind addend e m ≡ Some ref → (e ≡ Some ref.entry) × (ref.kind ≡ kind) × (ref.place ≡ place) × (ref.addend ≡ addend)
ref_told place kind addend (Some e) (Some m) ref is =
    let same = some_is (record { place = place; kind = kind; addend = addend; entry = e; meaning = m }) ref is in
    (ap (λ (x : Ref). Some x.entry) same, ap (λ (x : Ref). x.kind) (sym same), ap (λ (x : Ref). x.place) (sym same), ap (λ (x : Ref). x.addend) (sym same))
ref_told place kind addend (Some e) None ref is = absurd cc
ref_told place kind addend None m ref is = absurd cc

pub symbol_told : (o : Option Ref) (ref : Ref) → option_map a_symbol o ≡ Some (a_symbol ref) → o ≡ Some ref
symbol_told None ref is = absurd cc
symbol_told (Some r) ref is = ap (λ o. named_as o) is
  where
    named_as : Option Named → Option Ref
    named_as None = None
    named_as (Some n) = named_ref n

module _ (l : Linked) (objects : List Object) (is : AreLinked l objects) (names : All AreNamed objects) (local : open_local (program l objects) ≡ None) where
  abbrev p : Program
  p = program l objects

  abbrev S : List InputSymbol
  S = flat_map (symbols_of objects) objects

  of : IsOf p objects
  of = of_objects l objects is names

  above : All (λ (y : Object). 0 < y.input) objects
  above = rise_above 0 objects is.rise

  all_there : (x : InputSymbol) → Has S x → Has (all_symbols p) x
  all_there x has = subst (λ xs. Has xs x) (sym of.symbols_are) has

  -- an entry that an object has
  entry_there : (x : InputSymbol) → Has p.entries x → not (x.input == 0) ≡ true → Has S x × (is_entry x ≡ true)
  entry_there x has other =
      ⊎_elim (λ own. absurd (no_true (sym (ap (λ (n : ℕ). not (n == 0)) (all_has (λ (y : InputSymbol). y.input ≡ 0) (made_from 0 (made Plain)) (all_made (λ (y : InputSymbol). y.input ≡ 0) (λ place m. refl) 0 (made Plain)) x own)) ∙ other)))
      (λ rest. rest)
      (entry_from objects x (subst (λ xs. Has xs x) of.entries_are has))

  none_lost : find (is_lost_there p) (all_symbols p) ≡ None
  unfolding open_local
  none_lost = by_find (find (is_lost_there p) (all_symbols p)) local
    where
      by_find : (o : Option InputSymbol) → option_map (λ (x : InputSymbol). Unresolved (name_of x) x.input) o ≡ None → o ≡ None
      by_find None h = refl
      by_find (Some x) h = absurd cc

  -- It stands at the number of the other, and is of its name, kind and type.
  pub record StoodFor (e : InputSymbol) : Type 0 where
    pub by : InputSymbol
    pub there : Has (standing p) by
    pub at : slice_get (standing p) (symbol_number p e) ≡ Some by
    pub kind : by.symbol.kind ≡ e.symbol.kind
    pub type : by.type ≡ e.type
    pub name : name_of by ≡ name_of e

  record Found (e : InputSymbol) : Type 0 where
    item : InputSymbol
    there : Has (standing p) item
    at : slice_get (standing p) (symbol_number p e) ≡ Some item
    passes : is_for p e item ≡ true

  found : (e x : InputSymbol) → Has (standing p) x → is_for p e x ≡ true → Found e
  found e x has ok =
      let r = placed (is_for p e) (standing p) x has ok in
      let at = stands_at (is_for p e) (standing p) r.0 r.1 in
      record { item = at.item; there = has_at (standing p) r.0 at.item at.there; at = ap (λ (o : Option ℕ). slice_get (standing p) (unwrap_or o 0)) r.1 ∙ at.there; passes = at.passes }

  module _ (e : InputSymbol) (has : Has S e) (section : (kind_code e.symbol.kind == kind_code Section) ≡ false) (ref : Ref) (referred : Has (refs_of p.parts) ref) (same : ref.entry ≡ e) where
    -- ---- a local symbol

    some_named : is_some e.symbol.name ≡ true
    some_named =
        let it = origin l objects is names e has in
        let so = all_has (λ (y : Object). (size : ℕ) × Sound size y) objects is.sound it.object it.there in
        let sound : Sound so.0 it.object = so.1 in
        ap (λ (y : InputSymbol). is_some y.symbol.name) (sym it.made)
        ∙ all_has (λ (s : Symbol). is_section s.kind ≡ false → IsTrue (is_some s.name)) it.object.symbols sound.names it.symbol it.one_of
        (no_section it.symbol.kind (ap (λ (y : InputSymbol). kind_code y.symbol.kind == kind_code Section) it.made ∙ section))
      where
        no_section : (k : SymbolKind) → (kind_code k == kind_code Section) ≡ false → is_section k ≡ false
        no_section Function h = refl
        no_section Datum h = refl
        no_section GlobalVar h = refl
        no_section Section h = absurd cc
        no_section Table h = refl

    local_is : is_entry e ≡ false → is_local_definition e.symbol ≡ true
    local_is entry = by_local (is_local_definition e.symbol) (sym (ap (λ (b : Bool). b && not (is_local_definition e.symbol)) some_named) ∙ entry)
      where
        by_local : (b : Bool) → (true && not b) ≡ false → b ≡ true
        by_local true h = refl
        by_local false h = absurd (no_true (sym h))

    local_defines : is_entry e ≡ false → e.defines ≡ true
    local_defines entry = by_defines e.defines refl
      where
        by_defines : (b : Bool) → e.defines ≡ b → b ≡ true
        by_defines true d = refl
        by_defines false d =
            absurd (not_found (is_lost_there p) (all_symbols p) none_lost e (all_there e has)
            (and_from (is_lost p e) (list_any (λ (r : Ref). same_entry r.entry e) (refs_of p.parts))
            (and_from (is_local_definition e.symbol) (not e.defines) (local_is entry) (ap not d))
            (any_has (λ (r : Ref). same_entry r.entry e) (refs_of p.parts) ref referred (ap (λ x. same_entry x e) same ∙ entry_itself e))))

    local_stood : is_entry e ≡ false → StoodFor e
    local_stood entry =
        let own : Has (standing p) e =
        filter_has (stands p) (all_symbols p) e (all_there e has)
        (ap (λ (b : Bool). if b then stands_for_name p e (object_winner p (name_of e)) else (e.defines && not (is_kind Section e))) entry ∙ and_from e.defines (not (is_kind Section e)) (local_defines entry) (ap not section)) in
        let f = found e e own (is_for_local e ∙ entry_itself e) in
        let it : e ≡ f.item =
        apart_one S (apart_flat objects 0 objects is.rise) e f.item has (subst (λ xs. Has xs f.item) of.symbols_are (has_filter (stands p) (all_symbols p) f.item f.there).0) (sym (is_for_local f.item) ∙ f.passes) in
        record { by = f.item; there = f.there; at = f.at; kind = ap (λ (x : InputSymbol). x.symbol.kind) (sym it); type = ap (λ (x : InputSymbol). x.type) (sym it); name = ap name_of (sym it) }
      where
        is_for_local : (x : InputSymbol) → is_for p e x ≡ same_entry e x
        is_for_local x = ap (λ (b : Bool). if b then is_entry x && is_named (name_of e) x else same_entry e x) entry

    -- ---- an entry

    name_stands : is_entry e ≡ true → (x : InputSymbol) × Has (standing p) x × (is_for p e x ≡ true)
    name_stands entry = by_winner (object_winner p (name_of e)) refl
      where
        fits : (x : InputSymbol) → is_entry x ≡ true → is_named (name_of e) x ≡ true → is_for p e x ≡ true
        fits x ex nx = ap (λ (b : Bool). if b then is_entry x && is_named (name_of e) x else same_entry e x) entry ∙ and_from (is_entry x) (is_named (name_of e) x) ex nx

        stands_as : (x : InputSymbol) → is_entry x ≡ true → is_named (name_of e) x ≡ true → (o : Option InputSymbol) → object_winner p (name_of e) ≡ o → stands_for_name p x o ≡ true → stands p x ≡ true
        stands_as x ex nx o won told =
            ap (λ (b : Bool). if b then stands_for_name p x (object_winner p (name_of x)) else (x.defines && not (is_kind Section x))) ex
            ∙ (ap (λ n. stands_for_name p x (object_winner p n)) (name_equal (name_of x) (name_of e) nx) ∙ (ap (stands_for_name p x) won ∙ told))

        referenced : is_referenced p (name_of e) ≡ true
        referenced =
            or_right (not (length (name_references p (name_of e)) == 0)) (list_any (names_it p (name_of e)) (refs_of p.parts))
            (any_has (names_it p (name_of e)) (refs_of p.parts) ref referred
            (ap (λ x. is_entry x && is_named (name_of e) x) same ∙ and_from (is_entry e) (is_named (name_of e) e) entry (name_itself (name_of e))))

        least_of : (o : Option InputSymbol) → least_in_object p (name_of e) ≡ o → object_winner p (name_of e) ≡ None → (x : InputSymbol) × Has (standing p) x × (is_for p e x ≡ true)
        least_of None none won = absurd (not_found (λ x. not (x.input == 0) && is_named (name_of e) x) p.entries none e own_there own_passes)
          where
            own_there : Has p.entries e
            own_there = subst (λ xs. Has xs e) (sym of.entries_are) (linked_entry objects e has entry)

            own_passes : (not (e.input == 0) && is_named (name_of e) e) ≡ true
            own_passes =
                let it = origin l objects is names e has in
                let low : 0 < it.object.input = all_has (λ (y : Object). 0 < y.input) objects above it.object it.there in
                let input : it.object.input ≡ e.input = ap (λ (y : InputSymbol). y.input) it.made in
                and_from (not (e.input == 0)) (is_named (name_of e) e) (ap not (ne_eqb e.input 0 (λ z. omega (arith, z, low, input)))) (name_itself (name_of e))
        least_of (Some x) some won =
            let f = find_has (λ y. not (y.input == 0) && is_named (name_of e) y) p.entries x some in
            let t = and_parts (not (x.input == 0)) (is_named (name_of e) x) f.1 in
            let there = entry_there x f.0 t.0 in (
              x,
              filter_has (stands p) (all_symbols p) x (all_there x there.0)
                  (stands_as x there.1 t.1 None won
                  (ap (λ n. is_that x (least_in_object p n) && is_referenced p n) (name_equal (name_of x) (name_of e) t.1)
                  ∙ (ap (λ o. is_that x o && is_referenced p (name_of e)) some ∙ and_from (same_entry x x) (is_referenced p (name_of e)) (entry_itself x) referenced))),
              fits x there.1 t.1,
            )

        by_winner : (o : Option InputSymbol) → object_winner p (name_of e) ≡ o → (x : InputSymbol) × Has (standing p) x × (is_for p e x ≡ true)
        by_winner None won = least_of (least_in_object p (name_of e)) refl won
        by_winner (Some w) won =
            let f = find_has (λ x. not (x.input == 0) && is_named (name_of e) x) p.winners w won in
            let t = and_parts (not (w.input == 0)) (is_named (name_of e) w) f.1 in
            let there = entry_there w (winner_defines l objects is names w f.0).0 t.0 in
            (w, filter_has (stands p) (all_symbols p) w (all_there w there.0) (stands_as w there.1 t.1 (Some w) won (entry_itself w)), fits w there.1 t.1)

    entry_stood : is_entry e ≡ true → StoodFor e
    entry_stood entry =
        let n = name_stands entry in
        let f = found e n.0 n.1 n.2 in
        let t = and_parts (is_entry f.item) (is_named (name_of e) f.item) (sym (ap (λ (b : Bool). if b then is_entry f.item && is_named (name_of e) f.item else same_entry e f.item) entry) ∙ f.passes) in
        let named_same : name_of f.item ≡ name_of e = name_equal (name_of f.item) (name_of e) t.1 in
        let there : Has S f.item = subst (λ xs. Has xs f.item) of.symbols_are (has_filter (stands p) (all_symbols p) f.item f.there).0 in
        let one = one_type p.entries is.no_clash f.item e (subst (λ xs. Has xs f.item) (sym of.entries_are) (linked_entry objects f.item there t.0)) (subst (λ xs. Has xs e) (sym of.entries_are) (linked_entry objects e has entry)) named_same in
        record { by = f.item; there = f.there; at = f.at; kind = kinds_equal f.item.symbol.kind e.symbol.kind one.0; type = one.1; name = named_same }

    -- Each symbol of an object that a part refers to has one that stands for it.
    pub stood_for : StoodFor e
    stood_for = by_entry (is_entry e) refl
      where
        by_entry : (b : Bool) → is_entry e ≡ b → StoodFor e
        by_entry true entry = entry_stood entry
        by_entry false entry = local_stood entry

  -- ---- what windows name

  -- A symbol of an object, of a kind that the window's type names; a table is the one of functions.
  pub record NamedWell (ref : Ref) : Type 0 where
    pub there : Has S ref.entry
    pub may : may_name ref.kind ref.entry.symbol.kind ≡ true
    pub table : ref.kind ≡ TABLE_NUMBER_LEB → is_table_name ref.entry.symbol.name ≡ true
    pub section : (kind_code ref.entry.symbol.kind == kind_code Section) ≡ false

  by_symbol : (o : Object) → Has objects o → (place kind symbol : ℕ) (addend : ℤ) (ref : Ref) → IsNamedBy kind (slice_get o.symbols symbol) → ((k : SymbolKind) → may_name kind k ≡ true → (kind_code k == kind_code Section) ≡ false)
      → option_map a_symbol (ref_to place kind addend (slice_get (res l objects o).symbols symbol) (slice_get (res l objects o).meanings symbol)) ≡ Some (a_symbol ref) → NamedWell ref
  by_symbol o ho place kind symbol addend ref named section told =
      let t = ref_told place kind addend (slice_get (symbols_of objects o) symbol) (slice_get (res l objects o).meanings symbol) ref (symbol_told (ref_to place kind addend (slice_get (symbols_of objects o) symbol) (slice_get (res l objects o).meanings symbol)) ref told) in
      let at : slice_get o.symbols symbol ≡ Some ref.entry.symbol = symbol_at objects o 0 o.symbols symbol ref.entry t.0 in
      let n = subst (IsNamedBy kind) at named in
      let may : may_name ref.kind ref.entry.symbol.kind ≡ true = ap (λ k. may_name k ref.entry.symbol.kind) t.1 ∙ n.0 in
      record {
        there = flat_has (symbols_of objects) objects o ref.entry ho (has_at (symbols_of objects o) symbol ref.entry t.0);
        may = may;
        table = λ e. n.1 (sym t.1 ∙ e);
        section = section ref.entry.symbol.kind n.0;
      }

  pub code_named : (x : Part) → Has (kept p 0) x → (ref : Ref) → Has x.named (a_symbol ref) → NamedWell ref
  code_named x has ref hr =
      let o = of_function l objects is.strict above x has in
      let so = all_has (λ (y : Object). (size : ℕ) × Sound size y) objects is.sound o.object o.there in
      let it : Sound so.0 o.object = so.1 in
      let told = all_has (OperandNames o.object) o.definition.operands (all_has (λ (f : FunctionDef). All (OperandNames o.object) f.operands) o.object.functions it.operand_names o.definition (has_at o.object.functions o.place o.definition o.at)) in
      let h = has_pick (λ op. operand_named (res l objects o.object) op) o.definition.operands (a_symbol ref) (subst (λ (y : Part). Has y.named (a_symbol ref)) (sym o.is) hr) in
      by_operand o.object o.there h.0 (told h.0 h.1) h.2
    where
      by_operand : (o : Object) → Has objects o → (op : Operand) → OperandNames o op → operand_named (res l objects o) op ≡ Some (a_symbol ref) → NamedWell ref
      by_operand o ho operands.Number named told = absurd cc
      by_operand o ho (operands.Symbol kind place symbol addend) named told = by_symbol o ho place kind symbol addend ref named.1 (code_section kind named.0) told
      by_operand o ho (operands.TypeRef place index) named told = absurd cc
      by_operand o ho operands.TableZero named told = absurd cc

  pub data_named : (x : Part) → Has (kept p 1) x → (ref : Ref) → Has x.named (a_symbol ref) → NamedWell ref
  data_named x has ref hr =
      let o = of_segment l objects is.strict above x has in
      let so = all_has (λ (y : Object). (size : ℕ) × Sound size y) objects is.sound o.object o.there in
      let it : Sound so.0 o.object = so.1 in
      let told = all_has (WindowNames o.object) o.definition.windows (all_has (λ (g : SegmentDef). All (WindowNames o.object) g.windows) o.object.segments it.window_names o.definition (has_at o.object.segments o.place o.definition o.at)) in
      let h = has_pick (λ w. window_named (res l objects o.object) w) o.definition.windows (a_symbol ref) (subst (λ (y : Part). Has y.named (a_symbol ref)) (sym o.is) hr) in
      let n = told h.0 h.1 in
      by_symbol o.object o.there h.0.offset h.0.kind h.0.index h.0.addend ref n.1 (data_section h.0.kind n.0) h.2

  -- windows of segments name no types
  pub no_types : (x : Part) → Has (kept p 1) x → (w : TypeWindow) → Has x.named (a_type w) → ⊥
  no_types x has w hw =
      let o = of_segment l objects is.strict above x has in
      let h = has_pick (λ y. window_named (res l objects o.object) y) o.definition.windows (a_type w) (subst (λ (y : Part). Has y.named (a_type w)) (sym o.is) hw) in
      by_option (ref_to h.0.offset h.0.kind h.0.addend (slice_get (res l objects o.object).symbols h.0.index) (slice_get (res l objects o.object).meanings h.0.index)) h.2
    where
      by_option : (o : Option Ref) → option_map a_symbol o ≡ Some (a_type w) → ⊥
      by_option None e = absurd cc
      by_option (Some r) e = absurd cc

  part_referred : (k : ℕ) (x : Part) → Has (kept p k) x → (ref : Ref) → Has x.named (a_symbol ref) → Has (refs_of p.parts) ref
  part_referred k x has ref hr = flat_has refs p.parts x ref (has_filter (λ (part : Part). is_object_part part && (part.chunk.kind == k)) p.parts x has).0 (pick_has named_ref x.named (a_symbol ref) ref hr refl)

  pub window_stood : (k : ℕ) (x : Part) → Has (kept p k) x → (ref : Ref) → Has x.named (a_symbol ref) → NamedWell ref → StoodFor ref.entry
  window_stood k x has ref hr n = stood_for ref.entry n.there n.section ref (part_referred k x has ref hr) refl

  -- ---- init functions

  call_referred : (c : InitCall) → Has (flat_map init_calls_in p.resolved) c → Has (refs_of p.parts) c.ref
  unfolding init_calls
  call_referred c has =
      flat_has refs p.parts own c.ref (subst (λ xs. Has xs own) (sym (parts_are l objects is.strict)) (has_left (own_parts l objects) (flat_map (object_parts l objects) objects) own (inl refl)))
      (named_has (init_calls p.resolved) c.ref (map_has (λ (d : InitCall). d.ref) (by_priority (flat_map init_calls_in p.resolved)) c (has_sorted (flat_map init_calls_in p.resolved) c has)))
    where
      own : Part
      own = own_part (init_calls p.resolved) (made_entry 0 (made_at Plain 0)) (made_at Plain 0) 0

      named_has : (xs : List Ref) (r : Ref) → Has xs r → Has (filter_map named_ref (map a_symbol xs)) r
      named_has [] r h = absurd h
      named_has (x ∷ xs) r (inl e) = inl e
      named_has (x ∷ xs) r (inr h) = inr (named_has xs r h)

  -- what it calls, in an object
  pub record CallOf (c : InitCall) : Type 0 where
    pub object : Object
    pub there : Has objects object
    pub function : InitFunc
    pub one_of : Has object.inits function
    pub symbol : slice_get (symbols_of objects object) function.symbol ≡ Some c.ref.entry
    pub sound : IsInit object (Some c.ref.entry.symbol)

  pub call_of : (c : InitCall) → Has (flat_map init_calls_in p.resolved) c → CallOf c
  call_of c has =
      let in_objects : Has (flat_map (λ o. init_calls_in (res l objects o)) objects) c = subst (λ xs. Has xs c) (ap (flat_map init_calls_in) (resolved_are l objects) ∙ flat_of_map (λ o. res l objects o) init_calls_in objects) has in
      let f = has_flat (λ o. init_calls_in (res l objects o)) objects c in_objects in
      let g = has_filter (λ (d : InitCall). not (is_skipped d)) (filter_map (init_call (res l objects f.0)) f.0.inits) c f.2 in
      let h = has_pick (init_call (res l objects f.0)) f.0.inits c g.0 in
      let t = by_option (ref_to 0 0 (pos 0) (slice_get (symbols_of objects f.0) h.0.symbol) (slice_get (res l objects f.0).meanings h.0.symbol)) h.0.priority h.2 in
      let told = ref_told 0 0 (pos 0) (slice_get (symbols_of objects f.0) h.0.symbol) (slice_get (res l objects f.0).meanings h.0.symbol) c.ref t in
      let so = all_has (λ (y : Object). (size : ℕ) × Sound size y) objects is.sound f.0 f.1 in
      let sound : Sound so.0 f.0 = so.1 in
      let init = all_has (λ (i : InitFunc). IsInit f.0 (slice_get f.0.symbols i.symbol)) f.0.inits sound.inits h.0 h.1 in
      record { object = f.0; there = f.1; function = h.0; one_of = h.1; symbol = told.0; sound = subst (IsInit f.0) (symbol_at objects f.0 0 f.0.symbols h.0.symbol c.ref.entry told.0) init }
    where
      by_option : (o : Option Ref) (priority : ℕ) → option_map (λ ref. record { priority = priority; ref = ref }) o ≡ Some c → o ≡ Some c.ref
      by_option None priority e = absurd cc
      by_option (Some r) priority e = ap (λ (d : InitCall). Some d.ref) (some_is (record { priority = priority; ref = r }) c e)

  pub call_stood : (c : InitCall) → Has (flat_map init_calls_in p.resolved) c → StoodFor c.ref.entry
  call_stood c has =
      let o = call_of c has in
      stood_for c.ref.entry (flat_has (symbols_of objects) objects o.object c.ref.entry o.there (has_at (symbols_of objects o.object) o.function.symbol c.ref.entry o.symbol)) (function_only c.ref.entry.symbol.kind o.sound.0) c.ref (call_referred c has) refl
    where
      function_only : (k : SymbolKind) → IsTrue (is_function_kind k) → (kind_code k == kind_code Section) ≡ false
      function_only Function h = refl
      function_only Datum h = refl
      function_only GlobalVar h = refl
      function_only Section h = absurd (no_true h)
      function_only Table h = refl
