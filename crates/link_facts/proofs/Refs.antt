-- Each reference names what is there.
use Rattle.std.proofs.Common.{◌≡◌, ℕ, ◌+◌, List, [], ◌∷◌, Option, Some, None, Bool, true, false, refl, sym, ap, ◌∙◌, subst, inl, inr, ⊎_elim, arith}
use Rattle.std.specs.Prelude.{◌⊎◌, not, slice_get, filter_map, flat_map, cond, option_map, nat_le, IsTrue, ℤ, pos}
use Rattle.std.proofs.lemmas.Option.{slice_get-map}
use Rattle.std.proofs.lemmas.Bool.{false≢true}
use Rattle.list_places.specs.Has.{Has}
use Rattle.list_places.proofs.Lists.{has_at, has_filter, has_flat, has_map, has_pick, some_is, all_has}
use Rattle.linking_section.specs.declared.symbol.Symbol.{Symbol}
use Rattle.linking_section.specs.declared.symbol.SymbolKind.{SymbolKind}
use Rattle.linking_section.specs.declared.symbol.SymbolKind.TheVariants.{Function, Datum, GlobalVar, Section, Table}
use Rattle.linking_section.specs.declared.init.InitFunc.{InitFunc}
use Rattle.body_windows.specs.declared.operand.Operand.{Operand}
use Rattle.body_windows.specs.declared.operand.Operand.TheVariants as operands
use Rattle.reloc_section.specs.declared.entry.Reloc.{Reloc}
use Rattle.object_rules.specs.Relocs.{may_name}
use Rattle.object_rules.specs.Metadata.{is_function_kind}
use Rattle.object_file.specs.declared.object.Object.{Object}
use Rattle.object_file.specs.Sound.{Sound as ObjectSound, OperandNames, WindowNames, IsNamedBy, IsInit, is_data_type}
use Rattle.made_symbols.specs.declared.mode.Mode.TheVariants.{Plain}
use Rattle.name_rules.specs.Entries.{InputSymbol, entry_in, symbols_of, entries}
use Rattle.name_rules.specs.Meanings.{Meaning, Resolved, resolved_in, meaning, no_uses}
use Rattle.output_module.specs.link_rules.Program.{Part, Ref, refs, Named, a_symbol, a_type, named_ref, ref_to, ref_in, operand_named, window_named, InitCall, init_call, init_calls_in, init_calls, insert_call, by_priority, is_skipped}
use Rattle.link_facts.proofs.Symbols.{symbol_at}

-- A reference to a symbol of an object, by its place there.
pub record IsRef (allow : Bool) (objects : List Object) (o : Object) (kind place : ℕ) (ref : Ref) : Type 0 where
  pub symbol : Symbol
  pub there : slice_get o.symbols place ≡ Some symbol
  pub entry : ref.entry ≡ entry_in objects o place symbol
  pub listed : Has (symbols_of objects o) ref.entry
  pub meant : ref.meaning ≡ meaning Plain no_uses allow (entries Plain objects) ref.entry
  pub kind_is : ref.kind ≡ kind

-- A reference, and the place of its symbol, which is of a kind that the reference's type names: a call, of the kind 0, names a function.
pub record Names (allow : Bool) (objects : List Object) (o : Object) (ref : Ref) : Type 0 where
  pub kind : ℕ
  pub place : ℕ
  pub is : IsRef allow objects o kind place ref
  pub asked : IsTrue (may_name kind is.symbol.kind)
  pub function : kind ≡ 0 → is.symbol.kind ≡ Function

module _ (allow : Bool) (objects : List Object) (o : Object) where
  abbrev res : Resolved
  res = resolved_in Plain no_uses allow (entries Plain objects) objects o

  abbrev mean : InputSymbol → Meaning
  mean = meaning Plain no_uses allow (entries Plain objects)

  pub ref_is : (place kind symbol : ℕ) (addend : ℤ) (ref : Ref) → ref_in res place kind symbol addend ≡ Some ref → IsRef allow objects o kind symbol ref
  ref_is place kind symbol addend ref h = by_entry (slice_get (symbols_of objects o) symbol) refl (subst (λ m. ref_to place kind addend (slice_get (symbols_of objects o) symbol) m ≡ Some ref) (slice_get-map mean (symbols_of objects o) symbol) h)
    where
      by_entry : (x : Option InputSymbol) → slice_get (symbols_of objects o) symbol ≡ x → ref_to place kind addend x (option_map mean x) ≡ Some ref → IsRef allow objects o kind symbol ref
      by_entry None q h = absurd (grind arith)
      by_entry (Some e) q h =
          let r = some_is (record { place = place; kind = kind; addend = addend; entry = e; meaning = mean e }) ref h in
          let s = symbol_at objects o 0 o.symbols symbol e q in
          let z : 0 + symbol ≡ symbol = omega arith in
          let en : e ≡ ref.entry = ap (λ (w : Ref). w.entry) r in
          record {
            symbol = s.0;
            there = s.1;
            entry = sym en ∙ s.2 ∙ ap (λ n. entry_in objects o n s.0) z;
            listed = subst (Has (symbols_of objects o)) en (has_at (symbols_of objects o) symbol e q);
            meant = sym (ap (λ (w : Ref). w.meaning) r) ∙ ap mean en;
            kind_is = sym (ap (λ (w : Ref). w.kind) r);
          }

  -- ---- what windows and init entries name

  symbol_there : (P : Option Symbol → Type 0) (place : ℕ) (s : Symbol) → slice_get o.symbols place ≡ Some s → P (slice_get o.symbols place) → P (Some s)
  symbol_there P place s h p = subst P h p

  calls_function : (kind : ℕ) (k : SymbolKind) → IsTrue (may_name kind k) → kind ≡ 0 → k ≡ Function
  calls_function kind k t z = by_kind k (subst (λ n. IsTrue (may_name n k)) z t)
    where
      by_kind : (k : SymbolKind) → IsTrue (may_name 0 k) → k ≡ Function
      by_kind Function t = refl
      by_kind Datum t = absurd (false≢true t)
      by_kind GlobalVar t = absurd (false≢true t)
      by_kind Section t = absurd (false≢true t)
      by_kind Table t = absurd (false≢true t)

  pub operand_names : (x : Operand) (ref : Ref) → OperandNames o x → operand_named res x ≡ Some (a_symbol ref) → Names allow objects o ref
  operand_names operands.Number ref n h = absurd (grind arith)
  operand_names (operands.TypeRef place index) ref n h = absurd (grind arith)
  operand_names operands.TableZero ref n h = absurd (grind arith)
  operand_names (operands.Symbol kind place symbol addend) ref n h =
      let r = ref_is place kind symbol addend ref (symbol_ref (ref_in res place kind symbol addend) h) in
      let t = (symbol_there (IsNamedBy kind) symbol r.symbol r.there n.1).0 in
      record { kind = kind; place = symbol; is = r; asked = t; function = calls_function kind r.symbol.kind t }
    where
      symbol_ref : (x : Option Ref) → option_map a_symbol x ≡ Some (a_symbol ref) → x ≡ Some ref
      symbol_ref None h = absurd (grind arith)
      symbol_ref (Some y) h = grind arith

  -- no window of data is a call, and none reads a cell
  pub window_names : (w : Reloc) (ref : Ref) → WindowNames o w → window_named res w ≡ Some (a_symbol ref) → Names allow objects o ref × (ref.kind ≡ 7 → ⊥)
  window_names w ref n h =
      let r = ref_is w.offset w.kind w.index w.addend ref (symbol_ref (ref_in res w.offset w.kind w.index w.addend) h) in
      let t = (symbol_there (IsNamedBy w.kind) w.index r.symbol r.there n.1).0 in (
        record { kind = w.kind; place = w.index; is = r; asked = t; function = calls_function w.kind r.symbol.kind t },
        λ z. false≢true (subst (λ k. IsTrue (is_data_type k)) (sym r.kind_is ∙ z) n.0),
      )
    where
      symbol_ref : (x : Option Ref) → option_map a_symbol x ≡ Some (a_symbol ref) → x ≡ Some ref
      symbol_ref None h = absurd (grind arith)
      symbol_ref (Some y) h = grind arith

  init_names : (i : InitFunc) (c : InitCall) → IsInit o (slice_get o.symbols i.symbol) → init_call res i ≡ Some c → Names allow objects o c.ref
  init_names i c n h =
      let r = ref_is 0 0 i.symbol (pos 0) c.ref (call_ref (ref_in res 0 0 i.symbol (pos 0)) h) in
      let f = by_kind r.symbol.kind (symbol_there (IsInit o) i.symbol r.symbol r.there n).0 in
      record { kind = 0; place = i.symbol; is = r; asked = ap (may_name 0) f; function = λ _. f }
    where
      call_ref : (x : Option Ref) → option_map (λ ref. record { priority = i.priority; ref = ref }) x ≡ Some c → x ≡ Some c.ref
      call_ref None h = absurd (grind arith)
      call_ref (Some y) h = ap Some (ap (λ (z : InitCall). z.ref) (some_is (record { priority = i.priority; ref = y }) c h))

      by_kind : (k : SymbolKind) → IsTrue (is_function_kind k) → k ≡ Function
      by_kind Function t = refl
      by_kind Datum t = absurd (false≢true t)
      by_kind GlobalVar t = absurd (false≢true t)
      by_kind Section t = absurd (false≢true t)
      by_kind Table t = absurd (false≢true t)

  pub inits_name : (size : ℕ) → ObjectSound size o → (c : InitCall) → Has (init_calls_in res) c → Names allow objects o c.ref × (c.ref.kind ≡ 0)
  inits_name size sound c h =
      let f = has_filter (λ c. not (is_skipped c)) (filter_map (init_call res) o.inits) c h in
      let q = has_pick (init_call res) o.inits c f.0 in
      let n = init_names q.0 c (all_has (λ (i : InitFunc). IsInit o (slice_get o.symbols i.symbol)) o.inits sound.inits q.0 q.1) q.2 in
      (n, n.is.kind_is ∙ kind_zero q.0 c q.2 n)
    where
      kind_zero : (i : InitFunc) (c : InitCall) → init_call res i ≡ Some c → (n : Names allow objects o c.ref) → n.kind ≡ 0
      kind_zero i c h n = sym n.is.kind_is ∙ (ref_is 0 0 i.symbol (pos 0) c.ref (call_ref (ref_in res 0 0 i.symbol (pos 0)) h)).kind_is
        where
          call_ref : (x : Option Ref) → option_map (λ ref. record { priority = i.priority; ref = ref }) x ≡ Some c → x ≡ Some c.ref
          call_ref None h = absurd (grind arith)
          call_ref (Some y) h = ap Some (ap (λ (z : InitCall). z.ref) (some_is (record { priority = i.priority; ref = y }) c h))

-- ---- calls by priority are those of the list

insert_has : (c : InitCall) (ds : List InitCall) (x : InitCall) → Has (insert_call c ds) x → (c ≡ x) ⊎ Has ds x
insert_has c [] x (inl e) = inl e
insert_has c [] x (inr h) = absurd h
insert_has c (d ∷ ds) x h = onto (nat_le c.priority d.priority) h (insert_has c ds x)
  where
    onto : (b : Bool) → Has (cond b (c ∷ d ∷ ds) (d ∷ insert_call c ds)) x → (Has (insert_call c ds) x → (c ≡ x) ⊎ Has ds x) → (c ≡ x) ⊎ Has (d ∷ ds) x
    onto true h again = h
    onto false (inl e) again = inr (inl e)
    onto false (inr h) again = ⊎_elim inl (λ k. inr (inr k)) (again h)

priority_has : (cs : List InitCall) (x : InitCall) → Has (by_priority cs) x → Has cs x
priority_has [] x h = h
priority_has (c ∷ cs) x h = ⊎_elim inl (λ k. inr (priority_has cs x k)) (insert_has c (by_priority cs) x h)

pub calls_are : (rs : List Resolved) (ref : Ref) → Has (init_calls rs) ref → (r : Resolved) × Has rs r × (c : InitCall) × Has (init_calls_in r) c × (c.ref ≡ ref)
unfolding init_calls
calls_are rs ref h =
    let m = has_map (λ (c : InitCall). c.ref) (by_priority (flat_map init_calls_in rs)) ref h in
    let f = has_flat init_calls_in rs m.0 (priority_has (flat_map init_calls_in rs) m.0 m.1) in
    (f.0, f.1, m.0, f.2, m.2)

-- ---- what references name

pub refs_named : (part : Part) (ref : Ref) → Has (refs part) ref → Has part.named (a_symbol ref)
refs_named part ref h = let q = has_pick named_ref part.named ref h in subst (Has part.named) (symbol_is q.0 q.2) q.1
  where
    symbol_is : (n : Named) → named_ref n ≡ Some ref → n ≡ a_symbol ref
    symbol_is (a_symbol r) h = ap a_symbol (some_is r ref h)
    symbol_is (a_type w) h = absurd (grind arith)
