-- The relocations of a program's relocatable object are known, and their numbers in range.
use Rattle.std.proofs.Common.{◌≡◌, ℕ, ◌+◌, ◌<◌, ◌≤◌, ◌^◌, ◌==◌, true, false, ◌||◌, List, [], ◌∷◌, ◌++◌, length, ⊎_elim, refl, sym, ap, ◌∙◌, subst, arith}
use Rattle.std.specs.Prelude.{Some, flat_map, slice_get, All, ℤ, pos, neg_ℤ, ◌≤ℤ◌, ◌<ℤ◌}
use Rattle.std.proofs.lemmas.Bool.{eqb-true, or_cases}
use Rattle.std.proofs.lemmas.Int.{ints}
use Rattle.std.proofs.lemmas.List.{length-append}
use Rattle.list_places.specs.Has.{Has}
use Rattle.list_places.proofs.Lists.{all_has, has_at, has_map, has_pick, some_is}
use Rattle.object_rules.specs.reloc_section.Kinds.{is_read, has_addend}
use Rattle.name_rules.specs.object_file.reloc_section.declared.entry.Reloc.{Reloc}
use Rattle.name_rules.specs.object_file.reloc_section.declared.kinds.TheConstants as relocs
use Rattle.name_rules.specs.object_file.body_windows.declared.operand.Operand.{Operand}
use Rattle.name_rules.specs.object_file.body_windows.declared.operand.Operand.TheVariants as operands
use Rattle.name_rules.specs.object_file.object_columns.declared.functions.FunctionDef.{FunctionDef}
use Rattle.name_rules.specs.object_file.declared.object.Object.{Object}
use Rattle.object_file.specs.Sound.{Sound, is_code_type, OperandNames}
use Rattle.name_rules.specs.object_file.Spaces.{written_type}
use Rattle.object_file.specs.Spellable as spellable
use Rattle.image_emit.specs.Bytes.{vector}
use Rattle.link_rules.specs.Program.{Program, Part, Ref, Named, ref_to, operand_named, window_named}
use Rattle.partial_rules.specs.Relocatable.{Relocatable, Windowed, body, body_head, segment, segment_head, later, section_relocs, relocatable_bytes}
use Rattle.partial_rules.specs.Partial.{kept, named_reloc, windowed, relocatable}
use Rattle.partial_rules.specs.WellFormed.{IsReloc}
use Rattle.partial_rules.specs.Sections.{raws_bytes, behind_code, behind_data}
use Rattle.object_file.specs.leb_codec.Shortest.{u32}
use Rattle.partial_laws.proofs.Instance.{all_from_has}
use Rattle.partial_laws.proofs.Loading.{rise_above}
use Rattle.partial_parts_laws.specs.Linked.{Linked, program}
use Rattle.partial_parts_laws.specs.ReadBack.{AreLinked}
use Rattle.partial_parts_laws.specs.SymbolsBack.{AreNamed}
use Rattle.partial_parts_laws.specs.RelocsFit.{HaveAddends, RelocsFit}
use Rattle.partial_parts_laws.proofs.Parts.{res}
use Rattle.partial_parts_laws.proofs.Sectioned.{stands_in, before_code, before_data}
use Rattle.partial_parts_laws.proofs.KeptParts.{of_function as function_of, of_segment as segment_of}
use Rattle.partial_parts_laws.proofs.RelocRules.{from_has}
use Rattle.partial_parts_laws.proofs.WindowRules.{LieApart, apart_has, section_apart, made_symbol, bodies_apart, segments_apart}
use Rattle.partial_parts_laws.proofs.NumbersFit.{types_low, symbols_low}
use Rattle.partial_parts_laws.proofs.Stood.{ref_told}

-- types that stand in code are read
code_read : (kind : ℕ) → is_code_type kind ≡ true → is_read kind ≡ true
code_read kind e = ⊎_elim (λ a. ⊎_elim (λ b. ⊎_elim (λ c. ⊎_elim (λ d. ⊎_elim (λ f. ⊎_elim (λ g. ⊎_elim
    (λ h. ap is_read (eqb-true kind relocs.FUNCTION_INDEX_LEB h))
    (λ h. ap is_read (eqb-true kind relocs.TABLE_INDEX_SLEB h)) (or_cases (kind == relocs.FUNCTION_INDEX_LEB) (kind == relocs.TABLE_INDEX_SLEB) g))
    (λ h. ap is_read (eqb-true kind relocs.MEMORY_ADDR_LEB h)) (or_cases ((kind == relocs.FUNCTION_INDEX_LEB) || (kind == relocs.TABLE_INDEX_SLEB)) (kind == relocs.MEMORY_ADDR_LEB) f))
    (λ h. ap is_read (eqb-true kind relocs.MEMORY_ADDR_SLEB h)) (or_cases ((kind == relocs.FUNCTION_INDEX_LEB) || (kind == relocs.TABLE_INDEX_SLEB) || (kind == relocs.MEMORY_ADDR_LEB)) (kind == relocs.MEMORY_ADDR_SLEB) d))
    (λ h. ap is_read (eqb-true kind relocs.GLOBAL_INDEX_LEB h)) (or_cases ((kind == relocs.FUNCTION_INDEX_LEB) || (kind == relocs.TABLE_INDEX_SLEB) || (kind == relocs.MEMORY_ADDR_LEB) || (kind == relocs.MEMORY_ADDR_SLEB)) (kind == relocs.GLOBAL_INDEX_LEB) c))
    (λ h. ap is_read (eqb-true kind relocs.MEMORY_ADDR_REL_SLEB h)) (or_cases ((kind == relocs.FUNCTION_INDEX_LEB) || (kind == relocs.TABLE_INDEX_SLEB) || (kind == relocs.MEMORY_ADDR_LEB) || (kind == relocs.MEMORY_ADDR_SLEB) || (kind == relocs.GLOBAL_INDEX_LEB)) (kind == relocs.MEMORY_ADDR_REL_SLEB) b))
    (λ h. ap is_read (eqb-true kind relocs.TABLE_INDEX_REL_SLEB h)) (or_cases ((kind == relocs.FUNCTION_INDEX_LEB) || (kind == relocs.TABLE_INDEX_SLEB) || (kind == relocs.MEMORY_ADDR_LEB) || (kind == relocs.MEMORY_ADDR_SLEB) || (kind == relocs.GLOBAL_INDEX_LEB) || (kind == relocs.MEMORY_ADDR_REL_SLEB)) (kind == relocs.TABLE_INDEX_REL_SLEB) a))
    (λ h. ap is_read (eqb-true kind relocs.TABLE_NUMBER_LEB h))
    (or_cases ((kind == relocs.FUNCTION_INDEX_LEB) || (kind == relocs.TABLE_INDEX_SLEB) || (kind == relocs.MEMORY_ADDR_LEB) || (kind == relocs.MEMORY_ADDR_SLEB) || (kind == relocs.GLOBAL_INDEX_LEB) || (kind == relocs.MEMORY_ADDR_REL_SLEB) || (kind == relocs.TABLE_INDEX_REL_SLEB)) (kind == relocs.TABLE_NUMBER_LEB) e)

-- What is asked of a relocation but for its place.
record IsKnown (x : Reloc) : Type 0 where
  kind : is_read x.kind ≡ true
  index : x.index < 2 ^ 32
  low : neg_ℤ (pos (2 ^ 31)) ≤ℤ x.addend
  high : x.addend <ℤ pos (2 ^ 31)
  none : has_addend x.kind ≡ false → x.addend ≡ pos 0

placed_too : (x : Reloc) (by : ℕ) → IsKnown x → by + x.offset < 2 ^ 32 → IsReloc (later by x)
placed_too x by k low = record { kind = k.kind; offset = low; index = k.index; low = k.low; high = k.high; none = k.none }

module _ (r : Relocatable) (short : length (relocatable_bytes r) ≤ 2 ^ 30) where
  data_low : (x : Reloc) (ws : List Windowed) → r.segments ≡ ws → ((w : Windowed) → Has r.segments w → LieApart 4 0 (length w.bytes) w.relocs) → Has (section_relocs segment_head r.segments) x → x.offset < 2 ^ 32
  data_low x [] none lie has = absurd (subst (λ vs. Has (section_relocs segment_head vs) x) none has)
  data_low x (w ∷ ws) some lie has =
      let b = before_data r in
      let s = stands_in 11 segment r.segments w ws b.0 (behind_data r) (relocatable_bytes r) some b.1 in
      let inside = apart_has 4 0 (length (vector segment r.segments)) (section_relocs segment_head r.segments) (section_apart r segment_head 4 r.segments lie) x has in
      omega (arith, inside, s.to, short, ap (λ (bs : List ℕ). length bs) s.are, length-append s.front (flat_map segment r.segments ++ raws_bytes (behind_data r)), length-append (flat_map segment r.segments) (raws_bytes (behind_data r)))

  code_low : (x : Reloc) (ws : List Windowed) → r.bodies ≡ ws → ((w : Windowed) → Has r.bodies w → LieApart 5 0 (length w.bytes) w.relocs) → Has (section_relocs body_head r.bodies) x → x.offset < 2 ^ 32
  code_low x [] none lie has = absurd (subst (λ vs. Has (section_relocs body_head vs) x) none has)
  code_low x (w ∷ ws) some lie has =
      let b = before_code r in
      let s = stands_in 10 body r.bodies w ws b.0 (behind_code r) (relocatable_bytes r) some b.1 in
      let inside = apart_has 5 0 (length (vector body r.bodies)) (section_relocs body_head r.bodies) (section_apart r body_head 5 r.bodies lie) x has in
      omega (arith, inside, s.to, short, ap (λ (bs : List ℕ). length bs) s.are, length-append s.front (flat_map body r.bodies ++ raws_bytes (behind_code r)), length-append (flat_map body r.bodies) (raws_bytes (behind_code r)))

module _ (l : Linked) (objects : List Object) (is : AreLinked l objects) (names : All AreNamed objects) (spellable_all : All spellable.IsSpellable objects) (short : length (relocatable_bytes (relocatable (program l objects))) ≤ 2 ^ 30) where
  abbrev p : Program
  p = program l objects

  above : All (λ (y : Object). 0 < y.input) objects
  above = rise_above 0 objects is.rise

  spelled_of : (o : Object) → Has objects o → spellable.IsSpellable o
  spelled_of o ho = all_has spellable.IsSpellable objects spellable_all o ho

  -- ---- data

  data_known : (x : Part) → Has (kept p 1) x → (n : Named) → Has x.named n → IsKnown (named_reloc p n)
  data_known x has n hn =
      let o = segment_of l objects is.strict above x has in
      let h = has_pick (λ w. window_named (res l objects o.object) w) o.definition.windows n (subst (λ (y : Part). Has y.named n) (sym o.is) hn) in
      let w : Reloc = h.0 in
      let one = all_has spellable.IsReloc o.definition.windows (all_has spellable.IsSegment o.object.segments (spelled_of o.object o.there).segments o.definition (has_at o.object.segments o.place o.definition o.at)).windows w h.1 in
      let m = made_symbol (ref_to w.offset w.kind w.addend (slice_get (res l objects o.object).symbols w.index) (slice_get (res l objects o.object).meanings w.index)) n h.2 in
      let t = ref_told w.offset w.kind w.addend (slice_get (res l objects o.object).symbols w.index) (slice_get (res l objects o.object).meanings w.index) m.0 m.1 in
      let ref : Ref = m.0 in
      subst (λ y. IsKnown (named_reloc p y)) (sym m.2) (record {
        kind = ap is_read t.1 ∙ one.kind;
        index = symbols_low l objects is names spellable_all short ref.entry;
        low = subst (λ z. neg_ℤ (pos (2 ^ 31)) ≤ℤ z) (sym t.3) one.addend.0;
        high = subst (λ z. z <ℤ pos (2 ^ 31)) (sym t.3) one.addend.1;
        none = λ e. t.3 ∙ one.none (ap has_addend (sym t.1) ∙ e);
      })

  in_data : All IsReloc (section_relocs segment_head (relocatable p).segments)
  unfolding relocatable
  in_data =
      all_from_has IsReloc (section_relocs segment_head (relocatable p).segments)
      (λ x has.
      let o = from_has segment_head (length (u32 (length (relocatable p).segments))) (relocatable p).segments x has in
      let m = has_map (λ part. windowed p part) (kept p 1) o.whole o.there in
      let n = has_map (named_reloc p) m.0.named o.own (subst (λ (w : Windowed). Has w.relocs o.own) (sym m.2) o.one_of) in
      let low : (later o.by o.own).offset < 2 ^ 32 = subst (λ (y : Reloc). y.offset < 2 ^ 32) (sym o.is) (data_low (relocatable p) short x (relocatable p).segments refl (segments_apart l objects is) has) in
      subst IsReloc o.is (placed_too o.own o.by (subst IsKnown n.2 (data_known m.0 m.1 n.0 n.1)) low))

  -- ---- code

  code_known : HaveAddends objects → (x : Part) → Has (kept p 0) x → (n : Named) → Has x.named n → IsKnown (named_reloc p n)
  code_known addends x has n hn =
      let o = function_of l objects is.strict above x has in
      let so = all_has (λ (y : Object). (size : ℕ) × Sound size y) objects is.sound o.object o.there in
      let it : Sound so.0 o.object = so.1 in
      let hf = has_at o.object.functions o.place o.definition o.at in
      let told = all_has (OperandNames o.object) o.definition.operands (all_has (λ (f : FunctionDef). All (OperandNames o.object) f.operands) o.object.functions it.operand_names o.definition hf) in
      let one = all_has spellable.IsOperand o.definition.operands (all_has spellable.IsFunction o.object.functions (spelled_of o.object o.there).functions o.definition hf).operands in
      let h = has_pick (λ op. operand_named (res l objects o.object) op) o.definition.operands n (subst (λ (y : Part). Has y.named n) (sym o.is) hn) in
      by_operand o.object h.0 (told h.0 h.1) (one h.0 h.1) (λ kind place symbol addend e. addends o.object o.there o.definition hf kind place symbol addend (subst (Has o.definition.operands) e h.1)) h.2
    where
      by_operand : (o : Object) (op : Operand) → OperandNames o op → spellable.IsOperand op → ((kind place symbol : ℕ) (addend : ℤ) → op ≡ operands.Symbol kind place symbol addend → has_addend kind ≡ false → addend ≡ pos 0)
          → operand_named (res l objects o) op ≡ Some n → IsKnown (named_reloc p n)
      by_operand o operands.Number named one none e = absurd cc
      by_operand o (operands.Symbol kind place symbol addend) named one none e =
          let m = made_symbol (ref_to place kind addend (slice_get (res l objects o).symbols symbol) (slice_get (res l objects o).meanings symbol)) n e in
          let t = ref_told place kind addend (slice_get (res l objects o).symbols symbol) (slice_get (res l objects o).meanings symbol) m.0 m.1 in
          let ref : Ref = m.0 in
          subst (λ y. IsKnown (named_reloc p y)) (sym m.2) (record {
            kind = ap is_read t.1 ∙ code_read kind named.0;
            index = symbols_low l objects is names spellable_all short ref.entry;
            low = subst (λ z. neg_ℤ (pos (2 ^ 31)) ≤ℤ z) (sym t.3) one.1.0;
            high = subst (λ z. z <ℤ pos (2 ^ 31)) (sym t.3) one.1.1;
            none = λ x. t.3 ∙ none kind place symbol addend refl (ap has_addend (sym t.1) ∙ x);
          })
      by_operand o (operands.TypeRef place index) named one none e =
          subst (λ y. IsKnown (named_reloc p y)) (some_is _ n e)
          (record { kind = refl; index = types_low l objects is names spellable_all short (written_type (res l objects o).object index); low = omega (arith, ints); high = omega (arith, ints); none = λ x. refl })
      by_operand o operands.TableZero named one none e = absurd cc

  in_code : HaveAddends objects → All IsReloc (section_relocs body_head (relocatable p).bodies)
  unfolding relocatable
  in_code addends =
      all_from_has IsReloc (section_relocs body_head (relocatable p).bodies)
      (λ x has.
      let o = from_has body_head (length (u32 (length (relocatable p).bodies))) (relocatable p).bodies x has in
      let m = has_map (λ part. windowed p part) (kept p 0) o.whole o.there in
      let n = has_map (named_reloc p) m.0.named o.own (subst (λ (w : Windowed). Has w.relocs o.own) (sym m.2) o.one_of) in
      let low : (later o.by o.own).offset < 2 ^ 32 = subst (λ (y : Reloc). y.offset < 2 ^ 32) (sym o.is) (code_low (relocatable p) short x (relocatable p).bodies refl (bodies_apart l objects is) has) in
      subst IsReloc o.is (placed_too o.own o.by (subst IsKnown n.2 (code_known addends m.0 m.1 n.0 n.1)) low))

pub relocs_fit : RelocsFit
relocs_fit l objects is names spellable_all short = (in_data l objects is names spellable_all short, in_code l objects is names spellable_all short)
