-- What becomes of an instruction's bytes where its windows are written.
use Rattle.std.proofs.Common.{◌≡◌, ℕ, ◌+◌, ◌-◌, ◌≤◌, ◌<◌, List, [], ◌∷◌, ◌++◌, length, Option, Some, None, true, false, refl, sym, ap, ◌∙◌, subst, inl, inr, ⊎_elim, arith, append_assoc, length-append}
use Rattle.std.specs.Prelude.{◌==◌, ◌⊎◌, IsTrue, ℤ}
use Rattle.list_places.specs.Has.{Has}
use Rattle.leb_codec.specs.Shortest.{u32_padded, s32_padded}
use Rattle.leb_codec.proofs.Computed.{u32_padded_length, s32_padded_length}
use Rattle.wasm_instr.specs.declared.instr.BlockKind.TheVariants as blocks
use Rattle.wasm_instr.specs.declared.instr.Instr.{Instr}
use Rattle.wasm_instr.specs.declared.instr.Instr.TheVariants as instrs
use Rattle.wasm_instr.specs.declared.body.Placed.{Placed}
use Rattle.wasm_instr.specs.Instrs.{SpellsHead, SpellsLast, IsInProfile}
use Rattle.wasm_instr.specs.Bodies.{Nest, step_of}
use Rattle.body_windows.specs.declared.immediate.Immediate.{Immediate}
use Rattle.body_windows.specs.declared.immediate.ImmediateKind.{ImmediateKind}
use Rattle.body_windows.specs.declared.immediate.ImmediateKind.TheVariants.{FunctionIndex, TypeIndex, TableIndex, GlobalIndex, MemoryOffset, Constant}
use Rattle.body_windows.specs.Immediates.{between, immediates_in, may_stand, AreInOrder}
use Rattle.reloc_apply.specs.declared.window.Form.{Form}
use Rattle.reloc_apply.specs.declared.window.Form.TheVariants.{Unsigned5, Signed5}
use Rattle.reloc_apply.specs.Windows.{signed32, spelled, filled}
use Rattle.made_symbols.specs.declared.mode.Mode.{Mode}
use Rattle.link_worlds.specs.link_rules.Program.{Ref, Named, a_symbol, a_type}
use Rattle.link_worlds.specs.link_rules.Values.{Layout, form_of}
use Rattle.link_worlds.specs.Names.{number_in}
use Rattle.link_worlds.specs.Bodies.{place_of, named_at, first_place, number_or_in, constant_or_in, instr_in}
use Rattle.linking_section.specs.declared.symbol.SymbolKind.TheVariants.{GlobalVar}
use Rattle.name_rules.specs.Entries.{is_kind}
use Rattle.std.proofs.lemmas.Bool.{eqb-true, not-false}
use Rattle.link_worlds.specs.Sound.{NamesFunction, NamesType, NamesTable, NamesCell, TakesAt}
use Rattle.output_module.specs.Filled.{StandsOn, AllStandOn, names_in, patches_in, ReadsAt}
use Rattle.output_module.proofs.Places.{over_here, Before, found_here, nothing_here, stands_at, from_order}
use Rattle.output_module.proofs.Spelled.{number_small, as_u32, as_s33, as_s32, form_function, form_type, form_table, form_global, form_offset, form_constant}

abbrev form_in : Named → Form
form_in (a_symbol ref) = form_of ref.kind
form_in (a_type w) = Unsigned5

-- a window that is written, at a place of bytes
fill_one : (mode : Mode) (l : Layout) (n : Named) (front old rest : List ℕ) → place_of n ≡ length front → length old ≡ 5 → length (spelled (form_in n) (number_in mode l n)) ≡ 5
    → filled (patches_in mode l (n ∷ [])) (front ++ (old ++ rest)) ≡ front ++ (spelled (form_in n) (number_in mode l n) ++ rest)
fill_one mode l (a_symbol ref) front old rest e o k = over_here front old (spelled (form_of ref.kind) (number_in mode l (a_symbol ref))) rest ref.place e (k ∙ sym o)
fill_one mode l (a_type w) front old rest e o k = over_here front old (spelled Unsigned5 (number_in mode l (a_type w))) rest w.place e (k ∙ sym o)

fill_u32 : (mode : Mode) (l : Layout) (n : Named) (front old rest : List ℕ) → form_in n ≡ Unsigned5 → place_of n ≡ length front → length old ≡ 5
    → filled (patches_in mode l (n ∷ [])) (front ++ (old ++ rest)) ≡ front ++ (u32_padded (number_in mode l n) ++ rest)
fill_u32 mode l n front old rest f e o =
    fill_one mode l n front old rest e o (ap (λ g. length (spelled g (number_in mode l n))) f ∙ u32_padded_length (number_in mode l n))
    ∙ ap (λ g. front ++ (spelled g (number_in mode l n) ++ rest)) f

fill_s32 : (mode : Mode) (l : Layout) (n : Named) (front old rest : List ℕ) → form_in n ≡ Signed5 → place_of n ≡ length front → length old ≡ 5
    → filled (patches_in mode l (n ∷ [])) (front ++ (old ++ rest)) ≡ front ++ (s32_padded (signed32 (number_in mode l n)) ++ rest)
fill_s32 mode l n front old rest f e o =
    fill_one mode l n front old rest e o (ap (λ g. length (spelled g (number_in mode l n))) f ∙ s32_padded_length (signed32 (number_in mode l n)))
    ∙ ap (λ g. front ++ (spelled g (number_in mode l n) ++ rest)) f

-- What the bytes of an instruction become.
pub record Became (mode : Mode) (l : Layout) (pre head last rest : List ℕ) (x y : Instr) (ns : List Named) : Type 0 where
  pub new_head : List ℕ
  pub new_last : List ℕ
  pub head_long : length new_head ≡ length head
  pub last_long : length new_last ≡ length last
  pub filled_is : filled (patches_in mode l ns) (pre ++ (head ++ (last ++ rest))) ≡ pre ++ (new_head ++ (new_last ++ rest))
  pub profile : IsInProfile y
  pub heads : SpellsHead y new_head
  pub lasts : SpellsLast y new_last
  pub steps : (nest : Nest) → step_of nest y ≡ step_of nest x

module _ (mode : Mode) (l : Layout) (pre head last rest : List ℕ) (x : Placed) (at_is : x.at ≡ length pre) (mid_is : x.mid ≡ length pre + length head)
    (end_is : x.end ≡ length pre + length head + length last) where
  same : (i : Instr) → IsInProfile i → SpellsHead i head → SpellsLast i last → Became mode l pre head last rest i i []
  same i f h t = record { new_head = head; new_last = last; head_long = refl; last_long = refl; filled_is = refl; profile = f; heads = h; lasts = t; steps = λ nest. refl }

  -- the last immediate, as a number without a sign or with one
  last_five : (kind : ImmediateKind) → (between kind x.mid x.end).len ≡ 5 → length last ≡ 5
  last_five kind h = omega (arith, h, mid_is, end_is)

  fill_last : (n : Named) → form_in n ≡ Unsigned5 → place_of n ≡ x.mid → length last ≡ 5 → filled (patches_in mode l (n ∷ [])) (pre ++ (head ++ (last ++ rest))) ≡ pre ++ (head ++ (u32_padded (number_in mode l n) ++ rest))
  fill_last n f e o =
      let front : place_of n ≡ length (pre ++ head) = e ∙ mid_is ∙ sym (length-append pre head) in
      ap (filled (patches_in mode l (n ∷ []))) (sym (append_assoc pre head (last ++ rest)))
      ∙ fill_u32 mode l n (pre ++ head) last rest f front o
      ∙ append_assoc pre head (u32_padded (number_in mode l n) ++ rest)

  fill_constant : (n : Named) → form_in n ≡ Signed5 → place_of n ≡ x.mid → length last ≡ 5 → filled (patches_in mode l (n ∷ [])) (pre ++ (head ++ (last ++ rest))) ≡ pre ++ (head ++ (s32_padded (signed32 (number_in mode l n)) ++ rest))
  fill_constant n f e o =
      let front : place_of n ≡ length (pre ++ head) = e ∙ mid_is ∙ sym (length-append pre head) in
      ap (filled (patches_in mode l (n ∷ []))) (sym (append_assoc pre head (last ++ rest)))
      ∙ fill_s32 mode l n (pre ++ head) last rest f front o
      ∙ append_assoc pre head (s32_padded (signed32 (number_in mode l n)) ++ rest)

  form_on : (kind : ImmediateKind) (from to : ℕ) (n : Named) → StandsOn (between kind from to) (Some n) → ((k : ℕ) → IsTrue (may_stand k kind) → form_of k ≡ Unsigned5) → form_in n ≡ Unsigned5
  form_on kind from to (a_symbol ref) h f = f ref.kind h.2
  form_on kind from to (a_type w) h f = refl

  len_on : (i : Immediate) (n : Named) → StandsOn i (Some n) → i.len ≡ 5
  len_on i (a_symbol ref) h = h.1
  len_on i (a_type w) h = h.1

  constant_form : (n : Named) → StandsOn (between Constant x.mid x.end) (Some n) → form_in n ≡ Signed5
  constant_form (a_symbol ref) h = form_constant ref.kind h.2
  constant_form (a_type w) h = absurd (not_type h.2)
    where
      code : ImmediateKind → ℕ
      code FunctionIndex = 0
      code TypeIndex = 1
      code (TableIndex n) = 2
      code GlobalIndex = 3
      code MemoryOffset = 4
      code Constant = 5

      not_type : Constant ≡ TypeIndex → ⊥
      not_type e = let k = ap code e in absurd (omega (arith, k))

  -- an instruction with one index, which is its last immediate
  became_u32 : (n : Named) (kind : ImmediateKind) → ((k : ℕ) → IsTrue (may_stand k kind) → form_of k ≡ Unsigned5) → StandsOn (between kind x.mid x.end) (Some n) → (i y : Instr)
      → IsInProfile y → SpellsHead y head → SpellsLast y (u32_padded (number_in mode l n)) → ((nest : Nest) → step_of nest y ≡ step_of nest i) → Became mode l pre head last rest i y (n ∷ [])
  became_u32 n kind f h i y profile heads lasts steps = record {
    new_head = head;
    new_last = u32_padded (number_in mode l n);
    head_long = refl;
    last_long = u32_padded_length (number_in mode l n) ∙ sym (last_five kind (len_on (between kind x.mid x.end) n h));
    filled_is = fill_last n (form_on kind x.mid x.end n h f) (stands_at (between kind x.mid x.end) n h) (last_five kind (len_on (between kind x.mid x.end) n h));
    profile = profile;
    heads = heads;
    lasts = lasts;
    steps = steps;
  }

  block_became : (op index : ℕ) (o : Option Named) → StandsOn (between TypeIndex x.mid x.end) o → IsInProfile (instrs.Block op (blocks.Index index)) → SpellsHead (instrs.Block op (blocks.Index index)) head
      → SpellsLast (instrs.Block op (blocks.Index index)) last → Became mode l pre head last rest (instrs.Block op (blocks.Index index)) (instrs.Block op (blocks.Index (number_or_in mode l index o))) (names_in (o ∷ []))
  block_became op index None s f h t = same (instrs.Block op (blocks.Index index)) f h t
  block_became op index (Some n) s f h t = became_u32 n TypeIndex form_type s (instrs.Block op (blocks.Index index)) (instrs.Block op (blocks.Index (number_in mode l n))) f h (as_s33 (number_in mode l n) (number_small mode l n)) (λ nest. refl)

  call_became : (g : ℕ) (o : Option Named) → StandsOn (between FunctionIndex x.mid x.end) o → IsInProfile (instrs.Call g) → SpellsHead (instrs.Call g) head → SpellsLast (instrs.Call g) last
      → Became mode l pre head last rest (instrs.Call g) (instrs.Call (number_or_in mode l g o)) (names_in (o ∷ []))
  call_became g None s f h t = same (instrs.Call g) f h t
  call_became g (Some n) s f h t = became_u32 n FunctionIndex form_function s (instrs.Call g) (instrs.Call (number_in mode l n)) f h (as_u32 (number_in mode l n) (number_small mode l n)) (λ nest. refl)

  global_became : (op g : ℕ) (o : Option Named) → StandsOn (between GlobalIndex x.mid x.end) o → IsInProfile (instrs.GlobalAt op g) → SpellsHead (instrs.GlobalAt op g) head → SpellsLast (instrs.GlobalAt op g) last
      → Became mode l pre head last rest (instrs.GlobalAt op g) (instrs.GlobalAt op (number_or_in mode l g o)) (names_in (o ∷ []))
  global_became op g None s f h t = same (instrs.GlobalAt op g) f h t
  global_became op g (Some n) s f h t = became_u32 n GlobalIndex form_global s (instrs.GlobalAt op g) (instrs.GlobalAt op (number_in mode l n)) f h (as_u32 (number_in mode l n) (number_small mode l n)) (λ nest. refl)

  access_became : (op align offset : ℕ) (o : Option Named) → StandsOn (between MemoryOffset x.mid x.end) o → IsInProfile (instrs.Access op align offset) → SpellsHead (instrs.Access op align offset) head
      → SpellsLast (instrs.Access op align offset) last → Became mode l pre head last rest (instrs.Access op align offset) (instrs.Access op align (number_or_in mode l offset o)) (names_in (o ∷ []))
  access_became op align offset None s f h t = same (instrs.Access op align offset) f h t
  access_became op align offset (Some n) s f h t =
      became_u32 n MemoryOffset form_offset s (instrs.Access op align offset) (instrs.Access op align (number_in mode l n)) f h (as_u32 (number_in mode l n) (number_small mode l n)) (λ nest. refl)

  constant_became : (k : ℤ) (o : Option Named) → StandsOn (between Constant x.mid x.end) o → IsInProfile (instrs.I32Const k) → SpellsHead (instrs.I32Const k) head → SpellsLast (instrs.I32Const k) last
      → Became mode l pre head last rest (instrs.I32Const k) (constant_or_in mode l (instrs.I32Const k) o) (names_in (o ∷ []))
  constant_became k None s f h t = same (instrs.I32Const k) f h t
  constant_became k (Some n) s f h t = record {
    new_head = head;
    new_last = s32_padded (signed32 (number_in mode l n));
    head_long = refl;
    last_long = s32_padded_length (signed32 (number_in mode l n)) ∙ sym (last_five Constant (len_on (between Constant x.mid x.end) n s));
    filled_is = fill_constant n (constant_form n s) (stands_at (between Constant x.mid x.end) n s) (last_five Constant (len_on (between Constant x.mid x.end) n s));
    profile = f;
    heads = h;
    lasts = as_s32 (number_in mode l n) (number_small mode l n);
    steps = λ nest. refl;
  }

  -- ---- call_indirect: a type, and then a table

  pub record NewHead (k t : ℕ) (o : Option Named) : Type 0 where
    pub new : List ℕ
    pub long : length new ≡ length head
    pub spells : SpellsHead (instrs.CallIndirect (number_or_in mode l k o) t) new
    pub fills : (tail : List ℕ) → filled (patches_in mode l (names_in (o ∷ []))) (pre ++ (head ++ tail)) ≡ pre ++ (new ++ tail)

  type_step : (k t : ℕ) (o : Option Named) → StandsOn (between TypeIndex (x.at + 1) x.mid) o → SpellsHead (instrs.CallIndirect k t) head → NewHead k t o
  type_step k t None s h = record { new = head; long = refl; spells = h; fills = λ tail. refl }
  type_step k t (Some n) s h =
      let byte = h.0 in
      let index = h.1 in
      let whole : length head ≡ length byte + length index = ap length h.4 ∙ length-append byte index in
      let one : length byte ≡ 1 = ap length h.2 in
      let five : length index ≡ 5 = let q = len_on (between TypeIndex (x.at + 1) x.mid) n s in omega (arith, q, at_is, mid_is, whole, one) in
      let number = u32_padded (number_in mode l n) in
      let placed : place_of n ≡ length (pre ++ byte) = stands_at (between TypeIndex (x.at + 1) x.mid) n s ∙ omega (arith, at_is, one) ∙ sym (length-append pre byte) in
      record {
        new = byte ++ number;
        long = length-append byte number ∙ omega (arith, whole, five, u32_padded_length (number_in mode l n));
        spells = (byte, number, h.2, as_u32 (number_in mode l n) (number_small mode l n), refl);
        fills = λ tail.
            ap (λ z. filled (patches_in mode l (n ∷ [])) (pre ++ (z ++ tail))) h.4
            ∙ ap (λ z. filled (patches_in mode l (n ∷ [])) (pre ++ z)) (append_assoc byte index tail)
            ∙ ap (filled (patches_in mode l (n ∷ []))) (sym (append_assoc pre byte (index ++ tail)))
            ∙ fill_u32 mode l n (pre ++ byte) index tail (form_on TypeIndex (x.at + 1) x.mid n s form_type) placed five
            ∙ append_assoc pre byte (number ++ tail)
            ∙ ap (λ z. pre ++ z) (sym (append_assoc byte number tail));
      }

  pub record NewLast (k t : ℕ) (o : Option Named) (front : List ℕ) : Type 0 where
    pub new : List ℕ
    pub long : length new ≡ length last
    pub spells : SpellsLast (instrs.CallIndirect k (number_or_in mode l t o)) new
    pub fills : filled (patches_in mode l (names_in (o ∷ []))) (pre ++ (front ++ (last ++ rest))) ≡ pre ++ (front ++ (new ++ rest))

  table_step : (k t : ℕ) (o : Option Named) (front : List ℕ) → length front ≡ length head → StandsOn (between (TableIndex t) x.mid x.end) o → SpellsLast (instrs.CallIndirect k t) last → NewLast k t o front
  table_step k t None front z s h = record { new = last; long = refl; spells = h; fills = refl }
  table_step k t (Some n) front z s h =
      let five = last_five (TableIndex t) (len_on (between (TableIndex t) x.mid x.end) n s) in
      let number = u32_padded (number_in mode l n) in
      let placed : place_of n ≡ length (pre ++ front) = stands_at (between (TableIndex t) x.mid x.end) n s ∙ mid_is ∙ ap (λ m. length pre + m) (sym z) ∙ sym (length-append pre front) in
      record {
        new = number;
        long = u32_padded_length (number_in mode l n) ∙ sym five;
        spells = as_u32 (number_in mode l n) (number_small mode l n);
        fills =
            ap (filled (patches_in mode l (n ∷ []))) (sym (append_assoc pre front (last ++ rest)))
            ∙ fill_u32 mode l n (pre ++ front) last rest (form_on (TableIndex t) x.mid x.end n s (λ k. form_table k t)) placed five
            ∙ append_assoc pre front (number ++ rest);
      }

  in_turn : (a b : Option Named) (bytes : List ℕ) → filled (patches_in mode l (names_in (a ∷ b ∷ []))) bytes ≡ filled (patches_in mode l (names_in (b ∷ []))) (filled (patches_in mode l (names_in (a ∷ []))) bytes)
  in_turn None b bytes = refl
  in_turn (Some n) None bytes = refl
  in_turn (Some n) (Some m) bytes = refl

  through_became : (k t : ℕ) (a b : Option Named) → StandsOn (between TypeIndex (x.at + 1) x.mid) a → StandsOn (between (TableIndex t) x.mid x.end) b
      → SpellsHead (instrs.CallIndirect k t) head → SpellsLast (instrs.CallIndirect k t) last
      → Became mode l pre head last rest (instrs.CallIndirect k t) (instrs.CallIndirect (number_or_in mode l k a) (number_or_in mode l t b)) (names_in (a ∷ b ∷ []))
  through_became k t a b s r h e =
      let first = type_step k t a s h in
      let second = table_step k t b first.new first.long r e in
      record {
        new_head = first.new;
        new_last = second.new;
        head_long = first.long;
        last_long = second.long;
        filled_is =
            in_turn a b (pre ++ (head ++ (last ++ rest)))
            ∙ ap (filled (patches_in mode l (names_in (b ∷ [])))) (first.fills (last ++ rest))
            ∙ second.fills;
        profile = tt;
        heads = first.spells;
        lasts = second.spells;
        steps = λ nest. refl;
      }

  -- ---- whichever it is

  module _ (before : List Named) (from fin : ℕ) (b : Before from before) (later : List Immediate) (others : List (Option Named)) (on : AllStandOn later others) where
    abbrev all : List (Option Named) → List Named
    all os = before ++ (names_in os ++ names_in others)

    -- the one reference of an instruction
    looked : (kind : ImmediateKind) (o : Option Named) → StandsOn (between kind x.mid x.end) o → AreInOrder from fin (between kind x.mid x.end ∷ later) → named_at (all (o ∷ [])) x.mid ≡ o
    looked kind None s o = nothing_here x.mid from before (names_in others) b o.0
        (λ n h. let k : x.mid + (x.end - x.mid) ≤ place_of n = from_order (x.mid + (x.end - x.mid)) fin later others o.2 on n h in omega (arith, k, o.1))
    looked kind (Some n) s o = found_here x.mid from n before (names_in others) b o.0 (stands_at (between kind x.mid x.end) n s)

    -- the two of call_indirect
    looked_type : (t : ℕ) (a c : Option Named) → StandsOn (between TypeIndex (x.at + 1) x.mid) a → StandsOn (between (TableIndex t) x.mid x.end) c
        → AreInOrder from fin (between TypeIndex (x.at + 1) x.mid ∷ between (TableIndex t) x.mid x.end ∷ later) → named_at (all (a ∷ c ∷ [])) (first_place x) ≡ a
    looked_type t (Some n) None s r o = found_here (first_place x) from n before (names_in others) b o.0 (stands_at (between TypeIndex (x.at + 1) x.mid) n s)
    looked_type t (Some n) (Some m) s r o = found_here (first_place x) from n before (m ∷ names_in others) b o.0 (stands_at (between TypeIndex (x.at + 1) x.mid) n s)
    looked_type t None None s r o = nothing_here (first_place x) from before (names_in others) b o.0
        (λ n h. let k : x.mid + (x.end - x.mid) ≤ place_of n = from_order (x.mid + (x.end - x.mid)) fin later others o.2.2 on n h in omega (arith, k, o.1, o.2.0, o.2.1))
    looked_type t None (Some m) s r o = nothing_here (first_place x) from before (m ∷ names_in others) b o.0
        (λ n h. ⊎_elim
        (λ e. let q : place_of m ≡ place_of n = ap place_of e in let k : place_of m ≡ x.mid = stands_at (between (TableIndex t) x.mid x.end) m r in omega (arith, q, k, o.1, o.2.0))
        (λ g. let k : x.mid + (x.end - x.mid) ≤ place_of n = from_order (x.mid + (x.end - x.mid)) fin later others o.2.2 on n g in omega (arith, k, o.1, o.2.0, o.2.1)) h)

    looked_table : (t : ℕ) (a c : Option Named) → StandsOn (between TypeIndex (x.at + 1) x.mid) a → StandsOn (between (TableIndex t) x.mid x.end) c
        → AreInOrder from fin (between TypeIndex (x.at + 1) x.mid ∷ between (TableIndex t) x.mid x.end ∷ later) → named_at (all (a ∷ c ∷ [])) x.mid ≡ c
    looked_table t None None s r o = nothing_here x.mid from before (names_in others) b (omega (arith, o.0, o.1, o.2.0))
        (λ n h. let k : x.mid + (x.end - x.mid) ≤ place_of n = from_order (x.mid + (x.end - x.mid)) fin later others o.2.2 on n h in omega (arith, k, o.2.1))
    looked_table t None (Some m) s r o = found_here x.mid from m before (names_in others) b (omega (arith, o.0, o.1, o.2.0)) (stands_at (between (TableIndex t) x.mid x.end) m r)
    looked_table t (Some n) c s r o =
        let z : place_of n ≡ x.at + 1 = stands_at (between TypeIndex (x.at + 1) x.mid) n s in
        ap (λ xs. named_at xs x.mid) (sym (append_assoc before (n ∷ []) (names_in (c ∷ []) ++ names_in others)))
        ∙ behind c r
      where
        with_n : Before x.mid (before ++ n ∷ [])
        with_n m h =
            let z : place_of n ≡ x.at + 1 = stands_at (between TypeIndex (x.at + 1) x.mid) n s in
            ⊎_elim (λ g. let k : place_of m < from = b m g in omega (arith, k, o.0, o.1, o.2.0))
            (λ g. ⊎_elim (λ e. let q : place_of n ≡ place_of m = ap place_of e in omega (arith, q, z, o.1, o.2.0)) (λ w. absurd w) g) (either before m h)
          where
            either : (xs : List Named) (m : Named) → Has (xs ++ n ∷ []) m → Has xs m ⊎ Has (n ∷ []) m
            either [] m h = inr h
            either (y ∷ ys) m (inl e) = inl (inl e)
            either (y ∷ ys) m (inr h) = ⊎_elim (λ g. inl (inr g)) (λ g. inr g) (either ys m h)

        behind : (c : Option Named) → StandsOn (between (TableIndex t) x.mid x.end) c → named_at ((before ++ n ∷ []) ++ (names_in (c ∷ []) ++ names_in others)) x.mid ≡ c
        behind None r = nothing_here x.mid x.mid (before ++ n ∷ []) (names_in others) with_n (omega arith)
            (λ m h. let k : x.mid + (x.end - x.mid) ≤ place_of m = from_order (x.mid + (x.end - x.mid)) fin later others o.2.2 on m h in omega (arith, k, o.2.1))
        behind (Some m) r = found_here x.mid x.mid m (before ++ n ∷ []) (names_in others) with_n (omega arith) (stands_at (between (TableIndex t) x.mid x.end) m r)

    pub became : (i : Instr) → IsInProfile i → SpellsHead i head → SpellsLast i last → (os : List (Option Named)) → AllStandOn (immediates_in i x.at x.mid x.end) os
        → AreInOrder from fin (immediates_in i x.at x.mid x.end ++ later) → Became mode l pre head last rest i (instr_in mode l (all os) x i) (names_in os)
    became (instrs.Block op (blocks.Index k)) f h t (o ∷ []) s r =
        subst (λ q. Became mode l pre head last rest (instrs.Block op (blocks.Index k)) (instrs.Block op (blocks.Index (number_or_in mode l k q))) (names_in (o ∷ []))) (sym (looked TypeIndex o s.0 r)) (block_became op k o s.0 f h t)
    became (instrs.Call g) f h t (o ∷ []) s r =
        subst (λ q. Became mode l pre head last rest (instrs.Call g) (instrs.Call (number_or_in mode l g q)) (names_in (o ∷ []))) (sym (looked FunctionIndex o s.0 r)) (call_became g o s.0 f h t)
    became (instrs.GlobalAt op g) f h t (o ∷ []) s r =
        subst (λ q. Became mode l pre head last rest (instrs.GlobalAt op g) (instrs.GlobalAt op (number_or_in mode l g q)) (names_in (o ∷ []))) (sym (looked GlobalIndex o s.0 r)) (global_became op g o s.0 f h t)
    became (instrs.Access op align k) f h t (o ∷ []) s r =
        subst (λ q. Became mode l pre head last rest (instrs.Access op align k) (instrs.Access op align (number_or_in mode l k q)) (names_in (o ∷ []))) (sym (looked MemoryOffset o s.0 r)) (access_became op align k o s.0 f h t)
    became (instrs.I32Const k) f h t (o ∷ []) s r =
        subst (λ q. Became mode l pre head last rest (instrs.I32Const k) (constant_or_in mode l (instrs.I32Const k) q) (names_in (o ∷ []))) (sym (looked Constant o s.0 r)) (constant_became k o s.0 f h t)
    became (instrs.CallIndirect k t) f h e (a ∷ c ∷ []) s r =
        subst (λ q. Became mode l pre head last rest (instrs.CallIndirect k t) (instrs.CallIndirect (number_or_in mode l k q) (number_or_in mode l t (named_at (all (a ∷ c ∷ [])) x.mid))) (names_in (a ∷ c ∷ []))) (sym (looked_type t a c s.0 s.1.0 r))
        (subst (λ q. Became mode l pre head last rest (instrs.CallIndirect k t) (instrs.CallIndirect (number_or_in mode l k a) (number_or_in mode l t q)) (names_in (a ∷ c ∷ []))) (sym (looked_table t a c s.0 s.1.0 r))
        (through_became k t a c s.0 s.1.0 h e))
    became (instrs.Block op blocks.Empty) f h t [] s r = same (instrs.Block op blocks.Empty) f h t
    became (instrs.Block op (blocks.Value v)) f h t [] s r = same (instrs.Block op (blocks.Value v)) f h t
    became (instrs.Plain op) f h t [] s r = same (instrs.Plain op) f h t
    became (instrs.Branch op k) f h t [] s r = same (instrs.Branch op k) f h t
    became (instrs.BranchTable ks k) f h t [] s r = same (instrs.BranchTable ks k) f h t
    became (instrs.SelectTyped ts) f h t [] s r = same (instrs.SelectTyped ts) f h t
    became (instrs.Local op k) f h t [] s r = same (instrs.Local op k) f h t
    became instrs.MemorySize f h t [] s r = same instrs.MemorySize f h t
    became instrs.MemoryGrow f h t [] s r = same instrs.MemoryGrow f h t
    became (instrs.I64Const k) f h t [] s r = same (instrs.I64Const k) f h t
    became (instrs.F32Const k) f h t [] s r = same (instrs.F32Const k) f h t
    became (instrs.F64Const k) f h t [] s r = same (instrs.F64Const k) f h t
    became (instrs.Truncate k) f h t [] s r = same (instrs.Truncate k) f h t
    became instrs.MemoryCopy f h t [] s r = same instrs.MemoryCopy f h t
    became instrs.MemoryFill f h t [] s r = same instrs.MemoryFill f h t
    became (instrs.Block op (blocks.Index k)) f h t [] s r = absurd s
    became (instrs.Block op (blocks.Index k)) f h t (o ∷ q ∷ os) s r = absurd s.1
    became (instrs.Call g) f h t [] s r = absurd s
    became (instrs.Call g) f h t (o ∷ q ∷ os) s r = absurd s.1
    became (instrs.GlobalAt op g) f h t [] s r = absurd s
    became (instrs.GlobalAt op g) f h t (o ∷ q ∷ os) s r = absurd s.1
    became (instrs.Access op align k) f h t [] s r = absurd s
    became (instrs.Access op align k) f h t (o ∷ q ∷ os) s r = absurd s.1
    became (instrs.I32Const k) f h t [] s r = absurd s
    became (instrs.I32Const k) f h t (o ∷ q ∷ os) s r = absurd s.1
    became (instrs.CallIndirect k t) f h e [] s r = absurd s
    became (instrs.CallIndirect k t) f h e (a ∷ []) s r = absurd s.1
    became (instrs.CallIndirect k t) f h e (a ∷ c ∷ d ∷ os) s r = absurd s.1.1
    became (instrs.Block op blocks.Empty) f h t (o ∷ os) s r = absurd s
    became (instrs.Block op (blocks.Value v)) f h t (o ∷ os) s r = absurd s
    became (instrs.Plain op) f h t (o ∷ os) s r = absurd s
    became (instrs.Branch op k) f h t (o ∷ os) s r = absurd s
    became (instrs.BranchTable ks k) f h t (o ∷ os) s r = absurd s
    became (instrs.SelectTyped ts) f h t (o ∷ os) s r = absurd s
    became (instrs.Local op k) f h t (o ∷ os) s r = absurd s
    became instrs.MemorySize f h t (o ∷ os) s r = absurd s
    became instrs.MemoryGrow f h t (o ∷ os) s r = absurd s
    became (instrs.I64Const k) f h t (o ∷ os) s r = absurd s
    became (instrs.F32Const k) f h t (o ∷ os) s r = absurd s
    became (instrs.F64Const k) f h t (o ∷ os) s r = absurd s
    became (instrs.Truncate k) f h t (o ∷ os) s r = absurd s
    became instrs.MemoryCopy f h t (o ∷ os) s r = absurd s
    became instrs.MemoryFill f h t (o ∷ os) s r = absurd s

    -- ---- what each takes

    kind_code : ImmediateKind → ℕ
    kind_code FunctionIndex = 0
    kind_code TypeIndex = 1
    kind_code (TableIndex n) = 2
    kind_code GlobalIndex = 3
    kind_code MemoryOffset = 4
    kind_code Constant = 5

    other_kind : (k : ImmediateKind) → kind_code k ≡ 1 → (m : ImmediateKind) → (kind_code m ≡ 1 → ⊥) → m ≡ k → ⊥
    other_kind k e m f q = f (ap kind_code q ∙ e)

    type_names : (o : Option Named) (from to : ℕ) → StandsOn (between TypeIndex from to) o → NamesType o
    type_names None from to s = absurd (let h : true ≡ false = s in grind arith)
    type_names (Some (a_symbol ref)) from to s = absurd (s.3 (eqb-true ref.kind 6 s.2))
    type_names (Some (a_type w)) from to s = tt

    function_names : (o : Option Named) → StandsOn (between FunctionIndex x.mid x.end) o → NamesFunction o
    unfolding kind_code
    function_names None s = absurd (let h : true ≡ false = s in grind arith)
    function_names (Some (a_symbol ref)) s = eqb-true ref.kind 0 s.2
    function_names (Some (a_type w)) s = absurd (other_kind TypeIndex refl FunctionIndex (λ e. absurd (omega (arith, e))) s.2)

    table_names : (t : ℕ) (o : Option Named) → StandsOn (between (TableIndex t) x.mid x.end) o → NamesTable t o
    unfolding kind_code
    table_names t None s = eqb-true t 0 (not-false (t == 0) s)
    table_names t (Some (a_symbol ref)) s = eqb-true ref.kind 20 s.2
    table_names t (Some (a_type w)) s = absurd (other_kind TypeIndex refl (TableIndex t) (λ e. absurd (omega (arith, e))) s.2)

    cell_names : (op : ℕ) (o : Option Named) → StandsOn (between GlobalIndex x.mid x.end) o → ((ref : Ref) → o ≡ Some (a_symbol ref) → is_kind GlobalVar ref.entry ≡ false → op ≡ 0x23) → NamesCell op o
    unfolding kind_code
    cell_names op None s r = absurd (let h : true ≡ false = s in grind arith)
    cell_names op (Some (a_symbol ref)) s r = (eqb-true ref.kind 7 s.2, r ref refl)
    cell_names op (Some (a_type w)) s r = absurd (other_kind TypeIndex refl GlobalIndex (λ e. absurd (omega (arith, e))) s.2)

    pub takes : (i : Instr) (os : List (Option Named)) → AllStandOn (immediates_in i x.at x.mid x.end) os → AreInOrder from fin (immediates_in i x.at x.mid x.end ++ later) → ReadsAt (all os) x i → TakesAt (all os) x i
    takes (instrs.Block op (blocks.Index k)) (o ∷ []) s r h = subst NamesType (sym (looked TypeIndex o s.0 r)) (type_names o x.mid x.end s.0)
    takes (instrs.Call g) (o ∷ []) s r h = subst NamesFunction (sym (looked FunctionIndex o s.0 r)) (function_names o s.0)
    takes (instrs.GlobalAt op g) (o ∷ []) s r h = subst (NamesCell op) (sym (looked GlobalIndex o s.0 r)) (cell_names op o s.0 (λ ref e. h ref (looked GlobalIndex o s.0 r ∙ e)))
    takes (instrs.CallIndirect k t) (a ∷ c ∷ []) s r h =
        (subst NamesType (sym (looked_type t a c s.0 s.1.0 r)) (type_names a (x.at + 1) x.mid s.0), subst (NamesTable t) (sym (looked_table t a c s.0 s.1.0 r)) (table_names t c s.1.0))
    takes (instrs.Block op (blocks.Index k)) [] s r h = absurd s
    takes (instrs.Block op (blocks.Index k)) (o ∷ q ∷ os) s r h = absurd s.1
    takes (instrs.Call g) [] s r h = absurd s
    takes (instrs.Call g) (o ∷ q ∷ os) s r h = absurd s.1
    takes (instrs.GlobalAt op g) [] s r h = absurd s
    takes (instrs.GlobalAt op g) (o ∷ q ∷ os) s r h = absurd s.1
    takes (instrs.CallIndirect k t) [] s r h = absurd s
    takes (instrs.CallIndirect k t) (a ∷ []) s r h = absurd s.1
    takes (instrs.CallIndirect k t) (a ∷ c ∷ d ∷ os) s r h = absurd s.1.1
    takes (instrs.Access op align k) os s r h = tt
    takes (instrs.I32Const k) os s r h = tt
    takes (instrs.Block op blocks.Empty) os s r h = tt
    takes (instrs.Block op (blocks.Value v)) os s r h = tt
    takes (instrs.Plain op) os s r h = tt
    takes (instrs.Branch op k) os s r h = tt
    takes (instrs.BranchTable ks k) os s r h = tt
    takes (instrs.SelectTyped ts) os s r h = tt
    takes (instrs.Local op k) os s r h = tt
    takes instrs.MemorySize os s r h = tt
    takes instrs.MemoryGrow os s r h = tt
    takes (instrs.I64Const k) os s r h = tt
    takes (instrs.F32Const k) os s r h = tt
    takes (instrs.F64Const k) os s r h = tt
    takes (instrs.Truncate k) os s r h = tt
    takes instrs.MemoryCopy os s r h = tt
    takes instrs.MemoryFill os s r h = tt
