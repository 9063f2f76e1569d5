-- The functions of objects that were read are bodies with their references; with emptied windows they spell code on whose immediates their relocations stand.
use Rattle.std.proofs.Common.{◌≡◌, ℕ, zero, suc, ◌+◌, ◌<◌, ◌==◌, ◌&&◌, List, [], ◌∷◌, length, map, inl, inr, refl, sym, ap, ◌∙◌, subst, arith}
use Rattle.std.specs.Prelude.{Option, Some, None, option_map, filter_map, slice_get, All, IsTrue, ℤ, Ok}
use Rattle.std.specs.List.{cons_option}
use Rattle.std.proofs.lemmas.Bool.{and_from, eq-eqb, false≢true}
use Rattle.std.proofs.lemmas.List.Elements.{All-nil, All-cons}
use Rattle.std.proofs.lemmas.Option.{slice_get-map}
use Rattle.list_places.specs.Has.{Has}
use Rattle.list_places.proofs.Lists.{all_has, has_at, map_has}
use Rattle.object_rules.specs.wasm_instr.declared.body.Body.{Body}
use Rattle.object_rules.specs.wasm_instr.Bodies.{SpellsBody}
use Rattle.object_rules.specs.reloc_section.declared.entry.Reloc.{Reloc}
use Rattle.object_rules.specs.linking_section.declared.symbol.Symbol.{Symbol}
use Rattle.object_rules.specs.body_windows.declared.operand.Operand.{Operand}
use Rattle.object_rules.specs.body_windows.declared.operand.Operand.TheVariants as operands
use Rattle.object_rules.specs.body_windows.declared.immediate.Immediate.{Immediate}
use Rattle.object_rules.specs.body_windows.Immediates.{immediates, may_stand, needs_window}
use Rattle.object_rules.specs.body_windows.Windows.{operand_at, windows_of}
use Rattle.object_rules.proofs.body_windows_lemmas.Order.{body_order}
use Rattle.object_rules.specs.object_parts.Sections.{bytes_in}
use Rattle.object_rules.specs.object_parts.Spans.{LiesIn}
use Rattle.name_rules.specs.object_file.object_columns.declared.functions.FunctionDef.{FunctionDef}
use Rattle.object_file.specs.declared.object.Object.{Object}
use Rattle.object_file.specs.ObjectOf.{IsObject}
use Rattle.object_file.specs.Bodies.{IsOperandOf, AreOperandsOf, BodyStands}
use Rattle.object_file.specs.Sound.{Sound, OperandNames, IsNamedBy, is_code_type}
use Rattle.made_symbols.specs.declared.mode.Mode.TheVariants.{Plain}
use Rattle.name_rules.specs.Entries.{InputSymbol, entry_in, entries_from, entries, symbols_of}
use Rattle.name_rules.specs.Meanings.{Meaning, meaning, no_uses}
use Rattle.reloc_apply.specs.Windows.{filled}
use Rattle.image_emit.specs.Bytes.{file_part}
use Rattle.link_rules.specs.Program.{Program, Part, Ref, Named, a_symbol, a_type, ref_to, operand_named, span_of}
use Rattle.link_rules.specs.Values.{part_bytes}
use Rattle.output_module.specs.Filled.{StandsOn, AllStandOn, names_in, FilledBody}
use Rattle.partial_rules.specs.Relocatable.{Windowed}
use Rattle.partial_rules.specs.Partial.{kept, empty_window, named_reloc, windowed, relocatable}
use Rattle.partial_rules.specs.WellFormed.{Coded, IsCoded}
use Rattle.partial_laws.proofs.Instance.{all_from_has}
use Rattle.partial_laws.proofs.Loading.{rise_above}
use Rattle.partial_parts_laws.specs.Linked.{Linked, program}
use Rattle.partial_parts_laws.specs.ReadBack.{AreLinked}
use Rattle.partial_parts_laws.proofs.Parts.{res, files_are, make_function}
use Rattle.partial_parts_laws.proofs.KeptParts.{OfFunction, of_function}
use Rattle.partial_parts_laws.proofs.WindowRules.{apart_has, bodies_apart}
use Rattle.partial_object_laws.specs.ReadAlone.{bytes_of, IsReadFrom, AreReadAlone, ReadWell, CodeOf, BodiesAreCoded}
use Rattle.partial_object_laws.proofs.Files.{bytes_are}
use Rattle.partial_object_laws.proofs.Emptied.{emptied, IsEmptied, is_emptied}
use Rattle.partial_object_laws.proofs.Windows.{Fill, AllFill, those_in, stand}

abbrev pub BodiesLaw : Type 0
BodiesLaw = (input : ℕ) (bytes : List ℕ) (object : Object) → IsObject input bytes object → All (BodyStands bytes) object.functions

-- ---- what operands name

entry_at : (objects : List Object) (o : Object) (place : ℕ) (ss : List Symbol) (k : ℕ) (s : Symbol) → slice_get ss k ≡ Some s → (e : InputSymbol) × (slice_get (entries_from objects o place ss) k ≡ Some e)
entry_at objects o place [] k s is = absurd cc
entry_at objects o place (y ∷ ys) zero s is = (entry_in objects o place y, refl)
entry_at objects o place (y ∷ ys) (suc k) s is = entry_at objects o (place + 1) ys k s is

module _ (l : Linked) (objects : List Object) (o : Object) where
  abbrev mean : InputSymbol → Meaning
  mean = meaning Plain no_uses l.plan.allow_undefined (entries Plain objects)

  named_there : (kind symbol : ℕ) (x : Option Symbol) → slice_get o.symbols symbol ≡ x → IsNamedBy kind x → (e : InputSymbol) × (slice_get (symbols_of objects o) symbol ≡ Some e)
  named_there kind symbol None at named = absurd named
  named_there kind symbol (Some s) at named = entry_at objects o 0 o.symbols symbol s at

  ref_there : (place kind symbol : ℕ) (addend : ℤ) → IsNamedBy kind (slice_get o.symbols symbol)
      → (ref : Ref) × (ref_to place kind addend (slice_get (res l objects o).symbols symbol) (slice_get (res l objects o).meanings symbol) ≡ Some ref) × (ref.place ≡ place) × (ref.kind ≡ kind)
  ref_there place kind symbol addend named =
      let e = named_there kind symbol (slice_get o.symbols symbol) refl named in
      let m : slice_get (map mean (symbols_of objects o)) symbol ≡ Some (mean e.0) = slice_get-map mean (symbols_of objects o) symbol ∙ ap (option_map mean) e.1 in (
        record { place = place; kind = kind; addend = addend; entry = e.0; meaning = mean e.0 },
        ap (λ x. ref_to place kind addend x (slice_get (res l objects o).meanings symbol)) e.1 ∙ ap (ref_to place kind addend (Some e.0)) m,
        refl,
        refl,
      )

  stands_on : (i : Immediate) (x : Operand) → IsOperandOf i x → OperandNames o x → StandsOn i (operand_named (res l objects o) x)
  stands_on i operands.Number s named = s
  stands_on i (operands.Symbol kind place symbol addend) s named =
      let r = ref_there place kind symbol addend named.1 in
      subst (StandsOn i) (sym (ap (option_map a_symbol) r.1)) (r.2 ∙ s.0, s.1, subst (λ k. IsTrue (may_stand k i.kind)) (sym r.3) s.2, λ six. no_type kind named.0 (sym r.3 ∙ six))
    where
      no_type : (kind : ℕ) → IsTrue (is_code_type kind) → kind ≡ 6 → ⊥
      no_type kind code six = false≢true (subst (λ k. IsTrue (is_code_type k)) six code)
  stands_on i (operands.TypeRef place index) s named = s
  stands_on i operands.TableZero s named = ap needs_window s

  all_stand : (is : List Immediate) (xs : List Operand) → AreOperandsOf is xs → ((x : Operand) → Has xs x → OperandNames o x) → AllStandOn is (map (λ x. operand_named (res l objects o) x) xs)
  all_stand [] [] s named = tt
  all_stand [] (x ∷ xs) s named = absurd s
  all_stand (i ∷ is) [] s named = absurd s
  all_stand (i ∷ is) (x ∷ xs) s named = (stands_on i x s.0 (named x (inl refl)), all_stand is xs s.1 (λ y h. named y (inr h)))

  all_named : (xs : List Operand) → filter_map (λ x. operand_named (res l objects o) x) xs ≡ names_in (map (λ x. operand_named (res l objects o) x) xs)
  all_named [] = refl
  all_named (x ∷ xs) = onto (operand_named (res l objects o) x) (all_named xs)
    where
      onto : (y : Option Named) → filter_map (λ x. operand_named (res l objects o) x) xs ≡ names_in (map (λ x. operand_named (res l objects o) x) xs)
          → cons_option y (filter_map (λ x. operand_named (res l objects o) x) xs) ≡ cons_option y (names_in (map (λ x. operand_named (res l objects o) x) xs))
      onto None same = same
      onto (Some n) same = ap (λ ns. n ∷ ns) same

-- ---- relocations of what stands on immediates

module _ (p : Program) where
  fill_one : (i : Immediate) (o : Option Named) → StandsOn i o → Fill i (option_map (named_reloc p) o)
  fill_one i None s = s
  fill_one i (Some (a_symbol ref)) s =
      let place : 0 + i.place ≡ ref.place = omega (arith, s.0) in
      and_from (((0 + i.place) == ref.place) && (i.len == 5)) (may_stand ref.kind i.kind) (and_from ((0 + i.place) == ref.place) (i.len == 5) (eq-eqb (0 + i.place) ref.place place) (eq-eqb i.len 5 s.1)) s.2
  fill_one i (Some (a_type w)) s =
      let place : 0 + i.place ≡ w.place = omega (arith, s.0) in
      and_from (((0 + i.place) == w.place) && (i.len == 5)) (may_stand 6 i.kind) (and_from ((0 + i.place) == w.place) (i.len == 5) (eq-eqb (0 + i.place) w.place place) (eq-eqb i.len 5 s.1)) (ap (may_stand 6) s.2)

  all_fill : (is : List Immediate) (os : List (Option Named)) → AllStandOn is os → AllFill is (map (option_map (named_reloc p)) os)
  all_fill [] [] s = tt
  all_fill [] (o ∷ os) s = absurd s
  all_fill (i ∷ is) [] s = absurd s
  all_fill (i ∷ is) (o ∷ os) s = (fill_one i o s.0, all_fill is os s.1)

  relocs_are : (os : List (Option Named)) → those_in (map (option_map (named_reloc p)) os) ≡ map (named_reloc p) (names_in os)
  relocs_are [] = refl
  relocs_are (None ∷ os) = relocs_are os
  relocs_are (Some n ∷ os) = ap (λ rs. named_reloc p n ∷ rs) (relocs_are os)

-- ---- the functions that are kept

-- What a kept function is: of which object, the body that its bytes spell, and what stands on the body's immediates.
pub record IsBody (l : Linked) (objects : List Object) (x : Part) : Type 0 where
  pub object : Object
  pub there : Has objects object
  pub from : IsReadFrom l object
  pub definition : FunctionDef
  pub one_of : Has object.functions definition
  pub body : Body
  pub in_file : SpellsBody body (bytes_in (bytes_of l from.candidate) definition.span)
  pub spelled : SpellsBody body (part_bytes (program l objects) x)
  pub operands : AreOperandsOf (immediates body.code) definition.operands
  pub on : AllStandOn (immediates body.code) (map (λ op. operand_named (res l objects object) op) definition.operands)
  pub named : x.named ≡ names_in (map (λ op. operand_named (res l objects object) op) definition.operands)
  pub picked : x.named ≡ filter_map (λ op. operand_named (res l objects object) op) definition.operands

module _ (bodies_law : BodiesLaw) (l : Linked) (objects : List Object) (read : AreReadAlone l objects) (is : AreLinked l objects) where
  abbrev p : Program
  p = program l objects

  above : All (λ (y : Object). 0 < y.input) objects
  above = rise_above 0 objects is.rise

  pub body_of : (sound : (o : Object) (ho : Has objects o) → Sound (length (bytes_of l (read.each o ho).candidate)) o) → (x : Part) → Has (kept p 0) x → IsBody l objects x
  body_of sound x has = subst (IsBody l objects) f.is (record {
    object = o;
    there = f.there;
    from = from;
    definition = d;
    one_of = hf;
    body = stands.body;
    in_file = stands.spelled;
    spelled = subst (SpellsBody stands.body) (sym bytes) stands.spelled;
    operands = stands.operands;
    on = all_stand l objects o (immediates stands.body.code) d.operands stands.operands
        (λ op ho. all_has (OperandNames o) d.operands (all_has (λ (y : FunctionDef). All (OperandNames o) y.operands) o.functions (sound o f.there).operand_names d hf) op ho);
    named = all_named l objects o d.operands;
    picked = refl;
  })
    where
      f : OfFunction l objects is.strict above x
      f = of_function l objects is.strict above x has

      o : Object
      o = f.object

      d : FunctionDef
      d = f.definition

      hf : Has o.functions d
      hf = has_at o.functions f.place d f.at

      from : IsReadFrom l o
      from = read.each o f.there

      stands : BodyStands (bytes_of l from.candidate) d
      stands = all_has (BodyStands (bytes_of l from.candidate)) o.functions (bodies_law o.input (bytes_of l from.candidate) o from.is) d hf

      bytes : part_bytes p (make_function l objects o f.place d) ≡ bytes_in (bytes_of l from.candidate) d.span
      bytes =
          ap (λ fs. file_part fs (span_of l.all o.input d.span)) (files_are l objects)
          ∙ bytes_are l o from d.span (all_has (λ (y : FunctionDef). LiesIn (length (bytes_of l from.candidate)) y.span) o.functions (sound o f.there).bodies d hf)

-- ---- their code with emptied windows

-- what stands on the immediates of a kept function
abbrev pub stood : (l : Linked) (objects : List Object) (x : Part) → IsBody l objects x → List (Option Named)
stood l objects x b = map (λ op. operand_named (res l objects b.object) op) b.definition.operands

module _ (filled_body : FilledBody) (l : Linked) (objects : List Object) where
  pub emptied_body : (x : Part) (b : IsBody l objects x) → IsEmptied (program l objects) (stood l objects x b) b.body (part_bytes (program l objects) x)
  emptied_body x b = is_emptied filled_body (program l objects) (stood l objects x b) b.body (part_bytes (program l objects) x) b.spelled b.on

  pub emptied_spelled : (x : Part) (b : IsBody l objects x) → SpellsBody (emptied (program l objects) (stood l objects x b) b.body) (windowed (program l objects) x).bytes
  emptied_spelled x b =
      subst (λ ns. SpellsBody (emptied (program l objects) (stood l objects x b) b.body) (filled (map empty_window ns) (part_bytes (program l objects) x))) (sym b.named) (emptied_body x b).spelled

  pub record CodedPart (x : Part) : Type 0 where
    pub coded : Coded
    pub windowed_is : windowed (program l objects) x ≡ coded.windowed
    pub is : IsCoded coded

  pub coded_part : (x : Part) (b : IsBody l objects x) → ((r : Reloc) → Has (windowed (program l objects) x).relocs r → r.offset < length (windowed (program l objects) x).bytes) → CodedPart x
  coded_part x b inside =
      let q : Program = program l objects in
      let os : List (Option Named) = stood l objects x b in
      let w : Windowed = windowed q x in
      let code : Body = emptied q os b.body in
      let order = (body_order code w.bytes (emptied_spelled x b)).0 in
      let placed = stand (length w.bytes) code (map (option_map (named_reloc q)) os) order (all_fill q (immediates code.code) os (emptied_body x b).on) in
      let relocs : those_in (map (option_map (named_reloc q)) os) ≡ w.relocs = relocs_are q os ∙ ap (map (named_reloc q)) (sym b.named) in
      record {
        coded = record { windowed = w; code = code; operands = map (operand_at 0 w.relocs) (immediates code.code) };
        windowed_is = refl;
        is = record {
          spelled = emptied_spelled x b;
          inside = all_from_has (λ (r : Reloc). r.offset < length w.bytes) w.relocs inside;
          stand = subst (λ rs. windows_of 0 rs code ≡ Ok (map (operand_at 0 rs) (immediates code.code))) relocs placed;
        };
      }

  all_coded : (xs : List Part) → ((x : Part) → Has xs x → CodedPart x) → CodeOf (map (windowed (program l objects)) xs)
  all_coded [] each = record { codes = []; are = refl; coded = All-nil IsCoded }
  all_coded (x ∷ xs) each =
      let first = each x (inl refl) in
      let others = all_coded xs (λ y h. each y (inr h)) in
      record {
        codes = first.coded ∷ others.codes;
        are = λ i. first.windowed_is i ∷ others.are i;
        coded = All-cons IsCoded first.coded others.codes first.is others.coded;
      }

pub bodies_coded : ReadWell → ((input : ℕ) (bytes : List ℕ) (object : Object) → IsObject input bytes object → Sound (length bytes) object) → BodiesLaw → FilledBody → BodiesAreCoded
unfolding relocatable
bodies_coded well sound_law bodies_law filled_body l objects read =
    let is : AreLinked l objects = (well l objects read).linked in
    let sound : (o : Object) (ho : Has objects o) → Sound (length (bytes_of l (read.each o ho).candidate)) o = λ o ho. sound_law o.input (bytes_of l (read.each o ho).candidate) o (read.each o ho).is in
    all_coded filled_body l objects (kept (program l objects) 0)
    (λ x has. coded_part filled_body l objects x (body_of bodies_law l objects read is sound x has)
    (λ r hr. let last = apart_has 5 0 (length (windowed (program l objects) x).bytes) (windowed (program l objects) x).relocs (bodies_apart l objects is (windowed (program l objects) x) (map_has (windowed (program l objects)) (kept (program l objects) 0) x has)) r hr in omega (arith, last)))
