-- What live parts leave open, by the data and by the definition.
use Rattle.std.proofs.Common.{◌≡◌, ℕ, zero, suc, ◌+◌, ◌==◌, ◌&&◌, not, Bool, true, false, cond, List, [], ◌∷◌, ◌++◌, map, filter, filter_map, flat_map, find, slice_get, Option, Some, None, option_map, option_and_then, refl, sym, ap, ◌∙◌, subst, arith, ne_eqb, inl, inr, ◌⊎◌, ℤ, pos}
use Rattle.std.specs.List.{AllByRecursion, AllZip}
use Rattle.link_program.specs.wl_base.declared.fault.Fault.TheVariants.{Unresolved}
use Rattle.link_program.specs.linking_section.declared.symbol.Symbol.{Symbol}
use Rattle.link_program.specs.linking_section.declared.init.InitFunc.{InitFunc}
use Rattle.link_program.specs.linking_section.Flags.{is_undefined}
use Rattle.link_program.specs.reloc_section.declared.entry.Reloc.{Reloc}
use Rattle.link_program.specs.body_windows.declared.operand.Operand.{Operand}
use Rattle.link_program.specs.body_windows.declared.operand.Operand.TheVariants as operands
use Rattle.link_program.specs.object_parts.declared.parts.GlobalDef.{GlobalDef}
use Rattle.link_program.specs.object_columns.declared.functions.FunctionDef.{FunctionDef}
use Rattle.link_program.specs.object_columns.declared.segments.SegmentDef.{SegmentDef}
use Rattle.link_program.specs.object_file.declared.object.Object.{Object}
use Rattle.link_program.specs.made_symbols.declared.mode.Mode.{Mode}
use Rattle.link_program.specs.made_symbols.Made.{MadeSymbol, made}
use Rattle.link_program.specs.round_rules.Rounds.{Candidate}
use Rattle.link_program.specs.mark_bits.declared.chunk.Chunk.{Chunk}
use Rattle.link_program.specs.name_rules.Entries.{InputSymbol, ImportKey, name_of, entries, entry_in, symbols_of}
use Rattle.link_program.specs.name_rules.Meanings.{Meaning, Resolved, is_nothing, meaning, resolved_in, uses_of}
use Rattle.link_program.specs.name_rules.declared.meaning.Meaning.{Meaning as Told}
use Rattle.link_program.specs.name_meanings.Means.{Means, row_of}
use Rattle.name_unresolved.specs.Refers as by_object
use Rattle.name_unresolved.specs.Refers.{SymbolAt, symbol_named, is_undefined_one, open_inits}
use Rattle.name_unresolved.specs.Least.{least_by}
use Rattle.name_unresolved.specs.Unresolved.{is_open, is_nothing as open_answer}
use Rattle.link_program.specs.name_entries.View.{InputsRise}
use Rattle.link_program.specs.link_rules.Program.{Part, Ref, Named, a_symbol, named_ref, refs, ref_in, ref_to, operand_named, window_named, init_call, init_calls_in, init_calls, by_priority, is_skipped, InitCall, loose_ref, loose_part, loose_parts, indexed, function_part, segment_part, global_part, parts_in, is_part_kept, parts_of, made_parts_from, made_kind, option_onto, linker_made, no_source}
use Rattle.link_program.specs.link_rules.Marks as marks
use Rattle.link_program.specs.link_rules.Marks.{refs_of}
use Rattle.link_program.proofs.Loose.{loosened_or_not, mismatch_here, refs_loose}
use Rattle.link_marks.specs.Open.{open_fault}
use Rattle.link_marks.proofs.Members.{In, in_at, in_flat, all_in, all_from, all_both, all_map, all_flat, all_kept, all_filter_map, OfOption, found_has}
use Rattle.link_marks.proofs.Leasts.{map_is, flat_map_is, filter_map_is, filter_is, least_agree, least_same, sorted_is, sorted_all, at, open_at, first_open}
use Rattle.link_marks.proofs.Known.{IsObject, all_rise, Stands, all_stand, entry_at, no_entry_at, zip_at, zip_past, same_nothing, defined_means}

-- the least of the open ones
abbrev opened : List (List Told) → SymbolAt → Option SymbolAt
opened rows s = cond (is_open rows s) (Some s) None

-- what a window, by the symbol that it names, leaves open
abbrev open_of : Option Named → Option SymbolAt
open_of n = option_and_then (λ (m : Named). option_and_then open_at (named_ref m)) n

abbrev open_ref : Option Ref → Option SymbolAt
open_ref r = option_and_then open_at r

ref_open : (r : Option Ref) → open_of (option_map a_symbol r) ≡ open_ref r
ref_open None = refl
ref_open (Some r) = refl

module _ (mode : Mode) (allow : Bool) (objects : List Object) (rows : List (List Told)) (imports : List ImportKey) where
  abbrev pub means : InputSymbol → Meaning
  means e = meaning mode (uses_of mode objects) allow (entries mode objects) e

  abbrev pub resolved : Object → Resolved
  resolved o = resolved_in mode (uses_of mode objects) allow (entries mode objects) objects o

  abbrev symbols : List InputSymbol
  symbols = flat_map (symbols_of objects) objects

  -- the answers for an object's symbols are there
  abbrev pub IsAnswered : Object → Type 0
  IsAnswered o = AllZip (Means imports) (row_of rows o.input) (map means (symbols_of objects o))

  pub record Fine (o : Object) : Type 0 where
    pub is : IsObject objects o
    pub answered : IsAnswered o
    pub among : In o objects

  -- ---- a symbol of an object

  -- There is no symbol of this place, or the answers tell what it means.
  abbrev pub Nowhere : Object → ℕ → Type 0
  Nowhere o s = (slice_get o.symbols s ≡ None) × (slice_get (symbols_of objects o) s ≡ None) × (slice_get (row_of rows o.input) s ≡ None)

  pub record Somewhere (o : Object) (s : ℕ) : Type 0 where
    pub symbol : Symbol
    pub there : slice_get o.symbols s ≡ Some symbol
    pub entry_there : slice_get (symbols_of objects o) s ≡ Some (entry_in objects o s symbol)
    pub meant_there : slice_get (map means (symbols_of objects o)) s ≡ Some (means (entry_in objects o s symbol))
    pub known : In (entry_in objects o s symbol) symbols
    pub same : is_open rows (o.input, s) ≡ is_nothing (means (entry_in objects o s symbol))
    pub told : Told
    pub answer : slice_get (row_of rows o.input) s ≡ Some told
    pub tells : Means imports told (means (entry_in objects o s symbol))

  map_get : {A B : Type 0} (f : A → B) (xs : List A) (i : ℕ) → slice_get (map f xs) i ≡ option_map f (slice_get xs i)
  map_get f [] i = refl
  map_get f (x ∷ xs) zero = refl
  map_get f (x ∷ xs) (suc i) = map_get f xs i

  pub symbol_of : (o : Object) → Fine o → (s : ℕ) → Nowhere o s ⊎ Somewhere o s
  symbol_of o fine s = by (slice_get o.symbols s) refl
    where
      by : (x : Option Symbol) → slice_get o.symbols s ≡ x → Nowhere o s ⊎ Somewhere o s
      by None is =
          let none = no_entry_at objects o 0 o.symbols s is in
          inl (is, none, zip_past (Means imports) (row_of rows o.input) (map means (symbols_of objects o)) s fine.answered (map_get means (symbols_of objects o) s ∙ ap (option_map means) none))
      by (Some x) is =
          let e : InputSymbol = entry_in objects o s x in
          let here : slice_get (symbols_of objects o) s ≡ Some e = entry_at objects o 0 o.symbols s x is ∙ ap (λ q. Some (entry_in objects o q x)) (let z : 0 + s ≡ s = omega arith in z) in
          let meant : slice_get (map means (symbols_of objects o)) s ≡ Some (means e) = map_get means (symbols_of objects o) s ∙ ap (option_map means) here in
          let t = zip_at (Means imports) (row_of rows o.input) (map means (symbols_of objects o)) s (means e) fine.answered meant in
          inr (record {
            symbol = x;
            there = is;
            entry_there = here;
            meant_there = meant;
            known = in_flat (symbols_of objects) o e objects fine.among (in_at (symbols_of objects o) s e here);
            same = ap open_answer t.1 ∙ same_nothing imports t.0 (means e) t.2;
            told = t.0;
            answer = t.1;
            tells = t.2;
          })

  -- what a reference to it leaves open
  ref_is : (o : Object) → Fine o → (place kind s : ℕ) (addend : ℤ) → opened rows (o.input, s) ≡ open_ref (ref_in (resolved o) place kind s addend)
  ref_is o fine place kind s addend = elim (symbol_of o fine s) as (λ _. opened rows (o.input, s) ≡ open_ref (ref_in (resolved o) place kind s addend)) [
    | inl n ↦
        ap (λ x. cond (open_answer x) (Some (o.input, s)) None) n.2
        ∙ sym (ap (λ x. open_ref (ref_to place kind addend x (slice_get (map means (symbols_of objects o)) s))) n.1)
    | inr y ↦
        let e : InputSymbol = entry_in objects o s y.symbol in
        ap (λ b. cond b (Some (o.input, s)) None) y.same
        ∙ sym ((λ i. open_ref (ref_to place kind addend (y.entry_there i) (y.meant_there i))))
  ]

  ref_known : (o : Object) → Fine o → (place kind s : ℕ) (addend : ℤ) → OfOption (λ (r : Ref). is_nothing r.meaning ≡ true → In r.entry symbols) (ref_in (resolved o) place kind s addend)
  ref_known o fine place kind s addend = elim (symbol_of o fine s) as (λ _. OfOption (λ (r : Ref). is_nothing r.meaning ≡ true → In r.entry symbols) (ref_in (resolved o) place kind s addend)) [
    | inl n ↦ subst (λ x. OfOption (λ (r : Ref). is_nothing r.meaning ≡ true → In r.entry symbols) (ref_to place kind addend x (slice_get (map means (symbols_of objects o)) s))) (sym n.1) tt
    | inr y ↦ subst (λ (p : Option InputSymbol × Option Meaning). OfOption (λ (r : Ref). is_nothing r.meaning ≡ true → In r.entry symbols) (ref_to place kind addend p.0 p.1)) (sym (λ i. (y.entry_there i, y.meant_there i))) (λ is. y.known)
  ]

  -- ---- parts

  -- What the part refers to is open by the data where it is by the definition, and it is known.
  pub record Agrees (part : Part) : Type 0 where
    pub least : least_by (opened rows) (by_object.refers objects part.chunk) ≡ least_by open_at (refs part)
    pub known : AllByRecursion (λ (r : Ref). is_nothing r.meaning ≡ true → In r.entry symbols) (refs part)

  abbrev RefKnown : Ref → Type 0
  RefKnown r = is_nothing r.meaning ≡ true → In r.entry symbols

  of_symbol : (n : Option Ref) → OfOption RefKnown n → OfOption (λ (m : Named). OfOption RefKnown (named_ref m)) (option_map a_symbol n)
  of_symbol None h = tt
  of_symbol (Some r) h = h

  module _ (o : Object) (fine : Fine o) where
    operand_is : (op : Operand) → option_and_then (λ (s : ℕ). opened rows (o.input, s)) (symbol_named op) ≡ open_of (operand_named (resolved o) op)
    operand_is operands.Number = refl
    operand_is (operands.Symbol kind place s addend) = ref_is o fine place kind s addend ∙ sym (ref_open (ref_in (resolved o) place kind s addend))
    operand_is (operands.TypeRef place index) = refl
    operand_is operands.TableZero = refl

    operand_known : (op : Operand) → OfOption (λ (m : Named). OfOption RefKnown (named_ref m)) (operand_named (resolved o) op)
    operand_known operands.Number = tt
    operand_known (operands.Symbol kind place s addend) = of_symbol (ref_in (resolved o) place kind s addend) (ref_known o fine place kind s addend)
    operand_known (operands.TypeRef place index) = tt
    operand_known operands.TableZero = tt

    window_is : (w : Reloc) → opened rows (o.input, w.index) ≡ open_of (window_named (resolved o) w)
    window_is w = ref_is o fine w.offset w.kind w.index w.addend ∙ sym (ref_open (ref_in (resolved o) w.offset w.kind w.index w.addend))

    window_known : (w : Reloc) → OfOption (λ (m : Named). OfOption RefKnown (named_ref m)) (window_named (resolved o) w)
    window_known w = of_symbol (ref_in (resolved o) w.offset w.kind w.index w.addend) (ref_known o fine w.offset w.kind w.index w.addend)

    -- what a list of things names
    names_are : {A : Type 0} (name : A → Option Named) (xs : List A) → least_by open_at (filter_map named_ref (filter_map name xs)) ≡ least_by (λ x. open_of (name x)) xs
    names_are name xs = filter_map_is open_at named_ref (filter_map name xs) ∙ filter_map_is (λ (m : Named). option_and_then open_at (named_ref m)) name xs

    names_known : {A : Type 0} (name : A → Option Named) → ((x : A) → OfOption (λ (m : Named). OfOption RefKnown (named_ref m)) (name x)) → (xs : List A) → AllByRecursion RefKnown (filter_map named_ref (filter_map name xs))
    names_known name h xs = all_filter_map RefKnown named_ref (filter_map name xs) (all_filter_map (λ (m : Named). OfOption RefKnown (named_ref m)) name xs (all_from _ xs (λ x k. h x)))

    function_refers : (ops : List Operand) → least_by (opened rows) (map (by_object.at o) (filter_map symbol_named ops)) ≡ least_by open_at (filter_map named_ref (filter_map (operand_named (resolved o)) ops))
    function_refers ops =
        map_is (opened rows) (by_object.at o) (filter_map symbol_named ops)
        ∙ filter_map_is (λ s. opened rows (o.input, s)) symbol_named ops
        ∙ least_same (λ op. option_and_then (λ s. opened rows (o.input, s)) (symbol_named op)) (λ op. open_of (operand_named (resolved o) op)) operand_is ops
        ∙ sym (names_are (operand_named (resolved o)) ops)

    segment_refers : (ws : List Reloc) → least_by (opened rows) (map (by_object.at o) (map (λ (w : Reloc). w.index) ws)) ≡ least_by open_at (filter_map named_ref (filter_map (window_named (resolved o)) ws))
    segment_refers ws =
        map_is (opened rows) (by_object.at o) (map (λ (w : Reloc). w.index) ws)
        ∙ map_is (λ s. opened rows (o.input, s)) (λ (w : Reloc). w.index) ws
        ∙ least_same (λ (w : Reloc). opened rows (o.input, w.index)) (λ w. open_of (window_named (resolved o) w)) window_is ws
        ∙ sym (names_are (window_named (resolved o)) ws)

    -- the chunk is one of this object
    of_object : (kind index : ℕ) → by_object.refers objects (record { input = o.input; kind = kind; index = index }) ≡ map (by_object.at o) (by_object.names_in o (record { input = o.input; kind = kind; index = index }))
    of_object kind index =
        let c : Chunk = record { input = o.input; kind = kind; index = index } in
        ap (λ b. cond b (cond ((kind == 0) && (index == 0)) (flat_map open_inits objects) []) (by_object.refers_in c (find (λ (x : Object). x.input == o.input) objects))) (ne_eqb o.input 0 (λ e. let h = fine.is.1 in omega (arith, e, h)))
        ∙ ap (by_object.refers_in c) fine.is.0

    function_agrees : (all : List Candidate) (index : ℕ) (f : FunctionDef) → slice_get o.functions index ≡ Some f → Agrees (function_part all objects (resolved o) index f)
    function_agrees all index f is = record {
      least = ap (least_by (opened rows)) (of_object 0 index ∙ ap (λ x. map (by_object.at o) (by_object.function_names x)) is) ∙ function_refers f.operands;
      known = names_known (operand_named (resolved o)) operand_known f.operands;
    }

    segment_agrees : (all : List Candidate) (index : ℕ) (g : SegmentDef) → slice_get o.segments index ≡ Some g → Agrees (segment_part all objects (resolved o) index g)
    segment_agrees all index g is = record {
      least = ap (least_by (opened rows)) (of_object 1 index ∙ ap (λ x. map (by_object.at o) (by_object.segment_names x)) is) ∙ segment_refers g.windows;
      known = names_known (window_named (resolved o)) window_known g.windows;
    }

    global_agrees : (all : List Candidate) (index : ℕ) (g : GlobalDef) → Agrees (global_part all objects (resolved o) index g)
    global_agrees all index g = record { least = ap (least_by (opened rows)) (of_object 2 index); known = tt }

    each_indexed : {A : Type 0} (make : ℕ → A → Part) (xs ys : List A) (n : ℕ) → ((i : ℕ) (y : A) → slice_get ys i ≡ Some y → slice_get xs (n + i) ≡ Some y)
        → ((i : ℕ) (y : A) → slice_get xs i ≡ Some y → Agrees (make i y)) → AllByRecursion Agrees (indexed make n ys)
    each_indexed make xs [] n same f = tt
    each_indexed make xs (y ∷ ys) n same f = (
      f n y (ap (slice_get xs) (let e : n ≡ n + 0 = omega arith in e) ∙ same 0 y refl),
      each_indexed make xs ys (n + 1) (λ i z is. ap (slice_get xs) (let e : n + 1 + i ≡ n + suc i = omega arith in e) ∙ same (suc i) z is) f,
    )

    all_indexed : {A : Type 0} (make : ℕ → A → Part) (xs : List A) → ((i : ℕ) (y : A) → slice_get xs i ≡ Some y → Agrees (make i y)) → AllByRecursion Agrees (indexed make 0 xs)
    all_indexed make xs f = each_indexed make xs xs 0 (λ i y is. ap (slice_get xs) (let e : 0 + i ≡ i = omega arith in e) ∙ is) f

    object_agrees : (all : List Candidate) → AllByRecursion Agrees (parts_in all objects (resolved o))
    object_agrees all =
        let fs = indexed (function_part all objects (resolved o)) 0 o.functions in
        let gs = indexed (segment_part all objects (resolved o)) 0 o.segments in
        let hs = indexed (global_part all objects (resolved o)) 0 o.globals in
        all_kept Agrees (is_part_kept all objects (resolved o)) (fs ++ gs ++ hs)
        (all_both Agrees (fs ++ gs) hs
        (all_both Agrees fs gs (all_indexed (function_part all objects (resolved o)) o.functions (function_agrees all)) (all_indexed (segment_part all objects (resolved o)) o.segments (segment_agrees all)))
        (all_indexed (global_part all objects (resolved o)) o.globals (λ i g is. global_agrees all i g)))

    -- ---- init functions

    abbrev call_open : InitCall → Option SymbolAt
    call_open c = open_at c.ref

    abbrev kept_open : InitCall → Option SymbolAt
    kept_open c = cond (not (is_skipped c)) (call_open c) None

    init_is : (i : InitFunc) → cond (is_undefined_one (slice_get o.symbols i.symbol)) (opened rows (o.input, i.symbol)) None ≡ option_and_then kept_open (init_call (resolved o) i)
    init_is i = elim (symbol_of o fine i.symbol) as (λ _. cond (is_undefined_one (slice_get o.symbols i.symbol)) (opened rows (o.input, i.symbol)) None ≡ option_and_then kept_open (init_call (resolved o) i)) [
      | inl n ↦
          ap (λ x. cond (is_undefined_one x) (opened rows (o.input, i.symbol)) None) n.0
          ∙ sym (ap (λ x. call_of (ref_to 0 0 (pos 0) x (slice_get (map means (symbols_of objects o)) i.symbol))) n.1)
      | inr y ↦
          let e : InputSymbol = entry_in objects o i.symbol y.symbol in
          ap (λ x. cond (is_undefined_one x) (opened rows (o.input, i.symbol)) None) y.there
          ∙ ap (λ b. cond (is_undefined y.symbol) (cond b (Some (o.input, i.symbol)) None) None) y.same
          ∙ cases e (is_undefined y.symbol) e.defines (is_nothing (means e)) (λ d. defined_means mode (uses_of mode objects) allow objects e y.known d)
          ∙ sym (λ j. call_of (ref_to 0 0 (pos 0) (y.entry_there j) (y.meant_there j)))
    ]
      where
        call_of : Option Ref → Option SymbolAt
        call_of r = option_and_then kept_open (option_map (λ (ref : Ref). record { priority = i.priority; ref = ref }) r)

        cases : (e : InputSymbol) (u d n : Bool) → (d ≡ true → n ≡ false)
            → cond u (cond n (Some (at e)) None) None ≡ cond (not (not u && not d)) (cond n (Some (at e)) None) None
        cases e true true n h = refl
        cases e true false n h = refl
        cases e false true n h = sym (ap (λ b. cond b (Some (at e)) None) (h refl))
        cases e false false n h = refl

    inits_are : least_by (opened rows) (open_inits o) ≡ least_by call_open (init_calls_in (resolved o))
    inits_are =
        map_is (opened rows) (by_object.at o) (filter (λ s. is_undefined_one (slice_get o.symbols s)) (map (λ (i : InitFunc). i.symbol) o.inits))
        ∙ filter_is (λ s. opened rows (o.input, s)) (λ s. is_undefined_one (slice_get o.symbols s)) (map (λ (i : InitFunc). i.symbol) o.inits)
        ∙ map_is (λ s. cond (is_undefined_one (slice_get o.symbols s)) (opened rows (o.input, s)) None) (λ (i : InitFunc). i.symbol) o.inits
        ∙ least_same (λ (i : InitFunc). cond (is_undefined_one (slice_get o.symbols i.symbol)) (opened rows (o.input, i.symbol)) None) (λ i. option_and_then kept_open (init_call (resolved o) i)) init_is o.inits
        ∙ sym (filter_map_is kept_open (init_call (resolved o)) o.inits)
        ∙ sym (filter_is call_open (λ c. not (is_skipped c)) (filter_map (init_call (resolved o)) o.inits))

    inits_known : AllByRecursion (λ (c : InitCall). RefKnown c.ref) (init_calls_in (resolved o))
    inits_known =
        all_kept (λ (c : InitCall). RefKnown c.ref) (λ c. not (is_skipped c)) (filter_map (init_call (resolved o)) o.inits)
        (all_filter_map (λ (c : InitCall). RefKnown c.ref) (init_call (resolved o)) o.inits (all_from _ o.inits (λ i k. of_call i.priority (ref_in (resolved o) 0 0 i.symbol (pos 0)) (ref_known o fine 0 0 i.symbol (pos 0)))))
      where
        of_call : (priority : ℕ) (r : Option Ref) → OfOption RefKnown r → OfOption (λ (c : InitCall). RefKnown c.ref) (option_map (λ (ref : Ref). record { priority = priority; ref = ref }) r)
        of_call priority None h = tt
        of_call priority (Some r) h = h

  -- ---- all parts

  module _ (all_fine : AllByRecursion Fine objects) where
    fine_in : (o : Object) → In o objects → Fine o
    fine_in o h = all_in Fine o objects all_fine h

    abbrev calls : List Ref
    calls = init_calls (map resolved objects)

    abbrev call_least : InitCall → Option SymbolAt
    call_least c = open_at c.ref

    calls_are : least_by (opened rows) (flat_map open_inits objects) ≡ least_by open_at calls
    unfolding init_calls
    calls_are =
        flat_map_is (opened rows) open_inits objects
        ∙ least_agree (λ o. least_by (opened rows) (open_inits o)) (λ o. least_by call_least (init_calls_in (resolved o))) objects (all_from _ objects (λ o h. inits_are o (fine_in o h)))
        ∙ sym (map_is open_at (λ (c : InitCall). c.ref) (by_priority (flat_map init_calls_in (map resolved objects)))
        ∙ sorted_is call_least (flat_map init_calls_in (map resolved objects))
        ∙ flat_map_is call_least init_calls_in (map resolved objects)
        ∙ map_is (λ r. least_by call_least (init_calls_in r)) resolved objects)

    calls_known : AllByRecursion RefKnown calls
    unfolding init_calls
    calls_known =
        all_map RefKnown (λ (c : InitCall). c.ref) (by_priority (flat_map init_calls_in (map resolved objects)))
        (sorted_all (λ (c : InitCall). RefKnown c.ref) (flat_map init_calls_in (map resolved objects))
        (all_flat (λ (c : InitCall). RefKnown c.ref) init_calls_in (map resolved objects)
        (all_map (λ r. AllByRecursion (λ (c : InitCall). RefKnown c.ref) (init_calls_in r)) resolved objects (all_from _ objects (λ o h. inits_known o (fine_in o h))))))

    symbols_open : (rs : List Ref) → filter_map named_ref (map a_symbol rs) ≡ rs
    symbols_open [] = refl
    symbols_open (r ∷ rs) = ap (λ l. r ∷ l) (symbols_open rs)

    made_named : (b : Bool) → least_by (opened rows) (cond b (flat_map open_inits objects) []) ≡ least_by open_at (filter_map named_ref (cond b (map a_symbol calls) []))
    made_named true = calls_are ∙ ap (least_by open_at) (sym (symbols_open calls))
    made_named false = refl

    made_known : (b : Bool) → AllByRecursion RefKnown (filter_map named_ref (cond b (map a_symbol calls) []))
    made_known true = subst (AllByRecursion RefKnown) (sym (symbols_open calls)) calls_known
    made_known false = tt

    made_agrees : (place : ℕ) (m : MadeSymbol) (kind : ℕ) → Agrees (record {
      chunk = record { input = 0; kind = kind; index = place };
      content = linker_made m;
      source = no_source;
      named = cond ((kind == 0) && (place == 0)) (map a_symbol calls) [];
    })
    made_agrees place m kind = record { least = made_named ((kind == 0) && (place == 0)); known = made_known ((kind == 0) && (place == 0)) }

    one_made : (place : ℕ) (m : MadeSymbol) (rest : List Part) → AllByRecursion Agrees rest → (k : Option ℕ) → AllByRecursion Agrees (option_onto (option_map (λ (kind : ℕ). record {
      chunk = record { input = 0; kind = kind; index = place };
      content = linker_made m;
      source = no_source;
      named = cond ((kind == 0) && (place == 0)) (map a_symbol calls) [];
    }) k) rest)
    one_made place m rest all None = all
    one_made place m rest all (Some kind) = (made_agrees place m kind, all)

    all_made : (place : ℕ) (ms : List MadeSymbol) → AllByRecursion Agrees (made_parts_from calls place ms)
    all_made place [] = tt
    all_made place (m ∷ ms) = one_made place m (made_parts_from calls (place + 1) ms) (all_made (place + 1) ms) (made_kind m.kind)

    pub parts_agree : (all : List Candidate) → AllByRecursion Agrees (parts_of mode all objects (map resolved objects))
    unfolding parts_of
    parts_agree all =
        all_both Agrees (made_parts_from calls 0 (made mode)) (flat_map (parts_in all objects) (map resolved objects)) (all_made 0 (made mode))
        (all_flat Agrees (parts_in all objects) (map resolved objects) (all_map (λ r. AllByRecursion Agrees (parts_in all objects r)) resolved objects (all_from _ objects (λ o h. object_agrees o (fine_in o h) all))))

  -- ---- loosened parts

  module _ (all : List InputSymbol) where
    loose_open : (r : Ref) → open_at (loose_ref all r) ≡ open_at r
    loose_open r = elim (loosened_or_not all r) as (λ _. open_at (loose_ref all r) ≡ open_at r) [
      | inl is ↦ let d = mismatch_here all r.entry r.meaning is.differs in ap open_at is.is ∙ sym (ap (λ m. cond (is_nothing m) (Some (at r.entry)) None) d.1)
      | inr is ↦ ap open_at is
    ]

    loose_known : (r : Ref) → RefKnown r → RefKnown (loose_ref all r)
    loose_known r known = elim (loosened_or_not all r) as (λ _. RefKnown (loose_ref all r)) [
      | inl is ↦ λ m. absurd (no (sym (ap (λ (x : Ref). is_nothing x.meaning) is.is) ∙ m))
      | inr is ↦ subst RefKnown (sym is) known
    ]
      where
        no : false ≡ true → ⊥
        no h = cc

    all_loose : (rs : List Ref) → AllByRecursion RefKnown rs → AllByRecursion RefKnown (map (loose_ref all) rs)
    all_loose [] h = tt
    all_loose (r ∷ rs) h = (loose_known r h.0, all_loose rs h.1)

    loose_agrees : (part : Part) → Agrees part → Agrees (loose_part all part)
    loose_agrees part a = record {
      least = a.least ∙ sym (ap (least_by open_at) (refs_loose all part) ∙ map_is open_at (loose_ref all) (refs part) ∙ least_same (λ r. open_at (loose_ref all r)) open_at loose_open (refs part));
      known = subst (AllByRecursion RefKnown) (sym (refs_loose all part)) (all_loose (refs part) a.known);
    }

    pub loose_agree : (loose : Bool) (parts : List Part) → AllByRecursion Agrees parts → AllByRecursion Agrees (loose_parts loose all parts)
    loose_agree false parts h = h
    loose_agree true [] h = tt
    loose_agree true (part ∷ parts) h = (loose_agrees part h.0, loose_agree true parts h.1)

  -- ---- some of the parts

  pub least_is : (parts : List Part) → AllByRecursion Agrees parts → least_by (opened rows) (flat_map (by_object.refers objects) (map (λ (part : Part). part.chunk) parts)) ≡ least_by open_at (refs_of parts)
  least_is parts agree =
      flat_map_is (opened rows) (by_object.refers objects) (map (λ (part : Part). part.chunk) parts)
      ∙ map_is (λ c. least_by (opened rows) (by_object.refers objects c)) (λ (part : Part). part.chunk) parts
      ∙ least_agree (λ (part : Part). least_by (opened rows) (by_object.refers objects part.chunk)) (λ part. least_by open_at (refs part)) parts (all_from _ parts (λ part h. (all_in Agrees part parts agree h).least))
      ∙ sym (flat_map_is open_at refs parts)

  pub known_is : (parts : List Part) → AllByRecursion Agrees parts → AllByRecursion RefKnown (refs_of parts)
  known_is parts agree = all_flat RefKnown refs parts (all_from _ parts (λ part h. (all_in Agrees part parts agree h).known))

  -- the fault of the first symbol that is open
  fault_is : InputsRise 0 objects → (test : InputSymbol → Bool) → open_fault objects (option_map at (find test symbols)) ≡ option_map (λ (e : InputSymbol). Unresolved (name_of e) e.input) (find test symbols)
  fault_is rise test = by (find test symbols) refl
    where
      by : (x : Option InputSymbol) → find test symbols ≡ x → open_fault objects (option_map at x) ≡ option_map (λ (e : InputSymbol). Unresolved (name_of e) e.input) x
      by None is = refl
      by (Some e) is = ap (λ n. Some (Unresolved n e.input)) (found_has (Stands objects) test symbols e (all_stand objects rise) is).0

  pub open_is : InputsRise 0 objects → (parts : List Part) → AllByRecursion Agrees parts
      → open_fault objects (least_by (opened rows) (flat_map (by_object.refers objects) (map (λ (part : Part). part.chunk) parts))) ≡ option_map (λ (e : InputSymbol). Unresolved (name_of e) e.input) (find (marks.is_open (refs_of parts)) symbols)
  open_is rise parts agree =
      ap (open_fault objects) (least_is parts agree ∙ sym (first_open symbols (refs_of parts) (all_rise objects 0 objects rise) (known_is parts agree)))
      ∙ fault_is rise (marks.is_open (refs_of parts))
