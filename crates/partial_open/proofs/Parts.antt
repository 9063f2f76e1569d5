-- What the kept parts of an object name, by the places of its symbols, is what the references of these parts name.
use Rattle.std.proofs.Common.{◌≡◌, ℕ, zero, suc, ◌+◌, Bool, true, false, not, ◌&&◌, ◌||◌, cond, List, [], ◌∷◌, ◌++◌, map, filter, filter_map, slice_get, get_or, Option, Some, None, option_map, ℤ, refl, sym, ap, ◌∙◌, arith}
use Rattle.std.specs.Prelude.{if◌then◌else◌}
use Rattle.std.specs.List.{list_any, cons_option}
use Rattle.std.proofs.lemmas.List.Folds.{list_any-append}
use Rattle.std.proofs.lemmas.Option.{slice_get-map, same_Some, none-some}
use Rattle.link_program.specs.linking_section.declared.symbol.Symbol.{Symbol}
use Rattle.link_program.specs.reloc_section.declared.entry.Reloc.{Reloc}
use Rattle.link_program.specs.body_windows.declared.operand.Operand.{Operand}
use Rattle.link_program.specs.body_windows.declared.operand.Operand.TheVariants as operands
use Rattle.link_program.specs.object_parts.declared.parts.GlobalDef.{GlobalDef}
use Rattle.link_program.specs.object_columns.declared.functions.FunctionDef.{FunctionDef}
use Rattle.link_program.specs.object_columns.declared.segments.SegmentDef.{SegmentDef}
use Rattle.link_program.specs.object_file.declared.object.Object.{Object}
use Rattle.link_program.specs.round_rules.Rounds.{Candidate}
use Rattle.link_program.specs.name_rules.Entries.{InputSymbol, same_entry, entries_from, entry_in}
use Rattle.link_program.specs.name_rules.Meanings.{Meaning, Resolved}
use Rattle.link_program.specs.link_rules.Program.{Part, Ref, Named, a_symbol, named_ref, refs, ref_to, ref_in, operand_named, window_named, indexed, function_part, segment_part, global_part, parts_in, is_part_kept}
use Rattle.partial_open.specs.Named.{symbol_named, function_symbols, segment_symbols, kept_lists}

abbrev pub option_any : {A : Type 0} → (A → Bool) → Option A → Bool
option_any test None = false
option_any test (Some x) = test x

-- ---- lists

pub any_agree : {A : Type 0} (p q : A → Bool) → ((x : A) → p x ≡ q x) → (xs : List A) → list_any p xs ≡ list_any q xs
any_agree p q same [] = refl
any_agree p q same (x ∷ xs) = let h = same x in let t = any_agree p q same xs in λ i. h i || t i

pub any_none : {A : Type 0} (p : A → Bool) → ((x : A) → p x ≡ false) → (xs : List A) → list_any p xs ≡ false
any_none p none [] = refl
any_none p none (x ∷ xs) = let h = none x in let t = any_none p none xs in λ i. h i || t i

pub any_filter : {A : Type 0} (p q : A → Bool) (xs : List A) → list_any p (filter q xs) ≡ list_any (λ x. q x && p x) xs
any_filter p q [] = refl
any_filter p q (x ∷ xs) = by (q x) (any_filter p q xs)
  where
    by : (b : Bool) → list_any p (filter q xs) ≡ list_any (λ x. q x && p x) xs → list_any p (cond b (x ∷ filter q xs) (filter q xs)) ≡ ((b && p x) || list_any (λ x. q x && p x) xs)
    by true rest = ap (λ r. p x || r) rest
    by false rest = rest

-- ---- the symbols of an object

pub symbol_at : (objects : List Object) (o : Object) (p : ℕ) (ss : List Symbol) (i : ℕ) (x : InputSymbol) → slice_get (entries_from objects o p ss) i ≡ Some x → (x.input ≡ o.input) × (x.place ≡ p + i)
symbol_at objects o p [] i x at = absurd (none-some x at)
symbol_at objects o p (s ∷ ss) zero x at =
    let same : entry_in objects o p s ≡ x = same_Some (entry_in objects o p s) x at in
    (sym (ap (λ (y : InputSymbol). y.input) same), sym (ap (λ (y : InputSymbol). y.place) same) ∙ (let e : p ≡ p + 0 = omega arith in e))
symbol_at objects o p (s ∷ ss) (suc i) x at =
    let r = symbol_at objects o (p + 1) ss i x at in
    (r.0, r.1 ∙ (let e : p + 1 + i ≡ p + suc i = omega arith in e))

-- ---- what references name

module _ (objects : List Object) (r : Resolved) (means : InputSymbol → Meaning) (meanings : r.meanings ≡ map means r.symbols) (e : InputSymbol) where
  -- whether a reference names the symbol
  abbrev pub names_e : Ref → Bool
  names_e ref = same_entry ref.entry e

  abbrev pub is_e : ℕ → Bool
  is_e s = option_any (λ x. same_entry x e) (slice_get r.symbols s)

  ref_is : (place kind s : ℕ) (addend : ℤ) → option_any names_e (ref_in r place kind s addend) ≡ is_e s
  ref_is place kind s addend =
      ap (λ m. option_any names_e (ref_to place kind addend (slice_get r.symbols s) m)) (ap (λ ms. slice_get ms s) meanings ∙ slice_get-map means r.symbols s)
      ∙ by (slice_get r.symbols s)
    where
      by : (x : Option InputSymbol) → option_any names_e (ref_to place kind addend x (option_map means x)) ≡ option_any (λ x. same_entry x e) x
      by None = refl
      by (Some x) = refl

  one_named : (o : Option Ref) (ns : List Named) → list_any names_e (filter_map named_ref (cons_option (option_map a_symbol o) ns)) ≡ (option_any names_e o || list_any names_e (filter_map named_ref ns))
  one_named None ns = refl
  one_named (Some ref) ns = refl

  operands_are : (ops : List Operand) → list_any names_e (filter_map named_ref (filter_map (operand_named r) ops)) ≡ list_any is_e (filter_map symbol_named ops)
  operands_are [] = refl
  operands_are (operands.Number ∷ ops) = operands_are ops
  operands_are (operands.Symbol kind place s addend ∷ ops) =
      one_named (ref_in r place kind s addend) (filter_map (operand_named r) ops)
      ∙ (let h = ref_is place kind s addend in let t = operands_are ops in λ i. h i || t i)
  operands_are (operands.TypeRef place index ∷ ops) = operands_are ops
  operands_are (operands.TableZero ∷ ops) = operands_are ops

  windows_are : (ws : List Reloc) → list_any names_e (filter_map named_ref (filter_map (window_named r) ws)) ≡ list_any is_e (map (λ (w : Reloc). w.index) ws)
  windows_are [] = refl
  windows_are (w ∷ ws) =
      one_named (ref_in r w.offset w.kind w.index w.addend) (filter_map (window_named r) ws)
      ∙ (let h = ref_is w.offset w.kind w.index w.addend in let t = windows_are ws in λ i. h i || t i)

  -- ---- of the kept parts

  abbrev pub part_names : Part → Bool
  part_names part = list_any names_e (refs part)

  and_false : (b : Bool) → (b && false) ≡ false
  and_false true = refl
  and_false false = refl

  module _ (all : List Candidate) where
    abbrev keeps : Part → Bool
    keeps = is_part_kept all objects r

    abbrev kept_names : Part → Bool
    kept_names part = keeps part && part_names part

    -- functions from an index on, of which those are dropped that have a flag
    functions_from : (dropped : List Bool) → ((i : ℕ) (f : FunctionDef) → keeps (function_part all objects r i f) ≡ not (get_or dropped i false)) → (i : ℕ) (fs : List FunctionDef)
        → list_any kept_names (indexed (function_part all objects r) i fs) ≡ list_any is_e (kept_lists dropped i (map function_symbols fs))
    functions_from dropped kept i [] = refl
    functions_from dropped kept i (f ∷ fs) =
        let h = kept i f in
        let n = operands_are f.operands in
        let t = functions_from dropped kept (i + 1) fs in
        (λ j. (h j && n j) || t j) ∙ by (get_or dropped i false)
      where
        rest : List ℕ
        rest = kept_lists dropped (i + 1) (map function_symbols fs)

        by : (b : Bool) → ((not b && list_any is_e (function_symbols f)) || list_any is_e rest) ≡ list_any is_e ((if b then [] else function_symbols f) ++ rest)
        by true = refl
        by false = sym (list_any-append is_e (function_symbols f) rest)

    segments_from : (dropped : List Bool) → ((i : ℕ) (g : SegmentDef) → keeps (segment_part all objects r i g) ≡ not (get_or dropped i false)) → (i : ℕ) (gs : List SegmentDef)
        → list_any kept_names (indexed (segment_part all objects r) i gs) ≡ list_any is_e (kept_lists dropped i (map segment_symbols gs))
    segments_from dropped kept i [] = refl
    segments_from dropped kept i (g ∷ gs) =
        let h = kept i g in
        let n = windows_are g.windows in
        let t = segments_from dropped kept (i + 1) gs in
        (λ j. (h j && n j) || t j) ∙ by (get_or dropped i false)
      where
        rest : List ℕ
        rest = kept_lists dropped (i + 1) (map segment_symbols gs)

        by : (b : Bool) → ((not b && list_any is_e (segment_symbols g)) || list_any is_e rest) ≡ list_any is_e ((if b then [] else segment_symbols g) ++ rest)
        by true = refl
        by false = sym (list_any-append is_e (segment_symbols g) rest)

    globals_from : (i : ℕ) (gs : List GlobalDef) → list_any kept_names (indexed (global_part all objects r) i gs) ≡ false
    globals_from i [] = refl
    globals_from i (g ∷ gs) = let t = globals_from (i + 1) gs in let n = and_false (keeps (global_part all objects r i g)) in λ j. n j || t j

    or_false : (b : Bool) → (b || false) ≡ b
    or_false true = refl
    or_false false = refl

    -- where no symbol of the object is it
    module _ (none : (s : ℕ) → is_e s ≡ false) where
      functions_none : (i : ℕ) (fs : List FunctionDef) → list_any kept_names (indexed (function_part all objects r) i fs) ≡ false
      functions_none i [] = refl
      functions_none i (f ∷ fs) =
          let n = operands_are f.operands ∙ any_none is_e none (filter_map symbol_named f.operands) in
          let h = and_false (keeps (function_part all objects r i f)) in
          let t = functions_none (i + 1) fs in
          (λ j. (keeps (function_part all objects r i f) && n j) || t j) ∙ (λ j. h j || false)

      segments_none : (i : ℕ) (gs : List SegmentDef) → list_any kept_names (indexed (segment_part all objects r) i gs) ≡ false
      segments_none i [] = refl
      segments_none i (g ∷ gs) =
          let n = windows_are g.windows ∙ any_none is_e none (map (λ (w : Reloc). w.index) g.windows) in
          let h = and_false (keeps (segment_part all objects r i g)) in
          let t = segments_none (i + 1) gs in
          (λ j. (keeps (segment_part all objects r i g) && n j) || t j) ∙ (λ j. h j || false)

      pub parts_none : list_any part_names (parts_in all objects r) ≡ false
      parts_none =
          let fs = indexed (function_part all objects r) 0 r.object.functions in
          let gs = indexed (segment_part all objects r) 0 r.object.segments in
          let hs = indexed (global_part all objects r) 0 r.object.globals in
          let a = functions_none 0 r.object.functions in
          let b = segments_none 0 r.object.segments in
          let c = globals_from 0 r.object.globals in
          any_filter part_names keeps (fs ++ gs ++ hs)
          ∙ (list_any-append kept_names (fs ++ gs) hs
          ∙ (λ j. (list_any-append kept_names fs gs ∙ (λ k. a k || b k)) j || c j))

    -- all kept parts of the object
    pub parts_name : (functions segments : List Bool)
        → ((i : ℕ) (f : FunctionDef) → keeps (function_part all objects r i f) ≡ not (get_or functions i false))
        → ((i : ℕ) (g : SegmentDef) → keeps (segment_part all objects r i g) ≡ not (get_or segments i false))
        → list_any part_names (parts_in all objects r) ≡ list_any is_e (kept_lists functions 0 (map function_symbols r.object.functions) ++ kept_lists segments 0 (map segment_symbols r.object.segments))
    parts_name functions segments of_functions of_segments =
        let fs = indexed (function_part all objects r) 0 r.object.functions in
        let gs = indexed (segment_part all objects r) 0 r.object.segments in
        let hs = indexed (global_part all objects r) 0 r.object.globals in
        let a = functions_from functions of_functions 0 r.object.functions in
        let b = segments_from segments of_segments 0 r.object.segments in
        let c = globals_from 0 r.object.globals in
        any_filter part_names keeps (fs ++ gs ++ hs)
        ∙ (list_any-append kept_names (fs ++ gs) hs
        ∙ ((λ j. (list_any-append kept_names fs gs ∙ (λ k. a k || b k)) j || c j)
        ∙ (or_false (list_any is_e (kept_lists functions 0 (map function_symbols r.object.functions)) || list_any is_e (kept_lists segments 0 (map segment_symbols r.object.segments)))
        ∙ sym (list_any-append is_e (kept_lists functions 0 (map function_symbols r.object.functions)) (kept_lists segments 0 (map segment_symbols r.object.segments))))))
