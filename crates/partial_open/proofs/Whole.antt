-- The first fault of objects is that of the definition.
use Rattle.std.proofs.Common.{◌≡◌, ℕ, zero, suc, ◌+◌, ◌<◌, ◌≤◌, ◌==◌, nat_le, Bool, true, false, not, ◌&&◌, ◌||◌, cond, List, [], ◌∷◌, ◌++◌, map, filter_map, flat_map, find, fold, drop, replicate, length, slice_get, get_or, set, Option, Some, None, option_map, pos, refl, sym, ap, subst, ◌∙◌, arith, length-set, get_or-set_same, get_or-set_other}
use Rattle.std.specs.Prelude.{if◌then◌else◌}
use Rattle.std.specs.Option.{option_or}
use Rattle.std.specs.List.{list_any, cons_option}
use Rattle.std.proofs.lemmas.Bool.{eqb-true, eq-eqb}
use Rattle.std.proofs.lemmas.Bool.Decides.{nat_tests}
use Rattle.std.proofs.lemmas.List.{length-map, length-replicate, get_or-replicate}
use Rattle.std.proofs.lemmas.List.Folds.{list_any-append, find-append}
use Rattle.std.proofs.lemmas.Option.{slice_get-map, slice_get_within, same_Some, none-some}
use Rattle.link_program.specs.wl_base.Choice.{first_some}
use Rattle.link_program.specs.linking_section.Flags.{is_undefined, is_local}
use Rattle.link_program.specs.linking_section.declared.init.InitFunc.{InitFunc}
use Rattle.link_program.specs.linking_section.declared.symbol.Symbol.{Symbol}
use Rattle.link_program.specs.wasm_types.declared.import.Import.{Import}
use Rattle.link_program.specs.linking_section.declared.symbol.SymbolKind.TheVariants.{Function}
use Rattle.link_program.specs.object_columns.declared.functions.FunctionDef.{FunctionDef}
use Rattle.link_program.specs.object_file.declared.object.Object.{Object}
use Rattle.link_program.specs.object_file.Spaces.{function_imports}
use Rattle.link_program.specs.made_symbols.declared.mode.Mode.TheVariants.{Plain}
use Rattle.link_program.specs.made_symbols.Made.{MadeSymbol, made}
use Rattle.link_program.specs.round_rules.Rounds.{Candidate}
use Rattle.link_program.specs.name_rules.Entries.{InputSymbol, same_entry, symbols_of, entries_from}
use Rattle.link_program.specs.name_rules.Meanings.{Meaning, Resolved, resolve, resolved_in, uses_of, meaning}
use Rattle.link_program.specs.name_entries.View.{InputsRise}
use Rattle.link_program.specs.name_entries.Parts.{ArePartsOf, AreParts}
use Rattle.link_program.specs.name_entries.declared.parts.ObjectParts.{ObjectParts}
use Rattle.link_program.specs.link_rules.Program.{Program, Part, Ref, a_symbol, named_ref, refs, ref_to, InitCall, init_call, init_calls_in, init_calls, is_skipped, by_priority, insert_call, function_part, parts_in, parts_of, is_part_kept, made_parts_from, made_kind, option_onto, linker_made, no_source, loose_parts}
use Rattle.link_program.specs.link_rules.Marks.{refs_of}
use Rattle.link_program.specs.declared.program.Program.{Program as Data}
use Rattle.link_program.specs.Program.{IsProgramOf}
use Rattle.partial_rules.specs.Partial.{open_local}
use Rattle.partial_open.specs.Named.{named_in, marked, flags_of}
use Rattle.partial_open.specs.Lost.{is_lost, fault_of, first_flagged, object_fault, first_fault}
use Rattle.partial_open.proofs.Parts.{option_any, any_agree, any_filter, symbol_at, is_e, parts_name, parts_none}

-- ---- flags

or_false : (b : Bool) → b ≡ (b || false)
or_false true = refl
or_false false = refl

or_assoc : (a b c : Bool) → ((a || b) || c) ≡ (a || (b || c))
or_assoc true b c = refl
or_assoc false b c = refl

or_true : (b : Bool) → true ≡ (b || true)
or_true true = refl
or_true false = refl

marked_at : (flags : List Bool) (n k : ℕ) → k < length flags → get_or (marked flags n) k false ≡ (get_or flags k false || (n == k))
marked_at flags n k lt = by (n == k) refl
  where
    by : (b : Bool) → (n == k) ≡ b → get_or (set flags n true) k false ≡ (get_or flags k false || b)
    by true is =
        let same : n ≡ k = grind (arith, nat_tests) in
        ap (λ m. get_or (set flags m true) k false) same ∙ (get_or-set_same flags k true false lt ∙ or_true (get_or flags k false))
    by false is =
        let apart : k ≡ n → ⊥ = λ e. let back : n ≡ k = sym e in grind (arith, nat_tests) in
        get_or-set_other flags n k true false apart ∙ or_false (get_or flags k false)

flags_at : (flags : List Bool) (ns : List ℕ) (k : ℕ) → k < length flags → get_or (fold marked flags ns) k false ≡ (get_or flags k false || list_any (λ m. m == k) ns)
flags_at flags [] k lt = or_false (get_or flags k false)
flags_at flags (n ∷ ns) k lt =
    let within : k < length (marked flags n) = subst (λ m. k < m) (sym (length-set flags n true)) lt in
    flags_at (marked flags n) ns k within
    ∙ (ap (λ b. b || list_any (λ m. m == k) ns) (marked_at flags n k lt)
    ∙ or_assoc (get_or flags k false) (n == k) (list_any (λ m. m == k) ns))

flag_is : (n : ℕ) (ns : List ℕ) (k : ℕ) → k < n → get_or (fold marked (replicate n false) ns) k false ≡ list_any (λ m. m == k) ns
flag_is n ns k lt =
    let within : k < length (replicate n false) = subst (λ m. k < m) (sym (length-replicate n false)) lt in
    flags_at (replicate n false) ns k within ∙ ap (λ b. b || list_any (λ m. m == k) ns) (get_or-replicate n k false false lt)

-- ---- the first that is lost and named

none_lost : (q : InputSymbol → Bool) (es : List InputSymbol) → list_any is_lost es ≡ false → find (λ e. is_lost e && q e) es ≡ None
none_lost q [] none = refl
none_lost q (e ∷ es) none = by (is_lost e) none (none_lost q es)
  where
    by : (b : Bool) → (b || list_any is_lost es) ≡ false → (list_any is_lost es ≡ false → find (λ e. is_lost e && q e) es ≡ None) → cond (b && q e) (Some e) (find (λ e. is_lost e && q e) es) ≡ None
    by true none again = absurd cc
    by false none again = again none

flagged_is : (flags : List Bool) (q : InputSymbol → Bool) (place : ℕ) (es : List InputSymbol) → ((i : ℕ) (e : InputSymbol) → slice_get es i ≡ Some e → is_lost e ≡ true → get_or flags (place + i) false ≡ q e)
    → first_flagged flags place es ≡ find (λ e. is_lost e && q e) es
flagged_is flags q place [] same = refl
flagged_is flags q place (e ∷ es) same = by (is_lost e) refl (flagged_is flags q (place + 1) es (λ i x at lost. let k : place + 1 + i ≡ place + suc i = omega arith in ap (λ n. get_or flags n false) k ∙ same (suc i) x at lost))
  where
    by : (b : Bool) → is_lost e ≡ b → first_flagged flags (place + 1) es ≡ find (λ e. is_lost e && q e) es
        → (if b && get_or flags place false then Some e else first_flagged flags (place + 1) es) ≡ cond (b && q e) (Some e) (find (λ e. is_lost e && q e) es)
    by false lost rest = rest
    by true lost rest =
        let k : place ≡ place + 0 = omega arith in
        let here : get_or flags place false ≡ q e = ap (λ n. get_or flags n false) k ∙ same 0 e refl lost in
        λ i. if here i then Some e else rest i

-- ---- among objects whose inputs rise

other_above : (o : Object) (last : ℕ) (os : List Object) (g : Object → Bool) → ((x : Object) → (x.input == o.input) ≡ false → g x ≡ false) → InputsRise last os → o.input ≤ last → list_any g os ≡ false
other_above o last [] g none rise le = refl
other_above o last (x ∷ os) g none rise le =
    let above : last < x.input = rise.0 in
    let differ : (x.input == o.input) ≡ false = grind (arith, nat_tests) in
    let rest = other_above o x.input os g none rise.2 (omega (arith, above, le)) in
    let here = none x differ in
    λ i. here i || rest i

any_only : (o : Object) (last : ℕ) (os : List Object) (g : Object → Bool) (i : ℕ) → ((x : Object) → (x.input == o.input) ≡ false → g x ≡ false) → InputsRise last os → slice_get os i ≡ Some o → list_any g os ≡ g o
any_only o last [] g i none rise at = absurd (none-some o at)
any_only o last (x ∷ os) g zero none rise at =
    let same : x ≡ o = same_Some x o at in
    let le : o.input ≤ x.input = subst (λ (y : Object). o.input ≤ y.input) (sym same) (omega arith) in
    let rest = other_above o x.input os g none rise.2 le in
    (λ j. g (same j) || rest j) ∙ sym (or_false (g o))
any_only o last (x ∷ os) g (suc i) none rise at =
    let before : x.input < o.input = above x.input os i rise.2 at in
    let differ : (x.input == o.input) ≡ false = grind (arith, nat_tests) in
    let here = none x differ in
    (λ j. here j || list_any g os) ∙ any_only o x.input os g i none rise.2 at
  where
    above : (low : ℕ) (ys : List Object) (k : ℕ) → InputsRise low ys → slice_get ys k ≡ Some o → low < o.input
    above low [] k rise at = absurd (none-some o at)
    above low (y ∷ ys) zero rise at = subst (λ (z : Object). low < z.input) (same_Some y o at) rise.0
    above low (y ∷ ys) (suc k) rise at =
        let a : low < y.input = rise.0 in
        let b : y.input < o.input = above y.input ys k rise.2 at in
        omega (arith, a, b)

get_drop : (m : ℕ) (xs : List Bool) (i : ℕ) → get_or (drop m xs) i false ≡ get_or xs (i + m) false
get_drop zero xs i = ap (λ k. get_or xs k false) (let e : i ≡ i + 0 = omega arith in e)
get_drop (suc m) [] i = past i (i + suc m)
  where
    past : (a b : ℕ) → get_or {A = Bool} [] a false ≡ get_or [] b false
    past a b = refl
get_drop (suc m) (x ∷ xs) i = get_drop m xs i ∙ ap (λ k. get_or (x ∷ xs) k false) (let e : suc (i + m) ≡ i + suc m = omega arith in e)

-- ---- calls by priority

insert_any : (p : InitCall → Bool) (c : InitCall) (ds : List InitCall) → list_any p (insert_call c ds) ≡ (p c || list_any p ds)
insert_any p c [] = refl
insert_any p c (d ∷ ds) = by (nat_le c.priority d.priority) (insert_any p c ds)
  where
    swapped : (a b e : Bool) → (a || (b || e)) ≡ (b || (a || e))
    swapped true true e = refl
    swapped true false e = refl
    swapped false true e = refl
    swapped false false e = refl

    by : (b : Bool) → list_any p (insert_call c ds) ≡ (p c || list_any p ds) → list_any p (cond b (c ∷ d ∷ ds) (d ∷ insert_call c ds)) ≡ (p c || (p d || list_any p ds))
    by true again = refl
    by false again = ap (λ r. p d || r) again ∙ swapped (p d) (p c) (list_any p ds)

sorted_any : (p : InitCall → Bool) (cs : List InitCall) → list_any p (by_priority cs) ≡ list_any p cs
sorted_any p [] = refl
sorted_any p (c ∷ cs) = insert_any p c (by_priority cs) ∙ ap (λ r. p c || r) (sorted_any p cs)

any_flat : {A B : Type 0} (p : B → Bool) (f : A → List B) (xs : List A) → list_any p (flat_map f xs) ≡ list_any (λ x. list_any p (f x)) xs
any_flat p f [] = refl
any_flat p f (x ∷ xs) = list_any-append p (f x) (flat_map f xs) ∙ ap (λ b. list_any p (f x) || b) (any_flat p f xs)

any_map : {A B : Type 0} (p : B → Bool) (f : A → B) (xs : List A) → list_any p (map f xs) ≡ list_any (λ x. p (f x)) xs
any_map p f [] = refl
any_map p f (x ∷ xs) = ap (λ b. p (f x) || b) (any_map p f xs)

-- ---- all parts

module _ (p : Program) (strict : p.plan.loose_calls ≡ false) (rise : InputsRise 0 p.objects) (is_resolved : p.resolved ≡ resolve Plain p.plan.allow_undefined p.entries p.objects)
    (all : List Candidate) (parts_are : p.parts ≡ loose_parts p.plan.loose_calls p.entries (parts_of Plain all p.objects p.resolved)) where
  abbrev means : InputSymbol → Meaning
  means e = meaning Plain (uses_of Plain p.objects) p.plan.allow_undefined p.entries e

  abbrev resolved : Object → Resolved
  resolved o = resolved_in Plain (uses_of Plain p.objects) p.plan.allow_undefined p.entries p.objects o

  resolved_are : p.resolved ≡ map resolved p.objects
  unfolding resolve
  resolved_are = is_resolved

  plain_parts : p.parts ≡ parts_of Plain all p.objects p.resolved
  plain_parts = parts_are ∙ ap (λ b. loose_parts b p.entries (parts_of Plain all p.objects p.resolved)) strict

  -- a symbol of an object, which is lost
  module _ (o : Object) (i : ℕ) (o_at : slice_get p.objects i ≡ Some o) (e : InputSymbol) (k : ℕ) (e_at : slice_get (symbols_of p.objects o) k ≡ Some e) (lost : is_lost e ≡ true) where
    e_is : (e.input ≡ o.input) × (e.place ≡ k)
    e_is = let r = symbol_at p.objects o 0 o.symbols k e e_at in (r.0, r.1 ∙ (let h : 0 + k ≡ k = omega arith in h))

    -- of another object no reference names it
    other_symbol : (x : Object) → (x.input == o.input) ≡ false → (s : ℕ) → option_any (λ y. same_entry y e) (slice_get (symbols_of p.objects x) s) ≡ false
    other_symbol x differ s = by (slice_get (symbols_of p.objects x) s) refl
      where
        by : (y : Option InputSymbol) → slice_get (symbols_of p.objects x) s ≡ y → option_any (λ y. same_entry y e) y ≡ false
        by None at = refl
        by (Some y) at =
            let y_is = symbol_at p.objects x 0 x.symbols s y at in
            let apart : (y.input == e.input) ≡ false = (λ j. y_is.0 j == e_is.0 j) ∙ differ in
            ap (λ b. b && (y.place == e.place)) apart

    -- of its own object those do that name its place
    own_symbol : (s : ℕ) → option_any (λ y. same_entry y e) (slice_get (symbols_of p.objects o) s) ≡ (s == k)
    own_symbol s = by (slice_get (symbols_of p.objects o) s) refl
      where
        nowhere : slice_get (symbols_of p.objects o) s ≡ None → (b : Bool) → (s == k) ≡ b → false ≡ b
        nowhere none false is = refl
        nowhere none true is = absurd (none-some e (sym none ∙ (ap (slice_get (symbols_of p.objects o)) (eqb-true s k is) ∙ e_at)))

        by : (y : Option InputSymbol) → slice_get (symbols_of p.objects o) s ≡ y → option_any (λ y. same_entry y e) y ≡ (s == k)
        by None at = nowhere at (s == k) refl
        by (Some y) at =
            let y_is = symbol_at p.objects o 0 o.symbols s y at in
            let input : (y.input == e.input) ≡ true = (λ j. y_is.0 j == e_is.0 j) ∙ eq-eqb o.input o.input refl in
            let place : y.place ≡ s = y_is.1 ∙ (let h : 0 + s ≡ s = omega arith in h) in
            (λ j. input j && (place j == e_is.1 j))

    -- ---- the parts of objects

    abbrev names_it : Part → Bool
    names_it part = list_any (λ (ref : Ref). same_entry ref.entry e) (refs part)

    abbrev by_object : Object → Bool
    by_object x = list_any names_it (parts_in all p.objects (resolved x))

    not_own : (x : Object) → (x.input == o.input) ≡ false → by_object x ≡ false
    not_own x differ = parts_none p.objects (resolved x) means refl e all (other_symbol x differ)

    own : (parts : ObjectParts) → ArePartsOf p.objects o parts → by_object o ≡ list_any (λ m. m == k) (named_in o parts)
    own parts are =
        parts_name p.objects (resolved o) means refl e all (drop (length parts.imports.functions) parts.dropped_functions) parts.dropped_segments of_functions (λ j g. are.segments j)
        ∙ any_agree (is_e p.objects (resolved o) means refl e) (λ m. m == k) own_symbol (named_in o parts)
      where
        imported : length (function_imports o) ≡ length parts.imports.functions
        imported = sym (sym (length-map parts.imports.functions (slice_get o.imports)) ∙ (ap length (are.imports Function) ∙ length-map (function_imports o) (λ (i : Import). Some i)))

        of_functions : (j : ℕ) (f : FunctionDef) → is_part_kept all p.objects (resolved o) (function_part all p.objects (resolved o) j f) ≡ not (get_or (drop (length parts.imports.functions) parts.dropped_functions) j false)
        of_functions j f =
            are.functions (j + length (function_imports o))
            ∙ (ap (λ n. not (get_or parts.dropped_functions (j + n) false)) imported
            ∙ ap not (sym (get_drop (length parts.imports.functions) parts.dropped_functions j)))

    -- ---- the linker's parts

    abbrev call_names : InitCall → Bool
    call_names c = same_entry c.ref.entry e

    abbrev kept_call : InitCall → Bool
    kept_call c = not (is_skipped c) && call_names c

    and_false : (b : Bool) → (b && false) ≡ false
    and_false true = refl
    and_false false = refl

    skips_e : (not (is_undefined e.symbol) && not e.defines) ≡ true
    skips_e = by (is_local e.symbol) (is_undefined e.symbol) e.defines lost
      where
        by : (a b d : Bool) → ((a && not b) && not d) ≡ true → (not b && not d) ≡ true
        by true b d is = is
        by false b d is = absurd cc

    one_call : (x : Object) (f : InitFunc) → ((s : ℕ) (y : InputSymbol) → slice_get (symbols_of p.objects x) s ≡ Some y → (not (not (is_undefined y.symbol) && not y.defines) && same_entry y e) ≡ false)
        → option_any kept_call (init_call (resolved x) f) ≡ false
    one_call x f none =
        ap (λ m. option_any kept_call (option_map (λ (ref : Ref). record { priority = f.priority; ref = ref }) (ref_to 0 0 (pos 0) (slice_get (symbols_of p.objects x) f.symbol) m))) (slice_get-map means (symbols_of p.objects x) f.symbol)
        ∙ by (slice_get (symbols_of p.objects x) f.symbol) refl
      where
        by : (y : Option InputSymbol) → slice_get (symbols_of p.objects x) f.symbol ≡ y
            → option_any kept_call (option_map (λ (ref : Ref). record { priority = f.priority; ref = ref }) (ref_to 0 0 (pos 0) y (option_map means y))) ≡ false
        by None at = refl
        by (Some y) at = none f.symbol y at

    calls_in : (x : Object) → ((f : InitFunc) → option_any kept_call (init_call (resolved x) f) ≡ false) → list_any call_names (init_calls_in (resolved x)) ≡ false
    calls_in x none = any_filter call_names (λ c. not (is_skipped c)) (filter_map (init_call (resolved x)) x.inits) ∙ each x.inits
      where
        given : (o : Option InitCall) (cs : List InitCall) → option_any kept_call o ≡ false → list_any kept_call cs ≡ false → list_any kept_call (cons_option o cs) ≡ false
        given None cs a b = b
        given (Some c) cs a b = λ j. a j || b j

        each : (fs : List InitFunc) → list_any kept_call (filter_map (init_call (resolved x)) fs) ≡ false
        each [] = refl
        each (f ∷ fs) = given (init_call (resolved x) f) (filter_map (init_call (resolved x)) fs) (none f) (each fs)

    other_calls : (x : Object) → (x.input == o.input) ≡ false → list_any call_names (init_calls_in (resolved x)) ≡ false
    other_calls x differ =
        calls_in x (λ f. one_call x f (λ s y at.
        let apart : same_entry y e ≡ false = ap (option_any (λ y. same_entry y e)) (sym at) ∙ other_symbol x differ s in
        ap (λ b. not (not (is_undefined y.symbol) && not y.defines) && b) apart ∙ and_false (not (not (is_undefined y.symbol) && not y.defines))))

    own_calls : list_any call_names (init_calls_in (resolved o)) ≡ false
    own_calls = calls_in o (λ f. one_call o f (λ s y at. by s y at (s == k) refl))
      where
        by : (s : ℕ) (y : InputSymbol) → slice_get (symbols_of p.objects o) s ≡ Some y → (b : Bool) → (s == k) ≡ b → (not (not (is_undefined y.symbol) && not y.defines) && same_entry y e) ≡ false
        by s y at true is =
            let same : e ≡ y = same_Some e y (sym e_at ∙ (ap (slice_get (symbols_of p.objects o)) (sym (eqb-true s k is)) ∙ at)) in
            let skips : (not (is_undefined y.symbol) && not y.defines) ≡ true = ap (λ (z : InputSymbol). not (is_undefined z.symbol) && not z.defines) (sym same) ∙ skips_e in
            ap (λ b. not b && same_entry y e) skips
        by s y at false is =
            let apart : same_entry y e ≡ false = ap (option_any (λ y. same_entry y e)) (sym at) ∙ (own_symbol s ∙ is) in
            ap (λ b. not (not (is_undefined y.symbol) && not y.defines) && b) apart ∙ and_false (not (not (is_undefined y.symbol) && not y.defines))

    abbrev calls : List Ref
    calls = init_calls p.resolved

    calls_none : list_any (λ (ref : Ref). same_entry ref.entry e) calls ≡ false
    unfolding init_calls
    calls_none =
        any_map (λ (ref : Ref). same_entry ref.entry e) (λ (c : InitCall). c.ref) (by_priority (flat_map init_calls_in p.resolved))
        ∙ (sorted_any call_names (flat_map init_calls_in p.resolved)
        ∙ (any_flat call_names init_calls_in p.resolved
        ∙ (ap (list_any (λ r. list_any call_names (init_calls_in r))) resolved_are
        ∙ (any_map (λ r. list_any call_names (init_calls_in r)) resolved p.objects
        ∙ (any_only o 0 p.objects (λ x. list_any call_names (init_calls_in (resolved x))) i other_calls rise o_at ∙ own_calls)))))

    made_none : (place : ℕ) (ms : List MadeSymbol) → list_any names_it (made_parts_from calls place ms) ≡ false
    made_none place [] = refl
    made_none place (m ∷ ms) = by (made_kind m.kind) (made_none (place + 1) ms)
      where
        rest : List Part
        rest = made_parts_from calls (place + 1) ms

        symbols_refs : (rs : List Ref) → filter_map named_ref (map a_symbol rs) ≡ rs
        symbols_refs [] = refl
        symbols_refs (r ∷ rs) = ap (λ l. r ∷ l) (symbols_refs rs)

        named_none : (b : Bool) → list_any (λ (ref : Ref). same_entry ref.entry e) (filter_map named_ref (cond b (map a_symbol calls) [])) ≡ false
        named_none true = ap (list_any (λ (ref : Ref). same_entry ref.entry e)) (symbols_refs calls) ∙ calls_none
        named_none false = refl

        by : (o : Option ℕ) → list_any names_it rest ≡ false → list_any names_it (option_onto (option_map (λ (kind : ℕ). record {
          chunk = record { input = 0; kind = kind; index = place };
          content = linker_made m;
          source = no_source;
          named = cond ((kind == 0) && (place == 0)) (map a_symbol calls) [];
        }) o) rest) ≡ false
        by None again = again
        by (Some kind) again = let h = named_none ((kind == 0) && (place == 0)) in λ j. h j || again j

    -- ---- all of them

    all_refs : (parts : ObjectParts) → ArePartsOf p.objects o parts → list_any (λ (ref : Ref). same_entry ref.entry e) (refs_of p.parts) ≡ list_any (λ m. m == k) (named_in o parts)
    unfolding parts_of
    all_refs parts are =
        let made_ones = made_none 0 (made Plain) in
        any_flat (λ (ref : Ref). same_entry ref.entry e) refs p.parts
        ∙ (ap (list_any names_it) plain_parts
        ∙ (list_any-append names_it (made_parts_from calls 0 (made Plain)) (flat_map (parts_in all p.objects) p.resolved)
        ∙ ((λ j. made_ones j || list_any names_it (flat_map (parts_in all p.objects) p.resolved))
        ∙ (any_flat names_it (parts_in all p.objects) p.resolved
        ∙ (ap (list_any (λ r. list_any names_it (parts_in all p.objects r))) resolved_are
        ∙ (any_map (λ r. list_any names_it (parts_in all p.objects r)) resolved p.objects
        ∙ (any_only o 0 p.objects by_object i not_own rise o_at ∙ own parts are)))))))

  -- ---- an object

  abbrev is_there : InputSymbol → Bool
  is_there e = list_any (λ (ref : Ref). same_entry ref.entry e) (refs_of p.parts)

  as_long : (o : Object) (q : ℕ) (ss : List Symbol) → length (entries_from p.objects o q ss) ≡ length ss
  as_long o q [] = refl
  as_long o q (s ∷ ss) = ap suc (as_long o (q + 1) ss)

  object_is : (o : Object) (i : ℕ) → slice_get p.objects i ≡ Some o → (parts : ObjectParts) → ArePartsOf p.objects o parts
      → object_fault p.objects o parts ≡ option_map fault_of (find (λ e. is_lost e && is_there e) (symbols_of p.objects o))
  object_is o i o_at parts are = by (list_any is_lost (symbols_of p.objects o)) refl
    where
      flag : (k : ℕ) (e : InputSymbol) → slice_get (symbols_of p.objects o) k ≡ Some e → is_lost e ≡ true → get_or (flags_of o parts) (0 + k) false ≡ is_there e
      flag k e at lost =
          let long = as_long o 0 o.symbols in
          let within = slice_get_within (symbols_of p.objects o) k e at in
          let plain : 0 + k ≡ k = omega arith in
          ap (λ n. get_or (flags_of o parts) n false) plain
          ∙ (flag_is (length o.symbols) (named_in o parts) k (omega (arith, long, within)) ∙ sym (all_refs o i o_at e k at lost parts are))

      by : (b : Bool) → list_any is_lost (symbols_of p.objects o) ≡ b
          → (if b then option_map fault_of (first_flagged (flags_of o parts) 0 (symbols_of p.objects o)) else None) ≡ option_map fault_of (find (λ e. is_lost e && is_there e) (symbols_of p.objects o))
      by true loses = ap (option_map fault_of) (flagged_is (flags_of o parts) is_there 0 (symbols_of p.objects o) flag)
      by false loses = ap (option_map fault_of) (sym (none_lost is_there (symbols_of p.objects o) loses))

  -- ---- all objects

  either : (a b : Option InputSymbol) → first_some (option_map fault_of a ∷ option_map fault_of b ∷ []) ≡ option_map fault_of (option_or a b)
  either None None = refl
  either None (Some b) = refl
  either (Some a) b = refl

  faults : (os : List Object) (pss : List ObjectParts) (from : ℕ) → length pss ≡ length os → ((j : ℕ) (o : Object) → slice_get os j ≡ Some o → slice_get p.objects (from + j) ≡ Some o)
      → ((j : ℕ) (o : Object) (ps : ObjectParts) → slice_get os j ≡ Some o → slice_get pss j ≡ Some ps → ArePartsOf p.objects o ps)
      → first_fault p.objects os pss ≡ option_map fault_of (find (λ e. is_lost e && is_there e) (flat_map (symbols_of p.objects) os))
  faults [] pss from count there are = refl
  faults (o ∷ os) [] from count there are = absurd (omega (arith, count))
  faults (o ∷ os) (ps ∷ pss) from count there are =
      let none : from ≡ from + 0 = omega arith in
      let first = object_is o from (ap (slice_get p.objects) none ∙ there 0 o refl) ps (are 0 o ps refl refl) in
      let rest = faults os pss (from + 1) (omega (arith, count)) (λ j x at. let k : from + 1 + j ≡ from + suc j = omega arith in ap (slice_get p.objects) k ∙ there (suc j) x at) (λ j x ys at beside. are (suc j) x ys at beside) in
      (λ j. first_some (first j ∷ rest j ∷ []))
      ∙ (either (find (λ e. is_lost e && is_there e) (symbols_of p.objects o)) (find (λ e. is_lost e && is_there e) (flat_map (symbols_of p.objects) os))
      ∙ ap (option_map fault_of) (sym (find-append (λ e. is_lost e && is_there e) (symbols_of p.objects o) (flat_map (symbols_of p.objects) os))))

  by_object_symbols : (os : List Object) → flat_map (λ (r : Resolved). r.symbols) (map resolved os) ≡ flat_map (symbols_of p.objects) os
  by_object_symbols [] = refl
  by_object_symbols (o ∷ os) = ap (λ es. symbols_of p.objects o ++ es) (by_object_symbols os)

  pub open_is : (parts : List ObjectParts) → AreParts p.objects parts → first_fault p.objects p.objects parts ≡ open_local p
  unfolding open_local
  open_is parts are =
      faults p.objects parts 0 are.count (λ j o at. let k : 0 + j ≡ j = omega arith in ap (slice_get p.objects) k ∙ at) are.each
      ∙ ap (λ es. option_map fault_of (find (λ e. is_lost e && is_there e) es)) (sym (ap (flat_map (λ (r : Resolved). r.symbols)) resolved_are ∙ by_object_symbols p.objects))

-- What the data of a program give.
pub open_told : (d : Data) (p : Program) → IsProgramOf Plain d p → p.plan.loose_calls ≡ false → (parts : List ObjectParts) → AreParts p.objects parts → first_fault p.objects p.objects parts ≡ open_local p
open_told d p is strict parts are = open_is p strict is.rise is.resolved is.parts_are.0 is.parts_are.1 parts are
