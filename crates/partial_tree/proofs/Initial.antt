-- The init functions that are found are those of the definition.
use Rattle.std.proofs.Common.{◌≡◌, ℕ, zero, suc, ◌+◌, ◌<◌, ◌≤◌, Bool, true, false, not, ◌&&◌, cond, List, [], ◌∷◌, ◌++◌, map, filter, filter_map, flat_map, take, drop, length, slice_get, get_or, Option, Some, None, option_map, option_and_then, pos, refl, sym, ap, ◌∙◌, arith, append_assoc, append-nil}
use Rattle.std.specs.Prelude.{if◌then◌else◌}
use Rattle.std.specs.List.{cons_option}
use Rattle.std.proofs.lemmas.List.{take_more, map-append}
use Rattle.std.proofs.lemmas.List.Elements.{filter_map-append}
use Rattle.std.proofs.lemmas.Option.{slice_get-map, get_or_from_slice_get, none-some}
use Rattle.std.proofs.Math.ListN.{drop_of_length-le}
use Rattle.partial_symbols.specs.link_program.linking_section.Flags.{is_undefined}
use Rattle.partial_symbols.specs.link_program.linking_section.declared.init.InitFunc.{InitFunc}
use Rattle.partial_symbols.specs.link_program.linking_section.declared.symbol.Symbol.{Symbol}
use Rattle.partial_symbols.specs.link_program.object_file.declared.object.Object.{Object}
use Rattle.partial_symbols.specs.link_program.made_symbols.declared.mode.Mode.TheVariants.{Plain}
use Rattle.partial_symbols.specs.link_program.name_rules.Entries.{InputSymbol, symbols_of, entries_from}
use Rattle.partial_symbols.specs.link_program.name_rules.Meanings.{Meaning, Resolved, resolve, resolved_in, uses_of, meaning}
use Rattle.partial_symbols.specs.link_program.name_entries.View.{rows_of, entry_number}
use Rattle.partial_symbols.specs.link_program.link_rules.Program.{Program, Ref, ref_to, InitCall, init_call, init_calls_in, is_skipped}
use Rattle.partial_symbols.specs.link_program.link_rules.Marks.{all_symbols}
use Rattle.partial_symbols.specs.link_program.declared.program.Program.{Program as Data}
use Rattle.partial_symbols.specs.link_program.Program.{IsProgramOf}
use Rattle.partial_symbols.specs.partial_rules.Partial as partial
use Rattle.partial_symbols.specs.partial_rules.Partial.{relocatable}
use Rattle.partial_symbols.specs.Standing.{Stood}
use Rattle.partial_symbols.specs.Known.{AreStanding}
use Rattle.partial_symbols.specs.Referring.{number_by_name}
use Rattle.partial_symbols.proofs.Whole.{symbols_all}
use Rattle.partial_symbols.proofs.Referring.{number_at}
use Rattle.partial_tree.specs.Inits.{init_with, init_at, inits_from}

-- ---- loops

pub found_more : {A B : Type 0} (f : A → Option B) (xs : List A) (i : ℕ) (d : A) → i < length xs → (first old new : List B) → new ≡ old ++ cons_option (f (get_or xs i d)) [] → old ≡ first ++ filter_map f (take i xs)
    → new ≡ first ++ filter_map f (take (i + 1) xs)
found_more f xs i d lt first old new put so_far =
    put ∙ (ap (λ os. os ++ cons_option (f (get_or xs i d)) []) so_far
    ∙ (append_assoc first (filter_map f (take i xs)) (cons_option (f (get_or xs i d)) [])
    ∙ ap (λ os. first ++ os) (sym (ap (filter_map f) (take_more xs i d lt) ∙ filter_map-append f (take i xs) (get_or xs i d ∷ [])))))

dropped_at : {A : Type 0} (xs : List A) (i : ℕ) (x : A) → slice_get xs i ≡ Some x → drop i xs ≡ x ∷ drop (i + 1) xs
dropped_at [] i x at = absurd (none-some x at)
dropped_at (y ∷ xs) zero x at = let same : y ≡ x = cc in ap (λ z. z ∷ xs) same
dropped_at {A} (y ∷ xs) (suc i) x at =
    let moved : suc (i + 1) ≡ suc i + 1 = omega arith in
    dropped_at xs i x at ∙ ap (λ k. x ∷ drop {A = A} k (y ∷ xs)) moved

pub object_more : (s : Stood) (names : List (List ℕ)) (objects : List Object) (i start next : ℕ) (o : Object) (old new whole : List InitFunc) → slice_get objects i ≡ Some o → next ≡ start + length o.symbols
    → new ≡ old ++ filter_map (init_at s names objects i start) o.inits → old ++ inits_from s names objects i start (drop i objects) ≡ whole
    → new ++ inits_from s names objects (i + 1) next (drop (i + 1) objects) ≡ whole
object_more s names objects i start next o old new whole at after step so_far =
    (λ j. step j ++ inits_from s names objects (i + 1) (after j) (drop (i + 1) objects))
    ∙ (append_assoc old (filter_map (init_at s names objects i start) o.inits) (inits_from s names objects (i + 1) (start + length o.symbols) (drop (i + 1) objects))
    ∙ (ap (λ (os : List Object). old ++ inits_from s names objects i start os) (sym (dropped_at objects i o at)) ∙ so_far))

pub objects_end : (s : Stood) (names : List (List ℕ)) (objects : List Object) (i start : ℕ) (old whole : List InitFunc) → length objects ≤ i → old ++ inits_from s names objects i start (drop i objects) ≡ whole → old ≡ whole
objects_end s names objects i start old whole past so_far =
    sym (append-nil old) ∙ (ap (λ (os : List Object). old ++ inits_from s names objects i start os) (sym (drop_of_length-le objects past)) ∙ so_far)

past_end : {A : Type 0} (xs : List A) (i : ℕ) → slice_get xs i ≡ None → length xs ≤ i
past_end [] i none = omega arith
past_end (x ∷ xs) zero none = absurd (none-some x (sym none))
past_end (x ∷ xs) (suc i) none = let rest = past_end xs i none in omega (arith, rest)

pub no_object : (s : Stood) (names : List (List ℕ)) (objects : List Object) (i start : ℕ) (old whole : List InitFunc) → slice_get objects i ≡ None → old ++ inits_from s names objects i start (drop i objects) ≡ whole → old ≡ whole
no_object s names objects i start old whole none so_far = objects_end s names objects i start old whole (past_end objects i none) so_far

-- ---- by the definition

module _ (d : Data) (p : Program) (is : IsProgramOf Plain d p) (strict : p.plan.loose_calls ≡ false) (s : Stood) (are : AreStanding p d.names.now.names s) where
  abbrev names : List (List ℕ)
  names = d.names.now.names

  abbrev means : InputSymbol → Meaning
  means e = meaning Plain (uses_of Plain p.objects) p.plan.allow_undefined p.entries e

  abbrev resolved : Object → Resolved
  resolved o = resolved_in Plain (uses_of Plain p.objects) p.plan.allow_undefined p.entries p.objects o

  resolved_are : p.resolved ≡ map resolved p.objects
  unfolding resolve
  resolved_are = is.resolved

  -- one init function, whose symbol is the one at a place
  one_init : (o : Object) (object start : ℕ) → get_or (rows_of p.objects) object [] ≡ symbols_of p.objects o
      → ((k : ℕ) (e : InputSymbol) → slice_get (symbols_of p.objects o) k ≡ Some e → slice_get (all_symbols p) (start + k) ≡ Some e)
      → (fs : List InitFunc) → filter_map (init_at s names p.objects object start) fs ≡ map (partial.init_for p) (filter (λ c. not (is_skipped c)) (filter_map (init_call (resolved o)) fs))
  one_init o object start row there [] = refl
  one_init o object start row there (f ∷ fs) =
      ap (λ (es : List InputSymbol). cons_option (option_and_then (init_with s names (start + f.symbol) f) (slice_get es f.symbol)) (filter_map (init_at s names p.objects object start) fs)) row
      ∙ (by (slice_get (symbols_of p.objects o) f.symbol) refl (one_init o object start row there fs)
      ∙ sym (ap (λ m. map (partial.init_for p) (filter (λ c. not (is_skipped c)) (cons_option (option_map (λ (ref : Ref). record { priority = f.priority; ref = ref }) (ref_to 0 0 (pos 0) (slice_get (symbols_of p.objects o) f.symbol) m)) (filter_map (init_call (resolved o)) fs))))
      (slice_get-map means (symbols_of p.objects o) f.symbol)))
    where
      rest : List InitCall
      rest = filter_map (init_call (resolved o)) fs

      one : (b : Bool) (e : InputSymbol) (xs : List InitFunc) → number_by_name s (start + f.symbol) (entry_number names e) ≡ partial.symbol_number p e → xs ≡ map (partial.init_for p) (filter (λ c. not (is_skipped c)) rest)
          → cons_option (if b then None else Some (record { priority = f.priority; symbol = number_by_name s (start + f.symbol) (entry_number names e) })) xs
          ≡ map (partial.init_for p) (cond (not b) (record { priority = f.priority; ref = record { place = 0; kind = 0; addend = pos 0; entry = e; meaning = means e } } ∷ filter (λ c. not (is_skipped c)) rest) (filter (λ c. not (is_skipped c)) rest))
      one true e xs number again = again
      one false e xs number again = λ i. record { priority = f.priority; symbol = number i } ∷ again i

      by : (x : Option InputSymbol) → slice_get (symbols_of p.objects o) f.symbol ≡ x → filter_map (init_at s names p.objects object start) fs ≡ map (partial.init_for p) (filter (λ c. not (is_skipped c)) rest)
          → cons_option (option_and_then (init_with s names (start + f.symbol) f) x) (filter_map (init_at s names p.objects object start) fs)
          ≡ map (partial.init_for p) (filter (λ c. not (is_skipped c)) (cons_option (option_map (λ (ref : Ref). record { priority = f.priority; ref = ref }) (ref_to 0 0 (pos 0) x (option_map means x))) rest))
      by None at again = again
      by (Some e) at again =
          one (not (is_undefined e.symbol) && not e.defines) e (filter_map (init_at s names p.objects object start) fs) (number_at d p is strict s are (start + f.symbol) e (there f.symbol e at)) again

  get_behind : {A : Type 0} (xs ys : List A) (k : ℕ) (y : A) → slice_get ys k ≡ Some y → slice_get (xs ++ ys) (length xs + k) ≡ Some y
  get_behind [] ys k y at = ap (slice_get ys) (let e : 0 + k ≡ k = omega arith in e) ∙ at
  get_behind (x ∷ xs) ys k y at = ap (slice_get (x ∷ (xs ++ ys))) (let e : suc (length xs) + k ≡ suc (length xs + k) = omega arith in e) ∙ get_behind xs ys k y at

  get_front : {A : Type 0} (xs ys : List A) (k : ℕ) (x : A) → slice_get xs k ≡ Some x → slice_get (xs ++ ys) k ≡ Some x
  get_front [] ys k x at = absurd (none-some x at)
  get_front (z ∷ xs) ys zero x at = at
  get_front (z ∷ xs) ys (suc k) x at = get_front xs ys k x at

  as_long : (o : Object) (q : ℕ) (ss : List Symbol) → length (entries_from p.objects o q ss) ≡ length ss
  as_long o q [] = refl
  as_long o q (x ∷ ss) = ap suc (as_long o (q + 1) ss)

  all_inits : (os : List Object) (object start : ℕ) → ((j : ℕ) (o : Object) → slice_get os j ≡ Some o → slice_get p.objects (object + j) ≡ Some o)
      → ((k : ℕ) (e : InputSymbol) → slice_get (flat_map (symbols_of p.objects) os) k ≡ Some e → slice_get (all_symbols p) (start + k) ≡ Some e)
      → inits_from s names p.objects object start os ≡ map (partial.init_for p) (flat_map init_calls_in (map resolved os))
  all_inits [] object start placed there = refl
  all_inits (o ∷ os) object start placed there =
      let none : object ≡ object + 0 = omega arith in
      let here : slice_get p.objects object ≡ Some o = ap (slice_get p.objects) none ∙ placed 0 o refl in
      let row : get_or (rows_of p.objects) object [] ≡ symbols_of p.objects o = get_or_from_slice_get (rows_of p.objects) object (symbols_of p.objects o) [] (slice_get-map (symbols_of p.objects) p.objects object ∙ ap (option_map (symbols_of p.objects)) here) in
      let first = one_init o object start row (λ k e at. there k e (get_front (symbols_of p.objects o) (flat_map (symbols_of p.objects) os) k e at)) o.inits in
      let long = as_long o 0 o.symbols in
      let rest = all_inits os (object + 1) (start + length o.symbols)
      (λ j x at. let k : object + 1 + j ≡ object + suc j = omega arith in ap (slice_get p.objects) k ∙ placed (suc j) x at)
      (λ k e at. let moved : start + length o.symbols + k ≡ start + (length (symbols_of p.objects o) + k) = omega (arith, long) in
      ap (slice_get (all_symbols p)) moved ∙ there (length (symbols_of p.objects o) + k) e (get_behind (symbols_of p.objects o) (flat_map (symbols_of p.objects) os) k e at)) in
      (λ j. first j ++ rest j)
      ∙ sym (map-append (partial.init_for p) (init_calls_in (resolved o)) (flat_map init_calls_in (map resolved os)))

  pub inits_are : inits_from s names d.objects.now 0 0 d.objects.now ≡ (relocatable p).inits
  unfolding relocatable
  inits_are =
      ap (λ os. inits_from s names os 0 0 os) is.objects
      ∙ (all_inits p.objects 0 0 (λ j o at. let k : 0 + j ≡ j = omega arith in ap (slice_get p.objects) k ∙ at)
      (λ k e at. let plain : 0 + k ≡ k = omega arith in ap (slice_get (all_symbols p)) plain ∙ (ap (λ es. slice_get es k) (symbols_all d p is) ∙ at))
      ∙ ap (λ rs. map (partial.init_for p) (flat_map init_calls_in rs)) (sym resolved_are))
