-- The init functions that the later link calls are those of the whole one, in one order.
use Rattle.std.proofs.Common.{◌≡◌, ℕ, ◌==◌, Bool, true, false, not, ◌||◌, ◌&&◌, List, [], ◌∷◌, ◌++◌, map, filter, inl, inr, refl, sym, ap, ◌∙◌, subst}
use Rattle.std.specs.Prelude.{if◌then◌else◌, nat_le, Option, Some, None, option_map, slice_get, find, filter_map, flat_map, ℤ, pos}
use Rattle.std.specs.List.{AllZip, cons_option, list_all}
use Rattle.std.proofs.lemmas.Bool.{and_parts}
use Rattle.std.proofs.lemmas.Option.{slice_get-map}
use Rattle.list_places.specs.Has.{Has}
use Rattle.list_places.proofs.Lists.{all_has, has_at, has_left, has_right, has_filter, filter_has, has_flat, flat_has, has_pick, pick_has, map_has, some_is}
use Rattle.name_rules.specs.object_file.wl_base.Choice.{has_name}
use Rattle.name_rules.specs.object_file.linking_section.declared.symbol.Symbol.{Symbol}
use Rattle.name_rules.specs.object_file.linking_section.declared.symbol.SymbolKind.{SymbolKind}
use Rattle.name_rules.specs.object_file.linking_section.declared.symbol.SymbolKind.TheVariants.{Function, Datum, GlobalVar, Section, Table}
use Rattle.name_rules.specs.object_file.linking_section.declared.init.InitFunc.{InitFunc}
use Rattle.name_rules.specs.object_file.linking_section.Flags.{kind_code, is_undefined}
use Rattle.object_file.specs.Sound.{Sound, IsInit}
use Rattle.object_rules.specs.Relocs.{may_name}
use Rattle.object_rules.specs.Metadata.{is_function_kind}
use Rattle.name_rules.specs.object_file.declared.object.Object.{Object}
use Rattle.made_symbols.specs.declared.mode.Mode.TheVariants.{Plain}
use Rattle.made_symbols.specs.Made.{made_at}
use Rattle.name_rules.specs.Entries.{InputSymbol, name_of, is_kind, is_entry, symbols_of, made_entry}
use Rattle.name_rules.specs.Meanings.{Meaning, winner}
use Rattle.link_rules.specs.Program.{Program, Part, Named, a_symbol, a_type, Ref, refs, named_ref, ref_to, ref_in, InitCall, init_call, is_skipped, init_calls_in, insert_call, by_priority, init_calls}
use Rattle.link_rules.specs.Marks.{refs_of}
use Rattle.partial_rules.specs.Partial.{init_for, symbol_number}
use Rattle.partial_rules.specs.Moving.{AlikeRef}
use Rattle.partial_laws.specs.Inputs.{Run, Objects, as_input, alone, later, whole_objects, run_objects, later_objects, AreCut}
use Rattle.partial_laws.specs.Standing.{alone_symbol, joining}
use Rattle.partial_laws.specs.Joining.{Joining}
use Rattle.partial_laws.specs.Premises.{names_in_groups, wins_in, init_stands}
use Rattle.partial_laws.proofs.Symbols.{flat_of_map, alone_symbols}
use Rattle.partial_laws.proofs.Loading.{middle_found}
use Rattle.partial_laws.proofs.Stated.{names}
use Rattle.partial_parts_laws.specs.Linked.{Links, alone_program, whole_program, later_program}
use Rattle.partial_parts_laws.specs.Moves.{moving, StandsInLinks}
use Rattle.partial_parts_laws.specs.Alike.{HeldChunk, HeldSymbol, CallsAlike, CallsAreAlike}
use Rattle.partial_parts_laws.proofs.Zips.{BothOr, zip_more, zip_filter, zip_picked, zip_middle}
use Rattle.partial_parts_laws.proofs.Parts.{res, own_parts, object_parts, parts_are, resolved_are}
use Rattle.partial_parts_laws.proofs.RunParts.{own_part}
use Rattle.partial_parts_laws.proofs.ByKind.{whole_zip}
use Rattle.partial_parts_laws.proofs.Symbols.{symbol_at}
use Rattle.partial_parts_laws.proofs.Referred.{whole_meaning, StoodBy, stood_by}
use Rattle.partial_parts_laws.proofs.Built.{later_meaning, alike_by, Alikes}
use Rattle.partial_parts_laws.proofs.Outside.{Stays, stays_known, before_stays, behind_stays}
use Rattle.partial_parts_laws.proofs.Inside.{RunRef, alone_meaning, told}
use Rattle.partial_parts_laws.proofs.Skipped.{active, active_alike}

no_true : false ≡ true → ⊥
no_true e = absurd cc

-- ---- lists of calls

pub both_made : {C D : Type 0} (Q : C → D → Type 0) (g : Ref → C) (h : Ref → D) (f : InputSymbol → InputSymbol) (m n : InputSymbol → Meaning) (place kind : ℕ) (addend : ℤ) (x : Option InputSymbol) (mx : Option Meaning) (y : Option InputSymbol) (my : Option Meaning)
    → mx ≡ option_map m x → y ≡ option_map f x → my ≡ option_map n y
    → ((e : InputSymbol) → x ≡ Some e → Q (g (record { place = place; kind = kind; addend = addend; entry = e; meaning = m e })) (h (record { place = place; kind = kind; addend = addend; entry = f e; meaning = n (f e) })))
    → BothOr Q (option_map g (ref_to place kind addend x mx)) (option_map h (ref_to place kind addend y my))
both_made Q g h f m n place kind addend None mx y my a b c each = subst (λ z. BothOr Q None (option_map h (ref_to place kind addend z my))) (sym b) tt
both_made {C} {D} Q g h f m n place kind addend (Some e) mx y my a b c each =
    subst (λ z. BothOr Q (option_map g (ref_to place kind addend (Some e) z)) (option_map h (ref_to place kind addend y my))) (sym a)
    (subst (λ z. BothOr Q first (option_map h (ref_to place kind addend z my))) (sym b)
    (subst (λ z. BothOr Q first (option_map h (ref_to place kind addend (Some (f e)) z))) (sym (c ∙ ap (option_map n) b)) (each e refl)))
  where
    first : Option C
    first = Some (g (record { place = place; kind = kind; addend = addend; entry = e; meaning = m e }))

-- calls side by side stay so where they are sorted
module _ (R : InitCall → InitCall → Type 0) (first : (c d : InitCall) → R c d → d.priority ≡ c.priority) where
  insert_zip : (c d : InitCall) → R c d → (xs ys : List InitCall) → AllZip R xs ys → AllZip R (insert_call c xs) (insert_call d ys)
  insert_zip c d r [] [] z = (r, tt)
  insert_zip c d r [] (y ∷ ys) z = absurd z
  insert_zip c d r (x ∷ xs) [] z = absurd z
  insert_zip c d r (x ∷ xs) (y ∷ ys) z =
      subst (λ b. AllZip R (if nat_le c.priority x.priority then c ∷ x ∷ xs else x ∷ insert_call c xs) (if b then d ∷ y ∷ ys else y ∷ insert_call d ys))
      (sym (ap (λ n. nat_le n y.priority) (first c d r) ∙ ap (λ n. nat_le c.priority n) (first x y z.0))) (by_test (nat_le c.priority x.priority) (insert_zip c d r xs ys z.1))
    where
      by_test : (b : Bool) → AllZip R (insert_call c xs) (insert_call d ys) → AllZip R (if b then c ∷ x ∷ xs else x ∷ insert_call c xs) (if b then d ∷ y ∷ ys else y ∷ insert_call d ys)
      by_test true rest = (r, z)
      by_test false rest = (z.0, rest)

  pub sorted_zip : (xs ys : List InitCall) → AllZip R xs ys → AllZip R (by_priority xs) (by_priority ys)
  sorted_zip [] [] z = tt
  sorted_zip [] (y ∷ ys) z = absurd z
  sorted_zip (x ∷ xs) [] z = absurd z
  sorted_zip (x ∷ xs) (y ∷ ys) z = insert_zip x y z.0 (by_priority xs) (by_priority ys) (sorted_zip xs ys z.1)

insert_own : (c : InitCall) (ds : List InitCall) → Has (insert_call c ds) c
insert_own c [] = inl refl
insert_own c (d ∷ ds) = by_test (nat_le c.priority d.priority) (insert_own c ds)
  where
    by_test : (b : Bool) → Has (insert_call c ds) c → Has (if b then c ∷ d ∷ ds else d ∷ insert_call c ds) c
    by_test true rest = inl refl
    by_test false rest = inr rest

insert_keeps : (c : InitCall) (ds : List InitCall) (x : InitCall) → Has ds x → Has (insert_call c ds) x
insert_keeps c [] x has = absurd has
insert_keeps c (d ∷ ds) x has = by_test (nat_le c.priority d.priority) has (insert_keeps c ds x)
  where
    by_test : (b : Bool) → Has (d ∷ ds) x → (Has ds x → Has (insert_call c ds) x) → Has (if b then c ∷ d ∷ ds else d ∷ insert_call c ds) x
    by_test true h rest = inr h
    by_test false (inl e) rest = inl e
    by_test false (inr h) rest = inr (rest h)

pub has_sorted : (cs : List InitCall) (x : InitCall) → Has cs x → Has (by_priority cs) x
has_sorted [] x has = has
has_sorted (c ∷ cs) x (inl e) = subst (Has (insert_call c (by_priority cs))) e (insert_own c (by_priority cs))
has_sorted (c ∷ cs) x (inr h) = insert_keeps c (by_priority cs) x (has_sorted cs x h)

map_zip : {A B C D : Type 0} (R : A → B → Type 0) (Q : C → D → Type 0) (f : A → C) (g : B → D) → ((x : A) (y : B) → R x y → Q (f x) (g y)) → (xs : List A) (ys : List B) → AllZip R xs ys → AllZip Q (map f xs) (map g ys)
map_zip R Q f g each [] [] z = tt
map_zip R Q f g each [] (y ∷ ys) z = absurd z
map_zip R Q f g each (x ∷ xs) [] z = absurd z
map_zip R Q f g each (x ∷ xs) (y ∷ ys) z = (each x y z.0, map_zip R Q f g each xs ys z.1)

-- each is told, and all are
zip_some : {A B C : Type 0} (Q : A → C → Type 0) (k : A → B) (f : B → Option C) (ys : List A) → ((y : A) → Has ys y → (z : C) × (f (k y) ≡ Some z) × Q y z) → AllZip Q ys (filter_map f (map k ys))
zip_some Q k f [] each = tt
zip_some {A} {B} {C} Q k f (y ∷ ys) each =
    let it = each y (inl refl) in
    subst (λ o. AllZip Q (y ∷ ys) (cons_option o (filter_map f (map k ys)))) (sym it.1) (it.2, zip_some Q k f ys (λ x h. each x (inr h)))

-- an init function is a function
function_may : (k : SymbolKind) → is_function_kind k ≡ true → may_name 0 k ≡ true
function_may Function h = refl
function_may Datum h = absurd cc
function_may GlobalVar h = absurd cc
function_may Section h = absurd cc
function_may Table h = absurd cc

function_section : (k : SymbolKind) → is_function_kind k ≡ true → (kind_code k == kind_code Section) ≡ false
function_section Function h = refl
function_section Datum h = absurd cc
function_section GlobalVar h = absurd cc
function_section Section h = absurd cc
function_section Table h = absurd cc

init_kind : (o : Object) (y : Option Symbol) (sy : Symbol) → y ≡ Some sy → IsInit o y → is_function_kind sy.kind ≡ true
init_kind o y sy is told = (subst (IsInit o) is told).0

module _ (run : Run) (os : Objects) (ls : Links) (s : StandsInLinks run os ls) where
  abbrev cut : AreCut run os
  cut = s.names.cut

  abbrev p : Program
  p = alone_program run os ls

  abbrev P : Program
  P = whole_program run os ls

  abbrev Q : Program
  Q = later_program run os ls

  abbrev W : List Object
  W = whole_objects os

  abbrev L : List Object
  L = later_objects run os

  abbrev RO : List Object
  RO = run_objects run os

  abbrev M : List InputSymbol
  M = flat_map (symbols_of W) os.middle

  abbrev j : Joining
  j = joining run os p

  abbrev al : InputSymbol → InputSymbol
  al = alone_symbol run os

  abbrev in_run : Object → Object
  in_run o = as_input (alone run o.input) o

  abbrev AlikeRefs : Ref → Ref → Type 0
  AlikeRefs a b = AlikeRef (moving run os p) (HeldChunk run os ls) (HeldSymbol run os ls) a b

  record AlikeCall (c d : InitCall) : Type 0 where
    priority : d.priority ≡ c.priority
    ref : AlikeRefs c.ref d.ref

  abbrev called : InitCall → Bool
  called = λ (c : InitCall). not (is_skipped c)

  abbrev call_by : ℕ → Ref → InitCall
  call_by priority = λ (ref : Ref). record { priority = priority; ref = ref }

  sound_init : (o : Object) → Has W o → (i : InitFunc) → Has o.inits i → IsInit o (slice_get o.symbols i.symbol)
  sound_init o ho i hi =
      let so = all_has (λ (y : Object). (size : ℕ) × Sound size y) W s.sound o ho in
      let sound : Sound so.0 o = so.1 in
      all_has (λ (x : InitFunc). IsInit o (slice_get o.symbols x.symbol)) o.inits sound.inits i hi

  -- ---- outside the run

  stays_calls : (o x : Object) → Stays run os ls s o x → x.inits ≡ o.inits → AllZip AlikeCall (init_calls_in (res ls.whole W o)) (init_calls_in (res ls.after L x))
  stays_calls o x st same =
      zip_more R AlikeCall (λ c d r. r.0) (filter called firsts) (filter called seconds)
      (zip_filter R called called (λ c d r. r.1) firsts seconds
      (subst (λ is. AllZip R firsts (filter_map (λ i. init_call (res ls.after L x) i) is)) (sym same)
      (zip_picked R (λ i. init_call (res ls.whole W o) i) (λ i. init_call (res ls.after L x) i) o.inits each)))
    where
      R : InitCall → InitCall → Type 0
      R c d = AlikeCall c d × (called d ≡ called c)

      firsts : List InitCall
      firsts = filter_map (λ i. init_call (res ls.whole W o) i) o.inits

      seconds : List InitCall
      seconds = filter_map (λ i. init_call (res ls.after L x) i) x.inits

      each : (i : InitFunc) → Has o.inits i → BothOr R (init_call (res ls.whole W o) i) (init_call (res ls.after L x) i)
      each i hi =
          both_made R (call_by i.priority) (call_by i.priority) j.move (whole_meaning run os ls s) (later_meaning run os ls s) 0 0 (pos 0)
          (slice_get (symbols_of W o) i.symbol) (slice_get (map (whole_meaning run os ls s) (symbols_of W o)) i.symbol) (slice_get (symbols_of L x) i.symbol) (slice_get (map (later_meaning run os ls s) (symbols_of L x)) i.symbol)
          (slice_get-map (whole_meaning run os ls s) (symbols_of W o) i.symbol)
          (ap (λ xs. slice_get xs i.symbol) st.symbols ∙ slice_get-map j.move (symbols_of W o) i.symbol)
          (slice_get-map (later_meaning run os ls s) (symbols_of L x) i.symbol)
          (λ e is. let has = has_at (symbols_of W o) i.symbol e is in
          let kind = init_kind o (slice_get o.symbols i.symbol) e.symbol (symbol_at W o 0 o.symbols i.symbol e is) (sound_init o st.there i hi) in
          let known = stays_known run os ls s o x st e has in (
            record { priority = refl; ref = alike_by run os ls s 0 0 (pos 0) e e known known (st.kept e has) refl refl refl (function_section e.symbol.kind kind) (function_may e.symbol.kind kind) },
            let sm = st.same e has in
                ap (λ (t : Bool). not (not t && not (j.move e).defines)) sm.0 ∙ ap (λ (t : Bool). not (not (is_undefined e.symbol) && not t)) sm.1,
          ))

  -- ---- of the run

  record RunCall (a b : InitCall) : Type 0 where
    priority : b.priority ≡ a.priority
    place : b.ref.place ≡ 0
    kind : b.ref.kind ≡ 0
    addend : b.ref.addend ≡ pos 0
    ref : RunRef run os ls s a.ref b.ref

  abbrev run_calls : Object → List InitCall
  run_calls o = filter_map (λ i. init_call (res ls.run_alone RO (in_run o)) i) o.inits

  -- all calls of the run alone
  abbrev alone_calls : List InitCall
  alone_calls = flat_map (λ o. filter called (run_calls o)) os.middle

  alone_is : flat_map (λ r. init_calls_in r) p.resolved ≡ alone_calls
  alone_is = ap (λ rs. flat_map (λ r. init_calls_in r) rs) (resolved_are ls.run_alone RO) ∙ (flat_of_map (λ o. res ls.run_alone RO o) (λ r. init_calls_in r) RO ∙ flat_of_map in_run (λ o. init_calls_in (res ls.run_alone RO o)) os.middle)

  calls_has : (b : InitCall) → Has alone_calls b → Has (init_calls p.resolved) b.ref
  unfolding init_calls
  calls_has b has = map_has (λ (c : InitCall). c.ref) (by_priority (flat_map init_calls_in p.resolved)) b (has_sorted (flat_map init_calls_in p.resolved) b (subst (λ xs. Has xs b) (sym alone_is) has))

  call_referred : (b : InitCall) → Has alone_calls b → Has (refs_of p.parts) b.ref
  call_referred b has =
      flat_has refs p.parts own b.ref (subst (λ xs. Has xs own) (sym (parts_are ls.run_alone RO s.strict_alone)) (has_left (own_parts ls.run_alone RO) (flat_map (object_parts ls.run_alone RO) RO) own (inl refl)))
      (named_has (init_calls p.resolved) b.ref (calls_has b has))
    where
      own : Part
      own = own_part (init_calls p.resolved) (made_entry 0 (made_at Plain 0)) (made_at Plain 0) 0

      named_has : (xs : List Ref) (r : Ref) → Has xs r → Has (filter_map named_ref (map a_symbol xs)) r
      named_has [] r h = absurd h
      named_has (x ∷ xs) r (inl e) = inl e
      named_has (x ∷ xs) r (inr h) = inr (named_has xs r h)

  stands_call : (b : InitCall) → Has alone_calls b → init_stands p b ≡ true
  stands_call b has = all_passes (init_stands p) (flat_map (λ r. init_calls_in r) p.resolved) s.inits b (subst (λ xs. Has xs b) (sym alone_is) has)
    where
      all_passes : {A : Type 0} (t : A → Bool) (xs : List A) → list_all t xs ≡ true → (x : A) → Has xs x → t x ≡ true
      all_passes t [] e x h = absurd h
      all_passes t (y ∷ ys) e x (inl is) = ap t (sym is) ∙ (and_parts (t y) (list_all t ys) e).0
      all_passes t (y ∷ ys) e x (inr h) = all_passes t ys (and_parts (t y) (list_all t ys) e).1 x h

  -- what the one object has for a call
  abbrev joined_call : InitCall → Option InitCall
  joined_call = λ (b : InitCall). init_call (res ls.after L os.joined) (init_for p b)

  abbrev also_of : Option InitCall → Bool
  also_of None = false
  also_of (Some z) = called z

  record JoinedCall (e : InputSymbol) (b : InitCall) : Type 0 where
    stood : StoodBy run os ls s e (symbol_number p (al e))
    is : joined_call b ≡ Some (record { priority = b.priority; ref = record { place = 0; kind = 0; addend = pos 0; entry = j.move stood.by; meaning = later_meaning run os ls s (j.move stood.by) } })

  joined_has : (e : InputSymbol) → Has M e → is_kind Section e ≡ false → (b : InitCall) → Has alone_calls b → b.ref.entry ≡ al e → JoinedCall e b
  joined_has e has section b hb entry =
      let st : StoodBy run os ls s e (symbol_number p (al e)) = stood_by run os ls s e has section b.ref (call_referred b hb) entry in
      let at : slice_get (symbols_of L os.joined) (symbol_number p b.ref.entry) ≡ Some (j.move st.by) = ap (λ x. slice_get (symbols_of L os.joined) (symbol_number p x)) entry ∙ st.at in
      record {
        stood = st;
        is = ap (λ o. option_map (call_by b.priority) (ref_to 0 0 (pos 0) (slice_get (symbols_of L os.joined) (symbol_number p b.ref.entry)) o)) (slice_get-map (later_meaning run os ls s) (symbols_of L os.joined) (symbol_number p b.ref.entry))
            ∙ ap (λ o. option_map (call_by b.priority) (ref_to 0 0 (pos 0) o (option_map (later_meaning run os ls s) o))) at;
      }

  -- where a call of the run alone is from
  record FromRun (b : InitCall) : Type 0 where
    symbol : InputSymbol
    there : Has M symbol
    section : is_kind Section symbol ≡ false
    entry : b.ref.entry ≡ al symbol

  in_whole : (o : Object) → Has os.middle o → Has W o
  in_whole o has = has_right os.before (os.middle ++ os.behind) o (has_left os.middle os.behind o has)

  alone_are : (o : Object) → Has os.middle o → symbols_of RO (in_run o) ≡ map al (symbols_of W o)
  alone_are o has = alone_symbols run os cut o (all_has (λ (y : Object). find (λ (x : Object). x.input == y.input) os.middle ≡ Some y) os.middle (middle_found run os cut s.names.loaded.rise) o has)

  from_run : (b : InitCall) → Has alone_calls b → FromRun b
  from_run b has =
      let f = has_flat (λ o. filter called (run_calls o)) os.middle b has in
      let g = has_filter called (run_calls f.0) b f.2 in
      let r = has_pick (λ i. init_call (res ls.run_alone RO (in_run f.0)) i) f.0.inits b g.0 in
      by_symbol f.0 f.1 r.0 r.1 (slice_get (symbols_of W f.0) r.0.symbol) refl (slice_get (map alone_call_meaning (symbols_of RO (in_run f.0))) r.0.symbol)
      (ap (λ x. option_map (call_by r.0.priority) (ref_to 0 0 (pos 0) x (slice_get (map alone_call_meaning (symbols_of RO (in_run f.0))) r.0.symbol))) (sym (ap (λ xs. slice_get xs r.0.symbol) (alone_are f.0 f.1) ∙ slice_get-map al (symbols_of W f.0) r.0.symbol)) ∙ r.2)
    where
      alone_call_meaning : InputSymbol → Meaning
      alone_call_meaning e = alone_meaning run os ls s e

      by_symbol : (o : Object) → Has os.middle o → (i : InitFunc) → Has o.inits i → (x : Option InputSymbol) → slice_get (symbols_of W o) i.symbol ≡ x → (m : Option Meaning) → option_map (call_by i.priority) (ref_to 0 0 (pos 0) (option_map al x) m) ≡ Some b → FromRun b
      by_symbol o ho i hi None is m told' = absurd cc
      by_symbol o ho i hi (Some e) is None told' = absurd cc
      by_symbol o ho i hi (Some e) is (Some m) told' =
          record {
            symbol = e;
            there = flat_has (symbols_of W) os.middle o e ho (has_at (symbols_of W o) i.symbol e is);
            section = function_section e.symbol.kind (init_kind o (slice_get o.symbols i.symbol) e.symbol (symbol_at W o 0 o.symbols i.symbol e is) (sound_init o (in_whole o ho) i hi));
            entry = ap (λ (c : InitCall). c.ref.entry) (sym (some_is (call_by i.priority (record { place = 0; kind = 0; addend = pos 0; entry = al e; meaning = m })) b told'));
          }

  -- what is skipped in the run alone is in the whole link
  skipped_stays : (e : InputSymbol) → Has M e → active run os ls s (al e) ≡ false → active run os ls s e ≡ false
  skipped_stays e has = by_parts (is_undefined e.symbol) (al e).defines e.defines (λ d. all_has (λ (x : InputSymbol). x.defines ≡ true → (al x).defines ≡ true) M (names run os p s.names).alone_defines e has d)
    where
      by_parts : (u a d : Bool) → (d ≡ true → a ≡ true) → not (not u && not a) ≡ false → not (not u && not d) ≡ false
      by_parts true a d f h = absurd cc
      by_parts false true d f h = absurd cc
      by_parts false false false f h = refl
      by_parts false false true f h = absurd (no_true (f refl))

  run_each : (o : Object) → Has os.middle o → AllZip (λ a b. RunCall a b × ((called b && also_of (joined_call b)) ≡ called a)) (filter_map (λ i. init_call (res ls.whole W o) i) o.inits) (run_calls o)
  run_each o ho = zip_picked (λ a b. RunCall a b × ((called b && also_of (joined_call b)) ≡ called a)) (λ i. init_call (res ls.whole W o) i) (λ i. init_call (res ls.run_alone RO (in_run o)) i) o.inits each
    where
      alone_at : (k : ℕ) (e : InputSymbol) → slice_get (symbols_of W o) k ≡ Some e → slice_get (symbols_of RO (in_run o)) k ≡ Some (al e)
      alone_at k e is = ap (λ xs. slice_get xs k) (alone_are o ho) ∙ (slice_get-map al (symbols_of W o) k ∙ ap (option_map al) is)

      skip : (i : InitFunc) → Has o.inits i → (e : InputSymbol) → slice_get (symbols_of W o) i.symbol ≡ Some e → Has M e → is_kind Section e ≡ false → (b : InitCall) → b ≡ call_by i.priority (record { place = 0; kind = 0; addend = pos 0; entry = al e; meaning = alone_meaning run os ls s (al e) })
          → slice_get (symbols_of RO (in_run o)) i.symbol ≡ Some (al e) → (t : Bool) → active run os ls s (al e) ≡ t → (t && also_of (joined_call b)) ≡ active run os ls s e
      skip i hi e is has section b b_is at false off = sym (skipped_stays e has off)
      skip i hi e is has section b b_is at true on =
          let picked : init_call (res ls.run_alone RO (in_run o)) i ≡ Some b =
          ap (λ m. option_map (call_by i.priority) (ref_to 0 0 (pos 0) (slice_get (symbols_of RO (in_run o)) i.symbol) m)) (slice_get-map (alone_meaning run os ls s) (symbols_of RO (in_run o)) i.symbol)
          ∙ (ap (λ x. option_map (call_by i.priority) (ref_to 0 0 (pos 0) x (option_map (alone_meaning run os ls s) x))) at ∙ ap Some (sym b_is)) in
          let entry : b.ref.entry ≡ al e = ap (λ (c : InitCall). c.ref.entry) b_is in
          let hb : Has alone_calls b = flat_has (λ x. filter called (run_calls x)) os.middle o b ho
          (filter_has called (run_calls o) b (pick_has (λ x. init_call (res ls.run_alone RO (in_run o)) x) o.inits i b hi picked) (ap (active run os ls s) entry ∙ on)) in
          let jc = joined_has e has section b hb entry in
          ap also_of jc.is
          ∙ active_alike run os ls s e has section (symbol_number p (al e)) jc.stood on
          (sym (ap (λ x. not (is_entry x) || not (has_name (names_in_groups p.objects) (name_of x)) || wins_in x.input (winner p.entries (name_of x))) entry) ∙ stands_call b hb)

      each : (i : InitFunc) → Has o.inits i → BothOr (λ a b. RunCall a b × ((called b && also_of (joined_call b)) ≡ called a)) (init_call (res ls.whole W o) i) (init_call (res ls.run_alone RO (in_run o)) i)
      each i hi =
          both_made (λ a b. RunCall a b × ((called b && also_of (joined_call b)) ≡ called a)) (call_by i.priority) (call_by i.priority) al (whole_meaning run os ls s) (alone_meaning run os ls s) 0 0 (pos 0)
          (slice_get (symbols_of W o) i.symbol) (slice_get (map (whole_meaning run os ls s) (symbols_of W o)) i.symbol) (slice_get (symbols_of RO (in_run o)) i.symbol) (slice_get (map (alone_meaning run os ls s) (symbols_of RO (in_run o))) i.symbol)
          (slice_get-map (whole_meaning run os ls s) (symbols_of W o) i.symbol)
          (ap (λ xs. slice_get xs i.symbol) (alone_are o ho) ∙ slice_get-map al (symbols_of W o) i.symbol)
          (slice_get-map (alone_meaning run os ls s) (symbols_of RO (in_run o)) i.symbol)
          (λ e is.
          let kind = init_kind o (slice_get o.symbols i.symbol) e.symbol (symbol_at W o 0 o.symbols i.symbol e is) (sound_init o (in_whole o ho) i hi) in
          let has : Has M e = flat_has (symbols_of W) os.middle o e ho (has_at (symbols_of W o) i.symbol e is) in (
            record {
              priority = refl;
              place = refl;
              kind = refl;
              addend = refl;
              ref = record { place = refl; kind = refl; addend = refl; entry = refl; there = has; meaning = refl; may = function_may e.symbol.kind kind; section = function_section e.symbol.kind kind };
            },
            skip i hi e is has (function_section e.symbol.kind kind) (call_by i.priority (record { place = 0; kind = 0; addend = pos 0; entry = al e; meaning = alone_meaning run os ls s (al e) })) refl (alone_at i.symbol e is) (active run os ls s (al e)) refl,
          ))

  joined_calls : AllZip (λ b z. (joined_call b ≡ Some z) × (called z ≡ also_of (joined_call b))) alone_calls (filter_map (λ i. init_call (res ls.after L os.joined) i) (map (λ c. init_for p c) alone_calls))
  joined_calls =
      zip_some (λ b z. (joined_call b ≡ Some z) × (called z ≡ also_of (joined_call b))) (λ c. init_for p c) (λ i. init_call (res ls.after L os.joined) i) alone_calls
      (λ b hb. let f = from_run b hb in
      let jc = joined_has f.symbol f.there f.section b hb f.entry in
      (record { priority = b.priority; ref = record { place = 0; kind = 0; addend = pos 0; entry = j.move jc.stood.by; meaning = later_meaning run os ls s (j.move jc.stood.by) } }, jc.is, (jc.is, ap also_of (sym jc.is))))

  both : (x y z : InitCall) → Has alone_calls y → RunCall x y → joined_call y ≡ Some z → AlikeCall x z
  both x y z has r q =
      let t = told run os ls s (a_symbol x.ref) (a_symbol y.ref) r.ref (λ ref is. subst (Has (refs_of p.parts)) (ap ref_of is) (call_referred y has)) (λ w is. absurd (no_true (ap is_type is))) in
      by_ref t.0 t.2 (ref_in (res ls.after L os.joined) 0 0 (symbol_number p y.ref.entry) (pos 0))
      (sym (ap (λ n. option_map a_symbol (ref_in (res ls.after L os.joined) n y.ref.kind (symbol_number p y.ref.entry) y.ref.addend)) r.place
      ∙ (ap (λ n. option_map a_symbol (ref_in (res ls.after L os.joined) 0 n (symbol_number p y.ref.entry) y.ref.addend)) r.kind
      ∙ ap (λ n. option_map a_symbol (ref_in (res ls.after L os.joined) 0 0 (symbol_number p y.ref.entry) n)) r.addend)) ∙ t.1) q
    where
      ref_of : Named → Ref
      ref_of (a_symbol ref) = ref
      ref_of (a_type w) = y.ref

      is_type : Named → Bool
      is_type (a_symbol ref) = false
      is_type (a_type w) = true

      by_ref : (n : Named) → Alikes run os ls s (a_symbol x.ref) n → (o : Option Ref) → option_map a_symbol o ≡ Some n → option_map (call_by y.priority) o ≡ Some z → AlikeCall x z
      by_ref n alike None is told' = absurd cc
      by_ref n alike (Some ref) is told' =
          let it : call_by y.priority ref ≡ z = some_is (call_by y.priority ref) z told' in
          subst (AlikeCall x) it (record { priority = r.priority; ref = subst (Alikes run os ls s (a_symbol x.ref)) (sym (some_is (a_symbol ref) n is)) alike })

  middle_calls : AllZip AlikeCall (flat_map (λ o. init_calls_in (res ls.whole W o)) os.middle) (init_calls_in (res ls.after L os.joined))
  middle_calls =
      subst (λ is. AllZip AlikeCall (flat_map (λ o. init_calls_in (res ls.whole W o)) os.middle) (filter called (filter_map (λ i. init_call (res ls.after L os.joined) i) is)))
      (sym (s.read.inits ∙ ap (map (λ c. init_for p c)) alone_is))
      (zip_middle RunCall (λ b z. joined_call b ≡ Some z) AlikeCall (λ o. called) (λ o. called) (λ b. also_of (joined_call b)) called (λ o. filter_map (λ i. init_call (res ls.whole W o) i) o.inits) (λ o. run_calls o) os.middle
      (filter_map (λ i. init_call (res ls.after L os.joined) i) (map (λ c. init_for p c) alone_calls)) run_each joined_calls both)

  all_calls : AllZip AlikeCall (flat_map (λ r. init_calls_in r) P.resolved) (flat_map (λ r. init_calls_in r) Q.resolved)
  all_calls =
      subst (λ xs. AllZip AlikeCall xs (flat_map (λ r. init_calls_in r) Q.resolved)) (sym (ap (λ rs. flat_map (λ r. init_calls_in r) rs) (resolved_are ls.whole W) ∙ flat_of_map (λ o. res ls.whole W o) (λ r. init_calls_in r) W))
      (subst (AllZip AlikeCall (flat_map (λ o. init_calls_in (res ls.whole W o)) W)) (sym (ap (λ rs. flat_map (λ r. init_calls_in r) rs) (resolved_are ls.after L) ∙ flat_of_map (λ o. res ls.after L o) (λ r. init_calls_in r) L))
      (whole_zip run os ls s AlikeCall (λ o. init_calls_in (res ls.whole W o)) (λ o. init_calls_in (res ls.after L o)) [] [] tt
      (λ o has. stays_calls o o (before_stays run os ls s o has) refl)
      middle_calls
      (λ o has. stays_calls o (as_input (later run o.input) o) (behind_stays run os ls s o has) refl)))

  calls_alike : CallsAlike run os ls
  unfolding init_calls
  calls_alike =
      map_zip AlikeCall AlikeRefs (λ (c : InitCall). c.ref) (λ (c : InitCall). c.ref) (λ c d r. r.ref) (by_priority (flat_map init_calls_in P.resolved)) (by_priority (flat_map init_calls_in Q.resolved))
      (sorted_zip AlikeCall (λ c d r. r.priority) (flat_map init_calls_in P.resolved) (flat_map init_calls_in Q.resolved) all_calls)

pub calls_are_alike : CallsAreAlike
calls_are_alike run os ls s = calls_alike run os ls s
