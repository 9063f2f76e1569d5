-- What a relocation of a debug section names is there: its object, and the symbol of that number in it.
use Rattle.std.proofs.Common.{◌≡◌, ◌∙◌, ℕ, zero, suc, ◌+◌, Bool, true, false, cond, List, [], ◌∷◌, ◌++◌, length, map, filter, slice_get, Contains, Option, Some, None, Result, Ok, Err, refl, ap, subst, arith}
use Rattle.std.specs.List.{AllByRecursion, list_all}
use Rattle.std.proofs.lemmas.Bool.{and_parts}
use Rattle.std.proofs.lemmas.List.Elements.{All-from_recursion, All-contains}
use Rattle.object_file.specs.wasm_module.wasm_instr.wasm_grammar.declared.fault.Stop.{Stop}
use Rattle.object_file.specs.reloc_section.declared.entry.Reloc.{Reloc}
use Rattle.object_file.specs.reloc_section.declared.section.RelocSection.{RelocSection}
use Rattle.object_file.specs.linking_section.declared.symbol.Symbol.{Symbol}
use Rattle.object_file.specs.declared.object.Object.{Object}
use Rattle.valid_links.specs.link_runs.link_program.round_rules.Rounds.{Candidate}
use Rattle.valid_links.specs.link_runs.link_program.name_rules.Entries.{InputSymbol, entry_in, entries_from, symbols_of}
use Rattle.debug_customs.specs.debug_rules.Sections.{Custom, customs, is_debug, payloads_for}
use Rattle.debug_customs.specs.debug_rules.Faults.{Input, Debug, lie_apart, entry_stands, entries_stand, if_stand, relocs_in, debug_at, debug_places, debugs_from, debugs_of, debugs}
use Rattle.debug_tails.specs.link_debug.Places.{input_in, link_inputs}
use Rattle.debug_links.proofs.Candidates.{bind_ok, ok_is}

-- ---- one section

abbrev Names : List Symbol → Reloc → Type 0
Names symbols r = (s : Symbol) × (slice_get symbols r.index ≡ Some s)

symbol_there : (debug : List ℕ) (r : Reloc) (o : Option Symbol) → entry_stands debug r o ≡ true → (s : Symbol) × (o ≡ Some s)
symbol_there debug r None e = absurd cc
symbol_there debug r (Some s) e = (s, refl)

all_there : (debug : List ℕ) (symbols : List Symbol) (rs : List Reloc) → list_all (λ r. entry_stands debug r (slice_get symbols r.index)) rs ≡ true → AllByRecursion (Names symbols) rs
all_there debug symbols [] e = tt
all_there debug symbols (r ∷ rs) e =
    let p = and_parts (entry_stands debug r (slice_get symbols r.index)) (list_all (λ r. entry_stands debug r (slice_get symbols r.index)) rs) e in
    (symbol_there debug r (slice_get symbols r.index) p.0, all_there debug symbols rs p.1)

if_true : (b : Bool) (ss rs : List Reloc) → cond b (Some ss) None ≡ Some rs → (b ≡ true) × (ss ≡ rs)
if_true true ss rs e = (refl, cc)
if_true false ss rs e = absurd cc

spelled_there : (debug : List ℕ) (symbols : List Symbol) (len : ℕ) (x : Result RelocSection Stop) (rs : List Reloc) → if_stand debug symbols len x ≡ Some rs → AllByRecursion (Names symbols) rs
spelled_there debug symbols len (Ok s) rs e =
    let p = if_true (entries_stand debug symbols len s.entries) s.entries rs e in
    subst (AllByRecursion (Names symbols)) p.1
    (all_there debug symbols s.entries (and_parts (list_all (λ r. entry_stands debug r (slice_get symbols r.index)) s.entries) (lie_apart len 0 s.entries) p.0).0)
spelled_there debug symbols len (Err stop) rs e = absurd cc

relocs_there : (debug : List ℕ) (symbols : List Symbol) (len : ℕ) (payloads : List (List ℕ)) (rs : List Reloc) → relocs_in debug symbols len payloads ≡ Some rs → AllByRecursion (Names symbols) rs
relocs_there debug symbols len [] [] e = tt
relocs_there debug symbols len [] (r ∷ rs) e = absurd cc
relocs_there debug symbols len (p ∷ []) rs e = spelled_there debug symbols len _ rs e
relocs_there debug symbols len (p ∷ q ∷ more) rs e = absurd cc

-- ---- all sections

-- of the object of this place, whose symbols the relocations name
abbrev IsOf : ℕ → List Symbol → Debug → Type 0
IsOf object symbols d = (d.object ≡ object) × AllByRecursion (Names symbols) d.relocs

one_of : (object input : ℕ) (symbols : List Symbol) (c : Custom) (found : Option (List Reloc)) (d : Debug) → debug_at object input symbols c found ≡ Ok d
    → ((rs : List Reloc) → found ≡ Some rs → AllByRecursion (Names symbols) rs) → IsOf object symbols d
one_of object input symbols c None d e there = absurd cc
one_of object input symbols c (Some rs) d e there = subst (IsOf object symbols) (ok_is e) (refl, there rs refl)

from_of : (object input : ℕ) (symbols : List Symbol) (debug : List ℕ) (all cs : List Custom) (ds : List Debug) → debugs_from object input symbols debug all cs ≡ Ok ds → AllByRecursion (IsOf object symbols) ds
from_of object input symbols debug all [] ds e = subst (AllByRecursion (IsOf object symbols)) (ok_is e) tt
from_of object input symbols debug all (c ∷ cs) ds e =
    let a = bind_ok (debug_at object input symbols c (relocs_in debug symbols (length c.content) (payloads_for c.at all))) _ ds e in
    let b = bind_ok (debugs_from object input symbols debug all cs) _ ds a.2 in
    let first = one_of object input symbols c _ a.0 a.1 (relocs_there debug symbols (length c.content) (payloads_for c.at all)) in
    subst (AllByRecursion (IsOf object symbols)) (ok_is b.2) (first, from_of object input symbols debug all cs b.0 b.1)

of_input : (object : ℕ) (i : Input) (ds : List Debug) → debugs_of object i ≡ Ok ds → AllByRecursion (IsOf object i.symbols) ds
unfolding debugs_of
of_input object i ds e = from_of object i.input i.symbols (debug_places (customs i.bytes)) (customs i.bytes) (filter is_debug (customs i.bytes)) ds e

-- of the input of that place, counted from here on
abbrev IsOfSome : ℕ → List Input → Debug → Type 0
IsOfSome object inputs d = (k : ℕ) × (i : Input) × (d.object ≡ object + k) × (slice_get inputs k ≡ Some i) × AllByRecursion (Names i.symbols) d.relocs

both : {A : Type 0} (P : A → Type 0) (xs ys : List A) → AllByRecursion P xs → AllByRecursion P ys → AllByRecursion P (xs ++ ys)
both P [] ys h k = k
both P (x ∷ xs) ys h k = (h.0, both P xs ys h.1 k)

each : {A : Type 0} (P Q : A → Type 0) → ((x : A) → P x → Q x) → (xs : List A) → AllByRecursion P xs → AllByRecursion Q xs
each P Q f [] h = tt
each P Q f (x ∷ xs) h = (f x h.0, each P Q f xs h.1)

all_of : (object : ℕ) (inputs : List Input) (ds : List Debug) → debugs object inputs ≡ Ok ds → AllByRecursion (IsOfSome object inputs) ds
all_of object [] ds e = subst (AllByRecursion (IsOfSome object [])) (ok_is e) tt
all_of object (i ∷ is) ds e =
    let a = bind_ok (debugs_of object i) _ ds e in
    let b = bind_ok (debugs (object + 1) is) _ ds a.2 in
    let here = each (IsOf object i.symbols) (IsOfSome object (i ∷ is)) (λ d h. (0, i, omega (arith, h.0), refl, h.1)) a.0 (of_input object i a.0 a.1) in
    let later = each (IsOfSome (object + 1) is) (IsOfSome object (i ∷ is)) (λ d h. (suc h.0, h.1, omega (arith, h.2), h.3, h.4)) b.0 (all_of (object + 1) is b.0 b.1) in
    subst (AllByRecursion (IsOfSome object (i ∷ is))) (ok_is b.2) (both (IsOfSome object (i ∷ is)) a.0 b.0 here later)

-- ---- of a link

mapped : {A B : Type 0} (f : A → B) (xs : List A) (k : ℕ) (y : B) → slice_get (map f xs) k ≡ Some y → (x : A) × (slice_get xs k ≡ Some x) × (f x ≡ y)
mapped f [] k y e = absurd cc
mapped f (x ∷ xs) zero y e = (x, refl, cc)
mapped f (x ∷ xs) (suc k) y e = mapped f xs k y e

entry_there : (objects : List Object) (o : Object) (place : ℕ) (ss : List Symbol) (k : ℕ) (s : Symbol) → slice_get ss k ≡ Some s → (e : InputSymbol) × (slice_get (entries_from objects o place ss) k ≡ Some e)
entry_there objects o place [] k s is = absurd cc
entry_there objects o place (t ∷ ss) zero s is = (entry_in objects o place t, refl)
entry_there objects o place (t ∷ ss) (suc k) s is = entry_there objects o (place + 1) ss k s is

-- the object of a section and the symbol of a relocation
abbrev pub Named : List Object → Debug → Reloc → Type 0
Named objects d r = (o : Object) × (e : InputSymbol) × (slice_get objects d.object ≡ Some o) × (slice_get (symbols_of objects o) r.index ≡ Some e)

pub are_named : (files : List (List ℕ)) (all : List Candidate) (objects : List Object) (sections : List Debug) → debugs 0 (link_inputs files all objects) ≡ Ok sections
    → (d : Debug) → Contains sections d → (r : Reloc) → Contains d.relocs r → Named objects d r
unfolding link_inputs
are_named files all objects sections e d at r in_d =
    let inputs = map (input_in files all) objects in
    let i = All-contains (IsOfSome 0 inputs) sections d (All-from_recursion (IsOfSome 0 inputs) sections (all_of 0 inputs sections e)) at in
    let s = All-contains (Names i.1.symbols) d.relocs r (All-from_recursion (Names i.1.symbols) d.relocs i.4) in_d in
    let o = mapped (input_in files all) objects i.0 i.1 i.3 in
    let there : slice_get objects d.object ≡ Some o.0 = (let n : d.object ≡ i.0 = omega (arith, i.2) in ap (slice_get objects) n) ∙ o.1 in
    let symbol : slice_get o.0.symbols r.index ≡ Some s.0 = ap (λ (x : Input). slice_get x.symbols r.index) o.2 ∙ s.1 in
    let x = entry_there objects o.0 0 o.0.symbols r.index s.0 symbol in
    (o.0, x.0, there, x.1)
