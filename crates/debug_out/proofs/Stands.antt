-- The windows of debug sections lie apart, and hold what is written there.
use Rattle.std.proofs.Common.{ℕ, ◌≡◌, ◌+◌, ◌≤◌, Bool, true, false, cond, nat_le, List, [], ◌∷◌, ◌++◌, length, map, filter, slice_get, slice_range, Contains, Option, Some, None, Result, Ok, Err, refl, subst, arith}
use Rattle.std.specs.Prelude.{◌&&◌}
use Rattle.std.specs.List.{AllByRecursion, list_all}
use Rattle.std.proofs.lemmas.Bool.{and_parts, leb-true}
use Rattle.std.proofs.lemmas.List.Elements.{All-from_recursion, recursion_from_All, All-contains}
use Rattle.wl_base.specs.Choice.{◌>>=◌}
use Rattle.wl_base.specs.declared.fault.Fault.{Fault}
use Rattle.wasm_grammar.specs.declared.fault.Stop.{Stop}
use Rattle.reloc_section.specs.declared.entry.Reloc.{Reloc}
use Rattle.reloc_section.specs.declared.section.RelocSection.{RelocSection}
use Rattle.linking_section.specs.declared.symbol.Symbol.{Symbol}
use Rattle.reloc_apply.specs.declared.window.Form.TheVariants.{Word4}
use Rattle.reloc_apply.specs.declared.window.Patch.{Patch}
use Rattle.reloc_apply.specs.Apart.{AreApart, size_of}
use Rattle.reloc_apply.specs.Windows.{filled, spelled, little}
use Rattle.reloc_apply.proofs.Held.{held_all}
use Rattle.debug_rules.specs.Sections.{Custom, customs, is_debug, payloads_for}
use Rattle.debug_rules.specs.Faults.{Debug, Input, lie_apart, entry_stands, entries_stand, if_stand, relocs_in, debug_at, debug_places, debugs_from, debugs_of, debugs}
use Rattle.debug_out.specs.Windows.{Stands}

pub bind_ok : {A B : Type 0} (r : Result A Fault) (f : A → Result B Fault) (y : B) → (r >>= f) ≡ Ok y → (x : A) × (r ≡ Ok x) × (f x ≡ Ok y)
bind_ok (Ok x) f y e = (x, refl, e)
bind_ok (Err d) f y e = absurd cc

pub ok_is : {A : Type 0} {x y : A} → (let r : Result A Fault = Ok x in r ≡ Ok y) → x ≡ y
ok_is e = cc

-- ---- windows that are judged lie apart

if_true : (b : Bool) (ss rs : List Reloc) → cond b (Some ss) None ≡ Some rs → (b ≡ true) × (ss ≡ rs)
if_true true ss rs e = (refl, cc)
if_true false ss rs e = absurd cc

stand_if : (debug : List ℕ) (symbols : List Symbol) (len : ℕ) (x : Result RelocSection Stop) (rs : List Reloc) → if_stand debug symbols len x ≡ Some rs → lie_apart len 0 rs ≡ true
stand_if debug symbols len (Ok s) rs e =
    let p = if_true (entries_stand debug symbols len s.entries) s.entries rs e in
    subst (λ ss. lie_apart len 0 ss ≡ true) p.1 (and_parts (list_all (λ r. entry_stands debug r (slice_get symbols r.index)) s.entries) (lie_apart len 0 s.entries) p.0).1
stand_if debug symbols len (Err stop) rs e = absurd cc

stand_in : (debug : List ℕ) (symbols : List Symbol) (len : ℕ) (payloads : List (List ℕ)) (rs : List Reloc) → relocs_in debug symbols len payloads ≡ Some rs → lie_apart len 0 rs ≡ true
stand_in debug symbols len [] [] e = refl
stand_in debug symbols len [] (r ∷ rs) e = absurd cc
stand_in debug symbols len (p ∷ []) rs e = stand_if debug symbols len _ rs e
stand_in debug symbols len (p ∷ q ∷ more) rs e = absurd cc

one_stands : (object input : ℕ) (symbols : List Symbol) (c : Custom) (found : Option (List Reloc)) (d : Debug) → debug_at object input symbols c found ≡ Ok d
    → (rs : List Reloc) × (found ≡ Some rs) × (record { object = object; symbols = symbols; section = c; relocs = rs } ≡ d)
one_stands object input symbols c None d e = absurd cc
one_stands object input symbols c (Some rs) d e = (rs, refl, ok_is e)

from_stand : (object input : ℕ) (symbols : List Symbol) (debug : List ℕ) (all cs : List Custom) (ds : List Debug) → debugs_from object input symbols debug all cs ≡ Ok ds → AllByRecursion Stands ds
from_stand object input symbols debug all [] ds e = subst (AllByRecursion Stands) (ok_is e) tt
from_stand object input symbols debug all (c ∷ cs) ds e =
    let a = bind_ok (debug_at object input symbols c (relocs_in debug symbols (length c.content) (payloads_for c.at all))) _ ds e in
    let b = bind_ok (debugs_from object input symbols debug all cs) _ ds a.2 in
    let o = one_stands object input symbols c _ a.0 a.1 in
    let first : Stands a.0 = subst Stands o.2 (stand_in debug symbols (length c.content) (payloads_for c.at all) o.0 o.1) in
    subst (AllByRecursion Stands) (ok_is b.2) (first, from_stand object input symbols debug all cs b.0 b.1)

pub both : {A : Type 0} (P : A → Type 0) (xs ys : List A) → AllByRecursion P xs → AllByRecursion P ys → AllByRecursion P (xs ++ ys)
both P [] ys h k = k
both P (x ∷ xs) ys h k = (h.0, both P xs ys h.1 k)

of_stand : (object : ℕ) (i : Input) (ds : List Debug) → debugs_of object i ≡ Ok ds → AllByRecursion Stands ds
unfolding debugs_of
of_stand object i ds e = from_stand object i.input i.symbols (debug_places (customs i.bytes)) (customs i.bytes) (filter is_debug (customs i.bytes)) ds e

pub all_stand : (object : ℕ) (inputs : List Input) (ds : List Debug) → debugs object inputs ≡ Ok ds → AllByRecursion Stands ds
all_stand object [] ds e = subst (AllByRecursion Stands) (ok_is e) tt
all_stand object (i ∷ is) ds e =
    let a = bind_ok (debugs_of object i) _ ds e in
    let b = bind_ok (debugs (object + 1) is) _ ds a.2 in
    subst (AllByRecursion Stands) (ok_is b.2) (both Stands a.0 b.0 (of_stand object i a.0 a.1) (all_stand (object + 1) is b.0 b.1))

pub it_stands : (ds : List Debug) (d : Debug) → AllByRecursion Stands ds → Contains ds d → Stands d
it_stands ds d all at = All-contains Stands ds d (All-from_recursion Stands ds all) at

-- ---- windows that lie apart hold their words

abbrev pub word_at : (Reloc → ℕ) → Reloc → Patch
word_at v r = record { place = r.offset; form = Word4; value = v r }

pub apart : (v : Reloc → ℕ) (len from : ℕ) (rs : List Reloc) → from ≤ len → lie_apart len from rs ≡ true → AreApart from len (map (word_at v) rs)
apart v len from [] in_it h = in_it
apart v len from (r ∷ rs) in_it h =
    let parts = and_parts (nat_le from r.offset) (nat_le (r.offset + 4) len && lie_apart len (r.offset + 4) rs) h in
    let more = and_parts (nat_le (r.offset + 4) len) (lie_apart len (r.offset + 4) rs) parts.1 in
    (leb-true from r.offset parts.0, apart v len (r.offset + 4) rs (leb-true (r.offset + 4) len more.0) more.1)

unmapped : (P : Patch → Type 0) (f : Reloc → Patch) (rs : List Reloc) → AllByRecursion P (map f rs) → AllByRecursion (λ r. P (f r)) rs
unmapped P f [] h = tt
unmapped P f (r ∷ rs) h = (h.0, unmapped P f rs h.1)

pub word_held : (v : Reloc → ℕ) (rs : List Reloc) (content : List ℕ) (r : Reloc) → lie_apart (length content) 0 rs ≡ true → Contains rs r
    → slice_range (filled (map (word_at v) rs) content) r.offset (r.offset + 4) ≡ little (v r)
word_held v rs content r h at =
    let ps = map (word_at v) rs in
    let out = filled ps content in
    let P : Patch → Type 0 = λ p. slice_range out p.place (p.place + size_of p.form) ≡ spelled p.form p.value in
    let held = recursion_from_All P ps (held_all ps content (apart v (length content) 0 rs (omega arith) h)) in
    All-contains (λ r. P (word_at v r)) rs r (All-from_recursion (λ r. P (word_at v r)) rs (unmapped P (word_at v) rs held)) at
