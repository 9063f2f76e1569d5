-- The joined debug sections are custom sections.
use Rattle.std.proofs.Common.{◌≡◌, ℕ, ◌+◌, ◌-◌, ◌^◌, ◌<◌, ◌≤◌, nat_lt, Bool, true, false, List, [], ◌∷◌, ◌++◌, length, map, filter, flat_map, Option, Some, None, Result, Ok, Err, refl, subst, arith, length-append}
use Rattle.std.specs.Prelude.{if◌then◌else◌, bytes_eq, IsUtf8}
use Rattle.std.specs.List.{AllByRecursion, list_any}
use Rattle.std.proofs.lemmas.Bool.{ltb-false}
use Rattle.leb_codec.specs.Shortest.{u32}
use Rattle.leb_codec.proofs.Computed.{u32_spells}
use Rattle.wl_base.specs.Choice.{given, distinct_onto, unless, ◌>>=◌}
use Rattle.wl_base.specs.declared.fault.Fault.{Fault}
use Rattle.wl_base.specs.declared.fault.Fault.TheVariants.{DebugTooLong}
use Rattle.reloc_section.specs.declared.entry.Reloc.{Reloc}
use Rattle.linking_section.specs.declared.symbol.Symbol.{Symbol}
use Rattle.image_emit.specs.Bytes.{sized}
use Rattle.wasm_module.specs.Sections.{IsCustom, Repeated}
use Rattle.debug_rules.specs.Sections.{Custom, customs, is_debug, payloads_for}
use Rattle.debug_rules.specs.Faults.{Input, Debug, relocs_in, debug_at, debug_places, debugs_from, debugs_of, debugs}
use Rattle.debug_rules.specs.Joined.{Places, is_named, content_of, names_of, section_of, tail_of, joined}
use Rattle.debug_customs.specs.Customs.{IsNamed, AreNamed, JoinedAreCustoms}

bind_ok : {A B : Type 0} (r : Result A Fault) (f : A → Result B Fault) (y : B) → (r >>= f) ≡ Ok y → (x : A) × (r ≡ Ok x) × (f x ≡ Ok y)
bind_ok (Ok x) f y e = (x, refl, e)
bind_ok (Err d) f y e = absurd cc

ok_is : {A : Type 0} {x y : A} → (let r : Result A Fault = Ok x in r ≡ Ok y) → x ≡ y
ok_is e = cc

both : {A : Type 0} (P : A → Type 0) (xs ys : List A) → AllByRecursion P xs → AllByRecursion P ys → AllByRecursion P (xs ++ ys)
both P [] ys h k = k
both P (x ∷ xs) ys h k = (h.0, both P xs ys h.1 k)

-- ---- names

abbrev Named : Debug → Type 0
Named d = IsNamed d.section

one_named : (object input : ℕ) (symbols : List Symbol) (c : Custom) (found : Option (List Reloc)) (d : Debug) → debug_at object input symbols c found ≡ Ok d → IsNamed c → Named d
one_named object input symbols c None d e is = absurd cc
one_named object input symbols c (Some rs) d e is = subst Named (ok_is e) is

from_named : (object input : ℕ) (symbols : List Symbol) (debug : List ℕ) (all cs : List Custom) (ds : List Debug) → AllByRecursion IsNamed cs → debugs_from object input symbols debug all cs ≡ Ok ds → AllByRecursion Named ds
from_named object input symbols debug all [] ds are e = subst (AllByRecursion Named) (ok_is e) tt
from_named object input symbols debug all (c ∷ cs) ds are e =
    let a = bind_ok (debug_at object input symbols c (relocs_in debug symbols (length c.content) (payloads_for c.at all))) _ ds e in
    let b = bind_ok (debugs_from object input symbols debug all cs) _ ds a.2 in
    let first = one_named object input symbols c (relocs_in debug symbols (length c.content) (payloads_for c.at all)) a.0 a.1 are.0 in
    subst (AllByRecursion Named) (ok_is b.2) (first, from_named object input symbols debug all cs b.0 are.1 b.1)

of_named : (object : ℕ) (i : Input) (ds : List Debug) → AllByRecursion IsNamed (filter is_debug (customs i.bytes)) → debugs_of object i ≡ Ok ds → AllByRecursion Named ds
unfolding debugs_of
of_named object i ds are e = from_named object i.input i.symbols (debug_places (customs i.bytes)) (customs i.bytes) (filter is_debug (customs i.bytes)) ds are e

all_named : (object : ℕ) (inputs : List Input) (ds : List Debug) → AreNamed inputs → debugs object inputs ≡ Ok ds → AllByRecursion Named ds
all_named object [] ds are e = subst (AllByRecursion Named) (ok_is e) tt
all_named object (i ∷ is) ds are e =
    let a = bind_ok (debugs_of object i) _ ds e in
    let b = bind_ok (debugs (object + 1) is) _ ds a.2 in
    subst (AllByRecursion Named) (ok_is b.2) (both Named a.0 b.0 (of_named object i a.0 are.0 a.1) (all_named (object + 1) is b.0 are.1 b.1))

spelled : (ds : List Debug) → AllByRecursion Named ds → AllByRecursion IsUtf8 (map (λ (d : Debug). d.section.name) ds)
spelled [] are = tt
spelled (d ∷ ds) are = (are.0, spelled ds are.1)

one_more : (seen : List (List ℕ)) (name : List ℕ) (b : Bool) → AllByRecursion IsUtf8 seen → IsUtf8 name → AllByRecursion IsUtf8 (if b then seen else seen ++ name ∷ [])
one_more seen name true are is = are
one_more seen name false are is = both IsUtf8 seen (name ∷ []) are (is, tt)

once : (seen names : List (List ℕ)) → AllByRecursion IsUtf8 seen → AllByRecursion IsUtf8 names → AllByRecursion IsUtf8 (distinct_onto bytes_eq seen names)
once seen [] before are = before
once seen (name ∷ names) before are =
    once (if list_any (bytes_eq name) seen then seen else seen ++ name ∷ []) names (one_more seen name (list_any (bytes_eq name) seen) before are.0) are.1

-- ---- sections

custom : (name content : List ℕ) → IsUtf8 name → length (0 ∷ sized (sized name ++ content)) < 2 ^ 32 → IsCustom (0 ∷ sized (sized name ++ content))
custom name content text short =
    let payload : List ℕ = sized name ++ content in
    let long = length-append (u32 (length payload)) payload in
    let first = length-append (sized name) content in
    let front = length-append (u32 (length name)) name in
    let few : length payload < 2 ^ 32 = omega (arith, short, long) in
    let few_name : length name < 2 ^ 32 = omega (arith, few, first, front) in
    (0 ∷ [], sized payload, refl, (u32 (length payload), payload, u32_spells (length payload) few, (name, sized name, content, (text, (u32 (length name), name, u32_spells (length name) few_name, refl, refl)), refl), refl), refl)

module _ (all : List Debug) (p : Places) where
  sections : (names : List (List ℕ)) → AllByRecursion IsUtf8 names → length (flat_map (section_of all p) names) < 2 ^ 32 → Repeated (length names) IsCustom (flat_map (section_of all p) names)
  sections [] are short = refl
  sections (name ∷ names) are short =
      let rest = flat_map (section_of all p) names in
      let sum = length-append (section_of all p name) rest in (
        section_of all p name,
        rest,
        custom name (flat_map (content_of all p) (filter (is_named name) all)) are.0 (omega (arith, short, sum)),
        sections names are.1 (omega (arith, short, sum)),
        refl,
      )

if_short : (n : ℕ) (tail given_tail : List ℕ) (b : Bool) → nat_lt (2 ^ 31 - 1) n ≡ b → unless (given b (DebugTooLong n)) given_tail ≡ Ok tail → (given_tail ≡ tail) × (n ≤ 2 ^ 31 - 1)
if_short n tail given_tail true is e = absurd cc
if_short n tail given_tail false is e = (ok_is e, ltb-false (2 ^ 31 - 1) n is)

pub are_customs : JoinedAreCustoms
unfolding joined tail_of
are_customs len inputs p tail are e =
    let a = bind_ok (debugs 0 inputs) _ tail e in
    let ds = a.0 in
    let whole = flat_map (section_of ds p) (names_of ds) in
    let s = if_short (len + length whole) tail whole (nat_lt (2 ^ 31 - 1) (len + length whole)) refl a.2 in
    let names = once [] (map (λ (d : Debug). d.section.name) ds) tt (spelled ds (all_named 0 inputs ds are a.1)) in
    (length (names_of ds), subst (λ (bytes : List ℕ). Repeated (length (names_of ds)) IsCustom bytes) s.0 (sections ds p (names_of ds) names (omega (arith, s.1))))
