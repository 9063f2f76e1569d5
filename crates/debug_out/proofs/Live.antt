-- The windows of the joined sections hold their words.
use Rattle.std.proofs.Common.{ℕ, ◌≡◌, ◌∙◌, ◌+◌, ◌==◌, ◌+ℤ◌, pos, Bool, true, false, cond, List, [], ◌∷◌, ◌++◌, length, map, filter, flat_map, slice_range, Contains, Option, Some, None, Ok, refl, ap, sym, subst, arith}
use Rattle.std.specs.List.{AllByRecursion}
use Rattle.std.specs.Str.{bytes_eq}
use Rattle.std.proofs.lemmas.Slice.Eq.{bytes_eq-Decides}
use Rattle.leb_codec.specs.Shortest.{u32}
use Rattle.wl_base.specs.Choice.{unless}
use Rattle.wl_base.specs.declared.fault.Fault.{Fault}
use Rattle.image_emit.specs.Bytes.{sized}
use Rattle.reloc_section.specs.declared.entry.Reloc.{Reloc}
use Rattle.reloc_apply.specs.Windows.{bits32, little}
use Rattle.debug_rules.specs.Faults.{Input, Debug, debugs}
use Rattle.debug_rules.specs.Joined.{Places, dead_word, place_at, begins, word_of, value_of, content_of, names_of, section_of, tail_of, joined, is_named}
use Rattle.debug_out.specs.Windows.{Stands, Holds, LiveOffsets, DeadOffsets}
use Rattle.debug_out.proofs.Long.{written_long}
use Rattle.debug_out.proofs.Stands.{bind_ok, ok_is, all_stand, it_stands, word_held}
use Rattle.debug_out.proofs.Within.{IsPart, in_flat, behind, part_of_part, in_from, in_filter, in_map, in_distinct}

-- a contribution stands in the joined sections
stands_within : (all : List Debug) (p : Places) (d : Debug) → Contains all d → IsPart (content_of all p d) (tail_of all p)
unfolding tail_of
stands_within all p d at =
    let name = d.section.name in
    let there = in_from all d at in
    let same : bytes_eq name name ≡ true = (bytes_eq-Decides name name).1 refl in
    let mine = filter (is_named name) all in
    let body = sized name ++ flat_map (content_of all p) mine in
    let inner = in_flat (content_of all p) d mine (in_filter (is_named name) d all same there) in
    let whole = behind (0 ∷ u32 (length body)) (content_of all p d) body (behind (sized name) (content_of all p d) (flat_map (content_of all p) mine) inner) in
    let among = in_distinct (map (λ (x : Debug). x.section.name) all) name (in_map (λ (x : Debug). x.section.name) d all there) in
    part_of_part (content_of all p d) (section_of all p name) (flat_map (section_of all p) (names_of all)) whole (in_flat (section_of all p) name (names_of all) among)

holds : (all : List Debug) (p : Places) (d : Debug) (r : Reloc) → AllByRecursion Stands all → Contains all d → Contains d.relocs r
    → Holds (tail_of all p) d r (value_of (begins all d.object) p d r)
holds all p d r stand at in_d =
    let part = stands_within all p d at in
    let stands = it_stands all d stand at in
    (part.0, content_of all p d, part.1, part.2, written_long (begins all d.object) p d stands, word_held (value_of (begins all d.object) p d) d.relocs d.section.content r stands in_d)

of_function : (begin : ℕ → Option ℕ) (p : Places) (d : Debug) (r : Reloc) → r.kind ≡ 8 → value_of begin p d r ≡ word_of (dead_word d.section.name) r.addend (place_at p.bodies d.object r.index)
of_function begin p d r k = rw (k) refl

unless_ok : (f : Option Fault) (x y : List ℕ) → unless f x ≡ Ok y → x ≡ y
unless_ok None x y e = ok_is e
unless_ok (Some f) x y e = absurd cc

joined_tail : (len : ℕ) (inputs : List Input) (p : Places) (tail : List ℕ) (all : List Debug) → joined len inputs p ≡ Ok tail → debugs 0 inputs ≡ Ok all → tail_of all p ≡ tail
unfolding joined
joined_tail len inputs p tail all h e =
    let a = bind_ok (debugs 0 inputs) _ tail h in
    let same : a.0 ≡ all = ok_is (sym a.1 ∙ e) in
    ap (λ (ds : List Debug). tail_of ds p) (sym same) ∙ unless_ok _ _ tail a.2

by_place : (len : ℕ) (inputs : List Input) (p : Places) (tail : List ℕ) (all : List Debug) (d : Debug) (r : Reloc) (place : Option ℕ) → joined len inputs p ≡ Ok tail → debugs 0 inputs ≡ Ok all
    → Contains all d → Contains d.relocs r → r.kind ≡ 8 → place_at p.bodies d.object r.index ≡ place → Holds tail d r (word_of (dead_word d.section.name) r.addend place)
by_place len inputs p tail all d r place h e at in_d k is =
    let word = of_function (begins all d.object) p d r k ∙ ap (word_of (dead_word d.section.name) r.addend) is in
    subst (λ bytes. Holds bytes d r (word_of (dead_word d.section.name) r.addend place)) (joined_tail len inputs p tail all h e)
    (subst (Holds (tail_of all p) d r) word (holds all p d r (all_stand 0 inputs all e) at in_d))

pub live_offsets : (len : ℕ) (inputs : List Input) (p : Places) (tail : List ℕ) → joined len inputs p ≡ Ok tail → LiveOffsets inputs p tail
live_offsets len inputs p tail h = λ all e d at r in_d k n live. by_place len inputs p tail all d r (Some n) h e at in_d k live

pub dead_offsets : (len : ℕ) (inputs : List Input) (p : Places) (tail : List ℕ) → joined len inputs p ≡ Ok tail → DeadOffsets inputs p tail
dead_offsets len inputs p tail h = λ all e d at r in_d k dead. by_place len inputs p tail all d r None h e at in_d k dead
