-- Where the bytes of the loaded objects stand.
use Rattle.std.proofs.Common.{◌≡◌, ℕ, zero, suc, ◌+◌, ◌-◌, ◌==◌, ◌<◌, false, cond, List, [], ◌∷◌, map, slice_get, find, Option, Some, option_map, refl, sym, ap, ◌∙◌, arith, eq-eqb}
use Rattle.std.specs.List.{All}
use Rattle.std.proofs.lemmas.Bool.{ne_eqb}
use Rattle.std.proofs.lemmas.List.Elements.{All-head, All-tail}
use Rattle.std.proofs.lemmas.Option.{slice_get-map}
use Rattle.link_program.specs.wl_base.declared.span.FileSpan.{FileSpan}
use Rattle.link_program.specs.image_emit.Bytes.{file_part}
use Rattle.link_program.specs.name_entries.View.{InputsRise}
use Rattle.link_program.specs.object_file.declared.object.Object.{Object}
use Rattle.link_program.specs.round_rules.Rounds.{Candidate}
use Rattle.link_program.specs.link_rules.Program.{span_in}
use Rattle.link_program.specs.declared.home.Home.{Home}
use Rattle.link_program.specs.Loaded.{home_of, IsReadFrom, IsLoaded}
use Rattle.debug_out.specs.Inputs.{inputs_of}
use Rattle.link_debug.specs.Places.{span_at, input_in, link_inputs}
use Rattle.debug_places.specs.Spans as homes
use Rattle.debug_places.specs.Spans.{span_seen}

-- Candidates that count up are found by their numbers.
found_from : (all : List Candidate) (first i : ℕ) (c : Candidate) → ((j : ℕ) (x : Candidate) → slice_get all j ≡ Some x → x.input ≡ first + j) → slice_get all i ≡ Some c
    → find (λ (x : Candidate). x.input == first + i) all ≡ Some c
found_from [] first i c each at = absurd cc
found_from (x ∷ all) first zero c each at =
    let same : x ≡ c = cc in
    ap (λ r. cond r (Some x) (find (λ (y : Candidate). y.input == first + 0) all)) (eq-eqb x.input (first + 0) (each 0 x refl)) ∙ ap Some same
found_from (x ∷ all) first (suc i) c each at =
    let other : (x.input == first + suc i) ≡ false = ne_eqb x.input (first + suc i) (λ e. absurd (omega (arith, e, each 0 x refl))) in
    let n : first + suc i ≡ first + 1 + i = omega arith in
    ap (λ r. cond r (Some x) (find (λ (y : Candidate). y.input == first + suc i) all)) other
    ∙ (ap (λ m. find (λ (y : Candidate). y.input == m) all) n
    ∙ found_from all (first + 1) i c (λ j y there. let e = each (suc j) y there in omega (arith, e)) at)

-- the whole of a candidate
abbrev whole : Candidate → FileSpan
whole c = record { file = c.file; span = record { start = c.start + 0; len = c.len } }

module _ (files : List (List ℕ)) (all : List Candidate) (objects : List Object) (starts : List Home) (loaded : IsLoaded files all objects starts) where
  -- of a loaded object
  span_told : (o : Object) → ((c : Candidate) × (slice_get all (o.input - 1) ≡ Some c) × IsReadFrom files c o) → 0 < o.input → span_seen starts o.input ≡ span_at all o.input (find (λ (c : Candidate). c.input == o.input) all)
  span_told o w some =
      let c = w.0 in
      let n : 1 + (o.input - 1) ≡ o.input = omega (arith, some) in
      let found : find (λ (x : Candidate). x.input == o.input) all ≡ Some c =
      ap (λ m. find (λ (x : Candidate). x.input == m) all) (sym n)
      ∙ found_from all 1 (o.input - 1) c (λ j x at. let e = loaded.numbered j x at in omega (arith, e)) w.1 in
      let home : slice_get starts (o.input - 1) ≡ Some (home_of c) = ap (λ hs. slice_get hs (o.input - 1)) loaded.homes ∙ (slice_get-map home_of all (o.input - 1) ∙ ap (option_map home_of) w.1) in
      ap homes.span_at home ∙ (begins c ∙ sym (ap (span_at all o.input) found ∙ part c found))
    where
      begins : (c : Candidate) → homes.span_at (Some (home_of c)) ≡ whole c
      begins c = let e : c.start ≡ c.start + 0 = omega arith in λ i. record { file = c.file; span = record { start = e i; len = c.len } }

      part : (c : Candidate) → find (λ (x : Candidate). x.input == o.input) all ≡ Some c → span_at all o.input (Some c) ≡ whole c
      part c found = ap (λ (x : Option Candidate). span_in x (record { start = 0; len = c.len })) found

  objects_told : (last : ℕ) (os : List Object) → InputsRise last os → All (λ (o : Object). (c : Candidate) × (slice_get all (o.input - 1) ≡ Some c) × IsReadFrom files c o) os
      → inputs_of files os (map (λ (o : Object). span_seen starts o.input) os) ≡ map (input_in files all) os
  objects_told last [] rise each = refl
  objects_told last (o ∷ os) rise each =
      let P : Object → Type 0 = λ o. (c : Candidate) × (slice_get all (o.input - 1) ≡ Some c) × IsReadFrom files c o in
      let s = span_told o (All-head P o os each) (omega (arith, rise.0)) in
      let t = objects_told o.input os rise.2 (All-tail P o os each) in
      λ i. record { input = o.input; bytes = file_part files (s i); symbols = o.symbols } ∷ t i

  pub inputs_told : inputs_of files objects (map (λ (o : Object). span_seen starts o.input) objects) ≡ link_inputs files all objects
  unfolding link_inputs
  inputs_told = objects_told 0 objects loaded.rise loaded.each
