-- Relocations that stand on the immediates of a body, one on each that needs one, are no fault of it.
use Rattle.std.proofs.Common.{◌≡◌, ℕ, ◌+◌, ◌≤◌, ◌==◌, Bool, true, false, ◌&&◌, List, [], ◌∷◌, map, inl, inr, refl, sym, ap, ◌∙◌, arith}
use Rattle.std.specs.Prelude.{nat_lt, Option, Some, None, filter_map, Ok, if◌then◌else◌}
use Rattle.std.proofs.lemmas.Bool.{and_parts, eqb-true, eq-eqb}
use Rattle.std.proofs.lemmas.Bool.Decides.{nat_tests}
use Rattle.list_places.specs.Has.{Has}
use Rattle.list_places.proofs.Lists.{any_has}
use Rattle.object_rules.specs.wl_base.Choice.{first_some, unless}
use Rattle.object_rules.specs.wasm_instr.declared.body.Body.{Body}
use Rattle.object_rules.specs.reloc_section.declared.entry.Reloc.{Reloc}
use Rattle.object_rules.specs.body_windows.declared.fault.Mismatch.TheVariants.{Overlap, OffImmediate, BareIndex}
use Rattle.object_rules.specs.body_windows.declared.immediate.Immediate.{Immediate}
use Rattle.object_rules.specs.body_windows.Immediates.{immediates, AreInOrder, may_stand, needs_window, fills}
use Rattle.object_rules.specs.body_windows.Windows.{reloc_at, operand_at, overlaps_behind, least_from, first_off, is_bare, first_bare, fault_with, operands_at, windows_of}

-- The relocation fills the immediate; where there is none, none is needed.
abbrev pub Fill : Immediate → Option Reloc → Type 0
Fill i None = needs_window i.kind ≡ false
Fill i (Some r) = fills 0 r i ≡ true

-- One for each immediate, in order.
abbrev pub AllFill : List Immediate → List (Option Reloc) → Type 0
AllFill [] [] = Unit {0}
AllFill [] (o ∷ os) = ⊥
AllFill (i ∷ is) [] = ⊥
AllFill (i ∷ is) (o ∷ os) = Fill i o × AllFill is os

-- those that are there
abbrev pub those_in : List (Option Reloc) → List Reloc
those_in os = filter_map (λ o. o) os

place_of : (r : Reloc) (i : Immediate) → fills 0 r i ≡ true → (r.offset ≡ i.place) × (i.len ≡ 5)
place_of r i e =
    let a = and_parts (((0 + i.place) == r.offset) && (i.len == 5)) (may_stand r.kind i.kind) e in
    let b = and_parts ((0 + i.place) == r.offset) (i.len == 5) a.0 in
    let at : 0 + i.place ≡ r.offset = eqb-true (0 + i.place) r.offset b.0 in
    (omega (arith, at), eqb-true i.len 5 b.1)

-- ---- none overlaps one before it

no_overlap : (low from end : ℕ) (is : List Immediate) (os : List (Option Reloc)) → low ≤ from → AreInOrder from end is → AllFill is os → overlaps_behind low (those_in os) ≡ []
no_overlap low from end [] [] le order fill = refl
no_overlap low from end [] (o ∷ os) le order fill = absurd fill
no_overlap low from end (i ∷ is) [] le order fill = absurd fill
no_overlap low from end (i ∷ is) (None ∷ os) le order fill = no_overlap low (i.place + i.len) end is os (omega (arith, le, order.0)) order.2 fill.1
no_overlap low from end (i ∷ is) (Some r ∷ os) le order fill =
    let at = place_of r i fill.0 in
    let behind : low ≤ r.offset = omega (arith, le, order.0, at.0) in
    let later : nat_lt r.offset low ≡ false = grind (arith, nat_tests, behind) in
    ap (λ (b : Bool). if b then r.offset ∷ overlaps_behind (r.offset + 5) (those_in os) else overlaps_behind (r.offset + 5) (those_in os)) later
    ∙ no_overlap (r.offset + 5) (i.place + i.len) end is os (omega (arith, at.0, at.1)) order.2 fill.1

-- ---- each fills an immediate

filled : (is : List Immediate) (os : List (Option Reloc)) → AllFill is os → (r : Reloc) → Has (those_in os) r → (i : Immediate) × Has is i × (fills 0 r i ≡ true)
filled [] [] fill r has = absurd has
filled [] (o ∷ os) fill r has = absurd fill
filled (i ∷ is) [] fill r has = absurd fill
filled (i ∷ is) (None ∷ os) fill r has = let f = filled is os fill.1 r has in (f.0, inr f.1, f.2)
filled (i ∷ is) (Some x ∷ os) fill r (inl e) = (i, inl refl, ap (λ (y : Reloc). fills 0 y i) (sym e) ∙ fill.0)
filled (i ∷ is) (Some x ∷ os) fill r (inr has) = let f = filled is os fill.1 r has in (f.0, inr f.1, f.2)

none_off : (is : List Immediate) (rs : List Reloc) → ((r : Reloc) → Has rs r → (i : Immediate) × Has is i × (fills 0 r i ≡ true)) → first_off 0 is rs ≡ None
none_off is [] each = refl
none_off is (r ∷ rs) each =
    let f = each r (inl refl) in
    ap (λ (b : Bool). if b then first_off 0 is rs else Some r.offset) (any_has (fills 0 r) is f.0 f.1 f.2) ∙ none_off is rs (λ x h. each x (inr h))

-- ---- each immediate that needs one has one

looked_up : (place : ℕ) (rs : List Reloc) (r : Reloc) → Has rs r → r.offset ≡ place → (x : Reloc) × (reloc_at place rs ≡ Some x)
looked_up place [] r has at = absurd has
looked_up place (y ∷ ys) r (inl e) at = (y, ap (λ (b : Bool). if b then Some y else reloc_at place ys) (eq-eqb y.offset place (ap (λ (x : Reloc). x.offset) e ∙ at)))
looked_up place (y ∷ ys) r (inr has) at = by (y.offset == place) (looked_up place ys r has at)
  where
    by : (b : Bool) → (x : Reloc) × (reloc_at place ys ≡ Some x) → (x : Reloc) × ((if b then Some y else reloc_at place ys) ≡ Some x)
    by true rest = (y, refl)
    by false rest = rest

module _ (rs : List Reloc) where
  covered : (i : Immediate) (o : Option Reloc) → Fill i o → ((r : Reloc) → o ≡ Some r → Has rs r) → is_bare i (reloc_at (0 + i.place) rs) ≡ false
  covered i None fill within = by (reloc_at (0 + i.place) rs)
    where
      by : (x : Option Reloc) → is_bare i x ≡ false
      by None = fill
      by (Some x) = refl
  covered i (Some r) fill within =
      let at = place_of r i fill in
      let found = looked_up (0 + i.place) rs r (within r refl) (omega (arith, at.0)) in
      ap (is_bare i) found.1

  none_bare : (is : List Immediate) (os : List (Option Reloc)) → AllFill is os → ((r : Reloc) → Has (those_in os) r → Has rs r) → first_bare 0 rs is ≡ None
  none_bare [] [] fill within = refl
  none_bare [] (o ∷ os) fill within = absurd fill
  none_bare (i ∷ is) [] fill within = absurd fill
  none_bare (i ∷ is) (None ∷ os) fill within =
      ap (λ (b : Bool). if b then Some (0 + i.place) else first_bare 0 rs is) (covered i None fill.0 (λ r e. absurd cc)) ∙ none_bare is os fill.1 within
  none_bare (i ∷ is) (Some x ∷ os) fill within =
      ap (λ (b : Bool). if b then Some (0 + i.place) else first_bare 0 rs is) (covered i (Some x) fill.0 (λ r e. within r (inl cc))) ∙ none_bare is os fill.1 (λ r h. within r (inr h))

-- ---- so all are operands

pub stand : (end : ℕ) (body : Body) (os : List (Option Reloc)) → AreInOrder 0 end (immediates body.code) → AllFill (immediates body.code) os
    → windows_of 0 (those_in os) body ≡ Ok (map (operand_at 0 (those_in os)) (immediates body.code))
unfolding operands_at
stand end body os order fill =
    let is : List Immediate = immediates body.code in
    let rs : List Reloc = those_in os in
    let apart = no_overlap 0 0 end is os (omega arith) order fill in
    let off = none_off is rs (filled is os fill) in
    let bare = none_bare rs is os fill (λ r h. h) in
    ap (λ f. unless f (map (operand_at 0 rs) is))
    (ap (λ ns. first_some (fault_with Overlap (least_from None ns) ∷ fault_with OffImmediate (first_off 0 is rs) ∷ fault_with BareIndex (first_bare 0 rs is) ∷ [])) apart
    ∙ ap (λ o. first_some (fault_with OffImmediate o ∷ fault_with BareIndex (first_bare 0 rs is) ∷ [])) off
    ∙ ap (λ o. first_some (fault_with BareIndex o ∷ [])) bare)
