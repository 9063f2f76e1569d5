-- The first of a list that passes, looked for from place to place.
use Rattle.std.proofs.Common.{◌≡◌, ℕ, zero, suc, ◌+◌, ◌<◌, ◌≤◌, Bool, true, false, ◌&&◌, ◌||◌, List, [], ◌∷◌, drop, length, slice_get, get_or, Option, Some, None, option_map, refl, sym, ap, ◌∙◌, arith}
use Rattle.std.specs.Prelude.{if◌then◌else◌}
use Rattle.std.specs.List.{list_any}
use Rattle.std.proofs.lemmas.Option.{none-some}
use Rattle.std.proofs.Math.ListN.{drop_of_length-le}
use Rattle.link_program.specs.wl_base.Choice.{first_some}
use Rattle.link_program.specs.wl_base.declared.fault.Fault.{Fault}
use Rattle.link_program.specs.object_file.declared.object.Object.{Object}
use Rattle.link_program.specs.name_rules.Entries.{InputSymbol}
use Rattle.link_program.specs.name_entries.declared.parts.ObjectParts.{ObjectParts}
use Rattle.partial_open.specs.Lost.{is_lost, is_lost_one, fault_of, first_flagged, object_fault, first_fault}

dropped_at : {A : Type 0} (xs : List A) (i : ℕ) (x : A) → slice_get xs i ≡ Some x → drop i xs ≡ x ∷ drop (i + 1) xs
dropped_at [] i x at = absurd (none-some x at)
dropped_at (y ∷ xs) zero x at = let same : y ≡ x = cc in ap (λ z. z ∷ xs) same
dropped_at {A} (y ∷ xs) (suc i) x at =
    let moved : suc (i + 1) ≡ suc i + 1 = omega arith in
    dropped_at xs i x at ∙ ap (λ k. x ∷ drop {A = A} k (y ∷ xs)) moved

there : {A : Type 0} (xs : List A) (i : ℕ) → i < length xs → (x : A) × (slice_get xs i ≡ Some x)
there [] i lt = absurd (omega (arith, lt))
there (x ∷ xs) zero lt = (x, refl)
there (x ∷ xs) (suc i) lt = there xs i (omega (arith, lt))

none_there : {A : Type 0} (xs : List A) (i : ℕ) → slice_get xs i ≡ None → drop i xs ≡ []
none_there [] zero none = refl
none_there [] (suc i) none = refl
none_there (x ∷ xs) zero none = absurd (none-some x (sym none))
none_there (x ∷ xs) (suc i) none = none_there xs i none

-- ---- whether a symbol is lost

pub loses_on : (row : List InputSymbol) (i : ℕ) (b whole : Bool) → i < length row → b ≡ is_lost_one (slice_get row i) → b ≡ false → list_any is_lost (drop i row) ≡ whole → list_any is_lost (drop (i + 1) row) ≡ whole
loses_on row i b whole lt is passes so_far =
    let x = there row i lt in
    let lost : is_lost x.0 ≡ false = sym (is ∙ ap is_lost_one x.1) ∙ passes in
    sym (ap (list_any is_lost) (dropped_at row i x.0 x.1) ∙ ap (λ r. r || list_any is_lost (drop (i + 1) row)) lost) ∙ so_far

pub loses_found : (row : List InputSymbol) (i : ℕ) (b whole : Bool) → i < length row → b ≡ is_lost_one (slice_get row i) → b ≡ true → list_any is_lost (drop i row) ≡ whole → true ≡ whole
loses_found row i b whole lt is passes so_far =
    let x = there row i lt in
    let lost : is_lost x.0 ≡ true = sym (is ∙ ap is_lost_one x.1) ∙ passes in
    sym (ap (list_any is_lost) (dropped_at row i x.0 x.1) ∙ ap (λ r. r || list_any is_lost (drop (i + 1) row)) lost) ∙ so_far

pub loses_none : (row : List InputSymbol) (i : ℕ) (whole : Bool) → length row ≤ i → list_any is_lost (drop i row) ≡ whole → false ≡ whole
loses_none row i whole past so_far = sym (ap (list_any is_lost) (drop_of_length-le row past)) ∙ so_far

-- ---- the first that is flagged

flagged_step : (flags : List Bool) (row : List InputSymbol) (i : ℕ) (x : InputSymbol) → slice_get row i ≡ Some x
    → first_flagged flags i (drop i row) ≡ (if is_lost x && get_or flags i false then Some x else first_flagged flags (i + 1) (drop (i + 1) row))
flagged_step flags row i x at = ap (first_flagged flags i) (dropped_at row i x at)

pub flagged_on : (flags : List Bool) (row : List InputSymbol) (i : ℕ) (a b : Bool) (whole : Option InputSymbol) → i < length row → a ≡ is_lost_one (slice_get row i) → b ≡ get_or flags i false → (a && b) ≡ false
    → first_flagged flags i (drop i row) ≡ whole → first_flagged flags (i + 1) (drop (i + 1) row) ≡ whole
flagged_on flags row i a b whole lt lost flag passes so_far =
    let x = there row i lt in
    let both : (is_lost x.0 && get_or flags i false) ≡ false = sym (λ j. (lost ∙ ap is_lost_one x.1) j && flag j) ∙ passes in
    sym (flagged_step flags row i x.0 x.1 ∙ ap (λ r. if r then Some x.0 else first_flagged flags (i + 1) (drop (i + 1) row)) both) ∙ so_far

pub flagged_found : (flags : List Bool) (row : List InputSymbol) (i : ℕ) (a b : Bool) (whole : Option InputSymbol) → i < length row → a ≡ is_lost_one (slice_get row i) → b ≡ get_or flags i false → (a && b) ≡ true
    → first_flagged flags i (drop i row) ≡ whole → option_map fault_of (slice_get row i) ≡ option_map fault_of whole
flagged_found flags row i a b whole lt lost flag passes so_far =
    let x = there row i lt in
    let both : (is_lost x.0 && get_or flags i false) ≡ true = sym (λ j. (lost ∙ ap is_lost_one x.1) j && flag j) ∙ passes in
    ap (option_map fault_of) (x.1 ∙ (sym (flagged_step flags row i x.0 x.1 ∙ ap (λ r. if r then Some x.0 else first_flagged flags (i + 1) (drop (i + 1) row)) both) ∙ so_far))

pub flagged_none : (flags : List Bool) (row : List InputSymbol) (i : ℕ) (whole : Option InputSymbol) → length row ≤ i → first_flagged flags i (drop i row) ≡ whole → None ≡ option_map fault_of whole
flagged_none flags row i whole past so_far = ap (option_map fault_of) (sym (ap (first_flagged flags i) (drop_of_length-le row past)) ∙ so_far)

-- ---- the first fault

fault_step : (objects os : List Object) (pss : List ObjectParts) (i : ℕ) (o : Object) (ps : ObjectParts) → slice_get os i ≡ Some o → slice_get pss i ≡ Some ps
    → first_fault objects (drop i os) (drop i pss) ≡ first_some (object_fault objects o ps ∷ first_fault objects (drop (i + 1) os) (drop (i + 1) pss) ∷ [])
fault_step objects os pss i o ps at beside = let a = dropped_at os i o at in let b = dropped_at pss i ps beside in λ j. first_fault objects (a j) (b j)

one_left : {A : Type 0} (o : Option A) → first_some (o ∷ []) ≡ o
one_left None = refl
one_left (Some a) = refl

pub fault_on : (objects os : List Object) (pss : List ObjectParts) (i : ℕ) (o : Object) (ps : ObjectParts) (whole : Option Fault) → slice_get os i ≡ Some o → slice_get pss i ≡ Some ps
    → None ≡ object_fault objects o ps → first_fault objects (drop i os) (drop i pss) ≡ whole → first_fault objects (drop (i + 1) os) (drop (i + 1) pss) ≡ whole
fault_on objects os pss i o ps whole at beside none so_far =
    let rest = first_fault objects (drop (i + 1) os) (drop (i + 1) pss) in
    sym (fault_step objects os pss i o ps at beside ∙ (ap (λ f. first_some (f ∷ rest ∷ [])) (sym none) ∙ one_left rest)) ∙ so_far

pub fault_found : (objects os : List Object) (pss : List ObjectParts) (i : ℕ) (o : Object) (ps : ObjectParts) (f : Fault) (whole : Option Fault) → slice_get os i ≡ Some o → slice_get pss i ≡ Some ps
    → Some f ≡ object_fault objects o ps → first_fault objects (drop i os) (drop i pss) ≡ whole → Some f ≡ whole
fault_found objects os pss i o ps f whole at beside some so_far =
    let rest = first_fault objects (drop (i + 1) os) (drop (i + 1) pss) in
    sym (fault_step objects os pss i o ps at beside ∙ ap (λ g. first_some (g ∷ rest ∷ [])) (sym some)) ∙ so_far

pub fault_none : (objects os : List Object) (pss : List ObjectParts) (i : ℕ) (whole : Option Fault) → slice_get os i ≡ None → first_fault objects (drop i os) (drop i pss) ≡ whole → None ≡ whole
fault_none objects os pss i whole none so_far = sym (ap (λ (os : List Object). first_fault objects os (drop i pss)) (none_there os i none)) ∙ so_far

pub fault_no_parts : (objects os : List Object) (pss : List ObjectParts) (i : ℕ) (whole : Option Fault) → slice_get pss i ≡ None → first_fault objects (drop i os) (drop i pss) ≡ whole → None ≡ whole
fault_no_parts objects os pss i whole none so_far = sym (ap (first_fault objects (drop i os)) (none_there pss i none) ∙ nothing (drop i os)) ∙ so_far
  where
    nothing : (xs : List Object) → first_fault objects xs [] ≡ None
    nothing [] = refl
    nothing (x ∷ xs) = refl
