-- The places of objects by their inputs, one object more.
use Rattle.std.proofs.Common.{◌≡◌, ◌⊎◌, ℕ, zero, suc, ◌+◌, ◌-◌, ◌<◌, ◌≤◌, ◌∙◌, List, [], ◌∷◌, ◌++◌, refl, ap, sym, subst, arith, Some, length, length-append, get_or, drop, drop-cons, add-one, inl, inr}
use Rattle.std.specs.Prelude.{slice_get}
use Rattle.std.proofs.lemmas.Option.{same_Some, slice_get_within, get_or_from_slice_get}
use Rattle.link_program.specs.object_file.declared.object.Object.{Object}
use Rattle.link_program.specs.name_entries.View.{InputsRise}
use Rattle.program_tables.specs.Objects.{ArePlaces}
use Rattle.program_tables.proofs.Lists.{front, behind}

-- The places of the first objects; the inputs of the others come behind.
pub record PlacesUpto (objects : List Object) (places : List ℕ) (n : ℕ) : Type 0 where
  pub done : (i : ℕ) (o : Object) → i < n → slice_get objects i ≡ Some o → slice_get places o.input ≡ Some i
  pub some : 0 < length places
  pub rise : InputsRise (length places - 1) (drop n objects)

pub dropped : (objects : List Object) (n : ℕ) (o : Object) → slice_get objects n ≡ Some o → drop n objects ≡ o ∷ drop (n + 1) objects
dropped objects n o at =
    drop-cons objects n o (slice_get_within objects n o at)
    ∙ ap (λ k. get_or objects n o ∷ drop k objects) (sym (add-one n))
    ∙ ap (λ x. x ∷ drop (n + 1) objects) (get_or_from_slice_get objects n o o at)

at_or_before : (i n : ℕ) → i < n + 1 → (i < n) ⊎ (i ≡ n)
at_or_before zero zero lt = inr refl
at_or_before zero (suc n) lt = inl (omega arith)
at_or_before (suc i) zero lt = absurd (omega arith)
at_or_before (suc i) (suc n) lt = elim (at_or_before i n (omega arith)) [ inl less ↦ inl (omega arith) | inr same ↦ inr (ap suc same) ]

pub place_more : (objects : List Object) (places padded : List ℕ) (n : ℕ) (o : Object) → PlacesUpto objects places n → slice_get objects n ≡ Some o → length padded ≡ o.input
    → ((k : ℕ) → k < length places → slice_get padded k ≡ slice_get places k) → PlacesUpto objects (padded ++ n ∷ []) (n + 1)
place_more objects places padded n o before at long same =
    let rise = subst (InputsRise (length places - 1)) (dropped objects n o at) before.rise in
    let counted : length (padded ++ n ∷ []) ≡ length padded + 1 = length-append padded (n ∷ []) in
    let last : o.input ≡ length (padded ++ n ∷ []) - 1 = omega arith in
    record {
      done = λ i x lt there. by i x there (at_or_before i n lt);
      some = omega arith;
      rise = subst (λ k. InputsRise k (drop (n + 1) objects)) last rise.2;
    }
  where
    by : (i : ℕ) (x : Object) → slice_get objects i ≡ Some x → (i < n) ⊎ (i ≡ n) → slice_get (padded ++ n ∷ []) x.input ≡ Some i
    by i x there (inl less) =
        let old = before.done i x less there in
        front padded (n ∷ []) x.input i (same x.input (slice_get_within places x.input i old) ∙ old)
    by i x there (inr is) =
        let own : o ≡ x = same_Some o x (sym at ∙ ap (slice_get objects) (sym is) ∙ there) in
        let place : x.input ≡ length padded + 0 = ap (λ (y : Object). y.input) (sym own) ∙ sym long ∙ (let z : length padded ≡ length padded + 0 = omega arith in z) in
        ap (slice_get (padded ++ n ∷ [])) place ∙ behind padded (n ∷ []) 0 ∙ ap Some (sym is)

pub all_placed : (objects : List Object) (places : List ℕ) (n : ℕ) → PlacesUpto objects places n → length objects ≤ n → ArePlaces objects places
all_placed objects places n before past = λ i o at.
    let lt = slice_get_within objects i o at in before.done i o (omega arith) at
