-- The last export of each function, as a loop finds it.
use Rattle.std.proofs.Common.{◌≡◌, ℕ, ◌+◌, ◌<◌, Bool, true, false, cond, ◌&&◌, eqb, ltb, List, [], ◌∷◌, ◌++◌, length, take, get_or, set, Option, Some, None, refl, sym, ap, ◌∙◌, arith, inl, inr}
use Rattle.std.proofs.lemmas.List.{take_more, get_or-set_other, length-set}
use Rattle.std.proofs.lemmas.Option.{slice_get-get_or}
use Rattle.std.proofs.lemmas.Bool.{ne_eqb, eq-eqb, ltb-false, cases_eq}
use borrow.Author.Tests.{ltb-true}
use Rattle.std.proofs.lemmas.Grind.{get_or-set_at}
use Rattle.object_rules.specs.wasm_module.declared.parts.Export.{Export}
use Rattle.object_file.specs.Objects.{last_name, export_name}
use Rattle.object_file.specs.Exports.{named, name_at, noted}

-- one export more decides, where it is of the function
last_more : (index : ℕ) (es : List Export) (e : Export) (name : Option (List ℕ)) → last_name index (es ++ e ∷ []) name ≡ cond (eqb e.kind 0 && eqb e.index index) (Some e.name) (last_name index es name)
last_more index [] e name = refl
last_more index (x ∷ xs) e name = last_more index xs e (cond (eqb x.kind 0 && eqb x.index index) (Some x.name) name)

pub record Last (exports : List Export) (functions at : ℕ) (places : List (Option ℕ)) : Type 0 where
  pub len : length places ≡ functions
  pub last : (k : ℕ) → k < functions → name_at exports (get_or places k None) ≡ export_name (take at exports) k

pub one_more : (exports : List Export) (functions at : ℕ) (d : Export) (places : List (Option ℕ)) → at < length exports → Last exports functions at places → Last exports functions (at + 1) (noted (get_or exports at d) at places)
one_more exports functions at d places lt so_far = by (eqb e.kind 0) (ltb e.index (length places)) refl refl
  where
    e : Export
    e = get_or exports at d

    here : name_at exports (Some at) ≡ Some e.name
    here = ap named (slice_get-get_or exports at d lt)

    more : (k : ℕ) → export_name (take (at + 1) exports) k ≡ cond (eqb e.kind 0 && eqb e.index k) (Some e.name) (export_name (take at exports) k)
    more k = ap (λ es. last_name k es None) (take_more exports at d lt) ∙ last_more k (take at exports) e None

    by : (q r : Bool) → eqb e.kind 0 ≡ q → ltb e.index (length places) ≡ r → Last exports functions (at + 1) (cond (q && r) (set places e.index (Some at)) places)
    by false r is is2 = record { len = so_far.len; last = λ k lt2. so_far.last k lt2 ∙ sym (more k ∙ rw is refl) }
    by true false is is2 = record { len = so_far.len; last = λ k lt2. so_far.last k lt2 ∙ sym (more k ∙ rw (is, ne_eqb e.index k (λ same. omega (arith, ltb-false e.index (length places) is2, so_far.len, same, lt2))) refl) }
    by true true is is2 = record {
      len = length-set places e.index (Some at) ∙ so_far.len;
      last = λ k lt2. elim (cases_eq e.index k) [
        | inl same ↦ ap (name_at exports) (get_or-set_at places e.index k (Some at) None (sym same) (ltb-true e.index (length places) is2)) ∙ here ∙ sym (more k ∙ rw (is, eq-eqb e.index k same) refl)
        | inr other ↦ ap (name_at exports) (get_or-set_other places e.index k (Some at) None (λ same. other (sym same))) ∙ so_far.last k lt2 ∙ sym (more k ∙ rw (is, ne_eqb e.index k other) refl)
      ];
    }
