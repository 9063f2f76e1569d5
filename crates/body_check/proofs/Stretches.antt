-- The locals of a body, by the places of their runs.
use Rattle.std.proofs.Common.{◌≡◌, ℕ, zero, suc, ◌+◌, ◌-◌, ◌<◌, ◌≤◌, Bool, true, false, List, [], ◌∷◌, ◌++◌, length, drop, Some, refl, sym, ap, ◌∙◌, subst, arith}
use Rattle.std.specs.Prelude.{slice_get, nat_lt, if◌then◌else◌}
use Rattle.std.proofs.lemmas.Bool.{ltb-true, ltb-false, lt-ltb, le-ltb}
use Rattle.wasm_types.specs.declared.value.ValType.{ValType}
use Rattle.wasm_instr.specs.declared.body.LocalRun.{LocalRun}
use Rattle.valid_bodies.specs.Shapes.{run_type, local_type}
use Rattle.body_check.specs.declared.table.Stretch.{Stretch}
use Rattle.body_check.specs.Table.{Tells}
use Rattle.body_check.proofs.Tables.{front, behind}

pub kind_there : (params : List ValType) (runs : List LocalRun) (others : List Stretch) (k : ℕ) (s : Stretch) (x : ℕ) → Tells params runs others → slice_get others k ≡ Some s → s.from ≤ x → x < s.to → local_type params runs x ≡ Some s.kind
kind_there params runs others k s x tells here low high = tells k s here x low high

pub tells_none : (params : List ValType) (runs : List LocalRun) → Tells params runs []
tells_none params runs = λ k s e x low high. absurd (grind arith)

pub tells_more : (params : List ValType) (runs : List LocalRun) (others : List Stretch) (s : Stretch) → Tells params runs others → ((x : ℕ) → s.from ≤ x → x < s.to → local_type params runs x ≡ Some s.kind) → Tells params runs (others ++ s ∷ [])
tells_more params runs others s tells so = λ k r e x low high. of k r e x low high (nat_lt k (length others)) refl
  where
    last : (n : ℕ) (r : Stretch) → slice_get (s ∷ []) n ≡ Some r → s ≡ r
    last zero r e = grind arith
    last (suc n) r e = absurd (grind arith)

    of : (k : ℕ) (r : Stretch) → slice_get (others ++ s ∷ []) k ≡ Some r → (x : ℕ) → r.from ≤ x → x < r.to → (b : Bool) → nat_lt k (length others) ≡ b → local_type params runs x ≡ Some r.kind
    of k r e x low high true lt = tells k r (sym (front others (s ∷ []) k (ltb-true k (length others) lt)) ∙ e) x low high
    of k r e x low high false lt =
        let same = last (k - length others) r (sym (behind others (s ∷ []) k (ltb-false k (length others) lt)) ∙ e) in
        subst (λ (r : Stretch). r.from ≤ x → x < r.to → local_type params runs x ≡ Some r.kind) same (so x) low high

-- ---- one run after the other

-- what is left of the runs tells of the locals from here on
abbrev pub Left : List ValType → List LocalRun → ℕ → ℕ → Type 0
Left params runs from at = (x : ℕ) → from ≤ x → local_type params runs x ≡ run_type (drop at runs) (x - from)

pub no_run_yet : (params : List ValType) (runs : List LocalRun) → Left params runs (length params) 0
no_run_yet params runs = λ x le. rw (le-ltb x (length params) le) refl

module _ (params : List ValType) (runs : List LocalRun) (run : LocalRun) (from at to : ℕ) (is : to ≡ from + run.count) (more : drop at runs ≡ run ∷ drop (at + 1) runs) (left : Left params runs from at) where
  here : (x : ℕ) → from ≤ x → local_type params runs x ≡ (if nat_lt (x - from) run.count then Some run.kind else run_type (drop (at + 1) runs) (x - from - run.count))
  unfolding run_type
  here x low = left x low ∙ ap (λ rs. run_type rs (x - from)) more

  pub left_on : Left params runs to (at + 1)
  left_on = λ x low.
      let low_here : from ≤ x = omega (arith, is, low) in
      let past : run.count ≤ x - from = omega (arith, is, low) in
      let same : x - from - run.count ≡ x - to = omega (arith, is, low) in
      here x low_here
      ∙ ap (λ (b : Bool). if b then Some run.kind else run_type (drop (at + 1) runs) (x - from - run.count)) (le-ltb (x - from) run.count past)
      ∙ ap (run_type (drop (at + 1) runs)) same

  pub told_here : (x : ℕ) → from ≤ x → x < to → local_type params runs x ≡ Some run.kind
  told_here x low high =
      let within : x - from < run.count = omega (arith, is, low, high) in
      here x low ∙ ap (λ (b : Bool). if b then Some run.kind else run_type (drop (at + 1) runs) (x - from - run.count)) (lt-ltb (x - from) run.count within)
