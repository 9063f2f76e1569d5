-- The locals of a body, one by one.
use Rattle.std.proofs.Common.{◌≡◌, ℕ, zero, suc, ◌-◌, ◌<◌, ◌≤◌, Bool, true, false, List, [], ◌∷◌, ◌++◌, replicate, length, drop, Some, refl, sym, ap, ◌∙◌, arith}
use Rattle.std.specs.Prelude.{slice_get, nat_lt, if◌then◌else◌}
use Rattle.std.proofs.lemmas.Bool.{ltb-true, ltb-false, lt-ltb}
use Rattle.std.proofs.lemmas.List.{append-nil}
use Rattle.std.proofs.lemmas.Option.{slice_get_within}
use Rattle.wasm_types.specs.declared.value.ValType.{ValType}
use Rattle.wasm_instr.specs.declared.body.LocalRun.{LocalRun}
use Rattle.valid_bodies.specs.Shapes.{run_type, local_type}
use Rattle.body_check.specs.Table.{spread, TellsFirst}

pub front : {A : Type 0} (xs ys : List A) (x : ℕ) → x < length xs → slice_get (xs ++ ys) x ≡ slice_get xs x
front [] ys x lt = absurd (omega (arith, lt))
front (a ∷ xs) ys zero lt = refl
front (a ∷ xs) ys (suc x) lt = front xs ys x (omega (arith, lt))

pub behind : {A : Type 0} (xs ys : List A) (x : ℕ) → length xs ≤ x → slice_get (xs ++ ys) x ≡ slice_get ys (x - length xs)
behind [] ys x le = let same : x ≡ x - 0 = omega arith in ap (slice_get ys) same
behind (a ∷ xs) ys zero le = absurd (omega (arith, le))
behind (a ∷ xs) ys (suc x) le =
    let same : x - length xs ≡ suc x - suc (length xs) = omega arith in
    behind xs ys x (omega (arith, le)) ∙ ap (slice_get ys) same

many_long : {A : Type 0} (n : ℕ) (a : A) → length (replicate n a) ≡ n
many_long zero a = refl
many_long (suc n) a = ap suc (many_long n a)

many_here : {A : Type 0} (n : ℕ) (a : A) (x : ℕ) → x < n → slice_get (replicate n a) x ≡ Some a
many_here zero a x lt = absurd (omega (arith, lt))
many_here (suc n) a zero lt = refl
many_here (suc n) a (suc x) lt = many_here n a x (omega (arith, lt))

runs_get : (runs : List LocalRun) (x : ℕ) → run_type runs x ≡ slice_get (spread runs) x
unfolding run_type
runs_get [] x = refl
runs_get (run ∷ runs) x = of (runs_get runs (x - run.count)) (nat_lt x run.count) refl
  where
    of : run_type runs (x - run.count) ≡ slice_get (spread runs) (x - run.count) → (b : Bool) → nat_lt x run.count ≡ b → (if b then Some run.kind else run_type runs (x - run.count)) ≡ slice_get (replicate run.count run.kind ++ spread runs) x
    of others true e =
        let lt = ltb-true x run.count e in
        sym (front (replicate run.count run.kind) (spread runs) x (omega (arith, lt, many_long run.count run.kind)) ∙ many_here run.count run.kind x lt)
    of others false e =
        let le = ltb-false x run.count e in
        let long = many_long run.count run.kind in
        let same : x - length (replicate run.count run.kind) ≡ x - run.count = omega (arith, long) in
        others
        ∙ sym (behind (replicate run.count run.kind) (spread runs) x (omega (arith, le, long)) ∙ ap (slice_get (spread runs)) same)

pub params_table : (params : List ValType) (runs : List LocalRun) → TellsFirst params runs params
params_table params runs = λ x t e. let within = slice_get_within params x t e in rw (lt-ltb x (length params) within) e

pub whole_table : (params : List ValType) (runs : List LocalRun) (table : List ValType) → table ≡ params ++ spread runs → TellsFirst params runs table
whole_table params runs table is = λ x t e. of x t (ap (λ ts. slice_get ts x) (sym is) ∙ e) (nat_lt x (length params)) refl
  where
    of : (x : ℕ) (t : ValType) → slice_get (params ++ spread runs) x ≡ Some t → (b : Bool) → nat_lt x (length params) ≡ b → local_type params runs x ≡ Some t
    of x t e true lt = rw lt (sym (front params (spread runs) x (ltb-true x (length params) lt)) ∙ e)
    of x t e false lt = rw lt (runs_get runs (x - length params) ∙ sym (behind params (spread runs) x (ltb-false x (length params) lt)) ∙ e)

-- no run is left
pub all_put : (table : List ValType) (runs : List LocalRun) (at : ℕ) (all : List ValType) → length runs ≤ at → table ++ spread (drop at runs) ≡ all → table ≡ all
all_put table [] at all le so_far = of at so_far
  where
    of : (at : ℕ) → table ++ spread (drop at []) ≡ all → table ≡ all
    of zero e = sym (append-nil table) ∙ e
    of (suc at) e = sym (append-nil table) ∙ e
all_put table (r ∷ runs) zero all le so_far = absurd (omega (arith, le))
all_put table (r ∷ runs) (suc at) all le so_far = all_put table runs at all (omega (arith, le)) so_far
