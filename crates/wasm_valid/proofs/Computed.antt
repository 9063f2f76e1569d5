-- What is judged is what is computed.
use Rattle.std.proofs.Common.{◌≡◌, ℕ, zero, suc, ◌+◌, ◌<◌, ◌≤◌, Bool, true, false, cond, length, slice_get, Option, Some, None, Result, Ok, Err, refl, ap, sym, ◌∙◌, arith}
use Rattle.std.specs.Prelude.{option_map, option_and_then}
use Rattle.wasm_types.specs.declared.function.FuncType.{FuncType}
use Rattle.wasm_instr.specs.declared.body.Body.{Body}
use Rattle.wasm_module.specs.declared.structure.Module.{Module}
use Rattle.valid_bodies.specs.declared.types.Context.{Context}
use Rattle.valid_bodies.specs.Shapes.{shapes_in}
use Rattle.valid_bodies.specs.Went.{accepts, Decides}
use Rattle.valid_bodies.specs.First.{HasTyping, TypedAt}
use Rattle.valid_bodies.proofs.Deciding.{decides}
use Rattle.valid_rules.specs.Leads.{IsTyped}
use Rattle.wl_base.specs.declared.fault.InvalidAt.TheVariants as places
use Rattle.wasm_valid.specs.declared.fault.ValidError.{ValidError}
use Rattle.wasm_valid.specs.declared.fault.ValidError.TheVariants.{Invalid, OutOfMemory}
use Rattle.wasm_valid.specs.Spaces.{spaces_of, context_of}
use Rattle.wasm_valid.specs.Rules.{stands}
use Rattle.wasm_valid.specs.Valid.{Judges}
use Rattle.wasm_valid.specs.Computed.{accepted, accepted_at, first_no, body_at, module_fault, Tells}

-- ---- the first number

none_no : (test : ℕ → Bool) (k n : ℕ) → ((j : ℕ) → k ≤ j → j < k + n → test j ≡ true) → first_no test k n ≡ None
none_no test k zero all = refl
none_no test k (suc n) all =
    ap (λ b. cond b (first_no test (k + 1) n) (Some k)) (all k (omega arith) (omega arith))
    ∙ none_no test (k + 1) n (λ j above below. all j (omega arith) (omega arith))

first_is : (test : ℕ → Bool) (at d k n : ℕ) → at ≡ k + d → d < n → ((j : ℕ) → k ≤ j → j < at → test j ≡ true) → test at ≡ false → first_no test k n ≡ Some at
first_is test at d k zero e below all fails = absurd (omega arith)
first_is test at zero k (suc n) e below all fails =
    let same : k ≡ at = omega arith in
    ap (λ b. cond b (first_no test (k + 1) n) (Some k)) (ap test same ∙ fails) ∙ ap (λ j. Some j) same
first_is test at (suc d) k (suc n) e below all fails =
    ap (λ b. cond b (first_no test (k + 1) n) (Some k)) (all k (omega arith) (omega arith))
    ∙ first_is test at d (k + 1) n (omega arith) (omega arith) (λ j h l. all j (omega arith) l) fails

-- ---- bodies

from_typed : (so : Bool) (P : Type 0) → Decides so P → P → so ≡ true
from_typed true P t p = refl
from_typed false P t p = absurd (t p)

from_untyped : (so : Bool) (P : Type 0) → Decides so P → (P → ⊥) → so ≡ false
from_untyped true P t never = absurd (never t)
from_untyped false P t never = refl

has_typing : (c : Context) (t : Option FuncType) (b : Option Body) → HasTyping c t b → accepted c t b ≡ true
has_typing c (Some t) (Some b) p = from_typed (accepts t.results (shapes_in c t b)) (IsTyped t.results (shapes_in c t b)) (decides t.results (shapes_in c t b) (accepts t.results (shapes_in c t b)) refl) p
has_typing c (Some t) None p = absurd p
has_typing c None b p = absurd p

has_none : (c : Context) (t : Option FuncType) (b : Option Body) → (HasTyping c t b → ⊥) → accepted c t b ≡ false
has_none c (Some t) (Some b) p = from_untyped (accepts t.results (shapes_in c t b)) (IsTyped t.results (shapes_in c t b)) (decides t.results (shapes_in c t b) (accepts t.results (shapes_in c t b)) refl) p
has_none c (Some t) None p = refl
has_none c None b p = refl

-- ---- all

module _ (m : Module) where
  test : ℕ → Bool
  test = accepted_at (context_of m) m.functions m.bodies

  outside : stands (spaces_of m) m ≡ false → module_fault m ≡ Some places.Module
  unfolding module_fault
  outside e = ap (λ b. cond b (option_map (body_at m) (first_no (accepted_at (context_of m) m.functions m.bodies) 0 (length m.bodies))) (Some places.Module)) e

  inside : stands (spaces_of m) m ≡ true → module_fault m ≡ option_map (body_at m) (first_no (accepted_at (context_of m) m.functions m.bodies) 0 (length m.bodies))
  unfolding module_fault
  inside e = ap (λ b. cond b (option_map (body_at m) (first_no (accepted_at (context_of m) m.functions m.bodies) 0 (length m.bodies))) (Some places.Module)) e

  typed : (j : ℕ) → TypedAt (context_of m) m.functions m.bodies j → accepted_at (context_of m) m.functions m.bodies j ≡ true
  typed j p = has_typing (context_of m) (option_and_then (slice_get m.types) (slice_get m.functions j)) (slice_get m.bodies j) p

  untyped : (j : ℕ) → (TypedAt (context_of m) m.functions m.bodies j → ⊥) → accepted_at (context_of m) m.functions m.bodies j ≡ false
  untyped j p = has_none (context_of m) (option_and_then (slice_get m.types) (slice_get m.functions j)) (slice_get m.bodies j) p

  pub judged_is_computed : (r : Result (Unit {0}) ValidError) → Judges r m → Tells r (module_fault m)
  judged_is_computed (Ok valid) v =
      inside v.rules ∙ ap (option_map (body_at m)) (none_no (accepted_at (context_of m) m.functions m.bodies) 0 (length m.bodies) (λ j above below. typed j (v.bodies j (omega arith))))
  judged_is_computed (Err (Invalid places.Module)) e = outside e
  judged_is_computed (Err (Invalid (places.Body n))) u =
      inside u.0
      ∙ ap (option_map (body_at m)) (first_is (accepted_at (context_of m) m.functions m.bodies) u.1.0 u.1.0 0 (length m.bodies) (omega arith) u.1.2.0 (λ j above below. typed j (u.1.2.1 j below)) (untyped u.1.0 u.1.2.2))
      ∙ ap (λ k. Some (places.Body k)) (sym u.1.1)
  judged_is_computed (Err OutOfMemory) e = tt
