-- What is computed of an object is true of it.
use Rattle.std.proofs.Common.{◌≡◌, ℕ, zero, suc, ◌+◌, ◌<◌, Bool, true, false, cond, List, [], ◌∷◌, length, slice_get, Option, Some, None, Result, Ok, Err, refl, subst, arith}
use Rattle.std.specs.Prelude.{option_map}
use Rattle.object_file.specs.wl_base.declared.fault.InvalidAt.{InvalidAt}
use Rattle.object_file.specs.wl_base.declared.fault.InvalidAt.TheVariants as places
use Rattle.object_file.specs.object_columns.declared.functions.FunctionDef.{FunctionDef}
use Rattle.object_file.specs.declared.object.Object.{Object}
use Rattle.object_file.specs.Spaces.{function_imports, defined_type}
use Rattle.wasm_instr.specs.wasm_grammar.declared.fault.Stop.{Stop}
use Rattle.wasm_instr.specs.declared.body.Body.{Body}
use Rattle.wasm_instr.specs.Bodies.{body_at}
use Rattle.valid_bodies.specs.Went.{accepts, Decides}
use Rattle.valid_bodies.proofs.Deciding.{decides}
use Rattle.wasm_valid.specs.declared.fault.ValidError.{ValidError}
use Rattle.wasm_valid.specs.declared.fault.ValidError.TheVariants.{Invalid, OutOfMemory}
use Rattle.wasm_valid.specs.Computed.{Tells}
use Rattle.valid_objects.specs.Objects.{object_shapes, body_bytes, HasTyping, TypedIn, globals_stand, accepted, first_refused, object_fault}
use Rattle.valid_objects.specs.Judged.{JudgesObject}

-- ---- a body

read_typed : (o : Object) (f : FunctionDef) (b : Result Body Stop) → Decides (accepted o f b) (HasTyping o f b)
read_typed o f (Err stop) = λ p. p
read_typed o f (Ok b) = decides (defined_type o f).results (object_shapes o f b) (accepts (defined_type o f).results (object_shapes o f b)) refl

-- The body of a function is accepted.
abbrev is_accepted : Object → List ℕ → FunctionDef → Bool
is_accepted o bytes f = accepted o f (body_at (body_bytes bytes f.span))

abbrev IsTypedIn : Object → List ℕ → FunctionDef → Type 0
IsTypedIn o bytes f = HasTyping o f (body_at (body_bytes bytes f.span))

typed : (o : Object) (bytes : List ℕ) (f : FunctionDef) → is_accepted o bytes f ≡ true → IsTypedIn o bytes f
typed o bytes f e = subst (λ so. Decides so (IsTypedIn o bytes f)) e (read_typed o f (body_at (body_bytes bytes f.span)))

untyped : (o : Object) (bytes : List ℕ) (f : FunctionDef) → is_accepted o bytes f ≡ false → IsTypedIn o bytes f → ⊥
untyped o bytes f e = subst (λ so. Decides so (IsTypedIn o bytes f)) e (read_typed o f (body_at (body_bytes bytes f.span)))

-- ---- the first

module _ (o : Object) (bytes : List ℕ) where
  abbrev IsFirstOf : List FunctionDef → ℕ → Type 0
  IsFirstOf fs k = (k < length fs) × ((j : ℕ) → j < k → TypedIn o bytes (slice_get fs j)) × (TypedIn o bytes (slice_get fs k) → ⊥)

  -- All of these have a typing, or the one of this number is the first that has none.
  abbrev AreTyped : ℕ → List FunctionDef → Option ℕ → Type 0
  AreTyped n fs None = (k : ℕ) → k < length fs → TypedIn o bytes (slice_get fs k)
  AreTyped n fs (Some m) =
      (k : ℕ) × (m ≡ n + k) × IsFirstOf fs k

  one_more : (n : ℕ) (f : FunctionDef) (fs : List FunctionDef) (found : Option ℕ) → IsTypedIn o bytes f → AreTyped (n + 1) fs found → AreTyped n (f ∷ fs) found
  one_more n f fs None t others = λ k below. by k below where
    by : (k : ℕ) → k < length (f ∷ fs) → TypedIn o bytes (slice_get (f ∷ fs) k)
    by zero below = t
    by (suc k) below = others k (omega (arith, below))
  one_more n f fs (Some m) t others = (suc others.0, omega (arith, others.1), (omega (arith, others.2.0), by, others.2.2)) where
    by : (j : ℕ) → j < suc others.0 → TypedIn o bytes (slice_get (f ∷ fs) j)
    by zero below = t
    by (suc j) below = others.2.1 j (omega (arith, below))

  by_body : (n : ℕ) (f : FunctionDef) (fs : List FunctionDef) (found : Option ℕ) (so : Bool) → is_accepted o bytes f ≡ so → AreTyped (n + 1) fs found → AreTyped n (f ∷ fs) (cond so found (Some n))
  by_body n f fs found true e others = one_more n f fs found (typed o bytes f e) others
  by_body n f fs found false e others = (0, omega arith, (omega arith, (λ j below. absurd (omega (arith, below))), untyped o bytes f e))

  first_is : (n : ℕ) (fs : List FunctionDef) → AreTyped n fs (first_refused o bytes n fs)
  first_is n [] = λ k below. absurd (omega (arith, below))
  first_is n (f ∷ fs) = by_body n f fs (first_refused o bytes (n + 1) fs) (is_accepted o bytes f) refl (first_is (n + 1) fs)

  -- ---- the object

  -- What is true of it, by its fault.
  abbrev HasFault : Option InvalidAt → Type 0
  HasFault None = JudgesObject (Ok tt) o bytes
  HasFault (Some at) = JudgesObject (Err (Invalid at)) o bytes

  in_bodies : globals_stand o ≡ true → (found : Option ℕ) → AreTyped (length (function_imports o)) o.functions found → HasFault (option_map places.Body found)
  in_bodies e None all = record { globals = e; bodies = all }
  in_bodies e (Some n) first = (e, first)

  fault_is : HasFault (object_fault o bytes)
  fault_is = by (globals_stand o) refl where
    by : (so : Bool) → globals_stand o ≡ so → HasFault (cond so (option_map places.Body (first_refused o bytes (length (function_imports o)) o.functions)) (Some places.Module))
    by true e = in_bodies e (first_refused o bytes (length (function_imports o)) o.functions) (first_is (length (function_imports o)) o.functions)
    by false e = e

  pub computed_is_judged : (r : Result (Unit {0}) ValidError) → Tells r (object_fault o bytes) → JudgesObject r o bytes
  computed_is_judged (Ok tt) e = subst HasFault e fault_is
  computed_is_judged (Err (Invalid at)) e = subst HasFault e fault_is
  computed_is_judged (Err OutOfMemory) e = tt
