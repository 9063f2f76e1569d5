-- Typing (Core 3.3): from which operands to which a sequence of instructions leads. The newest operand
-- stands last. A sequence is flat: a block's own instructions stand between what opens it and its `end`.
use Rattle.std.specs.Prelude.{◌≡◌, ℕ, List, [], ◌∷◌, ◌++◌, map, Some, slice_get}
use Rattle.wasm_types.specs.declared.value.ValType.{ValType}
use Rattle.wasm_types.specs.declared.value.ValType.TheVariants.{I32}
use Rattle.valid_rules.specs.declared.types.Operand.{Operand}
use Rattle.valid_rules.specs.declared.types.Operand.TheVariants.{Known, Unknown}
use Rattle.wasm_types.specs.declared.function.FuncType.{FuncType}
use Rattle.valid_rules.specs.declared.types.Opener.TheVariants.{Block, Loop, If}
use Rattle.valid_rules.specs.declared.types.Shape.{Shape}
use Rattle.valid_rules.specs.declared.types.Shape.TheVariants.{Typed, Drops, Selects, Leaves, Branches, BranchesIf, BranchesBy, Opens, Else, End}

-- An unknown operand has every type, and a known one its own alone (Core 3.3.4, 3.3.8: instructions that
-- are polymorphic, as appendix A.3 has them).
abbrev pub Matches : Operand → Operand → Type 0
Matches Unknown b = Unit {0}
Matches (Known t) b = Known t ≡ b

-- Two lists of one length, item by item.
abbrev pub Each : {A B : Type 0} → (A → B → Type 0) → List A → List B → Type 0
Each R [] [] = Unit {0}
Each R (a ∷ as') (b ∷ bs) = R a b × Each R as' bs
Each R _ _ = ⊥

-- All items.
abbrev pub Every : {A : Type 0} → (A → Type 0) → List A → Type 0
Every P [] = Unit {0}
Every P (a ∷ as') = P a × Every P as'

-- Operands whose types are known.
abbrev pub known : List ValType → List Operand
known ts = map Known ts

-- The labels of a context: the types that a branch to each one takes, the innermost first (Core 3.1.1).
abbrev pub Labels : Type 0
Labels = List (List ValType)

-- A branch to this label takes operands of these types.
abbrev pub Takes : Labels → List Operand → ℕ → Type 0
Takes ls ts l = (label : List ValType) × (slice_get ls l ≡ Some label) × Each Matches ts (known label)

-- In a context with these labels the instructions lead from the one list of operands to the other.
--
-- `nothing` to `weaker` are the rules of sequences (Core 3.3.9): the empty sequence; one behind another;
-- operands below that nobody touches; and what leads to unknown operands leads to known ones in their place.
-- `typed` to `branches_by` are one rule a kind of instruction (3.3.1 to 3.3.8). Those that never come behind
-- themselves take anything below what they take, and lead to anything; a `br_table` takes the same operands
-- for all its labels.
-- `blocks` to `or_not` are the structured instructions (3.3.8): a block's own instructions see its label
-- before those around it, which carries the results, of a loop the parameters.
pub data Leads : Labels → List Shape → List Operand → List Operand → Type 0 where
  -- lists
  nothing : {ls : Labels} {a : List Operand} → Leads ls [] a a
  follows : {ls : Labels} {is js : List Shape} {a b c : List Operand} → Leads ls is a b → Leads ls js b c → Leads ls (is ++ js) a c
  above : {ls : Labels} {is : List Shape} {a b : List Operand} (u : List Operand) → Leads ls is a b → Leads ls is (u ++ a) (u ++ b)
  weaker : {ls : Labels} {is : List Shape} {a b c : List Operand} → Leads ls is a b → Each Matches b c → Leads ls is a c
  -- instructions
  typed : {ls : Labels} {t : FuncType} → Leads ls (Typed t ∷ []) (known t.params) (known t.results)
  drops : {ls : Labels} {t : Operand} → Leads ls (Drops ∷ []) (t ∷ []) []
  selects : {ls : Labels} {t : Operand} → Leads ls (Selects ∷ []) (t ∷ t ∷ Known I32 ∷ []) (t ∷ [])
  leaves : {ls : Labels} {ts : List ValType} {b : List Operand} (a : List Operand) → Leads ls (Leaves ts ∷ []) (a ++ known ts) b
  branches : {ls : Labels} {l : ℕ} {b : List Operand} (a : List Operand) (ts : List ValType) → slice_get ls l ≡ Some ts → Leads ls (Branches l ∷ []) (a ++ known ts) b
  branches_if : {ls : Labels} {l : ℕ} (ts : List ValType) → slice_get ls l ≡ Some ts → Leads ls (BranchesIf l ∷ []) (known (ts ++ I32 ∷ [])) (known ts)
  branches_by : {ls : Labels} {ks : List ℕ} {l : ℕ} {b : List Operand} (a ts : List Operand) → Every (Takes ls ts) (l ∷ ks) → Leads ls (BranchesBy ks l ∷ []) (a ++ ts ++ Known I32 ∷ []) b
  -- blocks
  blocks : {ls : Labels} {t : FuncType} {is : List Shape} → Leads (t.results ∷ ls) is (known t.params) (known t.results) → Leads ls (Opens Block t ∷ is ++ End ∷ []) (known t.params) (known t.results)
  loops : {ls : Labels} {t : FuncType} {is : List Shape} → Leads (t.params ∷ ls) is (known t.params) (known t.results) → Leads ls (Opens Loop t ∷ is ++ End ∷ []) (known t.params) (known t.results)
  either : {ls : Labels} {t : FuncType} {is js : List Shape} → Leads (t.results ∷ ls) is (known t.params) (known t.results) → Leads (t.results ∷ ls) js (known t.params) (known t.results) →
      Leads ls (Opens If t ∷ is ++ Else ∷ js ++ End ∷ []) (known (t.params ++ I32 ∷ [])) (known t.results)
  -- an `else` that isn't written stands before no instructions
  or_not : {ls : Labels} {t : FuncType} {is : List Shape} → Leads (t.results ∷ ls) is (known t.params) (known t.results) → Leads (t.results ∷ ls) [] (known t.params) (known t.results) →
      Leads ls (Opens If t ∷ is ++ End ∷ []) (known (t.params ++ I32 ∷ [])) (known t.results)

-- A body with the `end` that closes it has a typing, in a function with these results (Core 3.4.1): it leads
-- from no operands to the results, and a branch to its one label takes them.
pub record IsTyped (results : List ValType) (code : List Shape) : Type 0 where
  pub body : List Shape
  pub ends : code ≡ body ++ End ∷ []
  pub leads : Leads (results ∷ []) body [] (known results)
