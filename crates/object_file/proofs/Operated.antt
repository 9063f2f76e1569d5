-- What the operands of a body name.
use Rattle.std.proofs.Common.{◌≡◌, ℕ, ◌+◌, ◌⊎◌, inl, inr, Bool, true, false, cond, eqb, List, [], ◌∷◌, length, map, refl, sym, subst, ◌∙◌, Option, Some, None, Result, Ok, Err, arith}
use Rattle.std.specs.Prelude.{All, ◌||◌, ◌&&◌, ◌==◌}
use Rattle.std.specs.List.{list_any}
use Rattle.std.proofs.lemmas.Bool.{and_parts, or_cases, eqb-true}
use Rattle.std.proofs.lemmas.List.Elements.{All-nil, All-cons, All-head, All-tail, All-contains}
use Rattle.object_rules.specs.wl_base.Choice.{first_some, unless}
use Rattle.object_rules.specs.reloc_section.declared.entry.Reloc.{Reloc}
use Rattle.object_rules.specs.body_windows.declared.operand.Operand.{Operand}
use Rattle.object_rules.specs.body_windows.declared.operand.Operand.TheVariants.{Number, TableZero}
use Rattle.object_rules.specs.body_windows.declared.fault.Mismatch.{Mismatch}
use Rattle.object_rules.specs.body_windows.declared.fault.Mismatch.TheVariants.{Overlap, OffImmediate, BareIndex}
use Rattle.object_rules.specs.body_windows.declared.immediate.Immediate.{Immediate}
use Rattle.object_rules.specs.body_windows.declared.immediate.ImmediateKind.{ImmediateKind}
use Rattle.object_rules.specs.body_windows.declared.immediate.ImmediateKind.TheVariants as kinds
use Rattle.object_rules.specs.body_windows.Operands.{StandIn}
use Rattle.object_rules.specs.body_windows.Immediates.{immediates, may_stand, plain_operand, fills, operand_of}
use Rattle.object_rules.specs.body_windows.Windows.{reloc_at, operand_by, operand_at, least_overlap, first_off, first_bare, fault_with, operands_at, windows_of}
use Rattle.object_rules.proofs.body_windows_lemmas.Order.{body_order}
use Rattle.object_rules.proofs.body_windows_lemmas.Within.{operands_stand, operands_are}
use Rattle.object_rules.specs.object_parts.declared.parts.CodeBody.{CodeBody}
use Rattle.object_file.specs.Objects.{operands_of}
use Rattle.object_file.specs.Sound.{is_code_type}
use Rattle.object_file.proofs.Told.{BodyTold}

-- ---- where they stand

pub operands_stand_in : {begin : ℕ} (bytes : List ℕ) (relocs : List Reloc) (b : CodeBody) → BodyTold begin bytes relocs b → StandIn 0 b.span.len (operands_of b.windows)
operands_stand_in bytes relocs b t = by b.windows refl
  where
    by : (windows : Result (List Operand) Mismatch) → b.windows ≡ windows → StandIn 0 b.span.len (operands_of windows)
    by (Ok os) is =
        let read : windows_of t.base t.some t.body ≡ Ok os = sym t.windows ∙ is in
        subst (λ n. StandIn 0 n os) t.long (operands_stand t.base t.some (immediates t.body.code) 0 (length t.text) os (body_order t.body t.text t.spelled).0 read)
    by (Err e) is = omega arith

-- ---- the types of their relocations

-- No window is off where there is no fault.
none_off : (overlap off bare : Option ℕ) (xs os : List Operand) → unless (first_some (fault_with Overlap overlap ∷ fault_with OffImmediate off ∷ fault_with BareIndex bare ∷ [])) xs ≡ Ok os → off ≡ None
none_off (Some n) off bare xs os e = absurd cc
none_off None (Some n) bare xs os e = absurd cc
none_off None None bare xs os e = refl

no_window_off : (base : ℕ) (relocs : List Reloc) (is : List Immediate) (os : List Operand) → operands_at base relocs is ≡ Ok os → first_off base is relocs ≡ None
unfolding operands_at
no_window_off base relocs is os e = none_off (least_overlap relocs) (first_off base is relocs) (first_bare base relocs is) (map (operand_at base relocs) is) os e

-- Each window is an immediate, so its type is one of code.
abbrev pub IsOfCode : Reloc → Type 0
IsOfCode r = ((r.kind == 6) || is_code_type r.kind) ≡ true

any_kind : (base : ℕ) (r : Reloc) (is : List Immediate) → list_any (fills base r) is ≡ true → (kind : ImmediateKind) × (may_stand r.kind kind ≡ true)
any_kind base r [] e = absurd cc
any_kind base r (i ∷ is) e = by (or_cases (fills base r i) (list_any (fills base r) is) e) (any_kind base r is)
  where
    by : (fills base r i ≡ true) ⊎ (list_any (fills base r) is ≡ true) → (list_any (fills base r) is ≡ true → (kind : ImmediateKind) × (may_stand r.kind kind ≡ true)) → (kind : ImmediateKind) × (may_stand r.kind kind ≡ true)
    by (inl here) others = (i.kind, (and_parts (((base + i.place) == r.offset) && (i.len == 5)) (may_stand r.kind i.kind) here).1)
    by (inr there) others = others there

is_one : (kind n : ℕ) → eqb kind n ≡ true → ((n == 6) || is_code_type n) ≡ true → ((kind == 6) || is_code_type kind) ≡ true
is_one kind n e known = subst (λ k. ((k == 6) || is_code_type k) ≡ true) (sym (eqb-true kind n e)) known

code_kind : (kind : ℕ) (on : ImmediateKind) → may_stand kind on ≡ true → ((kind == 6) || is_code_type kind) ≡ true
code_kind kind kinds.FunctionIndex e = is_one kind 0 e refl
code_kind kind kinds.TypeIndex e = is_one kind 6 e refl
code_kind kind (kinds.TableIndex table) e = is_one kind 20 e refl
code_kind kind kinds.GlobalIndex e = is_one kind 7 e refl
code_kind kind kinds.MemoryOffset e = is_one kind 3 e refl
code_kind kind kinds.Constant e = first (or_cases ((kind == 1) || (kind == 4) || (kind == 11)) (kind == 12) e)
  where
    third : ((kind == 1) ≡ true) ⊎ ((kind == 4) ≡ true) → ((kind == 6) || is_code_type kind) ≡ true
    third (inl one) = is_one kind 1 one refl
    third (inr four) = is_one kind 4 four refl

    second : (((kind == 1) || (kind == 4)) ≡ true) ⊎ ((kind == 11) ≡ true) → ((kind == 6) || is_code_type kind) ≡ true
    second (inl two) = third (or_cases (kind == 1) (kind == 4) two)
    second (inr eleven) = is_one kind 11 eleven refl

    first : (((kind == 1) || (kind == 4) || (kind == 11)) ≡ true) ⊎ ((kind == 12) ≡ true) → ((kind == 6) || is_code_type kind) ≡ true
    first (inl three) = second (or_cases ((kind == 1) || (kind == 4)) (kind == 11) three)
    first (inr twelve) = is_one kind 12 twelve refl

of_code : (base : ℕ) (is : List Immediate) (relocs : List Reloc) → first_off base is relocs ≡ None → All IsOfCode relocs
of_code base is [] e = All-nil IsOfCode
of_code base is (r ∷ rs) e = by (list_any (fills base r) is) refl e (of_code base is rs)
  where
    by : (q : Bool) → list_any (fills base r) is ≡ q → cond q (first_off base is rs) (Some r.offset) ≡ None → (first_off base is rs ≡ None → All IsOfCode rs) → All IsOfCode (r ∷ rs)
    by true found f others =
        let one = any_kind base r is found in
        All-cons IsOfCode r rs (code_kind r.kind one.0 one.1) (others f)
    by false found f others = absurd cc

-- ---- what holds of each operand

module _ (P : Operand → Type 0) (Q : Reloc → Type 0) (number : P Number) (zero_table : P TableZero) (each : (i : Immediate) (r : Reloc) → Q r → P (operand_of i r)) where
  looked_up : (i : Immediate) (place : ℕ) (relocs : List Reloc) → All Q relocs → P (operand_by i (reloc_at place relocs))
  looked_up i place [] known = plain i.kind
    where
      by_test : (q : Bool) → P (cond q TableZero Number)
      by_test true = zero_table
      by_test false = number

      plain : (kind : ImmediateKind) → P (plain_operand kind)
      plain kinds.FunctionIndex = number
      plain kinds.TypeIndex = number
      plain (kinds.TableIndex table) = by_test (eqb table 0)
      plain kinds.GlobalIndex = number
      plain kinds.MemoryOffset = number
      plain kinds.Constant = number
  looked_up i place (r ∷ rs) known = by (eqb r.offset place) (each i r (All-head Q r rs known)) (looked_up i place rs (All-tail Q r rs known))
    where
      by : (q : Bool) → P (operand_of i r) → P (operand_by i (reloc_at place rs)) → P (operand_by i (cond q (Some r) (reloc_at place rs)))
      by true here others = here
      by false here others = others

  all_looked_up : (base : ℕ) (relocs : List Reloc) (is : List Immediate) → All Q relocs → All P (map (operand_at base relocs) is)
  all_looked_up base relocs [] known = All-nil P
  all_looked_up base relocs (i ∷ is) known = All-cons P (operand_at base relocs i) (map (operand_at base relocs) is) (looked_up i (base + i.place) relocs known) (all_looked_up base relocs is known)

-- What holds of the relocations for the code, where their types are those of code, holds of operands.
module _ (P : Operand → Type 0) (E : Reloc → Type 0) (number : P Number) (zero_table : P TableZero) (each : (i : Immediate) (r : Reloc) → E r × IsOfCode r → P (operand_of i r)) where
  pub operands_all : {begin : ℕ} (bytes : List ℕ) (relocs : List Reloc) (b : CodeBody) → All E relocs → BodyTold begin bytes relocs b → All P (operands_of b.windows)
  operands_all bytes relocs b known t = by b.windows refl
    where
      by : (windows : Result (List Operand) Mismatch) → b.windows ≡ windows → All P (operands_of windows)
      by (Ok os) is =
          let read : windows_of t.base t.some t.body ≡ Ok os = sym t.windows ∙ is in
          let code = of_code t.base (immediates t.body.code) t.some (no_window_off t.base t.some (immediates t.body.code) os read) in
          let both : All (λ r. E r × IsOfCode r) t.some = λ k d lt. (All-contains E relocs _ known (t.of k d lt), code k d lt) in
          subst (All P) (sym (operands_are t.base t.some (immediates t.body.code) os read))
          (all_looked_up P (λ r. E r × IsOfCode r) number zero_table each t.base t.some (immediates t.body.code) both)
      by (Err e) is = All-nil P
