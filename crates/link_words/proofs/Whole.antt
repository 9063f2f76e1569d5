-- Items without a fault are whole.
use Rattle.std.proofs.Common.{◌≡◌, ◌<◌, ◌&&◌, ◌||◌, ℕ, Bool, true, false, not, List, ◌∷◌, length, nat_lt, is_some, Option, Some, None, IsSome, IsNone, IsTrue, refl, sym, ap, subst, ◌∙◌, arith}
use Rattle.std.proofs.lemmas.Bool.Decides.{nat_tests}
use Rattle.std.specs.Option.{option_map}
use Rattle.wl_base.specs.Choice.{first_some, given}
use Rattle.wl_base.specs.declared.usage.Usage.{Usage}
use Rattle.wl_base.specs.declared.usage.Usage.TheVariants.{OpenGroup, CaseAndInput, NoInput, NoOutput, PartialClash}
use Rattle.link_plan.specs.declared.plan.Plan.{Plan}
use Rattle.link_words.specs.declared.kind.Kind.TheVariants.{Input, Output, Partial, Shared}
use Rattle.link_words.specs.Items.{Said}
use Rattle.link_words.specs.Fields.{has, text, open_group, case, inputs}
use Rattle.link_words.specs.Faults.{first_fault, group_fault}
use Rattle.link_words.specs.Words.{plan_from}
use Rattle.link_words.proofs.Inputs.{some_input}

pub rest_none : {A : Type 0} (x : Option A) (rest : List (Option A)) → first_some (x ∷ rest) ≡ None → first_some rest ≡ None
rest_none None rest e = e
rest_none (Some a) rest e = cc

pub head_none : {A : Type 0} (x : Option A) (rest : List (Option A)) → first_some (x ∷ rest) ≡ None → x ≡ None
head_none None rest e = refl
head_none (Some a) rest e = e

not_given : {A : Type 0} (b : Bool) (a : A) → given b a ≡ None → b ≡ false
not_given true a e = cc
not_given false a e = refl

alone : (o : Option ℕ) (n : ℕ) → (is_some o && nat_lt 0 n) ≡ false → IsSome o → n ≡ 0
alone (Some k) n e _ = grind (arith, nat_tests)
alone None n e some = cc

some : (o : Option ℕ) (n : ℕ) → (not (is_some o) && not (nat_lt 0 n)) ≡ false → IsNone o → 0 < n
some (Some k) n e none = cc
some None n e _ = grind (arith, nat_tests)

named : (o : Option ℕ) (t : Option (List ℕ)) → (not (is_some o) && not (is_some t)) ≡ false → IsNone o → IsSome t
named (Some k) t e none = cc
named None (Some name) e _ = refl
named None None e _ = cc

not_partial : (o : Option ℕ) (shared b : Bool) → ((is_some o || shared) && b) ≡ false → IsTrue b → IsNone o
not_partial None shared b e _ = refl
not_partial (Some k) shared b e partial = cc

-- a generated case stands alone and isn't partial, and other items have inputs and an output
record AreWhole (items : List Said) : Type 0 where
  alone : IsSome (case items) → length (inputs items) ≡ 0
  input : IsNone (case items) → 0 < length (inputs items)
  output : IsNone (case items) → IsSome (text Output items)
  partial : IsTrue (has Partial items) → IsNone (case items)

whole : (items : List Said) (stop : Option Usage) → first_fault (items, stop) ≡ None → AreWhole items
unfolding first_fault
whole items stop e =
    let e₁ = rest_none (group_fault None items) _ e in
    let e₂ = rest_none stop _ e₁ in
    let e₃ = rest_none (option_map OpenGroup (open_group items)) _ e₂ in
    let e₄ = rest_none (given (is_some (case items) && has Input items) CaseAndInput) _ e₃ in
    let e₅ = rest_none (given (not (is_some (case items)) && not (has Input items)) NoInput) _ e₄ in
    let e₆ = rest_none (given (not (is_some (case items)) && not (is_some (text Output items))) NoOutput) _ e₅ in
    let both = not_given (is_some (case items) && has Input items) CaseAndInput (head_none _ _ e₃) in
    let neither = not_given (not (is_some (case items)) && not (has Input items)) NoInput (head_none _ _ e₄) in
    let no_output = not_given (not (is_some (case items)) && not (is_some (text Output items))) NoOutput (head_none _ _ e₅) in
    let no_case = not_given ((is_some (case items) || has Shared items) && has Partial items) PartialClash (head_none _ _ e₆) in
    record {
      alone = alone (case items) (length (inputs items)) (ap (λ b. is_some (case items) && b) (some_input items) ∙ both);
      input = some (case items) (length (inputs items)) (ap (λ b. not (is_some (case items)) && not b) (some_input items) ∙ neither);
      output = named (case items) (text Output items) no_output;
      partial = not_partial (case items) (has Shared items) (has Partial items) no_case;
    }

-- so is their plan
pub stands_alone : (items : List Said) (stop : Option Usage) (plan : Plan) → first_fault (items, stop) ≡ None → plan ≡ plan_from items → IsSome plan.make_case → length plan.inputs ≡ 0
unfolding plan_from
stands_alone items stop plan fault is = subst (λ (p : Plan). IsSome p.make_case → length p.inputs ≡ 0) (sym is) (whole items stop fault).alone

pub has_input : (items : List Said) (stop : Option Usage) (plan : Plan) → first_fault (items, stop) ≡ None → plan ≡ plan_from items → IsNone plan.make_case → 0 < length plan.inputs
unfolding plan_from
has_input items stop plan fault is = subst (λ (p : Plan). IsNone p.make_case → 0 < length p.inputs) (sym is) (whole items stop fault).input

pub has_output : (items : List Said) (stop : Option Usage) (plan : Plan) → first_fault (items, stop) ≡ None → plan ≡ plan_from items → IsNone plan.make_case → IsSome plan.output
unfolding plan_from
has_output items stop plan fault is = subst (λ (p : Plan). IsNone p.make_case → IsSome p.output) (sym is) (whole items stop fault).output

pub is_no_case : (items : List Said) (stop : Option Usage) (plan : Plan) → first_fault (items, stop) ≡ None → plan ≡ plan_from items → IsTrue plan.partial → IsNone plan.make_case
unfolding plan_from
is_no_case items stop plan fault is = subst (λ (p : Plan). IsTrue p.partial → IsNone p.make_case) (sym is) (whole items stop fault).partial
