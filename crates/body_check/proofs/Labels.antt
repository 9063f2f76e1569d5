-- A `br_table`, by its labels at their bytes.
use Rattle.std.proofs.Common.{◌≡◌, ℕ, zero, suc, ◌+◌, ◌-◌, ◌<◌, ◌≤◌, Bool, true, false, List, [], ◌∷◌, Option, Some, None, Result, Ok, Err, refl, sym, ap, ◌∙◌, arith}
use Rattle.std.specs.Prelude.{◌&&◌, if◌then◌else◌, option_and_then}
use Rattle.wasm_types.specs.declared.value.ValType.TheVariants.{I32}
use Rattle.wasm_instr.specs.wasm_grammar.declared.fault.Stop.{Stop}
use Rattle.wasm_instr.specs.wasm_grammar.Reading.{◌>>=◌, byte_at, u32_at, many_at, vector_at}
use Rattle.wasm_instr.specs.wasm_grammar.ReaderLaws.{ok_is}
use Rattle.wasm_instr.specs.declared.instr.Instr.{Instr}
use Rattle.wasm_instr.specs.declared.instr.Instr.TheVariants.{BranchTable}
use Rattle.wasm_instr.specs.declared.outline.Outline.{Outline}
use Rattle.wasm_instr.specs.Classes.{class_of}
use Rattle.wasm_instr.specs.Reading.{instr_at, branch_table_at}
use Rattle.wasm_instr.specs.Skimming.{skim_at}
use Rattle.wasm_instr.specs.SkimLaws.{skim_found}
use Rattle.valid_rules.specs.declared.types.Operand.{Operand}
use Rattle.valid_rules.specs.declared.types.Frame.{Frame}
use Rattle.valid_rules.specs.declared.types.Shape.TheVariants.{BranchesBy, Leaves}
use Rattle.valid_rules.specs.Reading.{step, taken, labels, fit, with_operands}
use Rattle.valid_bodies.specs.Numeric.{to}
use Rattle.valid_bodies.specs.Steps.{step_on, label_arity, label_fits}
use Rattle.valid_bodies.specs.Went.{Went}
use Rattle.body_check.specs.Labels.{Labelled, first_fits, all_fit}

-- ---- where it is read

read_so : (end : ℕ) (bytes behind : List ℕ) → byte_at end bytes ≡ Ok (0x0e, behind) → instr_at end bytes ≡ branch_table_at end behind
unfolding instr_at class_of
read_so end bytes behind e = rw e refl

-- the instruction, by its labels and the last one
abbrev as_table : List ℕ × List ℕ → ℕ × List ℕ → Instr × List ℕ × List ℕ
as_table t n = (BranchTable t.0 n.0, t.1, n.1)

abbrev with_last : ℕ → List ℕ × List ℕ → Result (ℕ × List ℕ) Stop → Result (Instr × List ℕ × List ℕ) Stop
with_last end t r = r >>= λ n. Ok (as_table t n)

abbrev with_all : ℕ → Result (List ℕ × List ℕ) Stop → Result (Instr × List ℕ × List ℕ) Stop
with_all end r = r >>= λ t. with_last end t (u32_at end t.1)

module _ (end : ℕ) (bytes labels : List ℕ) (count last : ℕ) (x : Instr) (mid rest after : List ℕ) (reads : instr_at end bytes ≡ Ok (x, mid, rest)) (number : u32_at end mid ≡ Ok (last, after)) where
  by_last : (t : List ℕ × List ℕ) (r : Result (ℕ × List ℕ) Stop) → many_at u32_at count end labels ≡ Ok t → u32_at end t.1 ≡ r → with_last end t r ≡ Ok (x, mid, rest) → Labelled end bytes count labels last rest
  by_last t (Err e) many is h = absurd cc
  by_last t (Ok n) many is h =
      let same : as_table t n ≡ (x, mid, rest) = ok_is h in
      let mids : t.1 ≡ mid = ap (λ (p : Instr × List ℕ × List ℕ). p.1) same in
      let lasts : n ≡ (last, after) = ok_is (sym is ∙ ap (u32_at end) mids ∙ number) in
      let first : x ≡ BranchTable t.0 last = sym (ap (λ (p : Instr × List ℕ × List ℕ). p.0) same) ∙ ap (λ (p : ℕ × List ℕ). BranchTable t.0 p.0) lasts in
      record {
        targets = t.0;
        mid = mid;
        many = many ∙ ap (λ (m : List ℕ). let read : Result (List ℕ × List ℕ) Stop = Ok (t.0, m) in read) mids;
        reads = reads ∙ ap (λ (i : Instr). let read : Result (Instr × List ℕ × List ℕ) Stop = Ok (i, mid, rest) in read) first;
      }

  by_many : (r : Result (List ℕ × List ℕ) Stop) → many_at u32_at count end labels ≡ r → with_all end r ≡ Ok (x, mid, rest) → Labelled end bytes count labels last rest
  by_many (Err e) is h = absurd cc
  by_many (Ok t) is h = by_last t (u32_at end t.1) is refl h

  by_vector : (behind : List ℕ) → u32_at end behind ≡ Ok (count, labels) → branch_table_at end behind ≡ Ok (x, mid, rest) → Labelled end bytes count labels last rest
  unfolding vector_at
  by_vector behind counted h = by_many (many_at u32_at count end labels) refl (sym whole ∙ h)
    where
      whole : branch_table_at end behind ≡ with_all end (many_at u32_at count end labels)
      whole = rw counted refl

pub labelled : (end : ℕ) (bytes : List ℕ) (op : ℕ) (behind : List ℕ) (count : ℕ) (labels : List ℕ) (o : Outline) (mid rest : List ℕ) (last : ℕ) (after : List ℕ) → byte_at end bytes ≡ Ok (op, behind) → op ≡ 0x0e
    → u32_at end behind ≡ Ok (count, labels) → skim_at end bytes ≡ Ok (o, mid, rest) → u32_at end mid ≡ Ok (last, after) → Labelled end bytes count labels last rest
labelled end bytes op behind count labels o mid rest last after e is counted skimmed number =
    let f = skim_found end bytes o mid rest skimmed in
    let first : byte_at end bytes ≡ Ok (0x0e, behind) = e ∙ ap (λ (n : ℕ). let read : Result (ℕ × List ℕ) Stop = Ok (n, behind) in read) is in
    by_vector end bytes labels count last f.0 mid rest after f.1 number behind counted (sym (read_so end bytes behind first) ∙ f.1)

-- ---- the labels, one after the other

-- a label, and those behind it
abbrev with_first : ℕ → Result (List ℕ × List ℕ) Stop → Result (List ℕ × List ℕ) Stop
with_first x r = r >>= λ others. Ok (x ∷ others.0, others.1)

module _ (f : Frame) (fs : List Frame) (n : ℕ) where
  abbrev fit_here : List ℕ → Bool
  fit_here targets = fit f.unreachable f.operands (labels (f ∷ fs)) n targets

  -- what is to show of so many labels
  abbrev FitsAll : ℕ → ℕ → Type 0
  FitsAll count end = (bytes targets mid : List ℕ) → many_at u32_at count end bytes ≡ Ok (targets, mid) → all_fit (f ∷ fs) n count end bytes ≡ fit_here targets

  by_others : (count end x : ℕ) (rest targets mid : List ℕ) (r : Result (List ℕ × List ℕ) Stop) → FitsAll count end → many_at u32_at count end rest ≡ r → with_first x r ≡ Ok (targets, mid)
      → label_fits (f ∷ fs) n x && all_fit (f ∷ fs) n count end rest ≡ fit_here targets
  by_others count end x rest targets mid (Err s) all is h = absurd cc
  by_others count end x rest targets mid (Ok others) all is h =
      let whole : x ∷ others.0 ≡ targets = ap (λ (p : List ℕ × List ℕ). p.0) (ok_is h) in
      ap (λ (b : Bool). label_fits (f ∷ fs) n x && b) (all rest others.0 others.1 is) ∙ ap fit_here whole

  by_first : (count end : ℕ) (targets mid : List ℕ) (r : Result (ℕ × List ℕ) Stop) → FitsAll count end → (r >>= λ first. with_first first.0 (many_at u32_at count end first.1)) ≡ Ok (targets, mid)
      → first_fits (f ∷ fs) n (λ rest. all_fit (f ∷ fs) n count end rest) r ≡ fit_here targets
  by_first count end targets mid (Err s) all h = absurd cc
  by_first count end targets mid (Ok x) all h = by_others count end x.0 x.1 targets mid (many_at u32_at count end x.1) all refl h

  pub fit_is : (count end : ℕ) → FitsAll count end
  unfolding many_at
  fit_is zero end = λ bytes targets mid e.
      let none : [] ≡ targets = ap (λ (p : List ℕ × List ℕ). p.0) (ok_is e) in
      ap fit_here none
  fit_is (suc count) end = λ bytes targets mid e. by_first count end targets mid (u32_at end bytes) (fit_is count end) e

-- ---- a loop over them

-- those behind so many
abbrev others_fit : List Frame → ℕ → ℕ → ℕ → ℕ → Result (ℕ × List ℕ) Stop → Bool
others_fit fs n count i end r = first_fits fs n (λ rest. all_fit fs n (count - (i + 1)) end rest) r

one_more : (fs : List Frame) (n count i end : ℕ) (bytes : List ℕ) → i < count → all_fit fs n (count - i) end bytes ≡ others_fit fs n count i end (u32_at end bytes)
one_more fs n count i end bytes lt =
    let k : count - i ≡ suc (count - (i + 1)) = omega (arith, lt) in
    ap (λ c. all_fit fs n c end bytes) k

pub no_more : (fs : List Frame) (n count i end : ℕ) (bytes : List ℕ) (total : Bool) → count ≤ i → all_fit fs n (count - i) end bytes ≡ total → true ≡ total
no_more fs n count i end bytes total le so_far =
    let k : count - i ≡ 0 = omega (arith, le) in
    sym (ap (λ c. all_fit fs n c end bytes) k) ∙ so_far

pub is_no_number : (fs : List Frame) (n count i end : ℕ) (bytes : List ℕ) (s : Stop) (total : Bool) → i < count → u32_at end bytes ≡ Err s → all_fit fs n (count - i) end bytes ≡ total → false ≡ total
is_no_number fs n count i end bytes s total lt e so_far = sym (one_more fs n count i end bytes lt ∙ ap (others_fit fs n count i end) e) ∙ so_far

pub fits_not : (fs : List Frame) (n count i end : ℕ) (bytes : List ℕ) (x : ℕ) (rest : List ℕ) (total : Bool) → i < count → u32_at end bytes ≡ Ok (x, rest) → label_fits fs n x ≡ false → all_fit fs n (count - i) end bytes ≡ total → false ≡ total
fits_not fs n count i end bytes x rest total lt e lacks so_far =
    sym (one_more fs n count i end bytes lt ∙ ap (others_fit fs n count i end) e ∙ ap (λ (b : Bool). b && all_fit fs n (count - (i + 1)) end rest) lacks) ∙ so_far

pub fits_so : (fs : List Frame) (n count i end : ℕ) (bytes : List ℕ) (x : ℕ) (rest : List ℕ) (total : Bool) → i < count → u32_at end bytes ≡ Ok (x, rest) → label_fits fs n x ≡ true → all_fit fs n (count - i) end bytes ≡ total
    → all_fit fs n (count - (i + 1)) end rest ≡ total
fits_so fs n count i end bytes x rest total lt e has so_far =
    sym (one_more fs n count i end bytes lt ∙ ap (others_fit fs n count i end) e ∙ ap (λ (b : Bool). b && all_fit fs n (count - (i + 1)) end rest) has) ∙ so_far

-- ---- the step

-- what the labels say together
abbrev pub all_labels_fit : List Frame → ℕ → ℕ → List ℕ → ℕ → Bool
all_labels_fit fs count end bytes last = label_fits fs (label_arity fs last) last && all_fit fs (label_arity fs last) count end bytes

abbrev cuts_off : List Frame → Bool → Option (List Frame)
cuts_off gs b = if b then step_on gs (Leaves []) else None

pub stepped_by : (old new : List Frame) (count end : ℕ) (bytes : List ℕ) (last : ℕ) (targets mid : List ℕ) → step_on old (to (I32 ∷ []) []) ≡ Some new → many_at u32_at count end bytes ≡ Ok (targets, mid)
    → step_on old (BranchesBy targets last) ≡ (if all_labels_fit new count end bytes last then step_on new (Leaves []) else None)
unfolding step
stepped_by [] new count end bytes last targets mid went many = absurd (grind arith)
stepped_by (f ∷ fs) new count end bytes last targets mid went many = by_slot (taken f (I32 ∷ [])) went
  where
    by_slot : (o : Option (List Operand)) → option_and_then (λ vs. Some (with_operands f vs ∷ fs)) o ≡ Some new
        → option_and_then
        (λ vs. if fit f.unreachable vs (labels (f ∷ fs)) (label_arity (f ∷ fs) last) (last ∷ targets) then Some (record f { operands = []; unreachable = true } ∷ fs) else None)
        o ≡ cuts_off new (all_labels_fit new count end bytes last)
    by_slot None e = absurd (grind arith)
    by_slot (Some vs) e =
        let under = with_operands f vs ∷ fs in
        let same : under ≡ new = grind arith in
        ap (λ (b : Bool). cuts_off under (label_fits under (label_arity under last) last && b)) (sym (fit_is (with_operands f vs) fs (label_arity under last) count end bytes targets mid many))
        ∙ ap (λ gs. cuts_off gs (all_labels_fit gs count end bytes last)) same

pub takes_nothing : (old : List Frame) (targets : List ℕ) (last : ℕ) → step_on old (to (I32 ∷ []) []) ≡ None → step_on old (BranchesBy targets last) ≡ None
unfolding step
takes_nothing [] targets last e = refl
takes_nothing (f ∷ fs) targets last e = by_slot (taken f (I32 ∷ [])) e
  where
    by_slot : (o : Option (List Operand)) → option_and_then (λ vs. Some (with_operands f vs ∷ fs)) o ≡ None
        → option_and_then
        (λ vs. if fit f.unreachable vs (labels (f ∷ fs)) (label_arity (f ∷ fs) last) (last ∷ targets) then Some (record f { operands = []; unreachable = true } ∷ fs) else None)
        o ≡ None
    by_slot None e = refl
    by_slot (Some vs) e = absurd (grind arith)

module _ (old new : List Frame) (count end : ℕ) (bytes : List ℕ) (last : ℕ) (targets mid : List ℕ) (went : step_on old (to (I32 ∷ []) []) ≡ Some new) (many : many_at u32_at count end bytes ≡ Ok (targets, mid)) where
  as_labels : (b : Bool) → all_labels_fit new count end bytes last ≡ b → step_on old (BranchesBy targets last) ≡ (if b then step_on new (Leaves []) else None)
  as_labels b is = stepped_by old new count end bytes last targets mid went many ∙ ap (λ (b : Bool). if b then step_on new (Leaves []) else None) is

  pub last_fits_not : label_fits new (label_arity new last) last ≡ false → step_on old (BranchesBy targets last) ≡ None
  last_fits_not lacks = as_labels false (ap (λ (b : Bool). b && all_fit new (label_arity new last) count end bytes) lacks)

  pub fit_not : label_fits new (label_arity new last) last ≡ true → all_fit new (label_arity new last) count end bytes ≡ false → step_on old (BranchesBy targets last) ≡ None
  fit_not has lack = as_labels false (ap (λ (b : Bool). b && all_fit new (label_arity new last) count end bytes) has ∙ lack)

  pub by_table : (so : Bool) (final : List Frame) → label_fits new (label_arity new last) last ≡ true → all_fit new (label_arity new last) count end bytes ≡ true → Went (step_on new (Leaves [])) so final → Went (step_on old (BranchesBy targets last)) so final
  by_table so final has all went = of so went
    where
      is : step_on old (BranchesBy targets last) ≡ step_on new (Leaves [])
      is = as_labels true (ap (λ (b : Bool). b && all_fit new (label_arity new last) count end bytes) has ∙ all)

      of : (so : Bool) → Went (step_on new (Leaves [])) so final → Went (step_on old (BranchesBy targets last)) so final
      of true w = is ∙ w
      of false w = is ∙ w
