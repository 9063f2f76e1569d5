-- What instructions are that are quick to type.
use Rattle.std.proofs.Common.{◌≡◌, ℕ, ℤ, ◌<◌, List, [], ◌∷◌, length, Some, None, Ok, refl, sym, ap, ◌∙◌, arith}
use Rattle.wasm_types.specs.declared.function.FuncType.{FuncType}
use Rattle.wasm_types.specs.declared.value.ValType.{ValType}
use Rattle.wasm_types.specs.declared.value.ValType.TheVariants.{I32, I64}
use Rattle.wasm_instr.specs.wasm_grammar.Reading.{byte_at, u32_at, s32_at, s64_at, many_at, vector_at}
use Rattle.wasm_types.specs.Types.{val_type_at}
use Rattle.wasm_instr.specs.declared.class.Class.{Class}
use Rattle.wasm_instr.specs.declared.class.Class.TheVariants as classes
use Rattle.wasm_instr.specs.declared.instr.Instr.TheVariants.{Plain, BranchTable, SelectTyped, Local, GlobalAt, Access, I32Const, I64Const}
use Rattle.wasm_instr.specs.declared.outline.Outline.TheVariants.{Other}
use Rattle.wasm_instr.specs.declared.body.LocalRun.{LocalRun}
use Rattle.wasm_instr.specs.Classes.{class_of}
use Rattle.wasm_instr.specs.Reading.{instr_at, immediates_at}
use Rattle.wasm_instr.specs.Bodies.{Nest, code_at}
use Rattle.wasm_instr.specs.Skimming.{outline_of, outline_step}
use Rattle.wasm_instr.proofs.Loop.{shorter}
use Rattle.valid_rules.specs.declared.types.Frame.{Frame}
use Rattle.valid_rules.specs.declared.types.Shape.{Shape}
use Rattle.valid_rules.specs.declared.types.Shape.TheVariants.{BranchesBy}
use Rattle.valid_bodies.specs.declared.types.Context.{Context}
use Rattle.valid_bodies.specs.Accesses.{access}
use Rattle.valid_bodies.specs.Numeric.{to}
use Rattle.valid_bodies.specs.Shapes.{plain, shape, local, there, local_type}
use Rattle.valid_bodies.specs.Steps.{step_on}
use Rattle.body_check.specs.declared.verdict.Verdict.{Verdict}
use Rattle.body_check.specs.Judging.{is_read, unfit, judged}
use Rattle.body_check.specs.Labels.{Labelled}
use Rattle.body_check.specs.Passing.{Does, Passes, IsUnfit}
use Rattle.body_check.proofs.Going.{next_reads}
use Rattle.body_check.proofs.Judges.{goes_on, is_untyped}

-- an opcode of this class
opcode : (end : ℕ) (bytes : List ℕ) (op : ℕ) (behind : List ℕ) (k : Class) → byte_at end bytes ≡ Ok (op, behind) → class_of op ≡ k → instr_at end bytes ≡ immediates_at k op end behind
unfolding instr_at
opcode end bytes op behind k e class = rw (e, class) refl

module _ (c : Context) (t : FuncType) (ls : List LocalRun) (end : ℕ) where
  module _ (bytes : List ℕ) (op : ℕ) (behind : List ℕ) (e : byte_at end bytes ≡ Ok (op, behind)) where
    pub does_numeric : (s : Shape) → class_of op ≡ classes.Plain → outline_of (Plain op) ≡ Other → plain t.results op ≡ s → Does c t ls end bytes s behind
    does_numeric s class outline same = record {
      is = Plain op;
      mid = behind;
      reads = opcode end bytes op behind classes.Plain e class;
      shaped = same;
      stays = λ nest. ap (outline_step nest) outline;
    }

    pub does_local : (x : ℕ) (rest : List ℕ) (s : Shape) → class_of op ≡ classes.Local → u32_at end behind ≡ Ok (x, rest) → s ≡ shape c t ls (Local op x) → Does c t ls end bytes s rest
    does_local x rest s class number same = record {
      is = Local op x;
      mid = behind;
      reads = opcode end bytes op behind classes.Local e class ∙ (rw number refl);
      shaped = sym same;
      stays = λ nest. refl;
    }

    pub does_tabled : (x : ℕ) (of : ValType) (rest : List ℕ) (s : Shape) → class_of op ≡ classes.Local → u32_at end behind ≡ Ok (x, rest) → local_type t.params ls x ≡ Some of → s ≡ local op of → Does c t ls end bytes s rest
    does_tabled x of rest s class number kind same = does_local x rest s class number (same ∙ sym (ap (there (local op)) kind))

    pub does_global : (x : ℕ) (rest : List ℕ) (s : Shape) → class_of op ≡ classes.GlobalAt → u32_at end behind ≡ Ok (x, rest) → s ≡ shape c t ls (GlobalAt op x) → Does c t ls end bytes s rest
    does_global x rest s class number same = record {
      is = GlobalAt op x;
      mid = behind;
      reads = opcode end bytes op behind classes.GlobalAt e class ∙ (rw number refl);
      shaped = sym same;
      stays = λ nest. refl;
    }

    pub does_access : (align offset : ℕ) (mid rest : List ℕ) (s : Shape) → class_of op ≡ classes.Access → u32_at end behind ≡ Ok (align, mid) → u32_at end mid ≡ Ok (offset, rest) → s ≡ access c.memory op align → Does c t ls end bytes s rest
    does_access align offset mid rest s class first second same = record {
      is = Access op align offset;
      mid = mid;
      reads = opcode end bytes op behind classes.Access e class ∙ (rw (first, second) refl);
      shaped = sym same;
      stays = λ nest. refl;
    }

    pub does_constant : (n : ℤ) (rest : List ℕ) → class_of op ≡ classes.I32Const → s32_at end behind ≡ Ok (n, rest) → Does c t ls end bytes (to [] (I32 ∷ [])) rest
    does_constant n rest class number = record {
      is = I32Const n;
      mid = behind;
      reads = opcode end bytes op behind classes.I32Const e class ∙ (rw number refl);
      shaped = refl;
      stays = λ nest. refl;
    }

    pub does_long_constant : (n : ℤ) (rest : List ℕ) → class_of op ≡ classes.I64Const → s64_at end behind ≡ Ok (n, rest) → Does c t ls end bytes (to [] (I64 ∷ [])) rest
    does_long_constant n rest class number = record {
      is = I64Const n;
      mid = behind;
      reads = opcode end bytes op behind classes.I64Const e class ∙ (rw number refl);
      shaped = refl;
      stays = λ nest. refl;
    }

    pub does_select : (kind : ValType) (mid rest : List ℕ) → op ≡ 0x1c → u32_at end behind ≡ Ok (1, mid) → val_type_at end mid ≡ Ok (kind, rest) → Does c t ls end bytes (to (kind ∷ kind ∷ I32 ∷ []) (kind ∷ [])) rest
    unfolding class_of vector_at many_at
    does_select kind mid rest is number one = record {
      is = SelectTyped (kind ∷ []);
      mid = behind;
      reads = opcode end bytes op behind classes.SelectTyped e (ap class_of is) ∙ (rw (number, one) refl);
      shaped = refl;
      stays = λ nest. refl;
    }

  pub does_table : (bytes : List ℕ) (count : ℕ) (labels : List ℕ) (last : ℕ) (rest : List ℕ) (l : Labelled end bytes count labels last rest) → Does c t ls end bytes (BranchesBy l.targets last) rest
  does_table bytes count labels last rest l = record {
    is = BranchTable l.targets last;
    mid = l.mid;
    reads = l.reads;
    shaped = refl;
    stays = λ nest. refl;
  }

  pub does_shorter : (bytes : List ℕ) (s : Shape) (rest : List ℕ) → Does c t ls end bytes s rest → length rest < length bytes
  does_shorter bytes s rest does = shorter end bytes does.is does.mid rest does.reads

  -- ---- the pass

  pub passes_none : (fs : List Frame) (bytes : List ℕ) → Passes c t ls end fs bytes fs bytes
  passes_none fs bytes = record { less = omega arith; read = λ nest some. refl; same = λ nest some. refl }

  module _ (old : List Frame) (bytes : List ℕ) (fs : List Frame) (rest : List ℕ) (s : Shape) (after : List ℕ) (so_far : Passes c t ls end old bytes fs rest) (does : Does c t ls end rest s after) where
    abbrev turned : (nest : Nest) → outline_step nest (outline_of does.is) ≡ Some nest
    turned nest = does.stays nest

    pub passes_on : (new : List Frame) → step_on fs s ≡ Some new → Passes c t ls end old bytes new after
    passes_on new went = record {
      less = omega (arith, so_far.less, shorter end rest does.is does.mid after does.reads);
      read = λ nest some. so_far.read nest some ∙ next_reads end nest rest does.is does.mid after some does.reads nest (turned nest);
      same = λ nest some.
          so_far.same nest some
          ∙ sym (goes_on c t ls end nest rest does.is does.mid after fs (judged c t ls fs (code_at (length rest) end nest rest)) some does.reads refl new nest (ap (step_on fs) does.shaped ∙ went) (turned nest));
    }

    pub unfit_here : step_on fs s ≡ None → IsUnfit c t ls end old bytes
    unfit_here went = λ nest some.
        so_far.same nest some
        ∙ sym (is_untyped c t ls end nest rest does.is does.mid after fs (judged c t ls fs (code_at (length rest) end nest rest)) some does.reads refl (ap (step_on fs) does.shaped ∙ went))
        ∙ sym (ap unfit (so_far.read nest some))

  -- one pass behind another
  module _ (old : List Frame) (bytes : List ℕ) (fs : List Frame) (rest : List ℕ) (so_far : Passes c t ls end old bytes fs rest) where
    pub passes_then : (new : List Frame) (there : List ℕ) → Passes c t ls end fs rest new there → Passes c t ls end old bytes new there
    passes_then new there more = record {
      less = omega (arith, so_far.less, more.less);
      read = λ nest some. so_far.read nest some ∙ more.read nest some;
      same = λ nest some. so_far.same nest some ∙ more.same nest some;
    }

    pub unfit_then : IsUnfit c t ls end fs rest → IsUnfit c t ls end old bytes
    unfit_then never = λ nest some. so_far.same nest some ∙ never nest some ∙ sym (ap unfit (so_far.read nest some))

  -- what is left to tell behind the pass
  pub from_there : (fs : List Frame) (bytes : List ℕ) (new : List Frame) (there : List ℕ) (nest : Nest) (total : Verdict) → Passes c t ls end fs bytes new there → 0 < length nest
      → judged c t ls fs (code_at (length bytes) end nest bytes) ≡ total → judged c t ls new (code_at (length there) end nest there) ≡ total
  from_there fs bytes new there nest total p some so_far = sym (p.same nest some) ∙ so_far

  pub told_unfit : (fs : List Frame) (bytes : List ℕ) (nest : Nest) (total : Verdict) → IsUnfit c t ls end fs bytes → 0 < length nest
      → judged c t ls fs (code_at (length bytes) end nest bytes) ≡ total → unfit (is_read (code_at (length bytes) end nest bytes)) ≡ total
  told_unfit fs bytes nest total never some so_far = sym (never nest some) ∙ so_far
