-- What the code's steps on one stack are among the frames of the rules.
use Rattle.std.proofs.Common.{◌≡◌, ℕ, List, [], ◌∷◌, ◌++◌, Option, Some, None, Bool, true, false, refl, sym, ap, ◌∙◌, arith}
use Rattle.std.specs.Prelude.{slice_get, reverse, option_and_then, if◌then◌else◌}
use Rattle.wasm_types.specs.declared.value.ValType.{ValType}
use Rattle.wasm_types.specs.declared.value.ValType.TheVariants.{I32}
use Rattle.wasm_types.specs.declared.function.FuncType.{FuncType}
use Rattle.valid_rules.specs.declared.types.Operand.{Operand}
use Rattle.valid_rules.specs.declared.types.Frame.{Frame}
use Rattle.valid_rules.specs.declared.types.Shape.{Shape}
use Rattle.valid_rules.specs.declared.types.Shape.TheVariants.{Typed, Drops, Selects, Leaves, Branches, BranchesIf, BranchesBy, Untyped}
use Rattle.valid_rules.specs.Reading.{step, take_one, take_all, take_any, selected, labels, fit, arity, cut, used, with_operands}
use Rattle.valid_bodies.specs.declared.blocks.Block.{Block}
use Rattle.valid_bodies.specs.declared.blocks.Outer.{Outer}
use Rattle.valid_bodies.specs.declared.effects.Effect.{Effect}
use Rattle.valid_bodies.specs.Effects.{shape_of, shaped, typed_on}
use Rattle.valid_bodies.specs.Numeric.{to}
use Rattle.valid_bodies.specs.Layer.{Layer}
use Rattle.valid_bodies.specs.Blocks.{frame_in, label_in, blocks_in, labels_in, outer, frames}
use Rattle.valid_bodies.specs.Steps.{step_on}
use Rattle.valid_bodies.specs.Went.{Went}
use Rattle.valid_bodies.proofs.Applied.{typed, steps}
use Rattle.valid_bodies.proofs.Keeping.{labels_are, label_there, label_lacks}

went_as : {A : Type 0} (o p : Option A) (so : Bool) (x y : A) → o ≡ p → x ≡ y → Went p so x → Went o so y
went_as o p true x y e f h = e ∙ h ∙ ap Some f
went_as o p false x y e f h = e ∙ h

pub none_open : (ts : List ValType) (inner : Option Block) (os : List Outer) (l : Layer) (shown : List Frame) (s : Shape) → frames ts inner os l ≡ shown → inner ≡ None → step_on shown s ≡ None
none_open ts inner os l shown s is shut = ap (λ fs. step_on fs s) (sym is ∙ ap (λ (i : Option Block). frames ts i os l) shut)

pub untyped_not : (fs : List Frame) → step_on fs Untyped ≡ None
unfolding step
untyped_not [] = refl
untyped_not (f ∷ fs) = refl

module _ (ts : List ValType) (inner : Option Block) (os : List Outer) (b : Block) (l : Layer) (shown : List Frame) (is : frames ts inner os l ≡ shown) (here : inner ≡ Some b) where
  abbrev now : Frame
  now = frame_in ts b l.own

  abbrev around : List Frame
  around = outer ts os l.below

  top : shown ≡ now ∷ around
  top = sym is ∙ ap (λ (i : Option Block). frames ts i os l) here

  same_around : (new : Layer) → new.below ≡ l.below → frame_in ts b new.own ∷ around ≡ frames ts inner os new
  same_around new e = ap (λ vs. frame_in ts b new.own ∷ outer ts os vs) (sym e) ∙ sym (ap (λ (i : Option Block). frames ts i os new) here)

  steps_as : (s : Shape) (so : Bool) (x y : List Frame) → x ≡ y → Went (step around now s) so x → Went (step_on shown s) so y
  steps_as s so x y e h = went_as (step_on shown s) (step around now s) so x y (ap (λ fs. step_on fs s) top) e h

  -- ---- the innermost block goes on

  pub by_effect : (e : Effect) (so : Bool) (new : Layer) → new.below ≡ l.below → Went (shaped b.unreachable l.own (shape_of e)) so new.own → Went (step_on shown (shape_of e)) so (frames ts inner os new)
  by_effect e so new same h = steps_as (shape_of e) so (frame_in ts b new.own ∷ around) (frames ts inner os new) (same_around new same) (steps around now e so new.own h)

  pub by_type : (ps rs : List ValType) (so : Bool) (new : Layer) → new.below ≡ l.below → Went (typed_on b.unreachable l.own (record { params = ps; results = rs })) so new.own → Went (step_on shown (to ps rs)) so (frames ts inner os new)
  by_type ps rs so new same h =
      let t : FuncType = record { params = ps; results = rs } in
      steps_as (Typed t) so (frame_in ts b new.own ∷ around) (frames ts inner os new) (same_around new same) (typed around now t so new.own h)

  pub by_drop : (v : Operand) (new : Layer) → new.below ≡ l.below → take_any b.unreachable l.own ≡ Some (v, new.own) → step_on shown Drops ≡ Some (frames ts inner os new)
  unfolding step
  by_drop v new same e =
      ap (λ fs. step_on fs Drops) top ∙ ap (option_and_then (λ (p : Operand × List Operand). Some (with_operands now p.1 ∷ around))) e ∙ ap Some (same_around new same)

  pub drops_none : take_any b.unreachable l.own ≡ None → step_on shown Drops ≡ None
  unfolding step
  drops_none e = ap (λ fs. step_on fs Drops) top ∙ ap (option_and_then (λ (p : Operand × List Operand). Some (with_operands now p.1 ∷ around))) e

  chosen : (o : Option (List Operand)) (so : Bool) (new : Layer) → new.below ≡ l.below → Went (option_and_then (selected b.unreachable) o) so new.own
      → Went (option_and_then (λ vs. option_and_then (λ ws. Some (with_operands now ws ∷ around)) (selected b.unreachable vs)) (option_and_then (λ ws. Some ws) o)) so (frame_in ts b new.own ∷ around)
  chosen None true new same h = absurd (grind arith)
  chosen None false new same h = refl
  chosen (Some vs) true new same h = ap (option_and_then (λ ws. Some (with_operands now ws ∷ around))) h
  chosen (Some vs) false new same h = ap (option_and_then (λ ws. Some (with_operands now ws ∷ around))) h

  pub by_choice : (so : Bool) (new : Layer) → new.below ≡ l.below → Went (option_and_then (selected b.unreachable) (take_one b.unreachable I32 l.own)) so new.own → Went (step_on shown Selects) so (frames ts inner os new)
  unfolding step
  by_choice so new same h = steps_as Selects so (frame_in ts b new.own ∷ around) (frames ts inner os new) (same_around new same) (chosen (take_one b.unreachable I32 l.own) so new same h)

  -- ---- the innermost block never goes on

  cut_off : (takes : List ValType) → take_all b.unreachable (reverse takes) l.own ≡ None → cut around now takes ≡ None
  cut_off takes e = ap (option_and_then (λ vs. Some (record now { operands = []; unreachable = true } ∷ around))) e

  dead_frames : (mid : List Operand) (new : Layer) (dead : Block) → mid ≡ l.below → new ≡ record { own = []; below = mid } → dead ≡ record b { unreachable = true }
      → record now { operands = []; unreachable = true } ∷ around ≡ frames ts (Some dead) os new
  dead_frames mid new dead same is_new is_dead =
      ap (λ vs. record now { operands = []; unreachable = true } ∷ outer ts os vs) (sym same)
      ∙ ap (λ (n : Layer). frames ts (Some (record b { unreachable = true })) os n) (sym is_new)
      ∙ ap (λ (d : Block). frames ts (Some d) os new) (sym is_dead)

  cut_to : (takes : List ValType) (ws mid : List Operand) (new : Layer) (dead : Block) → take_all b.unreachable (reverse takes) l.own ≡ Some ws → mid ≡ l.below → new ≡ record { own = []; below = mid } → dead ≡ record b { unreachable = true }
      → cut around now takes ≡ Some (frames ts (Some dead) os new)
  cut_to takes ws mid new dead e same is_new is_dead =
      ap (option_and_then (λ vs. Some (record now { operands = []; unreachable = true } ∷ around))) e ∙ ap Some (dead_frames mid new dead same is_new is_dead)

  pub leaves_not : (takes : List ValType) → take_all b.unreachable (reverse takes) l.own ≡ None → step_on shown (Leaves takes) ≡ None
  unfolding step
  leaves_not takes e = ap (λ fs. step_on fs (Leaves takes)) top ∙ cut_off takes e

  pub by_leaving : (takes : List ValType) (ws mid : List Operand) (new : Layer) (dead : Block) → take_all b.unreachable (reverse takes) l.own ≡ Some ws → mid ≡ l.below → new ≡ record { own = []; below = mid } → dead ≡ record b { unreachable = true }
      → step_on shown (Leaves takes) ≡ Some (frames ts (Some dead) os new)
  unfolding step
  by_leaving takes ws mid new dead e same is_new is_dead = ap (λ fs. step_on fs (Leaves takes)) top ∙ cut_to takes ws mid new dead e same is_new is_dead

  -- ---- labels

  no_label : (k : ℕ) → slice_get (blocks_in b os) k ≡ None → slice_get (labels (now ∷ around)) k ≡ None
  no_label k e = ap (λ ls. slice_get ls k) (labels_are ts b os l.own l.below) ∙ label_lacks ts b os k e

  label : (k : ℕ) (target : Block) (takes : List ValType) → slice_get (blocks_in b os) k ≡ Some target → takes ≡ label_in ts target → slice_get (labels (now ∷ around)) k ≡ Some takes
  label k target takes e is_takes = ap (λ ls. slice_get ls k) (labels_are ts b os l.own l.below) ∙ label_there ts b target os k e ∙ ap Some (sym is_takes)

  pub branches_nowhere : (k : ℕ) → slice_get (blocks_in b os) k ≡ None → step_on shown (Branches k) ≡ None
  unfolding step
  branches_nowhere k e = ap (λ fs. step_on fs (Branches k)) top ∙ ap (option_and_then (λ takes. cut around now takes)) (no_label k e)

  pub branches_not : (k : ℕ) (target : Block) (takes : List ValType) → slice_get (blocks_in b os) k ≡ Some target → takes ≡ label_in ts target → take_all b.unreachable (reverse takes) l.own ≡ None → step_on shown (Branches k) ≡ None
  unfolding step
  branches_not k target takes at is_takes e = ap (λ fs. step_on fs (Branches k)) top ∙ ap (option_and_then (λ takes. cut around now takes)) (label k target takes at is_takes) ∙ cut_off takes e

  pub by_branch : (k : ℕ) (target : Block) (takes : List ValType) (ws mid : List Operand) (new : Layer) (dead : Block) → slice_get (blocks_in b os) k ≡ Some target → takes ≡ label_in ts target
      → take_all b.unreachable (reverse takes) l.own ≡ Some ws → mid ≡ l.below → new ≡ record { own = []; below = mid } → dead ≡ record b { unreachable = true } → step_on shown (Branches k) ≡ Some (frames ts (Some dead) os new)
  unfolding step
  by_branch k target takes ws mid new dead at is_takes e same is_new is_dead =
      ap (λ fs. step_on fs (Branches k)) top ∙ ap (option_and_then (λ takes. cut around now takes)) (label k target takes at is_takes) ∙ cut_to takes ws mid new dead e same is_new is_dead

  pub branches_if_nowhere : (k : ℕ) → slice_get (blocks_in b os) k ≡ None → step_on shown (BranchesIf k) ≡ None
  unfolding step
  branches_if_nowhere k e = ap (λ fs. step_on fs (BranchesIf k)) top ∙ ap (option_and_then (λ takes. used around now (takes ++ I32 ∷ []) takes)) (no_label k e)

  pub by_branch_if : (k : ℕ) (target : Block) (takes : List ValType) (so : Bool) (new : Layer) → slice_get (blocks_in b os) k ≡ Some target → takes ≡ label_in ts target → new.below ≡ l.below
      → Went (typed_on b.unreachable l.own (record { params = takes ++ I32 ∷ []; results = takes })) so new.own → Went (step_on shown (BranchesIf k)) so (frames ts inner os new)
  unfolding step
  by_branch_if k target takes so new at is_takes same h =
      steps_as (BranchesIf k) so (frame_in ts b new.own ∷ around) (frames ts inner os new) (same_around new same)
      (went_as (step around now (BranchesIf k)) (step around now (Typed (record { params = takes ++ I32 ∷ []; results = takes }))) so (frame_in ts b new.own ∷ around) (frame_in ts b new.own ∷ around)
      (ap (option_and_then (λ takes. used around now (takes ++ I32 ∷ []) takes)) (label k target takes at is_takes)) refl (typed around now (record { params = takes ++ I32 ∷ []; results = takes }) so new.own h))

  abbrev tabled : List ℕ → ℕ → Option (List Operand) → Option (List Frame)
  tabled ks last o =
      option_and_then
      (λ vs. if fit b.unreachable vs (labels (now ∷ around)) (arity (slice_get (labels (now ∷ around)) last)) (last ∷ ks) then Some (record now { operands = []; unreachable = true } ∷ around) else None)
      (option_and_then (λ ws. Some ws) o)

  pub table_not : (ks : List ℕ) (last : ℕ) → take_one b.unreachable I32 l.own ≡ None → step_on shown (BranchesBy ks last) ≡ None
  unfolding step
  table_not ks last e = ap (λ fs. step_on fs (BranchesBy ks last)) top ∙ ap (tabled ks last) e

  table_as : (ks : List ℕ) (last : ℕ) (ws : List Operand) (so : Bool) → take_one b.unreachable I32 l.own ≡ Some ws → so ≡ fit b.unreachable ws (labels_in ts b os) (arity (slice_get (labels_in ts b os) last)) (last ∷ ks)
      → step_on shown (BranchesBy ks last) ≡ (if so then Some (record now { operands = []; unreachable = true } ∷ around) else None)
  unfolding step
  table_as ks last ws so e is_so =
      ap (λ fs. step_on fs (BranchesBy ks last)) top ∙ ap (tabled ks last) e
      ∙ ap (λ ls. if fit b.unreachable ws ls (arity (slice_get ls last)) (last ∷ ks) then Some (record now { operands = []; unreachable = true } ∷ around) else None) (labels_are ts b os l.own l.below)
      ∙ ap (λ (x : Bool). if x then Some (record now { operands = []; unreachable = true } ∷ around) else None) (sym is_so)

  pub table_fits_not : (ks : List ℕ) (last : ℕ) (ws : List Operand) → take_one b.unreachable I32 l.own ≡ Some ws → fit b.unreachable ws (labels_in ts b os) (arity (slice_get (labels_in ts b os) last)) (last ∷ ks) ≡ false → step_on shown (BranchesBy ks last) ≡ None
  table_fits_not ks last ws e so = table_as ks last ws false e (sym so)

  pub by_table : (ks : List ℕ) (last : ℕ) (ws mid : List Operand) (new : Layer) (dead : Block) → take_one b.unreachable I32 l.own ≡ Some ws → fit b.unreachable ws (labels_in ts b os) (arity (slice_get (labels_in ts b os) last)) (last ∷ ks) ≡ true
      → mid ≡ l.below → new ≡ record { own = []; below = mid } → dead ≡ record b { unreachable = true } → step_on shown (BranchesBy ks last) ≡ Some (frames ts (Some dead) os new)
  by_table ks last ws mid new dead e so same is_new is_dead = table_as ks last ws true e (sym so) ∙ ap Some (dead_frames mid new dead same is_new is_dead)
