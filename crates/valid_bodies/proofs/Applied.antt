-- An instruction of an effect, in a frame.
use Rattle.std.proofs.Common.{List, [], ◌∷◌, Option, Some, None, Bool, true, false, refl, sym, ap}
use Rattle.std.specs.Prelude.{reverse, option_and_then}
use Rattle.wasm_types.specs.declared.value.ValType.TheVariants.{I32}
use Rattle.wasm_types.specs.declared.function.FuncType.{FuncType}
use Rattle.valid_rules.specs.declared.types.Operand.{Operand}
use Rattle.valid_rules.specs.declared.types.Frame.{Frame}
use Rattle.valid_rules.specs.declared.types.Shape.TheVariants.{Typed}
use Rattle.valid_rules.specs.Reading.{step, with_operands, put, take_all}
use Rattle.valid_rules.proofs.Fitting.{no_some}
use Rattle.valid_bodies.specs.declared.effects.Effect.{Effect}
use Rattle.valid_bodies.specs.declared.effects.Effect.TheVariants as effects
use Rattle.valid_bodies.specs.Effects.{shape_of, typed_on, shaped}
use Rattle.valid_bodies.specs.Went.{Went}
use Rattle.valid_bodies.proofs.Dropping.{some_same}

went_by : (fs : List Frame) (f : Frame) (t : FuncType) (o : Option (List Operand)) (so : Bool) (new : List Operand)
    → Went (option_and_then (λ ws. Some (put t.results ws)) o) so new → Went (option_and_then (λ vs. Some (with_operands f (put t.results vs) ∷ fs)) o) so (with_operands f new ∷ fs)
went_by fs f t None true new h = absurd (no_some new h)
went_by fs f t None false new h = refl
went_by fs f t (Some ws) true new h = ap (λ vs. Some (with_operands f vs ∷ fs)) (some_same (put t.results ws) new h)
went_by fs f t (Some ws) false new h = absurd (no_some (put t.results ws) (sym h))

typed_went : (fs : List Frame) (f : Frame) (t : FuncType) (so : Bool) (new : List Operand)
    → Went (typed_on f.unreachable f.operands t) so new → Went (option_and_then (λ vs. Some (with_operands f (put t.results vs) ∷ fs)) (take_all f.unreachable (reverse t.params) f.operands)) so (with_operands f new ∷ fs)
typed_went fs f t so new h = went_by fs f t (take_all f.unreachable (reverse t.params) f.operands) so new h

pub typed : (fs : List Frame) (f : Frame) (t : FuncType) (so : Bool) (new : List Operand) → Went (typed_on f.unreachable f.operands t) so new → Went (step fs f (Typed t)) so (with_operands f new ∷ fs)
unfolding step
typed fs f t so new h = typed_went fs f t so new h

pub steps : (fs : List Frame) (f : Frame) (e : Effect) (so : Bool) (new : List Operand) → Went (shaped f.unreachable f.operands (shape_of e)) so new → Went (step fs f (shape_of e)) so (with_operands f new ∷ fs)
unfolding step
steps fs f effects.Untyped true new h = absurd (no_some new h)
steps fs f effects.Untyped false new h = refl
steps fs f effects.Nothing so new h = typed_went fs f (record { params = []; results = [] }) so new h
steps fs f (effects.Gives t) so new h = typed_went fs f (record { params = []; results = t ∷ [] }) so new h
steps fs f (effects.Takes t) so new h = typed_went fs f (record { params = t ∷ []; results = [] }) so new h
steps fs f (effects.Turns t r) so new h = typed_went fs f (record { params = t ∷ []; results = r ∷ [] }) so new h
steps fs f (effects.Joins t r) so new h = typed_went fs f (record { params = t ∷ t ∷ []; results = r ∷ [] }) so new h
steps fs f (effects.Stores t) so new h = typed_went fs f (record { params = I32 ∷ t ∷ []; results = [] }) so new h
steps fs f (effects.Chooses t) so new h = typed_went fs f (record { params = t ∷ t ∷ I32 ∷ []; results = t ∷ [] }) so new h
steps fs f effects.Fills so new h = typed_went fs f (record { params = I32 ∷ I32 ∷ I32 ∷ []; results = [] }) so new h
