-- The reading's answer decides whether there is a typing.
use Rattle.std.proofs.Common.{◌≡◌, List, [], ◌∷◌, Some, None, Bool, refl, sym, ◌∙◌, subst}
use Rattle.wasm_types.specs.declared.value.ValType.{ValType}
use Rattle.valid_rules.specs.declared.types.Shape.{Shape}
use Rattle.valid_rules.specs.declared.types.Frame.{Frame}
use Rattle.valid_rules.specs.Leads.{IsTyped}
use Rattle.valid_rules.specs.Reading.{Read, read, whole}
use Rattle.valid_rules.proofs.Fitting.{some_is, no_some}
use Rattle.valid_rules.proofs.Sound.{sound_body}
use Rattle.valid_rules.proofs.Complete.{complete_body}
use Rattle.valid_bodies.specs.Went.{Decides, ended, accepts}

abbrev IsOver : List Frame → Type 0
IsOver [] = Unit {0}
IsOver (f ∷ fs) = ⊥

decided : (results : List ValType) (code : List Shape) (o : Read) → read (whole results ∷ []) code ≡ o → Decides (ended o) (IsTyped results code)
decided results code None e = λ p. no_some [] (sym e ∙ complete_body results code p)
decided results code (Some []) e = sound_body results code e
decided results code (Some (f ∷ fs)) e = λ p. some_is IsOver (f ∷ fs) [] (sym e ∙ complete_body results code p) tt

pub decides : (results : List ValType) (code : List Shape) (so : Bool) → so ≡ accepts results code → Decides so (IsTyped results code)
decides results code so e = subst (λ b. Decides b (IsTyped results code)) (sym e) (decided results code (read (whole results ∷ []) code) refl)
