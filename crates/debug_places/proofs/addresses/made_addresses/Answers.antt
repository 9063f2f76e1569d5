use Rattle.std.proofs.Common.{◌≡◌, ℕ, List, refl, sym, ap, subst, ◌∙◌}
use Rattle.std.specs.Prelude.{IfOk, slice_index_or}
use Rattle.link_program.specs.link_rules.ModeOf.{mode_of}
use Rattle.link_layout.specs.Layout.{IsLayoutIn}
use Rattle.debug_places.specs.Found.{AreMade}
use Rattle.debug_places.proofs.addresses.made_addresses.Goals as goal

pub plain_addresses-requires : goal.plain_addresses-requires
plain_addresses-requires g c =
    subst (λ m. IsLayoutIn m g.s.program g.s.parts g.s.exports c.args.layout) (sym (ap mode_of c.requires.program.plan) ∙ sym c.in-Plain.ensures) c.requires

pub returns-in-Plain : goal.returns-in-Plain
returns-in-Plain g c =
    subst (λ m. IfOk c.plain_addresses.result (λ made. AreMade m made c.args.layout.placed.now.places)) (c.in-Plain.ensures ∙ ap mode_of c.requires.program.plan) c.plain_addresses.ensures

pub returns-in-Shared : goal.returns-in-Shared
returns-in-Shared g c =
    subst (λ m. AreMade m c.new.result c.args.layout.placed.now.places) (c.in-Shared.ensures ∙ ap mode_of c.requires.program.plan)
    (subst (λ (made : List ℕ). (n : ℕ) → slice_index_or made n 0 ≡ 0) (sym c.new.ensures) (λ n. refl))
