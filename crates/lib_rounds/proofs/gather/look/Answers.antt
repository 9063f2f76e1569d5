use Rattle.std.proofs.Common.{◌∙◌, ◌≡◌, ℕ, ◌∷◌, [], ap, sym, cond, Some}
use Rattle.std.specs.Prelude.{is_some, option_map}
use Rattle.std.specs.Ordering.{nat_cmp}
use Rattle.std.specs.BTreeMap.{IsOrdered, get, is_at}
use Rattle.lib_index.specs.Table.{shown}
use Rattle.lib_rounds.specs.declared.offer.Offer.{Offer}
use Rattle.lib_rounds.specs.Held.{is_loaded_slot}
use Rattle.lib_rounds.specs.State.{Looks, pushed}
use Rattle.lib_rounds.proofs.Gathering.{at_defined, at_none, at_loaded, at_pushed, at_slot, on_both}
use Rattle.lib_rounds.proofs.gather.look.Goals as goal

pub returns-then-is_some : goal.returns-then-is_some
returns-then-is_some g c = at_defined g.w c.args.sight.inputs.libraries.now c.args.sight.inputs.files.now (shown c.args.sight.lazies.now)
    (shown c.args.sight.definers.now) c.args.sight.slots.now c.requires.0 c.requires.1.0 c.args.name.now c.args.adds.now (ap is_some
    (sym c.input_of.ensures) ∙ sym c.is_some.ensures ∙ c.if-is_some.true)

pub returns-in_default : goal.returns-in_default
returns-in_default g c = at_none g.w c.args.sight.inputs.libraries.now c.args.sight.inputs.files.now (shown c.args.sight.lazies.now)
    (shown c.args.sight.definers.now) c.args.sight.slots.now c.requires.0 c.requires.1.0 c.args.name.now c.args.adds.now
    (sym c.offer_of.ensures.input ∙ ap (option_map (λ (o : Offer). o.input)) c.in_default.is)

pub returns-then-is_loaded : goal.returns-then-is_loaded
returns-then-is_loaded g c =
    at_loaded g.w c.args.sight.inputs.libraries.now c.args.sight.inputs.files.now (shown c.args.sight.lazies.now)
    (shown c.args.sight.definers.now) c.args.sight.slots.now c.requires.0 c.requires.1.0 c.args.name.now c.in-Some.offer c.in-Some.ensures.from
    (sym c.in-Some.ensures.input) c.args.adds.now
    (ap is_loaded_slot (at_slot g.w c.args.sight.inputs.libraries.now c.args.sight.inputs.files.now (shown c.args.sight.lazies.now)
    (shown c.args.sight.definers.now) c.args.sight.slots.now c.requires.0 c.requires.1.0 c.args.name.now c.in-Some.offer c.in-Some.ensures.from
    (sym c.in-Some.ensures.input) c.requires.1.1 c.index-sight-offer.result c.index-sight-offer.is)
    ∙ ap is_loaded_slot c.index-sight-offer.is ∙ sym c.is_loaded.ensures ∙ c.if-is_loaded.true)

pub returns : goal.returns
returns g c =
    on_both (IsOrdered nat_cmp c.push.new.adds)
    ((q : ℕ) → get nat_cmp c.push.new.adds q ≡ cond (is_at (nat_cmp c.in-Some.offer.input) q) (Some (pushed
    (get nat_cmp c.args.adds.now c.in-Some.offer.input) c.in-Some.offer c.args.name.now)) (get nat_cmp c.args.adds.now q))
    (Looks g.w c.args.sight.inputs.libraries.now c.args.sight.inputs.files.now c.args.sight.slots.now
    (c.args.name.now ∷ []) c.args.adds.now c.push.new.adds)
    c.push.result c.push.ensures.ordered c.push.ensures.law
    (λ ordered law. at_pushed g.w c.args.sight.inputs.libraries.now c.args.sight.inputs.files.now (shown c.args.sight.lazies.now)
    (shown c.args.sight.definers.now) c.args.sight.slots.now c.requires.0 c.requires.1.0 c.args.name.now c.in-Some.offer c.in-Some.ensures.from
    (sym c.in-Some.ensures.input) c.args.adds.now c.push.new.adds
    (ap is_some (sym c.input_of.ensures) ∙ sym c.is_some.ensures ∙ c.if-is_some.false)
    (ap is_loaded_slot (at_slot g.w c.args.sight.inputs.libraries.now c.args.sight.inputs.files.now (shown c.args.sight.lazies.now)
    (shown c.args.sight.definers.now) c.args.sight.slots.now c.requires.0 c.requires.1.0 c.args.name.now c.in-Some.offer c.in-Some.ensures.from
    (sym c.in-Some.ensures.input) c.requires.1.1 c.index-sight-offer.result c.index-sight-offer.is)
    ∙ ap is_loaded_slot c.index-sight-offer.is ∙ sym c.is_loaded.ensures ∙ c.if-is_loaded.false)
    ordered law)
