use Rattle.std.proofs.Common.{◌≡◌, ◌∙◌, ◌-◌, Bool, true, false, Result, Ok, List, ap, sym, subst}
use Rattle.std.specs.Prelude.{slice_set, MatchBool}
use Rattle.std.proofs.lemmas.Option.{get_or_from_slice_get}
use Rattle.object_file.specs.wl_base.declared.fault.Fault.{Fault}
use Rattle.object_file.specs.declared.object.Object.{Object}
use Rattle.lib_rounds.specs.Held.{Held, held_as, is_waiting_slot}
use Rattle.lib_rounds.specs.State.{IsMember}
use Rattle.lib_rounds.proofs.Same.{set_same}
use Rattle.lib_rounds.proofs.loading.fill.Goals as goal

-- what is read and isn't waiting is a member
member_of : (P : Type 0) (m : Bool) (r : Result Object Fault) (h : Held) → MatchBool m P ((o : Object) × (r ≡ Ok o)) → h ≡ held_as false m r
    → is_waiting_slot h ≡ false → P
member_of P true r h from is other = from
member_of P false r h from is other = let w : is_waiting_slot h ≡ true = ap is_waiting_slot (is ∙ ap (held_as false false) from.1) in absurd cc

pub returns : goal.returns
returns g c =
    let h = c.index.result.now in
    let is : c.index.result.now ≡ held_as false g.c.is_member g.c.object
    = c.index.ensures ∙ get_or_from_slice_get c.args.slots.now.items (c.args.offer.input - 1)
    (held_as false g.c.is_member g.c.object) c.index.result.now c.requires.1.1 in
    let member = member_of (IsMember c.args.inputs.libraries.now c.args.inputs.files.now c.args.offer g.c.object) g.c.is_member g.c.object
    c.index.result.now c.requires.0.from is (sym c.is_waiting.ensures ∙ c.if-is_waiting.false) in
    let slots = c.args.slots.now.items in
    let at = c.args.offer.input - 1 in
    let kept = subst (λ (h : Held). slice_set slots at h ≡ slots) (sym c.in_ok-object.ensures.same)
    (set_same slots at c.index_mut-2.result.now c.index_mut-2.ensures.value) in (
      c.in_ok-object.object.value,
      c.in_ok-object.ensures.is g.c.object member,
      ap (λ (hs : List Held). slice_set hs at c.holding.result) kept ∙ ap (slice_set slots at) c.holding.ensures,
    )
