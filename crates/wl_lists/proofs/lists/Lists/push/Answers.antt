use Rattle.std.proofs.Common.{◌≡◌, ◌+◌, ◌∙◌, ◌++◌, ◌∷◌, [], length, ap, sym, subst, arith}
use Rattle.std.proofs.lemmas.List.{length-append}
use Rattle.wl_lists.specs.Lists.{cut, Rise}
use Rattle.wl_lists.proofs.Cut.{rise_more, cut_more}
use Rattle.wl_lists.proofs.lists.Lists.push.Goals as goal

pub invariant_of-self-in-Ok-extend_from_slice : goal.invariant_of-self-in-Ok-extend_from_slice
invariant_of-self-in-Ok-extend_from_slice g c =
    let ends = c.self.inside.ends in
    let items = c.self.inside.items in
    let end : c.in-Ok.end ≡ length items + length c.args.list.now = omega (arith, c.in-Ok.ensures, c.in-Some.ensures, c.len.ensures) in
    let more : length c.extend_from_slice.new.self ≡ length items + length c.args.list.now = ap length c.in-Ok-extend_from_slice.ensures.ok ∙ length-append items c.args.list.now in
    subst (λ es. Rise 0 es (length c.extend_from_slice.new.self)) (sym (c.in_ok-push.ensures.ok ∙ ap (λ n. ends ++ n ∷ []) (end ∙ sym more)))
    (rise_more 0 ends (length items) (length c.extend_from_slice.new.self) c.self.invariant (omega (arith, more)))

pub returns-in-Ok-extend_from_slice-clause-ok : goal.returns-in-Ok-extend_from_slice-clause-ok
returns-in-Ok-extend_from_slice-clause-ok g c =
    let ends = c.self.inside.ends in
    let items = c.self.inside.items in
    let end : c.in-Ok.end ≡ length items + length c.args.list.now = omega (arith, c.in-Ok.ensures, c.in-Some.ensures, c.len.ensures) in
    ap (λ es. cut 0 es c.extend_from_slice.new.self) (c.in_ok-push.ensures.ok ∙ ap (λ n. ends ++ n ∷ []) end)
    ∙ ap (cut 0 (ends ++ (length items + length c.args.list.now) ∷ [])) c.in-Ok-extend_from_slice.ensures.ok
    ∙ cut_more 0 ends items c.args.list.now c.self.invariant
    ∙ ap (λ ls. ls ++ c.args.list.now ∷ []) c.self.view_is
