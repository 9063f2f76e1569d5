use Rattle.std.proofs.Common.{◌≡◌, ◌∷◌, ◌≤◌, ◌<◌, ◌∙◌, length, take, get_or, ap, sym, subst, arith}
use Rattle.std.proofs.lemmas.List.{length-take-le}
use Rattle.std.specs.Prelude.{slice_index_or}
use Rattle.wl_lists.specs.Lists.{cut, Rise}
use Rattle.wl_lists.proofs.Cut.{rise_take, cut_take, start_inside, none_less}
use Rattle.wl_lists.proofs.lists.Lists.truncate.Goals as goal

pub invariant_of-self : goal.invariant_of-self
invariant_of-self g c =
    let o = c.self.inside in
    let fewer : c.args.len ≤ length o.ends = omega (arith, c.if-len.true, c.len.ensures) in
    let start : c.start_of-end.result ≡ get_or (0 ∷ o.ends) c.args.len 0 = c.start_of-end.ensures ∙ ap (λ es. slice_index_or (0 ∷ es) c.args.len 0) c.as_slice.ensures in
    let len : length c.truncate-then-len.new.self ≡ get_or (0 ∷ o.ends) c.args.len 0
    = ap length (c.truncate-then-len.ensures ∙ ap (λ n. take n o.items) start) ∙ length-take-le (get_or (0 ∷ o.ends) c.args.len 0) o.items (start_inside o.ends (length o.items) c.args.len c.self.invariant fewer) in
    subst (Rise 0 c.truncate.new.self) (sym len)
    (subst (λ es. Rise 0 es (get_or (0 ∷ o.ends) c.args.len 0)) (sym c.truncate.ensures) (rise_take 0 o.ends (length o.items) c.args.len c.self.invariant fewer))

pub returns-then-len : goal.returns-then-len
returns-then-len g c =
    let o = c.self.inside in
    let fewer : c.args.len ≤ length o.ends = omega (arith, c.if-len.true, c.len.ensures) in
    let start : c.start_of-end.result ≡ get_or (0 ∷ o.ends) c.args.len 0 = c.start_of-end.ensures ∙ ap (λ es. slice_index_or (0 ∷ es) c.args.len 0) c.as_slice.ensures in
    ap (λ es. cut 0 es c.truncate-then-len.new.self) c.truncate.ensures
    ∙ ap (cut 0 (take c.args.len o.ends)) (c.truncate-then-len.ensures ∙ ap (λ n. take n o.items) start)
    ∙ cut_take 0 o.ends o.items (length o.items) c.args.len c.self.invariant fewer
    ∙ ap (take c.args.len) c.self.view_is

pub returns-else-len : goal.returns-else-len
returns-else-len g c =
    let o = c.self.inside in
    sym c.self.view_is ∙ none_less o.ends o.items c.args.len (omega (arith, c.if-len.false, c.len.ensures)) ∙ ap (take c.args.len) c.self.view_is
