use Rattle.std.proofs.Common.{◌-◌, ◌∙◌, ◌∷◌, length, take, drop, Some, ap, sym, arith}
use Rattle.std.specs.Prelude.{slice_get, option_copied, slice_index_or}
use Rattle.wl_lists.proofs.Cut.{begins_before, ends_inside, list_at, no_list_at}
use Rattle.wl_lists.proofs.lists.Lists.get.Goals as goal

pub part-requires-clause-up : goal.part-requires-clause-up
part-requires-clause-up g c =
    let o = c.self.inside in
    begins_before o.ends (length o.items) c.args.at c.in-Some.end.now c.start_of-start.result c.self.invariant (sym c.get.ensures ∙ ap option_copied c.in-Some.is) (c.start_of-start.ensures ∙ ap (λ es. slice_index_or (0 ∷ es) c.args.at 0) c.as_slice.ensures)

pub part-requires-clause-inside : goal.part-requires-clause-inside
part-requires-clause-inside g c =
    let o = c.self.inside in
    omega (arith, ends_inside o.ends (length o.items) c.args.at c.in-Some.end.now c.self.invariant (sym c.get.ensures ∙ ap option_copied c.in-Some.is), ap length c.as_slice-in-Some.ensures)

pub returns-in-None : goal.returns-in-None
returns-in-None g c =
    let o = c.self.inside in
    no_list_at o.ends o.items c.args.at (sym c.get.ensures ∙ ap option_copied c.in-None.is) ∙ ap (λ ls. slice_get ls c.args.at) c.self.view_is

pub returns-in-Some : goal.returns-in-Some
returns-in-Some g c =
    let o = c.self.inside in
    ap Some (c.part.ensures ∙ ap (λ xs. take (c.in-Some.end.now - c.start_of-start.result) (drop c.start_of-start.result xs)) c.as_slice-in-Some.ensures)
    ∙ list_at o.ends o.items c.args.at c.in-Some.end.now c.start_of-start.result (sym c.get.ensures ∙ ap option_copied c.in-Some.is) (c.start_of-start.ensures ∙ ap (λ es. slice_index_or (0 ∷ es) c.args.at 0) c.as_slice.ensures)
    ∙ ap (λ ls. slice_get ls c.args.at) c.self.view_is
