use Rattle.std.proofs.Common.{◌∙◌, ◌∷◌, List, length, Result, sym, ap, subst, arith}
use Rattle.std.specs.Vec.Iter.{into_iter_items}
use Rattle.std.proofs.lemmas.Result.{err_from_is_err_and}
use Rattle.link_program.specs.round_rules.declared.given.GivenObject.{GivenObject}
use Rattle.link_inputs.specs.declared.reading.ReadError.{ReadError}
use Rattle.link_inputs.specs.Reading.{given_from}
use Rattle.link_inputs.proofs.Taking.{Left, goes_on, fails_at, is_done, nothing_left}
use Rattle.link_inputs.proofs.reading.take_given.Goals as goal

pub returns-in_err-slot : goal.returns-in_err-slot
returns-in_err-slot c = λ files objects are.
    let rest = into_iter_items c.next.new.self in
    let items = c.in-Some.ensures.cases.0 ∙ ap (λ (s : Result GivenObject ReadError). let ss : List (Result GivenObject ReadError) = s ∷ rest in ss) c.in_err-slot.was in
    let left = subst (λ (ss : List (Result GivenObject ReadError)). Left files c.loop-slot.given ss (given_from files objects)) items (c.loop-slot.invariant.1 files objects are) in
    let p = err_from_is_err_and c.from_residual.result c.from_residual.ensures.1 in
    let f = fails_at files c.loop-slot.given c.in_err-slot.field-0.0 rest (given_from files objects) left in
    rw (p.1, p.2) f

pub loop-slot-preserved : goal.loop-slot-preserved
loop-slot-preserved c = (
  let len = c.loop-slot.invariant.0 in
      let one = c.in-Some.ensures.cases in
      let short = ap length one.0 in
      omega arith,
  λ files objects are.
      let rest = into_iter_items c.next.new.self in
      let items = c.in-Some.ensures.cases.0 ∙ ap (λ (s : Result GivenObject ReadError). let ss : List (Result GivenObject ReadError) = s ∷ rest in ss) c.in_ok-slot.was in
      let left = subst (λ (ss : List (Result GivenObject ReadError)). Left files c.loop-slot.given ss (given_from files objects)) items (c.loop-slot.invariant.1 files objects are) in
      rw c.in_ok-push.ensures.ok (goes_on files c.loop-slot.given c.in_ok-slot.field-0 rest (given_from files objects) left),
)

pub returns : goal.returns
returns c = λ files objects are.
    let none = nothing_left (into_iter_items c.loop-slot.left) (sym c.loop-slot.invariant.0 ∙ c.in_default.ensures.cases.0) in
    is_done files c.loop-slot.given (given_from files objects)
    (subst (λ (ss : List (Result GivenObject ReadError)). Left files c.loop-slot.given ss (given_from files objects)) none (c.loop-slot.invariant.1 files objects are))
