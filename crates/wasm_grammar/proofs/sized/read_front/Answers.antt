use Rattle.std.proofs.Common.{arith}
use Rattle.wasm_grammar.specs.ReaderLaws.{taken_length, taken_front, taken_rest}
use Rattle.wasm_grammar.proofs.sized.read_front.Goals as goal

pub overflow_sub-result : goal.overflow_sub-result
overflow_sub-result g c =
    let taken = g.met.T.Form.exact.found _ c.args.bytes.now c.in_ok-value.value c.in_ok-value.rest.now c.in_ok-value.ensures in
    omega (arith, taken_length taken)

pub returns-clause-found : goal.returns-clause-found
returns-clause-found g c =
    let taken = g.met.T.Form.exact.found _ c.args.bytes.now c.in_ok-value.value c.in_ok-value.rest.now c.in_ok-value.ensures in
    taken_front taken

pub returns-clause-exact : goal.returns-clause-exact
returns-clause-exact g c =
    let taken = g.met.T.Form.exact.found _ c.args.bytes.now c.in_ok-value.value c.in_ok-value.rest.now c.in_ok-value.ensures in
    rw (taken_rest taken) c.in_ok-value.ensures
