use Rattle.wasm_module.specs.wasm_instr.wasm_grammar.WriterLaws.{on-ok}
use Rattle.export_wrappers.proofs.Bodies.{body_put, steps_fit}
use Rattle.export_wrappers.proofs.steps.put_body.Goals as goal

pub returns-clause-bytes : goal.returns-clause-bytes
returns-clause-bytes c =
    on-ok c.push-2.result (λ last.
    body_put c.args.ctors c.args.dtors c.args.w c.args.to.now c.push.new.self c.put_call.new.to c.put_arguments.new.to c.put_call-2.new.to c.put_last.new.to c.push-2.new.self
    c.in_ok-push.ensures.ok c.in_ok-put_call.ensures.bytes c.in_ok-put_arguments.ensures.bytes c.in_ok-put_call-2.ensures.bytes c.in_ok-put_last.ensures.bytes last) c.push-2.ensures.ok

pub returns-clause-fits : goal.returns-clause-fits
returns-clause-fits c =
    on-ok c.push-2.result (λ last. steps_fit c.args.ctors c.args.dtors c.args.w c.put_call.ensures.fits c.in_ok-put_arguments.ensures.fits c.put_call-2.ensures.fits c.put_last.ensures.fits) c.push-2.ensures.ok
