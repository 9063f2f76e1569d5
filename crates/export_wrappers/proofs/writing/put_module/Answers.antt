use Rattle.std.proofs.Common.{◌++◌}
use Rattle.std.specs.Prelude.{map}
use Rattle.wasm_module.specs.wasm_instr.wasm_grammar.WriterLaws.{on-ok}
use Rattle.export_wrappers.specs.Wrapped.{body_of}
use Rattle.export_wrappers.specs.Cuts.{seen_kept}
use Rattle.export_wrappers.proofs.Putting.{spliced}
use Rattle.export_wrappers.proofs.writing.put_module.Goals as goal

pub returns : goal.returns
returns c =
    on-ok c.put_itself-4.result (λ last bs long codes numbers names.
    spliced (seen_kept c.args.kept) c.args.functions.now c.args.exports.now (bs ++ map (body_of c.args.ctors c.args.dtors) c.args.wrappers.now)
    c.args.to.now c.put_itself.new.to c.put_section.new.to c.put_itself-2.new.to c.put_section-2.new.to c.put_itself-3.new.to c.put_code_section.new.to c.put_itself-4.new.to
    c.in_ok-put_itself.ensures.ok (c.in_ok-put_section.ensures numbers) c.in_ok-put_itself-2.ensures.ok (c.in_ok-put_section-2.ensures names) c.in_ok-put_itself-3.ensures.ok
    (c.in_ok-put_code_section.ensures bs long codes) last) c.put_itself-4.ensures.ok
