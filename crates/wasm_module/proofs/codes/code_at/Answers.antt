use Rattle.std.proofs.Common.{◌<◌, ◌^◌, arith}
use Rattle.wasm_instr.specs.leb_codec.Spelling.{magnitude}
use Rattle.wasm_instr.proofs.leb_codec_lemmas.Values.{u32_fits}
use Rattle.wasm_instr.specs.wasm_grammar.ReaderLaws.{part_found}
use Rattle.wasm_module.proofs.codes.code_at.Goals as goal

-- the size of a part is a u32
pub body_at-requires : goal.body_at-requires
body_at-requires c =
    let front = part_found c.args.end c.args.bytes.now c.in_ok-part.part.now c.in_ok-part.rest.now c.in_ok-part.ensures in
    let size = front.spells.2 in
    let fits : magnitude front.spells.0 < 2 ^ 32 = u32_fits front.spells.0 size.spelled in
    omega (arith, size.value_is)
