-- How the section begins that tells the loader what it needs: by its name, behind the name's length.
use Rattle.std.proofs.Common.{◌≡◌, List, ℕ, ◌++◌, refl}
use Rattle.std.specs.Prelude.{codes}
use Rattle.link_program.specs.wasm_module.wasm_instr.leb_codec.Shortest.{u32}
use Rattle.link_program.specs.image_emit.Bytes.{sized}

named_is : codes "\u{8}dylink.0" ≡ sized (codes "dylink.0")
unfolding u32
named_is = refl

pub begins : (payload told : List ℕ) → payload ≡ told → codes "\u{8}dylink.0" ++ payload ≡ sized (codes "dylink.0") ++ told
begins payload told same = λ i. named_is i ++ same i
