use Rattle.std.proofs.Common.{◌<◌, ◌∙◌, sym, ap, length, arith, rules}
use Rattle.partial_bytes.specs.Pieces.{pieces_bytes}
use Rattle.partial_bytes.specs.Measured.{entry_lens}
use Rattle.partial_bytes.specs.Written.{relocs_in}
use Rattle.partial_bytes.proofs.Laid.{one_bytes, payload_long, relocs_laid}
use Rattle.partial_bytes.proofs.laying.push_relocs.Goals as goal

pub returns-clause-bytes : goal.returns-clause-bytes
returns-clause-bytes c =
    let name = c.args.name.now in
    let xs = relocs_in c.args.kind c.args.parts.now in
    let size = c.args.size in
    let there : 0 < size.count = search rules in
    let some : 0 < length xs = omega (arith, there, c.requires.sized.count) in
    let payload = c.in_ok-payload-2.ensures ∙ (c.in_ok-payload.ensures ∙ payload_long name c.args.target xs size.count size.entries c.requires.sized.count c.requires.sized.entries) in
    let count = c.in_ok-count.ensures ∙ c.requires.sized.count in
    let head = ap pieces_bytes c.in_ok-push.ensures.ok ∙ one_bytes c.args.out.now _ in
    relocs_laid name c.args.target c.args.kind c.args.parts.now c.args.out.now c.push.new.self c.push_entries.new.out c.in_ok-payload-2.payload c.in_ok-count.count c.u32_size.result
    some payload count c.u32_size.ensures.size head c.in_ok-push_entries.ensures.pieces

pub push_entries-requires : goal.push_entries-requires
push_entries-requires c = c.requires.lens ∙ ap (λ n. entry_lens c.args.kind n c.args.parts.now) (sym c.u32_size.ensures.size)
