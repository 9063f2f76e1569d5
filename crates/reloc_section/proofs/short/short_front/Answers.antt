use Rattle.std.proofs.Common.{sym, ◌∙◌, arith}
use Rattle.reloc_section.proofs.ShortNumbers.{entry_is, front_is}
use Rattle.reloc_section.proofs.short.short_front.Goals as goal

pub returns : goal.returns
returns c = λ end.
    entry_is end _ c.in_ok-offset.offset c.in_ok-index.index c.args.bytes.now _ c.in_ok-offset.rest.now c.in_ok-index.rest.now
    (front_is end c.args.bytes.now (omega arith)) (sym c.is_read.ensures ∙ c.if-not-is_read.false) (c.in_ok-offset.ensures.value end) (c.in_ok-index.ensures.value end)
