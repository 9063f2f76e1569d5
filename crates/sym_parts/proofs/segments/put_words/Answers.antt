use Rattle.std.proofs.Common.{ap, ◌∙◌}
use Rattle.link_program.specs.reloc_apply.Windows.{over, little}
use Rattle.sym_parts.specs.Sought.{known}
use Rattle.sym_parts.proofs.Gives.{words_more}
use Rattle.sym_parts.proofs.segments.put_words.Goals as goal

pub loop-named-preserved : goal.loop-named-preserved
loop-named-preserved c =
    words_more (known c.args.k) c.args.row.now c.loop-named.named-index _ c.loop-named-test.true c.loop-named.bytes c.put_word.new.bytes c.in_ok-word.word _
    c.loop-named.invariant c.in_ok-word.ensures (c.in_ok-put_word.ensures ∙ ap (λ place. over place (little c.in_ok-word.word) c.loop-named.bytes) c.place_of.ensures)
