use Rattle.std.proofs.Common.{sym, subst, List}
use Rattle.link_command.specs.mismatch_rules.declared.mismatch.Mismatch.{Mismatch}
use Rattle.driver_command.specs.Told.{warning_lines, IsEnd}
use Rattle.driver_command.proofs.Around.{links_as_before}
use Rattle.driver_command.proofs.Causes.{tells_of_on}
use Rattle.driver_command.proofs.Lines.{some_end}
use Rattle.driver_command.proofs.Sayings.{second, first, heard, unheard}
use Rattle.driver_command.proofs.driving.link_told.Goals as goal

pub returns-clause-shows : goal.returns-clause-shows
returns-clause-shows g c =
    links_as_before (g.F.Shelf.shown c.args.shelf.now) (g.F.Shelf.shown c.link_quietly-status.new.shelf) (g.F.Shelf.shown c.say_ending.new.shelf) c.link_quietly-status.ensures.counts c.say_ending.ensures.counts c.say_ending.ensures.same
    c.args.own.now c.args.fatal c.args.asked.now c.link_quietly-status.result.status c.link_quietly-status.ensures.shows

pub returns-clause-told : goal.returns-clause-told
returns-clause-told g c =
    let before = g.F.Shelf.shown c.args.shelf.now in
    let mid = g.F.Shelf.shown c.link_quietly-status.new.shelf in
    let after = g.F.Shelf.shown c.say_ending.new.shelf in
    let fatal = c.args.fatal in
    let status = c.link_quietly-status.result.status in
    let told = c.link_quietly-status.result.told in
    let program = c.args.program.now in
    let own = c.args.own.now in
    let said = c.say_ending.ensures.told in
    let heard_before = heard (warning_lines program c.args.warnings.now) c.say_warnings-heard.result _ _ c.if-is_err.ensures.negation c.say_warnings-heard.ensures in (
      told,
      said.0,
      tells_of_on before mid after c.say_ending.ensures.counts c.say_ending.ensures.same own fatal c.args.asked.now status told c.link_quietly-status.ensures.told,
      subst (λ (ms : List Mismatch). IsEnd fatal status ms program after own said.0) c.as_slice-told.ensures said.1,
      second _ said.0 _ _ _ _ heard_before said.2,
    )

pub returns-then-is_err-clause-told : goal.returns-then-is_err-clause-told
returns-then-is_err-clause-told g c =
    let fatal = c.args.fatal in
    let status = c.link_quietly-status.result.status in
    let told = c.link_quietly-status.result.told in
    let program = c.args.program.now in
    let own = c.args.own.now in
    let end = some_end fatal status told program (g.F.Shelf.shown c.link_quietly-status.new.shelf) own in
    let torn = unheard (warning_lines program c.args.warnings.now) c.say_warnings-heard.result _ _ (sym c.if-is_err.ensures.value) c.say_warnings-heard.ensures in
    (told, end.0, c.link_quietly-status.ensures.told, end.1, first _ end.0 _ _ torn)
