use Rattle.std.proofs.Common.{sym, ◌∙◌, ◌++◌, subst, ℕ, List}
use Rattle.link_command.specs.declared.asked.Asked.{Asked}
use Rattle.link_command.specs.Said.{Said as Written}
use Rattle.driver_command.specs.Causes.{TellsOf}
use Rattle.driver_command.specs.Linked.{LinksAs}
use Rattle.driver_command.specs.Told.{warning_lines, IsEnd}
use Rattle.driver_command.proofs.Around.{links_as_after}
use Rattle.driver_command.proofs.Causes.{tells_of_after}
use Rattle.driver_command.proofs.Due.{said}
use Rattle.driver_command.proofs.driving.answer.Goals as goal

pub returns-else-own-gt-MOST_WORDS-clause-ends : goal.returns-else-own-gt-MOST_WORDS-clause-ends
returns-else-own-gt-MOST_WORDS-clause-ends g c =
    let before = g.F.Shelf.shown c.args.shelf.now in
    let mid = g.F.Shelf.shown c.translate.new.shelf in
    let after = g.F.Shelf.shown c.link_told-status.new.shelf in
    let asked : Asked = record { names = c.in-Ok-Links.names; features = c.in-Ok-Links.features } in
    record {
      own = c.in-Ok-Links.own;
      warnings = c.in-Ok-Links.warnings;
      fatal = c.in-Ok-Links.fatal;
      asked = asked;
      means = λ told. sym (c.in-Ok-Links.ensures.answer told) ∙ c.in-Ok-Links.field-0-is;
      shows = links_as_after before mid after c.in-Ok-Links.ensures.grows c.in-Ok-Links.ensures.same c.in-Ok-Links.own c.in-Ok-Links.fatal asked c.link_told-status.result
          (subst (λ (own : List (List ℕ)). LinksAs c.in-Ok-Links.fatal asked c.link_told-status.result mid after own) c.as_slice-own.ensures c.link_told-status.ensures.shows);
    }

pub returns-in-Ok-Says-clause-ends : goal.returns-in-Ok-Says-clause-ends
returns-in-Ok-Says-clause-ends g c =
    said c.say_text.result c.in-Ok-Says.what _ _ (g.F.Shelf.shown c.args.shelf.now) (g.F.Shelf.shown c.translate.new.shelf) c.args.words.now c.say_text.ensures
    (λ told. sym (c.in-Ok-Says.ensures.answer told) ∙ c.in-Ok-Says.field-0-is) c.in-Ok-Says.ensures.same

pub returns-else-own-gt-MOST_WORDS-clause-told : goal.returns-else-own-gt-MOST_WORDS-clause-told
returns-else-own-gt-MOST_WORDS-clause-told g c =
    let before = g.F.Shelf.shown c.args.shelf.now in
    let mid = g.F.Shelf.shown c.translate.new.shelf in
    let after = g.F.Shelf.shown c.link_told-status.new.shelf in
    let status = c.link_told-status.result in
    let program = c.args.program.now in
    let fatal = c.in-Ok-Links.fatal in
    let asked : Asked = record { names = c.in-Ok-Links.names; features = c.in-Ok-Links.features } in
    let t = c.link_told-status.ensures.told in
    record {
      own = c.in-Ok-Links.own;
      warnings = c.in-Ok-Links.warnings;
      fatal = c.in-Ok-Links.fatal;
      asked = asked;
      told = t.0;
      line = t.1;
      means = λ told. sym (c.in-Ok-Links.ensures.answer told) ∙ c.in-Ok-Links.field-0-is;
      mismatches = tells_of_after before mid after c.in-Ok-Links.ensures.grows c.in-Ok-Links.ensures.same c.in-Ok-Links.own fatal asked status t.0
          (subst (λ (own : List (List ℕ)). TellsOf fatal asked status mid after own t.0) c.as_slice-own.ensures t.2);
      ends = subst (λ (own : List (List ℕ)). IsEnd fatal status t.0 program after own t.1) c.as_slice-own.ensures t.3;
      written = subst (λ (ws : List (List ℕ)). Written (warning_lines program ws ++ t.1) (g.E.Sink.told c.args.say.now) (g.E.Sink.told c.link_told-status.new.say)) c.as_slice-warnings.ensures t.4;
    }
