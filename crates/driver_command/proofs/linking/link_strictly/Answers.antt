use Rattle.std.proofs.Common.{true, inl, sym, subst, ◌∙◌}
use Rattle.driver_command.specs.declared.linking.Quiet.{Quiet}
use Rattle.driver_command.specs.Causes.{AreCauses}
use Rattle.driver_command.specs.Linked.{LinksAs}
use Rattle.driver_command.proofs.Causes.{strict_links, loose_links, are_causes, no_causes}
use Rattle.driver_command.proofs.linking.link_strictly.Goals as goal

pub returns-then-not-is_clash-clause-shows : goal.returns-then-not-is_clash-clause-shows
returns-then-not-is_clash-clause-shows g c =
    let before = g.F.Shelf.shown c.args.shelf.now in
    let mid = g.F.Shelf.shown c.link_once-strict.new.shelf in
    subst (λ (q : Quiet). LinksAs true c.args.asked.now q.status before mid c.args.own.now) (sym c.silent.ensures) (inl c.link_once-strict.ensures.shows)

pub returns-then-not-is_clash-clause-told : goal.returns-then-not-is_clash-clause-told
returns-then-not-is_clash-clause-told g c =
    subst (λ (q : Quiet). AreCauses c.args.asked.now q.status (g.F.Shelf.shown c.link_once-strict.new.shelf) c.args.own.now q.told) (sym c.silent.ensures)
    (no_causes c.args.asked.now c.link_once-strict.result.status (g.F.Shelf.shown c.link_once-strict.new.shelf) c.args.own.now)

pub returns-in_default-clause-shows : goal.returns-in_default-clause-shows
returns-in_default-clause-shows g c =
    let before = g.F.Shelf.shown c.args.shelf.now in
    let mid = g.F.Shelf.shown c.link_once-strict.new.shelf in
    let after = g.F.Shelf.shown c.tell_calls.new.shelf in
    subst (λ (q : Quiet). LinksAs true c.args.asked.now q.status before after c.args.own.now) (sym c.silent-in_default.ensures)
    (strict_links before mid after c.link_once-strict.ensures.counts c.tell_calls.ensures.counts c.tell_calls.ensures.held c.args.own.now c.args.asked.now c.link_once-strict.result.status
    c.link_once-strict.ensures.shows)

pub returns-in_default-clause-told : goal.returns-in_default-clause-told
returns-in_default-clause-told g c =
    subst (λ (q : Quiet). AreCauses c.args.asked.now q.status (g.F.Shelf.shown c.tell_calls.new.shelf) c.args.own.now q.told) (sym c.silent-in_default.ensures)
    (no_causes c.args.asked.now c.link_once-strict.result.status (g.F.Shelf.shown c.tell_calls.new.shelf) c.args.own.now)

pub returns-then-is_empty-clause-shows : goal.returns-then-is_empty-clause-shows
returns-then-is_empty-clause-shows g c =
    let before = g.F.Shelf.shown c.args.shelf.now in
    let mid = g.F.Shelf.shown c.link_once-strict.new.shelf in
    let next = g.F.Shelf.shown c.tell_calls.new.shelf in
    let after = g.F.Shelf.shown c.link_once-loose.new.shelf in
    subst (λ (q : Quiet). LinksAs true c.args.asked.now q.status before after c.args.own.now) (sym c.silent-then-is_empty.ensures)
    (loose_links before mid next after c.link_once-strict.ensures.counts c.tell_calls.ensures.counts c.tell_calls.ensures.held c.args.own.now c.args.asked.now c.link_once-strict.result.status
    c.link_once-loose.result.status c.in-Some.told c.link_once-strict.ensures.shows (sym c.is_clash.ensures ∙ c.if-not-is_clash.false) c.in-Some.ensures.told
    (sym c.is_empty.ensures ∙ c.if-is_empty.true) c.link_once-loose.ensures.shows)

pub returns-then-is_empty-clause-told : goal.returns-then-is_empty-clause-told
returns-then-is_empty-clause-told g c =
    subst (λ (q : Quiet). AreCauses c.args.asked.now q.status (g.F.Shelf.shown c.link_once-loose.new.shelf) c.args.own.now q.told) (sym c.silent-then-is_empty.ensures)
    (no_causes c.args.asked.now c.link_once-loose.result.status (g.F.Shelf.shown c.link_once-loose.new.shelf) c.args.own.now)

pub returns-clause-shows : goal.returns-clause-shows
returns-clause-shows g c =
    strict_links (g.F.Shelf.shown c.args.shelf.now) (g.F.Shelf.shown c.link_once-strict.new.shelf) (g.F.Shelf.shown c.tell_calls.new.shelf)
    c.link_once-strict.ensures.counts c.tell_calls.ensures.counts c.tell_calls.ensures.held c.args.own.now c.args.asked.now c.link_once-strict.result.status c.link_once-strict.ensures.shows

pub returns-clause-told : goal.returns-clause-told
returns-clause-told g c =
    are_causes (g.F.Shelf.shown c.link_once-strict.new.shelf) (g.F.Shelf.shown c.tell_calls.new.shelf) c.tell_calls.ensures.counts c.tell_calls.ensures.held c.args.asked.now c.args.own.now c.in-Some.told
    c.link_once-strict.result.status (sym c.is_clash.ensures ∙ c.if-not-is_clash.false) c.in-Some.ensures.told
