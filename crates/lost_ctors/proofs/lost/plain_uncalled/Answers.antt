use Rattle.std.proofs.Common.{◌≡◌, ◌<◌, ◌^◌, true, false, ◌||◌, List, ℕ, rules, sym, subst, ap, ◌∙◌, length}
use Rattle.std.specs.Prelude.{flat_map}
use Rattle.std.specs.List.{list_any}
use Rattle.link_marks.specs.link_program.object_file.declared.object.Object.{Object}
use Rattle.link_marks.specs.link_program.made_symbols.declared.mode.Mode.TheVariants.{Plain}
use Rattle.link_marks.specs.link_program.name_entries.Fits.{Fits}
use Rattle.link_marks.specs.link_program.name_entries.View.{rows_of}
use Rattle.link_marks.specs.link_program.link_rules.Marks.{uncalled, names_ctors, loses_inits, loses_exits}
use Rattle.link_marks.specs.link_program.Program.{IsProgramOf}
use Rattle.link_marks.specs.Alive.{IsLive}
use Rattle.lost_ctors.specs.declared.alive.Alive.{Alive}
use Rattle.lost_ctors.specs.Alive.{AreAlive}
use Rattle.lost_ctors.specs.Inits.{objects_lost}
use Rattle.lost_ctors.specs.Exits.{exits_lost}
use Rattle.lost_ctors.proofs.Whole.{not_judged, is_judged, few_rows, inits_are, ends_are, winners_held}
use Rattle.lost_ctors.proofs.lost.plain_uncalled.Goals as goal

pub is_lost-requires-clause-fits : goal.is_lost-requires-clause-fits
is_lost-requires-clause-fits g c = let fits : Fits Plain c.args.entries = search rules in fits.objects

pub is_lost-requires-clause-few : goal.is_lost-requires-clause-few
is_lost-requires-clause-few g c =
    let is : IsProgramOf Plain c.args.program g.w.program = search rules in
    let same : c.args.entries.objects.now ≡ c.args.program.objects.now = search rules in
    subst (λ (os : List Object). length (flat_map (λ row. row) (rows_of os)) < 2 ^ 32) (sym (same ∙ is.objects)) (few_rows c.args.program g.w.program is)

pub returns-then-is_exempt : goal.returns-then-is_exempt
unfolding uncalled
returns-then-is_exempt g c =
    not_judged g.w.program.plan.like_lld (names_ctors g.w.program) (list_any (loses_inits g.w.parts) g.w.program.resolved) (loses_exits g.w.program g.w.parts) (sym c.is_exempt.ensures ∙ c.if-is_exempt.true)

pub returns-then-is_lost : goal.returns-then-is_lost
unfolding uncalled
returns-then-is_lost g c =
    let is : IsProgramOf Plain c.args.program g.w.program = search rules in
    let live : IsLive g.w.program c.args.live.now g.w.parts = search rules in
    let same : c.args.entries.objects.now ≡ c.args.program.objects.now = search rules in
    let column : AreAlive c.args.program.tables.now c.args.live.now.numbers c.as_slice-column.result.now =
    subst (λ (cells : List Alive). AreAlive c.args.program.tables.now c.args.live.now.numbers cells) (sym c.as_slice-column.ensures.value)
    (subst (λ (ns : List ℕ). AreAlive c.args.program.tables.now ns c.in_ok-alive.alive.items) c.as_slice-numbers.ensures c.in_ok-alive.ensures) in
    let inits = ap (λ (os : List Object). objects_lost c.args.program.tables.now os c.as_slice-column.result.now) (same ∙ is.objects) ∙ inits_are c.args.program g.w.program is c.args.live.now g.w.parts live c.as_slice-column.result.now column in
    let exits = ap (λ (ns : List ℕ). exits_lost c.args.program.names.now.names c.args.program.tables.now.winners c.args.program.tables.now.chunks c.as_slice-column.result.now ns) c.as_slice-numbers.ensures
    ∙ ends_are c.args.program g.w.program is c.args.live.now g.w.parts live c.as_slice-column.result.now column (winners_held c.args.program g.w.program is) in
    is_judged g.w.program.plan.like_lld (names_ctors g.w.program) (list_any (loses_inits g.w.parts) g.w.program.resolved) (loses_exits g.w.program g.w.parts) (sym c.is_exempt.ensures ∙ c.if-is_exempt.false) true
    (sym (λ i. inits i || exits i) ∙ sym c.is_lost.ensures ∙ c.if-is_lost.true)

pub returns : goal.returns
unfolding uncalled
returns g c =
    let is : IsProgramOf Plain c.args.program g.w.program = search rules in
    let live : IsLive g.w.program c.args.live.now g.w.parts = search rules in
    let same : c.args.entries.objects.now ≡ c.args.program.objects.now = search rules in
    let column : AreAlive c.args.program.tables.now c.args.live.now.numbers c.as_slice-column.result.now =
    subst (λ (cells : List Alive). AreAlive c.args.program.tables.now c.args.live.now.numbers cells) (sym c.as_slice-column.ensures.value)
    (subst (λ (ns : List ℕ). AreAlive c.args.program.tables.now ns c.in_ok-alive.alive.items) c.as_slice-numbers.ensures c.in_ok-alive.ensures) in
    let inits = ap (λ (os : List Object). objects_lost c.args.program.tables.now os c.as_slice-column.result.now) (same ∙ is.objects) ∙ inits_are c.args.program g.w.program is c.args.live.now g.w.parts live c.as_slice-column.result.now column in
    let exits = ap (λ (ns : List ℕ). exits_lost c.args.program.names.now.names c.args.program.tables.now.winners c.args.program.tables.now.chunks c.as_slice-column.result.now ns) c.as_slice-numbers.ensures
    ∙ ends_are c.args.program g.w.program is c.args.live.now g.w.parts live c.as_slice-column.result.now column (winners_held c.args.program g.w.program is) in
    is_judged g.w.program.plan.like_lld (names_ctors g.w.program) (list_any (loses_inits g.w.parts) g.w.program.resolved) (loses_exits g.w.program g.w.parts) (sym c.is_exempt.ensures ∙ c.if-is_exempt.false) false
    (sym (λ i. inits i || exits i) ∙ sym c.is_lost.ensures ∙ c.if-is_lost.false)
