use Rattle.std.proofs.Common.{◌∙◌, sym, ap, refl, map, ℕ, List, option_map}
use Rattle.std.specs.Borrow.{Bor}
use Rattle.debug_rules.specs.Faults.{debug_places}
use Rattle.debug_rules.specs.Sections.{payloads_for}
use Rattle.debug_out.specs.Refs.{custom_seen, entries_of}
use Rattle.debug_out.proofs.ByPlace.{told_by}
use Rattle.debug_out.proofs.Lent.{one_more_at, none_more_at, bad_at}
use Rattle.debug_out.proofs.faults.debugs_from.Goals as goal
use Rattle.debug_out.proofs.faults.debugs_from.Goals.{then-is_debug+in_ok-found+in-Some+in_ok-push, else-is_debug}

pub loop-c-preserved : goal.loop-c-preserved
loop-c-preserved c = elim c.if-is_debug.branch [
  | then-is_debug+in_ok-found+in-Some+in_ok-push w ↦
      one_more_at c.args.object c.args.o.now.input c.args.o.now.symbols (debug_places (map custom_seen c.args.all.now)) c.args.all.now c.loop-c.c-index _ c.loop-c.out c.if-is_debug.out _ _
      (w.out-is ∙ w.in_ok-push.ensures.ok) c.loop-c-test.true (sym c.is_debug.ensures ∙ w.if-is_debug.true)
      (sym (told_by (debug_places (map custom_seen c.args.all.now)) c.args.o.now.symbols _ w.in_ok-found.found _ _ (w.in_ok-found.ensures (map custom_seen c.args.all.now) c.requires.relocs)
      (w.relocs_in.ensures (debug_places (map custom_seen c.args.all.now)) c.requires.debug))
      ∙ ap (option_map (λ (p : Bor (List ℕ)). entries_of p.now)) w.in-Some.is) refl c.loop-c.invariant
  | else-is_debug w ↦
      none_more_at c.args.object c.args.o.now.input c.args.o.now.symbols (debug_places (map custom_seen c.args.all.now)) c.args.all.now c.loop-c.c-index _ c.loop-c.out c.if-is_debug.out _
      w.out-is c.loop-c-test.true (sym c.is_debug.ensures ∙ w.if-is_debug.false) c.loop-c.invariant
]

pub returns-in_default : goal.returns-in_default
returns-in_default c =
    let places = debug_places (map custom_seen c.args.all.now) in
    bad_at c.args.object c.args.o.now.input c.args.o.now.symbols places c.args.all.now c.loop-c.c-index _ c.loop-c.out _
    c.loop-c-test.true (sym c.is_debug.ensures ∙ c.if-is_debug.true)
    (sym (told_by places c.args.o.now.symbols _ c.in_ok-found.found _ _ (c.in_ok-found.ensures (map custom_seen c.args.all.now) c.requires.relocs) (c.relocs_in.ensures places c.requires.debug))
    ∙ ap (option_map (λ (p : Bor (List ℕ)). entries_of p.now)) c.in_default.is)
    c.loop-c.invariant
