use Rattle.std.proofs.Common.{sym, ap, ◌∙◌, arith}
use Rattle.std.specs.List.{list_any}
use Rattle.std.specs.Option.{option_copied}
use Rattle.name_rules.specs.object_file.linking_section.declared.member_kinds.TheConstants as kinds
use Rattle.name_rules.specs.Entries.{is_input}
use Rattle.name_entries.proofs.Held.{none_there}
use Rattle.name_entries.proofs.Grouped.{is_lost, winner_is, one_group, as_many_groups, all_groups}
use Rattle.name_entries.proofs.dropping.dropped_of.Goals as goal
use Rattle.name_entries.proofs.dropping.dropped_of.Goals.{in-Some+in_ok-drop_group-in-Some, in-None}

pub loop-at-preserved : goal.loop-at-preserved
loop-at-preserved c =
    let objects = c.args.objects.now in
    let o = c.args.from.now in
    let at = c.loop-at.at in
    elim c.match-get.branch [
      | in-Some+in_ok-drop_group-in-Some w ↦
          let g = w.in-Some.group.now in
          let here = sym (ap option_copied (sym w.in-Some.is) ∙ c.get.ensures) in
          let won =
          w.is_input-wins.ensures
          ∙ ap (is_input o.input) (w.winner_of.ensures ∙ winner_is objects c.args.names.now c.args.winners.now c.args.object at o g
          c.requires.numbers c.requires.winners c.requires.place here) in
          rw w.dropped-is (record {
            functions = λ k. one_group objects o kinds.FUNCTION k at g _ _ w.is_input-wins.result here won (w.in_ok-drop_group-in-Some.ensures.functions k)
                (c.loop-at.invariant.functions k);
            segments = λ k. one_group objects o kinds.DATA k at g _ _ w.is_input-wins.result here won (w.in_ok-drop_group-in-Some.ensures.segments k)
                (c.loop-at.invariant.segments k);
          })
      | in-None w ↦
          let same = none_there o.groups at (ap option_copied (sym w.in-None.is) ∙ c.get.ensures) in
          rw w.dropped-is (record {
            functions = λ k. c.loop-at.invariant.functions k ∙ sym (ap (list_any (is_lost objects o kinds.FUNCTION k)) same);
            segments = λ k. c.loop-at.invariant.segments k ∙ sym (ap (list_any (is_lost objects o kinds.DATA k)) same);
          })
    ]

pub returns-clause-functions : goal.returns-clause-functions
returns-clause-functions c =
    let objects = c.args.objects.now in
    let o = c.args.from.now in
    let all = c.groups-at-end.ensures ∙ as_many_groups objects c.args.names.now c.args.object o c.requires.numbers c.requires.place in
    all_groups objects o kinds.FUNCTION c.loop-at.at c.loop-at.dropped.functions.items (omega arith) c.loop-at.invariant.functions

pub returns-clause-segments : goal.returns-clause-segments
returns-clause-segments c =
    let objects = c.args.objects.now in
    let o = c.args.from.now in
    let all = c.groups-at-end.ensures ∙ as_many_groups objects c.args.names.now c.args.object o c.requires.numbers c.requires.place in
    all_groups objects o kinds.DATA c.loop-at.at c.loop-at.dropped.segments.items (omega arith) c.loop-at.invariant.segments
