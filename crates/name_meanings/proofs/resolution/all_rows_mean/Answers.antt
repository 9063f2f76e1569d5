use Rattle.std.proofs.Common.{◌≡◌, ◌<◌, ◌∙◌, [], get_or, slice_get, Some, None, length, true, false, sym, ap, arith}
use Rattle.std.specs.List.{list_all}
use Rattle.std.specs.Option.{option_copied}
use Rattle.std.proofs.lemmas.List.Folds.{list_all_at}
use Rattle.std.proofs.lemmas.Option.{slice_get-get_or, get_or_from_slice_get}
use Rattle.name_meanings.specs.Means.{means_something}
use Rattle.name_meanings.proofs.Something.{one_passes, all_passed}
use Rattle.name_meanings.proofs.resolution.all_rows_mean.Goals as goal
use Rattle.name_meanings.proofs.resolution.all_rows_mean.Goals.{in-Some+else-not-all_mean, in_default}

pub loop-at-preserved : goal.loop-at-preserved
loop-at-preserved c =
    let rows = c.args.rows.now in
    let at = c.loop-at.at in
    let below : at < length rows = omega (arith, c.loop-at-test.true, c.len-at-end.ensures) in
    elim c.match-get.branch [
      | in-Some+else-not-all_mean w ↦
          let there : slice_get rows at ≡ Some w.in-Some.row.now = sym c.get.ensures ∙ ap option_copied w.in-Some.is in
          let passes : list_all means_something (get_or rows at []) ≡ true =
          ap (list_all means_something) (get_or_from_slice_get rows at w.in-Some.row.now [] there) ∙ sym w.all_mean.ensures ∙ w.if-not-all_mean.false in
          one_passes (list_all means_something) rows at [] below passes c.loop-at.invariant
      | in_default w ↦
          let none : None ≡ Some (get_or rows at []) = sym (ap option_copied w.in_default.is) ∙ c.get.ensures ∙ slice_get-get_or rows at [] below in
          absurd cc
    ]

pub returns : goal.returns
returns c =
    all_passed (list_all means_something) c.args.rows.now c.loop-at.at (omega (arith, c.loop-at-test.false, c.loop-at.auto.at-end, c.len-at-end.ensures)) c.loop-at.invariant

pub returns-then-not-all_mean : goal.returns-then-not-all_mean
returns-then-not-all_mean c =
    let rows = c.args.rows.now in
    let at = c.loop-at.at in
    let below : at < length rows = omega (arith, c.loop-at-test.true, c.len-at-end.ensures) in
    let there : slice_get rows at ≡ Some c.in-Some.row.now = sym c.get.ensures ∙ ap option_copied c.in-Some.is in
    let fails : list_all means_something (get_or rows at []) ≡ false =
    ap (list_all means_something) (get_or_from_slice_get rows at c.in-Some.row.now [] there) ∙ sym c.all_mean.ensures ∙ c.if-not-all_mean.true in
    sym (list_all_at (list_all means_something) rows at [] below fails)
