use Rattle.std.proofs.Common.{◌++◌, [], ℕ, Bool, List, refl, sym, subst, ◌∙◌, append-nil}
use Rattle.wl_outside.specs.Sink.{Added}
use Rattle.driver_lines.proofs.Parts.{last, stops_first}
use Rattle.driver_command.specs.Mismatched.{severity, gap}
use Rattle.driver_command.specs.Told.{IsLast}
use Rattle.driver_command.proofs.Around.{same_all, grows_all}
use Rattle.driver_command.proofs.Lines.{some_end_by, told_as, told_on}
use Rattle.driver_command.proofs.saying.say_ending.Goals as goal

pub returns-in_err-say_mismatches-clause-told : goal.returns-in_err-say_mismatches-clause-told
returns-in_err-say_mismatches-clause-told g c =
    let shelf = g.F.Shelf.shown c.say_mismatches.new.shelf in
    let fatal = c.args.fatal in
    let status = c.args.status.now in
    let told = c.args.told.now in
    let program = c.args.program.now in
    let own = c.args.own.now in
    let t = c.in_err-say_mismatches.ensures.told in
    let are = told_as told program c.severity-word.result.now (severity fatal) c.gap-end.result.now (gap fatal status) shelf own t.0 c.severity-word.ensures c.gap-end.ensures t.1 in
    let e = some_end_by fatal status told program shelf own t.0 are in
    (t.0 ++ e.0, e.1, stops_first t.0 e.0 c.from_residual.result _ _ c.from_residual.ensures.0 t.2)

pub returns-then-says_why-clause-told : goal.returns-then-says_why-clause-told
returns-then-says_why-clause-told g c =
    let shelf = g.F.Shelf.shown c.say_mismatches.new.shelf in
    let fatal = c.args.fatal in
    let status = c.args.status.now in
    let told = c.args.told.now in
    let program = c.args.program.now in
    let own = c.args.own.now in
    let t = c.in_ok-say_mismatches.ensures.told in
    let are = told_as told program c.severity-word.result.now (severity fatal) c.gap-end.result.now (gap fatal status) shelf own t.0 c.severity-word.ensures c.gap-end.ensures t.1 in
    let why = sym (sym c.says_why.ensures ∙ c.if-says_why.true) in (
      t.0,
      record { first = t.0; rest = []; is = sym (append-nil t.0); warned = are; ends = subst (λ (b : Bool). IsLast b status program shelf own []) why refl },
      t.2,
    )

pub returns-clause-told : goal.returns-clause-told
returns-clause-told g c =
    let mid = g.F.Shelf.shown c.say_mismatches.new.shelf in
    let after = g.F.Shelf.shown c.say_status.new.shelf in
    let fatal = c.args.fatal in
    let status = c.args.status.now in
    let told = c.args.told.now in
    let program = c.args.program.now in
    let own = c.args.own.now in
    let t = c.in_ok-say_mismatches.ensures.told in
    let u = c.say_status.ensures.told in
    let are = told_as told program c.severity-word.result.now (severity fatal) c.gap-end.result.now (gap fatal status) mid own t.0 c.severity-word.ensures c.gap-end.ensures t.1 in
    let not_why = sym (sym c.says_why.ensures ∙ c.if-says_why.false) in (
      t.0 ++ u.0,
      record {
        first = t.0;
        rest = u.0;
        is = refl;
        warned = told_on told program (severity fatal) (gap fatal status) mid after own t.0 c.say_status.ensures.same c.say_status.ensures.counts are;
        ends = subst (λ (b : Bool). IsLast b status program after own u.0) not_why u.1;
      },
      last t.0 u.0 c.say_status.result _ _ _ t.2 u.2,
    )

pub returns-clause-same : goal.returns-clause-same
returns-clause-same g c =
    same_all (g.F.Shelf.shown c.args.shelf.now) (g.F.Shelf.shown c.say_mismatches.new.shelf) (g.F.Shelf.shown c.say_status.new.shelf) c.in_ok-say_mismatches.ensures.counts
    c.in_ok-say_mismatches.ensures.same c.say_status.ensures.same

pub returns-clause-counts : goal.returns-clause-counts
returns-clause-counts g c =
    grows_all (g.F.Shelf.shown c.args.shelf.now) (g.F.Shelf.shown c.say_mismatches.new.shelf) (g.F.Shelf.shown c.say_status.new.shelf) c.in_ok-say_mismatches.ensures.counts
    c.say_status.ensures.counts
