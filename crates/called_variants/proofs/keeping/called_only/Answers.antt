use Rattle.std.proofs.Common.{sym, ap, subst, length, ◌∙◌}
use Rattle.called_variants.specs.Marked.{marked, AreMarks}
use Rattle.called_variants.proofs.Flagged.{marks_are}
use Rattle.called_variants.proofs.keeping.called_only.Goals as goal

pub kept_by-requires : goal.kept_by-requires
kept_by-requires g c =
    let names = c.args.names.now.names in
    let are = c.deref.ensures.value ∙ c.in_ok-marks.ensures ∙ ap (λ n. marked n c.args.tables.now) c.count.ensures in
    subst (λ flags. AreMarks names flags g.p) (sym are) (marks_are names c.args.tables.now g.p c.requires)
