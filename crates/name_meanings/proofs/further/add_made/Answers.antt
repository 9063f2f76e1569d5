use Rattle.std.proofs.Common.{◌∷◌, ◌++◌, ◌∙◌, [], ap, sym, subst}
use Rattle.name_entries.specs.made_symbols.declared.mode.Mode.TheVariants.{Shared}
use Rattle.name_entries.specs.made_symbols.Made.{made_at}
use Rattle.name_meanings.specs.Kept.{import_of, made_key}
use Rattle.name_meanings.specs.Further.{AreMade, is_global_kind}
use Rattle.name_meanings.proofs.further.add_made.Goals as goal
use Rattle.name_meanings.proofs.Besides.{made_other, made_more}

pub returns-then-is_global : goal.returns-then-is_global
returns-then-is_global c = λ before base so_far.
    let m = made_at Shared c.args.k in
    subst (AreMade (before ++ m ∷ []) base c.add.new.self) (sym c.in_ok-push.ensures.ok)
    (made_more before m base c.args.imports.now c.add.new.self c.args.numbers.now c.in_ok-number.number (import_of c.in_ok-import.import) c.is_global.result (c.is_global.ensures ∙ ap is_global_kind c.kind.ensures) c.if-is_global.true
    (c.in_ok-import.ensures ∙ (λ i. made_key (c.name.ensures i) (c.changes.ensures i))) c.in_ok-number.ensures.imports c.in_ok-number.ensures.number so_far)

pub returns : goal.returns
returns c = λ before base so_far.
    made_other before (made_at Shared c.args.k) base c.args.imports.now c.args.numbers.now c.is_global.result (c.is_global.ensures ∙ ap is_global_kind c.kind.ensures) c.if-is_global.false so_far
