use Rattle.std.proofs.Common.{◌≡◌, None, [], ◌∷◌, ◌++◌, arith, sym, ap, ◌∙◌}
use Rattle.wl_base.specs.Names.{Names, number_of}
use Rattle.wl_base.proofs.Places.{new_last, interned_new}
use Rattle.wl_base.proofs.name_table.NameTable.intern.Goals as goal

pub returns : goal.returns
returns c =
    let none : number_of c.args.self.now.names c.args.name.now ≡ None = sym c.find.ensures ∙ c.in_default.is in
    let after = new_last c.self.inside.names.keys c.insert.new.self.keys c.in_ok-new.field-0 c.args.name.now
    (ap (λ (t : Names). number_of t.names c.args.name.now) c.self.view_is ∙ none) c.in_ok-new.ensures c.in_ok-insert.ensures.keys in
    interned_new c.args.self.now c.args.name.now c.count-number.result c.self.inside.limit _ none c.count-number.ensures (omega arith)
    (ap (λ (t : Names). t.limit) c.self.view_is) (after ∙ ap (λ (t : Names). t.names ++ c.args.name.now ∷ []) c.self.view_is)
