use Rattle.std.proofs.Common.{◌∙◌, [], ◌∷◌, List, sym, ap, subst}
use Rattle.link_program.specs.link_rules.Marks.{Given}
use Rattle.link_marks.specs.Names.{memory_given, AreGiven}
use Rattle.link_marks.proofs.repeated.given_first.Goals as goal

pub returns : goal.returns
returns c =
    let are : AreGiven [] c.new.result.names c.new-2.result = record { names = ap (λ t. t.names) c.new.ensures; inputs = c.new-2.ensures } in
    let given = c.in_ok-give.ensures.given [] are (c.in_ok-give.ensures.found [] are) in
    subst (λ (gs : List Given). AreGiven gs c.give.new.self.names.names c.give.new.self.inputs)
    (ap (λ name. record { name = name; input = 0 } ∷ []) c.as_slice.ensures ∙ sym (ap memory_given c.if-imports_memory.false)) given
