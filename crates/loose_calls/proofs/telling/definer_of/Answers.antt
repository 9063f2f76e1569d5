use Rattle.std.proofs.Common.{sym, subst, ◌∙◌}
use Rattle.program_tables.specs.link_program.wasm_types.declared.function.FuncType.{FuncType}
use Rattle.loose_calls.specs.Told.{LeadsTo}
use Rattle.loose_calls.proofs.telling.definer_of.Goals as goal

pub returns-in-Made : goal.returns-in-Made
returns-in-Made c = λ d leads.
    let l = subst (λ m. LeadsTo c.args.entries.objects.now m d) c.in-Made.is leads in
    let of_type = (λ i. let t : FuncType = record { params = c.new.ensures i; results = c.new-in-Made.ensures i } in t) ∙ sym l.1 in
    λ i. record { of_type = of_type i; input = sym l.0 i }
