use Rattle.std.proofs.Common.{length, ◌∙◌, sym, ap}
use Rattle.object_columns.specs.Columns.{func_type}
use Rattle.object_columns.proofs.Joined.{joined_length}
use Rattle.object_columns.proofs.func_types.FuncTypes.len.Goals as goal

pub returns : goal.returns
returns c =
    let o = c.self.inside in
    c.len.ensures ∙ sym (joined_length func_type o.params o.results c.self.invariant) ∙ ap length c.self.view_is
