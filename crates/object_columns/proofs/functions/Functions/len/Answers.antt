use Rattle.std.proofs.Common.{length, ◌∙◌, sym, ap}
use Rattle.object_columns.specs.Columns.{function_of}
use Rattle.object_columns.proofs.Joined.{three_length}
use Rattle.object_columns.proofs.functions.Functions.len.Goals as goal

pub returns : goal.returns
returns c =
    let o = c.self.inside in
    c.len.ensures ∙ sym (three_length function_of o.rows o.references o.names c.self.invariant.0 c.self.invariant.1) ∙ ap length c.self.view_is
