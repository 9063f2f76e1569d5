use Rattle.std.proofs.Common.{length, ◌∙◌, sym, ap}
use Rattle.object_columns.specs.Columns.{symbol_of}
use Rattle.object_columns.proofs.Joined.{joined_length}
use Rattle.object_columns.proofs.symbols.Symbols.len.Goals as goal

pub returns : goal.returns
returns c =
    let o = c.self.inside in
    c.len.ensures ∙ sym (joined_length symbol_of o.rows o.names c.self.invariant) ∙ ap length c.self.view_is
