use Rattle.std.proofs.Common.{ℕ, List, Option, ◌∙◌, ◌++◌, ◌∷◌, [], ap}
use Rattle.linking_section.specs.declared.symbol.Symbol.{Symbol}
use Rattle.object_columns.specs.declared.symbols.SymbolRow.{SymbolRow}
use Rattle.object_columns.specs.Columns.{joined, symbol_of}
use Rattle.object_columns.specs.Seen.{symbol_seen}
use Rattle.object_columns.proofs.Joined.{joined_more}
use Rattle.object_columns.proofs.symbols.Symbols.push.Goals as goal

pub returns-in-Ok-clause-ok : goal.returns-in-Ok-clause-ok
returns-in-Ok-clause-ok c =
    let o = c.self.inside in
    let s = c.args.symbol in
    let row : SymbolRow = record { kind = s.kind; is_named = c.split-is_named.result.0; flags = s.flags; index = s.index; offset = s.offset; size = s.size } in
    let name = c.split-is_named.result.1.now in
    let of : Option (List ℕ) → Symbol = λ n. record { kind = s.kind; flags = s.flags; name = n; index = s.index; offset = s.offset; size = s.size } in
    ap (λ xs. joined symbol_of xs c.push.new.self) c.in-Ok.ensures.ok
    ∙ ap (joined symbol_of (o.rows ++ row ∷ [])) c.in_ok-push.ensures.ok
    ∙ joined_more symbol_of o.rows o.names row name c.self.invariant
    ∙ ap (λ n. joined symbol_of o.rows o.names ++ of n ∷ []) c.split-is_named.ensures
    ∙ ap (λ list. list ++ symbol_seen s ∷ []) c.self.view_is
