use Rattle.std.proofs.Common.{◌<◌, ◌≡◌, length, ap, sym, subst, List}
use Rattle.std.specs.Prelude.{IfSome}
use Rattle.std.specs.Map.{lookup}
use Rattle.std.specs.Str.{bytes_eq}
use Rattle.wl_base.specs.declared.span.Span.{Span}
use Rattle.lib_index.specs.Library.{Contents}
use Rattle.lib_index.specs.Table.{shown}
use Rattle.lib_index.proofs.LeastLaws.{lookup_below}
use Rattle.lib_index.proofs.library.Library.offers.Goals as goal

pub returns-clause-within : goal.returns-clause-within
returns-clause-within c =
    let table = shown c.self.inside.table in
    let members : c.self.inside.members ≡ c.args.self.now.members = ap (λ (l : Contents). l.members) c.self.view_is in
    subst (λ r. IfSome r (λ k. k < length c.args.self.now.members)) (sym c.offered.ensures)
    (subst (λ (ms : List Span). IfSome (lookup (bytes_eq c.args.name.now) table) (λ k. k < length ms)) members
    (lookup_below (length c.self.inside.members) table c.args.name.now c.self.invariant.1))
