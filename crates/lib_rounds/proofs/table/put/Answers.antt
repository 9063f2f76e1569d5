use Rattle.std.proofs.Common.{◌∙◌, ap, ℕ, List, Some, cond}
use Rattle.std.specs.Map.{lookup}
use Rattle.std.specs.Str.{bytes_eq}
use Rattle.lib_index.specs.Table.{shown}
use Rattle.lib_rounds.proofs.Names.{put_lookup}
use Rattle.lib_rounds.proofs.table.put.Goals as goal

pub returns : goal.returns
returns c n =
    ap (lookup (bytes_eq n)) c.in_ok-insert.ensures.entries
    ∙ put_lookup c.args.table.now.entries c.in_ok-new.field-0 c.args.input n
    ∙ ap (λ (name : List ℕ). cond (bytes_eq n name) (Some c.args.input) (lookup (bytes_eq n) (shown c.args.table.now))) c.in_ok-new.ensures
