use Rattle.std.proofs.Common.{◌∙◌, ap, sym, arith}
use Rattle.std.specs.Prelude.{option_copied}
use Rattle.std.specs.Map.{lookup}
use Rattle.std.specs.Str.{bytes_eq}
use Rattle.lib_index.specs.Table.{shown}
use Rattle.object_file.specs.linking_section.Flags.{is_definition}
use Rattle.lib_rounds.proofs.Names.{enters, passes, ends_after}
use Rattle.lib_rounds.proofs.table.define.Goals.{in-Some+in_ok-put, in_default}
use Rattle.lib_rounds.proofs.table.define.Goals as goal

pub loop-at-preserved : goal.loop-at-preserved
loop-at-preserved c n =
    elim c.match-defined_at.branch [
      | in-Some+in_ok-put w ↦
          enters is_definition c.args.object.now.symbols c.loop-at.at c.args.input n w.in-Some.name.now (lookup (bytes_eq n)
          (shown c.loop-at.table)) (lookup (bytes_eq n) (shown c.match-defined_at.table)) _
          (sym w.in-Some.ensures) (ap (λ t. lookup (bytes_eq n) (shown t)) w.table-is ∙ w.in_ok-put.ensures n) (c.loop-at.invariant n)
      | in_default w ↦
          passes is_definition c.args.object.now.symbols c.loop-at.at c.args.input n (lookup (bytes_eq n) (shown c.match-defined_at.table)) _
          (omega (arith, c.loop-at-test.true, c.len-at-end.ensures)) (sym c.defined_at.ensures ∙ ap option_copied w.in_default.is) (rw w.table-is
          (c.loop-at.invariant n))
    ]

pub returns : goal.returns
returns c n = ends_after is_definition c.args.object.now.symbols c.loop-at.at c.args.input n (lookup (bytes_eq n) (shown c.loop-at.table)) _
    (omega (arith, c.loop-at-test.false, c.len-at-end.ensures)) (c.loop-at.invariant n)
