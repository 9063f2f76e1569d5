use Rattle.std.proofs.Common.{arith, List, ℕ, ◌+◌, take, subst, sym, ap, ◌∙◌}
use Rattle.std.specs.Prelude.{slice_get}
use Rattle.std.specs.Option.{option_map}
use Rattle.link_program.specs.object_columns.Seen.{func_type_seen}
use Rattle.program_tables.specs.Types.{AreNumbered}
use Rattle.program_tables.proofs.Steps.{some_at}
use Rattle.program_tables.proofs.Defining.{not_none}
use Rattle.program_tables.proofs.Typing.{keep_on, kept, numbered_more}
use Rattle.program_tables.proofs.types.fill_row.Goals as goal

pub unreachable-requires : goal.unreachable-requires
unreachable-requires c =
    not_none (slice_get c.args.from.now.types c.loop-at.at) (sym c.get.ensures ∙ ap (option_map func_type_seen) c.in_default.is) (some_at c.args.from.now.types c.loop-at.at (omega arith))

pub loop-at-preserved : goal.loop-at-preserved
loop-at-preserved c = record {
  keep = keep_on c.args.table.now c.loop-at.table c.number_of.new.table c.loop-at.invariant.keep (kept c.loop-at.table c.number_of.new.table (func_type_seen c.in-Some.kind) c.in_ok-number_of.ensures.types);
  row = subst (λ (r : List ℕ). AreNumbered c.number_of.new.table r (take (c.loop-at.at + 1) c.args.from.now.types)) (sym c.in_ok-push.ensures.ok)
      (numbered_more c.loop-at.table c.number_of.new.table c.loop-at.row c.args.from.now.types c.loop-at.at c.in_ok-number_of.field-0 (func_type_seen c.in-Some.kind)
      (kept c.loop-at.table c.number_of.new.table (func_type_seen c.in-Some.kind) c.in_ok-number_of.ensures.types) c.loop-at.invariant.row
      (sym c.get.ensures ∙ ap (option_map func_type_seen) c.in-Some.is) c.in_ok-number_of.ensures.at);
}
