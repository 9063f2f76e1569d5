use Rattle.std.proofs.Common.{arith, List, ℕ, ◌≡◌, ◌<◌, ◌+◌, ◌++◌, [], ◌∷◌, map, take, Some, length, ap, sym, subst, ◌∙◌}
use Rattle.std.specs.Prelude.{slice_get}
use Rattle.link_program.specs.object_file.declared.object.Object.{Object}
use Rattle.program_tables.proofs.Steps.{read_at}
use Rattle.program_tables.proofs.Typing.{keep_on, rows_more}
use Rattle.program_tables.proofs.types.numbers_of.Goals as goal

pub loop-from-preserved : goal.loop-from-preserved
loop-from-preserved c =
    let objects = c.args.objects.now in
    let i = c.loop-from.from-index in
    let o = c.from-item.result in
    let within : i < length objects = omega arith in
    let at : slice_get objects i ≡ Some o = read_at objects i o within c.from-item.is in
    record {
      keep = keep_on c.args.table.now c.loop-from.table c.fill_row.new.table c.loop-from.invariant.keep c.in_ok-fill_row.ensures.keep;
      rows = subst (λ (rows : List (List ℕ)). map (map (slice_get c.fill_row.new.table)) rows ≡ map (λ (o : Object). map Some o.types) (take (i + 1) objects))
          (sym (c.in_ok-push.ensures.ok ∙ ap (λ r. c.loop-from.rows ++ r ∷ []) c.as_slice.ensures))
          (rows_more c.loop-from.table c.fill_row.new.table c.loop-from.rows c.fill_row.new.row objects i o c.in_ok-fill_row.ensures.keep c.loop-from.invariant.rows at c.in_ok-fill_row.ensures.row);
    }
