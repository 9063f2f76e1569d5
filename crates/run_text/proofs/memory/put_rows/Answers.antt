use Rattle.std.proofs.Common.{◌∙◌, ◌++◌, ◌+◌, ◌-◌, ◌*◌, ◌/◌, List, ℕ, ap, refl, length, take, drop}
use Rattle.run_text.specs.Text.{row_text, rows_from}
use Rattle.run_text.proofs.Rows.{one_row, all_of}
use Rattle.run_text.proofs.memory.put_rows.Goals as goal

pub loop-k-preserved : goal.loop-k-preserved
loop-k-preserved c =
    let k = c.loop-k.k in
    let memory = c.args.memory.now in
    let count = length memory / 16 in
    let behind : List ℕ = rows_from (count - (k + 1)) ((k + 1) * 16) (drop ((k + 1) * 16) memory) in (
      refl,
      ap (λ to. to ++ behind) c.in_ok-put_row.ensures
          ∙ ap (λ row. (c.loop-k.to ++ row_text (k * 16) (take 16 row)) ++ behind) (all_of (k * 16) memory)
          ∙ one_row c.loop-k.to (c.args.to.now ++ rows_from count 0 memory) count k memory c.loop-k-test.true c.loop-k.invariant.1,
    )
