use Rattle.std.proofs.Common.{◌≡◌, ◌∙◌, length, drop, subst, sym, ap, replicate, None, arith}
use Rattle.std.proofs.lemmas.List.{take_at}
use Rattle.name_cases.specs.Firsts.{AreFirsts}
use Rattle.name_cases.specs.Rows.{entries_in, names_shown, rows_shown}
use Rattle.name_cases.specs.Search.{compared}
use Rattle.name_cases.proofs.Column.{firsts_none}
use Rattle.name_cases.proofs.rows.Rows.firsts.Goals as goal

pub returns : goal.returns
returns c =
    let q = c.args.question in
    let names = names_shown c.args.self.now in
    let rows = rows_shown c.args.self.now in
    let column = c.in_ok-firsts.firsts in
    let n : length c.note_all.new.firsts ≡ column.len = omega (arith, c.note_all.auto.firsts, c.as_mut_slice.ensures.len) in
    let whole = take_at c.note_all.new.firsts (drop (length c.note_all.new.firsts) column.items) column.len n in
    let none = firsts_none q names rows c.as_mut_slice.result.now (c.as_mut_slice.ensures.value ∙ c.in_ok-firsts.ensures ∙ ap (λ k. replicate k None) c.name_count.ensures) in
    subst (AreFirsts q names rows (compared q (entries_in rows))) (sym (c.from_vec.ensures ∙ whole)) (c.note_all.ensures none)
