use Rattle.name_cases.specs.Rows.{entries_in, rows_shown}
use Rattle.name_cases.specs.Search.{before}
use Rattle.name_cases.proofs.rows.Rows.note_all.Goals as goal

pub returns : goal.returns
returns c = λ none. c.note_rows.ensures (before c.args.question (entries_in (rows_shown c.args.self.now))) (c.note_definitions.ensures.are none)
