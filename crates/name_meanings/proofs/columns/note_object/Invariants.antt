use Rattle.std.proofs.Common.{List, [], ◌++◌, take, get_or}
use Rattle.name_entries.specs.name_rules.Entries.{InputSymbol}
use Rattle.name_entries.specs.View.{rows_of}
use Rattle.name_meanings.specs.Columns.{AreColumnsOf}
use Rattle.name_meanings.proofs.columns.note_object.Given as goal

abbrev pub invariant-loop-place : goal.invariant-loop-place
invariant-loop-place l = (seen : List InputSymbol) → AreColumnsOf l.entries seen l.initial.columns
    → AreColumnsOf l.entries (seen ++ take l.place (get_or (rows_of l.entries.objects.now) l.object [])) l.columns
