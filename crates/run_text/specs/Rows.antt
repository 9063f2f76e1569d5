-- Worked texts of traces.
use Rattle.std.specs.Prelude.{◌≡◌, List, [], ◌∷◌, ◌++◌, codes, replicate, refl}
use Rattle.std.specs.Fmt.{digits}
use Rattle.run_rules.specs.declared.value.Value.TheVariants.{I32, I64, F32, F64}
use Rattle.run_rules.specs.declared.trace.TrapKind.TheVariants.{NullEntry}
use Rattle.run_rules.specs.declared.trace.Event.{Event}
use Rattle.run_rules.specs.declared.trace.Event.TheVariants.{Asked, Returned, Trapped, NotCalled, Stuck, StepsSpent, HostSpent, Carried}
use Rattle.run_rules.specs.declared.trace.Trace.{Trace}
use Rattle.run_text.specs.Text.{line, event_text, row_text, rows_from, global_text, trace_text}

-- a trace without memory and globals
abbrev happened : List Event → Trace
happened events = record { events = events; memory = []; globals = [] }

a_result : trace_text (happened (Returned (I32 7 ∷ []) ∷ [])) ≡ line (codes "returned i32:7") ++ line (codes "memory 0") ++ line (codes "end")
unfolding trace_text digits
a_result = refl

no_steps_left : trace_text (happened (StepsSpent ∷ [])) ≡ line (codes "steps spent") ++ line (codes "memory 0") ++ line (codes "end")
unfolding trace_text digits
no_steps_left = refl

in_turn : trace_text (happened (NotCalled ∷ Returned [] ∷ Stuck ∷ []))
    ≡ line (codes "not called") ++ line (codes "returned") ++ line (codes "stuck") ++ line (codes "memory 0") ++ line (codes "end")
unfolding trace_text digits
in_turn = refl

asked : event_text (Asked (codes "a b") [] (I64 1 ∷ F32 2 ∷ F64 3 ∷ [])) ≡ codes "asked a\\x20b \\e i64:1 f32:2 f64:3"
unfolding digits
asked = refl

trapped : event_text (Trapped NullEntry) ≡ codes "trapped NullEntry"
trapped = refl

carried : event_text (Carried 252 7) ≡ codes "carried 252,7"
unfolding digits
carried = refl

host_spent : event_text HostSpent ≡ codes "host spent"
host_spent = refl

-- bytes 26 and 27 lie in the row of address 16
second_row : rows_from 2 0 (replicate 26 0 ++ 0x0A ∷ 0xFF ∷ replicate 4 0) ≡ line (codes "00000010 000000000000000000000AFF00000000")
second_row = refl

zeros_have_no_row : row_text 0 (replicate 16 0) ≡ []
zeros_have_no_row = refl

a_global : global_text (record { name = codes "g\\"; value = I32 5 }) ≡ codes "global g\\x5C i32:5"
unfolding digits
a_global = refl
