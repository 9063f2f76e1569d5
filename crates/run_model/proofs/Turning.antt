-- Where a turn leads does not depend on the frame that it leaves behind.
use Rattle.std.proofs.Common.{◌≡◌, List, [], ◌∷◌, ◌++◌, map, sym, ap, ◌∙◌}
use Rattle.std.specs.Prelude.{drop, reverse}
use Rattle.run_rules.specs.declared.value.Value.{Value}
use Rattle.run_rules.specs.declared.trace.Event.{Event}
use Rattle.run_rules.specs.declared.trace.Event.TheVariants as events
use Rattle.run_rules.specs.declared.state.Frame.{Frame}
use Rattle.run_rules.specs.declared.state.How.TheVariants.{GoesOn, CallOver, Halts}
use Rattle.run_rules.specs.Own.{Turn}
use Rattle.run_rules.specs.Steps.{Names, Cells, blank, stepped, ended, over, left_to, turned}
use Rattle.run_model.specs.declared.state.Active.{Active}
use Rattle.run_model.specs.declared.state.After.{After}
use Rattle.run_model.specs.declared.state.After.TheVariants as after
use Rattle.run_model.specs.Views.{Turns, Stays, event_of, frame_of, given, inner_of, turn_of}

pub over_stays : (cells : Cells) (i j : Active) (e : Event) → Stays i j → over cells (inner_of i) e ≡ over cells (inner_of j) e
over_stays cells i j e h = λ x. stepped [] cells (record { frame = blank; below = []; memory = (sym h.memory) x; answered = (sym h.answered) x; events = (sym h.events) x ++ e ∷ [] }) CallOver

pub ended_stays : (cells : Cells) (i j : Active) (e : Event) → Stays i j → ended cells (inner_of i) e ≡ ended cells (inner_of j) e
ended_stays cells i j e h = λ x. stepped [] cells (record { frame = blank; below = []; memory = (sym h.memory) x; answered = (sym h.answered) x; events = (sym h.events) x }) (Halts e)

left_stays : (fs : List Frame) (names : Names) (cells : Cells) (i j : Active) (vs : List Value) → Stays i j → left_to fs names cells (inner_of i) vs ≡ left_to fs names cells (inner_of j) vs
left_stays [] names cells i j vs h = over_stays cells i j (events.Returned (reverse vs)) h
left_stays (f ∷ fs) names cells i j vs h =
    λ x. stepped (drop 1 names) cells (record { frame = record f { values = vs ++ f.values }; below = fs; memory = (sym h.memory) x; answered = (sym h.answered) x; events = (sym h.events) x }) GoesOn

-- an instruction led there from one state to another
pub turned_after : (names : Names) (cells : Cells) (i j : Active) (t : Turn) (a : After) → Turns t a i j → turned names cells (inner_of i) t ≡ turned names cells (inner_of j) (turn_of a j)
turned_after names cells i j t after.Goes h = ap (turned names cells (inner_of i)) h
turned_after names cells i j t after.Leaves h =
    let vs : List Value = given j.frame in
    ap (turned names cells (inner_of i)) h.0
    ∙ left_stays (map frame_of i.below) names cells i j vs h.1
    ∙ ap (λ (fs : List Frame). left_to fs names cells (inner_of j) vs) (ap (map frame_of) (sym h.1.below))
turned_after names cells i j t (after.Traps k) h = ap (turned names cells (inner_of i)) h.0 ∙ over_stays cells i j (events.Trapped k) h.1
turned_after names cells i j t (after.Ends s) h = ap (turned names cells (inner_of i)) h.0 ∙ ended_stays cells i j (event_of s) h.1
