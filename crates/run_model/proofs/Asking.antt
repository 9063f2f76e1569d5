-- What the host answers does not depend on the values and places that it replaces.
use Rattle.std.proofs.Common.{◌≡◌, ℕ, ◌+◌, ◌≤◌, Bool, true, false, List, [], ◌∷◌, ◌++◌, length, take, drop, map, Option, Some, None, refl, sym, ap, subst, ◌∙◌, arith}
use Rattle.std.proofs.lemmas.Bool.Decides.{nat_tests}
use Rattle.std.specs.Prelude.{reverse, slice_get, nat_le, if◌then◌else◌}
use Rattle.wasm_types.specs.declared.function.FuncType.{FuncType}
use Rattle.run_rules.specs.declared.value.Value.{Value}
use Rattle.run_rules.specs.declared.trace.TrapKind.{TrapKind}
use Rattle.run_rules.specs.declared.trace.Event.{Event}
use Rattle.run_rules.specs.declared.trace.Event.TheVariants as events
use Rattle.run_rules.specs.declared.session.Answer.{Answer}
use Rattle.run_rules.specs.declared.session.Answer.TheVariants as answers
use Rattle.run_rules.specs.declared.session.Session.{Session}
use Rattle.run_rules.specs.declared.world.Source.{Source}
use Rattle.run_rules.specs.declared.world.Source.TheVariants.{Host}
use Rattle.run_rules.specs.declared.state.Frame.{Frame}
use Rattle.run_rules.specs.declared.state.Inner.{Inner}
use Rattle.run_rules.specs.Own.{Turn, Ends, used}
use Rattle.run_rules.specs.Steps.{Names, Cells, told, blank, ended, over, turned, given_back, replied, have_types, all_written, asking, into, call_as}
use Rattle.run_numbers.specs.Layers.{Layers}
use Rattle.run_rules.specs.Runs.{hosted}
use Rattle.run_model.specs.declared.state.Running.{Running}
use Rattle.run_model.specs.declared.state.Active.{Active}
use Rattle.run_model.specs.declared.state.After.{After}
use Rattle.run_model.specs.declared.state.After.TheVariants as after
use Rattle.run_model.specs.declared.state.Stop.{Stop}
use Rattle.run_model.specs.Views.{Turns, hosting, asking_in, event_of, frame_of, inner_of, turn_of}
use Rattle.run_model.proofs.Turning.{over_stays, ended_stays, turned_after}

-- ---- in a call

-- where the arguments are taken off
asked_apart : (names : Names) (cells : Cells) (i : Inner) (t : FuncType) (vs : List Value) (a : Option Answer) → turned names cells i (replied t i vs a) ≡ turned names cells (record i { frame = record i.frame { values = vs } }) (replied t (record i { frame = record i.frame { values = vs } }) vs a)
asked_apart names cells i t vs None = refl
asked_apart names cells i t vs (Some answers.Trap) = refl
asked_apart names cells i t vs (Some (answers.Grow b)) = refl
asked_apart names cells i t vs (Some (answers.Results ws rs)) = by (have_types rs t.results) (all_written ws i.memory)
  where
    by : (b : Bool) (m : Option (List ℕ)) → turned names cells i (if b then given_back i (reverse rs ++ vs) m else Ends events.HostSpent) ≡ turned names cells (record i { frame = record i.frame { values = vs } }) (if b then given_back (record i { frame = record i.frame { values = vs } }) (reverse rs ++ vs) m else Ends events.HostSpent)
    by true None = refl
    by true (Some m) = refl
    by false m = refl

-- a call of a function of the host
led_by_host : (s : Session) (g : ℕ) (names : Names) (cells : Cells) (i : Inner) (j k : Active) (vs : List Value) (t : FuncType) (source : Source) (m n : List ℕ) (a : After) → source ≡ Host m n → length t.params ≤ length vs → inner_of j ≡ record (asking i m n (reverse (take (length t.params) vs))) { frame = record i.frame { values = drop (length t.params) vs } } → Turns (replied t (inner_of j) j.frame.layered.values (slice_get s.answers i.answered)) a j k → call_as s g names cells i vs t source ≡ turned names cells (inner_of k) (turn_of a k)
led_by_host s g names cells i j k vs t source m n a is fits same turns =
    let args : List Value = take (length t.params) vs in
    let left : List Value = drop (length t.params) vs in
    let enough : nat_le (length t.params) (length vs) ≡ true = grind (arith, nat_tests) in
    ap (λ (b : Bool). if b then into s g names cells i t args left source else ended cells i events.Stuck) enough
    ∙ ap (into s g names cells i t args left) is
    ∙ asked_apart names cells (asking i m n (reverse args)) t left (slice_get s.answers i.answered)
    ∙ ap (λ (x : Inner). turned names cells x (replied t x x.frame.values (slice_get s.answers i.answered))) (sym same)
    ∙ turned_after names cells j k (replied t (inner_of j) j.frame.layered.values (slice_get s.answers i.answered)) a turns

-- the state with other values
abbrev pub layered_in : Active → Layers → Active
layered_in old layered = record old { frame = record old.frame { layered = layered } }

-- the same, step by step: arguments are taken off, the call is told, and the host answers
pub host_called : (s : Session) (g : ℕ) (names : Names) (cells : Cells) (old j k : Active) (t : FuncType) (source : Source) (m n : List ℕ) (a : After) (count place : ℕ) (top args : List Value) (event : Event) (layered : Layers) → source ≡ Host m n → count ≡ length t.params → count ≤ length old.frame.layered.values → top ≡ take count old.frame.layered.values → args ≡ reverse top → event ≡ events.Asked m n args → layered ≡ record old.frame.layered { values = drop count old.frame.layered.values } → place ≡ old.answered → j ≡ asking_in (layered_in old layered) event → Turns (replied t (inner_of j) j.frame.layered.values (slice_get s.answers place)) a j k → call_as s g names cells (inner_of old) old.frame.layered.values t source ≡ turned names cells (inner_of k) (turn_of a k)
host_called s g names cells old j k t source m n a count place top args event layered is counted enough taken turned_round asked left at told turns =
    let vs : List Value = old.frame.layered.values in
    let fits : length t.params ≤ length vs = omega arith in
    let event_is : event ≡ events.Asked m n (reverse (take (length t.params) vs)) =
    asked ∙ ap (events.Asked m n) (turned_round ∙ ap (λ (l : List Value). reverse l) (taken ∙ ap (λ (c : ℕ). take c vs) counted)) in
    let labels_are : layered.labels ≡ old.frame.layered.labels = ap (λ (l : Layers). l.labels) left in
    let values_are : layered.values ≡ drop (length t.params) vs = ap (λ (l : Layers). l.values) left ∙ ap (λ (c : ℕ). drop c vs) counted in
    led_by_host s g names cells (inner_of old) j k vs t source m n a is fits
    (ap inner_of told
    ∙ (λ x. record {
      frame = record { place = old.frame.place; locals = old.frame.locals.items; labels = labels_are x; values = values_are x; results = old.frame.results };
      below = map frame_of old.below;
      memory = old.memory.items;
      answered = old.answered + 1;
      events = old.events ++ event_is x ∷ [];
    }))
    (subst (λ (p : ℕ). Turns (replied t (inner_of j) j.frame.layered.values (slice_get s.answers p)) a j k) at turns)

-- ---- in a call of the session, where no function runs

asked_idle : (cells : Cells) (i : Inner) (f : Frame) (t : FuncType) (a : Option Answer) → hosted cells i (replied t i [] a) ≡ hosted cells (record i { frame = f }) (replied t (record i { frame = f }) [] a)
asked_idle cells i f t None = refl
asked_idle cells i f t (Some answers.Trap) = refl
asked_idle cells i f t (Some (answers.Grow b)) = refl
asked_idle cells i f t (Some (answers.Results ws rs)) = by (have_types rs t.results) (all_written ws i.memory)
  where
    by : (b : Bool) (m : Option (List ℕ)) → hosted cells i (if b then given_back i (reverse rs ++ []) m else Ends events.HostSpent) ≡ hosted cells (record i { frame = f }) (if b then given_back (record i { frame = f }) (reverse rs ++ []) m else Ends events.HostSpent)
    by true None = refl
    by true (Some m) = refl
    by false m = refl

-- from here on: the call is told, no function runs, and the host answers
module _ (s : Session) (cells : Cells) (old j k : Active) (t : FuncType) (event : Event) (frame : Running) (place : ℕ) (a : After) (blank_is : frame_of frame ≡ blank) (at : place ≡ old.answered) (told_is : j ≡ asking_in old event) (turns : Turns (replied t (inner_of (record j { frame = frame })) frame.layered.values (slice_get s.answers place)) a (record j { frame = frame }) k) where
  abbrev idle_in : Active
  idle_in = record j { frame = frame }

  abbrev answer : Turn
  answer = replied t (inner_of idle_in) frame.layered.values (slice_get s.answers place)

  led : hosting s cells (inner_of old) t event ≡ hosted cells (inner_of idle_in) answer
  led =
      let same : inner_of idle_in ≡ record (used (told (inner_of old) event)) { frame = blank } = λ x. record {
        frame = blank_is x;
        below = map frame_of (told_is x).below;
        memory = (told_is x).memory.items;
        answered = (told_is x).answered;
        events = (told_is x).events;
      } in
      asked_idle cells (used (told (inner_of old) event)) blank t (slice_get s.answers old.answered)
      ∙ ap (λ (x : Inner). hosted cells x (replied t x x.frame.values (slice_get s.answers old.answered))) (sym same)
      ∙ ap (λ (p : ℕ). hosted cells (inner_of idle_in) (replied t (inner_of idle_in) frame.layered.values (slice_get s.answers p))) (sym at)

  pub host_gives : (top args : List Value) → a ≡ after.Goes → top ≡ k.frame.layered.values → args ≡ reverse top → hosting s cells (inner_of old) t event ≡ over cells (inner_of k) (events.Returned args)
  host_gives top args is taken turned_round =
      led
      ∙ ap (hosted cells (inner_of idle_in)) (subst (λ (x : After). Turns answer x idle_in k) is turns)
      ∙ ap (λ (vs : List Value). over cells (inner_of k) (events.Returned vs)) (sym (turned_round ∙ ap (λ (l : List Value). reverse l) taken))

  pub host_leaves : a ≡ after.Leaves → hosting s cells (inner_of old) t event ≡ ended cells (inner_of k) events.Stuck
  host_leaves is =
      let gone : Turns answer after.Leaves idle_in k = subst (λ (x : After). Turns answer x idle_in k) is turns in
      led ∙ ap (hosted cells (inner_of idle_in)) gone.0 ∙ ended_stays cells idle_in k events.Stuck gone.1

  pub host_traps : (x : TrapKind) → a ≡ after.Traps x → hosting s cells (inner_of old) t event ≡ over cells (inner_of k) (events.Trapped x)
  host_traps x is =
      let gone : Turns answer (after.Traps x) idle_in k = subst (λ (y : After). Turns answer y idle_in k) is turns in
      led ∙ ap (hosted cells (inner_of idle_in)) gone.0 ∙ over_stays cells idle_in k (events.Trapped x) gone.1

  pub host_ends : (x : Stop) → a ≡ after.Ends x → hosting s cells (inner_of old) t event ≡ ended cells (inner_of k) (event_of x)
  host_ends x is =
      let gone : Turns answer (after.Ends x) idle_in k = subst (λ (y : After). Turns answer y idle_in k) is turns in
      led ∙ ap (hosted cells (inner_of idle_in)) gone.0 ∙ ended_stays cells idle_in k (event_of x) gone.1
