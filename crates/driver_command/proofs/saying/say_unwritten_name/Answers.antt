use Rattle.std.proofs.Common.{◌≡◌, ℕ, List, Option, None, Result, subst, sym, ap}
use Rattle.std.specs.Prelude.{codes}
use Rattle.std.specs.Option.{option_map}
use Rattle.wl_outside.specs.declared.sink.Failed.{Failed}
use Rattle.wl_outside.specs.Sink.{Told, Wrote}
use Rattle.driver_lines.specs.Lines.{error_line}
use Rattle.driver_command.specs.Told.{unwritten_line}
use Rattle.driver_command.proofs.saying.say_unwritten_name.Goals as goal

nameless : (r : Result (Unit {0}) Failed) (old new : Told) (program : List ℕ) (name : Option (List ℕ)) → name ≡ None
    → Wrote r (error_line program (codes "cannot open the output file")) old new → Wrote r (unwritten_line program name) old new
nameless r old new program name is wrote = subst (λ (n : Option (List ℕ)). Wrote r (unwritten_line program n) old new) (sym is) wrote

pub returns-in-None : goal.returns-in-None
returns-in-None g c = nameless _ _ _ c.args.program.now _ (ap (option_map (λ t. t.now)) c.in-None.is) c.say_error.ensures
