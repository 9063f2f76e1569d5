use Rattle.std.proofs.Common.{◌≡◌, ℕ, List, Bool, Option, None, Result, subst, sym, ap}
use Rattle.std.specs.Prelude.{codes}
use Rattle.std.specs.Option.{option_map}
use Rattle.wl_outside.specs.declared.sink.Failed.{Failed}
use Rattle.wl_outside.specs.Sink.{Told, Wrote}
use Rattle.driver_lines.specs.Lines.{error_line}
use Rattle.driver_command.specs.Told.{unread_line}
use Rattle.driver_command.proofs.saying.say_unread_there.Goals as goal

nameless : (r : Result (Unit {0}) Failed) (old new : Told) (program : List ℕ) (name : Option (List ℕ)) (there : Bool) → name ≡ None
    → Wrote r (error_line program (codes "cannot open an input")) old new → Wrote r (unread_line program name there) old new
nameless r old new program name there is wrote = subst (λ (n : Option (List ℕ)). Wrote r (unread_line program n there) old new) (sym is) wrote

pub returns-in-None : goal.returns-in-None
returns-in-None g c = nameless _ _ _ c.args.program.now _ c.args.there (ap (option_map (λ t. t.now)) c.in-None.is) c.say_error.ensures
