use Rattle.std.proofs.Common.{◌≡◌, ℕ, List, Result, subst, sym, ap, ◌∙◌}
use Rattle.wl_outside.specs.declared.sink.Failed.{Failed}
use Rattle.wl_outside.specs.Sink.{Told, Wrote}
use Rattle.driver_words.specs.declared.stop.Stop.{Stop}
use Rattle.driver_words.specs.declared.stop.Stop.TheVariants.{NotText}
use Rattle.driver_command.specs.Told.{stop_line}
use Rattle.driver_command.proofs.saying.say_stop.Goals as goal

-- the line of what it is
at : (r : Result (Unit {0}) Failed) (old new : Told) (program : List ℕ) (stop variant : Stop) → stop ≡ variant → Wrote r (stop_line program variant) old new
    → Wrote r (stop_line program stop) old new
at r old new program stop variant is wrote = subst (λ (s : Stop). Wrote r (stop_line program s) old new) (sym is) wrote

pub returns-in-NotText : goal.returns-in-NotText
returns-in-NotText g c =
    at _ _ _ c.args.program.now _ (NotText c.as_str-in-NotText.result.now) (c.in-NotText.is ∙ ap NotText (sym c.as_str-in-NotText.ensures)) c.say_file-in-NotText.ensures

pub returns-in-OutOfMemory : goal.returns-in-OutOfMemory
returns-in-OutOfMemory g c = at _ _ _ c.args.program.now _ _ c.in-OutOfMemory.is c.say_error.ensures
