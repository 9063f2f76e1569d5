-- What the bytes of a module and of a script come to.
use Rattle.std.specs.Prelude.{ℕ, List, Option, Some, None, Result, Ok, Err}
use Rattle.wasm_instr.specs.wasm_grammar.declared.fault.Stop.{Stop}
use Rattle.wasm_module.specs.declared.structure.Module.{Module}
use Rattle.wasm_module.specs.ModuleReading.{module_of}
use Rattle.run_rules.specs.declared.session.Session.{Session}
use Rattle.run_rules.specs.Modules.{module_trace}
use Rattle.run_modules.specs.Fits.{first_outside}
use Rattle.run_script.specs.declared.script.Script.{Script}
use Rattle.run_script.specs.Scripts.{script_of}
use Rattle.run_text.specs.Text.{trace_text}
use Rattle.wasm_exec.specs.Entries.{with_entries}
use Rattle.wasm_exec.specs.declared.status.RunFault.{RunFault}
use Rattle.wasm_exec.specs.declared.status.RunFault.TheVariants.{NotModule, BadScript, SegmentBounds}

-- the text of the trace, unless a segment lies outside
abbrev pub text_unless : Option ℕ → ℕ → Session → Module → Result (List ℕ) RunFault
text_unless (Some segment) steps s m = Err (SegmentBounds segment)
text_unless None steps s m = Ok (trace_text (module_trace s m steps))

-- What a session on a module comes to.
unfoldable pub text_of : ℕ → Session → Module → Result (List ℕ) RunFault
text_of steps s m = text_unless (first_outside s m) steps s m

-- what a module and a script that was read come to
abbrev pub with_script : ℕ → Module → Result Script ℕ → Result (List ℕ) RunFault
with_script steps m (Err line) = Err (BadScript line)
with_script steps m (Ok s) = text_of steps s.session (with_entries s.entries m)

-- what a module that was read and a script come to
abbrev pub with_module : ℕ → List ℕ → Result Module Stop → Result (List ℕ) RunFault
with_module steps script (Err stop) = Err NotModule
with_module steps script (Ok m) = with_script steps m (script_of script)

-- The text of the trace, with a bound on steps, or the first fault: the bytes spell no module, a line isn't of a script, a segment doesn't fit.
unfoldable pub answer_of : ℕ → List ℕ → List ℕ → Result (List ℕ) RunFault
answer_of steps bytes script = with_module steps script (module_of bytes)
