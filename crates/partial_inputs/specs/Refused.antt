-- What is refused of the inputs of a partial link before any is read, and what stands behind that.
use Rattle.std.specs.Prelude.{◌≡◌, ℕ, false, List, [], ◌∷◌, Option, Some, None, option_map, Result, Err}
use Rattle.link_program.specs.wl_base.Choice.{first_some, ◌>>=◌}
use Rattle.link_program.specs.wl_base.declared.fault.Fault.{Fault}
use Rattle.link_program.specs.wl_base.declared.fault.Fault.TheVariants.{NotPartial}
use Rattle.link_program.specs.made_symbols.declared.mode.Mode.TheVariants.{Plain}
use Rattle.link_program.specs.round_rules.Rounds.{load}
use Rattle.link_program.specs.link_rules.Candidates.{too_much_input, candidates_of}
use Rattle.link_program.specs.link_rules.ModeOf.{IsPlain}
use Rattle.link_program.specs.link_rules.Program.{program_of}
use Rattle.link_program.specs.link_rules.LinkOf.{asked_names, the_readers}
use Rattle.link_plan.specs.declared.plan.Plan.{Plan}
use Rattle.link_plan.specs.declared.plan.InputWord.{InputWord}
use Rattle.partial_rules.specs.PartialLink.{bare, first_not_plain, partial_program, partial_of}

-- Too much input, else the first input that isn't a plain object.
abbrev pub refused_inputs : List InputWord → List (List ℕ) → Option Fault
refused_inputs words files = first_some (too_much_input files ∷ option_map NotPartial (first_not_plain 0 words files) ∷ [])

-- The partial link of inputs that aren't refused so: they are loaded, and the object is made of their program.
abbrev pub joined : Plan → List (List ℕ) → Result (List ℕ) Fault
joined plan files = do
  all ← candidates_of the_readers plan files
  objects ← load Plain [] all
  partial_program (program_of Plain plan files all objects)

-- A plan asks for nothing but its inputs.
pub record IsBare (plan : Plan) : Type 0 where
  pub plain : IsPlain plan
  pub given : plan.make_case ≡ None
  pub strict : plan.loose_calls ≡ false
  pub asked : asked_names plan ≡ []

-- Inputs that are refused so are the first fault of a partial link; others are joined by the bare plan.
abbrev pub RefusedFirst : Type 0
RefusedFirst = (plan : Plan) (files : List (List ℕ)) (f : Fault) → refused_inputs plan.inputs files ≡ Some f → partial_of plan files ≡ Err f

abbrev pub ThenJoined : Type 0
ThenJoined = (plan : Plan) (files : List (List ℕ)) → refused_inputs plan.inputs files ≡ None → partial_of plan files ≡ joined (bare plan) files

abbrev pub BareIsBare : Type 0
BareIsBare = (plan : Plan) → IsBare (bare plan)
