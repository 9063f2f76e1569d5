-- What is joined is the tail of the link.
use Rattle.std.proofs.Common.{◌≡◌, ℕ, true, false, List, [], map, Ok, sym, ap, ◌∙◌}
use Rattle.std.specs.Prelude.{if◌then◌else◌, Result}
use Rattle.link_program.specs.wl_base.declared.fault.Fault.{Fault}
use Rattle.link_program.specs.made_symbols.declared.mode.Mode.{Mode}
use Rattle.link_program.specs.object_file.declared.object.Object.{Object}
use Rattle.link_program.specs.round_rules.Rounds.{Candidate}
use Rattle.link_program.specs.name_rules.Entries.{InputSymbol}
use Rattle.link_program.specs.link_rules.Program as rules
use Rattle.link_program.specs.link_rules.Output.{layout}
use Rattle.link_program.specs.declared.home.Home.{Home}
use Rattle.link_program.specs.Loaded.{IsLoaded}
use Rattle.debug_rules.specs.Joined.{joined}
use Rattle.debug_out.specs.declared.places.DebugPlaces.{DebugPlaces}
use Rattle.debug_out.specs.Inputs.{inputs_of, places_of}
use Rattle.link_debug.specs.Places.{link_places, link_inputs}
use Rattle.debug_tails.specs.Tails.{live_tail, laid_tail}
use Rattle.debug_places.specs.Spans.{span_seen}
use Rattle.debug_places.proofs.Homes.{inputs_told}

module _ (p : rules.Program) (parts : List rules.Part) (es : List InputSymbol) (all : List Candidate) (len : ℕ) (mode : Mode) where
  nothing : Result (List ℕ) Fault
  nothing = Ok []

  -- the words don't ask for debug sections
  pub not_kept : p.plan.keep_debug ≡ false → laid_tail mode p all es parts len ≡ Ok []
  unfolding laid_tail nothing
  not_kept is = ap (λ b. if b then live_tail mode p all parts es len else nothing) is

  pub joined_told : p.plan.keep_debug ≡ true → (starts : List Home) → IsLoaded p.files all p.objects starts → (files : List (List ℕ)) → files ≡ p.files → (objects : List Object) → objects ≡ p.objects
      → (x : DebugPlaces) → places_of x ≡ link_places mode p parts es (layout mode p parts es) → x.inputs ≡ map (λ (o : Object). span_seen starts o.input) p.objects → x.length ≡ len
      → joined x.length (inputs_of files objects x.inputs) (places_of x) ≡ laid_tail mode p all es parts len
  unfolding laid_tail nothing
  joined_told kept starts loaded files same_files objects same_objects x places inputs long =
      let told : inputs_of files objects x.inputs ≡ link_inputs p.files all p.objects = (λ i. inputs_of (same_files i) (same_objects i) (inputs i)) ∙ inputs_told p.files all p.objects starts loaded in
      (λ i. joined (long i) (told i) (places i))
      ∙ ap (λ b. if b then live_tail mode p all parts es len else nothing) (sym kept)
