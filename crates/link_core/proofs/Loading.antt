-- What is known of the loaded objects once their names are found.
use Rattle.std.proofs.Common.{◌≡◌, ◌∙◌, ℕ, List, sym, ap, subst, Ok, Err}
use Rattle.link_output.specs.link_program.object_file.declared.object.Object.{Object}
use Rattle.link_output.specs.link_program.made_symbols.declared.mode.Mode.{Mode}
use Rattle.link_output.specs.link_program.link_names.Numbered.{AreNumbers}
use Rattle.link_output.specs.link_program.name_entries.declared.lookups.Entries.{Entries}
use Rattle.link_output.specs.link_program.name_entries.Fits.{IsTable, Fits}
use Rattle.link_output.specs.link_program.name_entries.View.{InputsRise}
use Rattle.link_output.specs.link_program.link_plan.declared.plan.Plan.{Plan}
use Rattle.link_output.specs.link_program.link_plan.Plan.{IsPlan}
use Rattle.link_output.specs.link_program.link_rules.ModeOf.{mode_of}
use Rattle.link_output.specs.link_program.link_rules.Program.{Program, program_of}
use Rattle.link_output.specs.link_program.link_rules.LinkOf.{link_program}
use Rattle.link_output.specs.link_program.declared.home.Home.{Home}
use Rattle.link_output.specs.link_program.declared.error.LinkError.{LinkError}
use Rattle.link_output.specs.link_program.declared.program.Program.{Program as Data}
use Rattle.link_output.specs.link_program.Loaded.{IsLoaded}
use Rattle.link_output.specs.link_program.Program.{IsProgramOf}
use Rattle.mismatch_rules.specs.Mismatches.{standing}
use Rattle.called_variants.specs.Called.{told_of}
use Rattle.program_build.specs.Found.{Finds, IsFound, found_of}
use Rattle.program_build.specs.declared.found.Found.{Found}
use Rattle.program_build.specs.Standing.{LoadedPartsStand}
use Rattle.link_core.specs.Answers.{Answers}
use Rattle.link_core.specs.Linking.{IsLinking}
use Rattle.link_core.specs.Loading.{Loading, program_in}
use Rattle.link_core.proofs.Answering.{find_failed}

-- The plan and the objects of a call are those of what is loaded.
module _ (l : Loading) (plan : Plan) (loaded objects : List Object) (same : l.origin.plan ≡ plan) (are : l.objects ≡ loaded) (shown : objects ≡ loaded) where
  abbrev found_program : Program
  found_program = program_of (mode_of plan) plan l.origin.files l.origin.all objects

  pub program_is : found_program ≡ program_in l
  program_is =
      ap (λ plan. program_of (mode_of plan) plan l.origin.files l.origin.all objects) (sym same)
      ∙ ap (λ (os : List Object). program_of (mode_of l.origin.plan) l.origin.plan l.origin.files l.origin.all os) (shown ∙ sym are)

  pub find_stops : (mode : Mode) (e x : LinkError) → x ≡ e → Finds mode (Err e) plan objects found_program → Answers (Err x) (link_program (mode_of (program_in l).plan) (program_in l))
  find_stops mode e x is finds =
      subst (λ p. Answers (Err x) (link_program (mode_of p.plan) p)) program_is (find_failed (mode_of found_program.plan) mode plan objects found_program e x is finds)

  pub due_is : told_of (standing found_program) ≡ told_of (standing (program_in l))
  due_is = ap (λ p. told_of (standing p)) program_is

  pub all_found : found_of found_program ≡ Ok found_program → found_of (program_in l) ≡ Ok (program_in l)
  all_found found = subst (λ p. found_of p ≡ Ok p) program_is found

  -- they are those of the program, with their homes
  pub loaded_there : (homes others : List Home) → others ≡ homes → IsLoaded l.origin.files l.origin.all loaded homes → IsLoaded (program_in l).files l.origin.all (program_in l).objects others
  unfolding program_of
  loaded_there homes others is given =
      subst (λ (os : List Object). IsLoaded l.origin.files l.origin.all os others) (sym are) (subst (IsLoaded l.origin.files l.origin.all loaded) (sym is) given)

  pub linking_is : (files : List (List ℕ)) (homes : List Home) (d : Data) (view : Entries) → IsPlan plan → l.origin.files ≡ files
      → IsLoaded l.origin.files l.origin.all loaded homes → LoadedPartsStand → IsProgramOf (mode_of plan) d found_program → Fits (mode_of plan) view
      → view.objects.now ≡ d.objects.now → view.names.now ≡ d.names.now → IsLinking (program_in l) d view files
  unfolding program_of
  linking_is files homes d view planned held given stand is fits seen named =
      subst (λ p. IsLinking p d view files) program_is (record {
        program = is;
        stand = stand (mode_of plan) plan l.origin.files l.origin.all objects homes (subst (λ (os : List Object). IsLoaded l.origin.files l.origin.all os homes) (sym shown) given);
        plan = planned;
        fits = fits;
        objects = seen;
        names = named;
        files = sym held;
      })

  -- What was found of the loaded objects is linked: what is known of each value that was made of it, with the values as variables.
  pub found_is_linked : (files : List (List ℕ)) (homes : List Home) (f : Found) (d : Data) (view : Entries) → IsPlan plan → l.origin.files ≡ files
      → IsLoaded l.origin.files l.origin.all loaded homes → LoadedPartsStand → IsFound (mode_of plan) plan objects f found_program
      → ((p : Program) → IsFound (mode_of plan) plan objects f p → IsProgramOf (mode_of plan) d p)
      → ((mode : Mode) → AreNumbers mode objects f.names → InputsRise 0 objects → IsTable objects f.names f.entries → Fits mode view)
      → view.objects.now ≡ objects → d.objects.now ≡ objects → view.names.now ≡ f.names → d.names.now ≡ f.names → IsLinking (program_in l) d view files
  unfolding program_of
  found_is_linked files homes f d view planned held given stand found is fits seen asked named called =
      linking_is files homes d view planned held given stand (is found_program found) (fits (mode_of plan) found.numbers found.rise found.looked_up) (seen ∙ sym asked) (named ∙ sym called)
