-- The programs of the whole link and of the later one, in which one object stands for a run: what they have of names.
use Rattle.std.specs.Prelude.{◌≡◌, ℕ, true, false, List, map, None}
use Rattle.std.specs.List.{list_any}
use Rattle.made_symbols.specs.declared.mode.Mode.TheVariants.{Plain}
use Rattle.round_rules.specs.Rounds.{Candidate}
use Rattle.name_rules.specs.object_file.declared.object.Object.{Object}
use Rattle.name_rules.specs.Meanings.{winner}
use Rattle.name_rules.specs.Cases.{clash, duplicate}
use Rattle.link_plan.specs.declared.plan.Plan.{Plan}
use Rattle.link_rules.specs.Program.{Program, Ref, program_of}
use Rattle.link_rules.specs.Keys.{imports_in_order, calls_stub, stub_names}
use Rattle.partial_laws.specs.Inputs.{Run, Objects, whole_objects, later_objects}
use Rattle.partial_laws.specs.Standing.{joining}
use Rattle.partial_laws.specs.Names.{IsOf, StandsForRun}

-- The program of loaded objects is of them, whatever the plan and the files.
abbrev pub ProgramsAreOf : Type 0
ProgramsAreOf = (plan : Plan) (files : List (List ℕ)) (all : List Candidate) (objects : List Object) → IsOf (program_of Plain plan files all objects) objects

-- The winners of the second are the moved ones, and it has the same imports in one order; no fault of names is new; and where the same null functions are
-- called, they have one order.
pub record AgreeOnNames (run : Run) (os : Objects) (alone p q : Program) : Type 0 where
  pub winners : q.winners ≡ map (joining run os alone).move p.winners
  pub imports : imports_in_order q ≡ imports_in_order p
  pub no_clash : clash q.entries ≡ None
  pub once : duplicate p.entries ≡ None → duplicate q.entries ≡ None
  pub stubs : (refs refs_too : List Ref) → ((name : List ℕ) → list_any (calls_stub name) refs_too ≡ list_any (calls_stub name) refs)
      → ((name : List ℕ) → list_any (calls_stub name) refs ≡ true → winner p.entries name ≡ None) → stub_names q refs_too ≡ stub_names p refs

abbrev pub ProgramsAgree : Type 0
ProgramsAgree =
    (run : Run) (os : Objects) (alone : Program) → StandsForRun run os alone
    → (plan later_plan : Plan) (files later_files : List (List ℕ)) (all later_all : List Candidate)
    → plan.loose_calls ≡ false → later_plan.loose_calls ≡ false → later_plan.allow_undefined ≡ plan.allow_undefined
    → AgreeOnNames run os alone (program_of Plain plan files all (whole_objects os)) (program_of Plain later_plan later_files later_all (later_objects run os))
