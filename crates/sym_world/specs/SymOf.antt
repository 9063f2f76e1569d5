-- The objects of a link as the machine takes them: the first fault that applies up to the layout, or the objects. The steps are those of the
-- link, in their order.
use Rattle.std.specs.Prelude.{◌≡◌, ℕ, List, Result, Ok, Err}
use Rattle.link_program.specs.wl_base.Choice.{unless, ◌>>=◌}
use Rattle.link_program.specs.wl_base.declared.fault.Fault.{Fault}
use Rattle.link_program.specs.link_plan.declared.plan.Plan.{Plan}
use Rattle.link_program.specs.round_rules.Rounds.{load}
use Rattle.link_program.specs.name_rules.Entries.{InputSymbol}
use Rattle.link_program.specs.name_rules.Cases.{clash_by, duplicate}
use Rattle.link_program.specs.made_symbols.declared.mode.Mode.TheVariants.{Plain}
use Rattle.link_program.specs.link_rules.Candidates.{candidates_of}
use Rattle.link_program.specs.link_rules.Program.{Program, Part, program_of}
use Rattle.link_program.specs.link_rules.Marks.{exported, repeated_export, live, pic_fault, unresolved, uncalled}
use Rattle.link_program.specs.link_rules.Output.{layout}
use Rattle.link_program.specs.link_rules.LinkOf.{asked_names, the_readers, too_many_names, memory_fault, table_fault}
use Rattle.link_program.specs.declared.error.LinkError.{LinkError}
use Rattle.link_program.specs.Answers.{Fails}
use Rattle.run_machines.specs.declared.sym.SymWorld.{SymWorld}
use Rattle.run_laws.specs.Objects.{objects_of}

unfoldable pub sym_laid_out : Program → List InputSymbol → List Part → Result SymWorld Fault
sym_laid_out p exports parts = do
  parts ← unless (memory_fault Plain p parts) parts
  l ← unless (table_fault (layout Plain p parts exports)) (layout Plain p parts exports)
  Ok (objects_of p exports)

abbrev pub sym_resolved : Program → List InputSymbol → List Part → Result SymWorld Fault
sym_resolved p exports parts = do
  parts ← unless (pic_fault Plain parts) parts
  parts ← unless (unresolved p parts) parts
  parts ← unless (uncalled Plain p parts) parts
  sym_laid_out p exports parts

unfoldable pub sym_marked : Program → List InputSymbol → Result SymWorld Fault
sym_marked p exports = sym_resolved p exports (live p exports)

abbrev pub sym_exporting : Program → List InputSymbol → Result SymWorld Fault
sym_exporting p exports = do
  exports ← unless (repeated_export Plain p exports) exports
  sym_marked p exports

-- The objects of a program.
unfoldable pub sym_program : Program → Result SymWorld Fault
sym_program p = do
  p ← unless (too_many_names p) p
  p ← unless (clash_by p.plan.loose_calls p.entries) p
  p ← unless (duplicate p.entries) p
  sym_exporting p (exported Plain p)

-- The objects of files by a plan that asks for a plain output.
unfoldable pub sym_of : Plan → List (List ℕ) → Result SymWorld Fault
sym_of plan files = do
  all ← candidates_of the_readers plan files
  objects ← load Plain (asked_names plan) all
  sym_program (program_of Plain plan files all objects)

-- The answer is the one that the definition gives: the same objects, or the same fault. Want of memory alone is free.
abbrev pub Told : Result SymWorld LinkError → Result SymWorld Fault → Type 0
Told (Ok w) said = said ≡ Ok w
Told (Err e) said = Fails e said
