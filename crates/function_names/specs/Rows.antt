-- Names of worked links.
use Rattle.std.specs.Prelude.{◌≡◌, ℕ, List, [], ◌∷◌, ◌++◌, codes, refl}
use Rattle.name_rules.specs.object_file.declared.object.Object.{Object}
use Rattle.made_symbols.specs.declared.mode.Mode.TheVariants.{Plain}
use Rattle.name_rules.specs.Entries.{InputSymbol, entries}
use Rattle.name_rules.specs.Meanings.{resolve}
use Rattle.live_mark.specs.Live.{reached}
use Rattle.memory_layout.specs.Memory.{places}
use Rattle.link_plan.specs.declared.plan.Plan.{Plan}
use Rattle.link_rules.specs.Program.{Program, winners_of, parts_of, program_of, init_calls}
use Rattle.link_rules.specs.Marks.{exported, live}
use Rattle.link_rules.specs.Keys.{imports_in_order, functions, slots, globals, types}
use Rattle.link_rules.specs.Values.{shapes}
use Rattle.link_rules.specs.Output.{layout}
use Rattle.link_rules.specs.Examples.{exporting, plan_of, empty_object, plain_type, function_symbol, function_import, body_at, span, names}
use Rattle.link_rules.specs.NameRows.{calling, importing}
use Rattle.name_section.specs.Names.{Named}
use Rattle.function_names.specs.Labels.{stub_label}
use Rattle.function_names.specs.Names.{function_names}

-- the names in the plain link of these objects
abbrev of_program : Program → List InputSymbol → List Named
of_program p exports = function_names Plain p (layout Plain p (live p exports) exports)

abbrev names_in : Plan → List Object → List Named
names_in plan objects = of_program (program_of Plain plan [] [] objects) (exported Plain (program_of Plain plan [] [] objects))

-- f calls g
two_worked : names_in (exporting 1 (codes "f" ∷ [])) (calling ∷ []) ≡ record { index = 0; name = codes "f" } ∷ record { index = 1; name = codes "g" } ∷ []
unfolding function_names program_of entries resolve winners_of parts_of init_calls exported live reached layout places shapes functions slots globals types imports_in_order
two_worked = refl

-- w is WEAK and undefined, and f calls it: the stub stands before f.
abbrev weakly : Object
weakly = record (empty_object 1) {
  types = plain_type ∷ [];
  imports = function_import (codes "env") (codes "w") 0 ∷ [];
  functions = body_at 0 (span 0 8) (names 0 2 1 ∷ []) ∷ [];
  symbols = function_symbol 0 (codes "f") 1 ∷ function_symbol 0x11 (codes "w") 0 ∷ [];
}

weak_worked : names_in (exporting 1 (codes "f" ∷ [])) (weakly ∷ []) ≡ record { index = 0; name = codes "undefined_weak:w" } ∷ record { index = 1; name = codes "f" } ∷ []
unfolding function_names stub_label program_of entries resolve winners_of parts_of init_calls exported live reached layout places shapes functions slots globals types imports_in_order
weak_worked = refl

-- Two objects name the import m.f, as p and as q: it has the name of the first.
import_worked : names_in (plan_of 2) (importing 1 (codes "a") (codes "p") ∷ importing 2 (codes "b") (codes "q") ∷ [])
    ≡ record { index = 0; name = codes "p" } ∷ record { index = 1; name = codes "a" } ∷ record { index = 2; name = codes "b" } ∷ []
unfolding function_names program_of entries resolve winners_of parts_of init_calls exported live reached layout places shapes functions slots globals types imports_in_order
import_worked = refl
