-- What was loaded from files was read, and its inputs rise.
use Rattle.std.proofs.Common.{◌≡◌, ℕ, ◌-◌, List, Some}
use Rattle.std.specs.Prelude.{slice_get}
use Rattle.list_places.proofs.Lists.{all_has}
use Rattle.object_file.specs.declared.object.Object.{Object}
use Rattle.round_rules.specs.Rounds.{Candidate}
use Rattle.program_build.specs.link_program.declared.home.Home.{Home}
use Rattle.program_build.specs.link_program.Loaded.{IsLoaded, IsReadFrom}
use Rattle.link_facts.specs.Loaded.{AreLoaded}

pub are_loaded : (files : List (List ℕ)) (all : List Candidate) (objects : List Object) (homes : List Home) → IsLoaded files all objects homes → AreLoaded objects
are_loaded files all objects homes loaded = record {
  rise = loaded.rise;
  each = λ o h. let each = all_has (λ (o : Object). (c : Candidate) × (slice_get all (o.input - 1) ≡ Some c) × IsReadFrom files c o) objects loaded.each o h in (each.0.len, each.2.sound);
}
