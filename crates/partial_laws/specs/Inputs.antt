-- The objects of three links: of all inputs, of a run of neighbours alone, and of all inputs with one object in the place of the run.
use Rattle.std.specs.Prelude.{◌≡◌, ℕ, ◌+◌, ◌-◌, ◌<◌, ◌≤◌, List, ◌∷◌, ◌++◌, map, All}
use Rattle.std.specs.List.{list_any}
use Rattle.name_rules.specs.object_file.declared.object.Object.{Object}
use Rattle.name_rules.specs.Entries.{has_group}

-- How many candidates stand before the run, and how many in it. They count from 1.
pub record Run : Type 0 where
  pub first : ℕ
  pub many : ℕ

abbrev pub as_input : ℕ → Object → Object
as_input input o = record o { input = input }

-- The loaded objects before the run, of it, and behind it, and the one that stands for the run.
pub record Objects : Type 0 where
  pub before : List Object
  pub middle : List Object
  pub behind : List Object
  pub joined : Object

abbrev pub whole_objects : Objects → List Object
whole_objects os = os.before ++ (os.middle ++ os.behind)

module _ (run : Run) where
  -- The number of an input of the run in the run alone, and of one behind the run in the later link.
  abbrev pub alone : ℕ → ℕ
  alone input = input - run.first

  abbrev pub later : ℕ → ℕ
  later input = (input + 1) - run.many

  abbrev pub run_objects : Objects → List Object
  run_objects os = map (λ (o : Object). as_input (alone o.input) o) os.middle

  abbrev pub later_objects : Objects → List Object
  later_objects os = os.before ++ (os.joined ∷ map (λ (o : Object). as_input (later o.input) o) os.behind)

  -- They are cut at the run, and the one object has the run's groups.
  pub record AreCut (os : Objects) : Type 0 where
    pub some : 0 < run.many
    pub before : All (λ (o : Object). o.input ≤ run.first) os.before
    pub from : All (λ (o : Object). run.first < o.input) os.middle
    pub to : All (λ (o : Object). o.input ≤ run.first + run.many) os.middle
    pub behind : All (λ (o : Object). run.first + run.many < o.input) os.behind
    pub place : os.joined.input ≡ run.first + 1
    pub groups : (name : List ℕ) → has_group name os.joined ≡ list_any (has_group name) os.middle
