-- What three links load: of all inputs, of a run of neighbours alone, and of all inputs with one object in the place of the run.
use Rattle.std.specs.Prelude.{◌≡◌, ℕ, ◌+◌, ◌<◌, ◌^◌, false, List, [], ◌∷◌, ◌++◌, length, map, filter_map, None, Ok, slice_index_or}
use Rattle.std.specs.List.{AllZip}
use Rattle.list_places.specs.Has.{Has}
use Rattle.name_rules.specs.object_file.declared.object.Object.{Object}
use Rattle.name_rules.specs.object_file.ObjectOf.{object_of}
use Rattle.made_symbols.specs.declared.mode.Mode.TheVariants.{Plain}
use Rattle.round_rules.specs.Rounds.{Candidate, object_in, load}
use Rattle.link_plan.specs.declared.plan.Plan.{Plan}
use Rattle.link_rules.specs.Candidates.{is_library, total_len, candidates_of}
use Rattle.link_rules.specs.LinkOf.{asked_names, the_readers}
use Rattle.partial_rules.specs.PartialLink.{bare, first_not_plain}
use Rattle.partial_laws.specs.Inputs.{Run, as_input, alone, later}
use Rattle.partial_laws.specs.PartialThenLink.{Cut, run_plan, later_plan}
use Rattle.partial_loading_laws.specs.Alike.{AlikeCandidate}
use Rattle.partial_loading_laws.specs.Names.{StandsForNames}
use Rattle.partial_loading_laws.specs.Numbered.{AreNumbered, IsWholeFile}

-- The candidates of all inputs and of the run alone, and what is loaded of them.
pub record Loading (plan : Plan) (files : List (List ℕ)) (c : Cut plan files) : Type 0 where
  pub all : List Candidate
  pub objects : List Object
  pub all_alone : List Candidate
  pub objects_alone : List Object
  pub no_case : plan.make_case ≡ None
  pub candidates : candidates_of the_readers plan files ≡ Ok all
  pub loaded : load Plain (asked_names plan) all ≡ Ok objects
  -- the run's inputs are plain objects
  pub plain : first_not_plain 0 c.run c.middle ≡ None
  pub candidates_alone : candidates_of the_readers (bare (run_plan plan files c)) c.middle ≡ Ok all_alone
  pub loaded_alone : load Plain [] all_alone ≡ Ok objects_alone

-- Objects are read of some of these candidates.
abbrev pub AreReadOf : List Candidate → List Object → Type 0
AreReadOf cs objects = (o : Object) → Has objects o → (c : Candidate) × Has cs c × (c.object ≡ Ok o)

module _ (plan : Plan) (files : List (List ℕ)) (c : Cut plan files) (l : Loading plan files c) where
  -- What another link loads in which one object stands for the run.
  pub record LoadsAfter (run : Run) (front back : List Candidate) (before behind : List Object) (r : List ℕ) (joined : Object) : Type 0 where
    pub all : List Candidate
    pub front_after : List Candidate
    pub one : Candidate
    pub back_after : List Candidate
    pub all_are : all ≡ front_after ++ (one ∷ back_after)
    pub candidates : candidates_of the_readers (later_plan plan files c) (c.front ++ r ∷ c.back) ≡ Ok all
    -- the inputs before and behind the run are the same candidates, loaded where they were
    pub front_alike : AllZip (AlikeCandidate (λ n. n) files (c.front ++ r ∷ c.back)) front front_after
    pub back_alike : AllZip (AlikeCandidate (later run) files (c.front ++ r ∷ c.back)) back back_after
    pub loaded : load Plain (asked_names plan) all ≡ Ok (before ++ (joined ∷ map (λ (o : Object). as_input (later run o.input) o) behind))
    pub numbered : AreNumbered 0 all
    -- the one object is that file
    pub one_input : one.input ≡ run.first + 1
    pub one_start : one.start ≡ 0
    pub one_file : slice_index_or (c.front ++ r ∷ c.back) one.file [] ≡ r

  -- All inputs in three parts.
  pub record Loads : Type 0 where
    pub front : List Candidate
    pub run : List Candidate
    pub back : List Candidate
    pub before : List Object
    pub behind : List Object
    pub all_are : l.all ≡ front ++ (run ++ back)
    pub some : 0 < length run
    pub objects_are : l.objects ≡ before ++ (filter_map (λ (x : Candidate). object_in x.object) run ++ behind)
    -- each is read of some bytes
    pub read_all : (x : Candidate) → Has l.all x → (bytes : List ℕ) × (x.object ≡ object_of x.input bytes)
    pub read_before : AreReadOf front before
    pub read_behind : AreReadOf back behind
    pub numbered : AreNumbered 0 l.all
    pub numbered_alone : AreNumbered 0 l.all_alone
    -- the run's inputs are whole files, all of which are loaded
    pub files_alone : (x : Candidate) → Has l.all_alone x → IsWholeFile c.middle 0 0 x
    pub run_alike : AllZip (AlikeCandidate (alone (record { first = length front; many = length run })) files c.middle) run l.all_alone
    pub objects_alone : l.objects_alone ≡ map (λ (o : Object). as_input (alone (record { first = length front; many = length run }) o.input) o) (filter_map (λ (x : Candidate). object_in x.object) run)
    pub after : (r : List ℕ) (joined : Object) → object_of (length front + 1) r ≡ Ok joined → is_library r ≡ false → total_len (c.front ++ r ∷ c.back) < 2 ^ 32
        → StandsForNames (filter_map (λ (x : Candidate). object_in x.object) run) joined
        → LoadsAfter (record { first = length front; many = length run }) front back before behind r joined

-- So where one object defines and asks for the names that the run does, the later link loads it in the run's place, and all else that was loaded.
abbrev pub RunsAreLoaded : Type 0
RunsAreLoaded = (plan : Plan) (files : List (List ℕ)) (c : Cut plan files) (l : Loading plan files c) → Loads plan files c l
