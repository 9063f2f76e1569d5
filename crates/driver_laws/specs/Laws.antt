-- What holds of the linker's own words that a translation gives.
use Rattle.std.specs.Prelude.{◌≡◌, ℕ, List, [], ◌∷◌, ◌++◌, map, Bool, false, not, ◌||◌, if◌then◌else◌, Option, Result, Ok, Err, IsOk}
use Rattle.link_plan.specs.declared.plan.Plan.{Plan}
use Rattle.link_plan.specs.declared.plan.FeatureWords.{FeatureWords}
use Rattle.link_words.specs.Words.{plan_of, word}
use Rattle.driver_table.specs.declared.meaning.Meaning.{Meaning}
use Rattle.driver_table.specs.declared.meaning.Meaning.TheVariants.{Input, Library}
use Rattle.driver_table.specs.Items.{Said}
use Rattle.driver_fields.specs.Fields.{is_partial, is_shared, keeps_debug}
use Rattle.driver_texts.specs.Paths.{plain}
use Rattle.driver_words.specs.Start.{started}
use Rattle.driver_words.specs.Inputs.{is_thin, members_in, library_path, folders_of, inside_after, whole_after}
use Rattle.driver_words.specs.Translated.{World, answered, translated}
use Rattle.driver_words.specs.declared.answer.Answer.TheVariants.{Links}

-- A file that is linked, and how: where it defines a name that is asked for alone, and where libraries are whole.
pub record File : Type 0 where
  pub lazy : Bool
  pub whole : Bool
  pub path : List ℕ

abbrev pub file : Bool → Bool → List ℕ → File
file lazy whole path = record { lazy = lazy; whole = whole; path = path }

-- The files of a path. The members of a thin library are asked for by name, but not where libraries are whole.
abbrev pub opened_files : World → Bool → Bool → List ℕ → List File
opened_files held inside whole path = if is_thin held path then map (file (inside || not whole) whole) (members_in path (held path)) else file inside whole path ∷ []

abbrev pub files_at : World → Bool → Bool → Result (List ℕ) (List ℕ) → List File
files_at held inside whole (Ok path) = opened_files held inside whole path
files_at held inside whole (Err refusal) = []

-- The files that an item names, inside of a group or outside, and where libraries are whole or aren't.
abbrev pub files_by : World → List (List ℕ) → Bool → Bool → Meaning → List ℕ → List File
files_by held folders inside whole Input value = files_at held inside whole (started held folders (plain value))
files_by held folders inside whole Library value = files_at held inside whole (library_path held folders value)
files_by held folders inside whole other value = []

abbrev pub files_from : World → List (List ℕ) → Bool → Bool → List Said → List File
files_from held folders inside whole [] = []
files_from held folders inside whole (said ∷ items) =
    files_by held folders inside whole said.meaning said.value ++ files_from held folders (inside_after inside said.meaning) (whole_after whole said.meaning) items

-- The files that items name, in their order.
abbrev pub named_files : World → List Said → List File
named_files held items = files_from held (folders_of items) false false items

-- The inputs of a plan, by the words that name them.
abbrev pub planned_files : List (List ℕ) → Plan → List File
planned_files own plan = map (λ i. file i.lazy i.whole (word own i.place)) plan.inputs

-- The linker's own words have a plan.
abbrev pub OwnWordsHavePlans : Type 0
OwnWordsHavePlans = (held : World) (words own warnings : List (List ℕ)) (fatal names : Bool) (features : Option FeatureWords) → translated held words ≡ Links own warnings fatal names features → IsOk (plan_of own)

-- It keeps debug sections unless a word strips them.
abbrev pub PlansKeepDebug : Type 0
PlansKeepDebug = (held : World) (items : List Said) (own warnings : List (List ℕ)) (fatal names : Bool) (features : Option FeatureWords) (plan : Plan) → answered held items ≡ Links own warnings fatal names features → plan_of own ≡ Ok plan
    → plan.keep_debug ≡ keeps_debug items

-- It asks for one object in place of a module exactly where a word does.
abbrev pub PlansArePartial : Type 0
PlansArePartial = (held : World) (items : List Said) (own warnings : List (List ℕ)) (fatal names : Bool) (features : Option FeatureWords) (plan : Plan) → answered held items ≡ Links own warnings fatal names features → plan_of own ≡ Ok plan
    → plan.partial ≡ is_partial items

-- It asks for a shared output exactly where a word does.
abbrev pub PlansAreShared : Type 0
PlansAreShared = (held : World) (items : List Said) (own warnings : List (List ℕ)) (fatal names : Bool) (features : Option FeatureWords) (plan : Plan) → answered held items ≡ Links own warnings fatal names features → plan_of own ≡ Ok plan
    → plan.shared ≡ is_shared items

-- Its inputs are the files that are named and found.
abbrev pub PlansNameTheFiles : Type 0
PlansNameTheFiles = (held : World) (items : List Said) (own warnings : List (List ℕ)) (fatal names : Bool) (features : Option FeatureWords) (plan : Plan) → answered held items ≡ Links own warnings fatal names features → plan_of own ≡ Ok plan
    → planned_files own plan ≡ named_files held items
