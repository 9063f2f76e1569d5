-- What items say together: each field of the plan is a filter of the items.
use Rattle.std.specs.Prelude.{ℕ, Bool, true, false, List, [], ◌∷◌, ◌++◌, codes, if◌then◌else◌, fold, unwrap_or, is_some, not, ◌&&◌, ◌||◌, Option, Some, None}
use Rattle.std.specs.List.{list_any, filter_map}
use Rattle.std.specs.Option.{option_or}
use Rattle.wl_base.specs.Choice.{given}
use Rattle.link_plan.specs.declared.plan.InputWord.{InputWord}
use Rattle.link_words.specs.declared.kind.Kind.{Kind}
use Rattle.link_words.specs.declared.kind.Kind.TheVariants.{Input, Entry, NoEntry, Export, ExportTable, WholeArchive, NoWholeArchive, StartLib, EndLib, MakeCase, Shared}
use Rattle.link_words.specs.declared.range.Range.{Range}
use Rattle.link_words.specs.declared.range.Range.TheVariants.{Cases}
use Rattle.link_words.specs.Kinds.{same}
use Rattle.link_words.specs.Numbers.{number_in}
use Rattle.link_words.specs.Items.{Said}

-- what an item of the kind says
abbrev pub saying : {A : Type 0} → Kind → (Said → A) → Said → Option A
saying kind says said = given (same said.kind kind) (says said)

-- whether there is an item of the kind
abbrev pub has : Kind → List Said → Bool
has kind items = list_any (λ said. same said.kind kind) items

-- what the last item that says something says, or what stands where none does
abbrev pub latest : {A : Type 0} → (Said → Option A) → A → List Said → A
latest says start items = fold (λ now said. unwrap_or (says said) now) start items

-- the last of two opposite kinds decides
abbrev pub switch : Kind → Kind → Said → Option Bool
switch on off said = option_or (saying on (λ _. true) said) (saying off (λ _. false) said)

-- the last value of an option
abbrev pub text : Kind → List Said → Option (List ℕ)
text kind items = latest (saying kind (λ said. Some said.value)) None items

-- the last number of an option
abbrev pub numeral : Kind → Range → List Said → Option ℕ
numeral kind range items = latest (saying kind (λ said. number_in range said.value)) None items

-- all values of an option
abbrev pub texts : Kind → List Said → List (List ℕ)
texts kind items = filter_map (saying kind (λ said. said.value)) items

-- how many objects are to be generated, where that is asked for
abbrev pub case : List Said → Option ℕ
case items = numeral MakeCase Cases items

-- the place of the group that is open after an item
abbrev pub group : Said → Option (Option ℕ)
group said = option_or (saying StartLib (λ s. Some s.at) said) (saying EndLib (λ _. None) said)

abbrev pub open_group : List Said → Option ℕ
open_group items = latest group None items

-- an input with the modes that stand before it
abbrev pub inputs_from : Bool → Bool → List Said → List InputWord
inputs_from lazy whole [] = []
inputs_from lazy whole (said ∷ items) =
    if same said.kind Input then record { place = said.at; lazy = lazy; whole = whole } ∷ inputs_from lazy whole items
    else inputs_from (unwrap_or (switch StartLib EndLib said) lazy) (unwrap_or (switch WholeArchive NoWholeArchive said) whole) items

abbrev pub inputs : List Said → List InputWord
inputs items = inputs_from false false items

-- the entry: the later of `--entry` and `--no-entry`, else the usual one
abbrev pub entry : Option (List ℕ) → List Said → Option (List ℕ)
entry usual items = latest (λ said. option_or (saying Entry (λ s. Some s.value) said) (saying NoEntry (λ _. None) said)) usual items

-- a generated case and a shared output are as if `--no-entry` stood before the first word
abbrev pub usual_entry : List Said → Option (List ℕ)
usual_entry items = if is_some (case items) || has Shared items then None else Some (codes "_start")

-- the name that an item exports
abbrev pub exported : Said → Option (List ℕ)
exported said = option_or (saying Export (λ s. s.value) said) (saying ExportTable (λ _. codes "__indirect_function_table") said)

abbrev pub exports : List Said → List (List ℕ)
exports items = filter_map exported items

-- a generated case is as if `--export=f0` stood before the first word
abbrev pub all_exports : List Said → List (List ℕ)
all_exports items = (if is_some (case items) then codes "f0" ∷ [] else []) ++ exports items
