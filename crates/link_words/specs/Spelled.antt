-- How items are spelled by words, and words are cut into items: each word is of exactly one item.
use Rattle.std.specs.Prelude.{◌≡◌, ◌⊎◌, ℕ, ◌+◌, Bool, true, false, ◌||◌, List, [], ◌∷◌, ◌++◌, length, codes, IsSome, Option, Some, None}
use Rattle.wl_base.specs.declared.usage.Usage.{Usage}
use Rattle.wl_base.specs.declared.usage.Usage.TheVariants.{UnknownOption, MissingValue, BadNumber, BadThreads, OpenGroup, CaseAndInput, NoInput, NoOutput, PartialClash}
use Rattle.link_words.specs.declared.kind.Kind.TheVariants as kinds
use Rattle.link_words.specs.declared.options.Form.{Form}
use Rattle.link_words.specs.declared.options.Form.TheVariants.{Text, Machine, Number, StackSize}
use Rattle.link_words.specs.declared.options.Takes.{Takes}
use Rattle.link_words.specs.declared.options.Takes.TheVariants as takes
use Rattle.link_words.specs.declared.range.Range.TheVariants.{Stack}
use Rattle.link_words.specs.Kinds.{same}
use Rattle.link_words.specs.Numbers.{number_in}
use Rattle.link_words.specs.Options.{options, row_of}
use Rattle.link_words.specs.Items.{Said}
use Rattle.link_words.specs.Cut.{begins_with_dash}
use Rattle.link_words.specs.Causes.{HasCause}

-- a text has the form that an option asks for, and is its value; behind `stack-size=` the number alone is
abbrev pub HasForm : Form → List ℕ → List ℕ → Type 0
HasForm Text text value = value ≡ text
HasForm Machine text value = (value ≡ text) × (text ≡ codes "wasm32")
HasForm (Number range) text value = (value ≡ text) × IsSome (number_in range text)
HasForm StackSize text value = (text ≡ codes "stack-size" ++ 61 ∷ value) × IsSome (number_in Stack value)

-- an option and its value in its words: `-x v`, or `--x v` or `--x=v`
abbrev pub SpellsValue : Takes → List ℕ → List ℕ → List (List ℕ) → Type 0
SpellsValue takes.Nothing name value own = (value ≡ []) × (own ≡ name ∷ [])
SpellsValue (takes.Next form) name value own = (text : List ℕ) × HasForm form text value × (own ≡ name ∷ text ∷ [])
SpellsValue (takes.Long form) name value own = (text : List ℕ) × HasForm form text value × ((own ≡ name ∷ text ∷ []) ⊎ (own ≡ (name ++ 61 ∷ text) ∷ []))

pub record SpellsOption (said : Said) (own : List (List ℕ)) : Type 0 where
  pub name : List ℕ
  pub takes : Takes
  pub is_option : row_of options name ≡ Some (record { kind = said.kind; takes = takes })
  pub spelled : SpellsValue takes name said.value own

-- a word that doesn't begin with `-`, and behind `--` any word
abbrev pub SpellsInput : Bool → Said → List (List ℕ) → Type 0
SpellsInput false said own = (said.kind ≡ kinds.Input) × (own ≡ said.value ∷ []) × (begins_with_dash said.value ≡ false)
SpellsInput true said own = (said.kind ≡ kinds.Input) × (own ≡ said.value ∷ [])

abbrev pub SpellsDashes : Said → List (List ℕ) → Type 0
SpellsDashes said own = (said.kind ≡ kinds.OnlyInputs) × (said.value ≡ []) × (own ≡ codes "--" ∷ [])

-- an item in its own words; behind `--` there are inputs alone
abbrev pub Spells : Bool → Said → List (List ℕ) → Type 0
Spells false said own = SpellsInput false said own ⊎ (SpellsDashes said own ⊎ SpellsOption said own)
Spells true said own = SpellsInput true said own

-- The words from a place on are those of the items, one behind the other.
abbrev pub Cuts : Bool → ℕ → List Said → List (List ℕ) → Type 0
Cuts only at [] words = words ≡ []
Cuts only at (said ∷ items) words = (own : List (List ℕ)) × (rest : List (List ℕ)) × (words ≡ own ++ rest) × (said.at ≡ at) × Spells only said own
    × Cuts (only || same said.kind kinds.OnlyInputs) (at + length own) items rest

-- the place that a fault names
abbrev pub place_of : Usage → Option ℕ
place_of (UnknownOption at) = Some at
place_of (MissingValue at) = Some at
place_of (BadNumber at) = Some at
place_of (BadThreads at) = Some at
place_of (OpenGroup at) = Some at
place_of CaseAndInput = None
place_of NoInput = None
place_of NoOutput = None
place_of PartialClash = None

-- The words from a place on are those of the items, and behind them the first one at fault: no item begins there, and the fault
-- names its place and has its cause there.
abbrev pub Stops : Bool → ℕ → List Said → Usage → List (List ℕ) → Type 0
Stops only at [] fault words = (only ≡ false) × (place_of fault ≡ Some at) × HasCause fault words
    × ((said : Said) (own rest : List (List ℕ)) → words ≡ own ++ rest → said.at ≡ at → Spells false said own → ⊥)
Stops only at (said ∷ items) fault words = (own : List (List ℕ)) × (rest : List (List ℕ)) × (words ≡ own ++ rest) × (said.at ≡ at) × Spells only said own
    × Stops (only || same said.kind kinds.OnlyInputs) (at + length own) items fault rest

-- The words are those of the items, up to the first one at fault, if any is.
abbrev pub AreCut : List Said → Option Usage → List (List ℕ) → Type 0
AreCut items None words = Cuts false 0 items words
AreCut items (Some fault) words = Stops false 0 items fault words
