-- Why a word is at fault: a rule for each fault of one word, over the words from the faulty one on.
use Rattle.std.specs.Prelude.{◌≡◌, ◌≢◌, ◌⊎◌, ℕ, Bool, true, false, List, [], ◌∷◌, ◌++◌, codes, Some, None}
use Rattle.wl_base.specs.declared.usage.Usage.{Usage}
use Rattle.wl_base.specs.declared.usage.Usage.TheVariants.{UnknownOption, MissingValue, BadNumber, BadThreads, OpenGroup, CaseAndInput, NoInput, NoOutput, PartialClash}
use Rattle.link_words.specs.declared.kind.Kind.{Kind}
use Rattle.link_words.specs.declared.kind.Kind.TheVariants.{Threads}
use Rattle.link_words.specs.declared.options.Form.{Form}
use Rattle.link_words.specs.declared.options.Form.TheVariants.{Text, Machine, Number, StackSize}
use Rattle.link_words.specs.declared.options.Takes.{Takes}
use Rattle.link_words.specs.declared.options.Takes.TheVariants.{Nothing, Next, Long}
use Rattle.link_words.specs.declared.options.Rule.{Rule}
use Rattle.link_words.specs.declared.range.Range.{Range}
use Rattle.link_words.specs.declared.range.Range.TheVariants.{Stack}
use Rattle.link_words.specs.Numbers.{number_in}
use Rattle.link_words.specs.Options.{options, row_of}
use Rattle.link_words.specs.Cut.{begins_with_dash}

-- ---- values

-- whether an option takes a value, and whether it may stand in the option's own word
abbrev pub takes_value : Takes → Bool
takes_value Nothing = false
takes_value (Next form) = true
takes_value (Long form) = true

abbrev pub is_long : Takes → Bool
is_long Nothing = false
is_long (Next form) = false
is_long (Long form) = true

-- the text where a value of a form is due: the next word, or what stands behind `=` in the option's own
abbrev pub TakesText : Takes → Form → List ℕ → List ℕ → List (List ℕ) → List (List ℕ) → Type 0
TakesText Nothing form name text words rest = ⊥
TakesText (Next own) form name text words rest = (own ≡ form) × (words ≡ name ∷ text ∷ rest)
TakesText (Long own) form name text words rest = (own ≡ form) × ((words ≡ name ∷ text ∷ rest) ⊎ (words ≡ (name ++ 61 ∷ text) ∷ rest))

-- The words begin with an option, and with a text where its value is due.
pub record HasText (kind : Kind) (form : Form) (text : List ℕ) (words : List (List ℕ)) : Type 0 where
  pub name : List ℕ
  pub takes : Takes
  pub rest : List (List ℕ)
  pub is_option : row_of options name ≡ Some (record { kind = kind; takes = takes })
  pub stands : TakesText takes form name text words rest

-- ---- UnknownOption

-- a word that isn't in the table, nor is what stands before a `=` in it
pub record IsNoOption (word : List ℕ) : Type 0 where
  pub dash : begins_with_dash word ≡ true
  pub more : word ≢ codes "--"
  pub alone : row_of options word ≡ None
  pub named : (name text : List ℕ) → word ≡ name ++ 61 ∷ text → row_of options name ≡ None

-- a value behind `=` in the word of an option that takes none there
pub record IsInVain (word : List ℕ) : Type 0 where
  pub name : List ℕ
  pub text : List ℕ
  pub rule : Rule
  pub word_is : word ≡ name ++ 61 ∷ text
  pub is_option : row_of options name ≡ Some rule
  pub none : is_long rule.takes ≡ false

-- An option that isn't in the table, a value given to an option that takes none, or a value of `-m` or `-z` of another form.
pub data IsUnknown (words : List (List ℕ)) : Type 0 where
  no_option : (word : List ℕ) (rest : List (List ℕ)) → words ≡ word ∷ rest → IsNoOption word → IsUnknown words
  in_vain : (word : List ℕ) (rest : List (List ℕ)) → words ≡ word ∷ rest → IsInVain word → IsUnknown words
  other_machine : (kind : Kind) (text : List ℕ) → HasText kind Machine text words → text ≢ codes "wasm32" → IsUnknown words
  no_size : (kind : Kind) (text : List ℕ) → HasText kind StackSize text words → ((size : List ℕ) → text ≢ codes "stack-size" ++ 61 ∷ size) → IsUnknown words

-- ---- MissingValue

-- The words end where a value is due.
pub record IsMissing (words : List (List ℕ)) : Type 0 where
  pub name : List ℕ
  pub rule : Rule
  pub last : words ≡ name ∷ []
  pub is_option : row_of options name ≡ Some rule
  pub due : takes_value rule.takes ≡ true

-- ---- BadNumber and BadThreads

-- where a number of a range is due: a whole text, or what stands behind `stack-size=`
abbrev pub HasNumeral : Form → Range → List ℕ → List ℕ → Type 0
HasNumeral Text range text numeral = ⊥
HasNumeral Machine range text numeral = ⊥
HasNumeral (Number own) range text numeral = (own ≡ range) × (text ≡ numeral)
HasNumeral StackSize range text numeral = (range ≡ Stack) × (text ≡ codes "stack-size" ++ 61 ∷ numeral)

-- The value isn't a number of the option's range.
pub record IsNoNumber (kind : Kind) (words : List (List ℕ)) : Type 0 where
  pub form : Form
  pub range : Range
  pub text : List ℕ
  pub numeral : List ℕ
  pub value : HasText kind form text words
  pub due : HasNumeral form range text numeral
  pub none : number_in range numeral ≡ None

-- ---- all of them

-- The words begin with what the fault tells.
abbrev pub HasCause : Usage → List (List ℕ) → Type 0
HasCause (UnknownOption at) words = IsUnknown words
HasCause (MissingValue at) words = IsMissing words
HasCause (BadNumber at) words = (kind : Kind) × IsNoNumber kind words × (kind ≢ Threads)
HasCause (BadThreads at) words = IsNoNumber Threads words
HasCause (OpenGroup at) words = ⊥
HasCause CaseAndInput words = ⊥
HasCause NoInput words = ⊥
HasCause NoOutput words = ⊥
HasCause PartialClash words = ⊥
