-- How words are cut into items, from the left up to the first word that is at fault.
use Rattle.std.specs.Prelude.{◌<◌, ℕ, ◌+◌, ◌==◌, Bool, false, not, List, [], ◌∷◌, ◌++◌, length, take, codes, nat_lt, if◌then◌else◌, Option, Some, None, Result, Ok, Err, option_to_list, IfSome}
use Rattle.std.specs.List.{position_or_len, before_first, after_first}
use Rattle.std.specs.Str.{bytes_eq}
use Rattle.wl_base.specs.declared.usage.Usage.{Usage}
use Rattle.wl_base.specs.declared.usage.Usage.TheVariants.{UnknownOption, MissingValue, BadNumber, BadThreads}
use Rattle.link_words.specs.declared.kind.Kind.{Kind}
use Rattle.link_words.specs.declared.kind.Kind.TheVariants as kinds
use Rattle.link_words.specs.declared.options.Form.{Form}
use Rattle.link_words.specs.declared.options.Form.TheVariants.{Text, Machine, Number, StackSize}
use Rattle.link_words.specs.declared.options.Takes.{Takes}
use Rattle.link_words.specs.declared.options.Takes.TheVariants as takes
use Rattle.link_words.specs.declared.options.Rule.{Rule}
use Rattle.link_words.specs.declared.range.Range.{Range}
use Rattle.link_words.specs.declared.range.Range.TheVariants.{Stack, Workers}
use Rattle.link_words.specs.declared.cut.Next.{Next}
use Rattle.link_words.specs.declared.cut.Next.TheVariants.{Free, Value, Input}
use Rattle.link_words.specs.Items.{Said}
use Rattle.link_words.specs.Numbers.{number_in}
use Rattle.link_words.specs.Options.{options, row_of}

abbrev pub item : Kind → ℕ → List ℕ → Said
item kind at value = record { kind = kind; at = at; value = value }

-- the two parts around the first `=`
abbrev pub is_equals : ℕ → Bool
is_equals b = b == 61

abbrev pub parts_of : List ℕ → Option (List ℕ × List ℕ)
parts_of word = if nat_lt (position_or_len is_equals word) (length word) then Some (before_first is_equals word, after_first is_equals word) else None

-- the fault of a value that isn't a number of the range
abbrev pub not_in : Range → ℕ → Usage
not_in Workers at = BadThreads at
not_in range at = BadNumber at

abbrev pub judged : Option ℕ → Kind → Range → ℕ → List ℕ → Result Said Usage
judged (Some n) kind range at value = Ok (item kind at value)
judged None kind range at value = Err (not_in range at)

abbrev pub numbered : Kind → Range → ℕ → List ℕ → Result Said Usage
numbered kind range at value = judged (number_in range value) kind range at value

-- `stack-size=`, and then a number
abbrev pub stack_sized : Option (List ℕ × List ℕ) → Kind → ℕ → Result Said Usage
stack_sized None kind at = Err (UnknownOption at)
stack_sized (Some parts) kind at = if bytes_eq parts.0 (codes "stack-size") then numbered kind Stack at parts.1 else Err (UnknownOption at)

-- an option with its value
abbrev pub valued : Kind → Form → ℕ → List ℕ → Result Said Usage
valued kind Text at value = Ok (item kind at value)
valued kind Machine at value = if bytes_eq value (codes "wasm32") then Ok (item kind at value) else Err (UnknownOption at)
valued kind (Number range) at value = numbered kind range at value
valued kind StackSize at value = stack_sized (parts_of value) kind at

-- what a word says, and how the next word counts
abbrev pub Step : Type 0
Step = Result (Option Said × Next) Usage

abbrev pub and_free : Result Said Usage → Step
and_free (Ok said) = Ok (Some said, Free)
and_free (Err fault) = Err fault

-- an option that stands alone in its word
abbrev pub alone : ℕ → Kind → Takes → Step
alone at kind takes.Nothing = Ok (Some (item kind at []), Free)
alone at kind (takes.Next form) = Ok (None, Value kind form at)
alone at kind (takes.Long form) = Ok (None, Value kind form at)

abbrev pub said_alone : ℕ → Option Rule → Step
said_alone at None = Err (UnknownOption at)
said_alone at (Some rule) = alone at rule.kind rule.takes

-- an option with its value in one word, as only long options with a value have it
abbrev pub long : ℕ → List ℕ → Kind → Takes → Step
long at value kind (takes.Long form) = and_free (valued kind form at value)
long at value kind takes = Err (UnknownOption at)

abbrev pub said_long : ℕ → List ℕ → Option Rule → Step
said_long at value None = Err (UnknownOption at)
said_long at value (Some rule) = long at value rule.kind rule.takes

-- the parts of `--x=v`
abbrev pub split_of : List ℕ → Option (List ℕ × List ℕ)
split_of word = if bytes_eq (take 2 word) (codes "--") then parts_of word else None

abbrev pub optional : ℕ → List ℕ → Option (List ℕ × List ℕ) → Step
optional at word (Some parts) = said_long at parts.1 (row_of options parts.0)
optional at word None = said_alone at (row_of options word)

abbrev pub begins_with_dash : List ℕ → Bool
begins_with_dash [] = false
begins_with_dash (b ∷ bs) = b == 45

abbrev pub begun : ℕ → List ℕ → Step
begun at word =
    if not (begins_with_dash word) then Ok (Some (item kinds.Input at word), Free)
    else if bytes_eq word (codes "--") then Ok (Some (item kinds.OnlyInputs at []), Input)
    else optional at word (split_of word)

-- a word where an option may stand, where a value is due, and behind `--`
abbrev pub step : Next → ℕ → List ℕ → Step
step Free at word = begun at word
step (Value kind form place) at word = and_free (valued kind form place word)
step Input at word = Ok (Some (item kinds.Input at word), Input)

-- the option whose value is due stands below a bound
abbrev pub WaitsBelow : ℕ → Next → Type 0
WaitsBelow bound (Value kind form place) = place < bound
WaitsBelow bound next = Unit {0}

-- what a word says stands below a bound, and so does what waits for the next word
abbrev pub IsPlaced : ℕ → Option Said × Next → Type 0
IsPlaced bound said = IfSome said.0 (λ item. item.at < bound) × WaitsBelow bound said.1

-- the items, and why they end before the words do
abbrev pub Cutting : Type 0
Cutting = List Said × Option Usage

-- the words end where a value is due
abbrev pub missing : Next → Option Usage
missing (Value kind form place) = Some (MissingValue place)
missing next = None

abbrev pub onto : List Said → Cutting → Cutting
onto items c = (items ++ c.0, c.1)

abbrev pub behind : Step → (Next → Cutting) → Cutting
behind (Err fault) rest = ([], Some fault)
behind (Ok said) rest = onto (option_to_list said.0) (rest said.1)

abbrev pub cut_from : Next → ℕ → List (List ℕ) → Cutting
cut_from next at [] = ([], missing next)
cut_from next at (word ∷ words) = behind (step next at word) (λ n. cut_from n (at + 1) words)

abbrev pub cut_of : List (List ℕ) → Cutting
cut_of words = cut_from Free 0 words
