-- What is read of words.
use Rattle.std.specs.Prelude.{◌≡◌, ◌≢◌, ℕ, List, [], Some, Result, Ok, Err, codes}
use Rattle.std.specs.Str.Parse.{digits_value, without_leading_plus}
use Rattle.run_words.specs.Words.{refusals, given_word}
use Rattle.run_words.specs.declared.error.RunWordsError.{RunWordsError}
use Rattle.run_words.specs.declared.error.RunWordsError.TheVariants.{Usage, OutOfMemory}
use Rattle.run_words.specs.declared.reading.RunWords.{RunWords}

-- The number that decimal digits spell, behind a plus or without.
abbrev pub steps_in : List ℕ → ℕ
steps_in text = digits_value 10 (without_leading_plus text)

-- clap takes the words, and gives these three.
pub record AreRunWords (words : List (List ℕ)) (w : RunWords) : Type 0 where
  pub taken : refusals words ≡ []
  pub module_is : given_word (codes "MODULE") words ≡ Some w.«module»
  pub script_is : given_word (codes "script") words ≡ Some w.script
  pub steps_are : (text : List ℕ) × (given_word (codes "steps") words ≡ Some text) × (w.steps ≡ steps_in text)

-- The words are read, or clap refuses them, or memory is refused.
abbrev pub Reads : Result RunWords RunWordsError → List (List ℕ) → Type 0
Reads (Ok w) words = AreRunWords words w
Reads (Err Usage) words = refusals words ≢ []
Reads (Err OutOfMemory) words = Unit {0}
