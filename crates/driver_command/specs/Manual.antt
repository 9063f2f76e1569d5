-- The texts that are asked for.
use Rattle.std.specs.Prelude.{ℕ, List}
use Rattle.driver_words.specs.declared.answer.What.{What}
use Rattle.driver_words.specs.declared.answer.What.TheVariants.{Version, Help}
use Rattle.driver_command.specs.declared.manual.TheConstants.{VERSION, HELP}

abbrev pub text_of : What → List ℕ
text_of Version = VERSION.now
text_of Help = HELP.now
