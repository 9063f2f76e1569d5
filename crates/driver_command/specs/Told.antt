-- The lines of each outcome, as users of LLVM's linker know them.
use Rattle.std.specs.Prelude.{◌≡◌, ◌⊎◌, ℕ, ◌==◌, List, [], ◌∷◌, ◌++◌, length, Bool, true, false, not, ◌&&◌, Option, Some, None, IsTrue, Ok, IfOk, IfSome, codes, slice_get, take}
use Rattle.std.specs.List.{flat_map}
use Rattle.wl_base.specs.declared.fault.Fault.{Fault}
use Rattle.wl_outside.specs.Shelf.{Shown}
use Rattle.wl_outside.specs.Sink.{Told, Added, Rose}
use Rattle.link_plan.specs.declared.plan.Plan.{Plan}
use Rattle.link_words.specs.Words.{plan_of}
use Rattle.link_lines.specs.Pieces.{joined}
use Rattle.link_command.specs.Said.{Said as Written}
use Rattle.link_command.specs.declared.asked.Asked.{Asked}
use Rattle.link_command.specs.declared.status.Status.{Status}
use Rattle.link_command.specs.declared.status.Status.TheVariants.{Linked as Done, Refused as Faulty, Usage, ReadFault, WriteFault, NoMemory}
use Rattle.driver_lines.specs.Lines.{error_line, warning_line, refusal_line}
use Rattle.driver_words.specs.Search.{holds}
use Rattle.driver_words.specs.declared.answer.Answer.TheVariants.{Links}
use Rattle.driver_words.specs.declared.answer.What.{What}
use Rattle.driver_words.specs.declared.stop.Stop.{Stop}
use Rattle.driver_words.specs.declared.stop.Stop.TheVariants.{Unreadable, NotText, OutOfMemory}
use Rattle.driver_command.specs.declared.outcome.Outcome.{Outcome}
use Rattle.driver_command.specs.declared.outcome.Outcome.TheVariants.{Said, Unsaid, Refused, Stopped, Linked}
use Rattle.driver_command.specs.Ends.{Means}
use Rattle.driver_command.specs.Manual.{text_of}
use Rattle.link_command.specs.mismatch_rules.declared.mismatch.Mismatch.{Mismatch}
use Rattle.driver_command.specs.Causes.{TellsOf}
use Rattle.driver_command.specs.Mismatched.{severity, gap, AreTold}
use Rattle.driver_command.specs.Named.{AreNames}

-- an error of a file between two texts
unfoldable pub file_line : List ℕ → List ℕ → List ℕ → List ℕ → List ℕ
file_line program head name tail = joined (program ∷ codes ": error: " ∷ head ∷ name ∷ tail ∷ codes "\n" ∷ [])

abbrev pub no_memory_line : List ℕ → List ℕ
no_memory_line program = error_line program (codes "out of memory")

abbrev pub stop_line : List ℕ → Stop → List ℕ
stop_line program (Unreadable name) = file_line program (codes "cannot open ") name []
stop_line program (NotText name) = file_line program [] name (codes ": not UTF-8")
stop_line program OutOfMemory = no_memory_line program

abbrev pub warning_lines : List ℕ → List (List ℕ) → List ℕ
warning_lines program warnings = flat_map (warning_line program) warnings

-- a file that can't be read, where something is there or not
abbrev pub unread_end : Bool → List ℕ
unread_end true = []
unread_end false = codes ": No such file or directory"

abbrev pub unread_line : List ℕ → Option (List ℕ) → Bool → List ℕ
unread_line program None there = error_line program (codes "cannot open an input")
unread_line program (Some name) there = file_line program (codes "cannot open ") name (unread_end there)

abbrev pub unwritten_line : List ℕ → Option (List ℕ) → List ℕ
unwritten_line program None = error_line program (codes "cannot open the output file")
unwritten_line program (Some name) = file_line program (codes "cannot open output file ") name []

-- The line of a refused link, with what is called by name.
pub record IsRefusal (fault : Fault) (program : List ℕ) (shelf : Shown) (own : List (List ℕ)) (said : List ℕ) : Type 0 where
  pub entry : Option (List ℕ)
  pub inputs : List (List ℕ)
  pub files : List (List ℕ)
  pub line : said ≡ refusal_line program entry inputs files fault
  pub named : IfOk (plan_of own) (λ plan. AreNames shelf own plan entry files inputs)

-- The line of an input that can't be read, by whether something is there.
pub record IsUnread (name : Option (List ℕ)) (program : List ℕ) (shelf : Shown) (said : List ℕ) : Type 0 where
  pub there : Bool
  pub line : said ≡ unread_line program name there
  pub held : IsTrue shelf.tells → IfSome name (λ name. there ≡ holds shelf name)

-- The line of an output that can't be written, by its name, but where memory is refused.
pub record IsUnwritten (program : List ℕ) (own : List (List ℕ)) (said : List ℕ) : Type 0 where
  pub output : Option (List ℕ)
  pub line : said ≡ unwritten_line program output
  pub named : (output ≡ None) ⊎ IfOk (plan_of own) (λ plan. plan.output ≡ output)

-- the line behind a link by the linker's own words, over what the shelf then holds
abbrev pub IsStatusLine : Status → List ℕ → Shown → List (List ℕ) → List ℕ → Type 0
IsStatusLine Done program shelf own line = line ≡ []
IsStatusLine (Faulty fault) program shelf own line = IsRefusal fault program shelf own line
IsStatusLine (Usage usage) program shelf own line = line ≡ error_line program (codes "the words are no link")
IsStatusLine (ReadFault k) program shelf own line = IsUnread (slice_get own k) program shelf line
IsStatusLine WriteFault program shelf own line = IsUnwritten program own line
IsStatusLine NoMemory program shelf own line = line ≡ no_memory_line program

-- What is told of calls says why the link is refused.
abbrev pub says_why : Bool → List Mismatch → Bool
says_why fatal told = fatal && not (length told == 0)

abbrev pub IsLast : Bool → Status → List ℕ → Shown → List (List ℕ) → List ℕ → Type 0
IsLast true status program shelf own line = line ≡ []
IsLast false status program shelf own line = IsStatusLine status program shelf own line

-- The lines of functions that are called by another type than their definition has; and then the line behind the link, where these don't
-- say why it is refused.
pub record IsEnd (fatal : Bool) (status : Status) (told : List Mismatch) (program : List ℕ) (shelf : Shown) (own : List (List ℕ)) (line : List ℕ) : Type 0 where
  pub first : List ℕ
  pub rest : List ℕ
  pub is : line ≡ first ++ rest
  pub warned : AreTold told program (severity fatal) (gap fatal status) shelf own first
  pub ends : IsLast (says_why fatal told) status program shelf own rest

-- The warnings of the words, what is told of calls, and then the line behind the link.
pub record LinkTold (status : Status) (program : List ℕ) (before after : Shown) (words : List (List ℕ)) (old new : Told) : Type 0 where
  pub own : List (List ℕ)
  pub warnings : List (List ℕ)
  pub fatal : Bool
  pub asked : Asked
  pub told : List Mismatch
  pub line : List ℕ
  pub means : Means before words (Links own warnings fatal asked.names asked.features)
  pub mismatches : TellsOf fatal asked status before after own told
  pub ends : IsEnd fatal status told program after own line
  pub written : Written (warning_lines program warnings ++ line) old new

-- What the sink of lines has behind each outcome.
abbrev pub IsTold : Outcome → List ℕ → Shown → Shown → List (List ℕ) → Told → Told → Type 0
IsTold (Said what) program before after words old new = new ≡ old
IsTold (Unsaid what) program before after words old new = new ≡ old
IsTold (Refused line) program before after words old new = Written (error_line program line) old new
IsTold (Stopped stop) program before after words old new = Written (stop_line program stop) old new
IsTold (Linked status) program before after words old new = LinkTold status program before after words old new

-- What the sink of texts has.
abbrev pub Printed : Outcome → Told → Told → Type 0
Printed (Said what) old new = Added (text_of what) old new
Printed (Unsaid what) old new = Rose old.faults new.faults × ((n : ℕ) × Added (take n (text_of what)) old new)
Printed other old new = new ≡ old

-- a text that is asked for is on the sink of texts, or isn't whole
abbrev pub SaidOf : Outcome → What → Told → Told → Type 0
SaidOf (Said given) what old new = (given ≡ what) × Added (text_of what) old new
SaidOf (Unsaid given) what old new = (given ≡ what) × Rose old.faults new.faults × ((n : ℕ) × Added (take n (text_of what)) old new)
SaidOf other what old new = ⊥
