-- What the program's answer says of the words, and of the shelf and the sink before and after.
use Rattle.std.specs.Prelude.{◌≡◌, ◌⊎◌, ℕ, ◌==◌, List, [], take, IsTrue, Some, Result, Ok, Err, if◌then◌else◌}
use Rattle.wl_outside.specs.Shelf.{Shown, LoadFailed}
use Rattle.wl_outside.specs.Sink.{Told, Added, Rose}
use Rattle.run_words.specs.declared.reading.RunWords.{RunWords}
use Rattle.run_words.specs.Reads.{AreRunWords}
use Rattle.run_machines.specs.declared.outcome.Run.{Run}
use Rattle.run_machines.specs.declared.outcome.Run.TheVariants.{NoModule, Outside, Traced}
use Rattle.run_text.specs.Text.{trace_text}
use Rattle.wasm_exec.specs.declared.status.RunFault.{RunFault}
use Rattle.wasm_exec.specs.declared.status.RunFault.TheVariants.{NotModule, SegmentBounds}
use Rattle.wasm_exec.specs.declared.status.RunStatus.{RunStatus}
use Rattle.wasm_exec.specs.declared.status.RunStatus.TheVariants.{Ran, Refused, Usage, ReadFault, WriteFault, NoMemory}
use Rattle.wasm_exec.specs.declared.status.RunError.{RunError}
use Rattle.wasm_exec.specs.declared.status.RunError.TheVariants as errors
use Rattle.wasm_exec.specs.Answer.{answer_of}

-- The answer is the definition's, or want of memory.
abbrev pub Answers : Result (List ℕ) RunError → Result (List ℕ) RunFault → Type 0
Answers (Ok text) said = said ≡ Ok text
Answers (Err (errors.Refused fault)) said = said ≡ Err fault
Answers (Err errors.OutOfMemory) said = Unit {0}

-- what is said of a run
abbrev pub said_of : Run → Result (List ℕ) RunFault
said_of NoModule = Err NotModule
said_of (Outside segment) = Err (SegmentBounds segment)
said_of (Traced trace) = Ok (trace_text trace)

-- The words that name files: 0 is the module's, and 1 the script's.
abbrev pub name_of : RunWords → ℕ → List ℕ
name_of w k = if k == 0 then w.«module» else w.script

-- What the shelf holds under them comes to this.
pub record RunIs (before : Shown) (w : RunWords) (said : Result (List ℕ) RunFault) : Type 0 where
  pub bytes : List ℕ
  pub lines : List ℕ
  pub module_held : before.held w.«module» ≡ Some bytes
  pub script_held : before.held w.script ≡ Some lines
  pub is : answer_of w.steps bytes lines ≡ said

-- What an answer to words that clap takes shows, row by row. Where it ran the whole text came, and where the write failed a prefix; else
-- nothing did.
abbrev pub Shows : RunStatus → Shown → Shown → Told → Told → RunWords → Type 0
Shows Ran before after old new w = (text : List ℕ) × Added text old new × (IsTrue before.tells → RunIs before w (Ok text))
Shows (Refused fault) before after old new w = Added [] old new × (IsTrue before.tells → RunIs before w (Err fault))
Shows Usage before after old new w = ⊥
Shows (ReadFault k) before after old new w = Added [] old new × LoadFailed before after (name_of w k) × ((k ≡ 0) ⊎ (k ≡ 1))
Shows WriteFault before after old new w =
    Rose old.faults new.faults × ((text : List ℕ) × (n : ℕ) × Added (take n text) old new × (IsTrue before.tells → RunIs before w (Ok text)))
Shows NoMemory before after old new w = Added [] old new

-- The words ask for a run, unless the answer is of the words themselves or of memory.
abbrev pub AsksUnless : RunStatus → List (List ℕ) → Type 0
AsksUnless status words = (status ≡ Usage → ⊥) → (status ≡ NoMemory → ⊥) → (w : RunWords) × AreRunWords words w

-- No load of these two failed.
abbrev pub LoadsWork : Shown → Shown → RunWords → Type 0
LoadsWork before after w = (k : ℕ) → LoadFailed before after (name_of w k) → ⊥

abbrev pub IsUnlessMemory : RunStatus → RunStatus → Type 0
IsUnlessMemory status wanted = (status ≡ wanted) ⊎ (status ≡ NoMemory)

-- The exit status of the program.
abbrev pub code_of : RunStatus → ℕ
code_of Ran = 0
code_of (Refused fault) = 1
code_of Usage = 2
code_of (ReadFault k) = 3
code_of WriteFault = 4
code_of NoMemory = 5

-- What a write of the text shows.
abbrev pub SaidBy : RunStatus → List ℕ → Told → Told → Type 0
SaidBy Ran text old new = Added text old new
SaidBy WriteFault text old new = Rose old.faults new.faults × ((n : ℕ) × Added (take n text) old new)
SaidBy status text old new = ⊥
