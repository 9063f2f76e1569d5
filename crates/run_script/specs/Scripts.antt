-- A script as a session: its lines one after another. Lines are cut at newlines alone and words at single spaces, so a tab, a
-- carriage return and a second space make a line that isn't one. Skipped lines count.
use Rattle.std.specs.Prelude.{◌≡◌, ℕ, ◌+◌, ◌==◌, ◌&&◌, Bool, true, false, List, [], ◌∷◌, ◌++◌, is_some, if◌then◌else◌, Option, Some, None, option_and_then, Result, Ok, Err}
use Rattle.std.specs.List.{list_any}
use Rattle.std.specs.Str.{bytes_eq}
use Rattle.run_rules.specs.declared.session.GivenGlobal.{GivenGlobal}
use Rattle.run_script.specs.Cut.{cut}
use Rattle.run_script.specs.Items.{item_in}
use Rattle.run_script.specs.declared.item.Item.{Item}
use Rattle.run_script.specs.declared.item.Item.TheVariants.{Pages, Entries, First, Calls, Answers}
use Rattle.run_script.specs.declared.script.Script.{Script}
use Rattle.run_script.specs.declared.script.ScriptError.{ScriptError}
use Rattle.run_script.specs.declared.script.ScriptError.TheVariants.{BadScript, OutOfMemory}

-- it went on, to this; or there is nothing to go on to
abbrev pub Went : {A : Type 0} → Option A → Bool → A → Type 0
Went o true new = o ≡ Some new
Went o false new = o ≡ None

abbrev pub no_script : Script
no_script = record { session = record { calls = []; answers = []; pages = None; globals = [] }; entries = None }

-- both are of one import
abbrev pub is_again : GivenGlobal → GivenGlobal → Bool
is_again g h = bytes_eq g.«module» h.«module» && bytes_eq g.field h.field

-- The pages, the entries and the global of a pair are said once at most; calls and answers keep their order.
abbrev pub with_item : Script → Item → Option Script
with_item s (Pages n) = if is_some s.session.pages then None else Some (record s { session = record s.session { pages = Some n } })
with_item s (Entries n) = if is_some s.entries then None else Some (record s { entries = Some n })
with_item s (First g) = if list_any (is_again g) s.session.globals then None else Some (record s { session = record s.session { globals = s.session.globals ++ g ∷ [] } })
with_item s (Calls c) = Some (record s { session = record s.session { calls = s.session.calls ++ c ∷ [] } })
with_item s (Answers a) = Some (record s { session = record s.session { answers = s.session.answers ++ a ∷ [] } })

-- Empty lines and those that begin with `#` say nothing.
abbrev pub is_skipped : List ℕ → Bool
is_skipped [] = true
is_skipped (b ∷ bs) = b == 35

abbrev pub with_said : Script → Option Item → Option Script
with_said s item = option_and_then (with_item s) item

abbrev pub line_onto : Script → List ℕ → Option Script
line_onto s line = if is_skipped line then Some s else with_said s (item_in (cut 32 line))

abbrev pub or_bad : {A : Type 0} → ℕ → Option A → (A → Result Script ℕ) → Result Script ℕ
or_bad n None next = Err n
or_bad n (Some a) next = next a

-- The lines from the one of a number on. The first that says nothing that may be said is told.
abbrev pub lines_onto : ℕ → Script → List (List ℕ) → Result Script ℕ
lines_onto n s [] = Ok s
lines_onto n s (line ∷ lines) = or_bad n (line_onto s line) (λ t. lines_onto (n + 1) t lines)

-- Lines count from 1. (The last newline may be missing: what would be behind it is an empty line.)
unfoldable pub script_of : List ℕ → Result Script ℕ
script_of text = lines_onto 1 no_script (cut 10 text)

abbrev pub Reads : Result Script ScriptError → Result Script ℕ → Type 0
Reads (Ok s) said = said ≡ Ok s
Reads (Err (BadScript n)) said = said ≡ Err n
Reads (Err OutOfMemory) said = Unit {0}
