-- The text of a trace. Names are spelled as in the lines of the linker; the two words for it stand here again, since the crate of these
-- lines stands above files and gates, of which a text of a trace has none.
use Rattle.std.specs.Prelude.{ℕ, zero, suc, ◌+◌, ◌/◌, ◌%◌, ◌==◌, not, ◌&&◌, List, [], ◌∷◌, ◌++◌, length, take, drop, decimal, codes, nat_le, nat_lt, if◌then◌else◌}
use Rattle.std.specs.List.{flat_map, list_all}
use Rattle.run_rules.specs.declared.value.Value.{Value}
use Rattle.run_rules.specs.declared.value.Value.TheVariants.{I32, I64, F32, F64}
use Rattle.run_rules.specs.declared.trace.TrapKind.{TrapKind}
use Rattle.run_rules.specs.declared.trace.TrapKind.TheVariants.{Unreachable, DivideByZero, IntegerOverflow, MemoryBounds, TableBounds, NullEntry, TypeDiffers, HostTrap}
use Rattle.run_rules.specs.declared.trace.Event.{Event}
use Rattle.run_rules.specs.declared.trace.Event.TheVariants.{Asked, Returned, Trapped, NotCalled, Stuck, StepsSpent, HostSpent, Carried}
use Rattle.run_rules.specs.declared.trace.NamedValue.{NamedValue}
use Rattle.run_rules.specs.declared.trace.Trace.{Trace}

-- ---- digits

-- `0` to `9`, then `A` to `F`
abbrev pub hex_digit : ℕ → ℕ
hex_digit digit = if nat_lt digit 10 then 48 + digit else 55 + digit

-- the two digits of a byte, and the last eight of a number
abbrev pub hex2 : ℕ → List ℕ
hex2 byte = hex_digit (byte / 16) ∷ hex_digit (byte % 16) ∷ []

abbrev pub hex8 : ℕ → List ℕ
hex8 n = hex2 (n / 16777216 % 256) ++ hex2 (n / 65536 % 256) ++ hex2 (n / 256 % 256) ++ hex2 (n % 256)

-- ---- names and values

-- a byte of a name: from `!` to `~` but the backslash itself, else `\x` and two hexadecimal digits
abbrev pub escaped : ℕ → List ℕ
escaped byte = if nat_le 33 byte && (nat_le byte 126 && not (byte == 92)) then byte ∷ [] else 92 ∷ 120 ∷ hex2 byte

-- the empty name is `\e`
abbrev pub name_text : List ℕ → List ℕ
name_text name = if length name == 0 then 92 ∷ 101 ∷ [] else flat_map escaped name

abbrev pub value_text : Value → List ℕ
value_text (I32 n) = codes "i32:" ++ decimal n
value_text (I64 n) = codes "i64:" ++ decimal n
value_text (F32 n) = codes "f32:" ++ decimal n
value_text (F64 n) = codes "f64:" ++ decimal n

-- each behind a space
abbrev pub values_text : List Value → List ℕ
values_text values = flat_map (λ v. 32 ∷ value_text v) values

-- ---- items

abbrev pub kind_text : TrapKind → List ℕ
kind_text Unreachable = codes "Unreachable"
kind_text DivideByZero = codes "DivideByZero"
kind_text IntegerOverflow = codes "IntegerOverflow"
kind_text MemoryBounds = codes "MemoryBounds"
kind_text TableBounds = codes "TableBounds"
kind_text NullEntry = codes "NullEntry"
kind_text TypeDiffers = codes "TypeDiffers"
kind_text HostTrap = codes "HostTrap"

abbrev pub event_text : Event → List ℕ
event_text (Asked m field args) = codes "asked " ++ name_text m ++ 32 ∷ name_text field ++ values_text args
event_text (Returned values) = codes "returned" ++ values_text values
event_text (Trapped kind) = codes "trapped " ++ kind_text kind
event_text NotCalled = codes "not called"
event_text Stuck = codes "stuck"
event_text StepsSpent = codes "steps spent"
event_text HostSpent = codes "host spent"
event_text (Carried byte sub) = codes "carried " ++ decimal byte ++ 44 ∷ decimal sub

abbrev pub line : List ℕ → List ℕ
line text = text ++ 10 ∷ []

-- ---- memory: of each 16 bytes that aren't all 0 a line

abbrev pub row_text : ℕ → List ℕ → List ℕ
row_text at bytes = if list_all (λ b. b == 0) bytes then [] else line (hex8 at ++ 32 ∷ flat_map hex2 bytes)

-- so many rows, the first of which is at an address
abbrev pub rows_from : ℕ → ℕ → List ℕ → List ℕ
rows_from zero at bytes = []
rows_from (suc n) at bytes = row_text at (take 16 bytes) ++ rows_from n (at + 16) (drop 16 bytes)

abbrev pub memory_text : List ℕ → List ℕ
memory_text memory = line (codes "memory " ++ decimal (length memory / 65536)) ++ rows_from (length memory / 16) 0 memory

-- ---- all

abbrev pub global_text : NamedValue → List ℕ
global_text g = codes "global " ++ name_text g.name ++ 32 ∷ value_text g.value

-- What happened, the memory, the exported globals, and `end`.
unfoldable pub trace_text : Trace → List ℕ
trace_text t =
    flat_map (λ e. line (event_text e)) t.events
    ++ memory_text t.memory
    ++ flat_map (λ g. line (global_text g)) t.globals
    ++ line (codes "end")
