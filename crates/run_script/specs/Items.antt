-- What the lines of a script say.
use Rattle.std.specs.Prelude.{ℕ, ◌+◌, ◌*◌, ◌-◌, ◌^◌, ◌==◌, Bool, true, false, List, [], ◌∷◌, ◌++◌, length, codes, if◌then◌else◌, Option, Some, None, option_map, option_and_then}
use Rattle.std.specs.List.{list_any}
use Rattle.std.specs.Str.{bytes_eq}
use Rattle.run_rules.specs.declared.value.Value.{Value}
use Rattle.run_rules.specs.declared.session.Call.{Call}
use Rattle.run_rules.specs.declared.session.GivenGlobal.{GivenGlobal}
use Rattle.run_rules.specs.declared.session.MemWrite.{MemWrite}
use Rattle.run_rules.specs.declared.session.Answer.{Answer}
use Rattle.run_rules.specs.declared.session.Answer.TheVariants.{Results, Trap, Grow}
use Rattle.run_script.specs.Cut.{cut}
use Rattle.run_script.specs.Numbers.{number_to}
use Rattle.run_script.specs.Said.{hex_of, name_in, value_in}
use Rattle.run_script.specs.declared.item.Head.{Head}
use Rattle.run_script.specs.declared.item.Head.TheVariants.{OfMemory, OfTable, OfGlobal, OfCall, OfAnswer, OfTrap, OfGrow}
use Rattle.run_script.specs.declared.item.Item.{Item}
use Rattle.run_script.specs.declared.item.Item.TheVariants.{Pages, Entries, First, Calls, Answers}

-- ---- several values

abbrev pub values_onto : List Value → List (List ℕ) → Option (List Value)
values_onto values [] = Some values
values_onto values (w ∷ ws) = option_and_then (λ v. values_onto (values ++ v ∷ []) ws) (value_in w)

abbrev pub values_in : List (List ℕ) → Option (List Value)
values_in words = values_onto [] words

-- ---- a write to memory: an address, `=`, and at least one byte of two digits

abbrev pub hex_onto : List ℕ → Option ℕ → List ℕ → Option (List ℕ)
hex_onto bytes None [] = if length bytes == 0 then None else Some bytes
hex_onto bytes (Some high) [] = None
hex_onto bytes None (b ∷ bs) = option_and_then (λ high. hex_onto bytes (Some high) bs) (hex_of b)
hex_onto bytes (Some high) (b ∷ bs) = option_and_then (λ low. hex_onto (bytes ++ (16 * high + low) ∷ []) None bs) (hex_of b)

abbrev pub write_at : Option ℕ → Option (List ℕ) → Option MemWrite
write_at (Some address) (Some bytes) = Some (record { address = address; bytes = bytes })
write_at _ _ = None

abbrev pub write_by : List (List ℕ) → Option MemWrite
write_by (address ∷ digits ∷ []) = write_at (number_to (2 ^ 32 - 1) address) (hex_onto [] None digits)
write_by _ = None

-- 61 is `=`
abbrev pub write_in : List ℕ → Option MemWrite
write_in word = write_by (cut 61 word)

-- ---- an answer: writes, and then values

abbrev pub is_write : List ℕ → Bool
is_write word = list_any (λ b. b == 61) word

abbrev pub answer_onto : List MemWrite → List (List ℕ) → Option Answer
answer_onto writes [] = Some (Results writes [])
answer_onto writes (w ∷ ws) =
    if is_write w then option_and_then (λ x. answer_onto (writes ++ x ∷ []) ws) (write_in w)
    else option_map (Results writes) (values_in (w ∷ ws))

-- ---- lines

abbrev pub one_number : ℕ → List (List ℕ) → Option ℕ
one_number most (w ∷ []) = number_to most w
one_number most _ = None

abbrev pub one_value : List (List ℕ) → Option Value
one_value (w ∷ []) = value_in w
one_value _ = None

abbrev pub given : Option (List ℕ) → Option (List ℕ) → Option Value → Option GivenGlobal
given (Some m) (Some f) (Some v) = Some (record { «module» = m; field = f; value = v })
given _ _ _ = None

abbrev pub global_with : Option (List ℕ) → List (List ℕ) → Option GivenGlobal
global_with m [] = None
global_with m (f ∷ rest) = given m (name_in f) (one_value rest)

abbrev pub global_in : List (List ℕ) → Option GivenGlobal
global_in [] = None
global_in (m ∷ rest) = global_with (name_in m) rest

abbrev pub called : Option (List ℕ) → Option (List Value) → Option Call
called (Some name) (Some args) = Some (record { name = name; args = args })
called _ _ = None

abbrev pub call_in : List (List ℕ) → Option Call
call_in [] = None
call_in (name ∷ args) = called (name_in name) (values_in args)

abbrev pub trap_in : List (List ℕ) → Option Answer
trap_in [] = Some Trap
trap_in _ = None

abbrev pub grow_in : List (List ℕ) → Option Answer
grow_in (w ∷ []) = if bytes_eq w (codes "yes") then Some (Grow true) else if bytes_eq w (codes "no") then Some (Grow false) else None
grow_in _ = None

-- The words with which lines begin.
abbrev pub head_in : List ℕ → Option Head
head_in word =
    if bytes_eq word (codes "memory") then Some OfMemory
    else if bytes_eq word (codes "table") then Some OfTable
    else if bytes_eq word (codes "global") then Some OfGlobal
    else if bytes_eq word (codes "call") then Some OfCall
    else if bytes_eq word (codes "answer") then Some OfAnswer
    else if bytes_eq word (codes "trap") then Some OfTrap
    else if bytes_eq word (codes "grow") then Some OfGrow
    else None

abbrev pub item_by : Option Head → List (List ℕ) → Option Item
item_by None rest = None
item_by (Some OfMemory) rest = option_map Pages (one_number 65536 rest)
item_by (Some OfTable) rest = option_map Entries (one_number 10000000 rest)
item_by (Some OfGlobal) rest = option_map First (global_in rest)
item_by (Some OfCall) rest = option_map Calls (call_in rest)
item_by (Some OfAnswer) rest = option_map Answers (answer_onto [] rest)
item_by (Some OfTrap) rest = option_map Answers (trap_in rest)
item_by (Some OfGrow) rest = option_map Answers (grow_in rest)

-- What a line says, by its words.
abbrev pub item_in : List (List ℕ) → Option Item
item_in [] = None
item_in (head ∷ rest) = item_by (head_in head) rest
