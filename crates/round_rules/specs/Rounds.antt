-- Which inputs are loaded: objects and members of whole libraries at once, lazy objects and other members where a loaded input or the
-- words need them.
use Rattle.std.specs.Prelude.{ℕ, zero, suc, ◌+◌, ◌==◌, nat_lt, Bool, true, false, not, ◌&&◌, ◌||◌, List, [], ◌∷◌, ◌++◌, filter, filter_map, map, find, flat_map, length, if◌then◌else◌, Option, Some, None, option_map, bytes_eq, Result, Ok, Err}
use Rattle.std.specs.List.{list_any}
use Rattle.object_file.specs.wl_base.Choice.{first_some, unless, ◌>>=◌, has_name}
use Rattle.object_file.specs.wl_base.declared.fault.Fault.{Fault}
use Rattle.object_file.specs.wl_base.declared.fault.Fault.TheVariants.{IndexLies}
use Rattle.object_file.specs.linking_section.declared.symbol.Symbol.{Symbol}
use Rattle.object_file.specs.linking_section.Flags.{is_definition, is_strong_reference}
use Rattle.object_file.specs.declared.object.Object.{Object}
use Rattle.made_symbols.specs.declared.mode.Mode.{Mode}
use Rattle.made_symbols.specs.Made.{made}

-- A candidate is an object of the words or a member of a library. Its number among all candidates, in the order of the words and in a
-- library in the order of the file, is its precedence as an input; they count from 1, since the linker itself is input 0. One that
-- is loaded by need is not loaded at once. A member offers the names that its index gives for it, also one of a whole library; a lazy
-- object those that it defines; any other object none. `object` is what reading it gives.
pub record Candidate : Type 0 where
  pub input : ℕ
  pub file : ℕ  -- the place of its file among the files
  pub start : ℕ  -- its first byte there
  pub len : ℕ
  pub is_member : Bool
  pub by_need : Bool
  pub offers : List (List ℕ)
  pub object : Result Object Fault

abbrev pub fault_in : Result Object Fault → Option Fault
fault_in (Ok o) = None
fault_in (Err fault) = Some fault

abbrev pub object_in : Result Object Fault → Option Object
object_in (Ok o) = Some o
object_in (Err fault) = None

abbrev pub object_fault : Candidate → Option Fault
object_fault c = fault_in c.object

-- ---- names of an object

abbrev pub names_where : (Symbol → Bool) → Object → List (List ℕ)
names_where test o = filter_map (λ s. s.name) (filter test o.symbols)

-- The names that it defines for other objects, whatever groups the definitions are members of.
abbrev pub defined_names : Object → List (List ℕ)
defined_names o = names_where is_definition o

-- The names that it refers to by a symbol that is undefined and not WEAK.
abbrev pub strong_names : Object → List (List ℕ)
strong_names o = names_where is_strong_reference o

-- ---- what a round wants

-- whether an input is among the loaded ones
abbrev pub is_loaded : List ℕ → Candidate → Bool
is_loaded loaded c = list_any (λ k. k == c.input) loaded

-- The objects of the loaded inputs, by rising input.
abbrev pub objects_of : List Candidate → List ℕ → List Object
objects_of all loaded = filter_map (λ c. object_in c.object) (filter (is_loaded loaded) all)

-- A name is defined where it is linker-made or a loaded object defines it.
abbrev pub is_defined : Mode → List Object → List ℕ → Bool
is_defined mode objects name = list_any (λ m. bytes_eq m.name name) (made mode) || list_any (λ o. has_name (defined_names o) name) objects

-- A round wants the names that the words ask for or that a loaded object strongly refers to, where they aren't defined.
abbrev pub wanted_names : Mode → List (List ℕ) → List Object → List (List ℕ)
wanted_names mode asked objects = filter (λ n. not (is_defined mode objects n)) (asked ++ flat_map strong_names objects)

-- ---- what a round adds

-- The candidate of least number that offers the name.
abbrev pub offering : List Candidate → List ℕ → Option ℕ
offering all name = option_map (λ c. c.input) (find (λ c. has_name c.offers name) all)

abbrev pub is_just : ℕ → Option ℕ → Bool
is_just k None = false
is_just k (Some j) = j == k

-- The wanted names for which a candidate is added: it is the one that offers them.
abbrev pub names_for : List Candidate → List (List ℕ) → Candidate → List (List ℕ)
names_for all wanted c = filter (λ n. is_just c.input (offering all n)) wanted

-- A candidate with the names for which it is added.
pub record Added : Type 0 where
  pub candidate : Candidate
  pub names : List (List ℕ)

abbrev pub added_with : List Candidate → List (List ℕ) → Candidate → Added
added_with all wanted c = record { candidate = c; names = names_for all wanted c }

abbrev pub adds_any : Added → Bool
adds_any a = not (length a.names == 0)

-- A round adds the candidates that aren't loaded and offer a wanted name. Where the offering candidate of a name is loaded already
-- (its library's index gave a name that it doesn't define), nothing is added for that name.
abbrev pub round_adds : List Candidate → List (List ℕ) → List ℕ → List Added
round_adds all wanted loaded = filter adds_any (map (added_with all wanted) (filter (λ c. not (is_loaded loaded c)) all))

-- ---- faults of what is added

-- the order of names by their bytes
abbrev pub comes_before : List ℕ → List ℕ → Bool
comes_before [] [] = false
comes_before [] (b ∷ bs) = true
comes_before (a ∷ as') [] = false
comes_before (a ∷ as') (b ∷ bs) = nat_lt a b || ((a == b) && comes_before as' bs)

abbrev pub lesser_name : List ℕ → Option (List ℕ) → Option (List ℕ)
lesser_name n None = Some n
lesser_name n (Some m) = if comes_before m n then Some m else Some n

abbrev pub least_name : List (List ℕ) → Option (List ℕ)
least_name [] = None
least_name (n ∷ ns) = lesser_name n (least_name ns)

abbrev pub added_fault_in : Added → Result Object Fault → Option Fault
added_fault_in a (Err fault) = Some fault
added_fault_in a (Ok o) = option_map (IndexLies a.candidate.input) (least_name (filter (λ n. not (has_name (defined_names o) n)) a.names))

-- The fault of an added candidate: that of its object; else its index lies, where the object doesn't define a name for which it is
-- added, and of several such names the least is told.
abbrev pub added_fault : Added → Option Fault
added_fault a = added_fault_in a a.candidate.object

-- ---- rounds

abbrev pub inputs_of : List Added → List ℕ
inputs_of new = map (λ a. a.candidate.input) new

-- What follows a round: it was the last where it adds nothing; else the fault of the least input that it adds decides, or the
-- next round begins with what it adds.
abbrev pub go_on : (List ℕ → Result (List ℕ) Fault) → List ℕ → List Added → Result (List ℕ) Fault
go_on again loaded [] = Ok loaded
go_on again loaded (a ∷ as') = unless (first_some (map added_fault (a ∷ as'))) (loaded ++ inputs_of (a ∷ as')) >>= again

module _ (mode : Mode) (asked : List (List ℕ)) (all : List Candidate) where
  abbrev pub next_adds : List ℕ → List Added
  next_adds loaded = round_adds all (wanted_names mode asked (objects_of all loaded)) loaded

  -- One round after another, at most so many, up to the one that adds nothing.
  abbrev pub rounds : ℕ → List ℕ → Result (List ℕ) Fault
  rounds zero loaded = Ok loaded
  rounds (suc n) loaded = go_on (rounds n) loaded (next_adds loaded)

-- Round 0: the objects that aren't lazy and the members of whole libraries.
abbrev pub at_once : List Candidate → List ℕ
at_once all = map (λ c. c.input) (filter (λ c. not c.by_need) all)

-- An object of the words is read whether or not it is loaded, and so are the members of whole libraries.
abbrev pub is_always_read : Candidate → Bool
is_always_read c = not c.is_member || not c.by_need

-- The fault of the least of these that has one.
abbrev pub always_read_fault : List Candidate → Option Fault
always_read_fault all = first_some (map object_fault (filter is_always_read all))

-- The loaded inputs, or the first fault. A round but the last adds at least one candidate, so as many rounds as there are candidates,
-- and one more, are enough.
abbrev pub loaded_inputs : Mode → List (List ℕ) → List Candidate → Result (List ℕ) Fault
loaded_inputs mode asked all = unless (always_read_fault all) (at_once all) >>= rounds mode asked all (length all + 1)

-- The loaded objects by rising input, or the first fault. Asked are the names that the words ask for: the entry, and those of `-u`
-- and `--export`.
unfoldable pub load : Mode → List (List ℕ) → List Candidate → Result (List Object) Fault
load mode asked all = loaded_inputs mode asked all >>= λ loaded. Ok (objects_of all loaded)
