-- Worked rows: which inputs are loaded.
use Rattle.std.specs.Prelude.{◌≡◌, ℕ, false, true, List, [], ◌∷◌, Some, Result, Ok, Err, codes}
use Rattle.std.proofs.Common.{refl}
use Rattle.object_file.specs.wl_base.declared.fault.Fault.{Fault}
use Rattle.object_file.specs.wl_base.declared.fault.Fault.TheVariants.{IndexLies, Malformed}
use Rattle.object_file.specs.wl_base.declared.fault.Part.TheVariants.{Frame}
use Rattle.object_file.specs.linking_section.declared.symbol.Symbol.{Symbol}
use Rattle.object_file.specs.linking_section.declared.symbol.SymbolKind.TheVariants.{Function}
use Rattle.object_file.specs.declared.object.Object.{Object}
use Rattle.made_symbols.specs.declared.mode.Mode.TheVariants.{Plain}
use Rattle.round_rules.specs.Rounds.{Candidate, loaded_inputs}

-- ---- small candidates

-- a function's symbol with these flags; one that is defined; one that is undefined; and one that is undefined and WEAK
abbrev pub symbol : ℕ → List ℕ → Symbol
symbol flags name = record { kind = Function; flags = flags; name = Some name; index = 0; offset = 0; size = 0 }

abbrev pub defines : List ℕ → Symbol
defines name = symbol 0 name

abbrev pub needs : List ℕ → Symbol
needs name = symbol 0x10 name

abbrev pub may_use : List ℕ → Symbol
may_use name = symbol 0x11 name

abbrev pub object : ℕ → List Symbol → Object
object input symbols = record { input = input; types = []; imports = []; functions = []; globals = []; segments = []; symbols = symbols; inits = []; groups = [] }

-- an object of the words
abbrev pub plain : ℕ → List Symbol → Candidate
plain input symbols = record { input = input; file = input; start = 0; len = 0; is_member = false; by_need = false; offers = []; object = Ok (object input symbols) }

-- a member of a library whose index gives these names for it
abbrev pub member : ℕ → List (List ℕ) → Result Object Fault → Candidate
member input offers read = record { input = input; file = 2; start = 8; len = 0; is_member = true; by_need = true; offers = offers; object = read }

abbrev pub holding : ℕ → List (List ℕ) → List Symbol → Candidate
holding input offers symbols = member input offers (Ok (object input symbols))

-- a member of a whole library
abbrev pub whole_member : ℕ → List (List ℕ) → List Symbol → Candidate
whole_member input offers symbols = record { input = input; file = 2; start = 8; len = 0; is_member = true; by_need = false; offers = offers; object = Ok (object input symbols) }

-- an object between `--start-lib` and `--end-lib`, which defines these names
abbrev pub lazy_object : ℕ → List (List ℕ) → Result Object Fault → Candidate
lazy_object input offers read = record { input = input; file = input; start = 0; len = 0; is_member = false; by_need = true; offers = offers; object = read }

abbrev pub a : List ℕ
a = codes "a"

abbrev pub b : List ℕ
b = codes "b"

-- ---- rows

-- Input 1 needs a, which input 3 defines; that needs b, which input 2 defines: it is loaded in a round of its own. Nothing needs input 4.
two_rounds : loaded_inputs Plain [] (plain 1 (needs a ∷ []) ∷ holding 2 (b ∷ []) (defines b ∷ []) ∷ holding 3 (a ∷ []) (defines a ∷ needs b ∷ []) ∷ holding 4 (codes "c" ∷ []) (defines (codes "c") ∷ []) ∷ []) ≡ Ok (1 ∷ 3 ∷ 2 ∷ [])
two_rounds = refl

-- A WEAK reference loads nothing.
weak_reference : loaded_inputs Plain [] (plain 1 (may_use a ∷ []) ∷ holding 2 (a ∷ []) (defines a ∷ []) ∷ []) ≡ Ok (1 ∷ [])
weak_reference = refl

-- A name that the words ask for loads a member, and of two that offer it the least.
asked : loaded_inputs Plain (a ∷ []) (holding 1 (a ∷ []) (defines a ∷ []) ∷ holding 2 (a ∷ []) (defines a ∷ []) ∷ []) ≡ Ok (1 ∷ [])
asked = refl

-- A name that the linker makes loads nothing, nor does one that a loaded object defines.
defined : loaded_inputs Plain (codes "__heap_base" ∷ a ∷ []) (plain 1 (defines a ∷ []) ∷ holding 2 (codes "__heap_base" ∷ a ∷ []) [] ∷ []) ≡ Ok (1 ∷ [])
defined = refl

-- A WEAK definition of an object counts as one, a LOCAL one doesn't.
defined_weak : loaded_inputs Plain (a ∷ []) (plain 1 (symbol 1 a ∷ []) ∷ holding 2 (a ∷ []) (defines a ∷ []) ∷ []) ≡ Ok (1 ∷ [])
defined_weak = refl

defined_local : loaded_inputs Plain (a ∷ []) (plain 1 (symbol 2 a ∷ []) ∷ holding 2 (a ∷ []) (defines a ∷ []) ∷ []) ≡ Ok (1 ∷ 2 ∷ [])
defined_local = refl

-- The index gives b and a for input 2, which defines neither: the least name is told.
index_lies : loaded_inputs Plain [] (plain 1 (needs b ∷ needs a ∷ []) ∷ holding 2 (b ∷ a ∷ []) [] ∷ []) ≡ Err (IndexLies 2 a)
index_lies = refl

-- The index of a whole library gives a for input 2, which doesn't define it: it is loaded already, and nothing is added for a.
loaded_already : loaded_inputs Plain [] (plain 1 (needs a ∷ []) ∷ whole_member 2 (a ∷ []) [] ∷ []) ≡ Ok (1 ∷ 2 ∷ [])
loaded_already = refl

-- A broken member is refused once a round adds it, here the second, and not where nothing needs it.
broken : loaded_inputs Plain [] (plain 1 (needs a ∷ []) ∷ holding 2 (a ∷ []) (defines a ∷ needs b ∷ []) ∷ member 3 (b ∷ []) (Err (Malformed 3 Frame)) ∷ []) ≡ Err (Malformed 3 Frame)
broken = refl

broken_not_needed : loaded_inputs Plain [] (plain 1 (needs a ∷ []) ∷ holding 2 (a ∷ []) (defines a ∷ []) ∷ member 3 (b ∷ []) (Err (Malformed 3 Frame)) ∷ []) ≡ Ok (1 ∷ 2 ∷ [])
broken_not_needed = refl

-- The index lies for input 3 in the first round: this is told before the fault of input 2, which the second would add.
first_round_first : loaded_inputs Plain [] (plain 1 (needs a ∷ []) ∷ member 2 (b ∷ []) (Err (Malformed 2 Frame)) ∷ holding 3 (a ∷ []) (needs b ∷ []) ∷ []) ≡ Err (IndexLies 3 a)
first_round_first = refl

-- A lazy object is loaded by need, and is read whether or not it is.
lazy : loaded_inputs Plain [] (lazy_object 1 (a ∷ []) (Ok (object 1 (defines a ∷ []))) ∷ lazy_object 2 (b ∷ []) (Ok (object 2 (defines b ∷ []))) ∷ plain 3 (needs b ∷ []) ∷ []) ≡ Ok (3 ∷ 2 ∷ [])
lazy = refl

broken_lazy : loaded_inputs Plain [] (plain 1 [] ∷ lazy_object 2 (a ∷ []) (Err (Malformed 2 Frame)) ∷ []) ≡ Err (Malformed 2 Frame)
broken_lazy = refl

-- The two members of a library need one another.
each_other : loaded_inputs Plain [] (plain 1 (needs a ∷ []) ∷ holding 2 (a ∷ []) (defines a ∷ needs b ∷ []) ∷ holding 3 (b ∷ []) (defines b ∷ needs a ∷ []) ∷ []) ≡ Ok (1 ∷ 2 ∷ 3 ∷ [])
each_other = refl
