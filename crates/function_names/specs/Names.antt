-- The names of the functions of the output by number (WebAssembly Core 2.0, appendix 7.4.1).
use Rattle.std.specs.Prelude.{ℕ, ◌+◌, ◌==◌, Bool, false, not, ◌&&◌, List, [], ◌∷◌, flat_map, position, if◌then◌else◌, Option, Some, None}
use Rattle.name_rules.specs.object_file.linking_section.declared.symbol.SymbolKind.TheVariants.{Function}
use Rattle.name_rules.specs.object_file.linking_section.Flags.{is_undefined}
use Rattle.made_symbols.specs.declared.mode.Mode.{Mode}
use Rattle.name_rules.specs.Entries.{InputSymbol, is_kind, name_of}
use Rattle.name_rules.specs.Meanings.{Meaning, here, imported, null, nothing, Resolved}
use Rattle.link_rules.specs.Program.{Program}
use Rattle.link_rules.specs.Keys.{FunctionKey, outside, own, same_function}
use Rattle.link_rules.specs.Values.{Layout}
use Rattle.name_section.specs.Names.{Named}
use Rattle.function_names.specs.Labels.{key_label}

-- ---- what symbols name

abbrev pub import_named : Meaning → Option FunctionKey
import_named (here e) = None
import_named (imported k) = Some (outside k)
import_named null = None
import_named nothing = None

-- A symbol names the function that its own object defines by it, whoever wins its name; any other the import that it means.
abbrev pub function_named : InputSymbol → Meaning → Option FunctionKey
function_named e m = if is_kind Function e && not (is_undefined e.symbol) then Some (own e.input e.index) else import_named m

-- the number of a function, where the output has it
abbrev pub number_in : List FunctionKey → Option FunctionKey → Option ℕ
number_in fs None = None
number_in fs (Some f) = position (same_function f) fs

-- A name, and the number of the function for which a symbol offers it.
pub record Offer : Type 0 where
  pub number : Option ℕ
  pub name : List ℕ

abbrev pub offers_among : List FunctionKey → List InputSymbol → List Meaning → List Offer
offers_among fs [] ms = []
offers_among fs (e ∷ es) [] = []
offers_among fs (e ∷ es) (m ∷ ms) = record { number = number_in fs (function_named e m); name = name_of e } ∷ offers_among fs es ms

-- What all symbols of objects offer, by input and place.
abbrev pub offers : Program → List FunctionKey → List Offer
offers p fs = flat_map (λ r. offers_among fs r.symbols r.meanings) p.resolved

-- ---- the name of a number

abbrev pub is_number : ℕ → Option ℕ → Bool
is_number k None = false
is_number k (Some n) = n == k

-- a name, or another where it is empty
abbrev pub or_name : List ℕ → List ℕ → List ℕ
or_name [] other = other
or_name (b ∷ bs) other = b ∷ bs

-- The first name that is offered, but for empty ones.
abbrev pub offered : ℕ → List Offer → List ℕ
offered k [] = []
offered k (o ∷ os) = or_name (if is_number k o.number then o.name else []) (offered k os)

-- A function without a name has no entry.
abbrev pub named_onto : ℕ → List ℕ → List Named → List Named
named_onto k [] rest = rest
named_onto k (b ∷ bs) rest = record { index = k; name = b ∷ bs } ∷ rest

abbrev pub named_from : Mode → List Offer → ℕ → List FunctionKey → List Named
named_from mode os k [] = []
named_from mode os k (f ∷ fs) = named_onto k (or_name (key_label mode f) (offered k os)) (named_from mode os (k + 1) fs)

-- The named functions of the output, by number: what the linker makes by its own names, any other by the first symbol that names it.
unfoldable pub function_names : Mode → Program → Layout → List Named
function_names mode p l = named_from mode (offers p l.numbers.functions) 0 l.numbers.functions
