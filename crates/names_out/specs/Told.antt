-- The names of functions, as the data of a link tell them.
use Rattle.std.specs.Prelude.{ℕ, ◌+◌, ◌-◌, ◌==◌, ◌&&◌, Bool, false, not, List, [], ◌∷◌, ◌++◌, map, fold, length, drop, position, slice_get, slice_index_or, slice_set, if◌then◌else◌, unwrap_or, Option, Some, None}
use Rattle.link_program.specs.object_file.declared.object.Object.{Object}
use Rattle.link_program.specs.object_file.Spaces.{function_imports}
use Rattle.link_program.specs.linking_section.declared.symbol.Symbol as object_symbols
use Rattle.link_program.specs.linking_section.declared.symbol.SymbolKind.TheVariants.{Function}
use Rattle.link_program.specs.linking_section.Flags.{kind_code, is_undefined}
use Rattle.link_program.specs.made_symbols.declared.mode.Mode.{Mode}
use Rattle.link_program.specs.made_symbols.Made.{made_at}
use Rattle.link_program.specs.link_rules.ModeOf.{mode_of}
use Rattle.link_program.specs.declared.symbol.Symbol.{Symbol}
use Rattle.link_program.specs.declared.symbol.Lead.{Lead}
use Rattle.link_program.specs.declared.symbol.Lead.TheVariants as leads
use Rattle.link_program.specs.declared.keys.FunctionKey.{FunctionKey}
use Rattle.link_program.specs.declared.keys.FunctionKey.TheVariants as functions
use Rattle.link_program.specs.Keys.{same_function_key}
use Rattle.link_layout.specs.declared.values.Layout.{Layout}
use Rattle.name_section.specs.Names.{Named}
use Rattle.function_names.specs.Labels.{stub_label}
use Rattle.function_names.specs.Names.{Offer, or_name, named_onto}
use Rattle.names_out.specs.declared.labels.Label.{Label}

-- ---- names in pieces

abbrev pub label_seen : Label → List ℕ
label_seen l = l.prefix.now ++ l.name.now

-- the name that a function has by itself, by the names
abbrev pub key_label_told : Mode → List (List ℕ) → FunctionKey → List ℕ
key_label_told mode names (functions.Import n) = []
key_label_told mode names (functions.Own input index) = if input == 0 then (made_at mode index).name else []
key_label_told mode names (functions.Stub n) = stub_label (slice_index_or names n [])

-- ---- what symbols name

abbrev pub import_named_told : Lead → Option FunctionKey
import_named_told (leads.Here d) = None
import_named_told (leads.Import n) = Some (functions.Import n)
import_named_told leads.Null = None
import_named_told leads.Nothing = None

-- the function that a symbol of an object names, where so many functions are imported
abbrev pub function_named_told : ℕ → ℕ → object_symbols.Symbol → Lead → Option FunctionKey
function_named_told input imported s lead =
    if (kind_code s.kind == kind_code Function) && not (is_undefined s) then Some (functions.Own input (s.index - imported)) else import_named_told lead

abbrev pub number_told : List FunctionKey → Option FunctionKey → Option ℕ
number_told fs None = None
number_told fs (Some f) = position (same_function_key f) fs

abbrev pub lead_at : Option Symbol → Lead
lead_at None = leads.Nothing
lead_at (Some s) = s.lead

-- ---- what an object's symbols offer, beside what they lead to

module _ (fs : List FunctionKey) (input imported : ℕ) where
  abbrev pub offer_at : Option object_symbols.Symbol → Option Symbol → Offer
  offer_at None l = record { number = None; name = [] }
  offer_at (Some s) l = record { number = number_told fs (function_named_told input imported s (lead_at l)); name = unwrap_or s.name [] }

  abbrev pub offers_told : List object_symbols.Symbol → List Symbol → List Offer
  offers_told [] ls = []
  offers_told (s ∷ ss) ls = offer_at (Some s) (slice_get ls 0) ∷ offers_told ss (drop 1 ls)

-- The same of objects, whose symbols stand one object behind another.
abbrev pub offers_rows : List FunctionKey → List Object → List Symbol → List Offer
offers_rows fs [] ls = []
offers_rows fs (o ∷ os) ls = offers_told fs o.input (length (function_imports o)) o.symbols ls ++ offers_rows fs os (drop (length o.symbols) ls)

-- ---- tables of names, by number

abbrev pub taken_by : List (List ℕ) → Option ℕ → List ℕ → List (List ℕ)
taken_by table None name = table
taken_by table (Some n) name = slice_set table n (or_name (slice_index_or table n []) name)

-- the table after a name was offered: the first one stays
abbrev pub taking : List (List ℕ) → Offer → List (List ℕ)
taking table o = taken_by table o.number o.name

-- the table of a link
abbrev pub labels_told : Layout → List (List ℕ)
labels_told d =
    fold taking (map (key_label_told (mode_of d.program.plan.now) d.program.names.now.names) d.numbering.now.functions)
    (offers_rows d.numbering.now.functions d.program.objects.now d.program.tables.now.symbols)

-- the functions that have names
abbrev pub listed_from : ℕ → List (List ℕ) → List Named
listed_from k [] = []
listed_from k (name ∷ names) = named_onto k name (listed_from (k + 1) names)
