-- What references are looked up in, and what stands in the place of an immediate or in a word of data.
use Rattle.std.specs.Prelude.{ℕ, ◌==◌, Bool, not, List, find, slice_index_or, Option, Some, None, ℤ, pos, ◌+ℤ◌}
use Rattle.link_program.specs.linking_section.Flags.{kind_code}
use Rattle.link_program.specs.linking_section.declared.symbol.SymbolKind.TheVariants.{Datum}
use Rattle.link_program.specs.reloc_apply.Windows.{bits32}
use Rattle.link_program.specs.link_rules.Values.{Asks, a_function, a_slot, an_address, a_global, a_table, asks}
use Rattle.link_program.specs.declared.symbol.Symbol.{Symbol}
use Rattle.link_program.specs.declared.symbol.Lead.{Lead}
use Rattle.link_program.specs.declared.symbol.Lead.TheVariants as leads
use Rattle.link_program.specs.declared.keys.FunctionKey.{FunctionKey}
use Rattle.link_program.specs.declared.keys.GlobalKey.{GlobalKey}
use Rattle.link_program.specs.declared.named.Named.{Named}
use Rattle.link_program.specs.declared.named.Named.TheVariants as names
use Rattle.link_program.specs.declared.program.Tables.{Tables}
use Rattle.link_program.specs.Seen.{no_symbol}
use Rattle.link_keys.specs.Noted.{where_so}
use Rattle.link_keys.specs.declared.codes.Code.{Code}
use Rattle.sym_parts.specs.declared.sought.Sought.{Sought}

-- The tables of the program, what the cell of the address of each symbol would hold, and all functions and cells.
pub record Known : Type 0 where
  pub tables : Tables
  pub bases : List ℕ
  pub functions : List FunctionKey
  pub cells : List GlobalKey

abbrev pub known : Sought → Known
known s = record { tables = s.tables.now; bases = s.bases.now; functions = s.functions.now; cells = s.cells.now }

-- ---- what stands at a place of a part

abbrev pub named_place : Named → ℕ
named_place (names.Symbol kind place addend symbol) = place
named_place (names.Type place number) = place

abbrev pub named_at : List Named → ℕ → Option Named
named_at row place = find (λ n. named_place n == place) row

abbrev pub place_code : Named → Code
place_code named = record { kind = 0; input = 0; index = named_place named }

-- ---- numbers

abbrev pub symbol_of : Known → ℕ → Symbol
symbol_of k symbol = slice_index_or k.tables.symbols symbol no_symbol

abbrev pub base_of : Known → ℕ → ℕ
base_of k symbol = slice_index_or k.bases symbol 0

abbrev pub is_datum : ℕ → Bool
is_datum kind = kind == kind_code Datum

-- The slot of a function. That of null is 0; what means nothing has none, and stands for the first one.
abbrev pub slot_in : Lead → ℕ → Option ℕ
slot_in (leads.Here d) base = where_so (not (is_datum (kind_code d.kind))) (Some (bits32 (pos base +ℤ pos 0)))
slot_in (leads.Import n) base = Some (bits32 (pos base +ℤ pos 0))
slot_in leads.Null base = Some 0
slot_in leads.Nothing base = Some 1

-- The address of a datum and an addend, which isn't added to that of null.
abbrev pub address_in : Lead → ℕ → ℤ → Option ℕ
address_in (leads.Here d) base addend = where_so (is_datum (kind_code d.kind)) (Some (bits32 (pos base +ℤ addend)))
address_in (leads.Import n) base addend = Some (bits32 (pos 0 +ℤ addend))
address_in leads.Null base addend = Some 0
address_in leads.Nothing base addend = Some (bits32 (pos 0 +ℤ addend))

abbrev pub asked : Asks → Lead → ℕ → ℤ → Option ℕ
asked a_function lead base addend = None
asked a_slot lead base addend = slot_in lead base
asked an_address lead base addend = address_in lead base addend
asked a_global lead base addend = None
asked a_table lead base addend = None

-- The slot or address that an item stands for. No other item stands where a number is asked for, and there is no answer for one.
abbrev pub number_named : Known → Named → Option ℕ
number_named k (names.Symbol kind place addend symbol) = asked (asks kind) (symbol_of k symbol).lead (base_of k symbol) addend
number_named k (names.Type place number) = None
