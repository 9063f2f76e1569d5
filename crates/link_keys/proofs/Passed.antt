-- References that are passed over.
use Rattle.std.proofs.Common.{◌≡◌, ℕ, ◌==◌, Bool, true, false, not, ◌&&◌, ◌||◌, List, map, get_or, Option, Some, None, refl, sym, ap, ◌∙◌}
use Rattle.std.proofs.Math.ListN.{get_or-map}
use Rattle.std.proofs.lemmas.Bool.{or_parts}
use Rattle.link_program.specs.linking_section.declared.symbol.SymbolKind.{SymbolKind}
use Rattle.link_program.specs.linking_section.declared.symbol.SymbolKind.TheVariants.{Function, Datum, GlobalVar, Section, Table}
use Rattle.link_program.specs.linking_section.Flags.{kind_code}
use Rattle.link_program.specs.declared.symbol.Symbol.{Symbol}
use Rattle.link_program.specs.declared.symbol.Definition.{Definition}
use Rattle.link_program.specs.declared.symbol.Lead.{Lead}
use Rattle.link_program.specs.declared.symbol.Lead.TheVariants.{Here, Import, Null, Nothing}
use Rattle.link_program.specs.Meant.{cell_meant}
use Rattle.link_program.specs.Seen.{no_symbol}
use Rattle.link_keys.specs.Asked.{sort_of, sort_at, takes_slot, asks_nothing}
use Rattle.link_keys.specs.declared.asked.Sort.{Sort}
use Rattle.link_keys.specs.Noted.{Noted, where_so, import_named, stub_called, function_meant, function_taken, asks_slot, cell_read, reads_cell, flagged, taking, reading, noted_ref}

not_true : (b : Bool) → not b ≡ true → b ≡ false
not_true true e = absurd cc
not_true false e = refl

and_none : (b : Bool) → (b && false) ≡ false
and_none true = refl
and_none false = refl

and_first : (a b : Bool) → a ≡ false → (a && b) ≡ false
and_first a b e = ap (λ x. x && b) e

or_none : (a b : Bool) → a ≡ false → b ≡ false → (a || b) ≡ false
or_none a b one two = ap (λ x. x || b) one ∙ two

module _ (code : Bool) (kind : ℕ) (m : Noted) where
  pass : (s : Symbol) → import_named s.lead ≡ None → stub_called kind s ≡ None → function_taken kind s ≡ None → cell_read code kind s ≡ None → noted_ref code kind s m ≡ m
  pass s import stub taken cell =
      λ j. reading (taking (record m { imports = flagged m.imports (import j); stubs = flagged m.stubs (stub j) }) (taken j)) (cell j)

  -- a reference to a definition that takes no slot and reads no cell
  own : (k : SymbolKind) (name : Option ℕ) (d : Definition) → asks_slot kind k ≡ false → reads_cell kind k ≡ false
      → noted_ref code kind (record { kind = k; name = name; lead = Here d }) m ≡ m
  own k name d slot cell =
      let s : Symbol = record { kind = k; name = name; lead = Here d } in
      pass s refl (ap (λ b. where_so b name) (and_none (kind == 0))) (ap (λ b. where_so b (function_meant (Here d))) slot)
      (ap (λ b. where_so (code && b) (Some (cell_meant (kind_code k) (Here d)))) cell ∙ ap (λ b. where_so b (Some (cell_meant (kind_code k) (Here d)))) (and_none code))

  other : (k : SymbolKind) (name : Option ℕ) (d : Definition) (function global : Bool) → asks_slot kind k ≡ (takes_slot kind || ((kind == 7) && function))
      → reads_cell kind k ≡ ((kind == 7) && global) → not (takes_slot kind || (kind == 7)) ≡ true → noted_ref code kind (record { kind = k; name = name; lead = Here d }) m ≡ m
  other k name d function global slot cell none =
      let parts = or_parts (takes_slot kind) (kind == 7) (not_true (takes_slot kind || (kind == 7)) none) in
      own k name d (slot ∙ or_none (takes_slot kind) ((kind == 7) && function) parts.0 (and_first (kind == 7) function parts.1)) (cell ∙ and_first (kind == 7) global parts.1)

  by_symbol : (k : SymbolKind) (name : Option ℕ) (lead : Lead) → asks_nothing kind (sort_of (record { kind = k; name = name; lead = lead })) ≡ true
      → noted_ref code kind (record { kind = k; name = name; lead = lead }) m ≡ m
  by_symbol Function name (Here d) none = other Function name d true true refl refl none
  by_symbol Datum name (Here d) none = other Datum name d false true refl refl none
  by_symbol GlobalVar name (Here d) none =
      own GlobalVar name d (or_none (takes_slot kind) ((kind == 7) && false) (not_true (takes_slot kind) none) (and_none (kind == 7))) (and_none (kind == 7))
  by_symbol Section name (Here d) none = other Section name d false true refl refl none
  by_symbol Table name (Here d) none = other Table name d false true refl refl none
  by_symbol k name (Import n) none = absurd cc
  by_symbol k name Null none = absurd cc
  by_symbol k name Nothing none = absurd cc

  pub nothing_asked : (symbols : List Symbol) (sorts : List Sort) (at : ℕ) → sorts ≡ map sort_of symbols → asks_nothing kind (sort_at sorts at) ≡ true
      → m ≡ noted_ref code kind (get_or symbols at no_symbol) m
  nothing_asked symbols sorts at are none =
      let s : Symbol = get_or symbols at no_symbol in
      let sort : sort_at sorts at ≡ sort_of s = ap (λ ss. sort_at ss at) are ∙ get_or-map sort_of symbols at no_symbol in
      sym (by_symbol s.kind s.name s.lead (ap (asks_nothing kind) (sym sort) ∙ none))
