-- What `__wasm_call_ctors` calls (Linking.md, "Init Functions").
use Rattle.std.specs.Prelude.{ℕ, zero, suc, ◌+◌, nat_le, List, [], ◌∷◌, ◌++◌, map, filter_map, length, slice_get, if◌then◌else◌, Option, Some, None, option_and_then, pos}
use Rattle.link_program.specs.wl_base.Choice.{given}
use Rattle.link_program.specs.linking_section.declared.init.InitFunc.{InitFunc}
use Rattle.link_program.specs.object_file.declared.object.Object.{Object}
use Rattle.link_program.specs.name_rules.Entries.{InputSymbol, symbols_of}
use Rattle.link_program.specs.name_rules.Meanings.{is_init_use}
use Rattle.link_program.specs.declared.named.Named.{Named}
use Rattle.link_program.specs.declared.named.Named.TheVariants.{Symbol}
use Rattle.program_tables.specs.declared.inits.InitCall.{InitCall}
use Rattle.program_tables.specs.declared.view.Lookups.{Lookups}
use Rattle.program_tables.specs.Views.{View, view_at, called_from}

-- The items by rising keys; those of one key stay as they stand.
abbrev pub insert_by : {A : Type 0} → (A → ℕ) → A → List A → List A
insert_by key x [] = x ∷ []
insert_by key x (y ∷ ys) = if nat_le (key x) (key y) then x ∷ y ∷ ys else y ∷ insert_by key x ys

abbrev pub by_key : {A : Type 0} → (A → ℕ) → List A → List A
by_key key [] = []
by_key key (x ∷ xs) = insert_by key x (by_key key xs)

abbrev pub priority_of : InitCall → ℕ
priority_of c = c.priority

abbrev pub named_of : InitCall → Named
named_of c = c.named

-- The call of an init function by its symbol. There is none where the symbol is defined in a part that isn't kept.
abbrev pub call_by : View → InitFunc → InputSymbol → Option InitCall
call_by v i e = given (is_init_use e) (record { priority = i.priority; named = Symbol 0 0 (pos 0) (called_from v i.symbol) })

abbrev pub call_of : List Object → View → InitFunc → Option InitCall
call_of objects v i = option_and_then (call_by v i) (slice_get (symbols_of objects v.object) i.symbol)

abbrev pub calls_in : List Object → Option View → List InitCall
calls_in objects None = []
calls_in objects (Some v) = filter_map (call_of objects v) v.object.inits

-- The calls of an object, by its place.
abbrev pub calls_of : Lookups → ℕ → List InitCall
calls_of l i = calls_in l.entries.objects.now (view_at l i)

-- Those of the first objects.
abbrev pub calls_upto : Lookups → ℕ → List InitCall
calls_upto l zero = []
calls_upto l (suc n) = calls_upto l n ++ calls_of l n

-- All calls, in their order.
abbrev pub call_names : Lookups → List Named
call_names l = map named_of (by_key priority_of (calls_upto l (length l.entries.objects.now)))
