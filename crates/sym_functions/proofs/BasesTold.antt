-- What the cells of addresses hold is told, and so are slots and addresses.
use Rattle.std.proofs.Common.{◌≡◌, ℕ, zero, suc, ◌+◌, ◌==◌, Bool, true, false, not, ◌&&◌, ◌||◌, List, [], ◌∷◌, map, filter, Some, unwrap_or, refl, sym, ap, ◌∙◌, ℤ, pos}
use Rattle.std.specs.Prelude.{if◌then◌else◌, slice_index_or, ◌+ℤ◌}
use Rattle.std.specs.List.{list_any, All}
use Rattle.std.proofs.lemmas.List.Elements.{All-head, All-tail}
use Rattle.link_program.specs.linking_section.Flags.{kind_code}
use Rattle.link_program.specs.linking_section.declared.symbol.SymbolKind.TheVariants.{Datum}
use Rattle.link_program.specs.made_symbols.declared.mode.Mode.TheVariants.{Plain}
use Rattle.link_program.specs.index_layout.Numbers.{number_by}
use Rattle.link_program.specs.reloc_apply.Windows.{bits32}
use Rattle.link_program.specs.name_rules.Entries.{InputSymbol, ImportKey, name_of}
use Rattle.link_program.specs.name_rules.Meanings.{Meaning, here, imported, null, nothing, is_nothing}
use Rattle.link_program.specs.link_rules.Program as rules
use Rattle.link_program.specs.link_rules.Program.{Ref}
use Rattle.link_program.specs.link_rules.Marks.{refs_of}
use Rattle.link_program.specs.link_rules.Keys as keys
use Rattle.link_program.specs.link_rules.Keys.{outside, linker_function, stub, own, same_function, got_entry, got_of, is_null, ref_function, meant_function, takes_slot, is_taken}
use Rattle.link_program.specs.link_rules.Values as values
use Rattle.link_program.specs.link_rules.Values.{Asks, a_function, a_slot, an_address, a_global, a_table, target_by, addend_by}
use Rattle.link_program.specs.link_rules.Output.{layout}
use Rattle.link_program.specs.Told.{told_lead, told_symbol}
use Rattle.link_program.specs.Seen.{no_symbol}
use Rattle.link_program.specs.Keys.{told_function, same_function_key}
use Rattle.link_program.specs.Meant.{function_of}
use Rattle.link_keys.specs.Noted.{where_so}
use Rattle.link_keys.proofs.Any.{any_filter}
use Rattle.link_keys.proofs.Positions.{position_none}
use Rattle.link_keys.proofs.Imports.{both}
use Rattle.link_numbers.specs.Knows.{KnowsFunction}
use Rattle.link_image.specs.link_layout.declared.values.Layout.{Layout}
use Rattle.link_image.specs.link_layout.Layout.{IsLayoutIn}
use Rattle.link_image.proofs.link_layout_lemmas.KeysTold.{function_told, function_known}
use Rattle.link_image.proofs.link_loader_lemmas.Known.{tells}
use Rattle.sym_functions.specs.Bases.{base_seen}
use Rattle.sym_parts.specs.Sought.{slot_in, address_in, asked}
use Rattle.sym_functions.proofs.Known.{KnownMeaning}
use Rattle.sym_functions.proofs.PlainLayout.{plain_stands}

-- An item of a list that is mapped, where what stands for none is mapped too.
pub mapped_or : {A B : Type 0} (f : A → B) (xs : List A) (i : ℕ) (x : A) → slice_index_or (map f xs) i (f x) ≡ f (slice_index_or xs i x)
mapped_or f [] i x = refl
mapped_or f (y ∷ xs) zero x = refl
mapped_or f (y ∷ xs) (suc i) x = mapped_or f xs i x

-- ---- stubs have no slots

abbrev NoStub : List ℕ → keys.FunctionKey → Type 0
NoStub name f = same_function (stub name) f ≡ false

meant_no_stub : (name : List ℕ) (of : List ℕ) (m : Meaning) → is_null m ≡ false → is_nothing m ≡ false → same_function (stub name) (meant_function of m) ≡ false
meant_no_stub name of (here e) full none = by_input (e.input == 0)
  where
    by_input : (r : Bool) → same_function (stub name) (if r then linker_function e.place else own e.input e.index) ≡ false
    by_input true = refl
    by_input false = refl
meant_no_stub name of (imported k) full none = refl
meant_no_stub name of null full none = absurd cc
meant_no_stub name of nothing full none = absurd cc

not_true : (b : Bool) → not b ≡ true → b ≡ false
not_true true e = absurd cc
not_true false e = refl

taken_no_stub : (name : List ℕ) (rs : List Ref) → All (λ ref. is_nothing ref.meaning ≡ false) rs → list_any (same_function (stub name)) (map ref_function (filter (takes_slot Plain) rs)) ≡ false
taken_no_stub name [] meant = refl
taken_no_stub name (ref ∷ rs) meant = by_takes (takes_slot Plain ref) refl (taken_no_stub name rs (All-tail (λ ref. is_nothing ref.meaning ≡ false) ref rs meant))
  where
    by_takes : (r : Bool) → takes_slot Plain ref ≡ r → list_any (same_function (stub name)) (map ref_function (filter (takes_slot Plain) rs)) ≡ false
        → list_any (same_function (stub name)) (map ref_function (if r then ref ∷ filter (takes_slot Plain) rs else filter (takes_slot Plain) rs)) ≡ false
    by_takes true takes rest =
        let some = (both (not (is_null ref.meaning)) _ takes).0 in
        ap (λ b. b || list_any (same_function (stub name)) (map ref_function (filter (takes_slot Plain) rs)))
        (meant_no_stub name (name_of ref.entry) ref.meaning (not_true (is_null ref.meaning) some) (All-head (λ ref. is_nothing ref.meaning ≡ false) ref rs meant))
        ∙ rest
    by_takes false takes rest = rest

-- a stub that is among functions isn't taken
stub_not_taken : (taken : List keys.FunctionKey) (name : List ℕ) → ((n : List ℕ) → list_any (same_function (stub n)) taken ≡ false) → (fs : List keys.FunctionKey)
    → list_any (λ f. is_taken taken f && same_function (stub name) f) fs ≡ false
stub_not_taken taken name none [] = refl
stub_not_taken taken name none (f ∷ fs) = ap (λ b. b || list_any (λ f. is_taken taken f && same_function (stub name) f) fs) (one f) ∙ stub_not_taken taken name none fs
  where
    off : (b : Bool) → (b && false) ≡ false
    off true = refl
    off false = refl

    one : (f : keys.FunctionKey) → (is_taken taken f && same_function (stub name) f) ≡ false
    one (outside k) = off (is_taken taken (outside k))
    one (linker_function n) = off (is_taken taken (linker_function n))
    one (stub n) = ap (λ b. b && same_function (stub name) (stub n)) (none n)
    one (own input index) = off (is_taken taken (own input index))

module _ (p : rules.Program) (parts : List rules.Part) (es : List InputSymbol) (d : Layout) (is : IsLayoutIn Plain p parts es d) where
  abbrev pub the_layout : values.Layout
  the_layout = layout Plain p parts es

  abbrev names : List (List ℕ)
  names = d.program.names.now.names

  abbrev imports : List ImportKey
  imports = d.program.resolution.now.imports

  slot_told : (f : keys.FunctionKey) → KnowsFunction names imports f
      → d.numbering.now.first_slot + number_by same_function_key d.numbering.now.slots (told_function names imports f) ≡ keys.slot_of the_layout.numbers f
  unfolding layout
  slot_told f known =
      (λ i. is.numbering.first_slot i + number_by same_function_key (is.numbering.slots i) (told_function names imports f))
      ∙ ap (λ n. the_layout.numbers.first_slot + n) ((tells Plain p parts es d (plain_stands p parts es d is)).slots f known)

  entry_told : (e : InputSymbol) (r : Bool) → (if r then values.address_of Plain the_layout e else d.numbering.now.first_slot + number_by same_function_key d.numbering.now.slots (told_function names imports (keys.function_of e)))
      ≡ (if r then values.address_of Plain the_layout e else keys.slot_of the_layout.numbers (keys.function_of e))
  entry_told e true = refl
  entry_told e false = slot_told (keys.function_of e) (function_known names imports e)

  -- what the cell of the address of a symbol holds
  pub base_told : (all : List InputSymbol) (e : InputSymbol) (m : Meaning) → KnownMeaning imports all e m
      → base_seen the_layout d.numbering.now (told_symbol names imports e m) ≡ values.got_value Plain the_layout (got_of (kind_code e.symbol.kind) m)
  base_told all e (here x) known =
      ap (λ f. if kind_code x.symbol.kind == kind_code Datum then values.address_of Plain the_layout x else d.numbering.now.first_slot + number_by same_function_key d.numbering.now.slots f)
      (function_told names imports x)
      ∙ entry_told x (kind_code x.symbol.kind == kind_code Datum)
  base_told all e (imported k) known = slot_told (outside k) known
  base_told all e null known = refl
  base_told all e nothing known = refl

  pub base_at : (bases : List ℕ) → bases ≡ map (base_seen the_layout d.numbering.now) d.program.tables.now.symbols → (symbol : ℕ)
      → slice_index_or bases symbol 0 ≡ base_seen the_layout d.numbering.now (slice_index_or d.program.tables.now.symbols symbol no_symbol)
  base_at bases are symbol = ap (λ bs. slice_index_or bs symbol 0) are ∙ mapped_or (base_seen the_layout d.numbering.now) d.program.tables.now.symbols symbol no_symbol

  -- the slot of a stub, which has none, is the first one
  stub_slot : (name : List ℕ) → keys.slot_of the_layout.numbers (stub name) ≡ 1
  unfolding layout keys.slots
  stub_slot name =
      let taken = map ref_function (filter (takes_slot Plain) (refs_of parts)) in
      let fs = keys.functions Plain p parts in
      ap (λ o. 1 + unwrap_or o 0)
      (position_none (same_function (stub name)) (filter (is_taken taken) fs)
      (any_filter (same_function (stub name)) (is_taken taken) fs ∙ stub_not_taken taken name (λ n. taken_no_stub n (refs_of parts) is.meant) fs))

  -- ---- numbers

  some_is : {A : Type 0} (a b : A) → Some a ≡ Some b → a ≡ b
  some_is a b e = cc

  slot_here : (x : InputSymbol) (base n : ℕ) → base ≡ values.got_value Plain the_layout (got_entry x) → (r : Bool) → (kind_code x.symbol.kind == kind_code Datum) ≡ r
      → where_so (not r) (Some (bits32 (pos base +ℤ pos 0))) ≡ Some n → n ≡ bits32 (pos (keys.slot_of the_layout.numbers (keys.function_of x)) +ℤ pos 0)
  slot_here x base n at true kind is = absurd cc
  slot_here x base n at false kind is =
      sym (some_is (bits32 (pos base +ℤ pos 0)) n is)
      ∙ ap (λ b. bits32 (pos b +ℤ pos 0)) (at ∙ ap (λ b. if b then values.address_of Plain the_layout x else keys.slot_of the_layout.numbers (keys.function_of x)) kind)

  slot_is : (ref : Ref) (m : Meaning) → ref.meaning ≡ m → (base n : ℕ) → base ≡ values.got_value Plain the_layout (got_of (kind_code ref.entry.symbol.kind) m)
      → slot_in (told_lead imports m) base ≡ Some n → n ≡ bits32 (pos (if is_null m then 0 else keys.slot_of the_layout.numbers (meant_function (name_of ref.entry) m)) +ℤ pos 0)
  slot_is ref (here x) means base n at is = slot_here x base n at (kind_code x.symbol.kind == kind_code Datum) refl is
  slot_is ref (imported k) means base n at is = sym (some_is (bits32 (pos base +ℤ pos 0)) n is) ∙ ap (λ b. bits32 (pos b +ℤ pos 0)) at
  slot_is ref null means base n at is = sym (some_is 0 n is)
  slot_is ref nothing means base n at is = sym (some_is 1 n is) ∙ ap (λ b. bits32 (pos b +ℤ pos 0)) (sym (stub_slot (name_of ref.entry)))

  address_here : (x : InputSymbol) (addend : ℤ) (base n : ℕ) → base ≡ values.got_value Plain the_layout (got_entry x) → (r : Bool) → (kind_code x.symbol.kind == kind_code Datum) ≡ r
      → where_so r (Some (bits32 (pos base +ℤ addend))) ≡ Some n → n ≡ bits32 (pos (values.address_of Plain the_layout x) +ℤ addend)
  address_here x addend base n at false kind is = absurd cc
  address_here x addend base n at true kind is =
      sym (some_is (bits32 (pos base +ℤ addend)) n is)
      ∙ ap (λ b. bits32 (pos b +ℤ addend)) (at ∙ ap (λ b. if b then values.address_of Plain the_layout x else keys.slot_of the_layout.numbers (keys.function_of x)) kind)

  address_is : (kind : ℕ) (m : Meaning) (addend : ℤ) (base n : ℕ) → base ≡ values.got_value Plain the_layout (got_of kind m)
      → address_in (told_lead imports m) base addend ≡ Some n → n ≡ bits32 (pos (values.meant_address Plain the_layout m) +ℤ values.meant_addend m addend)
  address_is kind (here x) addend base n at is = address_here x addend base n at (kind_code x.symbol.kind == kind_code Datum) refl is
  address_is kind (imported k) addend base n at is = sym (some_is (bits32 (pos 0 +ℤ addend)) n is)
  address_is kind null addend base n at is = sym (some_is 0 n is)
  address_is kind nothing addend base n at is = sym (some_is (bits32 (pos 0 +ℤ addend)) n is)

  -- what is asked for by a reference
  pub asked_is : (ref : Ref) (a : Asks) (base n : ℕ) → base ≡ values.got_value Plain the_layout (got_of (kind_code ref.entry.symbol.kind) ref.meaning)
      → asked a (told_lead imports ref.meaning) base ref.addend ≡ Some n → n ≡ bits32 (pos (target_by Plain the_layout ref a) +ℤ addend_by ref a)
  asked_is ref a_function base n at is = absurd cc
  asked_is ref a_slot base n at is = slot_is ref ref.meaning refl base n at is
  asked_is ref an_address base n at is = address_is (kind_code ref.entry.symbol.kind) ref.meaning ref.addend base n at is
  asked_is ref a_global base n at is = absurd cc
  asked_is ref a_table base n at is = absurd cc
