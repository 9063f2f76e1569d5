-- A foreign item in the section stays the answer, whatever bytes follow.
use Rattle.std.proofs.Common.{◌≡◌, ℕ, zero, suc, ◌-◌, ◌≤◌, Bool, true, false, cond, eqb, not, List, [], ◌∷◌, ◌++◌, length, Some, None, Result, Ok, Err, refl, ap, subst, ◌∙◌, append_assoc, arith}
use Rattle.std.proofs.lemmas.List.{append-nil, length-append}
use Rattle.wasm_grammar.specs.wl_base.declared.item.Item.{Item}
use Rattle.wasm_grammar.specs.wl_base.declared.item.Item.TheVariants as items
use Rattle.wasm_grammar.specs.declared.fault.Stop.{Stop}
use Rattle.wasm_grammar.specs.declared.fault.Stop.TheVariants.{Broken, Foreign}
use Rattle.wasm_grammar.specs.Grammar.{SpellsByte, SpellsU32, SpellsBytes, SpellsName, SpellsVector}
use Rattle.wasm_grammar.specs.Readers.{IsReader}
use Rattle.wasm_grammar.specs.Reading.{Read, ◌>>=◌, byte_at, u32_at, name_at, part_at, vector_at, whole}
use Rattle.wasm_grammar.specs.ReaderLaws.{byte_reader, u32_reader, name_reader, part_reader, vector_reader}
use Rattle.wasm_grammar.specs.Stays.{Stays, IsSteady, extends, bind_stays, step_stays, cond_stays, never_stays, byte_stays, u32_stays, name_stays, part_stays, vector_stays, whole_stays}
use Rattle.linking_section.specs.declared.symbol.SymbolKind.{SymbolKind}
use Rattle.linking_section.specs.declared.symbol.SymbolKind.TheVariants.{Function, Datum, GlobalVar, Section, Table}
use Rattle.linking_section.specs.declared.linking.Found.{Found}
use Rattle.linking_section.specs.Flags.{has_bit, is_foreign_symbol, is_foreign_segment, is_named}
use Rattle.linking_section.specs.Linking.{SpellsUnless, SpellsSegmentInfo, SpellsInit, is_member_kind, SpellsMember, SpellsGroup, SpellsMaybe, SpellsExtent, SpellsSymbol}
use Rattle.linking_section.specs.Reading.{unless, unless_at, segment_at, init_at, member_kind_of, member_at, behind_zero, zero_at, group_at, kind_of, some_name_at, maybe_name_at, some_extent_at, extent_at, indexed_at, datum_at, section_symbol_at, body_at, symbol_at, none_found, came, with_segments, with_inits, with_groups, with_symbols, with_part, first_time, subsection_at, subsections_at, linking_of, linking_at}
use Rattle.linking_section.specs.ItemLaws.{unless_reader, segment_reader, init_reader, member_reader, group_reader, kind_found, kind_again, maybe_reader, extent_reader, symbol_reader}
use Rattle.linking_section.specs.LinkingLaws.{subsection_parts, shorter, subsection_again, Says, added, goes, same_found}

-- ---- segments, init functions and groups

unless_same : (q : Bool) (item : Item) (n : ℕ) (rest longer : List ℕ) → Stays (unless q item n rest) (unless q item n longer)
unless_same true item n rest longer = refl
unless_same false item n rest longer = tt

unless_stays : (foreign : ℕ → Bool) (item : ℕ → Item) → IsSteady (unless_at foreign item)
unfolding unless_at
unless_stays foreign item end other bytes more =
    bind_stays _ u32_at u32_reader u32_stays end other bytes more _ _ (λ n rest. unless_same (foreign n) (item n) n rest (rest ++ more))

pub segment_stays : IsSteady segment_at
unfolding segment_at
segment_stays end other bytes more =
    bind_stays SpellsName name_at name_reader name_stays end other bytes more _ _ (λ name a.
    bind_stays _ u32_at u32_reader u32_stays end other a more _ _ (λ align b.
    bind_stays (SpellsUnless is_foreign_segment) (unless_at is_foreign_segment items.SegmentFlags) (unless_reader is_foreign_segment items.SegmentFlags) (unless_stays is_foreign_segment items.SegmentFlags) end other b more _ _ (λ flags c. tt)))

pub init_stays : IsSteady init_at
unfolding init_at
init_stays end other bytes more =
    bind_stays _ u32_at u32_reader u32_stays end other bytes more _ _ (λ priority a.
    bind_stays _ u32_at u32_reader u32_stays end other a more _ _ (λ symbol b. tt))

-- a test that fails at another place
known_same : (q : Bool) (x y place other : ℕ) → (let r : Result ℕ Stop = cond q (Ok x) (Err (Broken place)) in let s : Result ℕ Stop = cond q (Ok x) (Err (Broken other)) in r ≡ Ok y → s ≡ Ok y)
known_same true x y place other e = e
known_same false x y place other e = absurd cc

pub member_stays : IsSteady member_at
unfolding member_at
member_stays end other bytes more =
    bind_stays SpellsByte byte_at byte_reader byte_stays end other bytes more _ _ (λ byte a.
    step_stays (member_kind_of (end - length bytes) byte) (member_kind_of (other - length (bytes ++ more)) byte) _ _
    (never_stays (is_member_kind byte) byte (end - length bytes) (member_kind_of (other - length (bytes ++ more)) byte))
    (λ kind. known_same (is_member_kind byte) byte kind (end - length bytes) (other - length (bytes ++ more))) (λ kind.
    bind_stays _ u32_at u32_reader u32_stays end other a more _ _ (λ index b. tt)))

-- a number that has to be 0, and then what depends on the rest
zero_stays : {B : Type 0} (end other : ℕ) (bytes more : List ℕ) (f g : List ℕ → Result B Stop) → ((rest : List ℕ) → Stays (f rest) (g (rest ++ more))) → Stays (zero_at end bytes >>= f) (zero_at other (bytes ++ more) >>= g)
unfolding zero_at
zero_stays {B} end other bytes more f g second = by_case (u32_at end bytes) refl (u32_stays end other bytes more)
  where
    zero_here : (q : Bool) (rest : List ℕ) → Stays (cond q (Ok rest) (Err (Broken (end - length bytes))) >>= f) (cond q (Ok (rest ++ more)) (Err (Broken (other - length (bytes ++ more)))) >>= g)
    zero_here true rest = second rest
    zero_here false rest = tt

    by_case : (r : Result (ℕ × List ℕ) Stop) → u32_at end bytes ≡ r → Stays r (u32_at other (bytes ++ more))
        → Stays ((r >>= λ n. behind_zero (end - length bytes) n.0 n.1) >>= f) ((u32_at other (bytes ++ more) >>= λ n. behind_zero (other - length (bytes ++ more)) n.0 n.1) >>= g)
    by_case (Ok x) e s = rw (extends SpellsU32 u32_at u32_reader end other bytes more x.0 x.1 e) (zero_here (eqb x.0 0) x.1)
    by_case (Err (Broken place)) e s = tt
    by_case (Err (Foreign item)) e s = rw s refl

pub group_stays : IsSteady group_at
unfolding group_at
group_stays end other bytes more =
    bind_stays SpellsName name_at name_reader name_stays end other bytes more _ _ (λ name a.
    zero_stays end other a more _ _ (λ b.
    bind_stays (SpellsVector SpellsMember) (vector_at member_at) (vector_reader SpellsMember member_at member_reader) (vector_stays SpellsMember member_at member_reader member_stays) end other b more _ _ (λ members c. tt)))

-- ---- symbols

kind_stays : (place other byte : ℕ) → Stays (kind_of place byte) (kind_of other byte)
kind_stays place other byte =
    cond_stays (eqb byte 0) (Ok Function) _ (Ok Function) _ tt (
    cond_stays (eqb byte 1) (Ok Datum) _ (Ok Datum) _ tt (
    cond_stays (eqb byte 2) (Ok GlobalVar) _ (Ok GlobalVar) _ tt (
    cond_stays (eqb byte 3) (Ok Section) _ (Ok Section) _ tt (
    cond_stays (eqb byte 4) (Err (Foreign items.TagSymbol)) _ (Err (Foreign items.TagSymbol)) _ refl (
    cond_stays (eqb byte 5) (Ok Table) (Err (Broken place)) (Ok Table) (Err (Broken other)) tt tt)))))

kind_same : (place other byte : ℕ) (k : SymbolKind) → kind_of place byte ≡ Ok k → kind_of other byte ≡ Ok k
kind_same place other byte k e = ap (kind_of other) (kind_found place byte k e) ∙ kind_again other k

maybe_stays : (q : Bool) → IsSteady (maybe_name_at q)
maybe_stays q end other bytes more =
    cond_stays q (some_name_at end bytes) (Ok (None, bytes)) (some_name_at other (bytes ++ more)) (Ok (None, bytes ++ more))
    (bind_stays SpellsName name_at name_reader name_stays end other bytes more _ _ (λ name a. tt)) tt

extent_stays : (q : Bool) → IsSteady (extent_at q)
extent_stays q end other bytes more =
    cond_stays q (some_extent_at end bytes) (Ok (record { segment = 0; offset = 0; size = 0 }, bytes)) (some_extent_at other (bytes ++ more)) (Ok (record { segment = 0; offset = 0; size = 0 }, bytes ++ more))
    (bind_stays _ u32_at u32_reader u32_stays end other bytes more _ _ (λ segment a.
    bind_stays _ u32_at u32_reader u32_stays end other a more _ _ (λ offset b.
    bind_stays _ u32_at u32_reader u32_stays end other b more _ _ (λ size c. tt)))) tt

indexed_stays : (kind : SymbolKind) (flags : ℕ) → IsSteady (indexed_at kind flags)
unfolding indexed_at
indexed_stays kind flags end other bytes more =
    bind_stays _ u32_at u32_reader u32_stays end other bytes more _ _ (λ index a.
    bind_stays (SpellsMaybe (is_named flags)) (maybe_name_at (is_named flags)) (maybe_reader (is_named flags)) (maybe_stays (is_named flags)) end other a more _ _ (λ name b. tt))

datum_stays : (flags : ℕ) → IsSteady (datum_at flags)
unfolding datum_at
datum_stays flags end other bytes more =
    let defined = not (has_bit 0x10 flags) in
    bind_stays SpellsName name_at name_reader name_stays end other bytes more _ _ (λ name a.
    bind_stays (SpellsExtent defined) (extent_at defined) (extent_reader defined) (extent_stays defined) end other a more _ _ (λ extent b. tt))

section_symbol_stays : (flags : ℕ) → IsSteady (section_symbol_at flags)
unfolding section_symbol_at
section_symbol_stays flags end other bytes more = bind_stays _ u32_at u32_reader u32_stays end other bytes more _ _ (λ index a. tt)

body_stays : (kind : SymbolKind) (flags : ℕ) → IsSteady (body_at kind flags)
body_stays Function flags end other bytes more = indexed_stays Function flags end other bytes more
body_stays Datum flags end other bytes more = datum_stays flags end other bytes more
body_stays GlobalVar flags end other bytes more = indexed_stays GlobalVar flags end other bytes more
body_stays Section flags end other bytes more = section_symbol_stays flags end other bytes more
body_stays Table flags end other bytes more = indexed_stays Table flags end other bytes more

pub symbol_stays : IsSteady symbol_at
unfolding symbol_at
symbol_stays end other bytes more =
    bind_stays SpellsByte byte_at byte_reader byte_stays end other bytes more _ _ (λ byte a.
    step_stays (kind_of (end - length bytes) byte) (kind_of (other - length (bytes ++ more)) byte) _ _ (kind_stays (end - length bytes) (other - length (bytes ++ more)) byte) (kind_same (end - length bytes) (other - length (bytes ++ more)) byte) (λ kind.
    bind_stays (SpellsUnless is_foreign_symbol) (unless_at is_foreign_symbol items.SymbolFlags) (unless_reader is_foreign_symbol items.SymbolFlags) (unless_stays is_foreign_symbol items.SymbolFlags) end other a more _ _ (λ flags b.
    body_stays kind flags end other b more)))

-- ---- one subsection

-- what is made of a value is foreign where reading the value is
made : {A B : Type 0} (r s : Result A Stop) (make make_too : A → B) → Stays r s → (let f : A → Result B Stop = λ x. Ok (make x) in let g : A → Result B Stop = λ x. Ok (make_too x) in Stays (r >>= f) (s >>= g))
made (Ok x) s make make_too t = tt
made (Err (Broken place)) s make make_too t = tt
made (Err (Foreign item)) s make make_too t = rw t refl

-- a payload is the same at another place
moved : {A : Type 0} (Item : A → List ℕ → Type 0) (read : Read A) → IsReader Item read → IsSteady read → (end other : ℕ) (payload : List ℕ) → Stays (whole (vector_at read) end payload) (whole (vector_at read) other payload)
moved Item read reader steady end other payload =
    let all = whole_stays (SpellsVector Item) (vector_at read) (vector_reader Item read reader) (vector_stays Item read reader steady) end other payload [] in
    subst (λ (p : List ℕ). Stays (whole (vector_at read) end payload) (whole (vector_at read) other p)) (append-nil payload) all

part_moved : (kind : ℕ) (found : Found) (end other : ℕ) (payload : List ℕ) → Stays (with_part kind found end payload) (with_part kind found other payload)
part_moved kind found end other payload =
    cond_stays (eqb kind 5) (with_segments found end payload) _ (with_segments found other payload) _
    (made _ (whole (vector_at segment_at) other payload) (λ segments. record found { segments = Some segments }) (λ segments. record found { segments = Some segments }) (moved SpellsSegmentInfo segment_at segment_reader segment_stays end other payload)) (
    cond_stays (eqb kind 6) (with_inits found end payload) _ (with_inits found other payload) _
    (made _ (whole (vector_at init_at) other payload) (λ inits. record found { inits = Some inits }) (λ inits. record found { inits = Some inits }) (moved SpellsInit init_at init_reader init_stays end other payload)) (
    cond_stays (eqb kind 7) (with_groups found end payload) _ (with_groups found other payload) _
    (made _ (whole (vector_at group_at) other payload) (λ groups. record found { groups = Some groups }) (λ groups. record found { groups = Some groups }) (moved SpellsGroup group_at group_reader group_stays end other payload)) (
    cond_stays (eqb kind 8) (with_symbols found end payload) (Ok found) (with_symbols found other payload) (Ok found)
    (made _ (whole (vector_at symbol_at) other payload) (λ symbols. record found { symbols = Some symbols }) (λ symbols. record found { symbols = Some symbols }) (moved SpellsSymbol symbol_at symbol_reader symbol_stays end other payload)) tt)))

nothing_more : (found : Found) → Says found [] found
nothing_more found = record { segments = refl; inits = refl; groups = refl; symbols = refl }

part_same : (kind : ℕ) (found next : Found) (end other : ℕ) (payload : List ℕ) → came kind found ≡ false → with_part kind found end payload ≡ Ok next → with_part kind found other payload ≡ Ok next
part_same kind found next end other payload first says =
    let g = goes kind payload found next [] (added kind payload found next next end [] first says (nothing_more next)) in
    let s = g.others in
    g.says other ∙ ap (λ (f : Found). Ok f) (same_found g.next next s.segments s.inits s.groups s.symbols)

first_stays : (q : Bool) (place : ℕ) (more : Result (Unit {0}) Stop) → Stays (cond q (Err (Broken place)) (Ok tt)) more
first_stays true place more = tt
first_stays false place more = tt

first_same : (q : Bool) (place other : ℕ) (u : Unit {0}) → (let r : Result (Unit {0}) Stop = cond q (Err (Broken place)) (Ok tt) in let s : Result (Unit {0}) Stop = cond q (Err (Broken other)) (Ok tt) in r ≡ Ok u → s ≡ Ok u)
first_same true place other u e = absurd cc
first_same false place other u e = e

subsection_stays : (found : Found) → IsSteady (subsection_at found)
unfolding subsection_at
subsection_stays found end other bytes more =
    bind_stays SpellsByte byte_at byte_reader byte_stays end other bytes more _ _ (λ kind a.
    step_stays (first_time (end - length bytes) kind found) (first_time (other - length (bytes ++ more)) kind found) _ _ (first_stays (came kind found) (end - length bytes) (first_time (other - length (bytes ++ more)) kind found)) (first_same (came kind found) (end - length bytes) (other - length (bytes ++ more))) (λ first.
    bind_stays SpellsBytes part_at part_reader part_stays end other a more _ _ (λ part b.
    made (with_part kind found (end - length b) part) (with_part kind found (other - length (b ++ more)) part) (λ next. (next, b)) (λ next. (next, b ++ more)) (part_moved kind found (end - length b) (other - length (b ++ more)) part))))

subsection_extends : (found : Found) (end other : ℕ) (bytes more : List ℕ) (next : Found) (rest : List ℕ) → subsection_at found end bytes ≡ Ok (next, rest) → subsection_at found other (bytes ++ more) ≡ Ok (next, rest ++ more)
subsection_extends found end other bytes more next rest e =
    let r = subsection_parts found end bytes next rest e in
    let says = part_same r.kind found next (end - length rest) (other - length (rest ++ more)) r.payload r.first r.says in
    let parts : bytes ++ more ≡ r.taken.text ++ (rest ++ more) = ap (λ (b : List ℕ). b ++ more) r.taken.parts ∙ append_assoc r.taken.text rest more in
    ap (subsection_at found other) parts ∙ subsection_again found other (record { kind = r.kind; payload = r.payload }) r.taken.text next (rest ++ more) r.taken.spells r.first says

-- ---- the section

run_stays : (r s : Result (Found × List ℕ) Stop) (f g : Found × List ℕ → Result Found Stop) → Stays r s → ((x : Found × List ℕ) → r ≡ Ok x → (y : Found × List ℕ) × (s ≡ Ok y) × Stays (f x) (g y)) → Stays (r >>= f) (s >>= g)
run_stays (Ok x) s f g t next = let n = next x refl in rw n.1 n.2
run_stays (Err (Broken place)) s f g t next = tt
run_stays (Err (Foreign item)) s f g t next = rw t refl

subsections_stay : (n m : ℕ) (found : Found) (end other : ℕ) (bytes more : List ℕ) → length bytes ≤ n → length (bytes ++ more) ≤ m → Stays (subsections_at n found end bytes) (subsections_at m found other (bytes ++ more))
unfolding subsections_at
subsections_stay n m found end other [] more p q = tt
subsections_stay zero m found end other (b ∷ bytes) more p q = absurd (omega arith)
subsections_stay (suc n) zero found end other (b ∷ bytes) more p q = absurd (omega arith)
subsections_stay (suc n) (suc m) found end other (b ∷ bytes) more p q =
    run_stays (subsection_at found end (b ∷ bytes)) (subsection_at found other (b ∷ bytes ++ more)) (λ next. subsections_at n next.0 end next.1) (λ next. subsections_at m next.0 other next.1) (subsection_stays found end other (b ∷ bytes) more)
    (λ x e.
    let less = shorter found end (b ∷ bytes) x.0 x.1 e in
    let long : length (x.1 ++ more) ≤ m = omega (arith, less, q, length-append x.1 more, length-append bytes more) in
    ((x.0, x.1 ++ more), subsection_extends found end other (b ∷ bytes) more x.0 x.1 e, subsections_stay n m x.0 end other x.1 more (omega (arith, less, p)) long))

versioned_stays : {B : Type 0} (q : Bool) (item : Item) (rest longer : List ℕ) (f g : List ℕ → Result B Stop) → Stays (f rest) (g longer) → Stays (cond q (Ok rest) (Err (Foreign item)) >>= f) (cond q (Ok longer) (Err (Foreign item)) >>= g)
versioned_stays true item rest longer f g t = t
versioned_stays false item rest longer f g t = refl

pub linking_stays : (end other : ℕ) (payload more : List ℕ) → Stays (linking_at end payload) (linking_at other (payload ++ more))
unfolding linking_at
linking_stays end other payload more =
    bind_stays _ u32_at u32_reader u32_stays end other payload more _ _ (λ version rest.
    versioned_stays (eqb version 2) (items.LinkingVersion version) rest (rest ++ more) _ _
    (made (subsections_at (length rest) none_found end rest) (subsections_at (length (rest ++ more)) none_found other (rest ++ more)) linking_of linking_of
    (subsections_stay (length rest) (length (rest ++ more)) none_found end other rest more (omega arith) (omega arith))))
