-- The bytes of the section `linking` and of sections of relocations spell what they are made of.
use Rattle.std.proofs.Common.{◌≡◌, ℕ, zero, suc, ◌<◌, ◌≤◌, ◌^◌, List, [], ◌∷◌, ◌++◌, length, refl, sym, ap, subst, ◌∙◌, arith, inl, inr, append_assoc, Bool, true, false}
use Rattle.std.specs.Prelude.{⊤, Option, Some, None, All, flat_map, map, IsUtf8, if◌then◌else◌, unwrap_or, ℤ, neg_ℤ, pos, ◌≤ℤ◌, ◌<ℤ◌, not}
use Rattle.std.proofs.lemmas.Bool.{cases_lt, lt-ltb, le-ltb}
use Rattle.std.proofs.lemmas.List.{length-append, append-nil}
use Rattle.std.proofs.lemmas.List.Concat.{flat_map-cons, flat_map-append}
use Rattle.std.proofs.lemmas.List.Elements.{All-head, All-tail}
use Rattle.object_file.specs.leb_codec.Shortest.{shortest, u32, s32}
use Rattle.wasm_instr.proofs.leb_codec_lemmas.Computed.{u32_spells, s32_spelled}
use Rattle.wasm_instr.specs.wasm_grammar.Grammar.{SpellsU32, SpellsName, SpellsBytes, SpellsMany, SpellsVector}
use Rattle.linking_section.specs.declared.symbol.Symbol.{Symbol}
use Rattle.linking_section.specs.declared.symbol.SymbolKind.{SymbolKind}
use Rattle.linking_section.specs.declared.symbol.SymbolKind.TheVariants.{Function, Datum, GlobalVar, Section, Table}
use Rattle.linking_section.specs.declared.segment.SegmentInfo.{SegmentInfo}
use Rattle.linking_section.specs.declared.init.InitFunc.{InitFunc}
use Rattle.linking_section.specs.declared.group.Member.{Member}
use Rattle.linking_section.specs.declared.group.Group.{Group}
use Rattle.linking_section.specs.Flags.{kind_code, is_named, is_undefined}
use Rattle.wasm_grammar.specs.Subsections.{Subsection, SpellsSubsection, payloads_of}
use Rattle.linking_section.specs.Linking.{SpellsSegmentInfo, SpellsInit, SpellsMember, SpellsGroup, SpellsMaybe, SpellsIndexed, SpellsDatum, SpellsBody, SpellsSymbol, SpellsExtent, IsSaid, SpellsLinking}
use Rattle.reloc_section.specs.declared.entry.Reloc.{Reloc}
use Rattle.reloc_section.specs.Kinds.{has_addend}
use Rattle.reloc_section.specs.Relocs.{SpellsAddend, SpellsReloc, SpellsRelocSection}
use Rattle.image_emit.specs.Bytes.{vector, sized}
use Rattle.partial_rules.specs.Relocatable.{Relocatable, spelled_name, indexed, datum, symbol_rest, symbol, segment_info, init, member, group, subsection, linking, reloc}
use Rattle.partial_rules.specs.WellFormed.{IsU32, IsInfo, IsInit, IsMember, IsGroup, IsReloc, IsName, HasPlace, IsSymbol, IsLinking}
use Rattle.partial_rules.specs.ReadAs.{shown_name, shown, linking_for}

-- ---- sizes

-- so few bytes that their number is a u32
abbrev pub Fits : List ℕ → Type 0
Fits bytes = length bytes < 2 ^ 32

pub left_fits : (a b : List ℕ) → Fits (a ++ b) → Fits a
left_fits a b fits = omega (arith, length-append a b)

pub right_fits : (a b : List ℕ) → Fits (a ++ b) → Fits b
right_fits a b fits = omega (arith, length-append a b)

one_at_least : (k n : ℕ) → 1 ≤ length (shortest k n)
one_at_least zero n = omega arith
one_at_least (suc k) n = elim (cases_lt n 128) [
  | inl low ↦ rw (lt-ltb n 128 low) (omega arith)
  | inr high ↦ rw (le-ltb n 128 high) (omega arith)
]

pub some_u32 : (n : ℕ) → 1 ≤ length (u32 n)
unfolding u32
some_u32 n = one_at_least 4 n

some_before : (a b : List ℕ) → 1 ≤ length a → 1 ≤ length (a ++ b)
some_before a b some = omega (arith, length-append a b)

pub some_sized : (bytes : List ℕ) → 1 ≤ length (sized bytes)
some_sized bytes = some_before (u32 (length bytes)) bytes (some_u32 (length bytes))

bytes_of_itself : (bytes : List ℕ) → Fits (sized bytes) → SpellsBytes bytes (sized bytes)
bytes_of_itself bytes fits = (u32 (length bytes), bytes, u32_spells (length bytes) (right_fits (u32 (length bytes)) bytes fits), refl, refl)

pub name_of : (name : List ℕ) → IsUtf8 name → Fits (sized name) → SpellsName name (sized name)
name_of name utf8 fits = (utf8, bytes_of_itself name fits)

-- ---- vectors

pub few : {B : Type 0} (item : B → List ℕ) → ((y : B) → 1 ≤ length (item y)) → (ys : List B) → length ys ≤ length (flat_map item ys)
few item some [] = omega arith
few item some (y ∷ ys) = omega (arith, ap length (flat_map-cons item y ys), length-append (item y) (flat_map item ys), some y, few item some ys)

-- items that are spelled one by one, where what is spelled is made of what is listed
many : {A B : Type 0} (Item : A → List ℕ → Type 0) (item : B → List ℕ) (make : B → A) (Sound : B → Type 0) → ((y : B) → Sound y → Fits (item y) → Item (make y) (item y))
    → (ys : List B) → All Sound ys → Fits (flat_map item ys) → SpellsMany Item (map make ys) (flat_map item ys)
many Item item make Sound one [] all fits = refl
many Item item make Sound one (y ∷ ys) all fits =
    let both : Fits (item y ++ flat_map item ys) = subst Fits (flat_map-cons item y ys) fits in (
      item y,
      flat_map item ys,
      one y (All-head Sound y ys all) (left_fits (item y) (flat_map item ys) both),
      many Item item make Sound one ys (All-tail Sound y ys all) (right_fits (item y) (flat_map item ys) both),
      flat_map-cons item y ys,
    )

long_map : {A B : Type 0} (make : B → A) (ys : List B) → length (map make ys) ≡ length ys
long_map make [] = refl
long_map make (y ∷ ys) = ap suc (long_map make ys)

pub vector_of : {A B : Type 0} (Item : A → List ℕ → Type 0) (item : B → List ℕ) (make : B → A) (Sound : B → Type 0) → ((y : B) → 1 ≤ length (item y)) → ((y : B) → Sound y → Fits (item y) → Item (make y) (item y))
    → (ys : List B) → All Sound ys → Fits (vector item ys) → SpellsVector Item (map make ys) (vector item ys)
vector_of Item item make Sound some one ys all fits =
    let inner : Fits (flat_map item ys) = right_fits (u32 (length ys)) (flat_map item ys) fits in
    let count : IsU32 (length ys) = omega (arith, few item some ys, inner) in
    (u32 (length ys), flat_map item ys, subst (λ (n : ℕ). SpellsU32 n (u32 (length ys))) (sym (long_map make ys)) (u32_spells (length ys) count), many Item item make Sound one ys all inner, refl)

same_map : {A : Type 0} (xs : List A) → map (λ x. x) xs ≡ xs
same_map [] = refl
same_map (x ∷ xs) = ap (λ ys. x ∷ ys) (same_map xs)

pub own_vector : {A : Type 0} (Item : A → List ℕ → Type 0) (item : A → List ℕ) (Sound : A → Type 0) → ((x : A) → 1 ≤ length (item x)) → ((x : A) → Sound x → Fits (item x) → Item x (item x))
    → (xs : List A) → All Sound xs → Fits (vector item xs) → SpellsVector Item xs (vector item xs)
own_vector Item item Sound some one xs all fits = subst (λ ys. SpellsVector Item ys (vector item xs)) (same_map xs) (vector_of Item item (λ x. x) Sound some one xs all fits)

-- ---- segment infos, init functions and groups

pub info_of : (i : SegmentInfo) → IsInfo i → Fits (segment_info i) → SpellsSegmentInfo i (segment_info i)
info_of i sound fits = (
  sized i.name,
  u32 i.align ++ u32 i.flags,
  name_of i.name sound.name (left_fits (sized i.name) (u32 i.align) (left_fits (sized i.name ++ u32 i.align) (u32 i.flags) fits)),
  (u32 i.align, u32 i.flags, u32_spells i.align sound.align, (sound.known, u32_spells i.flags sound.flags), refl),
  append_assoc (sized i.name) (u32 i.align) (u32 i.flags),
)

some_info : (i : SegmentInfo) → 1 ≤ length (segment_info i)
some_info i = some_before (sized i.name ++ u32 i.align) (u32 i.flags) (some_before (sized i.name) (u32 i.align) (some_sized i.name))

pub init_of : (i : InitFunc) → IsInit i → Fits (init i) → SpellsInit i (init i)
init_of i sound fits = (u32 i.priority, u32 i.symbol, u32_spells i.priority sound.priority, u32_spells i.symbol sound.symbol, refl)

some_init : (i : InitFunc) → 1 ≤ length (init i)
some_init i = some_before (u32 i.priority) (u32 i.symbol) (some_u32 i.priority)

pub member_of : (m : Member) → IsMember m → Fits (member m) → SpellsMember m (member m)
member_of m sound fits = (sound.kind, (m.kind ∷ [], u32 m.index, refl, u32_spells m.index sound.index, refl))

some_member : (m : Member) → 1 ≤ length (member m)
some_member m = omega arith

pub group_of : (g : Group) → IsGroup g → Fits (group g) → SpellsGroup g (group g)
group_of g sound fits =
    let rest : List ℕ = vector member g.members in (
      sized g.name,
      u32 0 ++ rest,
      name_of g.name sound.name (left_fits (sized g.name) (u32 0) (left_fits (sized g.name ++ u32 0) rest fits)),
      (u32 0, rest, u32_spells 0 (omega arith), own_vector SpellsMember member IsMember some_member member_of g.members sound.members (right_fits (sized g.name ++ u32 0) rest fits), refl),
      append_assoc (sized g.name) (u32 0) rest,
    )

some_group : (g : Group) → 1 ≤ length (group g)
some_group g = some_before (sized g.name ++ u32 0) (vector member g.members) (some_before (sized g.name) (u32 0) (some_sized g.name))

-- ---- relocations

addend_of : (has : Bool) (z : ℤ) → (has ≡ false → z ≡ pos 0) → neg_ℤ (pos (2 ^ 31)) ≤ℤ z → z <ℤ pos (2 ^ 31) → SpellsAddend has z (if has then s32 z else [])
addend_of true z none low high = s32_spelled z low high
addend_of false z none low high = (none refl, refl)

pub reloc_of : (x : Reloc) → IsReloc x → Fits (reloc x) → SpellsReloc x (reloc x)
reloc_of x sound fits =
    let addend : List ℕ = if has_addend x.kind then s32 x.addend else [] in (
      sound.kind,
      (
        x.kind ∷ [],
        u32 x.offset ++ u32 x.index ++ addend,
        refl,
        (
          u32 x.offset,
          u32 x.index ++ addend,
          u32_spells x.offset sound.offset,
          (u32 x.index, addend, u32_spells x.index sound.index, addend_of (has_addend x.kind) x.addend sound.none sound.low sound.high, refl),
          append_assoc (u32 x.offset) (u32 x.index) addend,
        ),
        refl,
      ),
    )

some_reloc : (x : Reloc) → 1 ≤ length (reloc x)
some_reloc x = omega arith

pub relocs_of : (target : ℕ) (entries : List Reloc) → IsU32 target → All IsReloc entries → Fits (u32 target ++ vector reloc entries)
    → SpellsRelocSection (record { target = target; entries = entries }) (u32 target ++ vector reloc entries)
relocs_of target entries low all fits =
    (u32 target, vector reloc entries, u32_spells target low, own_vector SpellsReloc reloc IsReloc some_reloc reloc_of entries all (right_fits (u32 target) (vector reloc entries) fits), refl)

-- ---- symbols

maybe_of : (r : Bool) (o : Option (List ℕ)) → IsName o → Fits (if r then sized (unwrap_or o []) else []) → SpellsMaybe r (if r then o else None) (if r then sized (unwrap_or o []) else [])
maybe_of true None is fits = absurd is
maybe_of true (Some name) is fits = name_of name is fits
maybe_of false o is fits = refl

indexed_of : (s t : Symbol) → t.flags ≡ s.flags → t.index ≡ s.index → t.name ≡ (if is_named s.flags then s.name else None) → t.offset ≡ 0 → t.size ≡ 0
    → IsU32 s.index → IsName s.name → Fits (indexed s) → SpellsIndexed t (indexed s)
indexed_of s t flags index name offset size low is fits =
    let maybe : SpellsMaybe (is_named s.flags) (if is_named s.flags then s.name else None) (if is_named s.flags then spelled_name s else []) =
    maybe_of (is_named s.flags) s.name is (right_fits (u32 s.index) (if is_named s.flags then spelled_name s else []) fits) in (
      offset,
      size,
      (
        u32 s.index,
        (if is_named s.flags then spelled_name s else []),
        subst (λ n. SpellsU32 n (u32 s.index)) (sym index) (u32_spells s.index low),
        subst (λ o. SpellsMaybe (is_named t.flags) o (if is_named s.flags then spelled_name s else [])) (sym name)
            (subst (λ f. SpellsMaybe (is_named f) (if is_named s.flags then s.name else None) (if is_named s.flags then spelled_name s else [])) (sym flags) maybe),
        refl,
      ),
    )

extent_of : (undefined : Bool) (segment offset size : ℕ) → (undefined ≡ true → (segment ≡ 0) × (offset ≡ 0) × (size ≡ 0)) → IsU32 segment → IsU32 offset → IsU32 size
    → SpellsExtent (not undefined) (record { segment = segment; offset = offset; size = size }) (if undefined then [] else u32 segment ++ u32 offset ++ u32 size)
extent_of true segment offset size none a b c = ((none refl).0, (none refl).1, (none refl).2, refl)
extent_of false segment offset size none a b c = (u32 segment, u32 offset ++ u32 size, u32_spells segment a, (u32 offset, u32 size, u32_spells offset b, u32_spells size c, refl), append_assoc (u32 segment) (u32 offset) (u32 size))

named_of : (o : Option (List ℕ)) → IsName o → Fits (sized (unwrap_or o [])) → SpellsMaybe true o (sized (unwrap_or o []))
named_of None is fits = absurd is
named_of (Some name) is fits = name_of name is fits

datum_of : (s t : Symbol) → t.flags ≡ s.flags → t.name ≡ s.name → t.index ≡ s.index → t.offset ≡ s.offset → t.size ≡ s.size
    → (is_undefined s ≡ true → (s.index ≡ 0) × (s.offset ≡ 0) × (s.size ≡ 0)) → IsU32 s.index → IsU32 s.offset → IsU32 s.size → IsName s.name → Fits (datum s) → SpellsDatum t (datum s)
datum_of s t flags name index offset size none a b c is fits =
    let rest : List ℕ = if is_undefined s then [] else u32 s.index ++ u32 s.offset ++ u32 s.size in
    let extent = extent_of (is_undefined s) s.index s.offset s.size none a b c in (
      spelled_name s,
      rest,
      subst (λ o. SpellsMaybe true o (spelled_name s)) (sym name) (named_of s.name is (left_fits (spelled_name s) rest fits)),
      subst (λ f. SpellsExtent (not (is_undefined (record t { flags = f }))) (record { segment = t.index; offset = t.offset; size = t.size }) rest) (sym flags)
          (subst (λ n. SpellsExtent (not (is_undefined s)) (record { segment = n; offset = t.offset; size = t.size }) rest) (sym index)
          (subst (λ n. SpellsExtent (not (is_undefined s)) (record { segment = s.index; offset = n; size = t.size }) rest) (sym offset)
          (subst (λ n. SpellsExtent (not (is_undefined s)) (record { segment = s.index; offset = s.offset; size = n }) rest) (sym size) extent))),
      refl,
    )

-- A symbol t that is s but for the name that isn't shown, by the kind.
body_of : (kind : SymbolKind) (s t : Symbol) → t.flags ≡ s.flags → t.name ≡ shown_name kind s → t.index ≡ s.index → t.offset ≡ s.offset → t.size ≡ s.size
    → HasPlace kind s → IsU32 s.index → IsU32 s.offset → IsU32 s.size → IsName s.name → Fits (symbol_rest kind s) → SpellsBody kind t (symbol_rest kind s)
body_of Function s t flags name index offset size place a b c is fits = indexed_of s t flags index name (offset ∙ place.0) (size ∙ place.1) a is fits
body_of Datum s t flags name index offset size place a b c is fits = datum_of s t flags name index offset size place a b c is fits
body_of GlobalVar s t flags name index offset size place a b c is fits = indexed_of s t flags index name (offset ∙ place.0) (size ∙ place.1) a is fits
body_of Section s t flags name index offset size place a b c is fits = absurd place
body_of Table s t flags name index offset size place a b c is fits = indexed_of s t flags index name (offset ∙ place.0) (size ∙ place.1) a is fits

pub symbol_of : (s : Symbol) → IsSymbol s → Fits (symbol s) → SpellsSymbol (shown s) (symbol s)
symbol_of s sound fits =
    let rest : List ℕ = symbol_rest s.kind s in
    let behind : Fits (u32 s.flags ++ rest) = right_fits (kind_code s.kind ∷ []) (u32 s.flags ++ rest) fits in (
      kind_code s.kind ∷ [],
      u32 s.flags ++ rest,
      refl,
      (
        u32 s.flags,
        rest,
        (sound.known, u32_spells s.flags sound.flags),
        body_of s.kind s (shown s) refl refl refl refl refl sound.place sound.index sound.offset sound.size sound.name (right_fits (u32 s.flags) rest behind),
        refl,
      ),
      refl,
    )

some_symbol : (s : Symbol) → 1 ≤ length (symbol s)
some_symbol s = omega arith

-- ---- the section `linking`

some_sub : {A : Type 0} → ℕ → (A → List ℕ) → List A → List Subsection
some_sub kind item [] = []
some_sub kind item (x ∷ xs) = record { kind = kind; payload = vector item (x ∷ xs) } ∷ []

-- the subsections of these four lists
subs : List Symbol → List SegmentInfo → List InitFunc → List Group → List Subsection
unfolding some_sub
subs symbols infos inits groups =
    record { kind = 8; payload = vector symbol symbols } ∷ (some_sub 5 segment_info infos ++ (some_sub 6 init inits ++ some_sub 7 group groups))

payload_of : {A : Type 0} → (A → List ℕ) → List A → List (List ℕ)
payload_of item [] = []
payload_of item (x ∷ xs) = vector item (x ∷ xs) ∷ []

only_symbols : (symbols : List Symbol) (infos : List SegmentInfo) (inits : List InitFunc) (groups : List Group) → payloads_of 8 (subs symbols infos inits groups) ≡ vector symbol symbols ∷ []
unfolding subs
only_symbols symbols [] [] [] = refl
only_symbols symbols [] [] (g ∷ gs) = refl
only_symbols symbols [] (n ∷ ns) [] = refl
only_symbols symbols [] (n ∷ ns) (g ∷ gs) = refl
only_symbols symbols (i ∷ is) [] [] = refl
only_symbols symbols (i ∷ is) [] (g ∷ gs) = refl
only_symbols symbols (i ∷ is) (n ∷ ns) [] = refl
only_symbols symbols (i ∷ is) (n ∷ ns) (g ∷ gs) = refl

only_infos : (symbols : List Symbol) (infos : List SegmentInfo) (inits : List InitFunc) (groups : List Group) → payloads_of 5 (subs symbols infos inits groups) ≡ payload_of segment_info infos
unfolding subs payload_of
only_infos symbols [] [] [] = refl
only_infos symbols [] [] (g ∷ gs) = refl
only_infos symbols [] (n ∷ ns) [] = refl
only_infos symbols [] (n ∷ ns) (g ∷ gs) = refl
only_infos symbols (i ∷ is) [] [] = refl
only_infos symbols (i ∷ is) [] (g ∷ gs) = refl
only_infos symbols (i ∷ is) (n ∷ ns) [] = refl
only_infos symbols (i ∷ is) (n ∷ ns) (g ∷ gs) = refl

only_inits : (symbols : List Symbol) (infos : List SegmentInfo) (inits : List InitFunc) (groups : List Group) → payloads_of 6 (subs symbols infos inits groups) ≡ payload_of init inits
unfolding subs payload_of
only_inits symbols [] [] [] = refl
only_inits symbols [] [] (g ∷ gs) = refl
only_inits symbols [] (n ∷ ns) [] = refl
only_inits symbols [] (n ∷ ns) (g ∷ gs) = refl
only_inits symbols (i ∷ is) [] [] = refl
only_inits symbols (i ∷ is) [] (g ∷ gs) = refl
only_inits symbols (i ∷ is) (n ∷ ns) [] = refl
only_inits symbols (i ∷ is) (n ∷ ns) (g ∷ gs) = refl

only_groups : (symbols : List Symbol) (infos : List SegmentInfo) (inits : List InitFunc) (groups : List Group) → payloads_of 7 (subs symbols infos inits groups) ≡ payload_of group groups
unfolding subs payload_of
only_groups symbols [] [] [] = refl
only_groups symbols [] [] (g ∷ gs) = refl
only_groups symbols [] (n ∷ ns) [] = refl
only_groups symbols [] (n ∷ ns) (g ∷ gs) = refl
only_groups symbols (i ∷ is) [] [] = refl
only_groups symbols (i ∷ is) [] (g ∷ gs) = refl
only_groups symbols (i ∷ is) (n ∷ ns) [] = refl
only_groups symbols (i ∷ is) (n ∷ ns) (g ∷ gs) = refl

said_of : {A : Type 0} (Item : A → List ℕ → Type 0) (item : A → List ℕ) (xs : List A) → ((x : A) (ys : List A) → xs ≡ x ∷ ys → SpellsVector Item xs (vector item xs)) → IsSaid Item (payload_of item xs) xs
unfolding payload_of
said_of Item item [] spelled = refl
said_of Item item (x ∷ xs) spelled = spelled x xs refl

-- the bytes of subsections one after another
sub_bytes : Subsection → List ℕ
sub_bytes s = s.kind ∷ sized s.payload

sub_of : (s : Subsection) → ⊤ → Fits (sub_bytes s) → SpellsSubsection s (sub_bytes s)
unfolding sub_bytes
sub_of s sound fits = (s.kind ∷ [], sized s.payload, refl, bytes_of_itself s.payload (right_fits (s.kind ∷ []) (sized s.payload) fits), refl)

sub_is : {A : Type 0} (kind : ℕ) (item : A → List ℕ) (xs : List A) → subsection kind item xs ≡ flat_map sub_bytes (some_sub kind item xs)
unfolding some_sub sub_bytes
sub_is kind item [] = refl
sub_is kind item (x ∷ xs) = sym (flat_map-cons sub_bytes (record { kind = kind; payload = vector item (x ∷ xs) }) [] ∙ append-nil (kind ∷ sized (vector item (x ∷ xs))))

joined : (symbols : List Symbol) (infos : List SegmentInfo) (inits : List InitFunc) (groups : List Group)
    → ((8 ∷ sized (vector symbol symbols)) ++ subsection 5 segment_info infos ++ subsection 6 init inits ++ subsection 7 group groups) ≡ flat_map sub_bytes (subs symbols infos inits groups)
unfolding subs sub_bytes
joined symbols infos inits groups =
    let x : List ℕ = 8 ∷ sized (vector symbol symbols) in
    let a : List ℕ = subsection 5 segment_info infos in
    let b : List ℕ = subsection 6 init inits in
    let c : List ℕ = subsection 7 group groups in
    let turned : (x ++ a ++ b ++ c) ≡ x ++ (a ++ (b ++ c)) = append_assoc (x ++ a) b c ∙ append_assoc x a (b ++ c) in
    let last : b ++ c ≡ flat_map sub_bytes (some_sub 6 init inits ++ some_sub 7 group groups) =
    ap (λ y. y ++ c) (sub_is 6 init inits) ∙ (ap (λ y. flat_map sub_bytes (some_sub 6 init inits) ++ y) (sub_is 7 group groups)
    ∙ sym (flat_map-append sub_bytes (some_sub 6 init inits) (some_sub 7 group groups))) in
    let middle : a ++ (b ++ c) ≡ flat_map sub_bytes (some_sub 5 segment_info infos ++ (some_sub 6 init inits ++ some_sub 7 group groups)) =
    ap (λ y. y ++ (b ++ c)) (sub_is 5 segment_info infos) ∙ (ap (λ y. flat_map sub_bytes (some_sub 5 segment_info infos) ++ y) last
    ∙ sym (flat_map-append sub_bytes (some_sub 5 segment_info infos) (some_sub 6 init inits ++ some_sub 7 group groups))) in
    turned ∙ (ap (λ y. x ++ y) middle
    ∙ sym (flat_map-cons sub_bytes (record { kind = 8; payload = vector symbol symbols }) (some_sub 5 segment_info infos ++ (some_sub 6 init inits ++ some_sub 7 group groups))))

-- ---- all of it

payload_fits : (kind : ℕ) (payload : List ℕ) → Fits (kind ∷ sized payload) → Fits payload
payload_fits kind payload fits = right_fits (u32 (length payload)) payload (right_fits (kind ∷ []) (sized payload) fits)

sub_fits : {A : Type 0} (kind : ℕ) (item : A → List ℕ) (xs : List A) (x : A) (ys : List A) → xs ≡ x ∷ ys → Fits (subsection kind item xs) → Fits (vector item xs)
sub_fits kind item [] x ys e fits = absurd cc
sub_fits kind item (z ∷ zs) x ys e fits = payload_fits kind (vector item (z ∷ zs)) fits

pub linking_spelled : (r : Relocatable) → IsLinking r → Fits (linking r) → SpellsLinking (linking_for r) (linking r)
unfolding subs
linking_spelled r sound fits =
    let x : List ℕ = 8 ∷ sized (vector symbol r.symbols) in
    let a : List ℕ = subsection 5 segment_info r.infos in
    let b : List ℕ = subsection 6 init r.inits in
    let c : List ℕ = subsection 7 group r.groups in
    let front : Fits (u32 2 ++ x ++ a ++ b) = left_fits (u32 2 ++ x ++ a ++ b) c fits in
    let fits_c : Fits c = right_fits (u32 2 ++ x ++ a ++ b) c fits in
    let fits_b : Fits b = right_fits (u32 2 ++ x ++ a) b front in
    let fits_a : Fits a = right_fits (u32 2 ++ x) a (left_fits (u32 2 ++ x ++ a) b front) in
    let fits_x : Fits x = right_fits (u32 2) x (left_fits (u32 2 ++ x) a (left_fits (u32 2 ++ x ++ a) b front)) in
    let turned : linking r ≡ u32 2 ++ (x ++ a ++ b ++ c) =
    append_assoc (u32 2 ++ x ++ a) b c ∙ (append_assoc (u32 2 ++ x) a (b ++ c) ∙ (append_assoc (u32 2) x (a ++ (b ++ c))
    ∙ ap (λ y. u32 2 ++ y) (sym (append_assoc (x ++ a) b c ∙ append_assoc x a (b ++ c))))) in
    let bytes : linking r ≡ u32 2 ++ flat_map sub_bytes (subs r.symbols r.infos r.inits r.groups) = turned ∙ ap (λ y. u32 2 ++ y) (joined r.symbols r.infos r.inits r.groups) in
    let rest : Fits (flat_map sub_bytes (subs r.symbols r.infos r.inits r.groups)) = right_fits (u32 2) (flat_map sub_bytes (subs r.symbols r.infos r.inits r.groups)) (subst Fits bytes fits) in
    record {
      subsections = subs r.symbols r.infos r.inits r.groups;
      spelled = (u32 2, flat_map sub_bytes (subs r.symbols r.infos r.inits r.groups), u32_spells 2 (omega arith), all_subs (subs r.symbols r.infos r.inits r.groups) rest, bytes);
      segments = subst (λ ps. IsSaid SpellsSegmentInfo ps r.infos) (sym (only_infos r.symbols r.infos r.inits r.groups))
          (said_of SpellsSegmentInfo segment_info r.infos (λ y ys e. own_vector SpellsSegmentInfo segment_info IsInfo some_info info_of r.infos sound.infos (sub_fits 5 segment_info r.infos y ys e fits_a)));
      inits = subst (λ ps. IsSaid SpellsInit ps r.inits) (sym (only_inits r.symbols r.infos r.inits r.groups))
          (said_of SpellsInit init r.inits (λ y ys e. own_vector SpellsInit init IsInit some_init init_of r.inits sound.inits (sub_fits 6 init r.inits y ys e fits_b)));
      groups = subst (λ ps. IsSaid SpellsGroup ps r.groups) (sym (only_groups r.symbols r.infos r.inits r.groups))
          (said_of SpellsGroup group r.groups (λ y ys e. own_vector SpellsGroup group IsGroup some_group group_of r.groups sound.groups (sub_fits 7 group r.groups y ys e fits_c)));
      symbols = subst (λ ps. IsSaid SpellsSymbol ps (map shown r.symbols)) (sym (only_symbols r.symbols r.infos r.inits r.groups))
          (vector_of SpellsSymbol symbol shown IsSymbol some_symbol symbol_of r.symbols sound.symbols (payload_fits 8 (vector symbol r.symbols) fits_x));
    }
  where
    all_subs : (ss : List Subsection) → Fits (flat_map sub_bytes ss) → SpellsMany SpellsSubsection ss (flat_map sub_bytes ss)
    all_subs ss f = subst (λ xs. SpellsMany SpellsSubsection xs (flat_map sub_bytes ss)) (same_map ss)
        (many SpellsSubsection sub_bytes (λ s. s) (λ s. ⊤) sub_of ss (λ k d lt. tt) f)
