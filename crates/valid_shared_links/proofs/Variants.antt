-- The name of a variant is that of one type and name alone, and no symbol has it: it begins with a byte that no UTF-8 has.
use Rattle.std.proofs.Common.{◌≡◌, ℕ, ◌+◌, ◌/◌, ◌<◌, List, [], ◌∷◌, ◌++◌, map, Option, Some, None, Bool, true, false, cond, refl, sym, ap, ◌∙◌, subst, inl, inr, ⊎_elim, arith, append_assoc}
use Rattle.std.specs.Prelude.{nat_lt, unwrap_or, IfSome, IsUtf8}
use Rattle.std.specs.List.{list_all}
use Rattle.std.proofs.Math.Utf8.{scalar, scalars, encode, encodes, next, scalar_cases}
use Rattle.std.proofs.lemmas.Bool.{and_parts, ltb-true}
use Rattle.list_places.specs.Has.{Has}
use Rattle.list_places.proofs.Lists.{has_at, has_either, has_flat, has_map, find_has, all_has}
use Rattle.wasm_types.specs.declared.value.ValType.{ValType}
use Rattle.wasm_types.specs.declared.value.ValType.TheVariants.{I32, I64, F32, F64}
use Rattle.wasm_types.specs.declared.function.FuncType.{FuncType}
use Rattle.wasm_types.specs.Types.{val_byte}
use Rattle.object_file.specs.declared.object.Object.{Object}
use Rattle.object_file.specs.Spellable.{IsSpellable, IsSymbol}
use Rattle.round_rules.specs.Rounds.{Candidate}
use Rattle.link_plan.specs.declared.plan.Plan.{Plan}
use Rattle.made_symbols.specs.Made.{MadeSymbol, made}
use Rattle.made_symbols.specs.declared.mode.Mode.TheVariants.{Shared}
use Rattle.name_rules.specs.Entries.{InputSymbol, SymbolType, of_function, of_global, untyped, name_of, is_named, entries, made_from as linkers_from}
use Rattle.name_rules.specs.Meanings.{Meaning, Resolved, resolve}
use Rattle.name_rules.specs.Cases.{clash_by, first_entry}
use Rattle.link_rules.specs.Program.{Program, loosened, Ref, is_mismatch, variant, variant_name, renamed, variants_among, variants_of, loose_variants}
use Rattle.link_rules.specs.Keys.{callable}
use Rattle.shared_facts.proofs.shared_links_lemmas.link_worlds_lemmas.Keys.{bytes_equal}
use Rattle.shared_facts.specs.shared_links.link_program.declared.home.Home.{Home}
use Rattle.shared_facts.specs.shared_links.link_program.Loaded.{IsLoaded}
use Rattle.shared_facts.specs.shared_links.program_build.Standing.{StrictPartsStand, LoadedPartsStand}
use Rattle.shared_facts.proofs.shared_links_lemmas.link_facts_lemmas.Symbols.{is_symbol}
use Rattle.shared_facts.proofs.Entries.{Known, entry_known}
use Rattle.shared_facts.proofs.shared_links_lemmas.link_facts_lemmas.Loosened.{IsChanged}
use Rattle.valid_shared_links.proofs.Parts.{strict, res}

-- ---- text doesn't begin with the mark

abbrev NoMark : List ℕ → Type 0
NoMark [] = Unit {0}
NoMark (b ∷ bs) = b ≡ 0xFF → ⊥

first_byte : (c : ℕ) (rest : List ℕ) → scalar c ≡ true → NoMark (encode c ++ rest)
unfolding encode
first_byte c rest s = by (nat_lt c 128) (nat_lt c 2048) (nat_lt c 65536) (ltb-true c 128) (ltb-true c 2048) (ltb-true c 65536)
  where
    small : c < 1114112
    small = ⊎_elim (λ (h : c < 55296). omega (arith, h)) (λ h. h.1) (scalar_cases c s)

    by : (x y z : Bool) → (x ≡ true → c < 128) → (y ≡ true → c < 2048) → (z ≡ true → c < 65536)
        → NoMark ((cond x (c ∷ []) (cond y ((192 + c / 64) ∷ next c ∷ []) (cond z ((224 + c / 4096) ∷ next (c / 64) ∷ next c ∷ []) ((240 + c / 262144) ∷ next (c / 4096) ∷ next (c / 64) ∷ next c ∷ [])))) ++ rest)
    by true y z f g h = λ e. let l = f refl in omega (arith, l, e)
    by false true z f g h = λ e. let l = g refl in omega (arith, l, e)
    by false false true f g h = λ e. let l = h refl in omega (arith, l, e)
    by false false false f g h = λ e. let l = small in omega (arith, l, e)

text_begins : (bs : List ℕ) → IsUtf8 bs → NoMark bs
text_begins bs u = subst NoMark u.1.1 (by_chars u.0 u.1.0)
  where
    by_chars : (cs : List ℕ) → scalars cs ≡ true → NoMark (encodes cs)
    by_chars [] e = tt
    by_chars (c ∷ cs) e = first_byte c (encodes cs) (and_parts (scalar c) (scalars cs) e).0

-- ---- the name of a variant

val_same : (a b : ValType) → val_byte a ≡ val_byte b → a ≡ b
val_same I32 I32 h = refl
val_same I64 I64 h = refl
val_same F32 F32 h = refl
val_same F64 F64 h = refl
val_same _ _ h = absurd (grind arith)

no_mark_byte : (a : ValType) → val_byte a ≡ 0xFF → ⊥
no_mark_byte I32 h = absurd (grind arith)
no_mark_byte I64 h = absurd (grind arith)
no_mark_byte F32 h = absurd (grind arith)
no_mark_byte F64 h = absurd (grind arith)

heads : {A : Type 0} (a b : A) (as' bs : List A) → (a ∷ as') ≡ (b ∷ bs) → (a ≡ b) × (as' ≡ bs)
heads a b as' bs e = (grind arith, grind arith)

-- types up to a mark, and what is behind it
up_to_mark : (ps qs : List ValType) (xs ys : List ℕ) → map val_byte ps ++ (0xFF ∷ xs) ≡ map val_byte qs ++ (0xFF ∷ ys) → (ps ≡ qs) × (xs ≡ ys)
up_to_mark [] [] xs ys e = (refl, (heads 0xFF 0xFF xs ys e).1)
up_to_mark [] (q ∷ qs) xs ys e = absurd (no_mark_byte q (sym (heads 0xFF (val_byte q) xs (map val_byte qs ++ (0xFF ∷ ys)) e).0))
up_to_mark (p ∷ ps) [] xs ys e = absurd (no_mark_byte p (heads (val_byte p) 0xFF (map val_byte ps ++ (0xFF ∷ xs)) ys e).0)
up_to_mark (p ∷ ps) (q ∷ qs) xs ys e =
    let h = heads (val_byte p) (val_byte q) (map val_byte ps ++ (0xFF ∷ xs)) (map val_byte qs ++ (0xFF ∷ ys)) e in
    let r = up_to_mark ps qs xs ys h.1 in
    (ap (λ x. x ∷ ps) (val_same p q h.0) ∙ ap (λ xs. q ∷ xs) r.0, r.1)

regrouped : (t : FuncType) (name : List ℕ) → variant_name t name ≡ 0xFF ∷ (map val_byte t.params ++ (0xFF ∷ (map val_byte t.results ++ (0xFF ∷ name))))
regrouped t name = ap (λ xs. 0xFF ∷ xs) (append_assoc (map val_byte t.params) (0xFF ∷ map val_byte t.results) (0xFF ∷ name))

type_of_name : (t u : FuncType) (m n : List ℕ) → variant_name t m ≡ variant_name u n → t ≡ u
type_of_name t u m n e =
    let h = heads 0xFF 0xFF _ _ (sym (regrouped t m) ∙ e ∙ regrouped u n) in
    let a = up_to_mark t.params u.params _ _ h.1 in
    let b = up_to_mark t.results u.results m n a.1 in
    ap (λ ps. record { params = ps; results = t.results }) a.0 ∙ ap (λ rs. record { params = u.params; results = rs }) b.0

marked : (t : FuncType) (name other : List ℕ) → other ≡ variant_name t name → NoMark other → ⊥
marked t name other e h = (subst NoMark (e ∙ regrouped t name) h) refl

-- ---- variants

made_from : (all : List InputSymbol) (xs : List InputSymbol) (ms : List Meaning) (a : InputSymbol) → Has (variants_among all xs ms) a → (e : InputSymbol) × Has xs e × (variant e ≡ a)
made_from all [] ms a h = absurd h
made_from all (e ∷ xs) [] a h = absurd h
made_from all (e ∷ xs) (m ∷ ms) a h = onto (is_mismatch all e m) h (made_from all xs ms a)
  where
    onto : (b : Bool) → Has (cond b (variant e ∷ variants_among all xs ms) (variants_among all xs ms)) a → (Has (variants_among all xs ms) a → (x : InputSymbol) × Has xs x × (variant x ≡ a)) → (x : InputSymbol) × Has (e ∷ xs) x × (variant x ≡ a)
    onto true (inl q) rest = (e, inl refl, q)
    onto true (inr k) rest = let r = rest k in (r.0, inr r.1, r.2)
    onto false k rest = let r = rest k in (r.0, inr r.1, r.2)

abbrev begins_low : List ℕ → Bool
begins_low [] = true
begins_low (b ∷ bs) = nat_lt b 128

low_begins : (bs : List ℕ) → begins_low bs ≡ true → NoMark bs
low_begins [] t = tt
low_begins (b ∷ bs) t = λ q. let l = ltb-true b 128 t in omega (arith, l, q)

entry_begins : (place : ℕ) (ms : List MadeSymbol) → list_all (λ m. begins_low m.name) ms ≡ true → (e : InputSymbol) → Has (linkers_from place ms) e → NoMark (name_of e)
entry_begins place [] t e h = absurd h
entry_begins place (m ∷ ms) t e (inl q) = subst (λ (w : InputSymbol). NoMark (name_of w)) q (low_begins m.name (and_parts (begins_low m.name) (list_all (λ m. begins_low m.name) ms) t).0)
entry_begins place (m ∷ ms) t e (inr h) = entry_begins (place + 1) ms (and_parts (begins_low m.name) (list_all (λ m. begins_low m.name) ms) t).1 e h

made_low : list_all (λ m. begins_low m.name) (made Shared) ≡ true
made_low = refl

module _ (strict_law : StrictPartsStand) (stand_law : LoadedPartsStand) (plan : Plan) (files : List (List ℕ)) (all : List Candidate) (objects : List Object) (homes : List Home) (loaded : IsLoaded files all objects homes)
    (clear : clash_by plan.loose_calls (entries Shared objects) ≡ None) (text : (o : Object) → Has objects o → IsSpellable o) where
  abbrev l : Program
  l = loosened (strict strict_law stand_law plan files all objects homes loaded clear)

  known_begins : (e : InputSymbol) → Known objects loaded.rise e → NoMark (name_of e)
  known_begins e (inl h) = entry_begins 0 (made Shared) made_low e h
  known_begins e (inr x) =
      let s = all_has IsSymbol x.object.symbols (text x.object x.there).symbols x.symbol.symbol (has_at x.object.symbols x.symbol.place x.symbol.symbol x.symbol.there) in
      subst (λ (y : InputSymbol). NoMark (name_of y)) (sym x.symbol.is) (by x.symbol.symbol.name s.name)
    where
      by : (o : Option (List ℕ)) → IfSome o IsUtf8 → NoMark (unwrap_or o [])
      by None h = tt
      by (Some n) h = text_begins n h

  resolved_are : l.resolved ≡ map (res strict_law stand_law plan files all objects homes loaded clear) objects
  unfolding resolve
  resolved_are = refl

  -- a variant of the name has the type
  of_variant : (a : InputSymbol) (t : FuncType) (name : List ℕ) → name_of a ≡ variant_name t name → (e : InputSymbol) → Known objects loaded.rise e → variant e ≡ a → a.type ≡ of_function t
  of_variant a t name n e k q = by e.type refl
    where
      given : (type : SymbolType) → e.type ≡ type → renamed type (name_of e) ≡ variant_name t name
      given type s = ap (λ y. renamed y (name_of e)) (sym s) ∙ ap name_of q ∙ n

      by : (type : SymbolType) → e.type ≡ type → a.type ≡ of_function t
      by (of_function u) s = ap (λ (x : InputSymbol). x.type) (sym q) ∙ s ∙ ap of_function (type_of_name u t (name_of e) name (given (of_function u) s))
      by (of_global g) s = absurd (marked t name (name_of e) (given (of_global g) s) (known_begins e k))
      by untyped s = absurd (marked t name (name_of e) (given untyped s) (known_begins e k))

  pub variant_typed : (ref : Ref) → IsChanged (entries Shared objects) plan.loose_calls ref → (t : FuncType) → ref.entry.type ≡ of_function t → (a : InputSymbol) → first_entry (callable l) (name_of (variant ref.entry)) ≡ Some a → a.type ≡ ref.entry.type
  variant_typed ref c t f a found =
      let h = find_has (is_named (name_of (variant ref.entry))) (callable l) a found in
      let n : name_of a ≡ variant_name t (name_of ref.entry) = bytes_equal (name_of a) (name_of (variant ref.entry)) h.1 ∙ ap (λ y. renamed y (name_of ref.entry)) f in
      ⊎_elim
      (λ k. absurd (marked t (name_of ref.entry) (name_of a) n (known_begins a (entry_known objects loaded.rise a k))))
      (λ k.
      let v : Has (variants_of (entries Shared objects) l.resolved) a = subst (λ b. Has (loose_variants b (entries Shared objects) l.resolved) a) c.asked k in
      let r = has_flat (λ (r : Resolved). variants_among (entries Shared objects) r.symbols r.meanings) l.resolved a v in
      let o = has_map (res strict_law stand_law plan files all objects homes loaded clear) objects r.0 (subst (λ rs. Has rs r.0) resolved_are r.1) in
      let e = made_from (entries Shared objects) r.0.symbols r.0.meanings a r.2 in
      let s = is_symbol objects o.0 e.0 (subst (λ (w : Resolved). Has w.symbols e.0) (sym o.2) e.1) in
      of_variant a t (name_of ref.entry) n e.0 (inr (record { object = o.0; there = o.1; symbol = s })) e.2 ∙ sym f)
      (has_either (entries Shared objects) l.variants a h.0)
