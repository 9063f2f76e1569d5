-- What references of the parts of loaded objects name: a symbol of a kind that the reference's type names, which means what is of the same kind.
use Rattle.std.proofs.Common.{◌≡◌, ℕ, List, map, None, Bool, true, false, refl, sym, ap, ◌∙◌, subst, inl, inr, ⊎_elim, arith}
use Rattle.std.specs.Prelude.{◌⊎◌, ◌==◌, ◌||◌}
use Rattle.std.proofs.lemmas.Bool.{eqb-true, or_cases}
use Rattle.list_places.specs.Has.{Has}
use Rattle.list_places.proofs.Lists.{has_filter}
use Rattle.linking_section.specs.declared.symbol.SymbolKind.{SymbolKind}
use Rattle.linking_section.specs.declared.symbol.SymbolKind.TheVariants.{Function, Datum, GlobalVar, Section, Table}
use Rattle.object_rules.specs.Relocs.{may_name}
use Rattle.object_file.specs.declared.object.Object.{Object}
use Rattle.made_symbols.specs.Made.{made}
use Rattle.made_symbols.specs.declared.mode.Mode.TheVariants.{Plain}
use Rattle.round_rules.specs.Rounds.{Candidate}
use Rattle.link_plan.specs.declared.plan.Plan.{Plan}
use Rattle.mark_bits.specs.declared.chunk.Chunk.{Chunk}
use Rattle.name_rules.specs.Entries.{InputSymbol, ImportKey, is_entry, is_named, name_of, entries}
use Rattle.name_rules.specs.Meanings.{Meaning, here, imported, Resolved, resolved_in, no_uses}
use Rattle.name_rules.specs.Cases.{clash_by}
use Rattle.link_rules.specs.Program.{Program, strict_program, loosened, Part, Ref, refs, parts_of, init_calls}
use Rattle.link_rules.specs.Keys.{is_function_type}
use Rattle.link_facts.specs.Loaded.{AreLoaded}
use Rattle.link_facts.proofs.Symbols.{entry_known, symbol_listed}
use Rattle.link_facts.proofs.Meant.{Means, means, one_kind}
use Rattle.link_facts.proofs.Parts.{made_behind, made_by_input}
use Rattle.link_facts.proofs.SoundPrograms.{Stands, stands_ref, import_type, made_calls, parts_are, names_symbol}
use Rattle.link_facts.proofs.Loosened.{came, ref_came, changed_or_not, ref_by, kind_is as loose_kind, chunk_is}

-- What is known of a reference.
pub record IsAsked (ref : Ref) : Type 0 where
  pub names : may_name ref.kind ref.entry.symbol.kind ≡ true
  pub same : (e : InputSymbol) → ref.meaning ≡ here e → e.symbol.kind ≡ ref.entry.symbol.kind
  pub function : (k : ImportKey) → ref.meaning ≡ imported k → ref.entry.symbol.kind ≡ Function → is_function_type k.type ≡ true
  pub datum : (k : ImportKey) → ref.meaning ≡ imported k → ref.entry.symbol.kind ≡ Datum → ⊥

-- ---- the kind of symbol that a type names

function_by : (n : ℕ) → may_name n Datum ≡ false → may_name n GlobalVar ≡ false → may_name n Section ≡ false → may_name n Table ≡ false → (k : SymbolKind) → may_name n k ≡ true → k ≡ Function
function_by n a b c d Function t = refl
function_by n a b c d Datum t = absurd (grind (arith, a, t))
function_by n a b c d GlobalVar t = absurd (grind (arith, b, t))
function_by n a b c d Section t = absurd (grind (arith, c, t))
function_by n a b c d Table t = absurd (grind (arith, d, t))

datum_by : (n : ℕ) → may_name n Function ≡ false → may_name n GlobalVar ≡ false → may_name n Section ≡ false → may_name n Table ≡ false → (k : SymbolKind) → may_name n k ≡ true → k ≡ Datum
datum_by n a b c d Function t = absurd (grind (arith, a, t))
datum_by n a b c d Datum t = refl
datum_by n a b c d GlobalVar t = absurd (grind (arith, b, t))
datum_by n a b c d Section t = absurd (grind (arith, c, t))
datum_by n a b c d Table t = absurd (grind (arith, d, t))

one_of_three : (n a b c : ℕ) (P : ℕ → Type 0) → ((n == a) || (n == b) || (n == c)) ≡ true → P a → P b → P c → P n
one_of_three n a b c P h x y z =
    ⊎_elim
    (λ q. ⊎_elim (λ q. subst P (sym (eqb-true n a q)) x) (λ q. subst P (sym (eqb-true n b q)) y) (or_cases (n == a) (n == b) q))
    (λ q. subst P (sym (eqb-true n c q)) z)
    (or_cases ((n == a) || (n == b)) (n == c) h)

-- a slot is asked of a function
pub slot_names : (n : ℕ) (k : SymbolKind) → ((n == 1) || (n == 2) || (n == 12)) ≡ true → may_name n k ≡ true → k ≡ Function
slot_names n k h =
    one_of_three n 1 2 12 (λ n. may_name n k ≡ true → k ≡ Function) h
    (function_by 1 refl refl refl refl k) (function_by 2 refl refl refl refl k) (function_by 12 refl refl refl refl k)

-- an address of a datum
pub address_names : (n : ℕ) (k : SymbolKind) → ((n == 3) || (n == 4) || (n == 5) || (n == 11)) ≡ true → may_name n k ≡ true → k ≡ Datum
address_names n k h =
    ⊎_elim
    (λ q. one_of_three n 3 4 5 (λ n. may_name n k ≡ true → k ≡ Datum) q
    (datum_by 3 refl refl refl refl k) (datum_by 4 refl refl refl refl k) (datum_by 5 refl refl refl refl k))
    (λ q. subst (λ n. may_name n k ≡ true → k ≡ Datum) (sym (eqb-true n 11 q)) (datum_by 11 refl refl refl refl k))
    (or_cases ((n == 3) || (n == 4) || (n == 5)) (n == 11) h)

-- and what is read from a cell is one of these, or a global
pub cell_names : (k : SymbolKind) → may_name 7 k ≡ true → (k ≡ GlobalVar → ⊥) → (k ≡ Function) ⊎ (k ≡ Datum)
cell_names Function t g = inl refl
cell_names Datum t g = inr refl
cell_names GlobalVar t g = absurd (g refl)
cell_names Section t g = absurd (grind arith)
cell_names Table t g = absurd (grind arith)

-- ---- references of the program

module _ (plan : Plan) (files : List (List ℕ)) (all : List Candidate) (objects : List Object) (loaded : AreLoaded objects) (clear : clash_by plan.loose_calls (entries Plain objects) ≡ None) where
  abbrev p : Program
  p = strict_program Plain plan files all objects

  abbrev es : List InputSymbol
  es = entries Plain objects

  module _ (part : Part) (ref : Ref) (s : Stands plan files all objects loaded clear part ref) where
    kind_is : ref.entry.symbol.kind ≡ s.names.is.symbol.kind
    kind_is = ap (λ (w : InputSymbol). w.symbol.kind) s.names.is.entry

    listed : is_entry ref.entry ≡ true → Has es ref.entry
    listed t = symbol_listed objects s.object ref.entry s.there s.names.is.listed t

    means_by : (m : Meaning) → ref.meaning ≡ m → Means es ref.entry m
    means_by m q = subst (Means es ref.entry) (sym s.names.is.meant ∙ q) (means plan.allow_undefined es ref.entry)

    same_by : (e : InputSymbol) → Means es ref.entry (here e) → e.symbol.kind ≡ ref.entry.symbol.kind
    same_by e (inl x) = one_kind plan.loose_calls es e ref.entry clear (listed x.0) x.1.0
    same_by e (inr (inl x)) = ap (λ (w : InputSymbol). w.symbol.kind) (here_is e ref.entry x.0)
      where
        here_is : (a b : InputSymbol) → here a ≡ here b → a ≡ b
        here_is a b h = grind arith
    same_by e (inr (inr x)) = absurd (grind arith)

    import_by : (k : ImportKey) → Means es ref.entry (imported k) → (ref.entry.symbol.kind ≡ Function → is_function_type k.type ≡ true) × (ref.entry.symbol.kind ≡ Datum → ⊥)
    import_by k (inl x) =
        let r = x.1.0 in
        let known = entry_known objects r (has_filter (is_named (name_of ref.entry)) es r x.1.1).0 in
        let t = import_type plan files all objects loaded clear r known k x.1.2 ref.entry.symbol.kind (one_kind plan.loose_calls es r ref.entry clear (listed x.0) x.1.1) in
        (t.0, t.2)
    import_by k (inr (inl x)) = absurd (let z = x.0 in grind arith)
    import_by k (inr (inr x)) = absurd (grind arith)

    asked_by : IsAsked ref
    asked_by = record {
      names = ap (λ n. may_name n ref.entry.symbol.kind) s.names.is.kind_is ∙ ap (may_name s.names.kind) kind_is ∙ s.names.asked;
      same = λ e q. same_by e (means_by (here e) q);
      function = λ k q. (import_by k (means_by (imported k) q)).0;
      datum = λ k q. (import_by k (means_by (imported k) q)).1;
    }

  pub asked : (part : Part) (ref : Ref) → Has p.parts part → Has (refs part) ref → IsAsked ref
  asked part ref h r = asked_by part ref (stands_ref plan files all objects loaded clear part ref h r)

  -- the linker's functions call
  pub calls : (part : Part) (ref : Ref) → Has p.parts part → part.chunk.input ≡ 0 → Has (refs part) ref → ref.kind ≡ 0
  unfolding parts_of
  calls part ref h z r =
      let res : Object → Resolved = λ o. resolved_in Plain no_uses plan.allow_undefined es objects o in
      let to = init_calls (map res objects) in
      let there = subst (λ xs. Has xs part) (parts_are plan files all objects loaded clear) h in
      let m = made_by_input all objects res (λ o. refl) to loaded.rise part there z in
      made_calls plan files all objects loaded clear part ref (made_behind to 0 (made Plain) part m).0 r

  -- ---- the same when calls are loosened

  changed : (r : Ref) → IsAsked r → (b : Bool) → IsAsked (ref_by es b r)
  changed r s b = elim (changed_or_not es b r) as (λ _. IsAsked (ref_by es b r)) [
    | inl c ↦ subst IsAsked (sym c.is) (record {
      names = s.names;
      same = λ e q. absurd (grind arith);
      function = λ k q. absurd (grind arith);
      datum = λ k q. absurd (grind arith);
    })
    | inr same ↦ subst IsAsked (sym same) s
  ]

  pub loose_asked : (part : Part) (ref : Ref) → Has (loosened p).parts part → Has (refs part) ref → IsAsked ref
  loose_asked part ref h r =
      let symbols = names_symbol plan files all objects loaded clear in
      let x = came p refl symbols part h in
      let y = ref_came p refl symbols x.0 ref (subst (λ (w : Part). Has (refs w) ref) (sym x.2) r) in
      subst IsAsked y.2 (changed y.0 (asked x.0 y.0 x.1 y.1) plan.loose_calls)

  pub loose_calls : (part : Part) (ref : Ref) → Has (loosened p).parts part → part.chunk.input ≡ 0 → Has (refs part) ref → ref.kind ≡ 0
  loose_calls part ref h z r =
      let symbols = names_symbol plan files all objects loaded clear in
      let x = came p refl symbols part h in
      let y = ref_came p refl symbols x.0 ref (subst (λ (w : Part). Has (refs w) ref) (sym x.2) r) in
      let k = ap (λ (w : Part). w.chunk) (sym x.2) ∙ chunk_is es plan.loose_calls x.0 in
      ap (λ (w : Ref). w.kind) (sym y.2) ∙ loose_kind es plan.loose_calls y.0 ∙ calls x.0 y.0 x.1 (ap (λ (c : Chunk). c.input) (sym k) ∙ z) y.1
