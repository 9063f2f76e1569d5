-- The null functions that parts call have the same names in the later link, in one order, and the same types.
use Rattle.std.proofs.Common.{◌≡◌, ℕ, zero, suc, ◌<◌, ◌≤◌, ◌==◌, Bool, true, false, not, ◌&&◌, List, [], ◌∷◌, ◌++◌, map, filter, length, inl, inr, ⊎_elim, refl, sym, ap, ◌∙◌, subst, arith}
use Rattle.std.specs.Prelude.{◌⊎◌, if◌then◌else◌, Option, Some, None, option_map, unwrap_or, slice_get, filter_map, flat_map, bytes_eq, All, ℤ, pos}
use Rattle.std.specs.List.{AllZip, list_any}
use Rattle.std.proofs.lemmas.Bool.{and_parts, and_from, eq-eqb, ne_eqb, or_left}
use Rattle.std.proofs.lemmas.Option.{slice_get-map}
use Rattle.list_places.specs.Has.{Has}
use Rattle.list_places.proofs.Lists.{has_either, has_flat, flat_has, has_filter, filter_has, has_any, any_has, has_pick, pick_has, has_map, map_has, has_at, all_has, find_has, some_is, distinct_only}
use Rattle.name_rules.specs.object_file.wl_base.Choice.{first_some, given}
use Rattle.name_rules.specs.object_file.reloc_section.declared.kinds.TheConstants as relocs
use Rattle.name_rules.specs.object_file.linking_section.declared.init.InitFunc.{InitFunc}
use Rattle.name_rules.specs.object_file.linking_section.declared.symbol.SymbolKind.TheVariants.{Section}
use Rattle.name_rules.specs.object_file.linking_section.Flags.{is_explicit}
use Rattle.name_rules.specs.object_file.body_windows.declared.operand.Operand.{Operand}
use Rattle.name_rules.specs.object_file.body_windows.declared.operand.Operand.TheVariants as operands
use Rattle.name_rules.specs.object_file.declared.object.Object.{Object}
use Rattle.name_rules.specs.object_file.Spaces.{written_type}
use Rattle.made_symbols.specs.declared.mode.Mode.TheVariants.{Plain}
use Rattle.made_symbols.specs.Made.{made}
use Rattle.name_rules.specs.Entries.{InputSymbol, ImportKey, name_of, named, is_kind, is_entry, is_named, same_entry, entries, symbols_of, made_from}
use Rattle.name_rules.specs.Meanings.{Meaning, here, imported, null, nothing, Resolved, no_uses, own_meaning, by_rules, winner, definitions, references, least_import, where_given, may_import, may_be_null}
use Rattle.name_rules.specs.Cases.{first_entry}
use Rattle.link_rules.specs.Program.{Program, Part, Named, a_symbol, a_type, Ref, refs, named_ref, ref_to, ref_in, operand_named, window_named, InitCall, init_call, is_skipped, init_calls_in, by_priority, init_calls, kept_in, is_that}
use Rattle.link_rules.specs.Marks.{refs_of, all_symbols}
use Rattle.link_rules.specs.Keys.{is_null, calls_stub, callable, stub_names, entry_type, parts_of_kind}
use Rattle.partial_rules.specs.Partial.{standing, stands, stands_for_name, is_referenced, name_references, names_it, object_winner, least_in_object}
use Rattle.partial_rules.specs.Moving.{Moving, moved_meaning, AlikeRef, AlikeNamed, AlikePart, AlikeParts}
use Rattle.partial_rules.specs.Alike.{In}
use Rattle.partial_laws.specs.Inputs.{Run, Objects, whole_objects, run_objects, later_objects, AreCut}
use Rattle.partial_laws.specs.Standing.{alone_symbol, joining}
use Rattle.partial_laws.specs.Joining.{Joining, IsJoining, Kept as KeptSymbol, joined}
use Rattle.partial_laws.specs.Joined.{linked_symbols, SymbolsStand, NamesStand}
use Rattle.partial_laws.proofs.Instance.{all_from_has}
use Rattle.partial_laws.proofs.Same.{entry_itself, name_itself, name_equal}
use Rattle.partial_laws.proofs.Cases.{one_type}
use Rattle.partial_laws.proofs.Leasts.{least_none}
use Rattle.partial_laws.proofs.Won.{winning}
use Rattle.partial_laws.proofs.Opened.{none_here, definition}
use Rattle.partial_laws.proofs.Loading.{rise_above, run_rise}
use Rattle.partial_laws.proofs.Joins.{all_made, standing_is, not_after, not_before}
use Rattle.partial_laws.proofs.Regions.{OfRun, region, of_run, run_linked, entry_linked, linked_entry, made_linked, entry_from}
use Rattle.partial_laws.proofs.Programs.{programs_are_of, callable_are}
use Rattle.partial_laws.proofs.Stated.{stand, names, is as is_joining, kept_names}
use Rattle.partial_parts_laws.specs.Linked.{Links, alone_program, whole_program, later_program}
use Rattle.partial_parts_laws.specs.Moves.{moving, StandsInLinks}
use Rattle.partial_parts_laws.specs.Alike.{HeldChunk, HeldSymbol}
use Rattle.partial_parts_laws.specs.AlikeLinks.{WordsStay, StubsStay}
use Rattle.partial_parts_laws.proofs.Parts.{make_function, make_segment, make_global, res, own_parts, object_parts, parts_are, resolved_are, function_parts, segment_parts, global_parts, of_three}
use Rattle.partial_parts_laws.proofs.Zips.{indexed_all}
use Rattle.partial_parts_laws.proofs.Symbols.{symbol_input}
use Rattle.partial_parts_laws.proofs.Referred.{whole_meaning, not_found, entry_there, alone_there, winner_entry, winner_there}
use Rattle.partial_parts_laws.proofs.Alikes.{sorted_has}
use Rattle.partial_parts_laws.proofs.Linking.{names_agree, in_has}

no_true : false ≡ true → ⊥
no_true e = absurd cc

no_some : {A : Type 0} (x : A) → None ≡ Some x → ⊥
no_some x e = absurd cc

same_tests : (a b : Bool) → (a ≡ true → b ≡ true) → (b ≡ true → a ≡ true) → a ≡ b
same_tests true b f g = sym (f refl)
same_tests false true f g = g refl
same_tests false false f g = refl

-- ---- who stands beside an element

zip_first : {A B : Type 0} (R : A → B → Type 0) (xs : List A) (ys : List B) → AllZip R xs ys → (x : A) → Has xs x → (y : B) × Has ys y × R x y
zip_first R [] ys z x has = absurd has
zip_first R (a ∷ as') [] z x has = absurd z
zip_first R (a ∷ as') (b ∷ bs) z x (inl e) = (b, inl refl, subst (λ c. R c b) e z.0)
zip_first R (a ∷ as') (b ∷ bs) z x (inr has) = let r = zip_first R as' bs z.1 x has in (r.0, inr r.1, r.2)

zip_second : {A B : Type 0} (R : A → B → Type 0) (xs : List A) (ys : List B) → AllZip R xs ys → (y : B) → Has ys y → (x : A) × Has xs x × R x y
zip_second R [] [] z y has = absurd has
zip_second R [] (b ∷ bs) z y has = absurd z
zip_second R (a ∷ as') [] z y has = absurd has
zip_second R (a ∷ as') (b ∷ bs) z y (inl e) = (a, inl refl, subst (R a) e z.0)
zip_second R (a ∷ as') (b ∷ bs) z y (inr has) = let r = zip_second R as' bs z.1 y has in (r.0, inr r.1, r.2)

module _ (m : Moving) (run : Run) (os : Objects) (ls : Links) where
  abbrev P : Program
  P = whole_program run os ls

  abbrev Q : Program
  Q = later_program run os ls

  abbrev Sides : Part → Part → Type 0
  Sides x y = AlikePart m (HeldChunk run os ls) (HeldSymbol run os ls) P Q x y

  abbrev Both : Named → Named → Type 0
  Both x y = AlikeNamed m (HeldChunk run os ls) (HeldSymbol run os ls) x y

  abbrev Refs : Ref → Ref → Type 0
  Refs a b = AlikeRef m (HeldChunk run os ls) (HeldSymbol run os ls) a b

  null_moves : (x : Meaning) → is_null (moved_meaning m x) ≡ is_null x
  null_moves (here e) = refl
  null_moves (imported k) = refl
  null_moves null = refl
  null_moves nothing = refl

  stub_moves : (name : List ℕ) (a b : Ref) → Refs a b → calls_stub name b ≡ calls_stub name a
  stub_moves name a b r =
      ap (λ k. (k == relocs.FUNCTION_INDEX_LEB) && is_null b.meaning && bytes_eq (name_of b.entry) name) r.kind
      ∙ (ap (λ (t : Bool). (a.kind == relocs.FUNCTION_INDEX_LEB) && t && bytes_eq (name_of b.entry) name) (ap is_null r.meaning ∙ null_moves a.meaning)
      ∙ ap (λ n. (a.kind == relocs.FUNCTION_INDEX_LEB) && is_null a.meaning && bytes_eq n name) r.name)

  ref_beside : (n : Named) (k : Named) → Both n k → (a : Ref) → named_ref n ≡ Some a → (b : Ref) × (named_ref k ≡ Some b) × Refs a b
  ref_beside (a_symbol r) (a_symbol q) z a is = (q, refl, subst (λ c. Refs c q) (some_is r a is) z)
  ref_beside (a_symbol r) (a_type w) z a is = absurd z
  ref_beside (a_type v) (a_symbol q) z a is = absurd z
  ref_beside (a_type v) (a_type w) z a is = absurd cc

  ref_before : (n : Named) (k : Named) → Both n k → (b : Ref) → named_ref k ≡ Some b → (a : Ref) × (named_ref n ≡ Some a) × Refs a b
  ref_before (a_symbol r) (a_symbol q) z b is = (r, refl, subst (λ c. Refs r c) (some_is q b is) z)
  ref_before (a_symbol r) (a_type w) z b is = absurd z
  ref_before (a_type v) (a_symbol q) z b is = absurd z
  ref_before (a_type v) (a_type w) z b is = absurd cc

  module _ (xs ys : List Part) (sides : AlikeParts m (HeldChunk run os ls) (HeldSymbol run os ls) P Q xs ys) where
    by_kind : (k : ℕ) → k < 3 → AllZip Sides (parts_of_kind k xs) (parts_of_kind k ys)
    by_kind zero lt = sides.functions
    by_kind (suc zero) lt = sides.segments
    by_kind (suc (suc zero)) lt = sides.globals
    by_kind (suc (suc (suc k))) lt = absurd (omega (arith, lt))

    forth : (name : List ℕ) → list_any (calls_stub name) (refs_of xs) ≡ true → list_any (calls_stub name) (refs_of ys) ≡ true
    forth name e =
        let a = has_any (calls_stub name) (refs_of xs) e in
        let f = has_flat refs xs a.0 a.1 in
        let k : ℕ = f.0.chunk.kind in
        let hx = filter_has (λ (part : Part). part.chunk.kind == k) xs f.0 f.1 (eq-eqb f.0.chunk.kind k refl) in
        let y = zip_first Sides (parts_of_kind k xs) (parts_of_kind k ys) (by_kind k (all_has (λ (x : Part). x.chunk.kind < 3) xs sides.few f.0 f.1)) f.0 hx in
        let n = has_pick named_ref f.0.named a.0 f.2 in
        let q = zip_first Both f.0.named y.0.named y.2.named n.0 n.1 in
        let b = ref_beside n.0 q.0 q.2 a.0 n.2 in
        any_has (calls_stub name) (refs_of ys) b.0
        (flat_has refs ys y.0 b.0 (has_filter (λ (part : Part). part.chunk.kind == k) ys y.0 y.1).0 (pick_has named_ref y.0.named q.0 b.0 q.1 b.1))
        (stub_moves name a.0 b.0 b.2 ∙ a.2)

    back : (name : List ℕ) → list_any (calls_stub name) (refs_of ys) ≡ true → list_any (calls_stub name) (refs_of xs) ≡ true
    back name e =
        let b = has_any (calls_stub name) (refs_of ys) e in
        let f = has_flat refs ys b.0 b.1 in
        let k : ℕ = f.0.chunk.kind in
        let hy = filter_has (λ (part : Part). part.chunk.kind == k) ys f.0 f.1 (eq-eqb f.0.chunk.kind k refl) in
        let x = zip_second Sides (parts_of_kind k xs) (parts_of_kind k ys) (by_kind k (all_has (λ (y : Part). y.chunk.kind < 3) ys sides.few_too f.0 f.1)) f.0 hy in
        let n = has_pick named_ref f.0.named b.0 f.2 in
        let q = zip_second Both x.0.named f.0.named x.2.named n.0 n.1 in
        let a = ref_before q.0 n.0 q.2 b.0 n.2 in
        any_has (calls_stub name) (refs_of xs) a.0
        (flat_has refs xs x.0 a.0 (has_filter (λ (part : Part). part.chunk.kind == k) xs x.0 x.1).0 (pick_has named_ref x.0.named q.0 a.0 q.1 a.1))
        (sym (stub_moves name a.0 b.0 a.2) ∙ b.2)

    pub same_stubs : (name : List ℕ) → list_any (calls_stub name) (refs_of ys) ≡ list_any (calls_stub name) (refs_of xs)
    same_stubs name = same_tests (list_any (calls_stub name) (refs_of ys)) (list_any (calls_stub name) (refs_of xs)) (back name) (forth name)

-- ---- what references of the whole link mean

module _ (run : Run) (os : Objects) (ls : Links) (s : StandsInLinks run os ls) (w : WordsStay ls) where
  abbrev cut : AreCut run os
  cut = s.names.cut

  abbrev p : Program
  p = alone_program run os ls

  abbrev PW : Program
  PW = whole_program run os ls

  abbrev W : List Object
  W = whole_objects os

  abbrev L : List Object
  L = later_objects run os

  abbrev RO : List Object
  RO = run_objects run os

  abbrev es : List InputSymbol
  es = entries Plain W

  abbrev M : List InputSymbol
  M = flat_map (symbols_of W) os.middle

  abbrev j : Joining
  j = joining run os p

  abbrev al : InputSymbol → InputSymbol
  al = alone_symbol run os

  abbrev Known : InputSymbol → Type 0
  Known e = Has (linked_symbols W) e

  abbrev J : IsJoining j Known es
  J = is_joining run os p s.names

  abbrev st : SymbolsStand run os p
  st = stand run os p s.names

  abbrev nm : NamesStand run os p
  nm = names run os p s.names

  -- It names a symbol of an object, and means what that does.
  abbrev pub Meant : Ref → Type 0
  Meant ref = (ref.meaning ≡ whole_meaning run os ls s ref.entry) × Has (flat_map (symbols_of W) W) ref.entry

  ref_meant : (o : Object) → Has W o → (place kind symbol : ℕ) (addend : ℤ) (ref : Ref) → ref_in (res ls.whole W o) place kind symbol addend ≡ Some ref → Meant ref
  ref_meant o ho place kind symbol addend ref is =
      by_symbol (slice_get (symbols_of W o) symbol) refl (ap (ref_to place kind addend (slice_get (symbols_of W o) symbol)) (sym (slice_get-map (whole_meaning run os ls s) (symbols_of W o) symbol)) ∙ is)
    where
      by_symbol : (x : Option InputSymbol) → slice_get (symbols_of W o) symbol ≡ x → ref_to place kind addend x (option_map (whole_meaning run os ls s) x) ≡ Some ref → Meant ref
      by_symbol None at e = absurd cc
      by_symbol (Some d) at e = subst (λ (r : Ref). Meant r) (some_is (record { place = place; kind = kind; addend = addend; entry = d; meaning = whole_meaning run os ls s d }) ref e) (refl, flat_has (symbols_of W) W o d ho (has_at (symbols_of W o) symbol d at))

  symbol_meant : (o : Object) → Has W o → (place kind symbol : ℕ) (addend : ℤ) (n : Named) → option_map a_symbol (ref_in (res ls.whole W o) place kind symbol addend) ≡ Some n → (ref : Ref) → named_ref n ≡ Some ref → Meant ref
  symbol_meant o ho place kind symbol addend n is ref told = by_ref (ref_in (res ls.whole W o) place kind symbol addend) refl is
    where
      by_ref : (x : Option Ref) → ref_in (res ls.whole W o) place kind symbol addend ≡ x → option_map a_symbol x ≡ Some n → Meant ref
      by_ref None e f = absurd cc
      by_ref (Some r) e f = ref_meant o ho place kind symbol addend ref (e ∙ (ap named_ref (some_is (a_symbol r) n f) ∙ told))

  operand_meant : (o : Object) → Has W o → (op : Operand) (n : Named) → operand_named (res ls.whole W o) op ≡ Some n → (ref : Ref) → named_ref n ≡ Some ref → Meant ref
  operand_meant o ho operands.Number n is ref told = absurd cc
  operand_meant o ho (operands.Symbol kind place symbol addend) n is ref told = symbol_meant o ho place kind symbol addend n is ref told
  operand_meant o ho (operands.TypeRef place index) n is ref told = absurd (no_some ref (ap named_ref (some_is (a_type (record { place = place; type = written_type o index })) n is) ∙ told))
  operand_meant o ho operands.TableZero n is ref told = absurd cc

  calls_meant : (ref : Ref) → Has (init_calls PW.resolved) ref → Meant ref
  unfolding init_calls
  calls_meant ref has =
      let c = has_map (λ (d : InitCall). d.ref) (by_priority (flat_map init_calls_in PW.resolved)) ref has in
      let f = has_flat init_calls_in PW.resolved c.0 (sorted_has (flat_map init_calls_in PW.resolved) c.0 c.1) in
      let g = has_map (λ o. res ls.whole W o) W f.0 (subst (λ rs. Has rs f.0) (resolved_are ls.whole W) f.1) in
      let h = has_filter (λ d. not (is_skipped d)) (filter_map (init_call f.0) f.0.object.inits) c.0 f.2 in
      let k = has_pick (init_call f.0) f.0.object.inits c.0 h.0 in
      by_call g.0 g.1 k.0 c.0 ref (ap (λ (r : Resolved). init_call r k.0) g.2 ∙ k.2) c.2
    where
      by_call : (o : Object) → Has W o → (i : InitFunc) (c : InitCall) (r : Ref) → init_call (res ls.whole W o) i ≡ Some c → c.ref ≡ r → Meant r
      by_call o ho i c r is same = by_ref (ref_in (res ls.whole W o) 0 0 i.symbol (pos 0)) refl is
        where
          by_ref : (x : Option Ref) → ref_in (res ls.whole W o) 0 0 i.symbol (pos 0) ≡ x → option_map (λ (q : Ref). record { priority = i.priority; ref = q }) x ≡ Some c → Meant r
          by_ref None e f = absurd cc
          by_ref (Some q) e f = ref_meant o ho 0 0 i.symbol (pos 0) r (e ∙ ap Some (ap (λ (d : InitCall). d.ref) (some_is (record { priority = i.priority; ref = q }) c f) ∙ same))

  pub part_meant : (x : Part) → Has PW.parts x → (ref : Ref) → Has (refs x) ref → Meant ref
  part_meant x has =
      ⊎_elim (λ own. own_meant x own)
      (λ rest. let f = has_flat (object_parts ls.whole W) W x rest in
      let g = has_filter (λ (y : Part). kept_in W f.0 y.chunk) (function_parts ls.whole W f.0 ++ segment_parts ls.whole W f.0 ++ global_parts ls.whole W f.0) x f.2 in
      of_three (function_parts ls.whole W f.0) (segment_parts ls.whole W f.0) (global_parts ls.whole W f.0) x g.0
      (λ h. indexed_all AllMeant (make_function ls.whole W f.0) (λ n y ref r.
      let q = has_pick named_ref (filter_map (λ op. operand_named (res ls.whole W f.0) op) y.operands) ref r in
      let o = has_pick (λ op. operand_named (res ls.whole W f.0) op) y.operands q.0 q.1 in
      operand_meant f.0 f.1 o.0 q.0 o.2 ref q.2) 0 f.0.functions x h)
      (λ h. indexed_all AllMeant (make_segment ls.whole W f.0) (λ n y ref r.
      let q = has_pick named_ref (filter_map (λ v. window_named (res ls.whole W f.0) v) y.windows) ref r in
      let o = has_pick (λ v. window_named (res ls.whole W f.0) v) y.windows q.0 q.1 in
      symbol_meant f.0 f.1 o.0.offset o.0.kind o.0.index o.0.addend q.0 o.2 ref q.2) 0 f.0.segments x h)
      (λ h. indexed_all AllMeant (make_global ls.whole W f.0) (λ n y ref r. absurd r) 0 f.0.globals x h))
      (has_either (own_parts ls.whole W) (flat_map (object_parts ls.whole W) W) x (subst (λ xs. Has xs x) (parts_are ls.whole W s.strict) has))
    where
      AllMeant : Part → Type 0
      AllMeant y = (ref : Ref) → Has (refs y) ref → Meant ref

      back_named : (xs : List Ref) (r : Ref) → Has (filter_map named_ref (map a_symbol xs)) r → Has xs r
      back_named [] r h = h
      back_named (y ∷ ys) r (inl e) = inl e
      back_named (y ∷ ys) r (inr h) = inr (back_named ys r h)

      own_meant : (y : Part) → Has (own_parts ls.whole W) y → (ref : Ref) → Has (refs y) ref → Meant ref
      own_meant y (inl e) ref r = calls_meant ref (back_named (init_calls PW.resolved) ref (subst (λ (z : Part). Has (refs z) ref) (sym e) r))
      own_meant y (inr (inl e)) ref r = absurd (subst (λ (z : Part). Has (refs z) ref) (sym e) r)
      own_meant y (inr (inr (inl e))) ref r = absurd (subst (λ (z : Part). Has (refs z) ref) (sym e) r)
      own_meant y (inr (inr (inr (inl e)))) ref r = absurd (subst (λ (z : Part). Has (refs z) ref) (sym e) r)
      own_meant y (inr (inr (inr (inr h)))) ref r = absurd h

  -- null is meant by a name that nothing defines
  rule_null : (o : Option InputSymbol) (x y : Option ImportKey) (b : Bool) → is_null (unwrap_or (first_some (option_map here o ∷ option_map imported x ∷ option_map imported y ∷ given b null ∷ [])) nothing) ≡ true → o ≡ None
  rule_null None x y b e = refl
  rule_null (Some d) x y b e = absurd (no_true e)

  null_open : (e : InputSymbol) → is_null (whole_meaning run os ls s e) ≡ true → winner es (name_of e) ≡ None
  null_open e is = by_entry (is_entry e) is
    where
      by_defines : (d : Bool) → is_null (if d then here e else nothing) ≡ true → ⊥
      by_defines true h = no_true h
      by_defines false h = no_true h

      by_entry : (b : Bool) → is_null (if b then by_rules Plain no_uses ls.whole.plan.allow_undefined (named es (name_of e)) e else own_meaning e) ≡ true → winner es (name_of e) ≡ None
      by_entry true h =
          rule_null (winner es (name_of e)) (least_import (filter (λ r. is_explicit r.symbol) (references (named es (name_of e)))))
          (where_given (ls.whole.plan.allow_undefined && may_import (named es (name_of e)) e) (least_import (references (named es (name_of e))))) (may_be_null e) h
      by_entry false h = absurd (by_defines e.defines h)

  open_stub : (xs : List Part) → All (λ x. In x PW.parts) xs → (name : List ℕ) → list_any (calls_stub name) (refs_of xs) ≡ true → winner PW.entries name ≡ None
  open_stub xs within name calls =
      let a = has_any (calls_stub name) (refs_of xs) calls in
      let f = has_flat refs xs a.0 a.1 in
      let hx = in_has PW.parts f.0 (all_has (λ x. In x PW.parts) xs within f.0 f.1) in
      let t = and_parts ((a.0.kind == relocs.FUNCTION_INDEX_LEB) && is_null a.0.meaning) (bytes_eq (name_of a.0.entry) name) a.2 in
      let u = and_parts (a.0.kind == relocs.FUNCTION_INDEX_LEB) (is_null a.0.meaning) t.0 in
      let none = null_open a.0.entry (ap is_null (sym (part_meant f.0 hx a.0 f.2).0) ∙ u.1) in
      ap (λ ys. winner ys name) (programs_are_of ls.whole.plan ls.whole.files ls.whole.all W).entries_are ∙ (ap (winner es) (sym (name_equal (name_of a.0.entry) name t.1)) ∙ none)

  -- ---- each name stands in the later link

  abbrev Kept : List ℕ → Type 0
  Kept name = (y : InputSymbol) × Has es y × (j.keep y ≡ true) × (name_of y ≡ name)

  run_name : (e : InputSymbol) → Has M e → is_entry e ≡ true → Kept (name_of e)
  run_name e has entry = by_winner (object_winner p (name_of e)) refl
    where
      stands_as : (x : InputSymbol) → is_entry x ≡ true → is_named (name_of e) x ≡ true → (o : Option InputSymbol) → object_winner p (name_of e) ≡ o → stands_for_name p x o ≡ true → stands p x ≡ true
      stands_as x ex nx o won told =
          ap (λ (b : Bool). if b then stands_for_name p x (object_winner p (name_of x)) else (x.defines && not (is_kind Section x))) ex
          ∙ (ap (λ n. stands_for_name p x (object_winner p n)) (name_equal (name_of x) (name_of e) nx) ∙ (ap (stands_for_name p x) won ∙ told))

      from_standing : (x : InputSymbol) → Has (standing p) x → is_entry x ≡ true → is_named (name_of e) x ≡ true → Kept (name_of e)
      from_standing x hx ex nx =
          let q = has_map al (filter j.keep M) x (subst (λ xs. Has xs x) (standing_is run os p cut st) hx) in
          let f = has_filter j.keep M q.0 q.1 in
          (q.0, linked_entry W q.0 (run_linked run os cut q.0 f.0) (ap is_entry q.2 ∙ ex), f.1, ap name_of q.2 ∙ name_equal (name_of x) (name_of e) nx)

      own_there : Has p.entries (al e)
      own_there = subst (λ xs. Has xs (al e)) (sym nm.entries_are) (linked_entry RO (al e) (subst (λ xs. Has xs (al e)) st.program (alone_there run os ls s e has)) entry)

      -- the linker's
      of_linker : object_winner p (name_of e) ≡ None → (al e).defines ≡ true → Kept (name_of e)
      of_linker none d = by_least (winner p.entries (name_of e)) refl
        where
          by_least : (o : Option InputSymbol) → winner p.entries (name_of e) ≡ o → Kept (name_of e)
          by_least None is = absurd (none_here (definitions p.entries (name_of e)) (al e) (definition p.entries (al e) (name_of e) own_there refl d) (least_none (definitions p.entries (name_of e)) is))
          by_least (Some v) is = by_made (entry_from RO v (subst (λ xs. Has xs v) nm.entries_are (winning p.entries (name_of e) v is).entry))
            where
              by_made : Has (made_from 0 (made Plain)) v ⊎ (Has (flat_map (symbols_of RO) RO) v × (is_entry v ≡ true)) → Kept (name_of e)
              by_made (inl own) =
                  (v, made_linked W v own, (not_after run os p cut st v (made_low v own)).0, (winning p.entries (name_of e) v is).named_so)
                where
                  made_low : (x : InputSymbol) → Has (made_from 0 (made Plain)) x → x.input ≤ run.first
                  made_low x hx = all_has (λ (y : InputSymbol). y.input ≤ run.first) (made_from 0 (made Plain)) (all_made (λ (y : InputSymbol). y.input ≤ run.first) (λ place k. omega arith) 0 (made Plain)) x hx
              by_made (inr of_object) =
                  absurd (not_found (λ x. not (x.input == 0) && is_named (name_of e) x) p.winners none v
                  (winner_there run os ls s v (winning p.entries (name_of e) v is).entry (ap (λ nn. is_that v (winner p.entries nn)) (winning p.entries (name_of e) v is).named_so ∙ (ap (is_that v) is ∙ entry_itself v)))
                  (and_from (not (v.input == 0)) (is_named (name_of e) v) (above v of_object.0) (ap (λ nn. bytes_eq nn (name_of e)) (winning p.entries (name_of e) v is).named_so ∙ name_itself (name_of e))))
                where
                  above : (x : InputSymbol) → Has (flat_map (symbols_of RO) RO) x → not (x.input == 0) ≡ true
                  above x hx =
                      let f = has_flat (symbols_of RO) RO x hx in
                      let lt = all_has (λ (o : Object). 0 < o.input) RO (rise_above 0 RO (run_rise run os cut s.names.loaded.rise)) f.0 f.1 in
                      ap not (ne_eqb x.input 0 (λ z. omega (arith, z, lt, symbol_input RO f.0 x f.2)))

      referenced : (al e).defines ≡ false → is_referenced p (name_of e) ≡ true
      referenced lost =
          or_left (not (length (name_references p (name_of e)) == 0)) (list_any (names_it p (name_of e)) (refs_of p.parts))
          (some_there (name_references p (name_of e)) (al e) (filter_has (λ x. not x.defines) (named p.entries (name_of e)) (al e) (filter_has (is_named (name_of e)) p.entries (al e) own_there (name_itself (name_of e))) (ap not lost)))
        where
          some_there : (xs : List InputSymbol) (x : InputSymbol) → Has xs x → not (length xs == 0) ≡ true
          some_there [] x h = absurd h
          some_there (y ∷ ys) x h = ap not (ne_eqb (suc (length ys)) 0 (λ z. omega (arith, z)))

      least_of : (o : Option InputSymbol) → least_in_object p (name_of e) ≡ o → object_winner p (name_of e) ≡ None → is_referenced p (name_of e) ≡ true → Kept (name_of e)
      least_of None none won told =
          absurd (not_found (λ x. not (x.input == 0) && is_named (name_of e) x) p.entries none (al e) own_there
          (let i = of_run run os cut e has in and_from (not ((al e).input == 0)) (is_named (name_of e) e) (ap not (ne_eqb (al e).input 0 (λ z. omega (arith, z, i.from)))) (name_itself (name_of e))))
      least_of (Some l) some won told =
          let f = find_has (λ x. not (x.input == 0) && is_named (name_of e) x) p.entries l some in
          let t = and_parts (not (l.input == 0)) (is_named (name_of e) l) f.1 in
          let there = entry_there run os ls s l f.0 t.0 in
          from_standing l (filter_has (stands p) (all_symbols p) l there.0
          (stands_as l there.1 t.1 None won
          (ap (λ n. is_that l (least_in_object p n) && is_referenced p n) (name_equal (name_of l) (name_of e) t.1)
          ∙ (ap (λ o. is_that l o && is_referenced p (name_of e)) some ∙ and_from (same_entry l l) (is_referenced p (name_of e)) (entry_itself l) told)))) there.1 t.1

      by_defines : object_winner p (name_of e) ≡ None → (b : Bool) → (al e).defines ≡ b → Kept (name_of e)
      by_defines none true d = of_linker none d
      by_defines none false d = least_of (least_in_object p (name_of e)) refl none (referenced d)

      by_winner : (o : Option InputSymbol) → object_winner p (name_of e) ≡ o → Kept (name_of e)
      by_winner None won = by_defines won (al e).defines refl
      by_winner (Some v) won =
          let f = find_has (λ x. not (x.input == 0) && is_named (name_of e) x) p.winners v won in
          let t = and_parts (not (v.input == 0)) (is_named (name_of e) v) f.1 in
          let there = entry_there run os ls s v (winner_entry run os ls s v f.0) t.0 in
          from_standing v (filter_has (stands p) (all_symbols p) v there.0 (stands_as v there.1 t.1 (Some v) won (entry_itself v))) there.1 t.1

  kept_name : (e : InputSymbol) → Has es e → Kept (name_of e)
  kept_name e has =
      ⊎_elim (λ le. (e, has, (not_after run os p cut st e le).0, refl))
      (λ rest. ⊎_elim (λ (i : OfRun run os cut e). run_name e i.there (all_has (λ (x : InputSymbol). is_entry x ≡ true) es J.entries e has)) (λ lt. (e, has, (not_before run os p cut st e lt).0, refl)) rest)
      (region run os cut e (entry_linked W e has))

  -- The least entry of a name has the type that it had.
  type_stays : (e : InputSymbol) → Has es e → entry_type (first_entry (entries Plain L) (name_of e)) ≡ entry_type (first_entry es (name_of e))
  type_stays e has = by_first (first_entry (entries Plain L) (name_of e)) refl (first_entry es (name_of e)) refl
    where
      later_are : entries Plain L ≡ joined j es
      later_are = (kept_names run os p s.names).symbols.0

      by_first : (a : Option InputSymbol) → first_entry (entries Plain L) (name_of e) ≡ a → (b : Option InputSymbol) → first_entry es (name_of e) ≡ b → entry_type a ≡ entry_type b
      by_first None none b is =
          let k = kept_name e has in
          absurd (not_found (is_named (name_of e)) (entries Plain L) none (j.move k.0) (subst (λ xs. Has xs (j.move k.0)) (sym later_are) (map_has j.move (filter j.keep es) k.0 (filter_has j.keep es k.0 k.1 k.2)))
          (ap (λ n. bytes_eq n (name_of e)) (J.name k.0 (record { symbol = entry_linked W k.0 k.1; kept = k.2 }) ∙ k.3) ∙ name_itself (name_of e)))
      by_first (Some a) some None none = absurd (not_found (is_named (name_of e)) es none e has (name_itself (name_of e)))
      by_first (Some a) some (Some b) is =
          let f = find_has (is_named (name_of e)) (entries Plain L) a some in
          let q = has_map j.move (filter j.keep es) a (subst (λ xs. Has xs a) later_are f.0) in
          let g = has_filter j.keep es q.0 q.1 in
          let kept : KeptSymbol j Known q.0 = record { symbol = entry_linked W q.0 g.0; kept = g.1 } in
          let h = find_has (is_named (name_of e)) es b is in
          let same : name_of q.0 ≡ name_of b = sym (J.name q.0 kept) ∙ (ap name_of q.2 ∙ (name_equal (name_of a) (name_of e) f.1 ∙ sym (name_equal (name_of b) (name_of e) h.1))) in
          ap (λ (x : InputSymbol). x.type) (sym q.2) ∙ (J.type q.0 kept ∙ (one_type es s.names.no_clash q.0 b g.0 h.0 same).1)

  pub stubs_stay : StubsStay run os ls
  stubs_stay = record {
    names = λ xs ys within sides. names_agree run os ls s w (refs_of xs) (refs_of ys) (same_stubs (moving run os p) run os ls xs ys sides) (open_stub xs within);
    types = λ xs. all_from_has (λ name. entry_type (first_entry (callable (later_program run os ls)) name) ≡ entry_type (first_entry (callable PW) name)) (stub_names PW (refs_of xs)) (λ name has. one xs name has);
  }
    where
      of_name : (e : InputSymbol) → Has es e → (name : List ℕ) → name_of e ≡ name → entry_type (first_entry (callable (later_program run os ls)) name) ≡ entry_type (first_entry (callable PW) name)
      of_name e he name same =
          ap (λ ys. entry_type (first_entry ys name)) (callable_are ls.after.plan ls.after.files ls.after.all L s.strict_after)
          ∙ (subst (λ n. entry_type (first_entry (entries Plain L) n) ≡ entry_type (first_entry es n)) same (type_stays e he)
          ∙ sym (ap (λ ys. entry_type (first_entry ys name)) (callable_are ls.whole.plan ls.whole.files ls.whole.all W s.strict)))

      one : (xs : List Part) (name : List ℕ) → Has (stub_names PW (refs_of xs)) name → entry_type (first_entry (callable (later_program run os ls)) name) ≡ entry_type (first_entry (callable PW) name)
      one xs name has =
          ⊎_elim (λ none. absurd none)
          (λ there. let m = has_map name_of (filter (λ e. list_any (calls_stub (name_of e)) (refs_of xs)) (callable PW)) name there in
          let f = has_filter (λ e. list_any (calls_stub (name_of e)) (refs_of xs)) (callable PW) m.0 m.1 in
          of_name m.0 (subst (λ ys. Has ys m.0) (callable_are ls.whole.plan ls.whole.files ls.whole.all W s.strict) f.0) name m.2)
          (distinct_only bytes_eq [] (map name_of (filter (λ e. list_any (calls_stub (name_of e)) (refs_of xs)) (callable PW))) name has)
