-- The section: what is read is spelled so, and what is spelled so is read.
use Rattle.std.proofs.Common.{◌≡◌, ℕ, zero, suc, ◌-◌, ◌+◌, ◌≤◌, ◌<◌, Bool, true, false, cond, eqb, List, [], ◌∷◌, ◌++◌, length, Option, Some, None, Result, Ok, Err, refl, sym, ap, subst, ◌∙◌, arith}
use Rattle.std.specs.Prelude.{is_some}
use Rattle.std.proofs.lemmas.Bool.{eqb-true}
use Rattle.std.proofs.lemmas.List.{length-append}
use Rattle.wasm_grammar.specs.declared.fault.Stop.{Stop}
use Rattle.wasm_grammar.specs.declared.fault.Stop.TheVariants.{Broken}
use Rattle.wasm_grammar.specs.Grammar.{SpellsName, SpellsMany, SpellsVector}
use Rattle.wasm_grammar.specs.Readers.{Takes}
use Rattle.wasm_grammar.specs.Reading.{◌>>=◌, byte_at, name_at, part_at, vector_at, whole}
use Rattle.wasm_grammar.specs.ReaderLaws.{bind_ok, ok_is, byte_reader, name_reader, part_reader, vector_reader, whole_found, whole_again, Takes-then, regrouped, taken_length}
use Rattle.dylink_out.specs.declared.dylink.Dylink.{Dylink}
use Rattle.dylink_out.specs.declared.dylink.Sizes.{Sizes}
use Rattle.dylink_out.specs.declared.dylink.ExportInfo.{ExportInfo}
use Rattle.dylink_out.specs.declared.dylink.ImportInfo.{ImportInfo}
use Rattle.dylink_out.specs.declared.dylink.Found.{Found}
use Rattle.wasm_grammar.specs.Subsections.{Subsection, SpellsSubsection, payloads_of}
use Rattle.dylink_out.specs.Payload.{SpellsSizes, SpellsExportInfo, SpellsImportInfo, IsSaid, no_sizes, sizes_of, SpellsDylink}
use Rattle.dylink_out.specs.Reading.{sizes_at, export_at, import_at, none_found, came, with_part, first_time, subsection_at, subsections_at, or_absent, list_of, dylink_of, dylink_at}
use Rattle.dylink_out.specs.ItemLaws.{sizes_reader, export_reader, import_reader}

-- ---- one subsection

-- the parts of a subsection that was read
pub record IsRead (found : Found) (end : ℕ) (bytes : List ℕ) (next : Found) (rest : List ℕ) : Type 0 where
  pub kind : ℕ
  pub payload : List ℕ
  pub taken : Takes (SpellsSubsection (record { kind = kind; payload = payload })) bytes rest
  pub first : came kind found ≡ false
  pub says : with_part kind found (end - length rest) payload ≡ Ok next

first_ok : (q : Bool) (place : ℕ) (u : Unit {0}) → (let r : Result (Unit {0}) Stop = cond q (Err (Broken place)) (Ok tt) in r ≡ Ok u) → q ≡ false
first_ok true place u e = absurd cc
first_ok false place u e = refl

pub subsection_parts : (found : Found) (end : ℕ) (bytes : List ℕ) (next : Found) (rest : List ℕ) → subsection_at found end bytes ≡ Ok (next, rest) → IsRead found end bytes next rest
unfolding subsection_at
subsection_parts found end bytes next rest e =
    let a = bind_ok (byte_at end bytes) (λ kind. first_time (end - length bytes) kind.0 found >>= λ first. part_at end kind.1 >>= λ part. with_part kind.0 found (end - length part.1) part.0 >>= λ next. Ok (next, part.1)) (next, rest) e in
    let b = bind_ok (first_time (end - length bytes) a.0.0 found) (λ first. part_at end a.0.1 >>= λ part. with_part a.0.0 found (end - length part.1) part.0 >>= λ next. Ok (next, part.1)) (next, rest) a.2 in
    let c = bind_ok (part_at end a.0.1) (λ part. with_part a.0.0 found (end - length part.1) part.0 >>= λ next. Ok (next, part.1)) (next, rest) b.2 in
    let d = bind_ok (with_part a.0.0 found (end - length c.0.1) c.0.0) (λ next. Ok (next, c.0.1)) (next, rest) c.2 in
    subst (λ (p : Found × List ℕ). IsRead found end bytes p.0 p.1) (ok_is d.2) (record {
      kind = a.0.0;
      payload = c.0.0;
      taken = Takes-then (byte_reader.found end bytes a.0.0 a.0.1 a.1) (part_reader.found end a.0.1 c.0.0 c.0.1 c.1);
      first = first_ok (came a.0.0 found) (end - length bytes) b.0 b.1;
      says = d.1;
    })

pub shorter : (found : Found) (end : ℕ) (bytes : List ℕ) (next : Found) (rest : List ℕ) → subsection_at found end bytes ≡ Ok (next, rest) → length rest < length bytes
shorter found end bytes next rest e =
    let r = subsection_parts found end bytes next rest e in
    let s = r.taken.spells in
    omega (arith, taken_length r.taken, ap length s.4, length-append s.0 s.1, ap length s.2)

pub subsection_again : (found : Found) (end : ℕ) (s : Subsection) (text : List ℕ) (next : Found) (rest : List ℕ) → SpellsSubsection s text → came s.kind found ≡ false → with_part s.kind found (end - length rest) s.payload ≡ Ok next → subsection_at found end (text ++ rest) ≡ Ok (next, rest)
unfolding subsection_at
subsection_again found end s text next rest t first says =
    rw (regrouped t.0 t.1 text rest t.4, t.2, first, part_reader.again end s.payload t.1 rest t.3, says) refl

-- ---- what subsections say, by what was found before

-- what these payloads make of what was found before, or wasn't
abbrev pub Follows : {A : Type 0} → (A → List ℕ → Type 0) → Option A → List (List ℕ) → Option A → Type 0
Follows Item before [] after = before ≡ after
Follows {A} Item None (payload ∷ others) after = (x : A) × Item x payload × Follows Item (Some x) others after
Follows Item (Some x) (payload ∷ others) after = ⊥

pub record Says (before : Found) (subsections : List Subsection) (after : Found) : Type 0 where
  pub sizes : Follows SpellsSizes before.sizes (payloads_of 1 subsections) after.sizes
  pub needed : Follows (SpellsVector SpellsName) before.needed (payloads_of 2 subsections) after.needed
  pub exports : Follows (SpellsVector SpellsExportInfo) before.exports (payloads_of 3 subsections) after.exports
  pub imports : Follows (SpellsVector SpellsImportInfo) before.imports (payloads_of 4 subsections) after.imports

begins : {A : Type 0} (Item : A → List ℕ → Type 0) (before : Option A) (x : A) (payload : List ℕ) (others : List (List ℕ)) (after : Option A) → is_some before ≡ false → Item x payload → Follows Item (Some x) others after → Follows Item before (payload ∷ others) after
begins Item None x payload others after first v f = (x, v, f)
begins Item (Some y) x payload others after first v f = absurd cc

-- a first payload, and what follows it
pub record Begins {A : Type 0} (Item : A → List ℕ → Type 0) (before : Option A) (payload : List ℕ) (others : List (List ℕ)) (after : Option A) : Type 0 where
  pub value : A
  pub first : is_some before ≡ false
  pub spelled : Item value payload
  pub follows : Follows Item (Some value) others after

begun : {A : Type 0} (Item : A → List ℕ → Type 0) (before : Option A) (payload : List ℕ) (others : List (List ℕ)) (after : Option A) → Follows Item before (payload ∷ others) after → Begins Item before payload others after
begun Item None payload others after f = record { value = f.0; first = refl; spelled = f.1; follows = f.2 }
begun Item (Some x) payload others after f = absurd f

passes : {A : Type 0} (Item : A → List ℕ → Type 0) (before : Option A) (q : Bool) (payload : List ℕ) (others : List (List ℕ)) (after : Option A) → q ≡ false → Follows Item before others after → Follows Item before (cond q (payload ∷ others) others) after
passes Item before true payload others after q f = absurd cc
passes Item before false payload others after q f = f

passed : {A : Type 0} (Item : A → List ℕ → Type 0) (before : Option A) (q : Bool) (payload : List ℕ) (others : List (List ℕ)) (after : Option A) → q ≡ false → Follows Item before (cond q (payload ∷ others) others) after → Follows Item before others after
passed Item before true payload others after q f = absurd cc
passed Item before false payload others after q f = f

pick : {P : Type 0} (q : Bool) → (q ≡ true → P) → (q ≡ false → P) → P
pick true f g = f refl
pick false f g = g refl

-- a subsection that was read, before others
abbrev pub Added : ℕ → Type 0
Added kind = (payload : List ℕ) (found next after : Found) (end : ℕ) (subs : List Subsection) → came kind found ≡ false → with_part kind found end payload ≡ Ok next → Says next subs after → Says found (record { kind = kind; payload = payload } ∷ subs) after

sizes_added : Added 1
sizes_added payload found next after end subs first says others =
    let a = bind_ok (whole sizes_at end payload) (λ sizes. Ok (record found { sizes = Some sizes })) next says in
    let v = whole_found SpellsSizes sizes_at sizes_reader end payload a.0 a.1 in
    let t = subst (λ (n : Found). Says n subs after) (sym (ok_is a.2)) others in
    record { sizes = begins SpellsSizes found.sizes a.0 payload (payloads_of 1 subs) after.sizes first v t.sizes; needed = t.needed; exports = t.exports; imports = t.imports }

needed_added : Added 2
needed_added payload found next after end subs first says others =
    let a = bind_ok (whole (vector_at name_at) end payload) (λ needed. Ok (record found { needed = Some needed })) next says in
    let v = whole_found (SpellsVector SpellsName) (vector_at name_at) (vector_reader SpellsName name_at name_reader) end payload a.0 a.1 in
    let t = subst (λ (n : Found). Says n subs after) (sym (ok_is a.2)) others in
    record { sizes = t.sizes; needed = begins (SpellsVector SpellsName) found.needed a.0 payload (payloads_of 2 subs) after.needed first v t.needed; exports = t.exports; imports = t.imports }

exports_added : Added 3
exports_added payload found next after end subs first says others =
    let a = bind_ok (whole (vector_at export_at) end payload) (λ exports. Ok (record found { exports = Some exports })) next says in
    let v = whole_found (SpellsVector SpellsExportInfo) (vector_at export_at) (vector_reader SpellsExportInfo export_at export_reader) end payload a.0 a.1 in
    let t = subst (λ (n : Found). Says n subs after) (sym (ok_is a.2)) others in
    record { sizes = t.sizes; needed = t.needed; exports = begins (SpellsVector SpellsExportInfo) found.exports a.0 payload (payloads_of 3 subs) after.exports first v t.exports; imports = t.imports }

imports_added : Added 4
imports_added payload found next after end subs first says others =
    let a = bind_ok (whole (vector_at import_at) end payload) (λ imports. Ok (record found { imports = Some imports })) next says in
    let v = whole_found (SpellsVector SpellsImportInfo) (vector_at import_at) (vector_reader SpellsImportInfo import_at import_reader) end payload a.0 a.1 in
    let t = subst (λ (n : Found). Says n subs after) (sym (ok_is a.2)) others in
    record { sizes = t.sizes; needed = t.needed; exports = t.exports; imports = begins (SpellsVector SpellsImportInfo) found.imports a.0 payload (payloads_of 4 subs) after.imports first v t.imports }

-- a type that is skipped adds nothing
skips : (kind : ℕ) (found : Found) (end : ℕ) (payload : List ℕ) → eqb kind 1 ≡ false → eqb kind 2 ≡ false → eqb kind 3 ≡ false → eqb kind 4 ≡ false → (came kind found ≡ false) × (with_part kind found end payload ≡ Ok found)
skips kind found end payload a b c d = (rw (a, b, c, d) refl, rw (a, b, c, d) refl)

other_added : (kind : ℕ) → eqb kind 1 ≡ false → eqb kind 2 ≡ false → eqb kind 3 ≡ false → eqb kind 4 ≡ false → Added kind
other_added kind a b c d = λ payload found next after end subs first says others.
    let same : found ≡ next = ok_is (sym (skips kind found end payload a b c d).1 ∙ says) in
    let t = subst (λ (n : Found). Says n subs after) (sym same) others in
    record {
      sizes = passes SpellsSizes found.sizes (eqb kind 1) payload (payloads_of 1 subs) after.sizes a t.sizes;
      needed = passes (SpellsVector SpellsName) found.needed (eqb kind 2) payload (payloads_of 2 subs) after.needed b t.needed;
      exports = passes (SpellsVector SpellsExportInfo) found.exports (eqb kind 3) payload (payloads_of 3 subs) after.exports c t.exports;
      imports = passes (SpellsVector SpellsImportInfo) found.imports (eqb kind 4) payload (payloads_of 4 subs) after.imports d t.imports;
    }

pub added : (kind : ℕ) → Added kind
added kind =
    pick (eqb kind 1) (λ q. subst Added (sym (eqb-true kind 1 q)) sizes_added) (λ a.
    pick (eqb kind 2) (λ q. subst Added (sym (eqb-true kind 2 q)) needed_added) (λ b.
    pick (eqb kind 3) (λ q. subst Added (sym (eqb-true kind 3 q)) exports_added) (λ c.
    pick (eqb kind 4) (λ q. subst Added (sym (eqb-true kind 4 q)) imports_added) (λ d.
    other_added kind a b c d))))

-- and a subsection that is spelled so, before others
pub record Next (found : Found) (kind : ℕ) (payload : List ℕ) (subs : List Subsection) (after : Found) : Type 0 where
  pub next : Found
  pub first : came kind found ≡ false
  pub says : (end : ℕ) → with_part kind found end payload ≡ Ok next
  pub others : Says next subs after

abbrev pub Goes : ℕ → Type 0
Goes kind = (payload : List ℕ) (found after : Found) (subs : List Subsection) → Says found (record { kind = kind; payload = payload } ∷ subs) after → Next found kind payload subs after

sizes_go : Goes 1
sizes_go payload found after subs s =
    let b = begun SpellsSizes found.sizes payload (payloads_of 1 subs) after.sizes s.sizes in
    record {
      next = record found { sizes = Some b.value };
      first = b.first;
      says = λ end. rw (whole_again SpellsSizes sizes_at sizes_reader end payload b.value b.spelled) refl;
      others = record { sizes = b.follows; needed = s.needed; exports = s.exports; imports = s.imports };
    }

needed_go : Goes 2
needed_go payload found after subs s =
    let b = begun (SpellsVector SpellsName) found.needed payload (payloads_of 2 subs) after.needed s.needed in
    record {
      next = record found { needed = Some b.value };
      first = b.first;
      says = λ end. rw (whole_again (SpellsVector SpellsName) (vector_at name_at) (vector_reader SpellsName name_at name_reader) end payload b.value b.spelled) refl;
      others = record { sizes = s.sizes; needed = b.follows; exports = s.exports; imports = s.imports };
    }

exports_go : Goes 3
exports_go payload found after subs s =
    let b = begun (SpellsVector SpellsExportInfo) found.exports payload (payloads_of 3 subs) after.exports s.exports in
    record {
      next = record found { exports = Some b.value };
      first = b.first;
      says = λ end. rw (whole_again (SpellsVector SpellsExportInfo) (vector_at export_at) (vector_reader SpellsExportInfo export_at export_reader) end payload b.value b.spelled) refl;
      others = record { sizes = s.sizes; needed = s.needed; exports = b.follows; imports = s.imports };
    }

imports_go : Goes 4
imports_go payload found after subs s =
    let b = begun (SpellsVector SpellsImportInfo) found.imports payload (payloads_of 4 subs) after.imports s.imports in
    record {
      next = record found { imports = Some b.value };
      first = b.first;
      says = λ end. rw (whole_again (SpellsVector SpellsImportInfo) (vector_at import_at) (vector_reader SpellsImportInfo import_at import_reader) end payload b.value b.spelled) refl;
      others = record { sizes = s.sizes; needed = s.needed; exports = s.exports; imports = b.follows };
    }

other_goes : (kind : ℕ) → eqb kind 1 ≡ false → eqb kind 2 ≡ false → eqb kind 3 ≡ false → eqb kind 4 ≡ false → Goes kind
other_goes kind a b c d = λ payload found after subs s. record {
  next = found;
  first = (skips kind found 0 payload a b c d).0;
  says = λ end. (skips kind found end payload a b c d).1;
  others = record {
    sizes = passed SpellsSizes found.sizes (eqb kind 1) payload (payloads_of 1 subs) after.sizes a s.sizes;
    needed = passed (SpellsVector SpellsName) found.needed (eqb kind 2) payload (payloads_of 2 subs) after.needed b s.needed;
    exports = passed (SpellsVector SpellsExportInfo) found.exports (eqb kind 3) payload (payloads_of 3 subs) after.exports c s.exports;
    imports = passed (SpellsVector SpellsImportInfo) found.imports (eqb kind 4) payload (payloads_of 4 subs) after.imports d s.imports;
  };
}

pub goes : (kind : ℕ) → Goes kind
goes kind =
    pick (eqb kind 1) (λ q. subst Goes (sym (eqb-true kind 1 q)) sizes_go) (λ a.
    pick (eqb kind 2) (λ q. subst Goes (sym (eqb-true kind 2 q)) needed_go) (λ b.
    pick (eqb kind 3) (λ q. subst Goes (sym (eqb-true kind 3 q)) exports_go) (λ c.
    pick (eqb kind 4) (λ q. subst Goes (sym (eqb-true kind 4 q)) imports_go) (λ d.
    other_goes kind a b c d))))

-- ---- all subsections

subsections_found : (n end : ℕ) (found : Found) (bytes : List ℕ) (after : Found) → length bytes ≤ n → subsections_at n found end bytes ≡ Ok after → (subs : List Subsection) × SpellsMany SpellsSubsection subs bytes × Says found subs after
unfolding subsections_at
subsections_found n end found [] after le e =
    subst (λ (f : Found). (subs : List Subsection) × SpellsMany SpellsSubsection subs [] × Says found subs f) (ok_is e) ([], refl, record { sizes = refl; needed = refl; exports = refl; imports = refl })
subsections_found zero end found (b ∷ bytes) after le e = absurd (omega arith)
subsections_found (suc n) end found (b ∷ bytes) after le e =
    let a = bind_ok (subsection_at found end (b ∷ bytes)) (λ next. subsections_at n next.0 end next.1) after e in
    let r = subsection_parts found end (b ∷ bytes) a.0.0 a.0.1 a.1 in
    let less = shorter found end (b ∷ bytes) a.0.0 a.0.1 a.1 in
    let others = subsections_found n end a.0.0 a.0.1 after (omega arith) a.2 in
    (record { kind = r.kind; payload = r.payload } ∷ others.0, (r.taken.text, a.0.1, r.taken.spells, others.1, r.taken.parts), added r.kind r.payload found a.0.0 after (end - length a.0.1) others.0 r.first r.says others.2)

pub same_found : (found after : Found) → found.sizes ≡ after.sizes → found.needed ≡ after.needed → found.exports ≡ after.exports → found.imports ≡ after.imports → found ≡ after
same_found found after a b c d = all found.sizes after.sizes found.needed after.needed found.exports after.exports found.imports after.imports a b c d
  where
    all : (i j : Option Sizes) (k l : Option (List (List ℕ))) (m n : Option (List ExportInfo)) (o p : Option (List ImportInfo)) → i ≡ j → k ≡ l → m ≡ n → o ≡ p
        → (let x : Found = record { sizes = i; needed = k; exports = m; imports = o } in let y : Found = record { sizes = j; needed = l; exports = n; imports = p } in x ≡ y)
    all i j k l m n o p a b c d = rw (a, b, c, d) refl

step_on : (n : ℕ) (found : Found) (end : ℕ) (bytes : List ℕ) (next : Found) (rest : List ℕ) → 0 < length bytes → subsection_at found end bytes ≡ Ok (next, rest) → subsections_at (suc n) found end bytes ≡ subsections_at n next end rest
unfolding subsections_at
step_on n found end [] next rest some e = absurd (omega arith)
step_on n found end (b ∷ bytes) next rest some e = rw e refl

subsections_again : (n end : ℕ) (found : Found) (bytes : List ℕ) (subs : List Subsection) (after : Found) → length bytes ≤ n → SpellsMany SpellsSubsection subs bytes → Says found subs after → subsections_at n found end bytes ≡ Ok after
unfolding subsections_at
subsections_again n end found bytes [] after le m s = rw m (ap (λ (f : Found). Ok f) (same_found found after s.sizes s.needed s.exports s.imports))
subsections_again zero end found bytes (x ∷ subs) after le m s = absurd (omega (arith, le, ap length m.4, length-append m.0 m.1, ap length m.2.4, length-append m.2.0 m.2.1, ap length m.2.2))
subsections_again (suc n) end found bytes (x ∷ subs) after le m s =
    let g = goes x.kind x.payload found after subs s in
    let one = subsection_again found end x m.0 g.next m.1 m.2 g.first (g.says (end - length m.1)) in
    let long : length (m.0 ++ m.1) ≡ 1 + length m.2.1 + length m.1 = omega (arith, length-append m.0 m.1, ap length m.2.4, length-append m.2.0 m.2.1, ap length m.2.2) in
    let others = subsections_again n end g.next m.1 subs after (omega (arith, le, ap length m.4, long)) m.3 g.others in
    ap (subsections_at (suc n) found end) m.4 ∙ step_on n found end (m.0 ++ m.1) g.next m.1 (omega (arith, long)) one ∙ others

-- ---- the whole

said : {A : Type 0} (Item : A → List ℕ → Type 0) (absent : A) (payloads : List (List ℕ)) (after : Option A) → Follows Item None payloads after → IsSaid Item absent payloads (or_absent absent after)
said {A} Item absent [] after f = let e : None ≡ after = f in subst (λ (o : Option A). or_absent absent o ≡ absent) e refl
said {A} Item absent (payload ∷ []) after f = let e : Some f.0 ≡ after = f.2 in subst (λ (o : Option A). Item (or_absent absent o) payload) e f.1
said Item absent (payload ∷ other ∷ more) after f = absurd f.2

follows : {A : Type 0} (Item : A → List ℕ → Type 0) (absent : A) (payloads : List (List ℕ)) (x : A) → IsSaid Item absent payloads x → (after : Option A) × Follows Item None payloads after × (or_absent absent after ≡ x)
follows Item absent [] x s = (None, refl, sym s)
follows Item absent (payload ∷ []) x s = (Some x, (x, s, refl), refl)
follows Item absent (payload ∷ other ∷ more) x s = absurd s

said_list : {A : Type 0} (Item : List A → List ℕ → Type 0) (payloads : List (List ℕ)) (after : Option (List A)) → Follows Item None payloads after → IsSaid Item [] payloads (list_of after)
said_list Item payloads None f = said Item [] payloads None f
said_list Item payloads (Some xs) f = said Item [] payloads (Some xs) f

follows_list : {A : Type 0} (Item : List A → List ℕ → Type 0) (payloads : List (List ℕ)) (xs : List A) → IsSaid Item [] payloads xs → (after : Option (List A)) × Follows Item None payloads after × (list_of after ≡ xs)
follows_list Item [] xs s = (None, refl, sym s)
follows_list Item (payload ∷ []) xs s = (Some xs, (xs, s, refl), refl)
follows_list Item (payload ∷ other ∷ more) xs s = absurd s

-- A payload is read exactly where it is spelled so.
pub dylink_found : (end : ℕ) (payload : List ℕ) (d : Dylink) → dylink_at end payload ≡ Ok d → SpellsDylink d payload
unfolding dylink_at
dylink_found end payload d e =
    let c = bind_ok (subsections_at (length payload) none_found end payload) (λ found. Ok (dylink_of found)) d e in
    let run = subsections_found (length payload) end none_found payload c.0 (omega arith) c.1 in
    subst (λ (k : Dylink). SpellsDylink k payload) (ok_is c.2) (record {
      subsections = run.0;
      spelled = run.1;
      sizes = said SpellsSizes no_sizes (payloads_of 1 run.0) c.0.sizes run.2.sizes;
      needed = said_list (SpellsVector SpellsName) (payloads_of 2 run.0) c.0.needed run.2.needed;
      exports = said_list (SpellsVector SpellsExportInfo) (payloads_of 3 run.0) c.0.exports run.2.exports;
      imports = said_list (SpellsVector SpellsImportInfo) (payloads_of 4 run.0) c.0.imports run.2.imports;
    })

abbrev pub put_together : Sizes → List (List ℕ) → List ExportInfo → List ImportInfo → Dylink
put_together s needed exports imports = record { memory_size = s.memory_size; memory_align = s.memory_align; table_size = s.table_size; table_align = s.table_align; needed = needed; exports = exports; imports = imports }

same_parts : (i j : Sizes) (k l : List (List ℕ)) (m n : List ExportInfo) (o p : List ImportInfo) → i ≡ j → k ≡ l → m ≡ n → o ≡ p → put_together i k m o ≡ put_together j l n p
same_parts i j k l m n o p a b c d = rw (a, b, c, d) refl

pub dylink_again : (end : ℕ) (payload : List ℕ) (d : Dylink) → SpellsDylink d payload → dylink_at end payload ≡ Ok d
unfolding dylink_at
dylink_again end payload d s =
    let i = follows SpellsSizes no_sizes (payloads_of 1 s.subsections) (sizes_of d) s.sizes in
    let j = follows_list (SpellsVector SpellsName) (payloads_of 2 s.subsections) d.needed s.needed in
    let k = follows_list (SpellsVector SpellsExportInfo) (payloads_of 3 s.subsections) d.exports s.exports in
    let l = follows_list (SpellsVector SpellsImportInfo) (payloads_of 4 s.subsections) d.imports s.imports in
    let after : Found = record { sizes = i.0; needed = j.0; exports = k.0; imports = l.0 } in
    let says : Says none_found s.subsections after = record { sizes = i.1; needed = j.1; exports = k.1; imports = l.1 } in
    let run = subsections_again (length payload) end none_found payload s.subsections after (omega arith) s.spelled says in
    rw run
    (ap (λ (x : Dylink). Ok x) (same_parts (or_absent no_sizes i.0) (sizes_of d) (list_of j.0) d.needed (list_of k.0) d.exports (list_of l.0) d.imports i.2 j.2 k.2 l.2))

-- No payload has two values.
pub one_dylink : (payload : List ℕ) (d e : Dylink) → SpellsDylink d payload → SpellsDylink e payload → d ≡ e
one_dylink payload d e s t = ok_is (sym (dylink_again 0 payload d s) ∙ dylink_again 0 payload e t)
