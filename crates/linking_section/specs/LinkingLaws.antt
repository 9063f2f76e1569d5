-- The section: what is read is spelled so, and what is spelled so is read.
use Rattle.std.proofs.Common.{◌≡◌, ℕ, zero, suc, ◌-◌, ◌+◌, ◌≤◌, ◌<◌, Bool, true, false, cond, eqb, List, [], ◌∷◌, ◌++◌, length, Option, Some, None, Result, Ok, Err, refl, sym, ap, subst, ◌∙◌, arith}
use Rattle.std.specs.Prelude.{is_some}
use Rattle.std.proofs.lemmas.Bool.{eqb-true}
use Rattle.std.proofs.lemmas.List.{length-append}
use Rattle.wasm_grammar.specs.wl_base.declared.item.Item.TheVariants as items
use Rattle.wasm_grammar.specs.declared.fault.Stop.{Stop}
use Rattle.wasm_grammar.specs.declared.fault.Stop.TheVariants.{Broken, Foreign}
use Rattle.wasm_grammar.specs.Grammar.{SpellsU32, SpellsMany, SpellsVector}
use Rattle.wasm_grammar.specs.Readers.{Takes}
use Rattle.wasm_grammar.specs.Reading.{◌>>=◌, byte_at, u32_at, part_at, vector_at, whole}
use Rattle.wasm_grammar.specs.ReaderLaws.{bind_ok, ok_is, cond_ok, byte_reader, u32_reader, part_reader, vector_reader, whole_found, whole_again, Takes-then, regrouped, taken_length}
use Rattle.linking_section.specs.declared.segment.SegmentInfo.{SegmentInfo}
use Rattle.linking_section.specs.declared.init.InitFunc.{InitFunc}
use Rattle.linking_section.specs.declared.group.Group.{Group}
use Rattle.linking_section.specs.declared.symbol.Symbol.{Symbol}
use Rattle.linking_section.specs.declared.linking.Linking.{Linking}
use Rattle.linking_section.specs.declared.linking.Found.{Found}
use Rattle.linking_section.specs.Linking.{SpellsSegmentInfo, SpellsInit, SpellsGroup, SpellsSymbol, IsSaid, SpellsLinking}
use Rattle.wasm_grammar.specs.Subsections.{Subsection, SpellsSubsection, payloads_of}
use Rattle.linking_section.specs.Reading.{segment_at, init_at, group_at, symbol_at, none_found, came, with_part, first_time, subsection_at, subsections_at, list_of, linking_of, versioned, linking_at}
use Rattle.linking_section.specs.ItemLaws.{segment_reader, init_reader, group_reader, symbol_reader}

-- ---- one subsection

-- the parts of a subsection that was read
pub record IsRead (found : Found) (end : ℕ) (bytes : List ℕ) (next : Found) (rest : List ℕ) : Type 0 where
  pub kind : ℕ
  pub payload : List ℕ
  pub taken : Takes (SpellsSubsection (record { kind = kind; payload = payload })) bytes rest
  pub first : came kind found ≡ false
  pub says : with_part kind found (end - length rest) payload ≡ Ok next

first_ok : (q : Bool) (place : ℕ) (u : Unit {0}) → (let r : Result (Unit {0}) Stop = cond q (Err (Broken place)) (Ok tt) in r ≡ Ok u) → q ≡ false
first_ok true place u e = absurd cc
first_ok false place u e = refl

pub subsection_parts : (found : Found) (end : ℕ) (bytes : List ℕ) (next : Found) (rest : List ℕ) → subsection_at found end bytes ≡ Ok (next, rest) → IsRead found end bytes next rest
unfolding subsection_at
subsection_parts found end bytes next rest e =
    let a = bind_ok (byte_at end bytes) (λ kind. first_time (end - length bytes) kind.0 found >>= λ first. part_at end kind.1 >>= λ part. with_part kind.0 found (end - length part.1) part.0 >>= λ next. Ok (next, part.1)) (next, rest) e in
    let b = bind_ok (first_time (end - length bytes) a.0.0 found) (λ first. part_at end a.0.1 >>= λ part. with_part a.0.0 found (end - length part.1) part.0 >>= λ next. Ok (next, part.1)) (next, rest) a.2 in
    let c = bind_ok (part_at end a.0.1) (λ part. with_part a.0.0 found (end - length part.1) part.0 >>= λ next. Ok (next, part.1)) (next, rest) b.2 in
    let d = bind_ok (with_part a.0.0 found (end - length c.0.1) c.0.0) (λ next. Ok (next, c.0.1)) (next, rest) c.2 in
    subst (λ (p : Found × List ℕ). IsRead found end bytes p.0 p.1) (ok_is d.2) (record {
      kind = a.0.0;
      payload = c.0.0;
      taken = Takes-then (byte_reader.found end bytes a.0.0 a.0.1 a.1) (part_reader.found end a.0.1 c.0.0 c.0.1 c.1);
      first = first_ok (came a.0.0 found) (end - length bytes) b.0 b.1;
      says = d.1;
    })

pub shorter : (found : Found) (end : ℕ) (bytes : List ℕ) (next : Found) (rest : List ℕ) → subsection_at found end bytes ≡ Ok (next, rest) → length rest < length bytes
shorter found end bytes next rest e =
    let r = subsection_parts found end bytes next rest e in
    let s = r.taken.spells in
    omega (arith, taken_length r.taken, ap length s.4, length-append s.0 s.1, ap length s.2)

pub subsection_again : (found : Found) (end : ℕ) (s : Subsection) (text : List ℕ) (next : Found) (rest : List ℕ) → SpellsSubsection s text → came s.kind found ≡ false → with_part s.kind found (end - length rest) s.payload ≡ Ok next → subsection_at found end (text ++ rest) ≡ Ok (next, rest)
unfolding subsection_at
subsection_again found end s text next rest t first says =
    rw (regrouped t.0 t.1 text rest t.4, t.2, first, part_reader.again end s.payload t.1 rest t.3, says) refl

-- ---- what subsections say, by what was found before

-- what these payloads make of a list that was found before, or that wasn't
abbrev pub Follows : {A : Type 0} → (A → List ℕ → Type 0) → Option (List A) → List (List ℕ) → Option (List A) → Type 0
Follows Item before [] after = before ≡ after
Follows {A} Item None (payload ∷ others) after = (xs : List A) × SpellsVector Item xs payload × Follows Item (Some xs) others after
Follows Item (Some xs) (payload ∷ others) after = ⊥

pub record Says (before : Found) (subsections : List Subsection) (after : Found) : Type 0 where
  pub segments : Follows SpellsSegmentInfo before.segments (payloads_of 5 subsections) after.segments
  pub inits : Follows SpellsInit before.inits (payloads_of 6 subsections) after.inits
  pub groups : Follows SpellsGroup before.groups (payloads_of 7 subsections) after.groups
  pub symbols : Follows SpellsSymbol before.symbols (payloads_of 8 subsections) after.symbols

begins : {A : Type 0} (Item : A → List ℕ → Type 0) (before : Option (List A)) (xs : List A) (payload : List ℕ) (others : List (List ℕ)) (after : Option (List A)) → is_some before ≡ false → SpellsVector Item xs payload → Follows Item (Some xs) others after → Follows Item before (payload ∷ others) after
begins Item None xs payload others after first v f = (xs, v, f)
begins Item (Some ys) xs payload others after first v f = absurd cc

-- a first payload, and what follows it
pub record Begins {A : Type 0} (Item : A → List ℕ → Type 0) (before : Option (List A)) (payload : List ℕ) (others : List (List ℕ)) (after : Option (List A)) : Type 0 where
  pub list : List A
  pub first : is_some before ≡ false
  pub spelled : SpellsVector Item list payload
  pub follows : Follows Item (Some list) others after

begun : {A : Type 0} (Item : A → List ℕ → Type 0) (before : Option (List A)) (payload : List ℕ) (others : List (List ℕ)) (after : Option (List A)) → Follows Item before (payload ∷ others) after → Begins Item before payload others after
begun Item None payload others after f = record { list = f.0; first = refl; spelled = f.1; follows = f.2 }
begun Item (Some xs) payload others after f = absurd f

passes : {A : Type 0} (Item : A → List ℕ → Type 0) (before : Option (List A)) (q : Bool) (payload : List ℕ) (others : List (List ℕ)) (after : Option (List A)) → q ≡ false → Follows Item before others after → Follows Item before (cond q (payload ∷ others) others) after
passes Item before true payload others after q f = absurd cc
passes Item before false payload others after q f = f

passed : {A : Type 0} (Item : A → List ℕ → Type 0) (before : Option (List A)) (q : Bool) (payload : List ℕ) (others : List (List ℕ)) (after : Option (List A)) → q ≡ false → Follows Item before (cond q (payload ∷ others) others) after → Follows Item before others after
passed Item before true payload others after q f = absurd cc
passed Item before false payload others after q f = f

pick : {P : Type 0} (q : Bool) → (q ≡ true → P) → (q ≡ false → P) → P
pick true f g = f refl
pick false f g = g refl

-- a subsection that was read, before others
abbrev pub Added : ℕ → Type 0
Added kind = (payload : List ℕ) (found next after : Found) (end : ℕ) (subs : List Subsection) → came kind found ≡ false → with_part kind found end payload ≡ Ok next → Says next subs after → Says found (record { kind = kind; payload = payload } ∷ subs) after

segments_added : Added 5
segments_added payload found next after end subs first says others =
    let a = bind_ok (whole (vector_at segment_at) end payload) (λ segments. Ok (record found { segments = Some segments })) next says in
    let v = whole_found (SpellsVector SpellsSegmentInfo) (vector_at segment_at) (vector_reader SpellsSegmentInfo segment_at segment_reader) end payload a.0 a.1 in
    let t = subst (λ (n : Found). Says n subs after) (sym (ok_is a.2)) others in
    record { segments = begins SpellsSegmentInfo found.segments a.0 payload (payloads_of 5 subs) after.segments first v t.segments; inits = t.inits; groups = t.groups; symbols = t.symbols }

inits_added : Added 6
inits_added payload found next after end subs first says others =
    let a = bind_ok (whole (vector_at init_at) end payload) (λ inits. Ok (record found { inits = Some inits })) next says in
    let v = whole_found (SpellsVector SpellsInit) (vector_at init_at) (vector_reader SpellsInit init_at init_reader) end payload a.0 a.1 in
    let t = subst (λ (n : Found). Says n subs after) (sym (ok_is a.2)) others in
    record { segments = t.segments; inits = begins SpellsInit found.inits a.0 payload (payloads_of 6 subs) after.inits first v t.inits; groups = t.groups; symbols = t.symbols }

groups_added : Added 7
groups_added payload found next after end subs first says others =
    let a = bind_ok (whole (vector_at group_at) end payload) (λ groups. Ok (record found { groups = Some groups })) next says in
    let v = whole_found (SpellsVector SpellsGroup) (vector_at group_at) (vector_reader SpellsGroup group_at group_reader) end payload a.0 a.1 in
    let t = subst (λ (n : Found). Says n subs after) (sym (ok_is a.2)) others in
    record { segments = t.segments; inits = t.inits; groups = begins SpellsGroup found.groups a.0 payload (payloads_of 7 subs) after.groups first v t.groups; symbols = t.symbols }

symbols_added : Added 8
symbols_added payload found next after end subs first says others =
    let a = bind_ok (whole (vector_at symbol_at) end payload) (λ symbols. Ok (record found { symbols = Some symbols })) next says in
    let v = whole_found (SpellsVector SpellsSymbol) (vector_at symbol_at) (vector_reader SpellsSymbol symbol_at symbol_reader) end payload a.0 a.1 in
    let t = subst (λ (n : Found). Says n subs after) (sym (ok_is a.2)) others in
    record { segments = t.segments; inits = t.inits; groups = t.groups; symbols = begins SpellsSymbol found.symbols a.0 payload (payloads_of 8 subs) after.symbols first v t.symbols }

-- a type that is skipped adds nothing
skips : (kind : ℕ) (found : Found) (end : ℕ) (payload : List ℕ) → eqb kind 5 ≡ false → eqb kind 6 ≡ false → eqb kind 7 ≡ false → eqb kind 8 ≡ false → (came kind found ≡ false) × (with_part kind found end payload ≡ Ok found)
skips kind found end payload a b c d = (rw (a, b, c, d) refl, rw (a, b, c, d) refl)

other_added : (kind : ℕ) → eqb kind 5 ≡ false → eqb kind 6 ≡ false → eqb kind 7 ≡ false → eqb kind 8 ≡ false → Added kind
other_added kind a b c d = λ payload found next after end subs first says others.
    let same : found ≡ next = ok_is (sym (skips kind found end payload a b c d).1 ∙ says) in
    let t = subst (λ (n : Found). Says n subs after) (sym same) others in
    record {
      segments = passes SpellsSegmentInfo found.segments (eqb kind 5) payload (payloads_of 5 subs) after.segments a t.segments;
      inits = passes SpellsInit found.inits (eqb kind 6) payload (payloads_of 6 subs) after.inits b t.inits;
      groups = passes SpellsGroup found.groups (eqb kind 7) payload (payloads_of 7 subs) after.groups c t.groups;
      symbols = passes SpellsSymbol found.symbols (eqb kind 8) payload (payloads_of 8 subs) after.symbols d t.symbols;
    }

pub added : (kind : ℕ) → Added kind
added kind =
    pick (eqb kind 5) (λ q. subst Added (sym (eqb-true kind 5 q)) segments_added) (λ a.
    pick (eqb kind 6) (λ q. subst Added (sym (eqb-true kind 6 q)) inits_added) (λ b.
    pick (eqb kind 7) (λ q. subst Added (sym (eqb-true kind 7 q)) groups_added) (λ c.
    pick (eqb kind 8) (λ q. subst Added (sym (eqb-true kind 8 q)) symbols_added) (λ d.
    other_added kind a b c d))))

-- and a subsection that is spelled so, before others
pub record Next (found : Found) (kind : ℕ) (payload : List ℕ) (subs : List Subsection) (after : Found) : Type 0 where
  pub next : Found
  pub first : came kind found ≡ false
  pub says : (end : ℕ) → with_part kind found end payload ≡ Ok next
  pub others : Says next subs after

abbrev pub Goes : ℕ → Type 0
Goes kind = (payload : List ℕ) (found after : Found) (subs : List Subsection) → Says found (record { kind = kind; payload = payload } ∷ subs) after → Next found kind payload subs after

segments_go : Goes 5
segments_go payload found after subs s =
    let b = begun SpellsSegmentInfo found.segments payload (payloads_of 5 subs) after.segments s.segments in
    record {
      next = record found { segments = Some b.list };
      first = b.first;
      says = λ end. rw (whole_again (SpellsVector SpellsSegmentInfo) (vector_at segment_at) (vector_reader SpellsSegmentInfo segment_at segment_reader) end payload b.list b.spelled) refl;
      others = record { segments = b.follows; inits = s.inits; groups = s.groups; symbols = s.symbols };
    }

inits_go : Goes 6
inits_go payload found after subs s =
    let b = begun SpellsInit found.inits payload (payloads_of 6 subs) after.inits s.inits in
    record {
      next = record found { inits = Some b.list };
      first = b.first;
      says = λ end. rw (whole_again (SpellsVector SpellsInit) (vector_at init_at) (vector_reader SpellsInit init_at init_reader) end payload b.list b.spelled) refl;
      others = record { segments = s.segments; inits = b.follows; groups = s.groups; symbols = s.symbols };
    }

groups_go : Goes 7
groups_go payload found after subs s =
    let b = begun SpellsGroup found.groups payload (payloads_of 7 subs) after.groups s.groups in
    record {
      next = record found { groups = Some b.list };
      first = b.first;
      says = λ end. rw (whole_again (SpellsVector SpellsGroup) (vector_at group_at) (vector_reader SpellsGroup group_at group_reader) end payload b.list b.spelled) refl;
      others = record { segments = s.segments; inits = s.inits; groups = b.follows; symbols = s.symbols };
    }

symbols_go : Goes 8
symbols_go payload found after subs s =
    let b = begun SpellsSymbol found.symbols payload (payloads_of 8 subs) after.symbols s.symbols in
    record {
      next = record found { symbols = Some b.list };
      first = b.first;
      says = λ end. rw (whole_again (SpellsVector SpellsSymbol) (vector_at symbol_at) (vector_reader SpellsSymbol symbol_at symbol_reader) end payload b.list b.spelled) refl;
      others = record { segments = s.segments; inits = s.inits; groups = s.groups; symbols = b.follows };
    }

other_goes : (kind : ℕ) → eqb kind 5 ≡ false → eqb kind 6 ≡ false → eqb kind 7 ≡ false → eqb kind 8 ≡ false → Goes kind
other_goes kind a b c d = λ payload found after subs s. record {
  next = found;
  first = (skips kind found 0 payload a b c d).0;
  says = λ end. (skips kind found end payload a b c d).1;
  others = record {
    segments = passed SpellsSegmentInfo found.segments (eqb kind 5) payload (payloads_of 5 subs) after.segments a s.segments;
    inits = passed SpellsInit found.inits (eqb kind 6) payload (payloads_of 6 subs) after.inits b s.inits;
    groups = passed SpellsGroup found.groups (eqb kind 7) payload (payloads_of 7 subs) after.groups c s.groups;
    symbols = passed SpellsSymbol found.symbols (eqb kind 8) payload (payloads_of 8 subs) after.symbols d s.symbols;
  };
}

pub goes : (kind : ℕ) → Goes kind
goes kind =
    pick (eqb kind 5) (λ q. subst Goes (sym (eqb-true kind 5 q)) segments_go) (λ a.
    pick (eqb kind 6) (λ q. subst Goes (sym (eqb-true kind 6 q)) inits_go) (λ b.
    pick (eqb kind 7) (λ q. subst Goes (sym (eqb-true kind 7 q)) groups_go) (λ c.
    pick (eqb kind 8) (λ q. subst Goes (sym (eqb-true kind 8 q)) symbols_go) (λ d.
    other_goes kind a b c d))))

-- ---- all subsections

subsections_found : (n end : ℕ) (found : Found) (bytes : List ℕ) (after : Found) → length bytes ≤ n → subsections_at n found end bytes ≡ Ok after → (subs : List Subsection) × SpellsMany SpellsSubsection subs bytes × Says found subs after
unfolding subsections_at
subsections_found n end found [] after le e =
    subst (λ (f : Found). (subs : List Subsection) × SpellsMany SpellsSubsection subs [] × Says found subs f) (ok_is e) ([], refl, record { segments = refl; inits = refl; groups = refl; symbols = refl })
subsections_found zero end found (b ∷ bytes) after le e = absurd (omega arith)
subsections_found (suc n) end found (b ∷ bytes) after le e =
    let a = bind_ok (subsection_at found end (b ∷ bytes)) (λ next. subsections_at n next.0 end next.1) after e in
    let r = subsection_parts found end (b ∷ bytes) a.0.0 a.0.1 a.1 in
    let less = shorter found end (b ∷ bytes) a.0.0 a.0.1 a.1 in
    let others = subsections_found n end a.0.0 a.0.1 after (omega arith) a.2 in
    (record { kind = r.kind; payload = r.payload } ∷ others.0, (r.taken.text, a.0.1, r.taken.spells, others.1, r.taken.parts), added r.kind r.payload found a.0.0 after (end - length a.0.1) others.0 r.first r.says others.2)

pub same_found : (found after : Found) → found.segments ≡ after.segments → found.inits ≡ after.inits → found.groups ≡ after.groups → found.symbols ≡ after.symbols → found ≡ after
same_found found after a b c d = all found.segments after.segments found.inits after.inits found.groups after.groups found.symbols after.symbols a b c d
  where
    all : (i j : Option (List SegmentInfo)) (k l : Option (List InitFunc)) (m n : Option (List Group)) (o p : Option (List Symbol)) → i ≡ j → k ≡ l → m ≡ n → o ≡ p
        → (let x : Found = record { segments = i; inits = k; groups = m; symbols = o } in let y : Found = record { segments = j; inits = l; groups = n; symbols = p } in x ≡ y)
    all i j k l m n o p a b c d = rw (a, b, c, d) refl

step_on : (n : ℕ) (found : Found) (end : ℕ) (bytes : List ℕ) (next : Found) (rest : List ℕ) → 0 < length bytes → subsection_at found end bytes ≡ Ok (next, rest) → subsections_at (suc n) found end bytes ≡ subsections_at n next end rest
unfolding subsections_at
step_on n found end [] next rest some e = absurd (omega arith)
step_on n found end (b ∷ bytes) next rest some e = rw e refl

subsections_again : (n end : ℕ) (found : Found) (bytes : List ℕ) (subs : List Subsection) (after : Found) → length bytes ≤ n → SpellsMany SpellsSubsection subs bytes → Says found subs after → subsections_at n found end bytes ≡ Ok after
unfolding subsections_at
subsections_again n end found bytes [] after le m s = rw m (ap (λ (f : Found). Ok f) (same_found found after s.segments s.inits s.groups s.symbols))
subsections_again zero end found bytes (x ∷ subs) after le m s = absurd (omega (arith, le, ap length m.4, length-append m.0 m.1, ap length m.2.4, length-append m.2.0 m.2.1, ap length m.2.2))
subsections_again (suc n) end found bytes (x ∷ subs) after le m s =
    let g = goes x.kind x.payload found after subs s in
    let one = subsection_again found end x m.0 g.next m.1 m.2 g.first (g.says (end - length m.1)) in
    let long : length (m.0 ++ m.1) ≡ 1 + length m.2.1 + length m.1 = omega (arith, length-append m.0 m.1, ap length m.2.4, length-append m.2.0 m.2.1, ap length m.2.2) in
    let others = subsections_again n end g.next m.1 subs after (omega (arith, le, ap length m.4, long)) m.3 g.others in
    ap (subsections_at (suc n) found end) m.4 ∙ step_on n found end (m.0 ++ m.1) g.next m.1 (omega (arith, long)) one ∙ others

-- ---- the whole

said : {A : Type 0} (Item : A → List ℕ → Type 0) (payloads : List (List ℕ)) (after : Option (List A)) → Follows Item None payloads after → IsSaid Item payloads (list_of after)
said {A} Item [] after f = let e : None ≡ after = f in subst (λ (o : Option (List A)). list_of o ≡ []) e refl
said {A} Item (payload ∷ []) after f = let e : Some f.0 ≡ after = f.2 in subst (λ (o : Option (List A)). SpellsVector Item (list_of o) payload) e f.1
said Item (payload ∷ other ∷ more) after f = absurd f.2

follows : {A : Type 0} (Item : A → List ℕ → Type 0) (payloads : List (List ℕ)) (xs : List A) → IsSaid Item payloads xs → (after : Option (List A)) × Follows Item None payloads after × (list_of after ≡ xs)
follows Item [] xs s = (None, refl, sym s)
follows Item (payload ∷ []) xs s = (Some xs, (xs, s, refl), refl)
follows Item (payload ∷ other ∷ more) xs s = absurd s

-- A payload is read exactly where it is spelled so.
pub linking_found : (end : ℕ) (payload : List ℕ) (l : Linking) → linking_at end payload ≡ Ok l → SpellsLinking l payload
unfolding linking_at
linking_found end payload l e =
    let a = bind_ok (u32_at end payload) (λ version. versioned version.0 version.1 >>= λ rest. subsections_at (length rest) none_found end rest >>= λ found. Ok (linking_of found)) l e in
    let b = bind_ok (versioned a.0.0 a.0.1) (λ rest. subsections_at (length rest) none_found end rest >>= λ found. Ok (linking_of found)) l a.2 in
    let c = bind_ok (subsections_at (length b.0) none_found end b.0) (λ found. Ok (linking_of found)) l b.2 in
    let d = cond_ok (eqb a.0.0 2) (Foreign (items.LinkingVersion a.0.0)) a.0.1 b.0 b.1 in
    let t = u32_reader.found end payload a.0.0 a.0.1 a.1 in
    let run = subsections_found (length b.0) end none_found b.0 c.0 (omega arith) c.1 in
    subst (λ (k : Linking). SpellsLinking k payload) (ok_is c.2) (record {
      subsections = run.0;
      spelled = (t.text, b.0, subst (λ (n : ℕ). SpellsU32 n t.text) (eqb-true a.0.0 2 d.0) t.spells, run.1, t.parts ∙ ap (λ (r : List ℕ). t.text ++ r) d.1);
      segments = said SpellsSegmentInfo (payloads_of 5 run.0) c.0.segments run.2.segments;
      inits = said SpellsInit (payloads_of 6 run.0) c.0.inits run.2.inits;
      groups = said SpellsGroup (payloads_of 7 run.0) c.0.groups run.2.groups;
      symbols = said SpellsSymbol (payloads_of 8 run.0) c.0.symbols run.2.symbols;
    })

same_linking : (i j : List SegmentInfo) (k l : List InitFunc) (m n : List Group) (o p : List Symbol) → i ≡ j → k ≡ l → m ≡ n → o ≡ p
    → (let x : Linking = record { segments = i; inits = k; groups = m; symbols = o } in let y : Linking = record { segments = j; inits = l; groups = n; symbols = p } in x ≡ y)
same_linking i j k l m n o p a b c d = rw (a, b, c, d) refl

pub linking_again : (end : ℕ) (payload : List ℕ) (l : Linking) → SpellsLinking l payload → linking_at end payload ≡ Ok l
unfolding linking_at
linking_again end payload l s =
    let t = s.spelled in
    let a = follows SpellsSegmentInfo (payloads_of 5 s.subsections) l.segments s.segments in
    let b = follows SpellsInit (payloads_of 6 s.subsections) l.inits s.inits in
    let c = follows SpellsGroup (payloads_of 7 s.subsections) l.groups s.groups in
    let d = follows SpellsSymbol (payloads_of 8 s.subsections) l.symbols s.symbols in
    let after : Found = record { segments = a.0; inits = b.0; groups = c.0; symbols = d.0 } in
    let says : Says none_found s.subsections after = record { segments = a.1; inits = b.1; groups = c.1; symbols = d.1 } in
    let run = subsections_again (length t.1) end none_found t.1 s.subsections after (omega arith) t.3 says in
    rw (t.4, u32_reader.again end 2 t.0 t.1 t.2, run)
    (ap (λ (k : Linking). Ok k) (same_linking (list_of a.0) l.segments (list_of b.0) l.inits (list_of c.0) l.groups (list_of d.0) l.symbols a.2 b.2 c.2 d.2))

-- No payload has two values.
pub one_linking : (payload : List ℕ) (l m : Linking) → SpellsLinking l payload → SpellsLinking m payload → l ≡ m
one_linking payload l m s t = ok_is (sym (linking_again 0 payload l s) ∙ linking_again 0 payload m t)
