-- Live parts, what they refer to, and what they name.
use Rattle.std.proofs.Common.{◌≡◌, ℕ, zero, suc, ◌+◌, List, [], ◌∷◌, ◌++◌, map, Option, Some, None, Bool, true, false, refl, sym, ap, ◌∙◌, subst, inl, inr, arith}
use Rattle.std.specs.Prelude.{◌&&◌, ◌<◌, slice_get, slice_index_or, find, position, cond, option_map}
use Rattle.std.proofs.lemmas.Option.{slice_get-map, get_or_from_slice_get}
use Rattle.std.proofs.lemmas.Bool.{and_from, eq-eqb, ltb-true, lt-ltb}
use Rattle.list_places.specs.Has.{Has}
use Rattle.list_places.proofs.Lists.{has_at, placed, stands, pick_has, flat_has, any_has}
use Rattle.wl_base.specs.Choice.{first_some}
use Rattle.wl_base.specs.declared.fault.Fault.{Fault}
use Rattle.wl_base.specs.declared.fault.Fault.TheVariants.{Unresolved}
use Rattle.name_rules.specs.Entries.{InputSymbol, name_of, same_entry}
use Rattle.name_rules.specs.Meanings.{nothing, is_nothing}
use Rattle.mark_bits.specs.declared.chunk.Chunk.{Chunk}
use Rattle.live_mark.specs.Live.{ReachedLaw, is_among, reached}
use Rattle.mark_bits.specs.Words.{times, Among}
use Rattle.mark_bits.specs.Reach.{IsWalk}
use Rattle.link_rules.specs.Program.{Program, Part, Ref, refs, same_chunk}
use Rattle.link_rules.specs.Marks.{roots as roots_of, live, picked, targets, root_places, places_in, refers, table_of, unresolved, refs_of, all_symbols, is_open, missing, demanded}
use Rattle.link_worlds.specs.Sound.{PartOf}
use Rattle.link_worlds.proofs.Keys.{chunk_equal, chunk_itself, entry_itself}

-- what is picked stands at a marked place
at_picked : (marked : List ℕ) (at : ℕ) (xs : List Part) (x : Part) → Has (picked marked at xs) x → (k : ℕ) × (slice_get xs k ≡ Some x) × (is_among marked (at + k) ≡ true)
at_picked marked at [] x h = absurd h
at_picked marked at (y ∷ ys) x h = onto (is_among marked at) refl h (λ g. at_picked marked (at + 1) ys x g)
  where
    later : (k : ℕ) × (slice_get ys k ≡ Some x) × (is_among marked (at + 1 + k) ≡ true) → (k : ℕ) × (slice_get (y ∷ ys) k ≡ Some x) × (is_among marked (at + k) ≡ true)
    later r = let e : at + suc r.0 ≡ at + 1 + r.0 = omega arith in (suc r.0, r.1, ap (is_among marked) e ∙ r.2)

    onto : (b : Bool) → is_among marked at ≡ b → Has (cond b (y ∷ picked marked (at + 1) ys) (picked marked (at + 1) ys)) x
        → (Has (picked marked (at + 1) ys) x → (k : ℕ) × (slice_get ys k ≡ Some x) × (is_among marked (at + 1 + k) ≡ true))
        → (k : ℕ) × (slice_get (y ∷ ys) k ≡ Some x) × (is_among marked (at + k) ≡ true)
    onto true t (inl e) rest = let z : at + 0 ≡ at = omega arith in (0, ap Some e, ap (is_among marked) z ∙ t)
    onto true t (inr g) rest = later (rest g)
    onto false t g rest = later (rest g)

picked_at : (marked : List ℕ) (at : ℕ) (xs : List Part) (k : ℕ) (x : Part) → slice_get xs k ≡ Some x → is_among marked (at + k) ≡ true → Has (picked marked at xs) x
picked_at marked at [] k x h t = absurd (grind arith)
picked_at marked at (y ∷ ys) zero x h t =
    let z : at + 0 ≡ at = omega arith in
    subst (λ b. Has (cond b (y ∷ picked marked (at + 1) ys) (picked marked (at + 1) ys)) x) (sym (ap (is_among marked) (sym z) ∙ t)) (inl (grind arith))
picked_at marked at (y ∷ ys) (suc k) x h t =
    let z : at + 1 + k ≡ at + suc k = omega arith in
    onto (is_among marked at) (picked_at marked (at + 1) ys k x h (ap (is_among marked) z ∙ t))
  where
    onto : (b : Bool) → Has (picked marked (at + 1) ys) x → Has (cond b (y ∷ picked marked (at + 1) ys) (picked marked (at + 1) ys)) x
    onto true g = inr g
    onto false g = g

-- each live part is a part
pub live_part : (p : Program) (exports : List InputSymbol) (part : Part) → Has (live p exports) part → Has p.parts part
unfolding live
live_part p exports part h = let r = at_picked (reached (targets p) (root_places p exports)) 0 p.parts part h in has_at p.parts r.0 part r.1

-- a chunk of the table has its place
chunk_place : (p : Program) (c : Chunk) → PartOf p.parts c → (j : ℕ) × (part : Part) × (position (same_chunk c) (table_of p) ≡ Some j) × (slice_get p.parts j ≡ Some part) × (part.chunk ≡ c)
chunk_place p c o =
    let a = placed (same_chunk c) (table_of p) c (mapped p.parts o.part o.there o.chunk) (chunk_itself c) in
    let s = stands (same_chunk c) (table_of p) a.0 a.1 in
    let e : c ≡ s.item = chunk_equal c s.item s.passes in
    let m = sym (slice_get-map (λ (q : Part). q.chunk) p.parts a.0) ∙ s.there in
    split a.0 a.1 (slice_get p.parts a.0) refl (m ∙ ap Some (sym e))
  where
    mapped : (xs : List Part) (part : Part) → Has xs part → part.chunk ≡ c → Has (map (λ (q : Part). q.chunk) xs) c
    mapped [] part h e = absurd h
    mapped (x ∷ xs) part (inl h) e = inl (ap (λ (q : Part). q.chunk) h ∙ e)
    mapped (x ∷ xs) part (inr h) e = inr (mapped xs part h e)

    split : (j : ℕ) → position (same_chunk c) (table_of p) ≡ Some j → (o : Option Part) → slice_get p.parts j ≡ o → option_map (λ (q : Part). q.chunk) o ≡ Some c
        → (j : ℕ) × (part : Part) × (position (same_chunk c) (table_of p) ≡ Some j) × (slice_get p.parts j ≡ Some part) × (part.chunk ≡ c)
    split j g None h e = absurd (grind arith)
    split j g (Some part) h e = (j, part, g, h, grind arith)

-- among a list, as the laws of marks say it
among : (xs : List ℕ) (x : ℕ) → is_among xs x ≡ true → Among x xs
among xs x h = ltb-true 0 (times x xs) h

is_there : (xs : List ℕ) (x : ℕ) → Among x xs → is_among xs x ≡ true
is_there xs x h = lt-ltb 0 (times x xs) h

has_among : (xs : List ℕ) (x : ℕ) → Has xs x → Among x xs
has_among [] x h = absurd h
has_among (y ∷ ys) x (inl e) = subst (λ b. 0 < cond b 1 0 + times x ys) (sym (eq-eqb y x e)) (omega arith)
has_among (y ∷ ys) x (inr h) = let g : 0 < times x ys = has_among ys x h in omega (arith, g)

walk_on : (ts : List (List ℕ)) (a : ℕ) (walk : List ℕ) (c d : ℕ) → IsWalk ts a walk c → Among d (slice_index_or ts c []) → IsWalk ts a (walk ++ d ∷ []) d
walk_on ts a [] c d w h = (subst (λ x. Among d (slice_index_or ts x [])) (sym w) h, refl)
walk_on ts a (b ∷ bs) c d w h = (w.0, walk_on ts b bs c d w.1 h)

module _ (law : ReachedLaw) (p : Program) (exports : List InputSymbol) where
  -- what a live part refers to is live, where it is there
  pub live_closed : (part : Part) (c : Chunk) → Has (live p exports) part → Has (refers part) c → PartOf p.parts c → PartOf (live p exports) c
  unfolding live
  live_closed part c h r o =
      let ts = targets p in
      let roots = root_places p exports in
      let a = at_picked (reached ts roots) 0 p.parts part h in
      let z : 0 + a.0 ≡ a.0 = omega arith in
      let q = chunk_place p c o in
      let here = (law ts roots a.0).0 (among (reached ts roots) a.0 (ap (is_among (reached ts roots)) (sym z) ∙ a.2)) in
      let list : slice_index_or ts a.0 [] ≡ places_in (table_of p) (refers part) =
      get_or_from_slice_get ts a.0 (places_in (table_of p) (refers part)) []
      (slice_get-map (λ (x : Part). places_in (table_of p) (refers x)) p.parts a.0 ∙ ap (option_map (λ (x : Part). places_in (table_of p) (refers x))) a.1) in
      let target : Has (slice_index_or ts a.0 []) q.0 =
      subst (λ xs. Has xs q.0) (sym list) (pick_has (λ c. position (same_chunk c) (table_of p)) (refers part) c q.0 r q.2) in
      let there = (law ts roots q.0).1 (here.0, here.1, here.2 ++ q.0 ∷ [], walk_on ts here.0 here.2 a.0 q.0 here.3 (has_among (slice_index_or ts a.0 []) q.0 target)) in
      let y : 0 + q.0 ≡ q.0 = omega arith in
      record { part = q.1; there = picked_at (reached ts roots) 0 p.parts q.0 q.1 q.3 (ap (is_among (reached ts roots)) y ∙ is_there (reached ts roots) q.0 there); chunk = q.4 }

  -- what a root names is live, where it is there
  pub live_root : (c : Chunk) → Has (roots_of p exports) c → PartOf p.parts c → PartOf (live p exports) c
  unfolding live
  live_root c r o =
      let ts = targets p in
      let roots = root_places p exports in
      let q = chunk_place p c o in
      let root = has_among roots q.0 (pick_has (λ c. position (same_chunk c) (table_of p)) (roots_of p exports) c q.0 r q.2) in
      let there = (law ts roots q.0).1 (q.0, root, [], refl) in
      let y : 0 + q.0 ≡ q.0 = omega arith in
      record { part = q.1; there = picked_at (reached ts roots) 0 p.parts q.0 q.1 q.3 (ap (is_among (reached ts roots)) y ∙ is_there (reached ts roots) q.0 there); chunk = q.4 }

-- the refs of live parts
pub ref_listed : (parts : List Part) (part : Part) (ref : Ref) → Has parts part → Has (refs part) ref → Has (refs_of parts) ref
ref_listed parts part ref h r = flat_has refs parts part ref h r

-- where nothing is unresolved, no live part names what means nothing
find_none : (test : InputSymbol → Bool) (xs : List InputSymbol) (x : InputSymbol) → find test xs ≡ None → Has xs x → test x ≡ true → ⊥
find_none test [] x n h t = h
find_none test (y ∷ ys) x n (inl e) t = absurd (let k : test y ≡ true = ap test e ∙ t in let f = ap (λ b. cond b (Some y) (find test ys)) (sym k) in grind arith)
find_none test (y ∷ ys) x n (inr h) t = onto (test y) n (λ m. find_none test ys x m h t)
  where
    onto : (b : Bool) → cond b (Some y) (find test ys) ≡ None → (find test ys ≡ None → ⊥) → ⊥
    onto true n rest = absurd (grind arith)
    onto false n rest = rest n

last_none : (a : Option Fault) (f : InputSymbol → Fault) (b : Option InputSymbol) → first_some (a ∷ option_map f b ∷ []) ≡ None → b ≡ None
last_none (Some a) f b h = absurd (grind arith)
last_none None f None h = refl
last_none None f (Some b) h = absurd (grind arith)

pub resolved : (p : Program) (parts : List Part) (ref : Ref) → unresolved p parts ≡ None → Has (refs_of parts) ref → Has (all_symbols p) ref.entry → ref.meaning ≡ nothing → ⊥
unfolding unresolved
resolved p parts ref h r k m =
    let n = last_none (first_some (map (missing p) (demanded p.plan))) (λ e. Unresolved (name_of e) e.input) (find (is_open (refs_of parts)) (all_symbols p)) h in
    find_none (is_open (refs_of parts)) (all_symbols p) ref.entry n k
    (any_has (λ (x : Ref). is_nothing x.meaning && same_entry x.entry ref.entry) (refs_of parts) ref r
    (and_from (is_nothing ref.meaning) (same_entry ref.entry ref.entry) (ap is_nothing m) (entry_itself ref.entry)))
