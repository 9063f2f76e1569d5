-- Bodies with their windows written.
use Rattle.std.proofs.Common.{◌≡◌, ℕ, ◌+◌, ◌-◌, ◌≤◌, ◌<◌, Bool, false, List, [], ◌∷◌, ◌++◌, length, map, Option, Some, None, refl, sym, ap, ◌∙◌, subst, inl, inr, ⊎_elim, arith, append_assoc, length-append}
use Rattle.list_places.specs.Has.{Has}
use Rattle.list_places.proofs.Lists.{has_either}
use Rattle.wasm_instr.specs.declared.instr.Instr.{Instr}
use Rattle.wasm_instr.specs.declared.body.Placed.{Placed}
use Rattle.wasm_instr.specs.declared.body.Body.{Body}
use Rattle.wasm_instr.specs.Instrs.{SpellsHead, SpellsLast, IsInProfile}
use Rattle.wasm_instr.specs.Bodies.{Nest, step_of, placed, IsCode, SpellsBody}
use Rattle.body_windows.specs.declared.immediate.Immediate.{Immediate}
use Rattle.body_windows.specs.Immediates.{immediates, immediates_in, end_of, AreInOrder}
use Rattle.reloc_apply.specs.Windows.{filled, patch_of, patched}
use Rattle.made_symbols.specs.declared.mode.Mode.{Mode}
use Rattle.made_symbols.specs.declared.mode.Mode.TheVariants.{Plain}
use Rattle.link_worlds.specs.link_rules.Program.{Named}
use Rattle.link_worlds.specs.link_rules.Values.{Layout, named_window}
use Rattle.link_worlds.specs.Bodies.{place_of, placed_in, instr_in}
use Rattle.output_module.specs.Filled.{AllStandOn, names_in, patches_in, FilledBody, FilledBodies, Reads, TakenBody}
use Rattle.link_worlds.specs.Sound.{Takes}
use Rattle.output_module.proofs.Places.{Before, stands_at}
use Rattle.output_module.proofs.Becoming.{Became, became, takes}

-- what is written into one list of windows, and then another
fill_both : (mode : Mode) (l : Layout) (xs ys : List Named) (bytes : List ℕ) → filled (patches_in mode l (xs ++ ys)) bytes ≡ filled (patches_in mode l ys) (filled (patches_in mode l xs) bytes)
fill_both mode l [] ys bytes = refl
fill_both mode l (x ∷ xs) ys bytes = fill_both mode l xs ys (patched (patch_of (named_window mode l x)) bytes)

names_both : (os qs : List (Option Named)) → names_in (os ++ qs) ≡ names_in os ++ names_in qs
names_both [] qs = refl
names_both (None ∷ os) qs = names_both os qs
names_both (Some n ∷ os) qs = ap (λ ns. n ∷ ns) (names_both os qs)

-- what stands on the immediates of one part and of the next
pub record Cut (is js : List Immediate) (os : List (Option Named)) : Type 0 where
  pub front : List (Option Named)
  pub back : List (Option Named)
  pub whole : os ≡ front ++ back
  pub on_front : AllStandOn is front
  pub on_back : AllStandOn js back

cut : (is js : List Immediate) (os : List (Option Named)) → AllStandOn (is ++ js) os → Cut is js os
cut [] js os h = record { front = []; back = os; whole = refl; on_front = tt; on_back = h }
cut (i ∷ is) js [] h = absurd h
cut (i ∷ is) js (o ∷ os) h =
    let r = cut is js os h.1 in
    record { front = o ∷ r.front; back = r.back; whole = ap (λ xs. o ∷ xs) r.whole; on_front = (h.0, r.on_front); on_back = r.on_back }

-- the place behind the immediates of one part
pub record Behind (from fin : ℕ) (is js : List Immediate) (os : List (Option Named)) : Type 0 where
  pub next : ℕ
  pub order : AreInOrder next fin js
  pub low : from ≤ next
  pub before : Before next (names_in os)

behind : (from fin : ℕ) (is js : List Immediate) (os : List (Option Named)) → AreInOrder from fin (is ++ js) → AllStandOn is os → Behind from fin is js os
behind from fin [] js [] o h = record { next = from; order = o; low = omega arith; before = λ n k. absurd k }
behind from fin [] js (x ∷ os) o h = absurd h
behind from fin (i ∷ is) js [] o h = absurd h
behind from fin (i ∷ is) js (None ∷ os) o h =
    let r = behind (i.place + i.len) fin is js os o.2 h.1 in
    record { next = r.next; order = r.order; low = let k : i.place + i.len ≤ r.next = r.low in omega (arith, k, o.0); before = r.before }
behind from fin (i ∷ is) js (Some m ∷ os) o h =
    let r = behind (i.place + i.len) fin is js os o.2 h.1 in
    let k : i.place + i.len ≤ r.next = r.low in
    record {
      next = r.next;
      order = r.order;
      low = omega (arith, k, o.0);
      before = λ n q. ⊎_elim (λ e. let z : place_of m ≡ place_of n = ap place_of e in let w : place_of m ≡ i.place = stands_at i m h.0 in omega (arith, z, w, k, o.1)) (λ g. r.before n g) q;
    }

-- What the bytes of code become.
pub record Filled (mode : Mode) (l : Layout) (pre : List ℕ) (end : ℕ) (nest : Nest) (code : List Placed) (bytes : List ℕ) (before ns : List Named) : Type 0 where
  pub new : List ℕ
  pub long : length new ≡ length bytes
  pub filled_is : filled (patches_in mode l ns) (pre ++ bytes) ≡ pre ++ new
  pub spells : IsCode end nest (map (placed_in mode l (before ++ ns)) code) new

-- ---- one instruction and those behind it, over plain variables

placed_same : (end : ℕ) (x : Placed) (y : Instr) (a m r a' m' r' : List ℕ) → x ≡ placed end x.instr a m r → length a ≡ length a' → length m ≡ length m' → length r ≡ length r'
    → record { instr = y; at = x.at; mid = x.mid; end = x.end } ≡ placed end y a' m' r'
placed_same end x y a m r a' m' r' e ea em er =
    ap (λ (z : Placed). let q : Placed = record { instr = y; at = z.at; mid = z.mid; end = z.end } in q) e
    ∙ ap (λ n. let q : Placed = record { instr = y; at = end - n; mid = end - length m; end = end - length r } in q) ea
    ∙ ap (λ n. let q : Placed = record { instr = y; at = end - length a'; mid = end - n; end = end - length r } in q) em
    ∙ ap (λ n. let q : Placed = record { instr = y; at = end - length a'; mid = end - length m'; end = end - n } in q) er

both_before : (from next : ℕ) (before ns : List Named) → Before from before → from ≤ next → Before next ns → Before next (before ++ ns)
both_before from next before ns b l g n h = ⊎_elim (λ k. let q : place_of n < from = b n k in omega (arith, q, l)) (λ k. g n k) (has_either before ns n h)

tail_sum : (last rest new_last new_rest : List ℕ) → length new_last ≡ length last → length new_rest ≡ length rest → length (new_last ++ new_rest) ≡ length (last ++ rest)
tail_sum last rest new_last new_rest a b = length-append new_last new_rest ∙ omega (arith, a, b) ∙ sym (length-append last rest)

module _ (mode : Mode) (l : Layout) (pre : List ℕ) (end : ℕ) (block : Bool) (others : Nest) (x : Placed) (code : List Placed) (head last rest : List ℕ) (next : Nest) (before n1 n2 : List Named)
    (new_head new_last new_rest : List ℕ) where
  filled_step : filled (patches_in mode l n1) (pre ++ (head ++ (last ++ rest))) ≡ pre ++ (new_head ++ (new_last ++ rest))
      → filled (patches_in mode l n2) ((pre ++ (new_head ++ new_last)) ++ rest) ≡ (pre ++ (new_head ++ new_last)) ++ new_rest
      → filled (patches_in mode l (n1 ++ n2)) (pre ++ (head ++ (last ++ rest))) ≡ pre ++ (new_head ++ (new_last ++ new_rest))
  filled_step a b =
      fill_both mode l n1 n2 (pre ++ (head ++ (last ++ rest)))
      ∙ ap (filled (patches_in mode l n2)) (a ∙ joined rest)
      ∙ b
      ∙ sym (joined new_rest)
    where
      joined : (z : List ℕ) → pre ++ (new_head ++ (new_last ++ z)) ≡ (pre ++ (new_head ++ new_last)) ++ z
      joined z = ap (λ y. pre ++ y) (sym (append_assoc new_head new_last z)) ∙ sym (append_assoc pre (new_head ++ new_last) z)

  one_filled : (instr : Instr) → IsInProfile instr → SpellsHead instr new_head → SpellsLast instr new_last → step_of (block ∷ others) instr ≡ Some next
      → placed_in mode l (before ++ (n1 ++ n2)) x ≡ placed end instr (new_head ++ (new_last ++ new_rest)) (new_last ++ new_rest) new_rest
      → IsCode end next (map (placed_in mode l ((before ++ n1) ++ n2)) code) new_rest
      → instr_in mode l (before ++ (n1 ++ n2)) x x.instr ≡ instr
      → IsCode end (block ∷ others) (map (placed_in mode l (before ++ (n1 ++ n2))) (x ∷ code)) (new_head ++ (new_last ++ new_rest))
  one_filled instr f h t st pl r e = (
    new_head,
    new_last,
    new_rest,
    next,
    refl,
    subst IsInProfile (sym e) f,
    subst (λ i. SpellsHead i new_head) (sym e) h,
    subst (λ i. SpellsLast i new_last) (sym e) t,
    pl ∙ ap (λ i. placed end i (new_head ++ (new_last ++ new_rest)) (new_last ++ new_rest) new_rest) (sym e),
    ap (step_of (block ∷ others)) e ∙ st,
    subst (λ ns. IsCode end next (map (placed_in mode l ns) code) new_rest) (append_assoc before n1 n2) r,
  )

module _ (mode : Mode) (l : Layout) (pre : List ℕ) (end : ℕ) (block : Bool) (others : Nest) (x : Placed) (code : List Placed) (bytes head last rest : List ℕ) (next : Nest) (before n1 n2 : List Named) where
  step_filled : bytes ≡ head ++ (last ++ rest) → x ≡ placed end x.instr bytes (last ++ rest) rest → step_of (block ∷ others) x.instr ≡ Some next
      → (one : Became mode l pre head last rest x.instr (instr_in mode l (before ++ (n1 ++ n2)) x x.instr) n1)
      → Filled mode l (pre ++ (one.new_head ++ one.new_last)) end next code rest (before ++ n1) n2
      → Filled mode l pre end (block ∷ others) (x ∷ code) bytes before (n1 ++ n2)
  step_filled c xe st one r =
      let new_tail : length (one.new_last ++ r.new) ≡ length (last ++ rest) = tail_sum last rest one.new_last r.new one.last_long r.long in
      let new_long : length (one.new_head ++ (one.new_last ++ r.new)) ≡ length bytes = tail_sum head (last ++ rest) one.new_head (one.new_last ++ r.new) one.head_long new_tail ∙ sym (ap length c) in
      let at_place : placed_in mode l (before ++ (n1 ++ n2)) x ≡ placed end (instr_in mode l (before ++ (n1 ++ n2)) x x.instr) (one.new_head ++ (one.new_last ++ r.new)) (one.new_last ++ r.new) r.new =
      placed_same end x (instr_in mode l (before ++ (n1 ++ n2)) x x.instr) bytes (last ++ rest) rest (one.new_head ++ (one.new_last ++ r.new)) (one.new_last ++ r.new) r.new xe (sym new_long) (sym new_tail) (sym r.long) in
      record {
        new = one.new_head ++ (one.new_last ++ r.new);
        long = new_long;
        filled_is = ap (λ z. filled (patches_in mode l (n1 ++ n2)) (pre ++ z)) c ∙ filled_step mode l pre end block others x code head last rest next before n1 n2 one.new_head one.new_last r.new one.filled_is r.filled_is;
        spells = one_filled mode l pre end block others x code head last rest next before n1 n2 one.new_head one.new_last r.new (instr_in mode l (before ++ (n1 ++ n2)) x x.instr) one.profile one.heads one.lasts
            (one.steps (block ∷ others) ∙ st) at_place r.spells refl;
      }

-- the places of an instruction, by the bytes before it
places_are : (x : Placed) (end : ℕ) (pre bytes head last rest : List ℕ) → bytes ≡ head ++ (last ++ rest) → length pre + length bytes ≡ end → x ≡ placed end x.instr bytes (last ++ rest) rest
    → (x.at ≡ length pre) × (x.mid ≡ length pre + length head) × (x.end ≡ length pre + length head + length last)
places_are x end pre bytes head last rest c e xe =
    let tail_long : length (last ++ rest) ≡ length last + length rest = length-append last rest in
    let whole : length bytes ≡ length head + length (last ++ rest) = ap length c ∙ length-append head (last ++ rest) in
    (ap (λ (y : Placed). y.at) xe ∙ omega (arith, e, whole), ap (λ (y : Placed). y.mid) xe ∙ omega (arith, e, whole, tail_long), ap (λ (y : Placed). y.end) xe ∙ omega (arith, e, whole, tail_long))

next_sum : (end : ℕ) (pre bytes head last rest new_head new_last : List ℕ) → bytes ≡ head ++ (last ++ rest) → length pre + length bytes ≡ end → length new_head ≡ length head → length new_last ≡ length last
    → length (pre ++ (new_head ++ new_last)) + length rest ≡ end
next_sum end pre bytes head last rest new_head new_last c e a b =
    let tail_long : length (last ++ rest) ≡ length last + length rest = length-append last rest in
    let whole : length bytes ≡ length head + length (last ++ rest) = ap length c ∙ length-append head (last ++ rest) in
    let long : length (pre ++ (new_head ++ new_last)) ≡ length pre + (length new_head + length new_last) = length-append pre (new_head ++ new_last) ∙ ap (λ n. length pre + n) (length-append new_head new_last) in
    omega (arith, long, e, whole, a, b, tail_long)

module _ (mode : Mode) (l : Layout) where
  code_ends : (end : ℕ) (bytes pre : List ℕ) (before : List Named) → bytes ≡ [] → (code : List Placed) (os : List (Option Named)) → code ≡ [] → AllStandOn (immediates code) os → Filled mode l pre end [] code bytes before (names_in os)
  code_ends end bytes pre before z [] [] q s = record { new = bytes; long = refl; filled_is = refl; spells = (refl, z) }
  code_ends end bytes pre before z [] (x ∷ os) q s = absurd s
  code_ends end bytes pre before z (x ∷ xs) os q s = absurd (grind arith)

  code_filled : (end fin : ℕ) (nest : Nest) (code : List Placed) (bytes pre : List ℕ) (before : List Named) (from : ℕ) (os : List (Option Named))
      → IsCode end nest code bytes → length pre + length bytes ≡ end → AreInOrder from fin (immediates code) → Before from before → AllStandOn (immediates code) os
      → Filled mode l pre end nest code bytes before (names_in os)
  code_filled end fin [] code bytes pre before from os c e o b s = code_ends end bytes pre before c.1 code os c.0 s
  code_filled end fin (block ∷ others) [] bytes pre before from os c e o b s = absurd c
  code_filled end fin (block ∷ others) (x ∷ code) bytes pre before from os c e o b s =
      let at = places_are x end pre bytes c.0 c.1 c.2 c.4 e c.8 in
      let k = cut (immediates_in x.instr x.at x.mid x.end) (immediates code) os s in
      let w = behind from fin (immediates_in x.instr x.at x.mid x.end) (immediates code) k.front o k.on_front in
      let one = became mode l pre c.0 c.1 c.2 x at.0 at.1 at.2 before from fin b (immediates code) k.back k.on_back x.instr c.5 c.6 c.7 k.front k.on_front o in
      let r = code_filled end fin c.3 code c.2 (pre ++ (one.new_head ++ one.new_last)) (before ++ names_in k.front) w.next k.back c.10
      (next_sum end pre bytes c.0 c.1 c.2 one.new_head one.new_last c.4 e one.head_long one.last_long) w.order (both_before from w.next before (names_in k.front) b w.low w.before) k.on_back in
      subst (λ ns. Filled mode l pre end (block ∷ others) (x ∷ code) bytes before ns) (sym (ap names_in k.whole ∙ names_both k.front k.back))
      (step_filled mode l pre end block others x code bytes c.0 c.1 c.2 c.3 before (names_in k.front) (names_in k.back) c.4 c.8 c.9 one r)

  -- each instruction of code takes what stands on its immediates
  code_takes : (end fin : ℕ) (nest : Nest) (code : List Placed) (bytes pre : List ℕ) (before : List Named) (from : ℕ) (os : List (Option Named))
      → IsCode end nest code bytes → length pre + length bytes ≡ end → AreInOrder from fin (immediates code) → Before from before → AllStandOn (immediates code) os
      → ((y : Placed) → Has code y → Reads (before ++ names_in os) y) → (y : Placed) → Has code y → Takes (before ++ names_in os) y
  code_takes end fin [] [] bytes pre before from os c e o b s r y h = absurd h
  code_takes end fin [] (x ∷ code) bytes pre before from os c e o b s r y h = absurd (let q = c.0 in grind arith)
  code_takes end fin (block ∷ others) [] bytes pre before from os c e o b s r y h = absurd c
  code_takes end fin (block ∷ others) (x ∷ code) bytes pre before from os c e o b s r y h =
      let at = places_are x end pre bytes c.0 c.1 c.2 c.4 e c.8 in
      let k = cut (immediates_in x.instr x.at x.mid x.end) (immediates code) os s in
      let w = behind from fin (immediates_in x.instr x.at x.mid x.end) (immediates code) k.front o k.on_front in
      let names : names_in os ≡ names_in k.front ++ names_in k.back = ap names_in k.whole ∙ names_both k.front k.back in
      let whole : before ++ names_in os ≡ before ++ (names_in k.front ++ names_in k.back) = ap (λ ns. before ++ ns) names in
      let moved : before ++ names_in os ≡ (before ++ names_in k.front) ++ names_in k.back = whole ∙ sym (append_assoc before (names_in k.front) (names_in k.back)) in
      ⊎_elim
      (λ q. subst (λ z. Takes (before ++ names_in os) z) q (subst (λ ns. Takes ns x) (sym whole)
      (takes mode l pre c.0 c.1 c.2 x at.0 at.1 at.2 before from fin b (immediates code) k.back k.on_back x.instr k.front k.on_front o (subst (λ ns. Reads ns x) whole (r x (inl refl))))))
      (λ g. subst (λ ns. Takes ns y) (sym moved)
      (code_takes end fin c.3 code c.2 (pre ++ (c.0 ++ c.1)) (before ++ names_in k.front) w.next k.back c.10 (next_sum end pre bytes c.0 c.1 c.2 c.0 c.1 c.4 e refl refl) w.order
      (both_before from w.next before (names_in k.front) b w.low w.before) k.on_back (λ z m. subst (λ ns. Reads ns z) moved (r z (inr m))) y g))
      h

pub taken_body : ((body : Body) (bytes : List ℕ) → SpellsBody body bytes → AreInOrder 0 (end_of 0 body.code) (immediates body.code)) → TakenBody
taken_body order p l body os bytes s a r x h =
    let whole : length s.0 + length s.1 ≡ length bytes = sym (ap length s.2 ∙ length-append s.0 s.1) in
    code_takes Plain l (length bytes) (end_of 0 body.code) (false ∷ []) body.code s.1 s.0 [] 0 os s.4 whole (order body bytes s) (λ n h. absurd h) a r x h

pub filled_bodies : ((body : Body) (bytes : List ℕ) → SpellsBody body bytes → AreInOrder 0 (end_of 0 body.code) (immediates body.code)) → FilledBodies
filled_bodies order mode l body os bytes s a =
    let locals = s.0 in
    let code = s.1 in
    let whole : length locals + length code ≡ length bytes = sym (ap length s.2 ∙ length-append locals code) in
    let r = code_filled mode l (length bytes) (end_of 0 body.code) (false ∷ []) body.code code locals [] 0 os s.4 whole (order body bytes s) (λ n h. absurd h) a in
    let same : filled (patches_in mode l (names_in os)) bytes ≡ locals ++ r.new = ap (filled (patches_in mode l (names_in os))) s.2 ∙ r.filled_is in
    let long : length bytes ≡ length (filled (patches_in mode l (names_in os)) bytes) = sym (ap length same ∙ length-append locals r.new ∙ ap (λ n. length locals + n) r.long ∙ whole) in
    (locals, r.new, same, s.3, subst (λ n. IsCode n (false ∷ []) (map (placed_in mode l (names_in os)) body.code) r.new) long r.spells)

pub filled_body : ((body : Body) (bytes : List ℕ) → SpellsBody body bytes → AreInOrder 0 (end_of 0 body.code) (immediates body.code)) → FilledBody
filled_body order p l body os bytes s a = filled_bodies order Plain l body os bytes s a
