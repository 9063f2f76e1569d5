-- What is put behind other bytes.
use Rattle.std.proofs.Common.{◌≡◌, ℕ, suc, ◌+◌, ◌-◌, ◌<◌, List, [], ◌∷◌, ◌++◌, length, refl, sym, ap, subst, ◌∙◌, append_assoc, arith, inl, inr}
use Rattle.std.specs.Prelude.{map, flat_map}
use Rattle.std.proofs.lemmas.List.{length-append, length-map, append-nil}
use Rattle.wasm_module.specs.wasm_instr.declared.body.Body.{Body}
use Rattle.wasm_module.specs.wasm_instr.wasm_grammar.Grammar.{SpellsByte, SpellsU32, SpellsItself, SpellsBytes, SpellsMany, SpellsVector, Then}
use Rattle.wasm_module.specs.wasm_instr.wasm_grammar.Writers.{Appends, Writes, HasSpelling}
use Rattle.wasm_module.specs.declared.parts.Export.{Export}
use Rattle.wasm_module.specs.Parts.{SpellsExport}
use Rattle.wasm_module.specs.Sections.{SpellsSection}
use Rattle.export_wrappers.specs.Wrapped.{Step, argument, arguments, step_bytes}
use Rattle.export_wrappers.specs.Cuts.{Kept}
use Rattle.export_wrappers.specs.Written.{Puts, SpellsCode, Spliced}
use Rattle.export_wrappers.proofs.Spelled.{many_join}

-- ---- arguments

arguments_more : (at count : ℕ) → at < count → arguments at (count - at) ≡ argument at ∷ arguments (at + 1) (count - (at + 1))
arguments_more at count low = let e : count - at ≡ suc (count - (at + 1)) = omega (arith, low) in rw e refl

pub argument_put : (at count : ℕ) (to new whole : List ℕ) → at < count → new ≡ to ++ step_bytes (argument at) → to ++ flat_map step_bytes (arguments at (count - at)) ≡ whole
    → new ++ flat_map step_bytes (arguments (at + 1) (count - (at + 1))) ≡ whole
argument_put at count to new whole low is e =
    let rest = flat_map step_bytes (arguments (at + 1) (count - (at + 1))) in
    ap (λ (t : List ℕ). t ++ rest) is ∙ append_assoc to (step_bytes (argument at)) rest ∙ ap (λ (ss : List Step). to ++ flat_map step_bytes ss) (sym (arguments_more at count low)) ∙ e

pub arguments_end : (at count : ℕ) (to whole : List ℕ) → (at < count → ⊥) → to ++ flat_map step_bytes (arguments at (count - at)) ≡ whole → to ≡ whole
arguments_end at count to whole over e =
    let none : count - at ≡ 0 = omega (arith, over) in
    sym (append-nil to) ∙ ap (λ (n : ℕ). to ++ flat_map step_bytes (arguments at n)) (sym none) ∙ e

-- ---- one part, and then another

pub from_appends : {P : List ℕ → Type 0} {a b : List ℕ} → Appends P a b → Puts P a b
from_appends p = record { text = p.text; spells = p.spells; parts = p.parts }

pub puts_then : {P Q : List ℕ → Type 0} {a b c : List ℕ} → Puts P a b → Puts Q b c → Puts (Then P Q) a c
puts_then {a = a} p q = record {
  text = p.text ++ q.text;
  spells = (p.text, q.text, p.spells, q.spells, refl);
  parts = q.parts ∙ ap (λ (t : List ℕ). t ++ q.text) p.parts ∙ append_assoc a p.text q.text;
}

pub puts_nothing : {A : Type 0} (Item : A → List ℕ → Type 0) (old : List ℕ) → Puts (SpellsMany Item []) old old
puts_nothing Item old = record { text = []; spells = refl; parts = sym (append-nil old) }

map_one : {A B : Type 0} (f : A → B) (xs : List A) (x : A) → map f (xs ++ x ∷ []) ≡ map f xs ++ f x ∷ []
map_one f [] x = refl
map_one {A} {B} f (y ∷ xs) x = ap (λ (zs : List B). f y ∷ zs) (map_one f xs x)

pub puts_more : {A B : Type 0} (Item : B → List ℕ → Type 0) (f : A → B) (xs : List A) (x : A) (a b c : List ℕ) → Puts (SpellsMany Item (map f xs)) a b → Puts (Item (f x)) b c → Puts (SpellsMany Item (map f (xs ++ x ∷ []))) a c
puts_more {A} {B} Item f xs x a b c p q = record {
  text = p.text ++ q.text;
  spells = subst (λ (ys : List B). SpellsMany Item ys (p.text ++ q.text)) (sym (map_one f xs x))
      (many_join Item (map f xs) (f x ∷ []) p.text q.text p.spells (q.text, [], q.spells, refl, sym (append-nil q.text)));
  parts = q.parts ∙ ap (λ (t : List ℕ). t ++ q.text) p.parts ∙ append_assoc a p.text q.text;
}

-- ---- sections

-- contents that were put for themselves, and then as the bytes of a section
pub section_put : {A : Type 0} (id : ℕ) (absent x : A) (Contents : A → List ℕ → Type 0) (contents old new : List ℕ) → Contents x contents → Puts (Then (SpellsByte id) (SpellsBytes contents)) old new → Puts (SpellsSection id absent Contents x) old new
section_put id absent x Contents contents old new c p =
    let s = p.spells in
    let b = s.3 in
    record {
      text = p.text;
      spells = inr (s.0, s.1, s.2, (b.0, contents, b.2, c, b.4 ∙ ap (λ (t : List ℕ). b.0 ++ t) b.3), s.4);
      parts = p.parts;
    }

pub left_out : {A : Type 0} (id : ℕ) (absent x : A) (Contents : A → List ℕ → Type 0) (old : List ℕ) → x ≡ absent → Puts (SpellsSection id absent Contents x) old old
left_out id absent x Contents old is = record { text = []; spells = inl (is, refl); parts = sym (append-nil old) }

-- a list of length 0
pub is_empty : {A : Type 0} (xs : List A) → length xs ≡ 0 → xs ≡ []
is_empty [] e = refl
is_empty (x ∷ xs) e = absurd cc

-- items that were written as a vector
pub items_put : {A : Type 0} (Item : A → List ℕ → Type 0) (id : ℕ) (items : List A) (contents old new : List ℕ) → HasSpelling (SpellsU32 (length items)) → Writes (SpellsVector Item items) [] contents → Puts (Then (SpellsByte id) (SpellsBytes contents)) old new
    → HasSpelling (SpellsMany Item items) → Puts (SpellsSection id [] (SpellsVector Item) items) old new
items_put Item id items contents old new counted written p many =
    let a = written (counted.0 ++ many.0) (counted.0, many.0, counted.1, many.1, refl) in
    section_put id [] items (SpellsVector Item) contents old new (subst (SpellsVector Item items) (sym a.parts) a.spells) p

-- a count, bodies, and more of them
pub codes_put : (total : ℕ) (bodies : List ℕ) (more : List Body) (a b c d : List ℕ) → Appends (SpellsU32 total) a b → Appends (SpellsItself bodies) b c → Puts (SpellsMany SpellsCode more) c d
    → (bs : List Body) → length bs + length more ≡ total → SpellsMany SpellsCode bs bodies → Puts (SpellsVector SpellsCode (bs ++ more)) a d
codes_put total bodies more a b c d count kept added bs long codes =
    let all = puts_then (from_appends count) (puts_then (from_appends kept) added) in
    let s = all.spells in
    let z = s.3 in
    let number : SpellsU32 (length (bs ++ more)) s.0 = subst (λ (n : ℕ). SpellsU32 n s.0) (sym (length-append bs more ∙ long)) s.2 in
    let first : SpellsMany SpellsCode bs z.0 = subst (SpellsMany SpellsCode bs) (sym z.2) codes in
    let items : SpellsMany SpellsCode (bs ++ more) s.1 = subst (SpellsMany SpellsCode (bs ++ more)) (sym z.4) (many_join SpellsCode bs more z.0 z.1 first z.3) in
    record { text = all.text; spells = (s.0, s.1, number, items, s.4); parts = all.parts }

pub no_bodies : {A B : Type 0} (f : A → B) (bs : List B) (ws : List A) (count total : ℕ) → length bs ≡ count → total ≡ count + length ws → total ≡ 0 → bs ++ map f ws ≡ []
no_bodies f bs ws count total long is none = is_empty (bs ++ map f ws) (omega (arith, long, is, none, length-append bs (map f ws), length-map ws f))

pub code_section : (xs : List Body) (contents old new : List ℕ) → Puts (SpellsVector SpellsCode xs) [] contents → Puts (Then (SpellsByte 10) (SpellsBytes contents)) old new → Puts (SpellsSection 10 [] (SpellsVector SpellsCode) xs) old new
code_section xs contents old new p there = section_put 10 [] xs (SpellsVector SpellsCode) contents old new (subst (SpellsVector SpellsCode xs) (sym p.parts) p.spells) there

-- ---- the module

pub spliced : (k : Kept) (functions : List ℕ) (exports : List Export) (bodies : List Body) (t0 t1 t2 t3 t4 t5 t6 t7 : List ℕ)
    → Appends (SpellsItself k.before) t0 t1 → Puts (SpellsSection 3 [] (SpellsVector SpellsU32) functions) t1 t2
    → Appends (SpellsItself k.between) t2 t3 → Puts (SpellsSection 7 [] (SpellsVector SpellsExport) exports) t3 t4
    → Appends (SpellsItself k.after) t4 t5 → Puts (SpellsSection 10 [] (SpellsVector SpellsCode) bodies) t5 t6
    → Appends (SpellsItself k.rest) t6 t7
    → Puts (Spliced k functions exports bodies) t0 t7
spliced k functions exports bodies t0 t1 t2 t3 t4 t5 t6 t7 before three between seven after ten rest =
    puts_then (from_appends before) (puts_then three (puts_then (from_appends between) (puts_then seven (puts_then (from_appends after) (puts_then ten (from_appends rest))))))
