-- The table of ends is made from the last instruction to the first.
use Rattle.std.proofs.Common.{◌≡◌, ℕ, zero, suc, ◌+◌, ◌-◌, ◌<◌, ◌≤◌, List, [], ◌∷◌, length, map, drop, get_or, Option, Some, None, refl, sym, ap, ◌∙◌, arith, length-drop}
use Rattle.std.specs.Prelude.{slice_get, IfSome}
use Rattle.std.proofs.Math.Seq.{drop-cons}
use Rattle.std.proofs.Math.ListN.{get_or-map}
use Rattle.std.proofs.lemmas.List.{length-map, drop_all}
use Rattle.std.proofs.lemmas.Option.{slice_get-get_or, slice_get_within, same_Some, none-some}
use Rattle.wasm_instr.specs.declared.body.LocalRun.{LocalRun}
use Rattle.wasm_types.specs.declared.function.FuncType.{FuncType}
use Rattle.run_rules.specs.declared.op.Op.{Op}
use Rattle.run_rules.specs.declared.op.Op.TheVariants.{OpenBlock}
use Rattle.run_rules.specs.declared.op.Mark.{Mark}
use Rattle.run_rules.specs.declared.op.Mark.TheVariants.{Opens, Parts, Closes, Passes}
use Rattle.run_rules.specs.declared.world.Source.{Source}
use Rattle.run_rules.specs.declared.world.Source.TheVariants.{Code}
use Rattle.run_rules.specs.declared.world.Function.{Function}
use Rattle.run_rules.specs.declared.world.World.{World}
use Rattle.run_rules.specs.Control.{mark, end_from, else_from}
use Rattle.run_rules.specs.Steps.{joined, function_at}
use Rattle.run_model.specs.declared.ends.Ends.{Ends}
use Rattle.run_model.specs.Table.{ends_behind, ends_before, ends_from, ends_of_source, ends_in, ends_over, others_over, ends_here}

-- The ends of the blocks that are open at a place, the innermost first, where the marks from there on are these.
abbrev pub open_ends : ℕ → List Mark → List ℕ
open_ends at [] = []
open_ends at (m ∷ ms) = ends_over m at (open_ends (at + 1) ms)

-- The same, of an `if` in its first part: where it goes on that is not taken.
abbrev pub open_others : ℕ → List Mark → List ℕ
open_others at [] = []
open_others at (m ∷ ms) = others_over m at (open_others (at + 1) ms)

next_of : (xs : List ℕ) (d : ℕ) → slice_get (drop 1 xs) d ≡ slice_get xs (d + 1)
next_of [] d = refl
next_of (x ∷ xs) d = let e : suc d ≡ d + 1 = omega arith in ap (slice_get (x ∷ xs)) e

pub ends_are : (at d : ℕ) (ms : List Mark) → slice_get (open_ends at ms) d ≡ end_from at d ms
unfolding end_from
ends_are at zero [] = refl
ends_are at (suc d) [] = refl
ends_are at zero (Opens ∷ ms) = next_of (open_ends (at + 1) ms) 0 ∙ ends_are (at + 1) 1 ms
ends_are at (suc d) (Opens ∷ ms) = next_of (open_ends (at + 1) ms) (suc d) ∙ ends_are (at + 1) (suc d + 1) ms
ends_are at zero (Parts ∷ ms) = ends_are (at + 1) 0 ms
ends_are at (suc d) (Parts ∷ ms) = ends_are (at + 1) (suc d) ms
ends_are at zero (Closes ∷ ms) = refl
ends_are at (suc d) (Closes ∷ ms) = ends_are (at + 1) d ms
ends_are at zero (Passes ∷ ms) = ends_are (at + 1) 0 ms
ends_are at (suc d) (Passes ∷ ms) = ends_are (at + 1) (suc d) ms

pub others_are : (at d : ℕ) (ms : List Mark) → slice_get (open_others at ms) d ≡ else_from at d ms
unfolding else_from
others_are at zero [] = refl
others_are at (suc d) [] = refl
others_are at zero (Opens ∷ ms) = next_of (open_others (at + 1) ms) 0 ∙ others_are (at + 1) 1 ms
others_are at (suc d) (Opens ∷ ms) = next_of (open_others (at + 1) ms) (suc d) ∙ others_are (at + 1) (suc d + 1) ms
others_are at zero (Parts ∷ ms) = refl
others_are at (suc d) (Parts ∷ ms) =
    let e : d + 1 ≡ suc d = omega arith in
    next_of (open_others (at + 1) ms) d ∙ ap (slice_get (open_others (at + 1) ms)) e ∙ others_are (at + 1) (suc d) ms
others_are at zero (Closes ∷ ms) = refl
others_are at (suc d) (Closes ∷ ms) = others_are (at + 1) d ms
others_are at zero (Passes ∷ ms) = others_are (at + 1) 0 ms
others_are at (suc d) (Passes ∷ ms) = others_are (at + 1) (suc d) ms

-- ---- the way back

-- The marks from a place on are gone over: the table of their instructions, and the blocks that are open there.
pub record GoneOver (at : ℕ) (ms : List Mark) (table : List Ends) (ends others : List ℕ) : Type 0 where
  pub tabled : table ≡ ends_from at ms
  pub ended : ends ≡ open_ends at ms
  pub parted : others ≡ open_others at ms

-- at the end
pub nothing_gone : (at : ℕ) (ms : List Mark) (table : List Ends) (ends others : List ℕ) → length ms ≤ at → table ≡ [] → ends ≡ [] → others ≡ [] → GoneOver at (drop at ms) table ends others
nothing_gone at ms table ends others past t e o =
    let none : drop at ms ≡ [] = drop_all at ms past in record {
      tabled = t ∙ ap (ends_from at) (sym none);
      ended = e ∙ ap (open_ends at) (sym none);
      parted = o ∙ ap (open_others at) (sym none);
    }

-- at the start
pub all_gone : (at : ℕ) (ms : List Mark) (table : List Ends) (ends others : List ℕ) → at ≤ 0 → GoneOver at (drop at ms) table ends others → table ≡ ends_from 0 ms
all_gone at ms table ends others first gone = let e : at ≡ 0 = omega arith in gone.tabled ∙ ap (λ (k : ℕ). ends_from k (drop k ms)) e

-- the marks from an instruction on
pub marks_from : (code : List Op) (at next : ℕ) (op : Op) → at + 1 ≡ next → at < length code → op ≡ get_or code at op → drop at (map mark code) ≡ mark op ∷ drop next (map mark code)
marks_from code at next op before within is =
    let long : at < length (map mark code) = omega (arith, length-map code mark) in
    let n : suc at ≡ next = omega arith in
    drop-cons (map mark code) at (mark op) long
    ∙ ap (λ (m : Mark). m ∷ drop (suc at) (map mark code)) (get_or-map mark code at op ∙ ap mark (sym is))
    ∙ ap (λ (k : ℕ). mark op ∷ drop k (map mark code)) n

-- the entry of an instruction, by the blocks that are open behind it
entry_is : (m : Mark) (next : ℕ) (ms : List Mark) → ends_here m (open_ends next ms) (open_others next ms) ≡ ends_before m next ms
entry_is Opens next ms = λ i. record { end = (ends_are next 0 ms) i; other = (others_are next 0 ms) i }
entry_is Parts next ms = refl
entry_is Closes next ms = refl
entry_is Passes next ms = refl

-- one mark further back
step_back : (at next : ℕ) (all ms : List Mark) (m : Mark) (here : Ends) (table table' : List Ends) (ends ends' others others' : List ℕ) → at + 1 ≡ next → all ≡ m ∷ ms → GoneOver next ms table ends others → here ≡ ends_here m ends others → ends' ≡ ends_over m at ends → others' ≡ others_over m at others → table' ≡ here ∷ table → GoneOver at all table' ends' others'
step_back at next all ms m here table table' ends ends' others others' before is gone h e o t =
    let entry : here ≡ ends_before m next ms =
    h ∙ ap (λ (es : List ℕ). ends_here m es others) gone.ended ∙ ap (λ (os : List ℕ). ends_here m (open_ends next ms) os) gone.parted ∙ entry_is m next ms in record {
      tabled =
          t ∙ ap (λ (x : Ends). x ∷ table) entry
          ∙ ap (λ (xs : List Ends). ends_before m next ms ∷ xs) gone.tabled
          ∙ ap (λ (k : ℕ). ends_before m k ms ∷ ends_from k ms) (sym before)
          ∙ ap (ends_from at) (sym is);
      ended = e ∙ ap (ends_over m at) gone.ended ∙ ap (λ (k : ℕ). ends_over m at (open_ends k ms)) (sym before) ∙ ap (open_ends at) (sym is);
      parted = o ∙ ap (others_over m at) gone.parted ∙ ap (λ (k : ℕ). others_over m at (open_others k ms)) (sym before) ∙ ap (open_others at) (sym is);
    }

-- one instruction further back
pub gone_further : (code : List Op) (at next : ℕ) (op : Op) (m : Mark) (here : Ends) (table table' : List Ends) (ends ends' others others' : List ℕ) → at + 1 ≡ next → at < length code → op ≡ get_or code at op → m ≡ mark op → GoneOver next (drop next (map mark code)) table ends others → here ≡ ends_here m ends others → ends' ≡ ends_over m at ends → others' ≡ others_over m at others → table' ≡ here ∷ table → GoneOver at (drop at (map mark code)) table' ends' others'
gone_further code at next op m here table table' ends ends' others others' before within is marked gone h e o t =
    step_back at next (drop at (map mark code)) (drop next (map mark code)) m here table table' ends ends' others others' before
    (marks_from code at next op before within is ∙ ap (λ (x : Mark). x ∷ drop next (map mark code)) (sym marked)) gone h e o t

-- ---- the table is what a search finds

looked_up : (at k : ℕ) (ms : List Mark) → slice_get ms k ≡ Some Opens → slice_get (ends_from at ms) k ≡ Some (ends_behind (at + k + 1) (drop (k + 1) ms))
looked_up at k [] is = absurd (none-some Opens is)
looked_up at zero (m ∷ ms) is =
    let e : m ≡ Opens = same_Some m Opens is in
    let n : at + 1 ≡ at + 0 + 1 = omega arith in
    ap (λ (x : Mark). Some (ends_before x (at + 1) ms)) e ∙ ap (λ (p : ℕ). Some (ends_behind p ms)) n
looked_up at (suc k) (m ∷ ms) is =
    let n : at + 1 + k + 1 ≡ at + suc k + 1 = omega arith in
    let d : suc (k + 1) ≡ suc k + 1 = omega arith in
    looked_up (at + 1) k ms is
    ∙ ap (λ (p : ℕ). Some (ends_behind p (drop (k + 1) ms))) n
    ∙ ap (λ (q : ℕ). Some (ends_behind (at + suc k + 1) (drop q (m ∷ ms)))) d

-- the table of a function with this body
table_is : (functions : List (Option Function)) (f : ℕ) (fn : Function) (ls : List LocalRun) (code : List Op) → slice_get functions f ≡ Some (Some fn) → fn.source ≡ Code ls code → slice_get (map ends_in functions) f ≡ Some (ends_from 0 (map mark code))
table_is [] f fn ls code at is = absurd (none-some (Some fn) at)
table_is (o ∷ os) zero fn ls code at is =
    let e : o ≡ Some fn = same_Some o (Some fn) at in
    ap (λ (x : Option Function). Some (ends_in x)) e ∙ ap (λ (x : Source). Some (ends_of_source x)) is
table_is (o ∷ os) (suc f) fn ls code at is = table_is os f fn ls code at is

there : (o : Option (Option Function)) (fn : Function) → joined o ≡ Some fn → o ≡ Some (Some fn)
there None fn h = absurd (none-some fn h)
there (Some x) fn h = ap Some h

-- the table of the function that runs
pub table_at : (w : World) (tables : List (List Ends)) (f : ℕ) (fn : Function) (ls : List LocalRun) (code : List Op) → tables ≡ map ends_in w.functions → function_at w f ≡ Some fn → fn.source ≡ Code ls code → slice_get tables f ≡ Some (ends_from 0 (map mark code))
table_at w tables f fn ls code made at is =
    ap (λ (ts : List (List Ends)). slice_get ts f) made ∙ table_is w.functions f fn ls code (there (slice_get w.functions f) fn at) is

-- an instruction that opens a block
pub opens_at : (code : List Op) (place op : ℕ) (kind : FuncType) (x : Op) → place < length code → x ≡ get_or code place x → x ≡ OpenBlock op kind → slice_get (map mark code) place ≡ Some Opens
opens_at code place op kind x within at is =
    let long : place < length (map mark code) = omega (arith, length-map code mark) in
    slice_get-get_or (map mark code) place (mark x) long
    ∙ ap (λ (m : Mark). Some m) (get_or-map mark code place x ∙ ap mark (sym at ∙ is))

same_table : (tables : List (List Ends)) (ms : List Mark) (f : ℕ) (table : List Ends) → slice_get tables f ≡ Some (ends_from 0 ms) → slice_get tables f ≡ Some table → table ≡ ends_from 0 ms
same_table tables ms f table t at = same_Some table (ends_from 0 ms) (sym at ∙ t)

-- where the block ends that opens at a place
pub found_is : (tables : List (List Ends)) (ms : List Mark) (f place : ℕ) (table : List Ends) (ends : Ends) → slice_get tables f ≡ Some (ends_from 0 ms) → slice_get ms place ≡ Some Opens → slice_get tables f ≡ Some table → slice_get table place ≡ Some ends → ends ≡ ends_behind (place + 1) (drop (place + 1) ms)
found_is tables ms f place table ends t m at is =
    let g : 0 + place + 1 ≡ place + 1 = omega arith in
    same_Some ends (ends_behind (0 + place + 1) (drop (place + 1) ms)) (sym is ∙ ap (λ (x : List Ends). slice_get x place) (same_table tables ms f table t at) ∙ looked_up 0 place ms m)
    ∙ ap (λ (n : ℕ). ends_behind n (drop (place + 1) ms)) g

-- there is an entry
pub never_past : (tables : List (List Ends)) (ms : List Mark) (f place : ℕ) (table : List Ends) → slice_get tables f ≡ Some (ends_from 0 ms) → slice_get ms place ≡ Some Opens → slice_get tables f ≡ Some table → slice_get table place ≡ None → ⊥
never_past tables ms f place table t m at is =
    none-some (ends_behind (0 + place + 1) (drop (place + 1) ms)) (sym is ∙ ap (λ (x : List Ends). slice_get x place) (same_table tables ms f table t at) ∙ looked_up 0 place ms m)

-- an end lies among the marks
end_within : (at d : ℕ) (ms : List Mark) (e : ℕ) → end_from at d ms ≡ Some e → e < at + length ms
unfolding end_from
end_within at zero [] e h = absurd (none-some e h)
end_within at (suc d) [] e h = absurd (none-some e h)
end_within at zero (Opens ∷ ms) e h = omega (arith, end_within (at + 1) 1 ms e h)
end_within at (suc d) (Opens ∷ ms) e h = omega (arith, end_within (at + 1) (suc d + 1) ms e h)
end_within at zero (Parts ∷ ms) e h = omega (arith, end_within (at + 1) 0 ms e h)
end_within at (suc d) (Parts ∷ ms) e h = omega (arith, end_within (at + 1) (suc d) ms e h)
end_within at zero (Closes ∷ ms) e h = let same : at ≡ e = same_Some at e h in omega arith
end_within at (suc d) (Closes ∷ ms) e h = omega (arith, end_within (at + 1) d ms e h)
end_within at zero (Passes ∷ ms) e h = omega (arith, end_within (at + 1) 0 ms e h)
end_within at (suc d) (Passes ∷ ms) e h = omega (arith, end_within (at + 1) (suc d) ms e h)

pub end_is_there : (code : List Op) (place e : ℕ) → slice_get (map mark code) place ≡ Some Opens → end_from (place + 1) 0 (drop (place + 1) (map mark code)) ≡ Some e → e < length code
end_is_there code place e opens is =
    let long : length (map mark code) ≡ length code = length-map code mark in
    let low : place < length (map mark code) = slice_get_within (map mark code) place Opens opens in
    let left : length (drop (place + 1) (map mark code)) ≡ length (map mark code) - (place + 1) = length-drop (place + 1) (map mark code) in
    omega (arith, end_within (place + 1) 0 (drop (place + 1) (map mark code)) e is)

pub within_is : (code : List Op) (place : ℕ) (ends : Ends) → slice_get (map mark code) place ≡ Some Opens → ends ≡ ends_behind (place + 1) (drop (place + 1) (map mark code)) → IfSome ends.end (λ e. e < length code)
within_is code place ends opens is = by ends.end (ap (λ (x : Ends). x.end) is)
  where
    by : (o : Option ℕ) → o ≡ end_from (place + 1) 0 (drop (place + 1) (map mark code)) → IfSome o (λ e. e < length code)
    by None h = tt
    by (Some e) h = end_is_there code place e opens (sym h)
