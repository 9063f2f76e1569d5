-- Places in functions, where more stands behind the debug sections that name them.
use Rattle.std.proofs.Common.{◌≡◌, ◌∙◌, ℕ, zero, suc, ◌+◌, ◌-◌, ◌≤◌, List, [], ◌∷◌, ◌++◌, length, take, drop, slice_range, Option, Some, None, Result, Ok, refl, sym, ap, subst, arith, append_assoc}
use Rattle.std.specs.Prelude.{min}
use Rattle.std.proofs.lemmas.List.{length-take, length-drop}
use Rattle.object_file.specs.wl_base.Choice.{◌>>=◌}
use Rattle.object_file.specs.wl_base.declared.fault.Fault.{Fault}
use Rattle.object_file.specs.reloc_section.declared.entry.Reloc.{Reloc}
use Rattle.reloc_apply.specs.Windows.{bits32, little}
use Rattle.name_rules.specs.Entries.{InputSymbol}
use Rattle.link_plan.specs.declared.plan.Plan.{Plan}
use Rattle.link_rules.specs.Program.{Program, Part}
use Rattle.debug_rules.specs.Faults.{Debug}
use Rattle.debug_rules.specs.Joined.{Places}
use Rattle.debug_tails.specs.link_debug.Offsets.{own_part}
use Rattle.debug_tails.specs.Tails.{debug_tail, with_debug}
use Rattle.debug_links.specs.Offsets as offsets
use Rattle.debug_links.specs.Offsets.{front_of, Holds, Tells, OffsetsKept}
use Rattle.name_section.specs.Customs.{NamesAreCustom}
use Rattle.object_features.specs.Laws.{FeaturesAreCustom}
use Rattle.link_tails.specs.Keeps.{OffsetsStay}
use Rattle.link_tails.proofs.Parts.{split}
use Rattle.link_tails.proofs.Keeps.{tail_of}

take_front : (n : ℕ) (xs ys : List ℕ) → n ≤ length xs → take n (xs ++ ys) ≡ take n xs
take_front zero xs ys le = refl
take_front (suc n) [] ys le = absurd (omega (arith, le))
take_front (suc n) (x ∷ xs) ys le = ap (λ zs. x ∷ zs) (take_front n xs ys (omega (arith, le)))

drop_front : (n : ℕ) (xs ys : List ℕ) → n ≤ length xs → drop n (xs ++ ys) ≡ drop n xs ++ ys
drop_front zero xs ys le = refl
drop_front (suc n) [] ys le = absurd (omega (arith, le))
drop_front (suc n) (x ∷ xs) ys le = drop_front n xs ys (omega (arith, le))

-- four bytes that are there are there with more behind them
range_more : (w more four : List ℕ) (at : ℕ) → length four ≡ 4 → slice_range w at (at + 4) ≡ four → slice_range (w ++ more) at (at + 4) ≡ four
range_more w more four at long held =
    let n : at + 4 - at ≡ 4 = omega arith in
    let there = ap length held in
    let few = length-take (at + 4 - at) (drop at w) in
    let room : 4 ≤ length (drop at w) = omega (arith, n, there, few, long) in
    let within : at ≤ length w = omega (arith, room, length-drop at w) in
    ap (λ xs. take (at + 4 - at) xs) (drop_front at w more within) ∙ (take_front (at + 4 - at) (drop at w) more (omega (arith, n, room)) ∙ held)

module _ (bytes w more : List ℕ) (all : List Debug) (p : Places) where
  holds_more : (d : Debug) (r : Reloc) (word : ℕ) → Holds bytes w all p d r word → Holds bytes (w ++ more) all p d r word
  holds_more d r word h = record {
    earlier = h.earlier;
    later = h.later;
    names = h.names;
    before = h.before;
    after = h.after;
    contributions = h.contributions;
    window = range_more w more (little word) (length (front_of bytes all p h.earlier d.section.name h.before) + r.offset) refl h.window;
  }

module _ (p : Program) (exports : List InputSymbol) (bytes w more : List ℕ) (all : List Debug) where
  tells_more : (d : Debug) (r : Reloc) (o : Option Part) → Tells p exports bytes w all d r o → Tells p exports bytes (w ++ more) all d r o
  tells_more d r (Some part) t = (t.0, t.1, holds_more bytes w more all (offsets.places p exports bytes w all) d r _ t.2)
  tells_more d r None t = holds_more bytes w more all (offsets.places p exports bytes w all) d r _ t

kept_more : (plan : Plan) (files : List (List ℕ)) (bytes w more : List ℕ) → OffsetsKept plan files bytes w → OffsetsKept plan files bytes (w ++ more)
kept_more plan files bytes w more k = record {
  all = k.all;
  objects = k.objects;
  found = k.found;
  loaded = k.loaded;
  sections = k.sections;
  judged = k.judged;
  output = k.output;
  told = λ d at r in_d kind.
      let t = k.told d at r in_d kind in
      (t.0, t.1, t.2, t.3, tells_more _ _ bytes w more k.sections d r _ t.4);
}

behind_debug : (plan : Plan) (files : List (List ℕ)) (bytes tail : List ℕ) → debug_tail plan files (length bytes) ≡ Ok tail → with_debug plan files bytes ≡ Ok (bytes ++ tail)
behind_debug plan files bytes tail e = ap (λ (r : Result (List ℕ) Fault). r >>= λ tail. (let y : Result (List ℕ) Fault = Ok (bytes ++ tail) in y)) e

pub offsets_law : NamesAreCustom → FeaturesAreCustom → offsets.OffsetsStay → OffsetsStay
offsets_law are say stay plan files bytes whole count plain keeps link e =
    let t = tail_of plan files bytes whole e in
    let s = split are say plan files (length bytes) t.0 t.1 in
    let kept = stay plan files bytes (bytes ++ s.debug) count plain keeps link (behind_debug plan files bytes s.debug s.told) in
    subst (OffsetsKept plan files bytes) (append_assoc bytes s.debug s.more ∙ (ap (λ tail. bytes ++ tail) s.is ∙ t.2)) (kept_more plan files bytes (bytes ++ s.debug) s.more kept)
