-- Windows that are written keep the output's length.
use Rattle.std.proofs.Common.{◌≡◌, ℕ, suc, ◌+◌, ◌-◌, ◌^◌, ◌<◌, ◌≤◌, List, [], ◌∷◌, length, map, Option, Some, None, Bool, true, false, refl, sym, ap, ◌∙◌, arith}
use Rattle.std.specs.Prelude.{nat_lt, cond, slice_get, AllPairs}
use Rattle.std.specs.List.{All}
use Rattle.std.proofs.lemmas.List.Elements.{All-cons, All-nil, All-weaker}
use Rattle.std.proofs.lemmas.Bool.{ltb-false}
use Rattle.std.proofs.lemmas.List.Kept.{AllPairs-cons}
use Rattle.wl_base.specs.Choice.{given}
use Rattle.made_symbols.specs.declared.mode.Mode.TheVariants.{Plain}
use Rattle.name_rules.specs.Entries.{InputSymbol}
use Rattle.reloc_apply.specs.declared.window.Window.{Window}
use Rattle.reloc_apply.specs.Windows.{patch_of}
use Rattle.reloc_apply.proofs.Over.{long_all}
use Rattle.reloc_apply.proofs.Apart.{lie_in_all}
use Rattle.image_emit.specs.Bytes.{Tree, bytes_of, tree_of}
use Rattle.image_emit.specs.Filled.{tree_filled, all_moved}
use Rattle.image_emit.specs.Pieces.{sources, source_places}
use Rattle.image_emit.specs.Spelled.{IsU32}
use Rattle.image_emit.proofs.Fills.{fill_law}
use Rattle.live_mark.specs.Live.{is_among, reached}
use Rattle.link_output.specs.link_rules.Program.{Program, Part}
use Rattle.link_output.specs.link_rules.Marks.{live, picked, targets, root_places}
use Rattle.link_output.specs.link_rules.Output.{image, source_windows}
use Rattle.link_output.specs.link_rules.LinkOf.{output_fault}
use Rattle.link_output.specs.link_program.Stand.{PartsStand}
use Rattle.link_output.specs.link_program.Live.{AreLive}
use Rattle.link_output.specs.Written.{StandInSources}
use Rattle.link_output.proofs.Sources.{windows_stand}
use Rattle.link_output.proofs.Apart.{all_lie, all_apart}
use Rattle.link_facts.specs.link_worlds.Worlds.{layout_of, linked_tree}

pub same_long : (t : Tree) (wss : List (List Window)) → StandInSources wss (sources t) → length (bytes_of (tree_filled (map (map patch_of) wss) t)) ≡ length (bytes_of t)
same_long t wss s =
    let pss = map (map patch_of) wss in
    ap length (sym (fill_law pss t (all_lie t wss s))) ∙ long_all (all_moved (source_places t) pss) (bytes_of t) (lie_in_all 0 (length (bytes_of t)) (all_moved (source_places t) pss) (all_apart t wss s))

-- ---- the live parts have numbers that rise

record Picks (f : ℕ → Option Part) (at : ℕ) (xs : List Part) : Type 0 where
  numbers : List ℕ
  above : All (λ n. at ≤ n) numbers
  rise : AllPairs (λ m n. m < n) numbers
  are : map f numbers ≡ map Some xs

picks : (f : ℕ → Option Part) (marked : List ℕ) (at : ℕ) (xs : List Part) → ((k : ℕ) → f (at + k) ≡ slice_get xs k) → Picks f at (picked marked at xs)
picks f marked at [] h = record { numbers = []; above = All-nil (λ n. at ≤ n); rise = λ i j x y h. absurd (omega arith); are = refl }
picks f marked at (x ∷ xs) h =
    onto (is_among marked at) (picks f marked (at + 1) xs (λ k. let e : at + 1 + k ≡ at + suc k = omega arith in ap f e ∙ h (suc k)))
  where
    onto : (b : Bool) → Picks f (at + 1) (picked marked (at + 1) xs) → Picks f at (cond b (x ∷ picked marked (at + 1) xs) (picked marked (at + 1) xs))
    onto true r = let e : at ≡ at + 0 = omega arith in record {
      numbers = at ∷ r.numbers;
      above = All-cons (λ n. at ≤ n) at r.numbers (omega arith) (All-weaker (λ n. at + 1 ≤ n) (λ n. at ≤ n) (λ n l. omega (arith, l)) r.numbers r.above);
      rise = AllPairs-cons (λ m n. m < n) at r.numbers (All-weaker (λ n. at + 1 ≤ n) (λ n. at < n) (λ n l. omega (arith, l)) r.numbers r.above) r.rise;
      are = ap (λ o. o ∷ map f r.numbers) (ap f e ∙ h 0) ∙ ap (λ os. Some x ∷ os) r.are;
    }
    onto false r = record { numbers = r.numbers; above = All-weaker (λ n. at + 1 ≤ n) (λ n. at ≤ n) (λ n l. omega (arith, l)) r.numbers r.above; rise = r.rise; are = r.are }

pub lives : (p : Program) (exports : List InputSymbol) → (numbers : List ℕ) × AreLive p numbers (live p exports)
unfolding live
lives p exports = let r = picks (slice_get p.parts) (reached (targets p) (root_places p exports)) 0 p.parts (λ k. let e : 0 + k ≡ k = omega arith in ap (slice_get p.parts) e) in (r.numbers, record { rise = r.rise; are = r.are })

pub given_none : {A : Type 0} (b : Bool) (x : A) → given b x ≡ None → b ≡ false
given_none true x e = absurd (grind arith)
given_none false x e = refl

tree_short : (p : Program) (exports : List InputSymbol) → output_fault p (image Plain p (live p exports) exports (layout_of p exports)) ≡ None
    → length (bytes_of (tree_of p.files (image Plain p (live p exports) exports (layout_of p exports)))) < 2 ^ 32
unfolding output_fault
tree_short p exports e =
    let n = length (bytes_of (tree_of p.files (image Plain p (live p exports) exports (layout_of p exports)))) in
    let f = ltb-false (2 ^ 31 - 1) n (given_none (nat_lt (2 ^ 31 - 1) n) _ e) in
    omega (arith, f)

pub short : (p : Program) (exports : List InputSymbol) → PartsStand p → output_fault p (image Plain p (live p exports) exports (layout_of p exports)) ≡ None
    → IsU32 (length (bytes_of (linked_tree p (live p exports) exports (layout_of p exports))))
short p exports stand e =
    let v = lives p exports in
    let s = windows_stand Plain p v.0 (live p exports) exports stand v.1 in
    let k = same_long (tree_of p.files (image Plain p (live p exports) exports (layout_of p exports))) (source_windows Plain p (live p exports) exports (layout_of p exports)) s in
    let t = tree_short p exports e in
    omega (arith, k, t)
