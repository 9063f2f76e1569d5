-- A block opens, parts or ends: what the code does is what the rules say of the frames.
use Rattle.std.proofs.Common.{◌≡◌, ℕ, ◌+◌, ◌-◌, ◌≤◌, List, [], ◌∷◌, ◌++◌, length, take, drop, Option, Some, None, Bool, true, false, refl, sym, ap, ◌∙◌, subst, arith, length-drop}
use Rattle.std.specs.Prelude.{reverse, option_and_then, if◌then◌else◌, ◌&&◌}
use Rattle.std.proofs.Math.Seq.{take-append_seam, drop-append_seam}
use Rattle.std.proofs.lemmas.List.{append_assoc, length-append, length-take-le}
use Rattle.wasm_types.specs.declared.value.ValType.{ValType}
use Rattle.wasm_types.specs.declared.function.FuncType.{FuncType}
use Rattle.valid_rules.specs.declared.types.Operand.{Operand}
use Rattle.valid_rules.specs.declared.types.Opener.{Opener}
use Rattle.valid_rules.specs.declared.types.Opener.TheVariants.{Block as BlockOpener, Loop, If}
use Rattle.valid_rules.specs.declared.types.Frame.{Frame}
use Rattle.valid_rules.specs.declared.types.Shape.TheVariants.{Opens, Else, End}
use Rattle.valid_rules.specs.Reading.{Read, step, take_all, put, asks, empties, closes_as, entered, with_operands, pushed, parted_as}
use Rattle.valid_bodies.specs.declared.blocks.Block.{Block}
use Rattle.valid_bodies.specs.declared.blocks.Outer.{Outer}
use Rattle.valid_bodies.specs.Layer.{Layer, above, under}
use Rattle.valid_bodies.specs.Blocks.{kind_in, frame_in, outer, frames, Around, Open, Entered, Left}
use Rattle.valid_bodies.specs.Steps.{step_on, asked}
use Rattle.valid_bodies.proofs.Keeping.{frame_kept, outer_kept, outer_cut, frame_cut, wider}

-- ---- lists

sum_less : (a n : ℕ) → a + n - a ≡ n
sum_less a n = omega arith

above_seam : (xs ys : List Operand) → above (length ys) (xs ++ ys) ≡ xs
above_seam xs ys =
    let n = length-append xs ys in
    let e : length (xs ++ ys) - length ys ≡ length xs = omega (arith, n) in
    ap (λ k. take k (xs ++ ys)) e ∙ take-append_seam xs ys

under_seam : (xs ys : List Operand) → under (length ys) (xs ++ ys) ≡ ys
under_seam xs ys =
    let n = length-append xs ys in
    let e : length (xs ++ ys) - length ys ≡ length xs = omega (arith, n) in
    ap (λ k. drop k (xs ++ ys)) e ∙ drop-append_seam xs ys

-- the list in the middle
middle : (xs ys zs : List ValType) → take (length xs + length ys - length xs) (drop (length xs) (xs ++ ys ++ zs)) ≡ ys
middle xs ys zs =
    ap (λ k. take k (drop (length xs) (xs ++ ys ++ zs))) (sum_less (length xs) (length ys))
    ∙ ap (λ l. take (length ys) (drop (length xs) l)) (append_assoc xs ys zs)
    ∙ ap (take (length ys)) (drop-append_seam xs (ys ++ zs)) ∙ take-append_seam ys zs

whole_end : (zs : List ValType) → take (length zs) zs ≡ zs
whole_end [] = refl
whole_end (z ∷ zs) = ap (λ l. z ∷ l) (whole_end zs)

last_part : (xs ys zs : List ValType) → take (length xs + length ys + length zs - (length xs + length ys)) (drop (length xs + length ys) (xs ++ ys ++ zs)) ≡ zs
last_part xs ys zs =
    ap (λ k. take k (drop (length xs + length ys) (xs ++ ys ++ zs))) (sum_less (length xs + length ys) (length zs))
    ∙ ap (λ k. take (length zs) (drop k (xs ++ ys ++ zs))) (sym (length-append xs ys))
    ∙ ap (take (length zs)) (drop-append_seam (xs ++ ys) zs) ∙ whole_end zs

-- ---- a block opens

abbrev fresh : Opener → FuncType → List ValType → Block
fresh o t ts = record { opener = o; from = length ts; mid = length ts + length t.params; to = length ts + length t.params + length t.results; unreachable = false }

kind_fresh : (o : Opener) (t : FuncType) (ts : List ValType) → kind_in (ts ++ t.params ++ t.results) (fresh o t ts) ≡ t
kind_fresh o t ts =
    ap (λ (ps : List ValType). record { params = ps; results = take (length ts + length t.params + length t.results - (length ts + length t.params)) (drop (length ts + length t.params) (ts ++ t.params ++ t.results)) }) (middle ts t.params t.results)
    ∙ ap (λ (rs : List ValType). record { params = t.params; results = rs }) (last_part ts t.params t.results)

frame_fresh : (o : Opener) (t : FuncType) (ts : List ValType) → frame_in (ts ++ t.params ++ t.results) (fresh o t ts) (put t.params []) ≡ entered o t
frame_fresh o t ts = ap (λ (k : FuncType). record { opener = o; kind = k; operands = put t.params []; unreachable = false }) (kind_fresh o t ts)

module _ (ts : List ValType) (os : List Outer) (b : Block) (mid : Layer) (stands : Open (Some b) os (length ts) (length mid.below)) where
  abbrev more : FuncType → List ValType
  more t = ts ++ t.params ++ t.results

  around_kept : (t : FuncType) → outer (more t) os mid.below ≡ outer ts os mid.below
  around_kept t =
      let low = stands.0 in
      ap (λ l. outer l os mid.below) (append_assoc ts t.params t.results)
      ∙ outer_kept os ts (t.params ++ t.results) mid.below (length mid.below) (wider os b.from (length ts) (length mid.below) (length mid.below) (omega (arith, low.0, low.1, low.2)) (omega arith) stands.1)

  block_kept : (t : FuncType) → frame_in (more t) b mid.own ≡ frame_in ts b mid.own
  block_kept t = ap (λ l. frame_in l b mid.own) (append_assoc ts t.params t.results) ∙ frame_kept b mid.own ts (t.params ++ t.results) stands.0

  abbrev holder : Outer
  holder = record { block = b; height = length mid.below }

  frames_fresh : (o : Opener) (t : FuncType) → frames (more t) (Some (fresh o t ts)) (holder ∷ os) (record { own = put t.params []; below = mid.own ++ mid.below }) ≡ entered o t ∷ frame_in ts b mid.own ∷ outer ts os mid.below
  frames_fresh o t =
      let f = frame_fresh o t ts in
      let g = ap (frame_in (more t) b) (above_seam mid.own mid.below) ∙ block_kept t in
      let a = ap (outer (more t) os) (under_seam mid.own mid.below) ∙ around_kept t in
      ap (λ x. x ∷ frame_in (more t) b (above (length mid.below) (mid.own ++ mid.below)) ∷ outer (more t) os (under (length mid.below) (mid.own ++ mid.below))) f
      ∙ ap (λ x. entered o t ∷ x ∷ outer (more t) os (under (length mid.below) (mid.own ++ mid.below))) g
      ∙ ap (λ x. entered o t ∷ frame_in ts b mid.own ∷ x) a

  entered_frames : (o : Opener) (t : FuncType) (inner : Block) (types : List ValType) (around : List Outer) (new : Layer) → Entered o t ts os mid b inner types around new
      → frames types (Some inner) around new ≡ entered o t ∷ frame_in ts b mid.own ∷ outer ts os mid.below
  entered_frames o t inner types around new e =
      ap (λ l. frames l (Some inner) around new) e.types ∙ ap (λ l. frames (more t) (Some inner) l new) e.around
      ∙ ap (λ (n : Layer). frames (more t) (Some inner) (holder ∷ os) n) e.operands
      ∙ ap (λ (i : Block). frames (more t) (Some i) (holder ∷ os) (record { own = put t.params []; below = mid.own ++ mid.below })) e.inner
      ∙ frames_fresh o t

  fresh_stands : (o : Opener) (t : FuncType) → Open (Some (fresh o t ts)) (holder ∷ os) (length (more t)) (length (mid.own ++ mid.below))
  fresh_stands o t =
      let n = length-append (ts ++ t.params) t.results in
      let m = length-append ts t.params in
      let k = length-append mid.own mid.below in
      let low = stands.0 in
      ((omega arith, omega arith, omega (arith, n, m)), ((low.0, low.1, low.2), omega (arith, k), stands.1))

  pub entered_stands : (o : Opener) (t : FuncType) (inner : Block) (types : List ValType) (around : List Outer) (new : Layer) → Entered o t ts os mid b inner types around new → Open (Some inner) around (length types) (length new.below)
  entered_stands o t inner types around new e =
      let lengths : length (more t) ≡ length types = ap (λ (l : List ValType). length l) (sym e.types) in
      let deep : length (mid.own ++ mid.below) ≡ length new.below = ap (λ (l : Layer). length l.below) (sym e.operands) in
      subst (λ (i : Block). Open (Some i) around (length types) (length new.below)) (sym e.inner)
      (subst (λ l. Open (Some (fresh o t ts)) l (length types) (length new.below)) (sym e.around)
      (subst (λ n. Open (Some (fresh o t ts)) (holder ∷ os) n (length new.below)) lengths
      (subst (λ n. Open (Some (fresh o t ts)) (holder ∷ os) (length (more t)) n) deep (fresh_stands o t))))

-- ---- steps

asks_asked : (o : Opener) (t : FuncType) → asks o t ≡ asked o t.params
asks_asked BlockOpener t = refl
asks_asked Loop t = refl
asks_asked If t = refl

module _ (ts : List ValType) (inner : Option Block) (os : List Outer) (b : Block) (l : Layer) (shown : List Frame) (is : frames ts inner os l ≡ shown) (here : inner ≡ Some b) where
  abbrev now : Frame
  now = frame_in ts b l.own

  abbrev around : List Frame
  around = outer ts os l.below

  top : shown ≡ now ∷ around
  top = sym is ∙ ap (λ (i : Option Block). frames ts i os l) here

  abbrev opens_as : Opener → FuncType → Option (List Operand) → Read
  opens_as o t vs = option_and_then (λ vs. Some (entered o t ∷ with_operands now vs ∷ around)) vs

  pub opens_not : (o : Opener) (t : FuncType) → take_all b.unreachable (reverse (asked o t.params)) l.own ≡ None → step_on shown (Opens o t) ≡ None
  unfolding step
  opens_not o t e = ap (λ fs. step_on fs (Opens o t)) top ∙ ap (λ ps. opens_as o t (take_all b.unreachable (reverse ps) l.own)) (asks_asked o t) ∙ ap (opens_as o t) e

  pub by_open : (o : Opener) (t : FuncType) (mid : Layer) (fresh : Block) (types : List ValType) (outers : List Outer) (new : Layer) → take_all b.unreachable (reverse (asked o t.params)) l.own ≡ Some mid.own → mid.below ≡ l.below
      → Open inner os (length ts) (length l.below) → Entered o t ts os mid b fresh types outers new → step_on shown (Opens o t) ≡ Some (frames types (Some fresh) outers new)
  unfolding step
  by_open o t mid fresh types outers new e same stands is_new =
      let low : Open (Some b) os (length ts) (length mid.below) = subst (λ (vs : List Operand). Open (Some b) os (length ts) (length vs)) (sym same) (subst (λ (i : Option Block). Open i os (length ts) (length l.below)) here stands) in
      ap (λ fs. step_on fs (Opens o t)) top ∙ ap (λ ps. opens_as o t (take_all b.unreachable (reverse ps) l.own)) (asks_asked o t) ∙ ap (opens_as o t) e
      ∙ ap (λ vs. Some (entered o t ∷ frame_in ts b mid.own ∷ outer ts os vs)) (sym same) ∙ ap Some (sym (entered_frames ts os b mid low o t fresh types outers new is_new))

  pub open_stands : (o : Opener) (t : FuncType) (mid : Layer) (fresh : Block) (types : List ValType) (outers : List Outer) (new : Layer) → mid.below ≡ l.below → Open inner os (length ts) (length l.below) → Entered o t ts os mid b fresh types outers new
      → Open (Some fresh) outers (length types) (length new.below)
  open_stands o t mid fresh types outers new same stands is_new =
      let low : Open (Some b) os (length ts) (length mid.below) = subst (λ (vs : List Operand). Open (Some b) os (length ts) (length vs)) (sym same) (subst (λ (i : Option Block). Open i os (length ts) (length l.below)) here stands) in
      entered_stands ts os b mid low o t fresh types outers new is_new

  -- ---- else

  abbrev over_here : Bool
  over_here = empties (take_all b.unreachable (reverse (kind_in ts b).results) l.own)

  pub parts_not : (results : List ValType) → results ≡ (kind_in ts b).results → empties (take_all b.unreachable (reverse results) l.own) ≡ false → step_on shown Else ≡ None
  unfolding step
  parts_not results same e =
      let e' : over_here ≡ false = ap (λ rs. empties (take_all b.unreachable (reverse rs) l.own)) (sym same) ∙ e in
      ap (λ fs. step_on fs Else) top ∙ ap (λ x. if x then parted_as around b.opener (kind_in ts b) else None) e'

  parted_other : (o : Opener) (t : FuncType) (so : Bool) → (o ≡ If → ⊥) → (if so then parted_as around o t else None) ≡ None
  parted_other BlockOpener t true other = refl
  parted_other Loop t true other = refl
  parted_other If t true other = absurd (other refl)
  parted_other o t false other = refl

  pub parts_other : (b.opener ≡ If → ⊥) → step_on shown Else ≡ None
  unfolding step
  parts_other other = ap (λ fs. step_on fs Else) top ∙ parted_other b.opener (kind_in ts b) over_here other

  pub by_else : (results params : List ValType) (mid new : Layer) (parted : Block) → results ≡ (kind_in ts b).results → params ≡ (kind_in ts b).params → empties (take_all b.unreachable (reverse results) l.own) ≡ true → b.opener ≡ If
      → mid.own ≡ [] → mid.below ≡ l.below → new.own ≡ put params mid.own → new.below ≡ mid.below
      → parted ≡ record { opener = BlockOpener; from = b.from; mid = b.mid; to = b.to; unreachable = false } → step_on shown Else ≡ Some (frames ts (Some parted) os new)
  unfolding step
  by_else results params mid new parted is_results is_params e is_if none same put_on kept is_parted =
      let e' : over_here ≡ true = ap (λ rs. empties (take_all b.unreachable (reverse rs) l.own)) (sym is_results) ∙ e in
      let own : put (kind_in ts b).params [] ≡ new.own = ap (λ ps. put ps []) (sym is_params) ∙ ap (put params) (sym none) ∙ sym put_on in
      ap (λ fs. step_on fs Else) top ∙ ap (λ x. if x then parted_as around b.opener (kind_in ts b) else None) e' ∙ ap (λ o. parted_as around o (kind_in ts b)) is_if
      ∙ ap (λ vs. Some (record { opener = BlockOpener; kind = kind_in ts b; operands = vs; unreachable = false } ∷ around)) own
      ∙ ap (λ vs. Some (record { opener = BlockOpener; kind = kind_in ts b; operands = new.own; unreachable = false } ∷ outer ts os vs)) (sym (kept ∙ same))
      ∙ ap (λ (p : Block). Some (frames ts (Some p) os new)) (sym is_parted)

  -- ---- end

  abbrev closes_by : Bool → Bool → Read
  closes_by x y = if x && y then Some (pushed (kind_in ts b).results around) else None

  pub ends_not : (results : List ValType) → results ≡ (kind_in ts b).results → empties (take_all b.unreachable (reverse results) l.own) ≡ false → step_on shown End ≡ None
  unfolding step
  ends_not results same e =
      let e' : over_here ≡ false = ap (λ rs. empties (take_all b.unreachable (reverse rs) l.own)) (sym same) ∙ e in
      ap (λ fs. step_on fs End) top ∙ ap (λ x. closes_by x (closes_as b.opener (kind_in ts b))) e'

  kind_as : (params results : List ValType) → params ≡ (kind_in ts b).params → results ≡ (kind_in ts b).results → closes_as b.opener (kind_in ts b) ≡ closes_as b.opener (record { params = params; results = results })
  kind_as params results p r = ap (λ ps. closes_as b.opener (record { params = ps; results = (kind_in ts b).results })) (sym p) ∙ ap (λ rs. closes_as b.opener (record { params = params; results = rs })) (sym r)

  pub ends_short : (params results : List ValType) → params ≡ (kind_in ts b).params → results ≡ (kind_in ts b).results → empties (take_all b.unreachable (reverse results) l.own) ≡ true
      → closes_as b.opener (record { params = params; results = results }) ≡ false → step_on shown End ≡ None
  unfolding step
  ends_short params results p r e so =
      let e' : over_here ≡ true = ap (λ rs. empties (take_all b.unreachable (reverse rs) l.own)) (sym r) ∙ e in
      ap (λ fs. step_on fs End) top ∙ ap (λ x. closes_by x (closes_as b.opener (kind_in ts b))) e' ∙ ap (closes_by true) (kind_as params results p r ∙ so)

  left_frames : (outers : List Outer) (low : Open (Some b) outers (length ts) (length l.below)) (mid : Layer) (inner' : Option Block) (types : List ValType) (left : List Outer) (new : Layer)
      → mid.below ≡ l.below → Left ts outers mid b inner' types left new → pushed (kind_in ts b).results (outer ts outers l.below) ≡ frames types inner' left new
  left_frames [] low mid inner' types left new same is_left = sym (ap (λ (i : Option Block). frames types i left new) is_left)
  left_frames (o ∷ outers) low mid inner' types left new same is_left =
      let s = low.0 in
      let within : b.from ≤ length ts = omega (arith, s.0, s.1, s.2) in
      let rs = (kind_in ts b).results in
      sym
      (ap (λ (i : Option Block). frames types i left new) is_left.0 ∙ ap (λ t. frames t (Some o.block) left new) is_left.1 ∙ ap (λ x. frames (take b.from ts) (Some o.block) x new) is_left.2
      ∙ ap (λ (n : Layer). frames (take b.from ts) (Some o.block) outers n) is_left.3
      ∙ ap (λ vs. frame_in (take b.from ts) o.block (put rs (above o.height vs)) ∷ outer (take b.from ts) outers (under o.height vs)) same
      ∙ ap (λ f. f ∷ outer (take b.from ts) outers (under o.height l.below)) (frame_cut o.block ts (put rs (above o.height l.below)) b.from within low.1.0)
      ∙ ap (λ fs. frame_in ts o.block (put rs (above o.height l.below)) ∷ fs) (outer_cut outers ts (under o.height l.below) b.from o.height within (wider outers o.block.from b.from o.height o.height (omega (arith, low.1.0.0, low.1.0.1, low.1.0.2)) (omega arith) low.1.2)))

  pub by_end : (params results : List ValType) (mid : Layer) (inner' : Option Block) (types : List ValType) (left : List Outer) (new : Layer) → params ≡ (kind_in ts b).params → results ≡ (kind_in ts b).results
      → empties (take_all b.unreachable (reverse results) l.own) ≡ true → closes_as b.opener (record { params = params; results = results }) ≡ true → mid.below ≡ l.below → Open inner os (length ts) (length l.below)
      → Left ts os mid b inner' types left new → step_on shown End ≡ Some (frames types inner' left new)
  unfolding step
  by_end params results mid inner' types left new p r e so same stands is_left =
      let e' : over_here ≡ true = ap (λ rs. empties (take_all b.unreachable (reverse rs) l.own)) (sym r) ∙ e in
      let low : Open (Some b) os (length ts) (length l.below) = subst (λ (i : Option Block). Open i os (length ts) (length l.below)) here stands in
      ap (λ fs. step_on fs End) top ∙ ap (λ x. closes_by x (closes_as b.opener (kind_in ts b))) e' ∙ ap (closes_by true) (kind_as params results p r ∙ so)
      ∙ ap Some (left_frames os low mid inner' types left new same is_left)

  left_stands : (outers : List Outer) (low : Open (Some b) outers (length ts) (length l.below)) (mid : Layer) (inner' : Option Block) (types : List ValType) (left : List Outer) (new : Layer)
      → mid.below ≡ l.below → Left ts outers mid b inner' types left new → Open inner' left (length types) (length new.below)
  left_stands [] low mid inner' types left new same is_left = subst (λ (i : Option Block). Open i left (length types) (length new.below)) (sym is_left) tt
  left_stands (o ∷ outers) low mid inner' types left new same is_left =
      let s = low.0 in
      let within : b.from ≤ length ts = omega (arith, s.0, s.1, s.2) in
      let n : length types ≡ b.from = ap (λ (t : List ValType). length t) is_left.1 ∙ length-take-le b.from ts within in
      let d : new.below ≡ under o.height l.below = ap (λ (x : Layer). x.below) is_left.3 ∙ ap (under o.height) same in
      subst (λ (i : Option Block). Open i left (length types) (length new.below)) (sym is_left.0)
      (subst (λ x. Open (Some o.block) x (length types) (length new.below)) (sym is_left.2)
      (subst (λ k. Open (Some o.block) outers k (length new.below)) (sym n)
      (subst (λ (vs : List Operand). Open (Some o.block) outers b.from (length vs)) (sym d) (low.1.0, subst (Around outers o.block.from) (sym (under_long o.height l.below low.1.1)) low.1.2))))
    where
      under_long : (h : ℕ) (vs : List Operand) → h ≤ length vs → length (under h vs) ≡ h
      under_long h vs le = length-drop (length vs - h) vs ∙ omega (arith, le)

  pub end_stands : (mid : Layer) (inner' : Option Block) (types : List ValType) (left : List Outer) (new : Layer) → mid.below ≡ l.below → Open inner os (length ts) (length l.below) → Left ts os mid b inner' types left new
      → Open inner' left (length types) (length new.below)
  end_stands mid inner' types left new same stands is_left = left_stands os (subst (λ (i : Option Block). Open i os (length ts) (length l.below)) here stands) mid inner' types left new same is_left
