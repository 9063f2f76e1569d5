-- The steps of loops over an object's lists.
use Rattle.std.proofs.Common.{◌≡◌, ℕ, ◌+◌, ◌≤◌, true, false, cond, List, [], ◌∷◌, ◌++◌, map, drop, length, Option, Some, None, ap, sym, ◌∙◌, subst, arith, append_assoc}
use Rattle.std.specs.Prelude.{filter_map, slice_get, option_and_then, not}
use Rattle.std.specs.List.{All, cons_option}
use Rattle.std.proofs.lemmas.Option.{slice_get_within, get_or_from_slice_get}
use Rattle.std.proofs.lemmas.List.{drop_more, drop_all}
use Rattle.std.proofs.lemmas.List.Elements.{All-get_or}
use Rattle.wasm_types.specs.declared.function.FuncType.{FuncType}
use Rattle.object_file.specs.body_windows.declared.operands.Reference.{Reference}
use Rattle.object_file.specs.body_windows.Operands.{StandIn}
use Rattle.object_file.specs.object_parts.Spans.{LiesIn}
use Rattle.object_file.specs.object_columns.declared.functions.FunctionDef.{FunctionDef}
use Rattle.object_file.specs.declared.object.Object.{Object}
use Rattle.object_file.specs.Sound.{Sound}
use Rattle.wasm_instr.specs.declared.body.LocalRun.{LocalRun}
use Rattle.wasm_instr.specs.declared.body.Placed.{Placed}
use Rattle.wasm_instr.specs.Bodies.{body_at}
use Rattle.valid_rules.specs.declared.types.Frame.{Frame}
use Rattle.valid_rules.specs.Reading.{Read, read}
use Rattle.valid_bodies.specs.Steps.{step_on, is_open}
use Rattle.valid_bodies.specs.Went.{ended}
use Rattle.valid_bodies.proofs.Ending.{read_next, is_over}
use Rattle.valid_objects.specs.Objects.{body_bytes, accepted, first_refused}
use Rattle.valid_objects.specs.Merging.{named_place, left_at, merged_shape, merged}

drop_at : {A : Type 0} (xs : List A) (i : ℕ) (x : A) → slice_get xs i ≡ Some x → drop i xs ≡ x ∷ drop (i + 1) xs
drop_at xs i x at = drop_more xs i x (slice_get_within xs i x at) ∙ ap (λ y. y ∷ drop (i + 1) xs) (get_or_from_slice_get xs i x x at)

pub all_at : {A : Type 0} (P : A → Type 0) (xs : List A) (i : ℕ) (x : A) → All P xs → slice_get xs i ≡ Some x → P x
all_at P xs i x all at = subst P (get_or_from_slice_get xs i x x at) (All-get_or P xs i x (slice_get_within xs i x at) all)

-- ---- what some give

joined : {B : Type 0} (o : Option B) (found rest : List B) → (found ++ cons_option o []) ++ rest ≡ found ++ cons_option o rest
joined None found rest = append_assoc found [] rest
joined (Some y) found rest = append_assoc found (y ∷ []) rest

pub gives : {A B : Type 0} (f : A → Option B) (xs : List A) (i : ℕ) (x : A) (found next whole : List B) → slice_get xs i ≡ Some x → next ≡ found ++ cons_option (f x) []
    → found ++ filter_map f (drop i xs) ≡ whole → next ++ filter_map f (drop (i + 1) xs) ≡ whole
gives f xs i x found next whole at is e =
    ap (λ l. l ++ filter_map f (drop (i + 1) xs)) is ∙ joined (f x) found (filter_map f (drop (i + 1) xs)) ∙ sym (ap (λ l. found ++ filter_map f l) (drop_at xs i x at)) ∙ e

-- ---- what all give

pub maps : {A B : Type 0} (f : A → B) (xs : List A) (i : ℕ) (x : A) (found next whole : List B) → slice_get xs i ≡ Some x → next ≡ found ++ f x ∷ []
    → found ++ map f (drop i xs) ≡ whole → next ++ map f (drop (i + 1) xs) ≡ whole
maps f xs i x found next whole at is e =
    ap (λ l. l ++ map f (drop (i + 1) xs)) is ∙ append_assoc found (f x ∷ []) (map f (drop (i + 1) xs)) ∙ sym (ap (λ l. found ++ map f l) (drop_at xs i x at)) ∙ e

-- ---- the first that is refused

module _ (o : Object) (bytes : List ℕ) (n i : ℕ) (fs : List FunctionDef) (total : Option ℕ) (rest : first_refused o bytes (n + i) (drop i fs) ≡ total) where
  next : (f : FunctionDef) → slice_get fs i ≡ Some f
      → cond (accepted o f (body_at (body_bytes bytes f.span))) (first_refused o bytes (n + i + 1) (drop (i + 1) fs)) (Some (n + i)) ≡ total
  next f at = sym (ap (first_refused o bytes (n + i)) (drop_at fs i f at)) ∙ rest

  pub refused_here : (f : FunctionDef) → slice_get fs i ≡ Some f → accepted o f (body_at (body_bytes bytes f.span)) ≡ false → Some (n + i) ≡ total
  refused_here f at is = sym (ap (λ b. cond b (first_refused o bytes (n + i + 1) (drop (i + 1) fs)) (Some (n + i))) is) ∙ next f at

  pub goes_on : (f : FunctionDef) → slice_get fs i ≡ Some f → accepted o f (body_at (body_bytes bytes f.span)) ≡ true → first_refused o bytes (n + (i + 1)) (drop (i + 1) fs) ≡ total
  goes_on f at is =
      let same : n + (i + 1) ≡ n + i + 1 = omega arith in
      ap (λ k. first_refused o bytes k (drop (i + 1) fs)) same
      ∙ sym (ap (λ b. cond b (first_refused o bytes (n + i + 1) (drop (i + 1) fs)) (Some (n + i))) is) ∙ next f at

  pub none_refused : length fs ≤ i → None ≡ total
  none_refused past = sym (ap (first_refused o bytes (n + i)) (drop_all i fs past)) ∙ rest

-- ---- a body beside its references

module _ (o : Object) (t : FuncType) (locals : List LocalRun) (left now : List Reference) (code : List Placed) (x : Placed) (at : ℕ) (fs : List Frame) (total : Read)
    (here : slice_get code at ≡ Some x) (same : now ≡ left_at (named_place x x.instr) left) (so_far : read fs (merged o t locals left (drop at code)) ≡ total) where
  abbrev behind_it : List Frame → Read
  behind_it gs = read gs (merged o t locals now (drop (at + 1) code))

  by_step : read fs (merged o t locals left (drop at code)) ≡ option_and_then behind_it (step_on fs (merged_shape o t locals now x))
  by_step =
      ap (λ xs. read fs (merged o t locals left xs)) (drop_at code at x here)
      ∙ ap (λ rs. read fs (merged_shape o t locals rs x ∷ merged o t locals rs (drop (at + 1) code))) (sym same)
      ∙ read_next (merged_shape o t locals now x) (merged o t locals now (drop (at + 1) code)) fs

  pub reads_on : (gs : List Frame) → step_on fs (merged_shape o t locals now x) ≡ Some gs → read gs (merged o t locals now (drop (at + 1) code)) ≡ total
  reads_on gs went = sym (ap (option_and_then behind_it) went) ∙ sym by_step ∙ so_far

  pub reads_not : step_on fs (merged_shape o t locals now x) ≡ None → false ≡ ended total
  reads_not went = sym (ap (λ r. ended (option_and_then behind_it r)) went) ∙ sym (ap ended by_step) ∙ ap ended so_far

pub is_read : (o : Object) (t : FuncType) (locals : List LocalRun) (left : List Reference) (code : List Placed) (at : ℕ) (fs : List Frame) (total : Read) → length code ≤ at
    → read fs (merged o t locals left (drop at code)) ≡ total → not (is_open fs) ≡ ended total
is_read o t locals left code at fs total past so_far = is_over fs ∙ ap (λ xs. ended (read fs (merged o t locals left xs))) (sym (drop_all at code past)) ∙ ap ended so_far

-- ---- what a sound object has

pub lies_in : (size : ℕ) (o : Object) (i : ℕ) (f : FunctionDef) → Sound size o → slice_get o.functions i ≡ Some f → f.span.start + f.span.len ≤ size
lies_in size o i f s at = all_at (λ f. LiesIn size f.span) o.functions i f s.bodies at

pub stand_in : (size : ℕ) (o : Object) (i : ℕ) (f : FunctionDef) → Sound size o → slice_get o.functions i ≡ Some f → StandIn 0 f.span.len f.operands
stand_in size o i f s at = all_at (λ f. StandIn 0 f.span.len f.operands) o.functions i f s.operands at
