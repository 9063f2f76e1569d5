-- The validation algorithm (Core, appendix A.3): typing by one reading, with the blocks that are open, the
-- innermost first. Each has its own operands, the newest first, so no heights are kept.
use Rattle.std.specs.Prelude.{ℕ, List, [], ◌∷◌, ◌++◌, map, Option, Some, None, slice_get, Bool, true, false, if◌then◌else◌, ◌&&◌, reverse, length, nat_eq, option_and_then, is_some}
use Rattle.wasm_types.specs.declared.value.ValType.{ValType}
use Rattle.wasm_types.specs.declared.value.ValType.TheVariants.{I32, I64, F32, F64}
use Rattle.valid_rules.specs.declared.types.Operand.{Operand}
use Rattle.valid_rules.specs.declared.types.Operand.TheVariants.{Known, Unknown}
use Rattle.wasm_types.specs.declared.function.FuncType.{FuncType}
use Rattle.valid_rules.specs.declared.types.Opener.{Opener}
use Rattle.valid_rules.specs.declared.types.Opener.TheVariants.{Block, Loop, If}
use Rattle.valid_rules.specs.declared.types.Shape.{Shape}
use Rattle.valid_rules.specs.declared.types.Shape.TheVariants.{Typed, Drops, Selects, Leaves, Branches, BranchesIf, BranchesBy, Opens, Else, End, Untyped}
use Rattle.valid_rules.specs.declared.types.Frame.{Frame}
use Rattle.valid_rules.specs.Leads.{Labels}

-- Whether two types of values are the same.
abbrev pub same_type : ValType → ValType → Bool
same_type I32 I32 = true
same_type I64 I64 = true
same_type F32 F32 = true
same_type F64 F64 = true
same_type _ _ = false

-- What is left when operands of these types are taken, the newest first. Below the operands of a frame that
-- is unreachable there are any.
abbrev pub take_one : Bool → ValType → List Operand → Option (List Operand)
take_one false t [] = None
take_one true t [] = Some []
take_one d t (Unknown ∷ vs) = Some vs
take_one d t (Known s ∷ vs) = if same_type s t then Some vs else None

abbrev pub take_all : Bool → List ValType → List Operand → Option (List Operand)
take_all d [] vs = Some vs
take_all d (t ∷ ts) vs = option_and_then (λ ws. take_all d ts ws) (take_one d t vs)

-- What is left of a frame's operands when these are taken, the last of them from the top.
abbrev pub taken : Frame → List ValType → Option (List Operand)
taken f ts = take_all f.unreachable (reverse ts) f.operands

-- Operands with these on top, the last of them the newest.
abbrev pub put : List ValType → List Operand → List Operand
put ts vs = map Known (reverse ts) ++ vs

-- The types that a branch to a frame takes.
abbrev pub label_as : Opener → FuncType → List ValType
label_as Loop t = t.params
label_as _ t = t.results

abbrev pub label_of : Frame → List ValType
label_of f = label_as f.opener f.kind

abbrev pub labels : List Frame → Labels
labels fs = map label_of fs

-- The frames after an instruction, the innermost first; nothing where there is no typing.
abbrev pub Read : Type 0
Read = Option (List Frame)

abbrev pub with_operands : Frame → List Operand → Frame
with_operands f vs = record f { operands = vs }

-- A block that has just been opened.
abbrev pub entered : Opener → FuncType → Frame
entered o t = record { opener = o; kind = t; operands = put t.params []; unreachable = false }

-- An instruction takes these and puts those.
abbrev pub used : List Frame → Frame → List ValType → List ValType → Read
used fs f ts rs = option_and_then (λ vs. Some (with_operands f (put rs vs) ∷ fs)) (taken f ts)

-- An instruction takes these, and never comes behind itself.
abbrev pub cut : List Frame → Frame → List ValType → Read
cut fs f ts = option_and_then (λ vs. Some (record f { operands = []; unreachable = true } ∷ fs)) (taken f ts)

-- An instruction takes these and opens a block.
abbrev pub opened : List Frame → Frame → Opener → FuncType → List ValType → Read
opened fs f o t ts = option_and_then (λ vs. Some (entered o t ∷ with_operands f vs ∷ fs)) (taken f ts)

-- One operand of any type, and what is below it.
abbrev pub take_any : Bool → List Operand → Option (Operand × List Operand)
take_any false [] = None
take_any true [] = Some (Unknown, [])
take_any d (v ∷ vs) = Some (v, vs)

-- What is known of two operands that have one type.
abbrev pub joined : Operand → Operand → Option Operand
joined Unknown b = Some b
joined (Known s) Unknown = Some (Known s)
joined (Known s) (Known t) = if same_type s t then Some (Known s) else None

-- Operands with the one that `select` gives in the place of the two that it takes.
abbrev pub selected : Bool → List Operand → Option (List Operand)
selected d vs =
    option_and_then (λ p. option_and_then (λ q. option_and_then (λ v. Some (v ∷ q.1)) (joined p.0 q.0)) (take_any d p.1)) (take_any d vs)

-- A branch to the label takes so many operands, and finds them.
abbrev pub fits : Bool → List Operand → ℕ → Option (List ValType) → Bool
fits d vs n None = false
fits d vs n (Some ts) = nat_eq (length ts) n && is_some (take_all d (reverse ts) vs)

-- Branches to all of these labels do.
abbrev pub fit : Bool → List Operand → Labels → ℕ → List ℕ → Bool
fit d vs ls n [] = true
fit d vs ls n (l ∷ ks) = fits d vs n (slice_get ls l) && fit d vs ls n ks

-- How many operands a branch to a label takes.
abbrev pub arity : Option (List ValType) → ℕ
arity None = 0
arity (Some ts) = length ts

-- Nothing is left.
abbrev pub empties : Option (List Operand) → Bool
empties None = false
empties (Some []) = true
empties (Some (v ∷ vs)) = false

-- A block ends here: its operands are its results.
abbrev pub over : Frame → Bool
over f = empties (taken f f.kind.results)

-- The results of a block, on the operands of the frame around it.
abbrev pub pushed : List ValType → List Frame → List Frame
pushed rs [] = []
pushed rs (g ∷ fs) = with_operands g (put rs g.operands) ∷ fs

-- An `if` without `else` ends where no instructions would do in its place.
abbrev pub closes_as : Opener → FuncType → Bool
closes_as If t = over (entered Block t)
closes_as _ t = true

-- The frames behind `end`.
abbrev pub closed : List Frame → Frame → Read
closed fs f = if over f && closes_as f.opener f.kind then Some (pushed f.kind.results fs) else None

-- The frames behind `else`.
abbrev pub parted_as : List Frame → Opener → FuncType → Read
parted_as fs If t = Some (entered Block t ∷ fs)
parted_as fs _ t = None

abbrev pub parted : List Frame → Frame → Read
parted fs f = if over f then parted_as fs f.opener f.kind else None

-- What opening a block takes.
abbrev pub asks : Opener → FuncType → List ValType
asks If t = t.params ++ I32 ∷ []
asks _ t = t.params

-- The frames behind one instruction, in the innermost frame and those around it.
unfoldable pub step : List Frame → Frame → Shape → Read
step fs f (Typed t) = used fs f t.params t.results
step fs f Drops = option_and_then (λ p. Some (with_operands f p.1 ∷ fs)) (take_any f.unreachable f.operands)
step fs f Selects = option_and_then (λ vs. option_and_then (λ ws. Some (with_operands f ws ∷ fs)) (selected f.unreachable vs)) (taken f (I32 ∷ []))
step fs f (Leaves ts) = cut fs f ts
step fs f (Branches l) = option_and_then (λ ts. cut fs f ts) (slice_get (labels (f ∷ fs)) l)
step fs f (BranchesIf l) = option_and_then (λ ts. used fs f (ts ++ I32 ∷ []) ts) (slice_get (labels (f ∷ fs)) l)
step fs f (BranchesBy ks l) =
    option_and_then
    (λ vs. if fit f.unreachable vs (labels (f ∷ fs)) (arity (slice_get (labels (f ∷ fs)) l)) (l ∷ ks) then Some (record f { operands = []; unreachable = true } ∷ fs) else None)
    (taken f (I32 ∷ []))
step fs f (Opens o t) = opened fs f o t (asks o t)
step fs f Else = parted fs f
step fs f End = closed fs f
step fs f Untyped = None

-- The frames behind these instructions. Where none is left no instruction may follow.
unfoldable pub read : List Frame → List Shape → Read
read fs [] = Some fs
read [] (i ∷ is) = None
read (f ∷ fs) (i ∷ is) = option_and_then (λ gs. read gs is) (step fs f i)

-- The frame of a body: a block from nothing to the function's results (Core 3.4.1).
abbrev pub whole : List ValType → Frame
whole rs = entered Block (record { params = []; results = rs })
