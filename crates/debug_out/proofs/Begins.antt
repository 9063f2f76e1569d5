-- Where sections begin: one debug section more.
use Rattle.std.proofs.Common.{◌≡◌, ℕ, ◌==◌, ◌<◌, ◌+◌, length, slice_index_or, slice_set, subst, List, [], ◌∷◌, ◌++◌, Bool, true, false, cond, refl, sym, ap, ◌∙◌, append_assoc, Option, Some, None}
use Rattle.std.specs.Prelude.{◌&&◌, if◌then◌else◌}
use Rattle.wl_base.specs.Choice.{given}
use Rattle.debug_rules.specs.Faults.{Debug}
use Rattle.debug_rules.specs.Joined.{stands_at, begins, begins_behind, length_of, place_at}
use Rattle.debug_out.specs.declared.refs.DebugRef.{DebugRef}
use Rattle.debug_out.specs.declared.groups.Groups.{Groups}
use Rattle.debug_out.specs.Refs.{debug_seen}
use Rattle.debug_out.specs.Grouped.{HasMembers, HasLengths, HasRows, IsGrouped, or_else}
use Rattle.debug_out.proofs.Members.{members_more, lengths_more}
use Rattle.wl_base.specs.Names.{number_of}

nil_behind : {A : Type 0} (xs : List A) → xs ++ [] ≡ xs
nil_behind [] = refl
nil_behind (x ∷ xs) = ap (λ ys. x ∷ ys) (nil_behind xs)

grouped_so : {A : Type 0} (xs : List A) (y : A) (zs : List A) → (xs ++ y ∷ []) ++ zs ≡ xs ++ y ∷ zs
grouped_so xs y zs = simp append_assoc

one_only : (b : Bool) (n : ℕ) → (if b then Some n else None) ≡ or_else None (given b n)
one_only true n = refl
one_only false n = refl

begins_more : (seen ds : List Debug) (d : Debug) (object at : ℕ)
    → begins_behind seen object at (ds ++ d ∷ []) ≡ or_else (begins_behind seen object at ds) (given (stands_at object at d) (length_of d.section.name (seen ++ ds)))
begins_more seen [] d object at =
    ap (λ s. if stands_at object at d then Some (length_of d.section.name s) else None) (sym (nil_behind seen))
    ∙ one_only (stands_at object at d) (length_of d.section.name (seen ++ []))
begins_more seen (e ∷ es) d object at = by (begins_more (seen ++ e ∷ []) es d object at) (stands_at object at e)
  where
    by : begins_behind (seen ++ e ∷ []) object at (es ++ d ∷ []) ≡ or_else (begins_behind (seen ++ e ∷ []) object at es) (given (stands_at object at d) (length_of d.section.name ((seen ++ e ∷ []) ++ es)))
        → (b : Bool) → cond b (Some (length_of e.section.name seen)) (begins_behind (seen ++ e ∷ []) object at (es ++ d ∷ []))
        ≡ or_else (cond b (Some (length_of e.section.name seen)) (begins_behind (seen ++ e ∷ []) object at es)) (given (stands_at object at d) (length_of d.section.name (seen ++ e ∷ es)))
    by later true = refl
    by later false = later ∙ ap (λ s. or_else (begins_behind (seen ++ e ∷ []) object at es) (given (stands_at object at d) (length_of d.section.name s))) (grouped_so seen e es)

pub rows_more : (old new : List (List (Option ℕ))) (ds : List Debug) (d : Debug) (begin : ℕ)
    → begin ≡ length_of d.section.name ds
    → ((o k : ℕ) → place_at new o k ≡ or_else (place_at old o k) (given ((d.object == o) && (d.section.at == k)) begin))
    → HasRows old ds → HasRows new (ds ++ d ∷ [])
rows_more old new ds d begin is put has object at =
    put object at
    ∙ (ap (λ o. or_else o (given (stands_at object at d) begin)) (has object at)
    ∙ (ap (λ n. or_else (begins ds object at) (given (stands_at object at d) n)) is
    ∙ sym (begins_more [] ds d object at)))

-- one debug section more, in all three
pub put_grouped : (names : List (List ℕ)) (old new : Groups) (ds : List Debug) (r : DebugRef) (m more begin : ℕ)
    → number_of names r.name.now ≡ Some m
    → m < length old.members.items → new.members.items ≡ slice_set old.members.items m (slice_index_or old.members.items m [] ++ r ∷ [])
    → m < length old.lengths.items → new.lengths.items ≡ slice_set old.lengths.items m (slice_index_or old.lengths.items m 0 + more)
    → more ≡ length r.content.now → begin ≡ slice_index_or old.lengths.items m 0
    → ((o k : ℕ) → place_at new.rows.items o k ≡ or_else (place_at old.rows.items o k) (given ((r.object == o) && (r.at == k)) begin))
    → IsGrouped names old ds → IsGrouped names new (ds ++ debug_seen r ∷ [])
put_grouped names old new ds r m more begin at in_members members in_lengths lengths is was rows has = (
  subst (λ xs. HasMembers names xs (ds ++ debug_seen r ∷ [])) (sym members) (members_more names old.members.items ds r m at in_members has.0),
  subst (λ xs. HasLengths names xs (ds ++ debug_seen r ∷ [])) (sym (lengths ∙ ap (λ k. slice_set old.lengths.items m (slice_index_or old.lengths.items m 0 + k)) is))
      (lengths_more names old.lengths.items ds (debug_seen r) m at in_lengths has.1),
  rows_more old.rows.items new.rows.items ds (debug_seen r) begin (was ∙ has.1 m r.name.now at) rows has.2,
)
