-- Windows that lie apart lie in their section.
use Rattle.std.proofs.Common.{ℕ, zero, suc, ◌≡◌, ◌∙◌, ◌+◌, ◌-◌, ◌<◌, ◌≤◌, true, nat_le, List, [], ◌∷◌, length, map, Result, Ok, Err, refl, ap, sym, subst, arith}
use Rattle.std.specs.Prelude.{◌&&◌}
use Rattle.std.specs.List.{AllByRecursion}
use Rattle.std.proofs.lemmas.Bool.{and_parts, leb-true}
use Rattle.wasm_grammar.specs.declared.fault.Stop.{Stop}
use Rattle.reloc_section.specs.declared.entry.Reloc.{Reloc}
use Rattle.reloc_section.specs.Relocs.{reloc_at}
use Rattle.reloc_apply.specs.declared.window.Patch.{Patch}
use Rattle.reloc_apply.specs.Windows.{filled, patched}
use Rattle.debug_rules.specs.Faults.{lie_apart}
use Rattle.debug_out.specs.Refs.{entry_onto, entries_from}
use Rattle.debug_out.specs.Windows.{InBounds}

pub in_bounds : (len from : ℕ) (rs : List Reloc) → lie_apart len from rs ≡ true → InBounds len rs
in_bounds len from [] h = tt
in_bounds len from (r ∷ rs) h =
    let parts = and_parts (nat_le from r.offset) (nat_le (r.offset + 4) len && lie_apart len (r.offset + 4) rs) h in
    let more = and_parts (nat_le (r.offset + 4) len) (lie_apart len (r.offset + 4) rs) parts.1 in
    (leb-true (r.offset + 4) len more.0, in_bounds len (r.offset + 4) rs more.1)

one_less : (count k : ℕ) → k < count → count - k ≡ suc (count - (k + 1))
one_less count k lt = omega (arith, lt)

-- an entry and those behind it, or none
pub entry_here : (count k end : ℕ) (bytes : List ℕ) (r : Reloc) (rest : List ℕ) → k < count → reloc_at end bytes ≡ Ok (r, rest)
    → entries_from (count - k) end bytes ≡ r ∷ entries_from (count - (k + 1)) end rest
entry_here count k end bytes r rest lt read =
    ap (λ n. entries_from n end bytes) (one_less count k lt) ∙ ap (λ x. entry_onto x (λ rest. entries_from (count - (k + 1)) end rest)) read

pub no_entry : (count k end : ℕ) (bytes : List ℕ) (stop : Stop) → k < count → reloc_at end bytes ≡ Err stop → entries_from (count - k) end bytes ≡ []
no_entry count k end bytes stop lt read =
    ap (λ n. entries_from n end bytes) (one_less count k lt) ∙ ap (λ x. entry_onto x (λ rest. entries_from (count - (k + 1)) end rest)) read

pub none_behind : (count k end : ℕ) (bytes : List ℕ) → count ≤ k → entries_from (count - k) end bytes ≡ []
none_behind count k end bytes le = let none : count - k ≡ 0 = omega (arith, le) in ap (λ n. entries_from n end bytes) none

-- ---- one entry more is written

module _ (f : Reloc → Patch) (count k end : ℕ) (bytes : List ℕ) (r : Reloc) (rest : List ℕ) (lt : k < count) (read : reloc_at end bytes ≡ Ok (r, rest)) where
  pub entry_room : (len : ℕ) → InBounds len (entries_from (count - k) end bytes) → r.offset + 4 ≤ len
  entry_room len within =
      let here : InBounds len (r ∷ entries_from (count - (k + 1)) end rest) = subst (InBounds len) (entry_here count k end bytes r rest lt read) within in
      here.0

  pub entry_filled : (out new whole : List ℕ) → new ≡ patched (f r) out → length new ≡ length out
      → InBounds (length out) (entries_from (count - k) end bytes) × (filled (map f (entries_from (count - k) end bytes)) out ≡ whole)
      → InBounds (length new) (entries_from (count - (k + 1)) end rest) × (filled (map f (entries_from (count - (k + 1)) end rest)) new ≡ whole)
  entry_filled out new whole is same so_far =
      let here : InBounds (length out) (r ∷ entries_from (count - (k + 1)) end rest) = subst (InBounds (length out)) (entry_here count k end bytes r rest lt read) so_far.0 in (
        subst (λ n. InBounds n (entries_from (count - (k + 1)) end rest)) (sym same) here.1,
        ap (filled (map f (entries_from (count - (k + 1)) end rest))) is
            ∙ (ap (λ (rs : List Reloc). filled (map f rs) out) (sym (entry_here count k end bytes r rest lt read)) ∙ so_far.1),
      )

pub stopped_filled : (f : Reloc → Patch) (count k end : ℕ) (bytes : List ℕ) (stop : Stop) (out whole : List ℕ) → k < count → reloc_at end bytes ≡ Err stop
    → filled (map f (entries_from (count - k) end bytes)) out ≡ whole → out ≡ whole
stopped_filled f count k end bytes stop out whole lt read so_far = sym (ap (λ (rs : List Reloc). filled (map f rs) out) (no_entry count k end bytes stop lt read)) ∙ so_far

pub all_filled : (f : Reloc → Patch) (count k end : ℕ) (bytes out whole : List ℕ) → count ≤ k
    → filled (map f (entries_from (count - k) end bytes)) out ≡ whole → out ≡ whole
all_filled f count k end bytes out whole le so_far = sym (ap (λ (rs : List Reloc). filled (map f rs) out) (none_behind count k end bytes le)) ∙ so_far

-- the entries of a payload, by its front
pub bounds_by : (len content : ℕ) (rs entries : List Reloc) → entries ≡ rs → lie_apart content 0 rs ≡ true → len ≡ content → InBounds len entries
bounds_by len content rs entries is apart long =
    subst (InBounds len) (sym is) (in_bounds len 0 rs (subst (λ n. lie_apart n 0 rs ≡ true) (sym long) apart))
