-- What is judged while it is read is what is judged behind reading.
use Rattle.std.proofs.Common.{ℕ, zero, suc, ◌≡◌, ◌∙◌, ◌+◌, ◌-◌, ◌<◌, ◌≤◌, ◌⊎◌, inl, inr, arith, rules, Bool, true, false, nat_le, List, [], ◌∷◌, length, slice_get, Option, Some, None, Result, Ok, Err, refl, ap, sym}
use Rattle.std.specs.Prelude.{◌&&◌, if◌then◌else◌}
use Rattle.std.specs.List.{list_all}
use Rattle.wl_base.specs.Choice.{given}
use Rattle.wasm_grammar.specs.declared.fault.Stop.{Stop}
use Rattle.wasm_grammar.specs.Reading.{◌>>=◌, u32_at, many_at, vector_at, ended, whole}
use Rattle.reloc_section.specs.declared.entry.Reloc.{Reloc}
use Rattle.reloc_section.specs.declared.section.RelocSection.{RelocSection}
use Rattle.reloc_section.specs.Relocs.{reloc_at, reloc_section_at, relocs_at}
use Rattle.linking_section.specs.declared.symbol.Symbol.{Symbol}
use Rattle.debug_rules.specs.Faults.{entry_stands, entries_stand, if_stand, lie_apart}
use Rattle.debug_out.specs.Judged.{none_left, judged_at, judged, judged_count, judged_target, judged_payload}
use Rattle.debug_out.specs.Refs.{entry_onto, entries_from, counted, behind_target, entries_of}

-- what is judged of entries that were read, with what is left behind them
abbrev seen_all : (Reloc → Bool) → ℕ → ℕ → Result (List Reloc × List ℕ) Stop → Bool
seen_all keep len from (Ok x) = (list_all keep x.0 && lie_apart len from x.0) && none_left x.1
seen_all keep len from (Err stop) = false

abbrev seen_entries : Result (List Reloc × List ℕ) Stop → List Reloc → Type 0
seen_entries (Ok x) rs = x.0 ≡ rs
seen_entries (Err stop) rs = Unit {0}

-- the section that is read, with what is left behind its entries
abbrev with_target : ℕ → List Reloc × List ℕ → Result (RelocSection × List ℕ) Stop
with_target target entries = Ok (record { target = target; entries = entries.0 }, entries.1)

abbrev all_read : ℕ → RelocSection × List ℕ → Result RelocSection Stop
all_read end s = ended end s.0 s.1

moved : (k a b c d e : Bool) → (k && (a && (b && ((c && d) && e)))) ≡ (((k && c) && (a && (b && d))) && e)
moved true true true c d e = refl
moved true true false true d e = refl
moved true true false false d e = refl
moved true false b true d e = refl
moved true false b false d e = refl
moved false a b c d e = refl

judged_is : (keep : Reloc → Bool) (len n end from : ℕ) (bytes : List ℕ) → judged keep len n end from bytes ≡ seen_all keep len from (many_at reloc_at n end bytes)
unfolding many_at
judged_is keep len zero end from bytes = refl
judged_is keep len (suc n) end from bytes = first (reloc_at end bytes) (λ next rest. judged_is keep len n end next rest)
  where
    more : (r : Reloc) (from : ℕ) (x : Result (List Reloc × List ℕ) Stop) → (keep r && (nat_le from r.offset && (nat_le (r.offset + 4) len && seen_all keep len (r.offset + 4) x)))
        ≡ seen_all keep len from (x >>= λ others. Ok (r ∷ others.0, others.1))
    more r from (Ok x) = moved (keep r) (nat_le from r.offset) (nat_le (r.offset + 4) len) (list_all keep x.0) (lie_apart len (r.offset + 4) x.0) (none_left x.1)
    more r from (Err stop) = none (keep r) (nat_le from r.offset) (nat_le (r.offset + 4) len)
      where
        none : (a b c : Bool) → (a && (b && (c && false))) ≡ false
        none true true true = refl
        none true true false = refl
        none true false c = refl
        none false b c = refl

    first : (x : Result (Reloc × List ℕ) Stop) → ((next : ℕ) (rest : List ℕ) → judged keep len n end next rest ≡ seen_all keep len next (many_at reloc_at n end rest))
        → judged_at keep len from x (λ next rest. judged keep len n end next rest)
        ≡ seen_all keep len from (x >>= λ one. many_at reloc_at n end one.1 >>= λ others. Ok (one.0 ∷ others.0, others.1))
    first (Ok x) others = ap (λ b. keep x.0 && (nat_le from x.0.offset && (nat_le (x.0.offset + 4) len && b))) (others (x.0.offset + 4) x.1)
        ∙ more x.0 from (many_at reloc_at n end x.1)
    first (Err stop) others = refl

entries_are : (n end : ℕ) (bytes : List ℕ) → seen_entries (many_at reloc_at n end bytes) (entries_from n end bytes)
unfolding many_at
entries_are zero end bytes = refl
entries_are (suc n) end bytes = first (reloc_at end bytes) (λ rest. entries_are n end rest)
  where
    more : (r : Reloc) (rs : List Reloc) (x : Result (List Reloc × List ℕ) Stop) → seen_entries x rs → seen_entries (x >>= λ others. Ok (r ∷ others.0, others.1)) (r ∷ rs)
    more r rs (Ok x) e = ap (λ xs. r ∷ xs) e
    more r rs (Err stop) e = tt

    first : (x : Result (Reloc × List ℕ) Stop) → ((rest : List ℕ) → seen_entries (many_at reloc_at n end rest) (entries_from n end rest))
        → seen_entries (x >>= λ one. many_at reloc_at n end one.1 >>= λ others. Ok (one.0 ∷ others.0, others.1)) (entry_onto x (λ rest. entries_from n end rest))
    first (Ok x) others = more x.0 (entries_from n end x.1) (many_at reloc_at n end x.1) (others x.1)
    first (Err stop) others = tt

module _ (places : List ℕ) (symbols : List Symbol) (len : ℕ) where
  -- what is left behind the entries decides whether the payload is spelled
  ended_is : (target end : ℕ) (rs : List Reloc) (rest : List ℕ)
      → given ((list_all (λ r. entry_stands places r (slice_get symbols r.index)) rs && lie_apart len 0 rs) && none_left rest) rs
      ≡ if_stand places symbols len (ended end (record { target = target; entries = rs }) rest)
  ended_is target end rs [] = by (list_all (λ r. entry_stands places r (slice_get symbols r.index)) rs && lie_apart len 0 rs)
    where
      by : (b : Bool) → given (b && true) rs ≡ (if b then Some rs else None)
      by true = refl
      by false = refl
  ended_is target end rs (byte ∷ rest) = by (list_all (λ r. entry_stands places r (slice_get symbols r.index)) rs && lie_apart len 0 rs)
    where
      by : (b : Bool) → given (b && false) rs ≡ None
      by true = refl
      by false = refl

  of_entries : (target end : ℕ) (x : Result (List Reloc × List ℕ) Stop) (rs : List Reloc) → seen_entries x rs
      → given (seen_all (λ r. entry_stands places r (slice_get symbols r.index)) len 0 x) rs
      ≡ if_stand places symbols len ((x >>= with_target target) >>= all_read end)
  of_entries target end (Ok x) rs e =
      ap (λ ys. given ((list_all (λ r. entry_stands places r (slice_get symbols r.index)) x.0 && lie_apart len 0 x.0) && none_left x.1) ys) (sym e) ∙ ended_is target end x.0 x.1
  of_entries target end (Err stop) rs e = refl

  of_count : (target end : ℕ) (x : Result (ℕ × List ℕ) Stop)
      → given (judged_count (λ r. entry_stands places r (slice_get symbols r.index)) len end x) (counted end x)
      ≡ if_stand places symbols len (((x >>= λ count. many_at reloc_at count.0 end count.1) >>= with_target target) >>= all_read end)
  of_count target end (Ok x) =
      ap (λ b. given b (entries_from x.0 end x.1)) (judged_is (λ r. entry_stands places r (slice_get symbols r.index)) len x.0 end 0 x.1)
      ∙ of_entries target end (many_at reloc_at x.0 end x.1) (entries_from x.0 end x.1) (entries_are x.0 end x.1)
  of_count target end (Err stop) = refl

  of_target : (end : ℕ) (x : Result (ℕ × List ℕ) Stop)
      → given (judged_target (λ r. entry_stands places r (slice_get symbols r.index)) len end x) (behind_target end x)
      ≡ if_stand places symbols len ((x >>= λ target. vector_at reloc_at end target.1 >>= with_target target.0) >>= all_read end)
  unfolding vector_at
  of_target end (Ok x) = of_count x.0 end (u32_at end x.1)
  of_target end (Err stop) = refl

  pub payload_is : (payload : List ℕ) → given (judged_payload (λ r. entry_stands places r (slice_get symbols r.index)) len payload) (entries_of payload) ≡ if_stand places symbols len (relocs_at (length payload) payload)
  unfolding whole reloc_section_at
  payload_is payload = of_target (length payload) (u32_at (length payload) payload)

pub payload_judged : (places : List ℕ) (symbols : List Symbol) (len : ℕ) (payload : List ℕ) (b : Bool) → b ≡ judged_payload (λ r. entry_stands places r (slice_get symbols r.index)) len payload
    → given b (entries_of payload) ≡ if_stand places symbols len (relocs_at (length payload) payload)
payload_judged places symbols len payload b is = ap (λ c. given c (entries_of payload)) is ∙ payload_is places symbols len payload

pub payload_by : (keep : Reloc → Bool) (len : ℕ) (payload rest entries : List ℕ) (target count : ℕ) (b : Bool)
    → u32_at (length payload) payload ≡ Ok (target, rest) → u32_at (length payload) rest ≡ Ok (count, entries)
    → b ≡ judged keep len count (length payload) 0 entries → b ≡ judged_payload keep len payload
payload_by keep len payload rest entries target count b first second is =
    is ∙ sym (ap (judged_target keep len (length payload)) first ∙ ap (judged_count keep len (length payload)) second)

-- ---- one entry more

one_less : (count k : ℕ) → k < count → count - k ≡ suc (count - (k + 1))
one_less count k lt = omega (arith, lt)

judged_here : (keep : Reloc → Bool) (len count k end from : ℕ) (bytes : List ℕ) (x : Result (Reloc × List ℕ) Stop) → k < count → reloc_at end bytes ≡ x
    → judged keep len (count - k) end from bytes ≡ judged_at keep len from x (λ next rest. judged keep len (count - (k + 1)) end next rest)
judged_here keep len count k end from bytes x lt read =
    ap (λ n. judged keep len n end from bytes) (one_less count k lt) ∙ ap (λ y. judged_at keep len from y (λ next rest. judged keep len (count - (k + 1)) end next rest)) read

all_true : (a b c d : Bool) → (a && (b && c)) ≡ true → (a && (b && (c && d))) ≡ d
all_true true true true d x = refl
all_true true true false d x = absurd cc
all_true true false c d x = absurd cc
all_true false b c d x = absurd cc

some_false : (a b c d : Bool) → (a && (b && c)) ≡ false → (a && (b && (c && d))) ≡ false
some_false true true true d x = absurd cc
some_false true true false d x = refl
some_false true false c d x = refl
some_false false b c d x = refl

-- an entry that stands
pub judged_on : (keep : Reloc → Bool) (len count k end from : ℕ) (bytes : List ℕ) (r : Reloc) (rest : List ℕ) (whole : Bool) (next : ℕ) → k < count → reloc_at end bytes ≡ Ok (r, rest)
    → (keep r && (nat_le from r.offset && nat_le (r.offset + 4) len)) ≡ true → next ≡ r.offset + 4
    → judged keep len (count - k) end from bytes ≡ whole → judged keep len (count - (k + 1)) end next rest ≡ whole
judged_on keep len count k end from bytes r rest whole next lt read is at so_far =
    ap (λ n. judged keep len (count - (k + 1)) end n rest) at
    ∙ (sym (all_true (keep r) (nat_le from r.offset) (nat_le (r.offset + 4) len) (judged keep len (count - (k + 1)) end (r.offset + 4) rest) is)
    ∙ (sym (judged_here keep len count k end from bytes (Ok (r, rest)) lt read) ∙ so_far))

-- one that doesn't, and one that can't be read
pub judged_off : (keep : Reloc → Bool) (len count k end from : ℕ) (bytes : List ℕ) (r : Reloc) (rest : List ℕ) (whole : Bool) → k < count → reloc_at end bytes ≡ Ok (r, rest)
    → (keep r && (nat_le from r.offset && nat_le (r.offset + 4) len)) ≡ false
    → judged keep len (count - k) end from bytes ≡ whole → false ≡ whole
judged_off keep len count k end from bytes r rest whole lt read why so_far =
    sym (some_false (keep r) (nat_le from r.offset) (nat_le (r.offset + 4) len) (judged keep len (count - (k + 1)) end (r.offset + 4) rest) why)
    ∙ (sym (judged_here keep len count k end from bytes (Ok (r, rest)) lt read) ∙ so_far)

pub judged_stop : (keep : Reloc → Bool) (len count k end from : ℕ) (bytes : List ℕ) (stop : Stop) (whole : Bool) → k < count → reloc_at end bytes ≡ Err stop
    → judged keep len (count - k) end from bytes ≡ whole → false ≡ whole
judged_stop keep len count k end from bytes stop whole lt read so_far = sym (judged_here keep len count k end from bytes (Err stop) lt read) ∙ so_far

pub judged_done : (keep : Reloc → Bool) (len count k end from : ℕ) (bytes : List ℕ) (whole : Bool) → count ≤ k
    → judged keep len (count - k) end from bytes ≡ whole → none_left bytes ≡ whole
judged_done keep len count k end from bytes whole le so_far =
    let none : count - k ≡ 0 = omega (arith, le) in
    sym (ap (λ n. judged keep len n end from bytes) none) ∙ so_far
