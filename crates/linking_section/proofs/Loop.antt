-- Reading subsections one after the other, as a loop does.
use Rattle.std.proofs.Common.{◌≡◌, ℕ, zero, suc, ◌≤◌, ◌<◌, List, [], ◌∷◌, length, Result, Ok, Err, refl, sym, ◌∙◌, arith}
use Rattle.wasm_grammar.specs.declared.fault.Stop.{Stop}
use Rattle.wasm_grammar.specs.declared.fault.ReadFault.{ReadFault}
use Rattle.wasm_grammar.specs.declared.fault.ReadFault.TheVariants.{Stopped, OutOfMemory}
use Rattle.wasm_grammar.specs.Fault.{Fails}
use Rattle.wasm_grammar.specs.Reading.{◌>>=◌}
use Rattle.linking_section.specs.declared.linking.Found.{Found}
use Rattle.linking_section.specs.Reading.{subsection_at, subsections_at}
use Rattle.linking_section.specs.LinkingLaws.{shorter}

-- a step that is the same after each subsection that can be read
same_steps : (r : Result (Found × List ℕ) Stop) (f g : Found × List ℕ → Result Found Stop) → ((x : Found × List ℕ) → r ≡ Ok x → f x ≡ g x) → (r >>= f) ≡ (r >>= g)
same_steps (Ok x) f g h = h x refl
same_steps (Err d) f g h = refl

-- any number that is enough gives the same
enough : (n m : ℕ) (found : Found) (end : ℕ) (bytes : List ℕ) → length bytes ≤ n → length bytes ≤ m → subsections_at n found end bytes ≡ subsections_at m found end bytes
unfolding subsections_at
enough n m found end [] p q = refl
enough zero m found end (b ∷ bytes) p q = absurd (omega arith)
enough (suc n) zero found end (b ∷ bytes) p q = absurd (omega arith)
enough (suc n) (suc m) found end (b ∷ bytes) p q =
    same_steps (subsection_at found end (b ∷ bytes)) (λ next. subsections_at n next.0 end next.1) (λ next. subsections_at m next.0 end next.1)
    (λ x e.
    let less = shorter found end (b ∷ bytes) x.0 x.1 e in
    enough n m x.0 end x.1 (omega arith) (omega arith))

pub goes_on : (found : Found) (end : ℕ) (bytes : List ℕ) (next : Found) (rest : List ℕ) (total : Result Found Stop) → 0 < length bytes → subsection_at found end bytes ≡ Ok (next, rest)
    → subsections_at (length bytes) found end bytes ≡ total → subsections_at (length rest) next end rest ≡ total
unfolding subsections_at
goes_on found end [] next rest total some read so_far = absurd (omega arith)
goes_on found end (b ∷ bytes) next rest total some read so_far =
    let less = shorter found end (b ∷ bytes) next rest read in
    let one : subsections_at (length (b ∷ bytes)) found end (b ∷ bytes) ≡ subsections_at (length bytes) next end rest = rw read refl in
    enough (length rest) (length bytes) next end rest (omega arith) (omega arith) ∙ sym one ∙ so_far

-- a fault at once is the fault of the whole
pub ends : (e : ReadFault) (found : Found) (end : ℕ) (bytes : List ℕ) (total : Result Found Stop) → 0 < length bytes → Fails e (subsection_at found end bytes)
    → subsections_at (length bytes) found end bytes ≡ total → Fails e total
unfolding subsections_at
ends e found end [] total some h so_far = absurd (omega arith)
ends OutOfMemory found end (b ∷ bytes) total some h so_far = tt
ends (Stopped s) found end (b ∷ bytes) total some h so_far =
    let one : subsections_at (length (b ∷ bytes)) found end (b ∷ bytes) ≡ Err s = rw h refl in
    sym so_far ∙ one

pub is_done : (found : Found) (end : ℕ) (bytes : List ℕ) (total : Result Found Stop) → length bytes ≡ 0 → subsections_at (length bytes) found end bytes ≡ total → total ≡ Ok found
unfolding subsections_at
is_done found end [] total none so_far = sym so_far
is_done found end (b ∷ bytes) total none so_far = absurd (omega arith)
