-- Segments of objects that fit the memory, one after another.
use Rattle.std.proofs.Common.{◌≡◌, ℕ, ◌+◌, ◌≤◌, ◌*◌, true, List, ◌∷◌, ◌++◌, length, take, drop, None, ap, ◌∙◌, arith, length-drop, length-take-le, length-append}
use Rattle.std.specs.List.{list_all}
use Rattle.std.proofs.lemmas.Bool.Decides.{nat_tests}
use Rattle.run_rules.specs.Memory.{written}
use Rattle.run_modules.proofs.Seen.{none_fails}
use Rattle.run_machines.specs.declared.sym.SymSegment.{SymSegment}
use Rattle.run_machines.specs.Sym.{segment_fits, sym_outside}

pub all_fit : (pages : ℕ) (segments : List SymSegment) → sym_outside pages segments ≡ None → list_all (segment_fits (65536 * pages)) segments ≡ true
all_fit pages segments h = none_fails (segment_fits (65536 * pages)) 0 segments h

-- what is written keeps the length
written_long : (at : ℕ) (bytes memory : List ℕ) → at + length bytes ≤ length memory → length (written at bytes memory) ≡ length memory
unfolding written
written_long at bytes memory fits =
    let front = length-take-le at memory (omega arith) in
    let back = length-drop (at + length bytes) memory in
    length-append (take at memory ++ bytes) (drop (at + length bytes) memory)
    ∙ ap (λ n. n + length (drop (at + length bytes) memory)) (length-append (take at memory) bytes)
    ∙ omega (arith, front, back)

pub first_fits : (d : SymSegment) (ds : List SymSegment) (room : ℕ) → list_all (segment_fits room) (d ∷ ds) ≡ true → d.address + length d.bytes ≤ room
first_fits d ds room h = grind (arith, nat_tests)

pub others_fit : (d : SymSegment) (ds : List SymSegment) (memory : List ℕ) → list_all (segment_fits (length memory)) (d ∷ ds) ≡ true → list_all (segment_fits (length (written d.address d.bytes memory))) ds ≡ true
others_fit d ds memory h =
    let long = written_long d.address d.bytes memory (first_fits d ds (length memory) h) in
    let rest : list_all (segment_fits (length memory)) ds ≡ true = grind (arith, nat_tests) in
    ap (λ n. list_all (segment_fits n) ds) long ∙ rest

pub ruleset writing = (first_fits, others_fit)
