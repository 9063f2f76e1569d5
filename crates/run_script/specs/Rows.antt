-- Worked scripts.
use Rattle.std.specs.Prelude.{◌≡◌, List, ℕ, [], ◌∷◌, ◌++◌, codes, Ok, Err, true, refl}
use Rattle.run_rules.specs.declared.value.Value.TheVariants.{I32, I64}
use Rattle.run_rules.specs.declared.session.Answer.TheVariants.{Results, Trap, Grow}
use Rattle.run_script.specs.Scripts.{no_script, script_of}

abbrev line : List ℕ → List ℕ
line text = text ++ 10 ∷ []

abbrev f : List ℕ
f = codes "f"

a_call : script_of (codes "call f") ≡ Ok (record no_script { session = record no_script.session { calls = record { name = f; args = [] } ∷ [] } })
unfolding script_of
a_call = refl

with_argument : script_of (line (codes "call f i32:1 i64:18446744073709551615")) ≡ Ok (record no_script { session = record no_script.session { calls = record { name = f; args = I32 1 ∷ I64 18446744073709551615 ∷ [] } ∷ [] } })
unfolding script_of
with_argument = refl

misspelt : script_of (codes "cal f") ≡ Err 1
unfolding script_of
misspelt = refl

second_line : script_of (line (codes "# nothing") ++ line [] ++ codes "call f i32:4294967296") ≡ Err 3
unfolding script_of
second_line = refl

two_spaces : script_of (codes "call  f") ≡ Err 1
unfolding script_of
two_spaces = refl

a_name_of_none : script_of (codes "call \\e") ≡ Ok (record no_script { session = record no_script.session { calls = record { name = []; args = [] } ∷ [] } })
unfolding script_of
a_name_of_none = refl

a_byte : script_of (codes "call \\xFFa") ≡ Ok (record no_script { session = record no_script.session { calls = record { name = 255 ∷ 97 ∷ []; args = [] } ∷ [] } })
unfolding script_of
a_byte = refl

another_spelling : script_of (codes "call \\x41") ≡ Err 1
unfolding script_of
another_spelling = refl

answers : script_of (line (codes "answer 16=0AFF i32:7") ++ line (codes "trap") ++ line (codes "grow yes"))
    ≡ Ok (record no_script { session = record no_script.session { answers = Results (record { address = 16; bytes = 10 ∷ 255 ∷ [] } ∷ []) (I32 7 ∷ []) ∷ Trap ∷ Grow true ∷ [] } })
unfolding script_of
answers = refl

odd_digits : script_of (codes "answer 16=0") ≡ Err 1
unfolding script_of
odd_digits = refl

lower_digits : script_of (codes "answer 16=0a") ≡ Err 1
unfolding script_of
lower_digits = refl

value_before_write : script_of (codes "answer i32:7 16=0A") ≡ Err 1
unfolding script_of
value_before_write = refl

pages_twice : script_of (line (codes "memory 1") ++ line (codes "memory 1")) ≡ Err 2
unfolding script_of
pages_twice = refl

too_many_pages : script_of (codes "memory 65537") ≡ Err 1
unfolding script_of
too_many_pages = refl

one_pair_twice : script_of (line (codes "global m f i32:1") ++ line (codes "global m f i64:1")) ≡ Err 2
unfolding script_of
one_pair_twice = refl
