-- The fault of an item, by what its meaning is.
use Rattle.std.proofs.Common.{◌≡◌, ℕ, List, Option, ap, ◌∙◌}
use Rattle.driver_table.specs.declared.meaning.Meaning.{Meaning}
use Rattle.driver_table.specs.Items.{Said}
use Rattle.driver_fields.specs.Values.{fault_of, value_fault}

pub fault_is : (said : Said) (m : Meaning) (value spelling : List ℕ) (fault : Option (List ℕ)) → m ≡ said.meaning → value ≡ said.value → spelling ≡ said.spelling
    → fault ≡ fault_of m value spelling → fault ≡ value_fault said
fault_is said m value spelling fault meant valued spelled is =
    is ∙ ap (λ (k : Meaning). fault_of k value spelling) meant ∙ ap (λ (v : List ℕ). fault_of said.meaning v spelling) valued
    ∙ ap (λ (s : List ℕ). fault_of said.meaning said.value s) spelled
