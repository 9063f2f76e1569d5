-- The addresses of the linker's data, by their numbers.
use Rattle.std.proofs.Common.{◌≡◌, ℕ, zero, suc, ◌≤◌, ◌<◌, length, refl, arith}
use Rattle.std.specs.Prelude.{slice_index_or}
use Rattle.link_program.specs.made_symbols.Made.{made, made_at}
use Rattle.link_program.specs.made_symbols.declared.mode.Mode.TheVariants.{Plain}
use Rattle.link_program.specs.memory_layout.declared.rules.Places.{Places}
use Rattle.link_program.specs.link_rules.Values.{made_address, made_data}

-- a number of one of them
pub named : (at : Places) (n : ℕ) → n < length (made Plain) → slice_index_or (made_data at) n 0 ≡ made_address at (made_at Plain n).role
named at zero below = refl
named at (suc zero) below = refl
named at (suc (suc zero)) below = refl
named at (suc (suc (suc zero))) below = refl
named at (suc (suc (suc (suc zero)))) below = refl
named at (suc (suc (suc (suc (suc zero))))) below = refl
named at (suc (suc (suc (suc (suc (suc zero)))))) below = refl
named at (suc (suc (suc (suc (suc (suc (suc zero))))))) below = refl
named at (suc (suc (suc (suc (suc (suc (suc (suc zero)))))))) below = refl
named at (suc (suc (suc (suc (suc (suc (suc (suc (suc zero))))))))) below = refl
named at (suc (suc (suc (suc (suc (suc (suc (suc (suc (suc zero)))))))))) below = refl
named at (suc (suc (suc (suc (suc (suc (suc (suc (suc (suc (suc zero))))))))))) below = refl
named at (suc (suc (suc (suc (suc (suc (suc (suc (suc (suc (suc (suc n)))))))))))) below = absurd (omega (arith, below))

-- all other numbers are those of no data
pub none : (at : Places) (n : ℕ) → length (made Plain) ≤ n → slice_index_or (made_data at) n 0 ≡ 0
none at zero past = absurd (omega (arith, past))
none at (suc zero) past = absurd (omega (arith, past))
none at (suc (suc zero)) past = absurd (omega (arith, past))
none at (suc (suc (suc zero))) past = absurd (omega (arith, past))
none at (suc (suc (suc (suc zero)))) past = absurd (omega (arith, past))
none at (suc (suc (suc (suc (suc zero))))) past = absurd (omega (arith, past))
none at (suc (suc (suc (suc (suc (suc zero)))))) past = absurd (omega (arith, past))
none at (suc (suc (suc (suc (suc (suc (suc zero))))))) past = absurd (omega (arith, past))
none at (suc (suc (suc (suc (suc (suc (suc (suc zero)))))))) past = absurd (omega (arith, past))
none at (suc (suc (suc (suc (suc (suc (suc (suc (suc zero))))))))) past = absurd (omega (arith, past))
none at (suc (suc (suc (suc (suc (suc (suc (suc (suc (suc zero)))))))))) past = absurd (omega (arith, past))
none at (suc (suc (suc (suc (suc (suc (suc (suc (suc (suc (suc zero))))))))))) past = absurd (omega (arith, past))
none at (suc (suc (suc (suc (suc (suc (suc (suc (suc (suc (suc (suc n)))))))))))) past = refl
