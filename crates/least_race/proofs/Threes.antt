-- Three jobs, and two parties that share them.
use Rattle.std.proofs.Common.{◌≡◌, ℕ, zero, suc, ◌<◌, [], ◌∷◌, refl, subst, arith}
use Rattle.std.specs.List.{Contains}
use Rattle.least_race.specs.declared.party.Offer.{Offer}
use Rattle.least_race.specs.Jobs.{IsItem, WordsBelow}
use Rattle.least_race.specs.Race.{offer, offers_of}
use Rattle.least_race.specs.Schedule.{IsComplete, IsRun}
use Rattle.least_race.specs.Three.{three, shared, before}

pub below_two : WordsBelow 2 three
below_two zero zero o is = let e : offer 0 9 ≡ o = (let h = is.2 in cc) in subst (λ (z : Offer). z.word < 2) e (omega arith)
below_two zero (suc k) o is = let l = is.1 in absurd (omega arith)
below_two (suc zero) zero o is = let e : offer 0 4 ≡ o = (let h = is.2 in cc) in subst (λ (z : Offer). z.word < 2) e (omega arith)
below_two (suc zero) (suc zero) o is = let e : offer 1 7 ≡ o = (let h = is.2 in cc) in subst (λ (z : Offer). z.word < 2) e (omega arith)
below_two (suc zero) (suc (suc k)) o is = let l = is.1 in absurd (omega arith)
below_two (suc (suc zero)) item o is = let l = is.1 in absurd (omega arith)
below_two (suc (suc (suc j))) item o is = let l = is.0 in absurd (omega arith)

-- what the laws ask of a schedule can be met
pub is_run : IsRun three (99 ∷ 99 ∷ []) 2 shared
is_run = record {
  some_width = omega arith;
  small = omega arith;
  few = omega arith;
  words = below_two;
  schedule = (
    (omega arith, omega arith),
    (
      (omega arith, refl),
      (
        (omega arith, omega arith, (omega arith, omega arith, refl)),
        (
          (omega arith, refl),
          (
            (omega arith, omega arith, (omega arith, omega arith, refl)),
            (
              (omega arith, omega arith, (omega arith, omega arith, refl)),
              (
                (omega arith, refl),
                (
                  (omega arith, refl),
                  (
                    (omega arith, omega arith, (λ (e : 0 ≡ 1). absurd (omega arith))),
                    tt,
                  ),
                ),
              ),
            ),
          ),
        ),
      ),
    ),
  );
}

pub is_complete : IsComplete three before shared
is_complete = (omega arith, offered)
  where
    offered : (job item : ℕ) (o : Offer) → IsItem three job item o → Contains (offers_of shared) o
    offered zero zero o is = (0, omega arith, (let h = is.2 in cc))
    offered zero (suc k) o is = let l = is.1 in absurd (omega arith)
    offered (suc zero) zero o is = (1, omega arith, (let h = is.2 in cc))
    offered (suc zero) (suc zero) o is = (2, omega arith, (let h = is.2 in cc))
    offered (suc zero) (suc (suc k)) o is = let l = is.1 in absurd (omega arith)
    offered (suc (suc zero)) item o is = let l = is.1 in absurd (omega arith)
    offered (suc (suc (suc j))) item o is = let l = is.0 in absurd (omega arith)
