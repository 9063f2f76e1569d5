-- Winners that are told, one after another.
use Rattle.std.proofs.Common.{◌≡◌, ℕ, zero, suc, ◌+◌, List, [], ◌∷◌, ◌++◌, ◌<◌, length, get_or, map, drop, slice_get, Option, Some, refl, sym, ap, ◌∙◌, arith, append_assoc}
use Rattle.std.specs.List.{All}
use Rattle.std.specs.Prelude.{Contains}
use Rattle.std.proofs.lemmas.List.Elements.{All-head, All-tail}
use Rattle.std.proofs.lemmas.Option.{slice_get-get_or}
use Rattle.link_program.specs.name_rules.Entries.{InputSymbol}
use Rattle.link_program.specs.declared.symbol.Winner.{Winner}
use Rattle.link_program.specs.Told.{told_winner}
use Rattle.link_marks.specs.Names.{IsWinner}

pub winner_there : (names : List (List ℕ)) (ps es : List InputSymbol) (ws : List Winner) (k : ℕ) (w : Winner) → All (Contains ps) es → ws ≡ map (told_winner names) es → slice_get ws k ≡ Some w → IsWinner names ps w
winner_there names ps [] [] k w all told at = absurd cc
winner_there names ps [] (x ∷ ws) k w all told at = absurd cc
winner_there names ps (e ∷ es) [] k w all told at = absurd cc
winner_there names ps (e ∷ es) (x ∷ ws) zero w all told at = let one : x ≡ told_winner names e = cc in let same : x ≡ w = cc in (e, All-head (Contains ps) e es all, sym same ∙ one)
winner_there names ps (e ∷ es) (x ∷ ws) (suc k) w all told at = let rest : ws ≡ map (told_winner names) es = cc in winner_there names ps es ws k w (All-tail (Contains ps) e es all) rest at

-- the winner at a place, what is made of it, and what is left behind it
pub winner_step : {B : Type 0} (f : InputSymbol → B) (names : List (List ℕ)) (ps es : List InputSymbol) (ws : List Winner) (k : ℕ) (w : Winner) (x : B) → All (Contains ps) es → ws ≡ map (told_winner names) es → slice_get ws k ≡ Some w
    → ((e : InputSymbol) → Contains ps e → w ≡ told_winner names e → x ≡ f e) → map f (drop k es) ≡ x ∷ map f (drop (suc k) es)
winner_step f names ps [] [] k w x all told at each = absurd cc
winner_step f names ps [] (y ∷ ws) k w x all told at each = absurd cc
winner_step f names ps (e ∷ es) [] k w x all told at each = absurd cc
winner_step f names ps (e ∷ es) (y ∷ ws) zero w x all told at each =
    let one : y ≡ told_winner names e = cc in let same : y ≡ w = cc in ap (λ z. z ∷ map f es) (sym (each e (All-head (Contains ps) e es all) (sym same ∙ one)))
winner_step f names ps (e ∷ es) (y ∷ ws) (suc k) w x all told at each =
    let rest : ws ≡ map (told_winner names) es = cc in winner_step f names ps es ws k w x (All-tail (Contains ps) e es all) rest at each

pub behind : {B : Type 0} (made : List B) (x : B) (left rest whole : List B) → left ≡ x ∷ rest → made ++ left ≡ whole → (made ++ x ∷ []) ++ rest ≡ whole
behind made x left rest whole is before = append_assoc made (x ∷ []) rest ∙ ap (λ r. made ++ r) (sym is) ∙ before

pub winner_got : (names : List (List ℕ)) (ps es : List InputSymbol) (ws : List Winner) (k : ℕ) (d : Winner) → All (Contains ps) es → ws ≡ map (told_winner names) es → k < length ws → IsWinner names ps (get_or ws k d)
winner_got names ps es ws k d all told below = winner_there names ps es ws k (get_or ws k d) all told (slice_get-get_or ws k d below)

pub winner_kept : {B : Type 0} (f : InputSymbol → B) (names : List (List ℕ)) (ps es : List InputSymbol) (ws : List Winner) (k : ℕ) (d : Winner) (x : B) (made whole : List B) → All (Contains ps) es → ws ≡ map (told_winner names) es → k < length ws
    → ((e : InputSymbol) → Contains ps e → get_or ws k d ≡ told_winner names e → x ≡ f e) → made ++ map f (drop k es) ≡ whole → (made ++ x ∷ []) ++ map f (drop (k + 1) es) ≡ whole
winner_kept f names ps es ws k d x made whole all told below each before =
    let one : k + 1 ≡ suc k = omega arith in
    ap (λ n. (made ++ x ∷ []) ++ map f (drop n es)) one
    ∙ behind made x (map f (drop k es)) (map f (drop (suc k) es)) whole (winner_step f names ps es ws k (get_or ws k d) x all told (slice_get-get_or ws k d below) each) before
