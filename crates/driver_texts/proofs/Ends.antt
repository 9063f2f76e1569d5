-- What a text has in front of its end, in the words of the definitions.
use Rattle.std.proofs.Common.{◌≡◌, ◌≤◌, ℕ, ◌-◌, ◌+◌, Bool, true, false, cond, List, length, take, eqb, Option, Some, None, MatchOption, sym, ap, subst, ◌∙◌, arith}
use Rattle.std.specs.List.{ends_with}
use Rattle.std.specs.Option.{option_map}
use Rattle.std.specs.Str.{IsCharBoundary}
use Rattle.std.specs.Str.Pattern.{FindsTextSuffix, StripsSuffix}
use Rattle.std.proofs.lemmas.Str.Pattern.{ends_text}
use Rattle.driver_texts.specs.Paths.{stripped_end}
use denote.Ref.{Bor}

by_end : (n s : List ℕ) (b : Bool) → b ≡ ends_with eqb s n → cond b (Some (take (length s - length n) s)) None ≡ stripped_end n s
by_end n s b is = ap (λ (c : Bool). cond c (Some (take (length s - length n) s)) None) is

within : (a b c : ℕ) → a + b ≡ c → b ≤ c
within a b c e = omega (arith, e)

pub strip_end : (r : Option (Bor (List ℕ))) (n s : List ℕ) → MatchOption r (FindsTextSuffix n s None) (λ x. StripsSuffix (FindsTextSuffix n) s x.now)
    → option_map (λ t. t.now) r ≡ stripped_end n s
strip_end None n s h = by_end n s false (ends_text false n s h)
strip_end (Some x) n s h =
    let k : h.0 ≡ length n = h.1.0 in
    let is : x.now ≡ take (length s - length n) s = h.2 ∙ ap (λ (i : ℕ). take (length s - i) s) k in
    ap (λ (t : List ℕ). Some t) is
    ∙ by_end n s true (ends_text true n s (h.0, h.1, within (length x.now) h.0 (length s) h.3, subst (λ (i : ℕ). IsCharBoundary s (length s - i)) (sym k) h.1.2))
