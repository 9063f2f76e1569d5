-- What a text has behind a front, in the words of the definitions.
use Rattle.std.proofs.Common.{◌≡◌, ℕ, Bool, true, false, cond, List, length, drop, eqb, Option, Some, None, MatchOption, refl, sym, ap, subst, ◌∙◌}
use Rattle.std.specs.List.{starts_with}
use Rattle.std.specs.Option.{option_map}
use Rattle.std.specs.Str.{IsCharBoundary}
use Rattle.std.specs.Str.Pattern.{FindsTextPrefix, StripsPrefix}
use Rattle.std.proofs.lemmas.Str.Pattern.{starts_text}
use Rattle.driver_table.specs.Texts.{begins, stripped}
use denote.Ref.{Bor}

by_front : (n s : List ℕ) (b : Bool) → b ≡ starts_with eqb s n → cond b (Some (drop (length n) s)) None ≡ stripped n s
by_front n s b is = ap (λ (c : Bool). cond c (Some (drop (length n) s)) None) is

pub strip_text : (r : Option (Bor (List ℕ))) (n s : List ℕ) → MatchOption r (FindsTextPrefix n s None) (λ x. StripsPrefix (FindsTextPrefix n) s x.now)
    → option_map (λ t. t.now) r ≡ stripped n s
strip_text None n s h = by_front n s false (starts_text false n s h)
strip_text (Some x) n s h =
    let k : h.0 ≡ length n = h.1.0 in
    let is : x.now ≡ drop (length n) s = h.2 ∙ ap (λ (i : ℕ). drop i s) k in
    ap (λ (t : List ℕ). Some t) is ∙ by_front n s true (starts_text true n s (h.0, h.1, subst (λ (i : ℕ). IsCharBoundary s i) (sym k) h.1.2))
