-- Offers, and the candidates that they tell.
use Rattle.std.proofs.Common.{◌≡◌, ℕ, ◌+◌, ◌-◌, ◌<◌, ◌^◌, Bool, List, length, Option, Some, None, Ok, sym, subst, ◌∙◌, arith, inl, inr, get_or}
use Rattle.std.specs.Prelude.{◌⊎◌, slice_get, IfSome, MatchBool}
use Rattle.std.specs.Map.{lookup}
use Rattle.std.specs.Str.{bytes_eq}
use Rattle.std.proofs.lemmas.Option.{slice_get-get_or, slice_get_within}
use Rattle.object_file.specs.declared.object.Object.{Object}
use Rattle.round_rules.specs.declared.given.LibraryFile.{LibraryFile}
use Rattle.lib_rounds.specs.declared.offer.Offer.{Offer}
use Rattle.round_rules.specs.Rounds.{Candidate}
use Rattle.lib_rounds.specs.State.{Knows, IsOffer, IsMember}
use Rattle.lib_rounds.proofs.Names.{there}

module _ (all : List Candidate) (libraries : List LibraryFile) (files : List (List ℕ)) (lazies : List (List ℕ × ℕ))
    (knows : Knows all libraries files lazies) where
  -- a member's input is a small number
  pub first_small : (k : ℕ) (d : LibraryFile) → k < length libraries → (m : ℕ) → m < length (get_or libraries k d).library.members →
      (get_or libraries k d).first + m < 2 ^ 20
  first_small k d lt m within =
      let l = get_or libraries k d in
      let s = there l.library.members m within in
      let c = knows.member k m l s.0 (slice_get-get_or libraries k d lt) s.1 in
      let inside = slice_get_within all (l.first + m - 1) c.0 c.1 in
      let n = knows.numbered (l.first + m - 1) c.0 c.1 in
      let i = c.2.input in
      omega (arith, inside, n, i, knows.few)

  abbrev IsFound : Offer → Type 0
  IsFound o = (c : Candidate) × (slice_get all (o.input - 1) ≡ Some c) × IsOffer libraries files o c

  abbrev IsAtMember : Offer → Type 0
  IsAtMember o = (l : LibraryFile) × (slice_get libraries o.library ≡ Some l) × (o.member < length l.library.members) × (o.input ≡ l.first + o.member)

  member_found : (o : Offer) → IsAtMember o → IsFound o
  member_found o h =
      let l = h.0 in
      let s = there l.library.members o.member h.2 in
      let c = knows.member o.library o.member l s.0 h.1 s.1 in (
        c.0,
        subst (λ (i : ℕ). slice_get all (i - 1) ≡ Some c.0) (sym h.3) c.1,
        subst (λ (i : ℕ). IsOffer libraries files (record {
          input =
              i;
          library = o.library;
          member = o.member;
        }) c.0) (sym h.3) c.2,
      )

  lazy_found : (name : List ℕ) (o : Offer) → lookup (bytes_eq name) lazies ≡ Some o.input → IsFound o
  lazy_found name o e =
      let c = knows.lazy name o.input e in (
        c.0,
        c.1,
        record {
          input = c.2;
          from = subst (λ (b : Bool). MatchBool b (IsMember libraries files o c.0.object) ((object : Object) ×
              (c.0.object ≡ Ok object))) (sym c.3) c.4;
        },
      )

  pub from_either : (name : List ℕ) (r m : Option Offer) (lazy : Option ℕ) → IfSome r (λ o. (m ≡ Some o) ⊎ (lazy ≡ Some o.input))
      → IfSome m IsAtMember → lazy ≡ lookup (bytes_eq name) lazies → IfSome r IsFound
  from_either name None m lazy one at_member is = tt
  from_either name (Some o) m lazy (inl e) at_member is = member_found o (subst (λ (x : Option Offer). IfSome x IsAtMember) e at_member)
  from_either name (Some o) m lazy (inr e) at_member is = lazy_found name o (sym is ∙ e)
