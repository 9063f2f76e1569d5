-- The same bytes under two numbers; candidates by their numbers; and what holds of objects that are loaded.
use Rattle.std.proofs.Common.{◌≡◌, ℕ, ◌+◌, ◌-◌, ◌<◌, ◌==◌, Bool, true, ◌&&◌, List, [], ◌∷◌, take, drop, inl, inr, refl, sym, ap, subst, ◌∙◌, arith}
use Rattle.std.specs.Prelude.{Option, Some, find, if◌then◌else◌, slice_get, slice_index_or}
use Rattle.std.specs.List.{AllZip}
use Rattle.std.proofs.lemmas.Bool.{and_parts, eqb-true, eq-eqb, ne_eqb}
use Rattle.list_places.specs.Has.{Has}
use Rattle.list_places.proofs.Lists.{at_has, has_any, some_is}
use Rattle.name_rules.specs.object_file.linking_section.declared.group.Member.{Member}
use Rattle.name_rules.specs.object_file.linking_section.declared.group.Group.{Group}
use Rattle.name_rules.specs.object_file.declared.object.Object.{Object}
use Rattle.object_file.specs.Sound.{Sound}
use Rattle.round_rules.specs.Rounds.{Candidate}
use Rattle.name_rules.specs.Entries.{has_member}
use Rattle.image_emit.specs.Bytes.{file_part}
use Rattle.link_rules.specs.Program.{span_in}
use Rattle.partial_loading_laws.specs.Numbered.{AreNumbered}
use Rattle.partial_loading_laws.proofs.Numbers.{numbered_in}
use Rattle.partial_parts_laws.specs.Linked.{Linked, SameFile}

-- ---- candidates

pub numbered_found : (n : ℕ) (cs : List Candidate) → AreNumbered n cs → (c : Candidate) → Has cs c → find (λ (d : Candidate). d.input == c.input) cs ≡ Some c
numbered_found n [] a c has = absurd has
numbered_found n (d ∷ cs) a c (inl is) =
    ap (λ (b : Bool). if b then Some d else find (λ (x : Candidate). x.input == c.input) cs) (eq-eqb d.input c.input (ap (λ (x : Candidate). x.input) is)) ∙ ap Some is
numbered_found n (d ∷ cs) a c (inr has) =
    let high : n + 1 < c.input = (numbered_in (n + 1) cs a.1 c has).0 in
    let here : d.input ≡ n + 1 = a.0 in
    ap (λ (b : Bool). if b then Some d else find (λ (x : Candidate). x.input == c.input) cs) (ne_eqb d.input c.input (λ e. omega (arith, high, here, e))) ∙ numbered_found (n + 1) cs a.1 c has

pub found_by : (cs : List Candidate) → AreNumbered 0 cs → (c : Candidate) → Has cs c → (input : ℕ) → c.input ≡ input → find (λ (d : Candidate). d.input == input) cs ≡ Some c
found_by cs a c has input is = subst (λ (n : ℕ). find (λ (d : Candidate). d.input == n) cs ≡ Some c) is (numbered_found 0 cs a c has)

pub zip_other : {A B : Type 0} (R : A → B → Type 0) (xs : List A) (ys : List B) → AllZip R xs ys → (x : A) → Has xs x → (y : B) × Has ys y × R x y
zip_other R [] ys z x has = absurd has
zip_other R (a ∷ xs) [] z x has = absurd z
zip_other R (a ∷ xs) (b ∷ ys) z x (inl is) = (b, inl refl, subst (λ v. R v b) is z.0)
zip_other R (a ∷ xs) (b ∷ ys) z x (inr has) = let r = zip_other R xs ys z.1 x has in (r.0, inr r.1, r.2)

-- ---- bytes

pub same_file : (l k : Linked) (i j : ℕ) (x y : Candidate) → find (λ (c : Candidate). c.input == i) l.all ≡ Some x → find (λ (c : Candidate). c.input == j) k.all ≡ Some y → y.start ≡ x.start
    → slice_index_or k.files y.file [] ≡ slice_index_or l.files x.file [] → SameFile l i k j
same_file l k i j x y at at_too starts file = record {
  len = λ s. ap (λ (o : Option Candidate). (span_in o s).span.len) at_too ∙ sym (ap (λ (o : Option Candidate). (span_in o s).span.len) at);
  bytes = λ s.
      ap (λ (o : Option Candidate). file_part k.files (span_in o s)) at_too
      ∙ (ap (λ (bs : List ℕ). take s.len (drop (y.start + s.start) bs)) file
      ∙ (ap (λ (n : ℕ). take s.len (drop (n + s.start) (slice_index_or l.files x.file []))) starts
      ∙ sym (ap (λ (o : Option Candidate). file_part l.files (span_in o s)) at)));
}

-- ---- groups

member_equal : (a b : Member) → (a.kind == b.kind) ≡ true → (a.index == b.index) ≡ true → a ≡ b
member_equal a b kind index = λ i. record { kind = eqb-true a.kind b.kind kind i; index = eqb-true a.index b.index index i }

-- no part is a member of two groups
pub one_group : (size : ℕ) (o : Object) → Sound size o → (g h : Group) → Has o.groups g → Has o.groups h → (kind index : ℕ) → has_member kind index g ≡ true → has_member kind index h ≡ true → g.name ≡ h.name
one_group size o sound g h hg hh kind index mg mh =
    let x = has_any (λ (m : Member). (m.kind == kind) && (m.index == index)) g.members mg in
    let y = has_any (λ (m : Member). (m.kind == kind) && (m.index == index)) h.members mh in
    let tx = and_parts (x.0.kind == kind) (x.0.index == index) x.2 in
    let ty = and_parts (y.0.kind == kind) (y.0.index == index) y.2 in
    let same : y.0 ≡ x.0 = member_equal y.0 x.0 (eq-eqb y.0.kind x.0.kind (eqb-true y.0.kind kind ty.0 ∙ sym (eqb-true x.0.kind kind tx.0))) (eq-eqb y.0.index x.0.index (eqb-true y.0.index index ty.1 ∙ sym (eqb-true x.0.index index tx.1))) in
    let a = at_has o.groups g hg in
    let b = at_has o.groups h hh in
    let i = at_has g.members x.0 x.1 in
    let j = at_has h.members y.0 y.1 in
    let places = sound.members_differ a.0 b.0 i.0 j.0 g h x.0 a.1 b.1 i.1 (j.1 ∙ ap (λ (m : Member). Some m) same) in
    let one : Some g ≡ Some h = sym a.1 ∙ (ap (slice_get o.groups) places.0 ∙ b.1) in
    ap (λ (k : Group). k.name) (some_is g h one)
