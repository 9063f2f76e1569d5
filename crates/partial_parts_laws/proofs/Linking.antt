-- The programs of the whole link and of the later one are alike.
use Rattle.std.proofs.Common.{◌≡◌, ℕ, zero, suc, ◌+◌, ◌<◌, ◌≤◌, Bool, true, false, not, ◌||◌, ◌&&◌, List, [], ◌∷◌, ◌++◌, map, refl, sym, ap, ◌∙◌, subst, arith}
use Rattle.std.specs.Prelude.{Option, Some, None, option_map, position, slice_get, All}
use Rattle.std.specs.List.{list_any}
use Rattle.std.proofs.lemmas.Option.{slice_get-map}
use Rattle.std.proofs.lemmas.List.Elements.{All-head, All-tail}
use Rattle.list_places.specs.Has.{Has, Apart}
use Rattle.list_places.proofs.Lists.{has_filter, has_any, has_at, at_has, some_is}
use Rattle.name_rules.specs.object_file.wl_base.Choice.{given}
use Rattle.name_rules.specs.object_file.wl_base.declared.fault.Fault.TheVariants.{Uncalled}
use Rattle.name_rules.specs.object_file.declared.object.Object.{Object}
use Rattle.made_symbols.specs.declared.mode.Mode.TheVariants.{Plain}
use Rattle.name_rules.specs.Entries.{InputSymbol, name_of, entries}
use Rattle.name_rules.specs.Meanings.{winner}
use Rattle.name_rules.specs.Cases.{clash, duplicate}
use Rattle.link_plan.specs.declared.plan.Plan.{Plan}
use Rattle.link_plan.specs.declared.plan.InputWord.{InputWord}
use Rattle.link_rules.specs.Program.{Program, Part, Ref, is_that, is_winner, winners_of, same_chunk}
use Rattle.link_rules.specs.Marks.{demanded, table_of, names_ctors, loses_inits, loses_exits, uncalled}
use Rattle.link_rules.specs.Keys.{calls_stub, stub_names}
use Rattle.link_rules.specs.Values.{rules_of}
use Rattle.partial_rules.specs.Alike.{At, In, OnePlace}
use Rattle.partial_laws.specs.Inputs.{Run, Objects, as_input, later, whole_objects, later_objects, AreCut}
use Rattle.partial_laws.specs.Loaded.{Rise}
use Rattle.partial_laws.specs.Standing.{joining}
use Rattle.partial_laws.specs.Joining.{IsJoining}
use Rattle.partial_laws.specs.Joined.{linked_symbols}
use Rattle.partial_laws.specs.Programs.{AgreeOnNames}
use Rattle.partial_laws.specs.PartialThenLink.{with_inputs}
use Rattle.partial_laws.proofs.Instance.{all_from_has}
use Rattle.partial_laws.proofs.Members.{chunk_equal}
use Rattle.partial_laws.proofs.Won.{winning}
use Rattle.partial_laws.proofs.Loading.{rise_behind, rise_front}
use Rattle.partial_laws.proofs.Regions.{entry_linked}
use Rattle.partial_laws.proofs.Programs.{programs_are_of, programs_agree}
use Rattle.partial_laws.proofs.Stated.{is as is_joining}
use Rattle.partial_parts_laws.specs.Linked.{Links, alone_program, whole_program, later_program}
use Rattle.partial_parts_laws.specs.Moves.{StandsInLinks}
use Rattle.partial_parts_laws.specs.Alike.{HeldSymbol}
use Rattle.partial_parts_laws.specs.AlikeLinks.{WordsStay, ExportNamesStay, StubsStay, ProgramsAlike}
use Rattle.partial_parts_laws.proofs.Parts.{plan_is}
use Rattle.partial_parts_laws.proofs.Once.{same_part, parts_apart, place_is}
use Rattle.partial_parts_laws.proofs.Referred.{held_symbol}
use Rattle.partial_parts_laws.proofs.Alikes.{parts_are_alike}

no_true : false ≡ true → ⊥
no_true e = absurd cc

-- ---- places

at_get : {A : Type 0} (xs : List A) (i : ℕ) (x : A) → At xs i x → slice_get xs i ≡ Some x
at_get [] i x at = absurd at
at_get (y ∷ ys) zero x at = ap Some at
at_get (y ∷ ys) (suc i) x at = at_get ys i x at

get_at : {A : Type 0} (xs : List A) (i : ℕ) (x : A) → slice_get xs i ≡ Some x → At xs i x
get_at [] i x is = absurd cc
get_at (y ∷ ys) zero x is = some_is y x is
get_at (y ∷ ys) (suc i) x is = get_at ys i x is

has_in : {A : Type 0} (xs : List A) (x : A) → Has xs x → In x xs
has_in xs x has = let r = at_has xs x has in (r.0, get_at xs r.0 x r.1)

pub in_has : {A : Type 0} (xs : List A) (x : A) → In x xs → Has xs x
in_has xs x at = has_at xs at.0 x (at_get xs at.0 x at.1)

one_place_of : (xs : List Part) → Apart same_part xs → OnePlace (map (λ (y : Part). y.chunk) xs)
one_place_of xs apart i c at = by_part (slice_get xs i) refl (sym (slice_get-map (λ (y : Part). y.chunk) xs i) ∙ at_get (map (λ (y : Part). y.chunk) xs) i c at)
  where
    by_part : (o : Option Part) → slice_get xs i ≡ o → option_map (λ (y : Part). y.chunk) o ≡ Some c → position (same_chunk c) (map (λ (y : Part). y.chunk) xs) ≡ Some i
    by_part None is e = absurd cc
    by_part (Some x) is e = subst (λ d. position (same_chunk d) (map (λ (y : Part). y.chunk) xs) ≡ Some i) (some_is x.chunk c e) (place_is xs apart i x is)

-- ---- inputs of the later link rise

rebase : (m l : ℕ) (xs : List Object) → m ≤ l → Rise l xs → Rise m xs
rebase m l [] le r = tt
rebase m l (x ∷ xs) le r = (omega (arith, le, r.0), r.1)

rise_join : (last n : ℕ) (xs ys : List Object) → Rise last xs → All (λ (o : Object). o.input ≤ n) xs → last ≤ n → Rise n ys → Rise last (xs ++ ys)
rise_join last n [] ys r all le s = rebase last n ys le s
rise_join last n (x ∷ xs) ys r all le s = (r.0, rise_join x.input n xs ys r.1 (All-tail (λ (o : Object). o.input ≤ n) x xs all) (All-head (λ (o : Object). o.input ≤ n) x xs all) s)

module _ (run : Run) (os : Objects) (cut : AreCut run os) (rise : Rise 0 (whole_objects os)) where
  abbrev moved_object : Object → Object
  moved_object o = as_input (later run o.input) o

  rise_moved : (m last : ℕ) (xs : List Object) → Rise last xs → All (λ (o : Object). run.first + run.many < o.input) xs → m ≤ run.first + 1 → Rise m (map moved_object xs)
  rise_moved m last [] r all le = tt
  rise_moved m last (x ∷ xs) r all le =
      let lt = All-head (λ (o : Object). run.first + run.many < o.input) x xs all in
      (omega (arith, lt, le, cut.some), above x.input xs r.1 (All-tail (λ (o : Object). run.first + run.many < o.input) x xs all) lt)
    where
      above : (n : ℕ) (ys : List Object) → Rise n ys → All (λ (o : Object). run.first + run.many < o.input) ys → run.first + run.many < n → Rise (later run n) (map moved_object ys)
      above n [] q every low = tt
      above n (y ∷ ys) q every low =
          let lt = All-head (λ (o : Object). run.first + run.many < o.input) y ys every in
          (omega (arith, q.0, low, lt), above y.input ys q.1 (All-tail (λ (o : Object). run.first + run.many < o.input) y ys every) lt)

  pub later_rise : Rise 0 (later_objects run os)
  later_rise =
      let a = rise_behind 0 os.before (os.middle ++ os.behind) rise in
      let b = rise_behind a.0 os.middle os.behind a.1 in
      rise_join 0 run.first os.before (os.joined ∷ map moved_object os.behind) (rise_front 0 os.before (os.middle ++ os.behind) rise) cut.before (omega arith)
      (omega (arith, cut.place), rise_moved os.joined.input b.0 os.behind b.1 cut.behind (omega (arith, cut.place)))

module _ (run : Run) (os : Objects) (ls : Links) (s : StandsInLinks run os ls) (w : WordsStay ls) where
  abbrev p : Program
  p = alone_program run os ls

  abbrev P : Program
  P = whole_program run os ls

  abbrev Q : Program
  Q = later_program run os ls

  abbrev W : List Object
  W = whole_objects os

  abbrev L : List Object
  L = later_objects run os

  abbrev es : List InputSymbol
  es = entries Plain W

  abbrev Known : InputSymbol → Type 0
  Known e = Has (linked_symbols W) e

  abbrev J : IsJoining (joining run os p) Known es
  J = is_joining run os p s.names

  abbrev agree : AgreeOnNames run os p P Q
  agree = programs_agree run os p s.names ls.whole.plan ls.after.plan ls.whole.files ls.after.files ls.whole.all ls.after.all s.strict s.strict_after s.allow

  pub agree_clash : clash Q.entries ≡ None
  agree_clash = agree.no_clash

  pub agree_once : duplicate P.entries ≡ None → duplicate Q.entries ≡ None
  agree_once none = agree.once none

  pub names_agree : (refs refs_too : List Ref) → ((name : List ℕ) → list_any (calls_stub name) refs_too ≡ list_any (calls_stub name) refs)
      → ((name : List ℕ) → list_any (calls_stub name) refs ≡ true → winner P.entries name ≡ None) → stub_names Q refs_too ≡ stub_names P refs
  names_agree refs refs_too same open_ = agree.stubs refs refs_too same open_

  pub plan_same : {A : Type 0} (f : Plan → A) → ((plan : Plan) (inputs : List InputWord) → f (with_inputs plan inputs) ≡ f plan) → f Q.plan ≡ f P.plan
  plan_same f same = ap f (plan_is ls.after L) ∙ (ap f w.plan ∙ (same ls.whole.plan w.inputs ∙ sym (ap f (plan_is ls.whole W))))

  -- ---- winners

  pub winner_held : (d : InputSymbol) → Has P.winners d → HeldSymbol run os ls d
  unfolding winners_of
  winner_held d has =
      let f = has_filter (is_winner es) es d (subst (λ xs. Has xs d) ((programs_are_of ls.whole.plan ls.whole.files ls.whole.all W).winners_are ∙ ap winners_of (programs_are_of ls.whole.plan ls.whole.files ls.whole.all W).entries_are) has) in
      by_winner (winner es (name_of d)) refl f.0 f.1
    where
      by_winner : (o : Option InputSymbol) → winner es (name_of d) ≡ o → Has es d → is_that d o ≡ true → HeldSymbol run os ls d
      by_winner None is there that = absurd (no_true that)
      by_winner (Some v) is there that =
          let win = winning es (name_of d) v is in
          let it : d ≡ v = J.one d v (entry_linked W d there) (entry_linked W v win.entry) that in
          subst (HeldSymbol run os ls) (sym it) (held_symbol run os ls s v (entry_linked W v win.entry) (J.winner_kept (name_of d) v is) (J.winner_defines (name_of d) v is) win.defines)

  -- ---- no constructors are lost

  none_lost : (xs ys : List Part) → uncalled Plain Q ys ≡ None
  unfolding uncalled
  none_lost xs ys =
      ap (λ (b : Bool). given (b && not (names_ctors Q) && (list_any (loses_inits ys) Q.resolved || loses_exits Q ys)) Uncalled)
      (plan_same (λ plan. plan.like_lld) (λ plan inputs. refl) ∙ (ap (λ (plan : Plan). plan.like_lld) (plan_is ls.whole W) ∙ w.no_driver))

  pub alike : ExportNamesStay run os ls → StubsStay run os ls → ProgramsAlike run os ls
  alike names stubs = record {
    words = record {
      asked = plan_same (λ plan. demanded plan) (λ plan inputs. refl);
      asked_if = plan_same (λ plan. plan.exports_if) (λ plan inputs. refl);
      dynamic = plan_same (λ plan. plan.export_dynamic) (λ plan inputs. refl);
      memory = plan_same (λ plan. plan.import_memory) (λ plan inputs. refl);
    };
    rules = plan_same (λ plan. rules_of Plain plan) (λ plan inputs. refl);
    most = plan_same (λ plan. plan.max_memory) (λ plan inputs. refl);
    winners = record { are = agree.winners; held = all_from_has (HeldSymbol run os ls) P.winners winner_held; names = names };
    parts = parts_are_alike run os ls s;
    one_place = one_place_of P.parts (parts_apart ls.whole W s.names.loaded.rise s.strict);
    one_place_too = one_place_of Q.parts (parts_apart ls.after L (later_rise run os s.names.cut s.names.loaded.rise) s.strict_after);
    there = λ c held. let a = has_any (same_chunk c) (table_of P) held in has_in (table_of P) c (subst (Has (table_of P)) (sym (chunk_equal c a.0 a.2)) a.1);
    gc = plan_same (λ plan. plan.gc) (λ plan inputs. refl);
    imports = agree.imports;
    kept_calls = λ xs ys sides none. none_lost xs ys;
    stubs = stubs.names;
    stub_types = stubs.types;
  }
