-- The items that are found are those that the words are cut into.
use Rattle.std.proofs.Common.{◌≡◌, ◌⊎◌, inl, inr, ℕ, ◌+◌, Bool, true, false, cond, ◌||◌, List, [], ◌∷◌, ◌++◌, length, codes, Option, Some, None, Ok, Err, option_to_list, ◌↔◌, not, refl, sym, ap, subst, ◌∙◌, arith}
use Rattle.std.specs.Str.{bytes_eq}
use Rattle.wl_base.specs.Choice.{unless}
use Rattle.wl_base.specs.declared.usage.Usage.{Usage}
use Rattle.wl_base.specs.declared.usage.Usage.TheVariants.{MissingValue}
use Rattle.link_plan.specs.declared.plan.Plan.{Plan}
use Rattle.link_words.specs.declared.kind.Kind.{Kind}
use Rattle.link_words.specs.declared.kind.Kind.TheVariants as kinds
use Rattle.link_words.specs.declared.options.Form.{Form}
use Rattle.link_words.specs.declared.options.Takes.{Takes}
use Rattle.link_words.specs.declared.options.Takes.TheVariants as takes
use Rattle.link_words.specs.declared.cut.Next.{Next}
use Rattle.link_words.specs.declared.cut.Next.TheVariants.{Free, Value, Input}
use Rattle.link_words.specs.Kinds.{same}
use Rattle.link_words.specs.Items.{Said}
use Rattle.link_words.specs.Options.{options, row_of}
use Rattle.link_words.specs.Cut.{item, Step, Cutting, step, onto, behind, cut_from, cut_of, and_free, optional, split_of}
use Rattle.link_words.specs.Spelled.{HasForm, SpellsValue, Spells, Cuts, Stops, AreCut, place_of}
use Rattle.link_words.specs.Causes.{HasCause}
use Rattle.link_words.specs.Faults.{first_fault, group_fault}
use Rattle.link_words.specs.Words.{plan_of, plan_from}
use Rattle.link_words.proofs.Table.{not_only}
use Rattle.link_words.proofs.Whole.{rest_none, head_none}
use Rattle.link_words.proofs.Steps.{TakesNext, Waits, state, Means, ok_is, step_found, alone_again, long_again, valued_again}
use Rattle.link_words.proofs.Causes.{begun_fault, value_fault, missing_fault, stops_by_cause}

head_is : {A : Type 0} {x y : A} {xs ys : List A} → x ∷ xs ≡ y ∷ ys → x ≡ y
head_is e = cc

tail_is : {A : Type 0} {x y : A} {xs ys : List A} → x ∷ xs ≡ y ∷ ys → xs ≡ ys
tail_is e = cc

not_empty : {A : Type 0} {x : A} {xs : List A} → x ∷ xs ≡ [] → ⊥
not_empty e = cc

some_is : {x y : Usage} → Some x ≡ Some y → x ≡ y
some_is e = cc

-- the first of the items, and the words behind it
record Peeled (only : Bool) (at : ℕ) (said : Said) (words : List (List ℕ)) (c : Cutting) : Type 0 where
  own : List (List ℕ)
  rest : List (List ℕ)
  words_are : words ≡ own ++ rest
  placed : said.at ≡ at
  spells : Spells only said own
  cut : cut_from (state (only || same said.kind kinds.OnlyInputs)) (at + length own) rest ≡ c

same_cut : (d c : Cutting) → d.0 ≡ c.0 → d.1 ≡ c.1 → d ≡ c
same_cut d c items stop = (λ j. (items j, stop j))

-- what is left behind the first item
behind_first : (said other : Said) (d c : Cutting) → onto (other ∷ []) d ≡ onto (said ∷ []) c → (other ≡ said) × (d ≡ c)
behind_first said other d c e = (head_is (ap (λ (k : Cutting). k.0) e), same_cut d c (tail_is (ap (λ (k : Cutting). k.0) e)) (ap (λ (k : Cutting). k.1) e))

takes_spelled : (t : Takes) (form : Form) (word text value : List ℕ) → TakesNext t form → HasForm form text value → SpellsValue t word value (word ∷ text ∷ [])
takes_spelled takes.Nothing form word text value next h = absurd next
takes_spelled (takes.Next own) form word text value next h = (text, subst (λ f. HasForm f text value) (sym next) h, refl)
takes_spelled (takes.Long own) form word text value next h = (text, subst (λ f. HasForm f text value) (sym next) h, inl refl)

-- an option, and its value in the next word
peel_value : (at : ℕ) (word : List ℕ) (n : Next) (words : List (List ℕ)) (said : Said) (c : Cutting) (w : Waits at word n) → cut_from (Value w.kind w.form at) (at + 1) words ≡ onto (said ∷ []) c
    → Peeled false at said (word ∷ words) c
peel_value at word n [] said c w e = absurd (not_empty (sym (ap (λ (k : Cutting). k.0) e)))
peel_value at word n (text ∷ words) said c w e = by (step (Value w.kind w.form at) (at + 1) text) refl e
  where
    by_item : (o : Option Said) (m : Next) → Means (Value w.kind w.form at) (at + 1) text o m → onto (option_to_list o) (cut_from m (at + 1 + 1) words) ≡ onto (said ∷ []) c → Peeled false at said (word ∷ text ∷ words) c
    by_item None m means e = absurd means
    by_item (Some other) m means e =
        let both = behind_first said other (cut_from m (at + 1 + 1) words) c e in
        let is : item w.kind at other.value ≡ said = sym means.0 ∙ both.0 in
        let far : at + 1 + 1 ≡ at + 2 = omega arith in
        let only = not_only word (record { kind = w.kind; takes = w.takes }) w.is_option in
        let rest : cut_from Free (at + 2) words ≡ c = subst (λ k. cut_from Free k words ≡ c) far (subst (λ (m : Next). cut_from m (at + 1 + 1) words ≡ c) means.2 both.1) in
        subst (λ (s : Said). Peeled false at s (word ∷ text ∷ words) c) is (record {
          own = word ∷ text ∷ [];
          rest = words;
          words_are = refl;
          placed = refl;
          spells = inr (inr (record { name = word; takes = w.takes; is_option = w.is_option; spelled = takes_spelled w.takes w.form word text other.value w.takes_next means.1 }));
          cut = subst (λ b. cut_from (state b) (at + 2) words ≡ c) (sym only) rest;
        })

    by : (s : Step) → step (Value w.kind w.form at) (at + 1) text ≡ s → behind s (λ m. cut_from m (at + 1 + 1) words) ≡ onto (said ∷ []) c → Peeled false at said (word ∷ text ∷ words) c
    by (Err fault) _ e = absurd (not_empty (sym (ap (λ (k : Cutting). k.0) e)))
    by (Ok s) is e = by_item s.0 s.1 (step_found (Value w.kind w.form at) (at + 1) text s is) e

peel : (only : Bool) (at : ℕ) (words : List (List ℕ)) (said : Said) (c : Cutting) → cut_from (state only) at words ≡ onto (said ∷ []) c → Peeled only at said words c
peel true at [] said c e = absurd (not_empty (sym (ap (λ (k : Cutting). k.0) e)))
peel false at [] said c e = absurd (not_empty (sym (ap (λ (k : Cutting). k.0) e)))
peel true at (word ∷ words) said c e =
    let both = behind_first said (item kinds.Input at word) (cut_from Input (at + 1) words) c e in
    subst (λ (s : Said). Peeled true at s (word ∷ words) c) both.0 (record { own = word ∷ []; rest = words; words_are = refl; placed = refl; spells = (refl, refl); cut = both.1 })
peel false at (word ∷ words) said c e = by (step Free at word) refl e
  where
    by_item : (o : Option Said) (n : Next) → Means Free at word o n → onto (option_to_list o) (cut_from n (at + 1) words) ≡ onto (said ∷ []) c → Peeled false at said (word ∷ words) c
    by_item None n w e = peel_value at word n words said c w (subst (λ (m : Next). cut_from m (at + 1) words ≡ onto (said ∷ []) c) w.next_is e)
    by_item (Some other) n means e =
        let both = behind_first said other (cut_from n (at + 1) words) c e in
        subst (λ (s : Said). Peeled false at s (word ∷ words) c) both.0 (record {
          own = word ∷ [];
          rest = words;
          words_are = refl;
          placed = means.0;
          spells = means.1;
          cut = subst (λ (m : Next). cut_from m (at + 1) words ≡ c) means.2 both.1;
        })

    by : (s : Step) → step Free at word ≡ s → behind s (λ n. cut_from n (at + 1) words) ≡ onto (said ∷ []) c → Peeled false at said (word ∷ words) c
    by (Err fault) _ e = absurd (not_empty (sym (ap (λ (k : Cutting). k.0) e)))
    by (Ok s) is e = by_item s.0 s.1 (step_found Free at word s is) e

-- no item: there is no word, or a fault
data NothingCut (only : Bool) (at : ℕ) (words : List (List ℕ)) (stop : Option Usage) : Type 0 where
  ended : words ≡ [] → stop ≡ None → NothingCut only at words stop
  stopped : (fault : Usage) → only ≡ false → stop ≡ Some fault → (place_of fault ≡ Some at) × HasCause fault words → NothingCut only at words stop

nothing_waits : (at : ℕ) (word : List ℕ) (n : Next) (words : List (List ℕ)) (stop : Option Usage) (w : Waits at word n) → cut_from (Value w.kind w.form at) (at + 1) words ≡ ([], stop) → NothingCut false at (word ∷ words) stop
nothing_waits at word n [] stop w e = stopped (MissingValue at) refl (sym (ap (λ (k : Cutting). k.1) e)) (refl, missing_fault at word n w)
nothing_waits at word n (text ∷ words) stop w e = by (step (Value w.kind w.form at) (at + 1) text) refl e
  where
    by_item : (o : Option Said) (m : Next) → Means (Value w.kind w.form at) (at + 1) text o m → onto (option_to_list o) (cut_from m (at + 1 + 1) words) ≡ ([], stop) → NothingCut false at (word ∷ text ∷ words) stop
    by_item None m means e = absurd means
    by_item (Some other) m means e = absurd (not_empty (ap (λ (k : Cutting). k.0) e))

    by : (s : Step) → step (Value w.kind w.form at) (at + 1) text ≡ s → behind s (λ m. cut_from m (at + 1 + 1) words) ≡ ([], stop) → NothingCut false at (word ∷ text ∷ words) stop
    by (Err fault) is e = stopped fault refl (sym (ap (λ (k : Cutting). k.1) e)) (value_fault at word text n words fault w is)
    by (Ok s) is e = by_item s.0 s.1 (step_found (Value w.kind w.form at) (at + 1) text s is) e

nothing_cut : (only : Bool) (at : ℕ) (words : List (List ℕ)) (stop : Option Usage) → cut_from (state only) at words ≡ ([], stop) → NothingCut only at words stop
nothing_cut true at [] stop e = ended refl (sym (ap (λ (k : Cutting). k.1) e))
nothing_cut false at [] stop e = ended refl (sym (ap (λ (k : Cutting). k.1) e))
nothing_cut true at (word ∷ words) stop e = absurd (not_empty (ap (λ (k : Cutting). k.0) e))
nothing_cut false at (word ∷ words) stop e = by (step Free at word) refl e
  where
    by_item : (o : Option Said) (n : Next) → Means Free at word o n → onto (option_to_list o) (cut_from n (at + 1) words) ≡ ([], stop) → NothingCut false at (word ∷ words) stop
    by_item None n w e = nothing_waits at word n words stop w (subst (λ (m : Next). cut_from m (at + 1) words ≡ ([], stop)) w.next_is e)
    by_item (Some other) n means e = absurd (not_empty (ap (λ (k : Cutting). k.0) e))

    by : (s : Step) → step Free at word ≡ s → behind s (λ n. cut_from n (at + 1) words) ≡ ([], stop) → NothingCut false at (word ∷ words) stop
    by (Err fault) is e = stopped fault refl (sym (ap (λ (k : Cutting). k.1) e)) (begun_fault at word words fault is)
    by (Ok s) is e = by_item s.0 s.1 (step_found Free at word s is) e

cut_found : (items : List Said) (only : Bool) (at : ℕ) (words : List (List ℕ)) → cut_from (state only) at words ≡ (items, None) → Cuts only at items words
cut_found [] only at words e = by (nothing_cut only at words None e)
  where
    by : NothingCut only at words None → words ≡ []
    by (ended is _) = is
    by (stopped fault _ is _) = absurd cc
cut_found (said ∷ items) only at words e =
    let p = peel only at words said (items, None) e in
    (p.own, p.rest, p.words_are, p.placed, p.spells, cut_found items (only || same said.kind kinds.OnlyInputs) (at + length p.own) p.rest p.cut)

-- ---- and the other way

-- a word, and what follows
onward : (next n : Next) (at then : ℕ) (word : List ℕ) (said : Option Said) (c : Cutting) (rest : List (List ℕ)) → step next at word ≡ Ok (said, n) → then ≡ at + 1
    → cut_from n then rest ≡ c → cut_from next at (word ∷ rest) ≡ onto (option_to_list said) c
onward next n at then word said c rest is far e =
    ap (λ (s : Step). behind s (λ m. cut_from m (at + 1) rest)) is ∙ ap (onto (option_to_list said)) (subst (λ k. cut_from n k rest ≡ c) far e)

one_word : (at : ℕ) (word : List ℕ) (own : List (List ℕ)) → own ≡ word ∷ [] → at + length own ≡ at + 1
one_word at word own is = ap (λ (ws : List (List ℕ)). at + length ws) is

-- one word that is an item
alone_in_word : (next : Next) (only : Bool) (at : ℕ) (word : List ℕ) (own rest : List (List ℕ)) (said : Said) (c : Cutting) → own ≡ word ∷ [] → step next at word ≡ Ok (Some said, state only)
    → cut_from (state only) (at + length own) rest ≡ c → cut_from next at (own ++ rest) ≡ onto (said ∷ []) c
alone_in_word next only at word own rest said c is says e =
    ap (λ (ws : List (List ℕ)). cut_from next at (ws ++ rest)) is ∙ onward next (state only) at (at + length own) word (Some said) c rest says (one_word at word own is) e

-- an option with its value in the next word
in_two_words : (at : ℕ) (word text value : List ℕ) (kind : Kind) (form : Form) (own rest : List (List ℕ)) (c : Cutting) → own ≡ word ∷ text ∷ [] → step Free at word ≡ Ok (None, Value kind form at)
    → HasForm form text value → cut_from Free (at + length own) rest ≡ c → cut_from Free at (own ++ rest) ≡ onto (item kind at value ∷ []) c
in_two_words at word text value kind form own rest c is waits h e =
    let far : at + length own ≡ at + 1 + 1 = ap (λ (ws : List (List ℕ)). at + length ws) is ∙ omega arith in
    let says : step (Value kind form at) (at + 1) text ≡ Ok (Some (item kind at value), Free) = ap and_free (valued_again kind form at text value h) in
    ap (λ (ws : List (List ℕ)). cut_from Free at (ws ++ rest)) is
    ∙ onward Free (Value kind form at) at (at + 1) word None (onto (item kind at value ∷ []) c) (text ∷ rest) waits refl
    (onward (Value kind form at) Free (at + 1) (at + length own) text (Some (item kind at value)) c rest says far e)

option_again : (at : ℕ) (kind : Kind) (value name : List ℕ) (t : Takes) (own rest : List (List ℕ)) (c : Cutting) → row_of options name ≡ Some (record { kind = kind; takes = t }) → SpellsValue t name value own
    → cut_from Free (at + length own) rest ≡ c → cut_from Free at (own ++ rest) ≡ onto (item kind at value ∷ []) c
option_again at kind value name takes.Nothing own rest c found s e =
    alone_in_word Free false at name own rest (item kind at value) c s.1 (alone_again at name kind takes.Nothing found ∙ ap (λ (v : List ℕ). Ok (Some (item kind at v), Free)) (sym s.0)) e
option_again at kind value name (takes.Next form) own rest c found s e = in_two_words at name s.0 value kind form own rest c s.2 (alone_again at name kind (takes.Next form) found) s.1 e
option_again at kind value name (takes.Long form) own rest c found s e = by s.2
  where
    by : (own ≡ name ∷ s.0 ∷ []) ⊎ (own ≡ (name ++ 61 ∷ s.0) ∷ []) → cut_from Free at (own ++ rest) ≡ onto (item kind at value ∷ []) c
    by (inl is) = in_two_words at name s.0 value kind form own rest c is (alone_again at name kind (takes.Long form) found) s.1 e
    by (inr is) = alone_in_word Free false at (name ++ 61 ∷ s.0) own rest (item kind at value) c is (long_again at name s.0 value kind form found s.1) e

-- an item in place of one that is the same
is_item : (kind : Kind) (at : ℕ) (said : Said) → said.kind ≡ kind → said.at ≡ at → item kind at said.value ≡ said
is_item kind at said is placed = (λ j. record { kind = sym is j; at = sym placed j; value = said.value })

spelled_again : (c : Cutting) (only : Bool) (at : ℕ) (said : Said) (own rest : List (List ℕ)) → said.at ≡ at → Spells only said own
    → cut_from (state (only || same said.kind kinds.OnlyInputs)) (at + length own) rest ≡ c → cut_from (state only) at (own ++ rest) ≡ onto (said ∷ []) c
spelled_again c true at said own rest placed input e =
    alone_in_word Input true at said.value own rest said c input.1 (ap (λ (s : Said). Ok (Some s, Input)) (is_item kinds.Input at said input.0 placed)) e
spelled_again c false at said own rest placed (inl input) e =
    alone_in_word Free false at said.value own rest said c input.1
    (ap (λ b. cond (not b) (Ok (Some (item kinds.Input at said.value), Free)) (cond (bytes_eq said.value (codes "--")) (Ok (Some (item kinds.OnlyInputs at []), Input)) (optional at said.value (split_of said.value)))) input.2
    ∙ ap (λ (s : Said). Ok (Some s, Free)) (is_item kinds.Input at said input.0 placed))
    (subst (λ (k : Kind). cut_from (state (same k kinds.OnlyInputs)) (at + length own) rest ≡ c) input.0 e)
spelled_again c false at said own rest placed (inr (inl dashes)) e =
    alone_in_word Free true at (codes "--") own rest said c dashes.2
    (ap (λ (v : List ℕ). Ok (Some (item kinds.OnlyInputs at v), Input)) (sym dashes.1) ∙ ap (λ (s : Said). Ok (Some s, Input)) (is_item kinds.OnlyInputs at said dashes.0 placed))
    (subst (λ (k : Kind). cut_from (state (same k kinds.OnlyInputs)) (at + length own) rest ≡ c) dashes.0 e)
spelled_again c false at said own rest placed (inr (inr option)) e =
    option_again at said.kind said.value option.name option.takes own rest c option.is_option option.spelled
    (subst (λ b. cut_from (state b) (at + length own) rest ≡ c) (not_only option.name (record { kind = said.kind; takes = option.takes }) option.is_option) e)
    ∙ ap (λ (s : Said). onto (s ∷ []) c) (is_item said.kind at said refl placed)

cut_again : (items : List Said) (only : Bool) (at : ℕ) (words : List (List ℕ)) → Cuts only at items words → cut_from (state only) at words ≡ (items, None)
cut_again [] false at words c = ap (cut_from Free at) c
cut_again [] true at words c = ap (cut_from Input at) c
cut_again (said ∷ items) only at words c =
    ap (cut_from (state only) at) c.2 ∙ spelled_again (items, None) only at said c.0 c.1 c.3 c.4 (cut_again items (only || same said.kind kinds.OnlyInputs) (at + length c.0) c.1 c.5)

-- both ways
pub cut_is : (words : List (List ℕ)) (items : List Said) → (cut_of words ≡ (items, None)) ↔ Cuts false 0 items words
cut_is words items = (cut_found items false 0 words, cut_again items false 0 words)

stop_found : (items : List Said) (only : Bool) (at : ℕ) (fault : Usage) (words : List (List ℕ)) → cut_from (state only) at words ≡ (items, Some fault) → Stops only at items fault words
stop_found [] only at fault words e = by (nothing_cut only at words (Some fault) e)
  where
    by : NothingCut only at words (Some fault) → Stops only at [] fault words
    by (ended _ is) = absurd cc
    by (stopped own before is why) =
        let own_is : own ≡ fault = sym (some_is is) in (
          before,
          subst (λ (f : Usage). place_of f ≡ Some at) own_is why.0,
          subst (λ (f : Usage). HasCause f words) own_is why.1,
          λ said front rest words_are placed spells.
              let e' = subst (λ b. cut_from (state b) at words ≡ ([], Some fault)) before e in
              let again = spelled_again (cut_from (state (same said.kind kinds.OnlyInputs)) (at + length front) rest) false at said front rest placed spells refl in
              not_empty (ap (λ (k : Cutting). k.0) (sym again ∙ ap (cut_from Free at) (sym words_are) ∙ e')),
        )
stop_found (said ∷ items) only at fault words e =
    let p = peel only at words said (items, Some fault) e in
    (p.own, p.rest, p.words_are, p.placed, p.spells, stop_found items (only || same said.kind kinds.OnlyInputs) (at + length p.own) fault p.rest p.cut)

stop_again : (items : List Said) (only : Bool) (at : ℕ) (fault : Usage) (words : List (List ℕ)) → Stops only at items fault words → cut_from (state only) at words ≡ (items, Some fault)
stop_again [] only at fault words s = subst (λ b. cut_from (state b) at words ≡ ([], Some fault)) (sym s.0) (stops_by_cause at fault words s.1 s.2)
stop_again (said ∷ items) only at fault words s =
    ap (cut_from (state only) at) s.2
    ∙ spelled_again (items, Some fault) only at said s.0 s.1 s.3 s.4 (stop_again items (only || same said.kind kinds.OnlyInputs) (at + length s.0) fault s.1 s.5)

-- both ways
pub stop_is : (words : List (List ℕ)) (items : List Said) (fault : Usage) → (cut_of words ≡ (items, Some fault)) ↔ Stops false 0 items fault words
stop_is words items fault = (stop_found items false 0 fault words, stop_again items false 0 fault words)

pub cut_once : (words : List (List ℕ)) (items others : List Said) → Cuts false 0 items words → Cuts false 0 others words → items ≡ others
cut_once words items others one other = ap (λ (c : Cutting). c.0) (sym (cut_again items false 0 words one) ∙ cut_again others false 0 words other)

no_stop : (c : Cutting) → first_fault c ≡ None → c.1 ≡ None
unfolding first_fault
no_stop c e = head_none c.1 _ (rest_none (group_fault None c.0) _ e)

answered : (f : Option Usage) (made plan : Plan) → unless f made ≡ Ok plan → (f ≡ None) × (plan ≡ made)
answered None made plan e = (refl, sym (ok_is e))
answered (Some fault) made plan e = absurd cc

pub plan_is : (words : List (List ℕ)) (plan : Plan)
    → (plan_of words ≡ Ok plan) ↔ ((items : List Said) × Cuts false 0 items words × (first_fault (items, None) ≡ None) × (plan ≡ plan_from items))
unfolding plan_of
plan_is words plan = (found, again)
  where
    found : unless (first_fault (cut_of words)) (plan_from (cut_of words).0) ≡ Ok plan → (items : List Said) × Cuts false 0 items words × (first_fault (items, None) ≡ None) × (plan ≡ plan_from items)
    found e =
        let a = answered (first_fault (cut_of words)) (plan_from (cut_of words).0) plan e in
        let ends = no_stop (cut_of words) a.0 in
        let is : cut_of words ≡ ((cut_of words).0, None) = (λ j. ((cut_of words).0, ends j)) in
        ((cut_of words).0, cut_found (cut_of words).0 false 0 words is, ap first_fault (sym is) ∙ a.0, a.1)

    again : ((items : List Said) × Cuts false 0 items words × (first_fault (items, None) ≡ None) × (plan ≡ plan_from items)) → unless (first_fault (cut_of words)) (plan_from (cut_of words).0) ≡ Ok plan
    again c =
        ap (λ (k : Cutting). unless (first_fault k) (plan_from k.0)) (cut_again c.0 false 0 words c.1) ∙ ap (λ f. unless f (plan_from c.0)) c.2 ∙ ap (λ (p : Plan). Ok p) (sym c.3)

-- what the words are cut into
pub parted : (words : List (List ℕ)) (items : List Said) (stop : Option Usage) → cut_of words ≡ (items, stop) → AreCut items stop words
parted words items None e = cut_found items false 0 words e
parted words items (Some fault) e = stop_found items false 0 fault words e

parted_again : (words : List (List ℕ)) (items : List Said) (stop : Option Usage) → AreCut items stop words → cut_of words ≡ (items, stop)
parted_again words items None c = cut_again items false 0 words c
parted_again words items (Some fault) c = stop_again items false 0 fault words c

refused : (f : Option Usage) (made : Plan) (fault : Usage) → unless f made ≡ Err fault → f ≡ Some fault
refused None made fault e = absurd cc
refused (Some own) made fault e = cc

pub refusal_is : (words : List (List ℕ)) (fault : Usage)
    → (plan_of words ≡ Err fault) ↔ ((items : List Said) × (stop : Option Usage) × AreCut items stop words × (first_fault (items, stop) ≡ Some fault))
unfolding plan_of
refusal_is words fault = (found, again)
  where
    found : unless (first_fault (cut_of words)) (plan_from (cut_of words).0) ≡ Err fault → (items : List Said) × (stop : Option Usage) × AreCut items stop words × (first_fault (items, stop) ≡ Some fault)
    found e = ((cut_of words).0, (cut_of words).1, parted words (cut_of words).0 (cut_of words).1 refl, refused (first_fault (cut_of words)) (plan_from (cut_of words).0) fault e)

    again : ((items : List Said) × (stop : Option Usage) × AreCut items stop words × (first_fault (items, stop) ≡ Some fault)) → unless (first_fault (cut_of words)) (plan_from (cut_of words).0) ≡ Err fault
    again c = ap (λ (k : Cutting). unless (first_fault k) (plan_from k.0)) (parted_again words c.0 c.1 c.2) ∙ ap (λ f. unless f (plan_from c.0)) c.3
