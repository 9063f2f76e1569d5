-- What one word says, beside how items are spelled.
use Rattle.std.proofs.Common.{◌≡◌, inl, inr, ℕ, Bool, true, false, not, cond, List, [], ◌∷◌, ◌++◌, take, codes, eqb, is_some, IsSome, Option, Some, None, Result, Ok, Err, refl, sym, ap, subst, ◌∙◌}
use Rattle.std.proofs.lemmas.Slice.Eq.{bytes_eq-Decides}
use Rattle.std.specs.List.{list_any}
use Rattle.std.specs.Str.{bytes_eq}
use Rattle.wl_base.specs.declared.usage.Usage.{Usage}
use Rattle.wl_base.specs.declared.usage.Usage.TheVariants.{UnknownOption}
use Rattle.link_words.specs.declared.kind.Kind.{Kind}
use Rattle.link_words.specs.declared.kind.Kind.TheVariants as kinds
use Rattle.link_words.specs.declared.range.Range.{Range}
use Rattle.link_words.specs.declared.range.Range.TheVariants as ranges
use Rattle.link_words.specs.declared.options.Form.{Form}
use Rattle.link_words.specs.declared.options.Form.TheVariants.{Text, Machine, Number, StackSize}
use Rattle.link_words.specs.declared.options.Takes.{Takes}
use Rattle.link_words.specs.declared.options.Takes.TheVariants as takes
use Rattle.link_words.specs.declared.options.Rule.{Rule}
use Rattle.link_words.specs.declared.cut.Next.{Next}
use Rattle.link_words.specs.declared.cut.Next.TheVariants.{Free, Value, Input}
use Rattle.link_words.specs.Kinds.{same}
use Rattle.link_words.specs.Items.{Said}
use Rattle.link_words.specs.Numbers.{number_in}
use Rattle.link_words.specs.Options.{options, row_of}
use Rattle.link_words.specs.Cut.{item, is_equals, parts_of, judged, numbered, stack_sized, valued, and_free, alone, said_alone, long, said_long, split_of, optional, begins_with_dash, begun, step}
use Rattle.link_words.specs.Spelled.{HasForm, SpellsValue, Spells}
use Rattle.link_words.proofs.Equals.{no_parts, any_equals, parts_found, parts_again}
use Rattle.link_words.proofs.Table.{both, dashed, not_dashes, no_equals, not_only, long_front}

pub ok_is : {A : Type 0} {x y : A} → (let r : Result A Usage = Ok x in r ≡ Ok y) → x ≡ y
ok_is e = cc

-- ---- values

-- an item of this kind and place, whose value the text is
record IsValued (kind : Kind) (form : Form) (at : ℕ) (text : List ℕ) (said : Said) : Type 0 where
  value : List ℕ
  is : said ≡ item kind at value
  has_form : HasForm form text value

numbered_found : (kind : Kind) (range : Range) (at : ℕ) (text : List ℕ) (said : Said) → numbered kind range at text ≡ Ok said → (said ≡ item kind at text) × IsSome (number_in range text)
numbered_found kind range at text said e = by (number_in range text) refl e
  where
    by : (n : Option ℕ) → number_in range text ≡ n → judged n kind range at text ≡ Ok said → (said ≡ item kind at text) × IsSome (number_in range text)
    by None _ e = absurd cc
    by (Some n) is e = (sym (ok_is e), ap is_some is)

numbered_again : (kind : Kind) (range : Range) (at : ℕ) (text : List ℕ) → IsSome (number_in range text) → numbered kind range at text ≡ Ok (item kind at text)
numbered_again kind range at text some = by (number_in range text) some
  where
    by : (n : Option ℕ) → IsSome n → judged n kind range at text ≡ Ok (item kind at text)
    by None some = absurd cc
    by (Some n) _ = refl

stack_found : (kind : Kind) (at : ℕ) (text : List ℕ) (said : Said) → stack_sized (parts_of text) kind at ≡ Ok said → IsValued kind StackSize at text said
stack_found kind at text said e = by (parts_of text) refl e
  where
    by : (p : Option (List ℕ × List ℕ)) → parts_of text ≡ p → stack_sized p kind at ≡ Ok said → IsValued kind StackSize at text said
    by None _ e = absurd cc
    by (Some p) found e = named (bytes_eq p.0 (codes "stack-size")) refl e
      where
        named : (b : Bool) → bytes_eq p.0 (codes "stack-size") ≡ b → cond b (numbered kind ranges.Stack at p.1) (Err (UnknownOption at)) ≡ Ok said → IsValued kind StackSize at text said
        named false _ e = absurd cc
        named true is e =
            let number = numbered_found kind ranges.Stack at p.1 said e in
            let name : p.0 ≡ codes "stack-size" = (bytes_eq-Decides p.0 (codes "stack-size")).0 is in
            record { value = p.1; is = number.0; has_form = (parts_found text p found ∙ ap (λ (n : List ℕ). n ++ 61 ∷ p.1) name, number.1) }

valued_found : (kind : Kind) (form : Form) (at : ℕ) (text : List ℕ) (said : Said) → valued kind form at text ≡ Ok said → IsValued kind form at text said
valued_found kind Text at text said e = record { value = text; is = sym (ok_is e); has_form = refl }
valued_found kind Machine at text said e = by (bytes_eq text (codes "wasm32")) refl e
  where
    by : (b : Bool) → bytes_eq text (codes "wasm32") ≡ b → cond b (Ok (item kind at text)) (Err (UnknownOption at)) ≡ Ok said → IsValued kind Machine at text said
    by false _ e = absurd cc
    by true is e = record { value = text; is = sym (ok_is e); has_form = (refl, (bytes_eq-Decides text (codes "wasm32")).0 is) }
valued_found kind (Number range) at text said e = let n = numbered_found kind range at text said e in record { value = text; is = n.0; has_form = (refl, n.1) }
valued_found kind StackSize at text said e = stack_found kind at text said e

pub valued_again : (kind : Kind) (form : Form) (at : ℕ) (text value : List ℕ) → HasForm form text value → valued kind form at text ≡ Ok (item kind at value)
valued_again kind Text at text value h = ap (λ (v : List ℕ). Ok (item kind at v)) (sym h)
valued_again kind Machine at text value h =
    let is : bytes_eq text (codes "wasm32") ≡ true = (bytes_eq-Decides text (codes "wasm32")).1 h.1 in
    ap (λ b. cond b (Ok (item kind at text)) (Err (UnknownOption at))) is ∙ ap (λ (v : List ℕ). Ok (item kind at v)) (sym h.0)
valued_again kind (Number range) at text value h = numbered_again kind range at text h.1 ∙ ap (λ (v : List ℕ). Ok (item kind at v)) (sym h.0)
valued_again kind StackSize at text value h =
    ap (λ (t : List ℕ). stack_sized (parts_of t) kind at) h.0 ∙ ap (λ p. stack_sized p kind at) (parts_again (codes "stack-size") value refl) ∙ numbered_again kind ranges.Stack at value h.1

-- ---- words

-- how an option takes the next word
abbrev pub TakesNext : Takes → Form → Type 0
TakesNext takes.Nothing form = ⊥
TakesNext (takes.Next own) form = own ≡ form
TakesNext (takes.Long own) form = own ≡ form

-- how words count behind `--`, and before it
abbrev pub state : Bool → Next
state true = Input
state false = Free

abbrev pub after : Said → Next
after said = state (same said.kind kinds.OnlyInputs)

-- an option waits for the next word
pub record Waits (at : ℕ) (word : List ℕ) (next : Next) : Type 0 where
  pub kind : Kind
  pub takes : Takes
  pub form : Form
  pub is_option : row_of options word ≡ Some (record { kind = kind; takes = takes })
  pub takes_next : TakesNext takes form
  pub next_is : next ≡ Value kind form at

-- what a word means
abbrev pub Means : Next → ℕ → List ℕ → Option Said → Next → Type 0
Means Free at word None n = Waits at word n
Means Free at word (Some said) n = (said.at ≡ at) × Spells false said (word ∷ []) × (n ≡ after said)
Means (Value kind form place) at word None n = ⊥
Means (Value kind form place) at word (Some said) n = (said ≡ item kind place said.value) × HasForm form word said.value × (n ≡ Free)
Means Input at word None n = ⊥
Means Input at word (Some said) n = (said.at ≡ at) × Spells true said (word ∷ []) × (n ≡ Input)

-- an option alone in its word, or with its value there
option_found : (at : ℕ) (word name value : List ℕ) (kind : Kind) (t : Takes) → row_of options name ≡ Some (record { kind = kind; takes = t }) → SpellsValue t name value (word ∷ [])
    → Means Free at word (Some (item kind at value)) Free
option_found at word name value kind t found spelled =
    (refl, inr (inr (record { name = name; takes = t; is_option = found; spelled = spelled })), ap state (sym (not_only name (record { kind = kind; takes = t }) found)))

alone_found : (at : ℕ) (word : List ℕ) (kind : Kind) (t : Takes) (s : Option Said × Next) → row_of options word ≡ Some (record { kind = kind; takes = t }) → alone at kind t ≡ Ok s → Means Free at word s.0 s.1
alone_found at word kind takes.Nothing s found e = subst (λ (s : Option Said × Next). Means Free at word s.0 s.1) (ok_is e) (option_found at word word [] kind takes.Nothing found (refl, refl))
alone_found at word kind (takes.Next form) s found e = subst (λ (s : Option Said × Next). Means Free at word s.0 s.1) (ok_is e)
    (record { kind = kind; takes = takes.Next form; form = form; is_option = found; takes_next = refl; next_is = refl })
alone_found at word kind (takes.Long form) s found e = subst (λ (s : Option Said × Next). Means Free at word s.0 s.1) (ok_is e)
    (record { kind = kind; takes = takes.Long form; form = form; is_option = found; takes_next = refl; next_is = refl })

long_found : (at : ℕ) (word name text : List ℕ) (kind : Kind) (t : Takes) (s : Option Said × Next) → row_of options name ≡ Some (record { kind = kind; takes = t }) → word ≡ name ++ 61 ∷ text
    → long at text kind t ≡ Ok s → Means Free at word s.0 s.1
long_found at word name text kind takes.Nothing s found is e = absurd cc
long_found at word name text kind (takes.Next form) s found is e = absurd cc
long_found at word name text kind (takes.Long form) s found is e = by (valued kind form at text) refl e
  where
    by : (r : Result Said Usage) → valued kind form at text ≡ r → and_free r ≡ Ok s → Means Free at word s.0 s.1
    by (Err fault) _ e = absurd cc
    by (Ok said) v e =
        let h = valued_found kind form at text said v in
        let own : word ∷ [] ≡ (name ++ 61 ∷ text) ∷ [] = ap (λ (w : List ℕ). w ∷ []) is in
        subst (λ (s : Option Said × Next). Means Free at word s.0 s.1) (ok_is e)
        (subst (λ (said : Said). Means Free at word (Some said) Free) (sym h.is) (option_found at word name h.value kind (takes.Long form) found (text, h.has_form, inr own)))

pub split_is : (word : List ℕ) (p : List ℕ × List ℕ) → split_of word ≡ Some p → word ≡ p.0 ++ 61 ∷ p.1
split_is word p e = by (bytes_eq (take 2 word) (codes "--")) e
  where
    by : (b : Bool) → cond b (parts_of word) None ≡ Some p → word ≡ p.0 ++ 61 ∷ p.1
    by false e = absurd cc
    by true e = parts_found word p e

begun_found : (at : ℕ) (word : List ℕ) (s : Option Said × Next) → begun at word ≡ Ok s → Means Free at word s.0 s.1
begun_found at word s e = by_dash (begins_with_dash word) refl e
  where
    by_row : (o : Option Rule) → row_of options word ≡ o → said_alone at o ≡ Ok s → Means Free at word s.0 s.1
    by_row None _ e = absurd cc
    by_row (Some rule) found e = alone_found at word rule.kind rule.takes s found e

    by_named : (p : List ℕ × List ℕ) → word ≡ p.0 ++ 61 ∷ p.1 → (o : Option Rule) → row_of options p.0 ≡ o → said_long at p.1 o ≡ Ok s → Means Free at word s.0 s.1
    by_named p is None _ e = absurd cc
    by_named p is (Some rule) found e = long_found at word p.0 p.1 rule.kind rule.takes s found is e

    by_split : (o : Option (List ℕ × List ℕ)) → split_of word ≡ o → optional at word o ≡ Ok s → Means Free at word s.0 s.1
    by_split None _ e = by_row (row_of options word) refl e
    by_split (Some p) is e = by_named p (split_is word p is) (row_of options p.0) refl e

    by_dashes : (b : Bool) → bytes_eq word (codes "--") ≡ b → cond b (Ok (Some (item kinds.OnlyInputs at []), Input)) (optional at word (split_of word)) ≡ Ok s → Means Free at word s.0 s.1
    by_dashes true is e = subst (λ (s : Option Said × Next). Means Free at word s.0 s.1) (ok_is e)
        (refl, inr (inl (refl, refl, ap (λ (w : List ℕ). w ∷ []) ((bytes_eq-Decides word (codes "--")).0 is))), refl)
    by_dashes false _ e = by_split (split_of word) refl e

    by_dash : (b : Bool) → begins_with_dash word ≡ b
        → cond (not b) (Ok (Some (item kinds.Input at word), Free)) (cond (bytes_eq word (codes "--")) (Ok (Some (item kinds.OnlyInputs at []), Input)) (optional at word (split_of word))) ≡ Ok s → Means Free at word s.0 s.1
    by_dash false is e = subst (λ (s : Option Said × Next). Means Free at word s.0 s.1) (ok_is e) (refl, inl (refl, refl, is), refl)
    by_dash true _ e = by_dashes (bytes_eq word (codes "--")) refl e

-- what a word says is what it means
pub step_found : (next : Next) (at : ℕ) (word : List ℕ) (s : Option Said × Next) → step next at word ≡ Ok s → Means next at word s.0 s.1
step_found Free at word s e = begun_found at word s e
step_found Input at word s e = subst (λ (s : Option Said × Next). Means Input at word s.0 s.1) (ok_is e) (refl, (refl, refl), refl)
step_found (Value kind form place) at word s e = by (valued kind form place word) refl e
  where
    by : (r : Result Said Usage) → valued kind form place word ≡ r → and_free r ≡ Ok s → Means (Value kind form place) at word s.0 s.1
    by (Err fault) _ e = absurd cc
    by (Ok said) v e =
        let h = valued_found kind form place word said v in
        subst (λ (s : Option Said × Next). Means (Value kind form place) at word s.0 s.1) (ok_is e)
        (subst (λ (said : Said). Means (Value kind form place) at word (Some said) Free) (sym h.is) (refl, h.has_form, refl))

-- ---- and the other way

not_split : (word : List ℕ) → list_any is_equals word ≡ false → split_of word ≡ None
not_split word none = by (bytes_eq (take 2 word) (codes "--"))
  where
    by : (b : Bool) → cond b (parts_of word) None ≡ None
    by false = refl
    by true = no_parts word none

-- an option's word
pub alone_again : (at : ℕ) (word : List ℕ) (kind : Kind) (t : Takes) → row_of options word ≡ Some (record { kind = kind; takes = t }) → begun at word ≡ alone at kind t
alone_again at word kind t found =
    let rule : Rule = record { kind = kind; takes = t } in
    ap (λ b. cond (not b) (Ok (Some (item kinds.Input at word), Free)) (cond (bytes_eq word (codes "--")) (Ok (Some (item kinds.OnlyInputs at []), Input)) (optional at word (split_of word)))) (dashed word rule found)
    ∙ ap (λ b. cond b (Ok (Some (item kinds.OnlyInputs at []), Input)) (optional at word (split_of word))) (not_dashes word rule found)
    ∙ ap (optional at word) (not_split word (no_equals word rule found))
    ∙ ap (said_alone at) found

-- a word with `--` in front and a `=`
dash_named : (name text : List ℕ) → bytes_eq (take 2 name) (codes "--") ≡ true → begins_with_dash (name ++ 61 ∷ text) ≡ true
dash_named [] text front = absurd cc
dash_named (a ∷ name) text front = (both (eqb a 45) (bytes_eq (take 1 name) (codes "-")) front).0

pub not_dashes_named : (name text : List ℕ) → bytes_eq (name ++ 61 ∷ text) (codes "--") ≡ false
not_dashes_named name text = by (bytes_eq (name ++ 61 ∷ text) (codes "--")) refl
  where
    by : (b : Bool) → bytes_eq (name ++ 61 ∷ text) (codes "--") ≡ b → b ≡ false
    by false _ = refl
    by true is =
        let word : name ++ 61 ∷ text ≡ codes "--" = (bytes_eq-Decides (name ++ 61 ∷ text) (codes "--")).0 is in
        sym (any_equals name text) ∙ ap (list_any is_equals) word

pub front_named : (name text : List ℕ) → bytes_eq (take 2 name) (codes "--") ≡ true → bytes_eq (take 2 (name ++ 61 ∷ text)) (codes "--") ≡ true
front_named [] text front = absurd cc
front_named (a ∷ []) text front = let no = (both (eqb a 45) false front).1 in absurd cc
front_named (a ∷ b ∷ name) text front = front

pub begun_named : (at : ℕ) (name text : List ℕ) → bytes_eq (take 2 name) (codes "--") ≡ true → list_any is_equals name ≡ false → begun at (name ++ 61 ∷ text) ≡ said_long at text (row_of options name)
begun_named at name text front none =
    let word = name ++ 61 ∷ text in
    ap (λ b. cond (not b) (Ok (Some (item kinds.Input at word), Free)) (cond (bytes_eq word (codes "--")) (Ok (Some (item kinds.OnlyInputs at []), Input)) (optional at word (split_of word)))) (dash_named name text front)
    ∙ ap (λ b. cond b (Ok (Some (item kinds.OnlyInputs at []), Input)) (optional at word (split_of word))) (not_dashes_named name text)
    ∙ ap (λ b. optional at word (cond b (parts_of word) None)) (front_named name text front)
    ∙ ap (optional at word) (parts_again name text none)

-- `--x=v`
pub long_again : (at : ℕ) (name text value : List ℕ) (kind : Kind) (form : Form) → row_of options name ≡ Some (record { kind = kind; takes = takes.Long form }) → HasForm form text value
    → begun at (name ++ 61 ∷ text) ≡ Ok (Some (item kind at value), Free)
long_again at name text value kind form found h =
    begun_named at name text (long_front name kind form found) (no_equals name (record { kind = kind; takes = takes.Long form }) found)
    ∙ ap (said_long at text) found ∙ ap and_free (valued_again kind form at text value h)
