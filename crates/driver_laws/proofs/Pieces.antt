-- Words as they are spelled, an option or an input at a time.
use Rattle.std.proofs.Common.{◌≡◌, inr, ℕ, ◌+◌, Bool, true, false, not, ◌&&◌, ◌||◌, cond, List, [], ◌∷◌, ◌++◌, length, flat_map, Some, refl, sym, ap, subst, ◌∙◌, append_assoc, append-nil}
use Rattle.std.specs.List.{list_any}
use Rattle.std.specs.Prelude.{IsSome, codes}
use Rattle.link_words.specs.declared.kind.Kind.{Kind}
use Rattle.link_words.specs.declared.kind.Kind.TheVariants as kinds
use Rattle.link_words.specs.declared.options.Form.TheVariants as forms
use Rattle.link_words.specs.declared.options.Takes.{Takes}
use Rattle.link_words.specs.declared.options.Takes.TheVariants as takes
use Rattle.link_words.specs.declared.range.Range.{Range}
use Rattle.link_words.specs.declared.range.Range.TheVariants.{Stack}
use Rattle.link_words.specs.Kinds.{same}
use Rattle.link_words.specs.Items.{Said}
use Rattle.link_words.specs.Numbers.{number_in}
use Rattle.link_words.specs.Options.{options, row_of}
use Rattle.link_words.specs.Spelled.{Spells, SpellsValue, Cuts}

-- what holds of each of a list
abbrev pub Every : {A : Type 0} → (A → Type 0) → List A → Type 0
Every P [] = Unit {0}
Every P (x ∷ xs) = P x × Every P xs

-- an item and its words
pub record Piece : Type 0 where
  pub kind : Kind
  pub value : List ℕ
  pub own : List (List ℕ)

abbrev pub words_of : List Piece → List (List ℕ)
words_of [] = []
words_of (p ∷ ps) = p.own ++ words_of ps

abbrev pub said_at : ℕ → Piece → Said
said_at at p = record { kind = p.kind; at = at; value = p.value }

abbrev pub placed : ℕ → List Piece → List Said
placed at [] = []
placed at (p ∷ ps) = said_at at p ∷ placed (at + length p.own) ps

pub record IsSpelled (p : Piece) : Type 0 where
  pub spells : (at : ℕ) → Spells false (said_at at p) p.own
  pub more : same p.kind kinds.OnlyInputs ≡ false

pub cuts : (ps : List Piece) (at : ℕ) → Every IsSpelled ps → Cuts false at (placed at ps) (words_of ps)
cuts [] at all = refl
cuts (p ∷ ps) at all =
    (p.own, words_of ps, refl, refl, all.0.spells at, subst (λ b. Cuts b (at + length p.own) (placed (at + length p.own) ps) (words_of ps)) (sym all.0.more) (cuts ps (at + length p.own) all.1))

pub words_both : (a b : List Piece) → words_of (a ++ b) ≡ words_of a ++ words_of b
words_both [] b = refl
words_both (p ∷ ps) b = ap (λ (ws : List (List ℕ)). p.own ++ ws) (words_both ps b) ∙ sym (append_assoc p.own (words_of ps) (words_of b))

pub all_both : {A : Type 0} (P : A → Type 0) (a b : List A) → Every P a → Every P b → Every P (a ++ b)
all_both P [] b x y = y
all_both P (p ∷ ps) b x y = (x.0, all_both P ps b x.1 y)

-- ---- options that say nothing of inputs, groups and generated cases

abbrev pub is_plain : Kind → Bool
is_plain kind = not (same kind kinds.Input || (same kind kinds.StartLib || (same kind kinds.EndLib || (same kind kinds.WholeArchive || (same kind kinds.NoWholeArchive || same kind kinds.MakeCase)))))

-- those that say what is written: an object, a shared output, and whether with debug sections
abbrev pub says_what : Kind → Bool
says_what kind = same kind kinds.Partial || (same kind kinds.Shared || same kind kinds.KeepDebug)

-- of the plain ones all but those
abbrev pub is_quiet : Kind → Bool
is_quiet kind = is_plain kind && not (says_what kind)

pub record IsOption (p : Piece) : Type 0 where
  pub spelled : IsSpelled p
  pub plain : is_plain p.kind ≡ true

abbrev pub IsQuiet : Piece → Type 0
IsQuiet p = is_quiet p.kind ≡ true

pub record AreOptions (words : List (List ℕ)) : Type 0 where
  pub pieces : List Piece
  pub words_are : words ≡ words_of pieces
  pub all : Every IsOption pieces
  pub quiet : Every IsQuiet pieces

pub none : AreOptions []
none = record { pieces = []; words_are = refl; all = tt; quiet = tt }

pub both : (a b : List (List ℕ)) → AreOptions a → AreOptions b → AreOptions (a ++ b)
both a b x y = record {
  pieces = x.pieces ++ y.pieces;
  words_are = (λ i. x.words_are i ++ y.words_are i) ∙ sym (words_both x.pieces y.pieces);
  all = all_both IsOption x.pieces y.pieces x.all y.all;
  quiet = all_both IsQuiet x.pieces y.pieces x.quiet y.quiet;
}

pub when_so : (test : Bool) (words : List (List ℕ)) → AreOptions words → AreOptions (cond test words [])
when_so true words x = x
when_so false words x = none

pub each : {A : Type 0} (f : A → List (List ℕ)) → ((x : A) → AreOptions (f x)) → (xs : List A) → AreOptions (flat_map f xs)
each f h [] = none
each f h (x ∷ xs) = both (f x) (flat_map f xs) (h x) (each f h xs)

is_option : (kind : Kind) (name value : List ℕ) (t : Takes) (own : List (List ℕ)) → row_of options name ≡ Some (record { kind = kind; takes = t }) → SpellsValue t name value own
    → same kind kinds.OnlyInputs ≡ false → is_plain kind ≡ true → IsOption (record { kind = kind; value = value; own = own })
is_option kind name value t own row spelled more plain = record {
  spelled = record { spells = λ at. inr (inr (record { name = name; takes = t; is_option = row; spelled = spelled })); more = more };
  plain = plain;
}

and_first : (a b : Bool) → (a && b) ≡ true → a ≡ true
and_first true b h = refl
and_first false b h = absurd cc

option : (kind : Kind) (name value : List ℕ) (t : Takes) (own : List (List ℕ)) → row_of options name ≡ Some (record { kind = kind; takes = t }) → SpellsValue t name value own
    → same kind kinds.OnlyInputs ≡ false → is_quiet kind ≡ true → AreOptions own
option kind name value t own row spelled more quiet =
    let piece : Piece = record { kind = kind; value = value; own = own } in
    let one = is_option kind name value t own row spelled more (and_first (is_plain kind) (not (says_what kind)) quiet) in
    record { pieces = piece ∷ []; words_are = sym (append-nil own); all = (one, tt); quiet = (quiet, tt) }

-- an option without a value
pub flag : (kind : Kind) (name : List ℕ) → row_of options name ≡ Some (record { kind = kind; takes = takes.Nothing }) → same kind kinds.OnlyInputs ≡ false → is_quiet kind ≡ true → AreOptions (name ∷ [])
flag kind name row more quiet = option kind name [] takes.Nothing (name ∷ []) row (refl, refl) more quiet

-- an option with a text in the next word
pub next_text : (kind : Kind) (name text : List ℕ) → row_of options name ≡ Some (record { kind = kind; takes = takes.Next forms.Text }) → same kind kinds.OnlyInputs ≡ false → is_quiet kind ≡ true
    → AreOptions (name ∷ text ∷ [])
next_text kind name text row more quiet = option kind name text (takes.Next forms.Text) (name ∷ text ∷ []) row (text, refl, refl) more quiet

-- an option with a text behind `=`
pub long_text : (kind : Kind) (name text : List ℕ) → row_of options name ≡ Some (record { kind = kind; takes = takes.Long forms.Text }) → same kind kinds.OnlyInputs ≡ false → is_quiet kind ≡ true
    → AreOptions ((name ++ 61 ∷ text) ∷ [])
long_text kind name text row more quiet = option kind name text (takes.Long forms.Text) ((name ++ 61 ∷ text) ∷ []) row (text, refl, inr refl) more quiet

-- an option with a number behind `=`
pub long_number : (kind : Kind) (range : Range) (name text : List ℕ) → row_of options name ≡ Some (record { kind = kind; takes = takes.Long (forms.Number range) }) → IsSome (number_in range text)
    → same kind kinds.OnlyInputs ≡ false → is_quiet kind ≡ true → AreOptions ((name ++ 61 ∷ text) ∷ [])
long_number kind range name text row number more quiet = option kind name text (takes.Long (forms.Number range)) ((name ++ 61 ∷ text) ∷ []) row (text, (refl, number), inr refl) more quiet

-- the size of the stack
pub next_size : (kind : Kind) (name front value : List ℕ) → row_of options name ≡ Some (record { kind = kind; takes = takes.Next forms.StackSize }) → front ≡ codes "stack-size" → IsSome (number_in Stack value)
    → same kind kinds.OnlyInputs ≡ false → is_quiet kind ≡ true → AreOptions (name ∷ (front ++ 61 ∷ value) ∷ [])
next_size kind name front value row is number more quiet =
    option kind name value (takes.Next forms.StackSize) (name ∷ (front ++ 61 ∷ value) ∷ []) row (front ++ 61 ∷ value, (ap (λ (f : List ℕ). f ++ 61 ∷ value) is, number), refl) more quiet

-- ---- a kind among options

abbrev pub has_kind : Kind → List Piece → Bool
has_kind kind ps = list_any (λ (p : Piece). same p.kind kind) ps

pub record HaveKind (kind : Kind) (words : List (List ℕ)) : Type 0 where
  pub options : AreOptions words
  pub has : has_kind kind options.pieces ≡ true

-- an option with a text in the next word has its kind
pub next_text_has : (kind : Kind) (name text : List ℕ) → row_of options name ≡ Some (record { kind = kind; takes = takes.Next forms.Text }) → same kind kinds.OnlyInputs ≡ false → is_quiet kind ≡ true
    → same kind kind ≡ true → HaveKind kind (name ∷ text ∷ [])
unfolding next_text option
next_text_has kind name text row more quiet itself = record { options = next_text kind name text row more quiet; has = (λ i. itself i || false) }

or_left : (a b c : Bool) → (b ≡ true → c ≡ true) → (a || b) ≡ true → (a || c) ≡ true
or_left true b c rest h = refl
or_left false b c rest h = rest h

pub any_left : (kind : Kind) (a b : List Piece) → has_kind kind a ≡ true → has_kind kind (a ++ b) ≡ true
any_left kind [] b h = absurd cc
any_left kind (p ∷ ps) b h = or_left (same p.kind kind) (has_kind kind ps) (has_kind kind (ps ++ b)) (any_left kind ps b) h

pub and_more : (kind : Kind) (a b : List (List ℕ)) → HaveKind kind a → AreOptions b → HaveKind kind (a ++ b)
unfolding both
and_more kind a b x y = record { options = both a b x.options y; has = any_left kind x.options.pieces y.pieces x.has }

-- ---- the words that say what is written

not_second : (a b : Bool) → (a && not b) ≡ true → b ≡ false
not_second true true h = absurd cc
not_second true false h = refl
not_second false b h = absurd cc

neither : (a b : Bool) → (a || b) ≡ false → (a ≡ false) × (b ≡ false)
neither true b h = absurd cc
neither false b h = (refl, h)

record Quiet (kind : Kind) : Type 0 where
  no_partial : same kind kinds.Partial ≡ false
  no_shared : same kind kinds.Shared ≡ false
  no_debug : same kind kinds.KeepDebug ≡ false

quiet_kind : (kind : Kind) → is_quiet kind ≡ true → Quiet kind
quiet_kind kind h =
    let a = neither (same kind kinds.Partial) (same kind kinds.Shared || same kind kinds.KeepDebug) (not_second (is_plain kind) (says_what kind) h) in
    let b = neither (same kind kinds.Shared) (same kind kinds.KeepDebug) a.1 in
    record { no_partial = a.0; no_shared = b.0; no_debug = b.1 }

-- behind pieces of which none has the kind
behind_quiet : (kind : Kind) → ((other : Kind) → is_quiet other ≡ true → same other kind ≡ false) → (ps more : List Piece) (has : Bool) → Every IsQuiet ps → has_kind kind more ≡ has → has_kind kind (ps ++ more) ≡ has
behind_quiet kind others [] more has all h = h
behind_quiet kind others (p ∷ ps) more has all h = (λ i. others p.kind all.0 i || has_kind kind (ps ++ more)) ∙ behind_quiet kind others ps more has all.1 h

-- an option without a value in front of others, where it is asked for
with_flag : Kind → List ℕ → Bool → List Piece → List Piece
with_flag kind name true ps = record { kind = kind; value = []; own = name ∷ [] } ∷ ps
with_flag kind name false ps = ps

flag_words : (kind : Kind) (name : List ℕ) (b : Bool) (ps : List Piece) → words_of (with_flag kind name b ps) ≡ cond b (name ∷ []) [] ++ words_of ps
unfolding with_flag
flag_words kind name true ps = refl
flag_words kind name false ps = refl

flag_options : (kind : Kind) (name : List ℕ) (b : Bool) (ps : List Piece) → row_of options name ≡ Some (record { kind = kind; takes = takes.Nothing }) → same kind kinds.OnlyInputs ≡ false → is_plain kind ≡ true
    → Every IsOption ps → Every IsOption (with_flag kind name b ps)
unfolding with_flag
flag_options kind name true ps row more plain all = (is_option kind name [] takes.Nothing (name ∷ []) row (refl, refl) more plain, all)
flag_options kind name false ps row more plain all = all

own_kind : (kind : Kind) (name : List ℕ) (b : Bool) (ps : List Piece) → same kind kind ≡ true → has_kind kind ps ≡ false → has_kind kind (with_flag kind name b ps) ≡ b
unfolding with_flag
own_kind kind name true ps itself absent = (λ i. itself i || has_kind kind ps)
own_kind kind name false ps itself absent = absent

other_kind : (kind other : Kind) (name : List ℕ) (b : Bool) (ps : List Piece) → same other kind ≡ false → has_kind kind (with_flag other name b ps) ≡ has_kind kind ps
unfolding with_flag
other_kind kind other name true ps differs = (λ i. differs i || has_kind kind ps)
other_kind kind other name false ps differs = refl

debug_pieces : Bool → List Piece
debug_pieces keeps = with_flag kinds.KeepDebug (codes "--keep-debug") keeps []

shared_pieces : Bool → Bool → List Piece
shared_pieces shared keeps = with_flag kinds.Shared (codes "-shared") shared (debug_pieces keeps)

last_pieces : Bool → Bool → Bool → List Piece
last_pieces partial shared keeps = with_flag kinds.Partial (codes "-r") partial (shared_pieces shared keeps)

-- options with an output, which ask for an object or don't, for a shared output or don't, and keep debug sections or don't
pub record Ask (partial shared keeps : Bool) (words : List (List ℕ)) : Type 0 where
  pub pieces : List Piece
  pub words_are : words ≡ words_of pieces
  pub all : Every IsOption pieces
  pub output : has_kind kinds.Output pieces ≡ true
  pub partial_is : has_kind kinds.Partial pieces ≡ partial
  pub shared_is : has_kind kinds.Shared pieces ≡ shared
  pub debug : has_kind kinds.KeepDebug pieces ≡ keeps

four_parts : (words a b c : List (List ℕ)) → ((words ++ a) ++ b) ++ c ≡ words ++ (a ++ (b ++ (c ++ [])))
four_parts words a b c = append_assoc (words ++ a) b c ∙ append_assoc words a (b ++ c) ∙ (λ i. words ++ (a ++ (b ++ sym (append-nil c) i)))

last_words : (partial shared keeps : Bool)
    → words_of (last_pieces partial shared keeps) ≡ cond partial (codes "-r" ∷ []) [] ++ (cond shared (codes "-shared" ∷ []) [] ++ (cond keeps (codes "--keep-debug" ∷ []) [] ++ []))
unfolding last_pieces shared_pieces debug_pieces
last_words partial shared keeps =
    flag_words kinds.Partial (codes "-r") partial (shared_pieces shared keeps)
    ∙ (λ i. cond partial (codes "-r" ∷ []) [] ++ flag_words kinds.Shared (codes "-shared") shared (debug_pieces keeps) i)
    ∙ (λ i. cond partial (codes "-r" ∷ []) [] ++ (cond shared (codes "-shared" ∷ []) [] ++ flag_words kinds.KeepDebug (codes "--keep-debug") keeps [] i))

last_options : (partial shared keeps : Bool) → Every IsOption (last_pieces partial shared keeps)
unfolding last_pieces shared_pieces debug_pieces
last_options partial shared keeps =
    flag_options kinds.Partial (codes "-r") partial (shared_pieces shared keeps) refl refl refl
    (flag_options kinds.Shared (codes "-shared") shared (debug_pieces keeps) refl refl refl (flag_options kinds.KeepDebug (codes "--keep-debug") keeps [] refl refl refl tt))

last_partial : (partial shared keeps : Bool) → has_kind kinds.Partial (last_pieces partial shared keeps) ≡ partial
unfolding last_pieces shared_pieces debug_pieces
last_partial partial shared keeps =
    own_kind kinds.Partial (codes "-r") partial (shared_pieces shared keeps) refl
    (other_kind kinds.Partial kinds.Shared (codes "-shared") shared (debug_pieces keeps) refl ∙ other_kind kinds.Partial kinds.KeepDebug (codes "--keep-debug") keeps [] refl)

last_shared : (partial shared keeps : Bool) → has_kind kinds.Shared (last_pieces partial shared keeps) ≡ shared
unfolding last_pieces shared_pieces debug_pieces
last_shared partial shared keeps =
    other_kind kinds.Shared kinds.Partial (codes "-r") partial (shared_pieces shared keeps) refl
    ∙ own_kind kinds.Shared (codes "-shared") shared (debug_pieces keeps) refl (other_kind kinds.Shared kinds.KeepDebug (codes "--keep-debug") keeps [] refl)

last_debug : (partial shared keeps : Bool) → has_kind kinds.KeepDebug (last_pieces partial shared keeps) ≡ keeps
unfolding last_pieces shared_pieces debug_pieces
last_debug partial shared keeps =
    other_kind kinds.KeepDebug kinds.Partial (codes "-r") partial (shared_pieces shared keeps) refl
    ∙ other_kind kinds.KeepDebug kinds.Shared (codes "-shared") shared (debug_pieces keeps) refl
    ∙ own_kind kinds.KeepDebug (codes "--keep-debug") keeps [] refl refl

pub and_ask : (partial shared keeps : Bool) (words : List (List ℕ)) → HaveKind kinds.Output words
    → Ask partial shared keeps (((words ++ cond partial (codes "-r" ∷ []) []) ++ cond shared (codes "-shared" ∷ []) []) ++ cond keeps (codes "--keep-debug" ∷ []) [])
and_ask partial shared keeps words x =
    let last = last_pieces partial shared keeps in
    record {
      pieces = x.options.pieces ++ last;
      words_are =
          four_parts words (cond partial (codes "-r" ∷ []) []) (cond shared (codes "-shared" ∷ []) []) (cond keeps (codes "--keep-debug" ∷ []) [])
          ∙ (λ i. x.options.words_are i ++ sym (last_words partial shared keeps) i)
          ∙ sym (words_both x.options.pieces last);
      all = all_both IsOption x.options.pieces last x.options.all (last_options partial shared keeps);
      output = any_left kinds.Output x.options.pieces last x.has;
      partial_is = behind_quiet kinds.Partial (λ other h. (quiet_kind other h).no_partial) x.options.pieces last partial x.options.quiet (last_partial partial shared keeps);
      shared_is = behind_quiet kinds.Shared (λ other h. (quiet_kind other h).no_shared) x.options.pieces last shared x.options.quiet (last_shared partial shared keeps);
      debug = behind_quiet kinds.KeepDebug (λ other h. (quiet_kind other h).no_debug) x.options.pieces last keeps x.options.quiet (last_debug partial shared keeps);
    }
