-- What is noted of settings is which of them are given.
use Rattle.tabled.proofs.Names.{All, All-cons, All-head, All-nil, All-tail, Buffered, Greatest, IfSome, Least, Leftmost, List, None, Option}
use Rattle.tabled.proofs.Names.{Order, Plan, Rightmost, Round, Shortened, Some, SpellsPlan, Streamed, Wrapped, [], ap, arith, digits_value}
use Rattle.tabled.proofs.Names.{drop, false, get_or, if◌then◌else◌, inl, inr, length, map, nat_tests, refl, subst, sym, true, ℕ, ◌++◌, ◌<◌}
use Rattle.tabled.proofs.Names.{◌==◌, ◌∙◌, ◌∷◌, ◌≡◌, ◌⊎◌}
use Rattle.std.proofs.Common.{◌≢◌, ◌↔◌, IfNone, is_some, bytes_eq, codes}
use Rattle.std.specs.List.{Contains}
use Rattle.std.proofs.lemmas.List.Elements.{Contains-get_or, Contains-push, Contains-push_cases, Contains-append_left}
use Rattle.std.proofs.lemmas.Option.{none-some}
use Rattle.std.proofs.lemmas.List.Quantifiers.{all_pairs_push}
use Rattle.std.proofs.lemmas.List.{get_or_append_left, length-append, append-nil}
use Rattle.std.proofs.Math.Seq.{get_or-append_seam}
use Rattle.tabled.specs.declared.arguments.Argument.{Argument}
use Rattle.tabled.specs.declared.arguments.Argument.TheVariants.{Wrap, Cut, Priority, Words, Stream}
use Rattle.tabled.specs.declared.arguments.Arguments.{Arguments}
use Rattle.tabled.specs.Arguments.{Adds, Notes, NotesAll, NotesName, NotesWords, Begins, GoTogether, IsCutting, IsOnce, IsOrder, IsWrapping}
use Rattle.tabled.specs.Arguments.{Makes, Spells, name_of, order_word}
use Rattle.std.specs.Char.{IsAsciiDigit}
use Rattle.std.proofs.lemmas.Str.Parse.{IsNumeralModel, numerals_by_value}

-- ---- words spell one list of settings at most

-- the order that a word is for, if it is for one
order_at : List ℕ → Order
order_at word =
    if bytes_eq word (codes "none") then Round else (if bytes_eq word (codes "min") then Least else (if bytes_eq word (codes "max")
    then Greatest else (if bytes_eq word (codes "left") then Leftmost else Rightmost)))

order_at-word : (order : Order) → order_at (order_word order) ≡ order
unfolding order_at
order_at-word Round = refl
order_at-word order = refl

-- the setting that words begin with, if they begin with one
setting_at : List (List ℕ) → Argument
setting_at words =
    let name = get_or words 0 [] in
    let value = get_or words 1 [] in
    if bytes_eq name (codes "--wrap") then Wrap (digits_value 10 value) else (if bytes_eq name (codes "--cut") then Cut (digits_value 10 value)
    else (if bytes_eq name (codes "--priority") then Priority (order_at value) else (if bytes_eq name (codes "--words") then Words else Stream)))

-- the words behind it
rest_at : List (List ℕ) → List (List ℕ)
rest_at words =
    let name = get_or words 0 [] in
    drop (if bytes_eq name (codes "--words") then 1 else (if bytes_eq name (codes "--stream") then 1 else 2)) words

-- the words with the values written out
joined : {words values own : List (List ℕ)} {name : List ℕ} (rest : List (List ℕ)) → words ≡ name ∷ (values ++ rest) → values ≡ own
    → words ≡ name ∷ (own ++ rest)
joined {words} {values} {own} {name} rest e v = e ∙ ap (λ (vs : List (List ℕ)). name ∷ (vs ++ rest)) v

setting_at-begins : (words : List (List ℕ)) (setting : Argument) (rest : List (List ℕ)) → Begins words setting rest → setting_at words ≡ setting
unfolding setting_at order_at
setting_at-begins words (Wrap target) rest (values, e, (word, own, number)) = ap setting_at (joined rest e own) ∙ ap Wrap number.value
setting_at-begins words (Cut target) rest (values, e, (word, own, number)) = ap setting_at (joined rest e own) ∙ ap Cut number.value
setting_at-begins words (Priority order) rest (values, e, own) = ap setting_at (joined rest e own) ∙ ap Priority (order_at-word order)
setting_at-begins words _ rest (values, e, own) = ap setting_at (joined rest e own)

rest_at-begins : (words : List (List ℕ)) (setting : Argument) (rest : List (List ℕ)) → Begins words setting rest → rest_at words ≡ rest
unfolding rest_at
rest_at-begins words (Wrap target) rest (values, e, (word, own, number)) = ap rest_at (joined rest e own)
rest_at-begins words (Cut target) rest (values, e, (word, own, number)) = ap rest_at (joined rest e own)
rest_at-begins words _ rest (values, e, own) = ap rest_at (joined rest e own)

-- words begin with one setting at most
pub begins_with_one : (words : List (List ℕ)) (one other : Argument) (rest others : List (List ℕ)) → Begins words one rest → Begins words other others
    → (one ≡ other) × (rest ≡ others)
begins_with_one words one other rest others p q = (
  sym (setting_at-begins words one rest p) ∙ setting_at-begins words other others q,
  sym (rest_at-begins words one rest p) ∙ rest_at-begins words other others q,
)

-- the words are those of the settings, and then the rest
abbrev pub SpellsBefore : List (List ℕ) → List Argument → List (List ℕ) → Type 0
SpellsBefore words [] rest = words ≡ rest
SpellsBefore words (setting ∷ settings) rest = (others : List (List ℕ)) × Begins words setting others × SpellsBefore others settings rest

-- with no rest, the settings are all that the words spell
pub spells_all : (words : List (List ℕ)) (settings : List Argument) → SpellsBefore words settings [] → Spells words settings
spells_all words [] h = h
spells_all words (setting ∷ settings) (others, begins, h) = (others, begins, spells_all others settings h)

-- one more setting is spelled by the words that it begins
pub spells_more : (words : List (List ℕ)) (settings : List Argument) (rest : List (List ℕ)) (setting : Argument) (left : List (List ℕ))
    → SpellsBefore words settings rest → Begins rest setting left → SpellsBefore words (settings ++ setting ∷ []) left
spells_more words [] rest setting left h begins = (left, let P : List (List ℕ) → Type 0 = λ ws. Begins ws setting left in subst P (sym h) begins, refl)
spells_more words (first ∷ settings) rest setting left (others, own, h) begins = (others, own, spells_more others settings rest setting left h begins)

-- all settings that words spell are those that spell a beginning, and then those of the rest
pub spells_rest : (words : List (List ℕ)) (settings : List Argument) (rest : List (List ℕ)) (all : List Argument)
    → SpellsBefore words settings rest → Spells words all → (left : List Argument) × (all ≡ settings ++ left) × Spells rest left
spells_rest words [] rest all h spelled = (all, refl, let P : List (List ℕ) → Type 0 = λ ws. Spells ws all in subst P h spelled)
spells_rest words (setting ∷ settings) rest [] (others, (values, e, own), h) spelled = absurd cc
spells_rest words (setting ∷ settings) rest (first ∷ all) (others, begins, h) (behind, begun, spelled) =
    let same = begins_with_one words setting first others behind begins begun in
    let P : List (List ℕ) → Type 0 = λ ws. Spells ws all in
    let (left, e, s) = spells_rest others settings rest all h (subst P (sym same.1) spelled) in
    (left, ap (λ (first : Argument). first ∷ all) (sym same.0) ∙ ap (λ (all : List Argument). setting ∷ all) e, s)

-- no words spell no settings
pub spells_nothing : (words : List (List ℕ)) (settings : List Argument) → words ≡ [] → Spells words settings → settings ≡ []
spells_nothing words [] e h = refl
spells_nothing words (setting ∷ settings) e (rest, (values, begins, own), h) = absurd cc

-- and the other way round
spells_before : (words : List (List ℕ)) (settings : List Argument) → Spells words settings → SpellsBefore words settings []
spells_before words [] h = h
spells_before words (setting ∷ settings) (rest, begins, h) = (rest, begins, spells_before rest settings h)

-- words spell one list of settings at most
pub spells_one : (words : List (List ℕ)) (settings all : List Argument) → Spells words settings → Spells words all → all ≡ settings
spells_one words settings all h spelled =
    let (left, e, rest) = spells_rest words settings [] all (spells_before words settings h) spelled in
    e ∙ ap (λ (left : List Argument). settings ++ left) (spells_nothing [] left refl rest) ∙ append-nil settings

-- a list that is mapped is empty where it was
pub map_nothing : {A : Type 0} (f : A → List ℕ) (xs : List A) → (length xs == 0) ≡ true → map f xs ≡ []
map_nothing f [] h = refl
map_nothing f (x ∷ xs) h = absurd (grind (arith, nat_tests))

-- and else it isn't
pub map_something : {A : Type 0} (f : A → List ℕ) (xs : List A) → (length xs == 0) ≡ false → map f xs ≢ []
map_something f [] h = absurd cc
map_something f (x ∷ xs) h = λ e. cc

-- a word that isn't empty has a length
pub not_empty : (word : List ℕ) → word ≢ [] → 0 < length word
not_empty [] h = absurd (h refl)
not_empty (c ∷ word) h = omega arith

-- the texts that `parse` reads as decimal numbers, but for a sign
pub decimals : IsNumeralModel (All IsAsciiDigit) (digits_value 10)
decimals = numerals_by_value (All IsAsciiDigit) (record {
  empty = All-nil IsAsciiDigit;
  parts = λ c cs h. (All-head IsAsciiDigit c cs h, All-tail IsAsciiDigit c cs h);
  more = λ c cs h all. All-cons IsAsciiDigit c cs h all;
})

-- the value that is there
there : {X : Type 0} (found : Option X) → is_some found ≡ true → (x : X) × (found ≡ Some x)
there None h = absurd cc
there (Some x) h = (x, refl)

-- a setting is noted by its name where one with another value is
pub notes_as : {X : Type 0} (make : X → Argument) (noted : Arguments) (setting : Argument) (target : X) (found : Option X)
    → setting ≡ make target → is_some found ≡ true → ((old : X) → found ≡ Some old → Notes noted (make old))
    → ((old : X) → name_of (make old) ≡ name_of (make target)) → NotesName noted setting
notes_as make noted setting target found is some notes named =
    let (old, e) = there found some in (make old, notes old e, named old ∙ ap name_of (sym is))

-- no setting begins no words
nothing_begins : (rest behind : List (List ℕ)) (setting : Argument) → rest ≡ [] → ¬ Begins rest setting behind
nothing_begins rest behind setting e (values, begins, own) = cc

-- the words up to the rest spell settings of different names, which are noted
pub record ReadsTo (words : List (List ℕ)) (noted : Arguments) (rest : List (List ℕ)) : Type 0 where
  pub settings : List Argument
  pub spelled : SpellsBefore words settings rest
  pub once : IsOnce settings
  pub noted_all : NotesAll noted settings

-- a setting that begins the rest, of a name that wasn't noted, is read too
pub reads_more : (words : List (List ℕ)) (noted new : Arguments) (rest left : List (List ℕ)) (setting : Argument)
    → ReadsTo words noted rest → Begins rest setting left → Adds noted setting new → ReadsTo words new left
reads_more words noted new rest left setting read begins adds = record {
  settings = read.settings ++ setting ∷ [];
  spelled = spells_more words read.settings rest setting left read.spelled begins;
  once = all_pairs_push (λ one other. name_of one ≢ name_of other) read.settings setting read.once
      (λ k d h e. adds.fresh (get_or read.settings k d, (read.noted_all _).1 (Contains-get_or read.settings k d h), e));
  noted_all = λ other. (
    λ h. elim ((adds.noted other).0 h) [
      | inl old ↦ Contains-append_left read.settings (setting ∷ []) other ((read.noted_all other).0 old)
      | inr same ↦ subst (Contains (read.settings ++ setting ∷ [])) (sym same) (Contains-push read.settings setting)
    ],
    λ h. (adds.noted other).1 (elim (Contains-push_cases read.settings setting other h) [
      | inl old ↦ inl ((read.noted_all other).1 old)
      | inr same ↦ inr (sym same)
    ]),
  );
}

-- where no setting begins the rest, no settings are spelled
pub reads_no_more : (words : List (List ℕ)) (noted : Arguments) (rest : List (List ℕ)) → ReadsTo words noted rest → rest ≢ []
    → ((setting : Argument) (left : List (List ℕ)) → ¬ Begins rest setting left) → (all : List Argument) → ¬ Spells words all
reads_no_more words noted rest read more none all spelled =
    let (left, e, others) = spells_rest words read.settings rest all read.spelled spelled in
    nothing left others
  where
    nothing : (left : List Argument) → ¬ Spells rest left
    nothing [] h = more h
    nothing (setting ∷ left) (others, begins, h) = none setting others begins

-- where nothing is left, all words were read
pub reads_all : (words : List (List ℕ)) (noted : Arguments) (rest : List (List ℕ)) → ReadsTo words noted rest → rest ≡ [] → NotesWords words noted
reads_all words noted rest read none = record {
  settings = read.settings;
  spelled = spells_all words read.settings (subst (SpellsBefore words read.settings) none read.spelled);
  once = read.once;
  noted_all = read.noted_all;
}

-- a name that settings have stands twice where another setting of that name follows
twice : (settings left : List Argument) (other setting : Argument) → Contains settings other → name_of other ≡ name_of setting
    → ¬ IsOnce (settings ++ setting ∷ left)
twice settings left other setting (k, within, at) name once =
    once k (length settings) other within (simp length-append (omega arith))
    (ap name_of (get_or_append_left settings (setting ∷ left) other k within ∙ at) ∙ name
    ∙ ap name_of (sym (get_or-append_seam settings setting left other)))

-- where the next name was noted, it stands twice in what is spelled
pub reads_twice : (words : List (List ℕ)) (noted : Arguments) (rest behind : List (List ℕ)) (setting : Argument)
    → ReadsTo words noted rest → Begins rest setting behind → NotesName noted setting → (all : List Argument) → Spells words all → ¬ IsOnce all
reads_twice words noted rest behind setting read begins (other, old, name) all spelled once =
    let (left, e, others) = spells_rest words read.settings rest all read.spelled spelled in
    stands_twice left others (subst IsOnce e once)
  where
    stands_twice : (left : List Argument) → Spells rest left → ¬ IsOnce (read.settings ++ left)
    stands_twice [] h = absurd (nothing_begins rest behind setting h begins)
    stands_twice (next ∷ left) (others, begun, h) =
        twice read.settings left other next ((read.noted_all other).0 old)
        (name ∙ ap name_of (begins_with_one rest setting next behind others begins begun).0)

-- What is told of settings by which are given is the same where the same are given.
module _ (P Q : Argument → Type 0) (so : (setting : Argument) → P setting → Q setting) where
  wraps : IsWrapping P → IsWrapping Q
  wraps (target, h) = (target, so (Wrap target) h)

  cuts : IsCutting P → IsCutting Q
  cuts (target, h) = (target, so (Cut target) h)

  limits : IsWrapping P ⊎ IsCutting P → IsWrapping Q ⊎ IsCutting Q
  limits (inl h) = inl (wraps h)
  limits (inr h) = inr (cuts h)

module _ (P Q : Argument → Type 0) (same : (setting : Argument) → P setting ↔ Q setting) where
  back : (setting : Argument) → Q setting → P setting
  back setting = (same setting).1

  together_same : GoTogether P → GoTogether Q
  together_same go = record {
    one_target = λ h. go.one_target (wraps Q P back h.0, cuts Q P back h.1);
    words_to_wrap = λ h. wraps P Q (λ s. (same s).0) (go.words_to_wrap (back Words h));
    order_for_target = λ h. limits P Q (λ s. (same s).0) (go.order_for_target (h.0, back (Priority h.0) h.1));
    stream_alone = λ h limit. go.stream_alone (back Stream h) (limits Q P back limit);
  }

  order_same : (order : Order) → IsOrder P order → IsOrder Q order
  order_same order (inl h) = inl ((same (Priority order)).0 h)
  order_same order (inr h) = inr (λ h'. h.0 (h'.0, (same (Priority h'.0)).1 h'.1), h.1)

  makes_same : (plan : Plan) → Makes P plan → Makes Q plan
  makes_same Buffered h = (λ w. h.0 (wraps Q P back w), λ c. h.1 (cuts Q P back c), λ s. h.2 (back Stream s))
  makes_same Streamed h = (same Stream).0 h
  makes_same (Wrapped target words order) h = (
    (same (Wrap target)).0 h.0,
    (λ w. (same Words).0 (h.1.0 w), λ w. h.1.1 ((same Words).1 w)),
    order_same order h.2,
  )
  makes_same (Shortened target order) h = ((same (Cut target)).0 h.0, order_same order h.1)

-- the plan of the noted settings is the one that the words spell
pub notes_plan : (words : List (List ℕ)) (noted : Arguments) → NotesWords words noted → (plan : Plan)
    → (GoTogether (Notes noted) × Makes (Notes noted) plan) ↔ SpellsPlan words plan
notes_plan words noted h plan = (
  λ made. record {
    settings = h.settings;
    spelled = h.spelled;
    once = h.once;
    together = together_same (Notes noted) (Contains h.settings) h.noted_all made.0;
    made = makes_same (Notes noted) (Contains h.settings) h.noted_all plan made.1;
  },
  λ spells.
      let e = spells_one words h.settings spells.settings h.spelled spells.spelled in
      let back : (setting : Argument) → Contains spells.settings setting ↔ Notes noted setting =
      let Same : List Argument → Type 0 = λ settings. (setting : Argument) → Contains settings setting ↔ Notes noted setting in
      subst Same (sym e) (λ setting. ((h.noted_all setting).1, (h.noted_all setting).0)) in (
        together_same (Contains spells.settings) (Notes noted) back spells.together,
        makes_same (Contains spells.settings) (Notes noted) back plan spells.made,
      ),
)

-- no plan is spelled where none was found
pub none_spelled : (words : List (List ℕ)) (found : Option Plan) → ((plan : Plan) → (found ≡ Some plan) ↔ SpellsPlan words plan)
    → IfNone found ((plan : Plan) → ¬ SpellsPlan words plan)
none_spelled words None same = λ plan spelled. let e : None ≡ Some plan = (same plan).1 spelled in none-some plan e
none_spelled words (Some plan) same = tt

-- the plan that was found is spelled
pub some_spelled : (words : List (List ℕ)) (found : Option Plan) → ((plan : Plan) → (found ≡ Some plan) ↔ SpellsPlan words plan)
    → IfSome found (SpellsPlan words)
some_spelled words None same = tt
some_spelled words (Some plan) same = (same plan).0 refl
