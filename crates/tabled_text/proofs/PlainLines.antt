-- Plain lines: what they are made of, and the lines of a plain text.
use Rattle.tabled_text.proofs.Names.{All, IsAdditive, IsAdditiveColumn, IsAdditiveLine, IsPlainColumn, IsScalar, IsUtf8-append}
use Rattle.tabled_text.proofs.Names.{IsUtf8-encode, IsUtf8-nil, List, [], and_from, and_parts, ap, append-nil, arith, char_columns, chars}
use Rattle.tabled_text.proofs.Names.{chars-append, chars-encodes, chars-nil, encode_ascii, encode_utf8, encodes-chars, eq-eqb, eqb-true}
use Rattle.tabled_text.proofs.Names.{false, get_or-map, get_or_default, has_plain_width, is_additive, is_additive_or_feed, is_drawn}
use Rattle.tabled_text.proofs.Names.{is_in_range, is_listed, is_listed_or_drawn, is_no_feed, is_plain_character, is_simple, length}
use Rattle.tabled_text.proofs.Names.{length-map, length-slice_split, line_columns, lines_of, list_all, list_all-append, map, nat_tests, not}
use Rattle.tabled_text.proofs.Names.{or_cases, or_left, or_right, refl, scalar, slice_index_or, str_width, str_width-append_simple, subst}
use Rattle.tabled_text.proofs.Names.{sum_by, sum_by-cons, sym, text_columns, true, ℕ, ⊎_elim, ◌&&◌, ◌*◌, ◌++◌, ◌+◌, ◌<◌, ◌==◌, ◌||◌, ◌∙◌}
use Rattle.tabled_text.proofs.Names.{◌∷◌, ◌≡◌, ◌≤◌}
use Rattle.tabled_text.specs.Plain.{IsPlain, is_plain_or_feed}
use Rattle.std.proofs.lemmas.List.Sums.{count_by-le-length}
use Rattle.std.proofs.lemmas.Str.{length-le-encodes}
use Rattle.tabled_text.proofs.Basics.{all-weaker}
use Rattle.tabled_text.proofs.Bridge.{each_in_lines, greatest-le, lines_length, lines_of-chars, lines_of-feedless, lines_of-one}
use Rattle.tabled_text.proofs.Bridge.{text_columns-one, utf8_lines}
use Rattle.tabled_text.proofs.LetterLemmas.{columns-printable}
use Rattle.tabled_text.proofs.PlainLemmas.{is_additive-plain, is_simple-plain, line_columns-plain}

-- ---- characters

pub scalar-listed : (c : ℕ) → is_listed_or_drawn c ≡ true → IsScalar c
scalar-listed c h = grind (arith, nat_tests)

-- printable ASCII is plain, and takes one column
pub plain_column-printable : (c : ℕ) → is_in_range 0x20 0x7E c ≡ true → IsAdditiveColumn c
plain_column-printable c h =
    let one = columns-printable c h in
    record {
      character = and_from (is_listed_or_drawn c) (has_plain_width c && is_simple c) (or_left (is_listed c) (is_drawn c) (or_left (is_in_range 0x20 0x7E c) _ h))
          (and_from (has_plain_width c) (is_simple c)
          (or_left (char_columns c == 1) (char_columns c == 2) (eq-eqb (char_columns c) 1 one)) (or_left (is_in_range 0x20 0x7E c) _ h));
      columns = one;
    }

-- plain ones of one column are additive
pub additive_column-plain : (c : ℕ) → IsPlainColumn c → IsAdditiveColumn c
additive_column-plain c h = record { character = is_additive-plain c h.character; columns = h.columns }

-- printable ASCII is so
pub only_plain-printable : (c : ℕ) → is_in_range 0x20 0x7E c ≡ true → IsPlainColumn c
only_plain-printable c h =
    let wide = and_parts (is_listed_or_drawn c) (has_plain_width c && is_simple c) (plain_column-printable c h).character in
    record {
      character = and_from (is_listed c) (has_plain_width c && is_simple c) (or_left (is_in_range 0x20 0x7E c) _ h) wide.1;
      columns = (plain_column-printable c h).columns;
    }

additive-each : (cs : List ℕ) → list_all is_plain_or_feed cs ≡ true → list_all is_additive_or_feed cs ≡ true
additive-each = all-weaker is_plain_or_feed is_additive_or_feed (λ c h.
    ⊎_elim (λ feed. or_left (c == 10) (is_additive c) feed)
    (λ own. or_right (c == 10) (is_additive c) (is_additive-plain c own)) (or_cases (c == 10) (is_plain_character c) h))

-- plain texts are additive
pub additive-plain : (text : List ℕ) → IsPlain text → IsAdditive text
additive-plain text h = record { utf8 = h.utf8; characters = additive-each (chars text) h.characters }

pub plain_column-space : IsAdditiveColumn 32
plain_column-space = plain_column-printable 32 refl

-- ---- pieces

pub plain_line-nil : IsAdditiveLine [] 0
unfolding str_width
plain_line-nil = record { utf8 = IsUtf8-nil; characters = ap (list_all is_additive) chars-nil; columns = ap (str_width false) chars-nil }

pub plain_line-append : {front back : List ℕ} {m n : ℕ} → IsAdditiveLine front m → IsAdditiveLine back n
    → IsAdditiveLine (front ++ back) (m + n)
plain_line-append {front} {back} {m} {n} p q = record {
  utf8 = IsUtf8-append front back p.utf8 q.utf8;
  characters = ap (list_all is_additive) (chars-append front back p.utf8) ∙ list_all-append is_additive (chars front) (chars back)
      ∙ ap (λ b. b && list_all is_additive (chars back)) p.characters ∙ q.characters;
  columns = ap (str_width false) (chars-append front back p.utf8) ∙ str_width-append_simple false (chars front)
      (chars back) (is_simple-plain (chars back) q.characters)
      ∙ ap (λ k. k + line_columns back) p.columns ∙ ap (λ k. m + k) q.columns;
}

-- the same with its columns written otherwise
pub plain_line-as : {line : List ℕ} {m n : ℕ} → IsAdditiveLine line m → m ≡ n → IsAdditiveLine line n
plain_line-as {line} p e = subst (λ k. IsAdditiveLine line k) e p

pub plain_line-one : (c : ℕ) → IsAdditiveColumn c → IsAdditiveLine (encode_utf8 c) 1
plain_line-one c h =
    let scalar_one : scalar c ≡ true = scalar-listed c (and_parts (is_listed_or_drawn c) (has_plain_width c && is_simple c) h.character).0 in
    let one : chars (encode_utf8 c) ≡ c ∷ [] = ap chars (sym (append-nil (encode_utf8 c))) ∙ chars-encodes (c ∷ [])
    (ap (λ b. b && true) scalar_one) in
    let all : list_all is_additive (c ∷ []) ≡ true = ap (λ b. b && true) h.character in
    record {
      utf8 = IsUtf8-encode c scalar_one;
      characters = ap (list_all is_additive) one ∙ all;
      columns = ap (str_width false) one ∙ line_columns-plain (c ∷ []) all ∙ (let e = h.columns in omega arith);
    }

-- printable ASCII takes as many columns as bytes
pub plain_line-printable : (line : List ℕ) → list_all (is_in_range 0x20 0x7E) line ≡ true → IsAdditiveLine line (length line)
plain_line-printable [] h = plain_line-nil
plain_line-printable (c ∷ line) h =
    let parts = and_parts (is_in_range 0x20 0x7E c) (list_all (is_in_range 0x20 0x7E) line) h in
    let small : c < 128 = grind (arith, nat_tests) in
    let own = subst (λ l. IsAdditiveLine l 1) (encode_ascii c small) (plain_line-one c (plain_column-printable c parts.0)) in
    plain_line-as (plain_line-append own (plain_line-printable line parts.1)) (omega arith)

-- ---- the lines of a plain text

pub plain_line-each : (text : List ℕ) → IsAdditive text → (k : ℕ) → k < length (lines_of text)
    → IsAdditiveLine (slice_index_or (lines_of text) k []) (line_columns (slice_index_or (lines_of text) k []))
plain_line-each text h k l =
    let lines = lines_of text in
    let all = subst (All (λ x. list_all is_additive x ≡ true)) (lines_of-chars text h.utf8)
    (each_in_lines is_additive (chars text) h.characters) in
    let long : length (map chars lines) ≡ length lines = length-map lines chars in
    let own = all k [] (omega arith) in
    record {
      utf8 = utf8_lines text h.utf8 k [] l;
      characters = subst (λ x. list_all is_additive x ≡ true) (get_or-map chars lines k [] [] l) own;
      columns = refl;
    }

-- ---- a plain line as a text

not_feed : (c : ℕ) → is_listed_or_drawn c ≡ true → (c == 10) ≡ false
not_feed c h = grind (arith, nat_tests)

-- plain characters are one line
pub one_line : (cs : List ℕ) → list_all is_additive cs ≡ true → lines_of cs ≡ cs ∷ []
one_line cs h = lines_of-feedless cs (all-weaker is_additive is_no_feed
    (λ c a. ap not (not_feed c (and_parts (is_listed_or_drawn c) (has_plain_width c && is_simple c) a).0)) cs h)

-- it has no line feed
pub plain_line-lines : {line : List ℕ} {n : ℕ} → IsAdditiveLine line n → lines_of line ≡ line ∷ []
plain_line-lines {line} p =
    let e : length (map chars (lines_of line)) ≡ 1 = ap length (sym (lines_of-chars line p.utf8) ∙ one_line (chars line) p.characters) in
    lines_of-one line (sym (length-map (lines_of line) chars) ∙ e)

pub text_columns-plain_line : {line : List ℕ} {n : ℕ} → IsAdditiveLine line n → text_columns line ≡ n
text_columns-plain_line {line} p = text_columns-one line (ap length (plain_line-lines p)) ∙ p.columns

or_feed : (cs : List ℕ) → list_all is_additive cs ≡ true → list_all is_additive_or_feed cs ≡ true
or_feed [] h = refl
or_feed (c ∷ cs) h =
    let parts = and_parts (is_additive c) (list_all is_additive cs) h in
    and_from (is_additive_or_feed c) (list_all is_additive_or_feed cs) (or_right (c == 10) (is_additive c) parts.0) (or_feed cs parts.1)

pub plain_text-line : {line : List ℕ} {n : ℕ} → IsAdditiveLine line n → IsAdditive line
plain_text-line {line} p = record { utf8 = p.utf8; characters = or_feed (chars line) p.characters }

-- ---- bounds on the lines and the columns of a text by its bytes

-- a line takes a byte, but for the last
pub count_lines-le : (text : List ℕ) → length (lines_of text) ≤ length text + 1
count_lines-le text = omega (arith, length-slice_split (λ c. c == 10) text, count_by-le-length (λ c. c == 10) text)

plain_width-le : (w : ℕ) → ((w == 1) || (w == 2)) ≡ true → w ≤ 2
plain_width-le w h = ⊎_elim (λ a. let e = eqb-true w 1 a in omega arith) (λ a. let e = eqb-true w 2 a in omega arith) (or_cases _ _ h)

sum-le : (cs : List ℕ) → list_all is_additive cs ≡ true → sum_by char_columns cs ≤ 2 * length cs
sum-le [] h = omega arith
sum-le (c ∷ cs) h =
    let parts = and_parts (is_additive c) (list_all is_additive cs) h in
    let own = and_parts (has_plain_width c) (is_simple c) (and_parts (is_listed_or_drawn c) (has_plain_width c && is_simple c) parts.0).1 in
    omega (arith, plain_width-le (char_columns c) own.0, sum-le cs parts.1, sum_by-cons char_columns c cs)

-- a plain line takes at most two columns a byte
pub line_columns-le_bytes : (line : List ℕ) (n : ℕ) → IsAdditiveLine line n → line_columns line ≤ 2 * length line
line_columns-le_bytes line n p =
    let cs = chars line in
    omega (arith, line_columns-plain cs p.characters, sum-le cs p.characters, length-le-encodes cs, ap length (encodes-chars line p.utf8))

-- and so does a plain text
pub text_columns-le_bytes : (text : List ℕ) → IsAdditive text → text_columns text ≤ 2 * length text
text_columns-le_bytes text p =
    let lines = lines_of text in
    greatest-le line_columns (2 * length text) lines (λ k d h.
    let line : List ℕ = slice_index_or lines k [] in
    let same = get_or_default lines k d [] h in
    let own = line_columns-le_bytes line (line_columns line) (plain_line-each text p k h) in
    let short : length line ≤ length text = lines_length text k [] h in
    subst (λ l. line_columns l ≤ 2 * length text) (sym same) (omega (arith, own, short)))
