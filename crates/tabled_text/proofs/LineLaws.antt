-- Where columns add up: around separators, and in joined and framed lines of any characters.
use Rattle.tabled_text.proofs.Names.{All, All-head, All-tail, Bool, EndsApart, IsAdditiveColumn, IsFrame, IsLine, IsPlainColumn}
use Rattle.tabled_text.proofs.Names.{IsSeparatorColumn, IsUtf8, IsUtf8-append, List, Reading, [], and_from, and_parts, ap, append-nil}
use Rattle.tabled_text.proofs.Names.{append_assoc, arith, begins_apart, begins_with_selector, cases_Bool, char_columns, chars, chars-append}
use Rattle.tabled_text.proofs.Names.{chars-encodes, columns_of, encode_utf8, ends_before, false, flat_map, get_or-map, has_plain_width, inl}
use Rattle.tabled_text.proofs.Names.{inr, is_additive, is_keycap_base, is_listed_or_drawn, is_no_feed, is_separator, is_simple, length}
use Rattle.tabled_text.proofs.Names.{length-map, line_columns, lines_of, list_all, list_all-append, map, meet, not, not-true, or_cases}
use Rattle.tabled_text.proofs.Names.{or_left, or_right, plain, read_before, refl, replicate, scalar, slice_index_or, stands_before, step}
use Rattle.tabled_text.proofs.Names.{str_width, str_width-append_simple, subst, suc, sum_by, sum_by-cons, sym, true, zero, ℕ, ⊎_elim, ◌&&◌}
use Rattle.tabled_text.proofs.Names.{◌++◌, ◌+◌, ◌<◌, ◌==◌, ◌||◌, ◌↔◌, ◌∙◌, ◌∷◌, ◌≡◌, ◌⊎◌}
use Rattle.std.proofs.Common.{add_comm, zero-add}
use Rattle.std.proofs.Math.Bool.{or-not_self}
use Rattle.tabled_text.proofs.Basics.{all-weaker}
use Rattle.tabled_text.proofs.Bridge.{each_in_lines, lines_of-chars, utf8_lines}
use Rattle.tabled_text.proofs.PlainLines.{additive_column-plain, only_plain-printable, plain_line-one, scalar-listed}
use Rattle.tabled_text.proofs.SeparatorSteps.{keycap-printable, step-flag, step-keycap, step-separator}
use Rattle.tabled_text.proofs.WrapRoom.{not_break, plain_space}

-- ---- separators, by characters

-- ---- texts that leave no state

read_before-append : (xs ys : List ℕ) (r : Reading) → read_before false (xs ++ ys) r ≡ read_before false xs (read_before false ys r)
read_before-append [] ys r = refl
read_before-append (x ∷ xs) ys r = ap (step false x) (read_before-append xs ys r)

-- spaces give every total
spaces : (k : ℕ) → (list_all is_simple (replicate k 32) ≡ true) × (read_before false (replicate k 32) (0, plain) ≡ (k, plain))
spaces zero = (refl, refl)
spaces (suc k) =
    let rest = spaces k in (
      rest.0,
      ap (step false 32) rest.1 ∙ step-separator 32 k plain plain_space.0 refl
          ∙ (let e : k + char_columns 32 ≡ suc k = (let w = plain_space.1 in omega arith) in ap (λ n. (n, plain)) e),
    )

-- what was read after a text in the plain state adds to it
read_before-plain : (xs : List ℕ) (k : ℕ) → (read_before false xs (k, plain)).0 ≡ columns_of xs + k
unfolding str_width
read_before-plain xs k =
    let s = spaces k in
    ap (λ r. (read_before false xs r).0) (sym s.1) ∙ ap (λ r. r.0) (sym (read_before-append xs (replicate k 32) (0, plain)))
    ∙ str_width-append_simple false xs (replicate k 32) s.0 ∙ ap (λ r. columns_of xs + r.0) s.1

-- columns add up before a text that leaves no state
columns-append : (front back : List ℕ) → (read_before false back (0, plain)).1 ≡ plain
    → columns_of (front ++ back) ≡ columns_of front + columns_of back
unfolding str_width
columns-append front back h =
    ap (λ r. r.0) (read_before-append front back (0, plain)) ∙ ap (λ s. (read_before false front ((read_before false back (0, plain)).0, s)).0) h
    ∙ read_before-plain front (read_before false back (0, plain)).0

-- ---- characters that stand apart

no_selector-flag : (back : List ℕ) → begins_with_selector back ≡ false → (read_before false back (0, plain)).1.emoji ≡ false
no_selector-flag [] h = refl
no_selector-flag (c ∷ cs) h = let r = read_before false cs (0, plain) in step-flag c r.0 r.1 h

and-first : (a b : Bool) → (a && b) ≡ false → a ≡ true → b ≡ false
and-first true b h e = h
and-first false b h e = cc

read_before-apart : (c : ℕ) (back : List ℕ) → stands_before c back ≡ true
    → read_before false (c ∷ back) (0, plain) ≡ (columns_of back + char_columns c, plain)
unfolding str_width
read_before-apart c back h =
    let r = read_before false back (0, plain) in
    let parts = and_parts (is_additive c) (not (is_keycap_base c && begins_with_selector back)) h in
    let other = not-true (is_keycap_base c && begins_with_selector back) parts.1 in
    ⊎_elim (λ y. step-keycap c r.0 r.1 y (no_selector-flag back (and-first (is_keycap_base c) (begins_with_selector back) other y)))
    (λ n. step-separator c r.0 r.1 parts.0 n) (cases_Bool (is_keycap_base c))

columns-first : (c : ℕ) (back : List ℕ) → stands_before c back ≡ true → columns_of (c ∷ back) ≡ char_columns c + columns_of back
unfolding str_width
columns-first c back h = ap (λ r. r.0) (read_before-apart c back h) ∙ add_comm (columns_of back) (char_columns c)

-- around a character that stands apart
columns-around : (c : ℕ) (front back : List ℕ) → stands_before c back ≡ true
    → columns_of (front ++ c ∷ back) ≡ columns_of front + (char_columns c + columns_of back)
columns-around c front back h =
    columns-append front (c ∷ back) (ap (λ r. r.1) (read_before-apart c back h)) ∙ ap (λ n. columns_of front + n) (columns-first c back h)

stands_before-separator : (c : ℕ) (back : List ℕ) → is_separator c ≡ true → stands_before c back ≡ true
stands_before-separator c back h =
    let parts = and_parts (is_additive c) (not (is_keycap_base c)) h in
    let e = not-true (is_keycap_base c) parts.1 in
    and_from (is_additive c) (not (is_keycap_base c && begins_with_selector back)) parts.0 (ap (λ b. not (b && begins_with_selector back)) e)

pub columns-separator : (c : ℕ) (back : List ℕ) → is_separator c ≡ true → columns_of (c ∷ back) ≡ char_columns c + columns_of back
columns-separator c back h = columns-first c back (stands_before-separator c back h)

pub columns-between : (c : ℕ) (front back : List ℕ) → is_separator c ≡ true
    → columns_of (front ++ c ∷ back) ≡ columns_of front + (char_columns c + columns_of back)
columns-between c front back h = columns-around c front back (stands_before-separator c back h)

-- ---- two texts

columns-begins : (front back : List ℕ) → begins_apart back ≡ true → columns_of (front ++ back) ≡ columns_of front + columns_of back
columns-begins front [] h = columns-append front [] refl
columns-begins front (c ∷ back) h = columns-append front (c ∷ back) (ap (λ r. r.1) (read_before-apart c back h))

-- a text that is empty, or ends with some character
record HasEnd (front back : List ℕ) : Type 0 where
  rest : List ℕ
  last : ℕ
  parts : front ≡ rest ++ last ∷ []
  stands : stands_before last back ≡ true

has_end : (c : ℕ) (cs back : List ℕ) → ends_before (c ∷ cs) back ≡ true → HasEnd (c ∷ cs) back
has_end c [] back h = record { rest = []; last = c; parts = refl; stands = h }
has_end c (d ∷ cs) back h = let e = has_end d cs back h in record { rest = c ∷ e.rest; last = e.last; parts = ap (λ l. c ∷ l) e.parts; stands = e.stands }

stands_before-nil : (c : ℕ) (back : List ℕ) → stands_before c back ≡ true → stands_before c [] ≡ true
stands_before-nil c back h =
    and_from (is_additive c) (not (is_keycap_base c && false))
    (and_parts (is_additive c) (not (is_keycap_base c && begins_with_selector back)) h).0 (nothing (is_keycap_base c))
  where
    nothing : (b : Bool) → not (b && false) ≡ true
    nothing true = refl
    nothing false = refl

columns-ends : (front back : List ℕ) → ends_before front back ≡ true → columns_of (front ++ back) ≡ columns_of front + columns_of back
unfolding str_width
columns-ends [] back h = sym (zero-add (columns_of back))
columns-ends (c ∷ cs) back h =
    let e = has_end c cs back h in
    let own : columns_of (c ∷ cs) ≡ columns_of e.rest + (char_columns e.last + columns_of []) = ap columns_of e.parts ∙ columns-around e.last e.rest []
    (stands_before-nil e.last back e.stands) in
    let all : columns_of ((c ∷ cs) ++ back) ≡ columns_of e.rest + (char_columns e.last + columns_of back) =
    ap (λ l. columns_of (l ++ back)) e.parts ∙ ap columns_of (append_assoc e.rest (e.last ∷ []) back) ∙ columns-around e.last e.rest back e.stands in
    let none : columns_of [] ≡ 0 = refl in
    all ∙ (let z : columns_of e.rest + (char_columns e.last + columns_of back) ≡ columns_of (c ∷ cs) + columns_of back = omega (arith, own, none) in z)

pub columns-meet : (front back : List ℕ) → meet front back ≡ true → columns_of (front ++ back) ≡ columns_of front + columns_of back
columns-meet front back h = ⊎_elim (columns-begins front back) (columns-ends front back) (or_cases (begins_apart back) (ends_before front back) h)

-- ---- separators alone

pub begins_apart-separators : (cs back : List ℕ) → list_all is_separator cs ≡ true → begins_apart back ≡ true
    → begins_apart (cs ++ back) ≡ true
begins_apart-separators [] back h b = b
begins_apart-separators (c ∷ cs) back h b = stands_before-separator c (cs ++ back) (and_parts (is_separator c) (list_all is_separator cs) h).0

pub ends_before-separators : (cs back : List ℕ) → list_all is_separator cs ≡ true → ends_before cs back ≡ true
ends_before-separators [] back h = refl
ends_before-separators (c ∷ []) back h = stands_before-separator c back (and_parts (is_separator c) true h).0
ends_before-separators (c ∷ d ∷ cs) back h = ends_before-separators (d ∷ cs) back (and_parts (is_separator c) (list_all is_separator (d ∷ cs)) h).1

-- ---- additive characters of one column

-- a keycap base is printable ASCII, which is plain
pub additive_column-splits : (c : ℕ) → IsAdditiveColumn c ↔ (IsPlainColumn c ⊎ IsSeparatorColumn c)
additive_column-splits c = (
  λ h. ⊎_elim (λ y. inl (only_plain-printable c (keycap-printable c y))) (λ n. inr (record { additive = h; steady = n }))
      (cases_Bool (is_keycap_base c)),
  λ either. ⊎_elim (additive_column-plain c) (λ s. s.additive) either,
)

-- ---- lines, by bytes

-- the same with its columns written otherwise
line-as : {line : List ℕ} {m n : ℕ} → IsLine line m → m ≡ n → IsLine line n
line-as {line} p e = subst (λ k. IsLine line k) e p

-- ---- two lines

pub line-append : {front back : List ℕ} {m n : ℕ} → IsLine front m → IsLine back n → meet (chars front) (chars back) ≡ true
    → IsLine (front ++ back) (m + n)
line-append {front} {back} {m} {n} p q h =
    let e = chars-append front back p.utf8 in record {
      utf8 = IsUtf8-append front back p.utf8 q.utf8;
      feedless = ap (list_all is_no_feed) e ∙ list_all-append is_no_feed (chars front) (chars back)
          ∙ ap (λ b. b && list_all is_no_feed (chars back)) p.feedless ∙ q.feedless;
      columns = ap columns_of e ∙ columns-meet (chars front) (chars back) h
          ∙ ap (λ k. k + line_columns back) p.columns ∙ ap (λ k. m + k) q.columns;
    }

-- ---- frames

no_feed-plain : (cs : List ℕ) → list_all is_separator cs ≡ true → list_all is_no_feed cs ≡ true
no_feed-plain = all-weaker is_separator is_no_feed (λ c h. ap not (not_break c (and_parts (is_additive c) (not (is_keycap_base c)) h).0))

pub line-frame : {text : List ℕ} {n : ℕ} → IsFrame text n → IsLine text n
line-frame {text} p = record { utf8 = p.utf8; feedless = no_feed-plain (chars text) p.separators; columns = p.columns }

pub frame-append : {front back : List ℕ} {m n : ℕ} → IsFrame front m → IsFrame back n → IsFrame (front ++ back) (m + n)
frame-append {front} {back} {m} {n} p q =
    let e = chars-append front back p.utf8 in
    let met = or_right (begins_apart (chars back)) (ends_before (chars front) (chars back))
    (ends_before-separators (chars front) (chars back) p.separators) in
    record {
      utf8 = IsUtf8-append front back p.utf8 q.utf8;
      separators = ap (list_all is_separator) e ∙ list_all-append is_separator (chars front) (chars back)
          ∙ ap (λ b. b && list_all is_separator (chars back)) p.separators ∙ q.separators;
      columns = (line-append (line-frame p) (line-frame q) met).columns;
    }

pub chars-one : (c : ℕ) → IsAdditiveColumn c → chars (encode_utf8 c) ≡ c ∷ []
chars-one c h =
    let scalar_one : scalar c ≡ true = scalar-listed c (and_parts (is_listed_or_drawn c) (has_plain_width c && is_simple c) h.character).0 in
    ap chars (sym (append-nil (encode_utf8 c))) ∙ chars-encodes (c ∷ []) (ap (λ b. b && true) scalar_one)

-- a plain character of one column by itself
pub line-one : (c : ℕ) → IsAdditiveColumn c → IsLine (encode_utf8 c) 1
line-one c h =
    let p = plain_line-one c h in record {
      utf8 = p.utf8;
      feedless = ap (list_all is_no_feed) (chars-one c h) ∙ and_from (is_no_feed c) true (ap not (not_break c h.character)) refl;
      columns = p.columns;
    }

pub frame-one : (c : ℕ) → IsSeparatorColumn c → IsFrame (encode_utf8 c) 1
frame-one c own =
    let h = own.additive in
    let p = plain_line-one c h in
    let s = and_from (is_additive c) (not (is_keycap_base c)) h.character (ap not own.steady) in
    record {
      utf8 = p.utf8;
      separators = ap (list_all is_separator) (chars-one c h) ∙ and_from (is_separator c) true s refl;
      columns = p.columns;
    }

-- what stands between two frames adds its columns
pub line-framed : {left line right : List ℕ} {k n l : ℕ} → IsFrame left k → IsLine line n → IsFrame right l
    → IsLine (left ++ (line ++ right)) (k + (n + l))
line-framed {left} {line} {right} {k} {n} {l} p x q =
    let after = or_left (begins_apart (chars right)) (ends_before (chars line) (chars right))
    (subst (λ t. begins_apart t ≡ true) (append-nil (chars right)) (begins_apart-separators (chars right) [] q.separators refl)) in
    let inner = line-append x (line-frame q) after in
    let before = or_right (begins_apart (chars (line ++ right))) (ends_before (chars left) (chars (line ++ right)))
    (ends_before-separators (chars left) (chars (line ++ right)) p.separators) in
    line-append (line-frame p) inner before

-- ---- many lines

-- lines that begin apart
pub line-pieces : (first : List ℕ) (m : ℕ) → IsLine first m → (pieces : List (List ℕ)) → All (λ p. IsLine p (line_columns p)) pieces
    → All (λ p. begins_apart (chars p) ≡ true) pieces → IsLine (first ++ flat_map (λ p. p) pieces) (m + sum_by line_columns pieces)
line-pieces first m f [] h b = line-as (subst (λ l. IsLine l m) (sym (append-nil first)) f) (omega arith)
line-pieces first m f (p ∷ ps) h b =
    let own = All-head (λ p. IsLine p (line_columns p)) p ps h in
    let apart = All-head (λ p. begins_apart (chars p) ≡ true) p ps b in
    let two = line-append f own (or_left (begins_apart (chars p)) (ends_before (chars first) (chars p)) apart) in
    let all = line-pieces (first ++ p) (m + line_columns p) two ps (All-tail (λ p. IsLine p (line_columns p)) p ps h)
    (All-tail (λ p. begins_apart (chars p) ≡ true) p ps b) in
    line-as (subst (λ l. IsLine l (m + line_columns p + sum_by line_columns ps)) (append_assoc first p (flat_map (λ p. p) ps)) all)
    (omega (arith, sum_by-cons line_columns p ps))

-- lines that end apart
pub pieces-line : (pieces : List (List ℕ)) (last : List ℕ) (m : ℕ) → IsLine last m → All (λ p. IsLine p (line_columns p)) pieces
    → All EndsApart pieces → IsLine (flat_map (λ p. p) pieces ++ last) (sum_by line_columns pieces + m)
pieces-line [] last m l h b = line-as l (omega arith)
pieces-line (p ∷ ps) last m l h b =
    let own = All-head (λ p. IsLine p (line_columns p)) p ps h in
    let apart = All-head EndsApart p ps b in
    let rest = pieces-line ps last m l (All-tail (λ p. IsLine p (line_columns p)) p ps h) (All-tail EndsApart p ps b) in
    let back = flat_map (λ p. p) ps ++ last in
    let two = line-append own rest (or_right (begins_apart (chars back)) (ends_before (chars p) (chars back)) (apart (chars back))) in
    line-as (subst (λ l. IsLine l (line_columns p + (sum_by line_columns ps + m))) (sym (append_assoc p (flat_map (λ p. p) ps) last)) two)
    (omega (arith, sum_by-cons line_columns p ps))

-- ---- the lines of a text

or-not : (cs : List ℕ) → list_all (λ c. (c == 10) || is_no_feed c) cs ≡ true
or-not [] = refl
or-not (c ∷ cs) = and_from ((c == 10) || is_no_feed c) (list_all (λ x. (x == 10) || is_no_feed x) cs) (or-not_self (c == 10)) (or-not cs)

pub line-each : (text : List ℕ) → IsUtf8 text → (k : ℕ) → k < length (lines_of text)
    → IsLine (slice_index_or (lines_of text) k []) (line_columns (slice_index_or (lines_of text) k []))
line-each text u k l =
    let lines = lines_of text in
    let all = subst (All (λ x. list_all is_no_feed x ≡ true)) (lines_of-chars text u) (each_in_lines is_no_feed (chars text) (or-not (chars text))) in
    let long : length (map chars lines) ≡ length lines = length-map lines chars in
    let own = all k [] (omega arith) in
    record {
      utf8 = utf8_lines text u k [] l;
      feedless = subst (λ x. list_all is_no_feed x ≡ true) (get_or-map chars lines k [] [] l) own;
      columns = refl;
    }
