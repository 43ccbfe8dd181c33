-- Texts that begin or end apart, by bytes, and lines that are joined of them.
use Rattle.tabled_text.proofs.Names.{Bool, EndsApart, IsAdditiveColumn, IsFrame, IsLine, IsUtf8, IsUtf8-nil, List, [], and_from, and_parts}
use Rattle.tabled_text.proofs.Names.{ap, append-nil, append_assoc, arith, begins_apart, begins_with_selector, chars, chars-append}
use Rattle.tabled_text.proofs.Names.{chars-nil, columns_of, encode_utf8, ends_before, false, has_plain_width, is_additive, is_keycap_base}
use Rattle.tabled_text.proofs.Names.{is_listed_or_drawn, is_no_feed, is_separator, is_simple, line_columns, list_all, nat_tests, not}
use Rattle.tabled_text.proofs.Names.{or_left, or_right, refl, stands_before, str_width, subst, sym, true, ℕ, ◌&&◌, ◌++◌, ◌+◌, ◌<◌, ◌==◌}
use Rattle.tabled_text.proofs.Names.{◌∙◌, ◌∷◌, ◌≡◌}
use Rattle.tabled_text.proofs.LineLaws.{begins_apart-separators, chars-one, ends_before-separators, line-append, line-one}

pub line-as : {line : List ℕ} {m n : ℕ} → IsLine line m → m ≡ n → IsLine line n
line-as {line} p e = subst (λ k. IsLine line k) e p

nothing_columns : line_columns [] ≡ 0
unfolding str_width
nothing_columns = ap (str_width false) chars-nil

pub line-nil : IsLine [] 0
line-nil = record { utf8 = IsUtf8-nil; feedless = ap (list_all is_no_feed) chars-nil; columns = nothing_columns }

pub frame-nil : IsFrame [] 0
frame-nil = record { utf8 = IsUtf8-nil; separators = ap (list_all is_separator) chars-nil; columns = nothing_columns }

pub frame-as : {text : List ℕ} {m n : ℕ} → IsFrame text m → m ≡ n → IsFrame text n
frame-as {text} p e = subst (λ k. IsFrame text k) e p

-- the text begins apart
pub record BeginsApart (text : List ℕ) : Type 0 where
  pub begins : begins_apart (chars text) ≡ true

-- the text ends apart
pub record Closes (text : List ℕ) : Type 0 where
  pub ends : EndsApart text

-- ---- frames

no_columns : columns_of [] ≡ 0
unfolding str_width
no_columns = refl

one : (c : ℕ) (cs : List ℕ) → list_all is_separator (c ∷ cs) ≡ true → list_all is_separator (c ∷ []) ≡ true
one c cs h = ap (λ b. b && true) (and_parts (is_separator c) (list_all is_separator cs) h).0

-- a separator first, whatever follows
stands : (c : ℕ) (back : List ℕ) → list_all is_separator (c ∷ []) ≡ true → stands_before c back ≡ true
stands c back h = ends_before-separators (c ∷ []) back h

begins-some : (cs back : List ℕ) → list_all is_separator cs ≡ true → 0 < columns_of cs → begins_apart (cs ++ back) ≡ true
begins-some [] back h some = absurd (let e = no_columns in omega arith)
begins-some (c ∷ cs) back h some = stands c (cs ++ back) (one c cs h)

ends_before-append : (xs ys back : List ℕ) → ends_before xs back ≡ true → ends_before ys back ≡ true → ends_before (xs ++ ys) back ≡ true
ends_before-append [] ys back f g = g
ends_before-append (c ∷ []) [] back f g = f
ends_before-append (c ∷ []) (d ∷ ys) back f g = g
ends_before-append (c ∷ d ∷ xs) ys back f g = ends_before-append (d ∷ xs) ys back f g

ends-some : (xs cs back : List ℕ) → list_all is_separator cs ≡ true → 0 < columns_of cs → ends_before (xs ++ cs) back ≡ true
ends-some xs [] back h some = absurd (let e = no_columns in omega arith)
ends-some [] (c ∷ cs) back h some = ends_before-separators (c ∷ cs) back h
ends-some (x ∷ []) (c ∷ cs) back h some = ends_before-separators (c ∷ cs) back h
ends-some (x ∷ y ∷ xs) (c ∷ cs) back h some = ends-some (y ∷ xs) (c ∷ cs) back h some

pub begins-frame : {text : List ℕ} {n : ℕ} → IsFrame text n → BeginsApart text
begins-frame {text} p = record {
  begins = subst (λ t. begins_apart t ≡ true) (append-nil (chars text))
      (begins_apart-separators (chars text) [] p.separators refl);
}

pub closes-frame : {text : List ℕ} {n : ℕ} → IsFrame text n → Closes text
closes-frame {text} p = record { ends = λ back. ends_before-separators (chars text) back p.separators }

-- a frame of some columns, and what stands behind it or before it
pub begins-framed : {frame : List ℕ} {n : ℕ} (text : List ℕ) → IsFrame frame n → 0 < n → BeginsApart (frame ++ text)
begins-framed {frame} {n} text p some =
    let own : columns_of (chars frame) ≡ n = p.columns in
    record {
      begins = subst (λ t. begins_apart t ≡ true) (sym (chars-append frame text p.utf8))
          (begins-some (chars frame) (chars text) p.separators (omega arith));
    }

pub closes-framed : {text frame : List ℕ} {m n : ℕ} → IsLine text m → IsFrame frame n → 0 < n → Closes (text ++ frame)
closes-framed {text} {frame} {m} {n} l p some =
    let own : columns_of (chars frame) ≡ n = p.columns in
    record {
      ends = λ back. subst (λ t. ends_before t back ≡ true) (sym (chars-append text frame l.utf8))
          (ends-some (chars text) (chars frame) back p.separators (omega arith));
    }

-- what ends apart ends apart behind another line
pub closes-append : {front back : List ℕ} {m : ℕ} → IsLine front m → Closes front → Closes back → Closes (front ++ back)
closes-append {front} {back} l f g =
    record {
      ends = λ more. subst (λ t. ends_before t more ≡ true) (sym (chars-append front back l.utf8))
          (ends_before-append (chars front) (chars back) more (f.ends more) (g.ends more));
    }

-- ---- texts that begin apart, whatever follows

pub record Opens (text : List ℕ) : Type 0 where
  pub opens : (back : List ℕ) → begins_apart (chars text ++ back) ≡ true

pub opens-frame : {frame : List ℕ} {n : ℕ} → IsFrame frame n → 0 < n → Opens frame
opens-frame {frame} {n} p some =
    let own : columns_of (chars frame) ≡ n = p.columns in
    record { opens = λ back. begins-some (chars frame) back p.separators (omega arith) }

pub opens-append : {front : List ℕ} (back : List ℕ) → IsUtf8 front → Opens front → Opens (front ++ back)
opens-append {front} back u o =
    record {
      opens = λ more. subst (λ t. begins_apart (t ++ more) ≡ true) (sym (chars-append front back u))
          (subst (λ t. begins_apart t ≡ true) (sym (append_assoc (chars front) (chars back) more)) (o.opens (chars back ++ more)));
    }

pub opens-begins : {text : List ℕ} → Opens text → BeginsApart text
opens-begins {text} o = record { begins = subst (λ t. begins_apart t ≡ true) (append-nil (chars text)) (o.opens []) }

-- ---- a plain character before what begins apart

not_selector : (c : ℕ) → is_listed_or_drawn c ≡ true → (c == 0xFE0F) ≡ false
not_selector c h = grind (arith, nat_tests)

no_selector : (cs : List ℕ) → begins_apart cs ≡ true → begins_with_selector cs ≡ false
no_selector [] h = refl
no_selector (c ∷ cs) h =
    let parts = and_parts (is_additive c) (not (is_keycap_base c && begins_with_selector cs)) h in
    not_selector c (and_parts (is_listed_or_drawn c) (has_plain_width c && is_simple c) parts.0).0

stands-plain : (c : ℕ) (back : List ℕ) → is_additive c ≡ true → begins_apart back ≡ true → stands_before c back ≡ true
stands-plain c back h b =
    and_from (is_additive c) (not (is_keycap_base c && begins_with_selector back)) h
    (ap (λ s. not (is_keycap_base c && s)) (no_selector back b) ∙ nothing (is_keycap_base c))
  where
    nothing : (k : Bool) → not (k && false) ≡ true
    nothing true = refl
    nothing false = refl

chars-first : (c : ℕ) (text : List ℕ) → IsAdditiveColumn c → chars (encode_utf8 c ++ text) ≡ c ∷ chars text
chars-first c text p = chars-append (encode_utf8 c) text (line-one c p).utf8 ∙ ap (λ t. t ++ chars text) (chars-one c p)

pub begins-one : (c : ℕ) (text : List ℕ) → IsAdditiveColumn c → BeginsApart text → BeginsApart (encode_utf8 c ++ text)
begins-one c text p b = record {
  begins = subst (λ t. begins_apart t ≡ true) (sym (chars-first c text p)) (stands-plain c (chars text) p.character b.begins);
}

pub opens-one : (c : ℕ) (text : List ℕ) → IsAdditiveColumn c → Opens text → Opens (encode_utf8 c ++ text)
opens-one c text p o = record {
  opens = λ back. subst (λ t. begins_apart (t ++ back) ≡ true) (sym (chars-first c text p))
      (stands-plain c (chars text ++ back) p.character (o.opens back));
}

-- ---- joined lines

pub line-begins : {front back : List ℕ} {m n : ℕ} → IsLine front m → IsLine back n → BeginsApart back → IsLine (front ++ back) (m + n)
line-begins {front} {back} p q b = line-append p q (or_left (begins_apart (chars back)) (ends_before (chars front) (chars back)) b.begins)

pub line-closes : {front back : List ℕ} {m n : ℕ} → IsLine front m → IsLine back n → Closes front → IsLine (front ++ back) (m + n)
line-closes {front} {back} p q c = line-append p q (or_right (begins_apart (chars back)) (ends_before (chars front) (chars back)) (c.ends (chars back)))
