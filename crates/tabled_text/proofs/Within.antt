-- Lists of lines that take at most n columns each.
use Rattle.tabled_text.proofs.Names.{IsUtf8, List, [], ap, arith, char_columns, chars, columns_of, false, greatest, is_additive, last_of}
use Rattle.tabled_text.proofs.Names.{length, lines_of, list_all, map, replicate, stays, str_width, str_width-append_simple, subst, sum_by}
use Rattle.tabled_text.proofs.Names.{sym, text_columns, true, ℕ, ⊤, ◌++◌, ◌+◌, ◌<◌, ◌∙◌, ◌∷◌, ◌≡◌, ◌≤◌}
use Rattle.tabled_text.proofs.Bridge.{add_last, lines_of-splice, some_line, splice, text_columns-chars}
use Rattle.tabled_text.proofs.PlainLemmas.{is_simple-plain, line_columns-plain}
use Rattle.tabled_text.proofs.WrapRoom.{Lines, Lines-stays, replacements}

abbrev pub Within : ℕ → List (List ℕ) → Type 0
Within n [] = ⊤
Within n (l ∷ ls) = (columns_of l ≤ n) × Within n ls

pub Within-append : (n : ℕ) (ls ms : List (List ℕ)) → Within n ls → Within n ms → Within n (ls ++ ms)
Within-append n [] ms f g = g
Within-append n (l ∷ ls) ms f g = (f.0, Within-append n ls ms f.1 g)

Within-greatest : (n : ℕ) (ls : List (List ℕ)) → Within n ls → greatest (map columns_of ls) ≤ n
Within-greatest n [] h = omega arith
Within-greatest n (l ∷ ls) h = let a = h.0 in let rest = Within-greatest n ls h.1 in omega arith

-- then the text takes at most n columns
pub text_columns-within : (n : ℕ) (text : List ℕ) → IsUtf8 text → Within n (lines_of (chars text)) → text_columns text ≤ n
text_columns-within n text u h = subst (λ k. k ≤ n) (sym (text_columns-chars text u)) (Within-greatest n (lines_of (chars text)) h)

pub Within-nothing : (n : ℕ) → Within n (lines_of [])
unfolding str_width
Within-nothing n = (omega arith, tt)

-- ---- a plain text that follows

Within-more : (n w : ℕ) (ls : List (List ℕ)) → n ≤ w → Within n ls → Within w ls
Within-more n w [] le h = tt
Within-more n w (l ∷ ls) le h = ((let a = h.0 in omega arith), Within-more n w ls le h.1)

columns-plain_end : (cs xs : List ℕ) → list_all is_additive xs ≡ true → columns_of (cs ++ xs) ≡ columns_of cs + sum_by char_columns xs
columns-plain_end cs xs h = str_width-append_simple false cs xs (is_simple-plain xs h) ∙ ap (λ n. columns_of cs + n) (line_columns-plain xs h)

Within-plain : (w : ℕ) (ls : List (List ℕ)) → Lines w 0 ls → Within w ls
Within-plain w [] h = tt
Within-plain w (l ∷ ls) h = ((let a = h.1 in let e = line_columns-plain l h.0 in omega arith), Within-plain w ls h.2)

Within-added : (n w : ℕ) → n ≤ w → (ls : List (List ℕ)) (xs : List ℕ) → 0 < length ls → Within n ls → list_all is_additive xs ≡ true
    → columns_of (last_of ls) + sum_by char_columns xs ≤ w → Within w (add_last ls xs)
Within-added n w le [] xs some h p room = absurd (omega arith)
Within-added n w le (l ∷ []) xs some h p room = ((let e = columns-plain_end l xs p in omega arith), tt)
Within-added n w le (l ∷ m ∷ ls) xs some h p room = ((let a = h.0 in omega arith), Within-added n w le (m ∷ ls) xs (omega arith) h.1 p room)

last-within : (n : ℕ) (ls : List (List ℕ)) → 0 < length ls → Within n ls → columns_of (last_of ls) ≤ n
last-within n [] some h = absurd (omega arith)
last-within n (l ∷ []) some h = h.0
last-within n (l ∷ m ∷ ls) some h = last-within n (m ∷ ls) (omega arith) h.1

Within-spliced : (n w : ℕ) → n ≤ w → (ls ts : List (List ℕ)) → 0 < length ls → Within n ls → Lines w (columns_of (last_of ls)) ts
    → Within w (splice ls ts)
Within-spliced n w le ls [] some h t = Within-more n w ls le h
Within-spliced n w le ls (t ∷ ts) some h lines =
    Within-append w (add_last ls t) ts (Within-added n w le ls t some h lines.0 lines.1) (Within-plain w ts lines.2)

-- lines of any characters within n columns, and a plain text that stays in w from each of these columns on
pub Within-followed : (n w : ℕ) → n ≤ w → (cs tail : List ℕ) → Within n (lines_of cs) → ((k : ℕ) → k ≤ n → stays w k tail ≡ true)
    → Within w (lines_of (cs ++ tail))
Within-followed n w le cs tail h s =
    let k = columns_of (last_of (lines_of cs)) in
    let last = last-within n (lines_of cs) (some_line cs) h in
    subst (Within w) (sym (lines_of-splice cs tail))
    (Within-spliced n w le (lines_of cs) (lines_of tail) (some_line cs) h (Lines-stays w k tail (s k last)).1)

-- ---- columns that are filled up

pub columns-filled : (cs : List ℕ) (k : ℕ) → columns_of (cs ++ replicate k 0xFFFD) ≡ columns_of cs + k
columns-filled cs k =
    let r = replacements k in
    let s = r.1 in
    let own : columns_of (replicate k 0xFFFD) ≡ k = line_columns-plain (replicate k 0xFFFD) r.0 ∙ s in
    str_width-append_simple false cs (replicate k 0xFFFD) (is_simple-plain (replicate k 0xFFFD) r.0) ∙ ap (λ n. columns_of cs + n) own
