-- A whole stream: the rows that were taken first, those that came behind them, and what of them was printed.
use Rattle.tabled_table.proofs.Names.{AreEnough, AreFirst, AreFurther, ArePermitted, AreSniffed, Bool, CompactConfig, IsMarkedRow, IsPermitted}
use Rattle.tabled_table.proofs.Names.{IsStreamed, List, None, Option, Sent, Sheet, Some, StreamRead, StreamSends, StreamSettings, [], ahead, ap}
use Rattle.tabled_table.proofs.Names.{append-nil, arith, cases_lt, column_count, columns, content_width, false, filled_picture}
use Rattle.tabled_table.proofs.Names.{filled_width, get_or, get_or-map, get_or-map-range_with_len, if◌then◌else◌, inl, inr, join_with_byte}
use Rattle.tabled_table.proofs.Names.{left_of, length, length-append, length-map, length-map-range_with_len, length-take, limited, longest}
use Rattle.tabled_table.proofs.Names.{map, max, picture, range_with_len, reaches, refl, sends-along, sniffed, spanned_of_compact}
use Rattle.tabled_table.proofs.Names.{stream_height, stream_widths, subst, suc, sym, take, take_all, true, unwrap_or, zero, ℕ, ⊎_elim, ◌++◌}
use Rattle.tabled_table.proofs.Names.{◌-◌, ◌<◌, ◌==◌, ◌∙◌, ◌∷◌, ◌≡◌, ◌≢◌, ◌≤◌, ◌⊎◌}
use Rattle.std.proofs.lemmas.Bool.{or_right}
use Rattle.std.proofs.lemmas.List.{take-append-le}
use Rattle.tabled_table.specs.Stream.Streams.{shown_rows, IsFilled}
use Rattle.tabled_table.proofs.Stream.Measures.{not-zero}
use Rattle.tabled_line.proofs.Sending.{sends-none}

-- ---- further rows behind the first ones

-- the rows that are read ahead stay
pub sniffed-more : (settings : StreamSettings) (kept more : List (List (List ℕ))) → (ahead settings ≤ length kept) ⊎ (length more ≡ 0)
    → sniffed settings (kept ++ more) ≡ sniffed settings kept
sniffed-more settings kept more (inl h) = take-append-le (ahead settings) kept more h
sniffed-more settings kept [] (inr h) = ap (λ rows. take (ahead settings) rows) (append-nil kept)
sniffed-more settings kept (x ∷ more) (inr h) = absurd (omega arith)

-- all further rows are shown
pub limited-more : (limit : Option ℕ) (kept more : List (List (List ℕ))) → IsPermitted (left_of limit (length kept)) (length more)
    → limited limit (kept ++ more) ≡ limited limit kept ++ more
limited-more None kept more h = refl
limited-more (Some n) kept [] h = ap (λ rows. take n rows) (append-nil kept) ∙ sym (append-nil (take n kept))
limited-more (Some n) kept (x ∷ more) h =
    take_all n (kept ++ x ∷ more) (omega (arith, length-append kept (x ∷ more)))
    ∙ ap (λ rows. rows ++ x ∷ more) (sym (take_all n kept (omega arith)))

pub length-limited : (limit : Option ℕ) (rows : List (List (List ℕ))) → length (limited limit rows) ≤ length rows
length-limited None rows = omega arith
length-limited (Some n) rows = omega (arith, length-take n rows)

-- where further rows are shown, so are all before them
all-limited : (limit : Option ℕ) (kept more : List (List (List ℕ))) → IsPermitted (left_of limit (length kept)) (length more) → 0 < length more
    → length (limited limit kept) ≡ length kept
all-limited None kept more h m = refl
all-limited (Some n) kept more h m = omega (arith, length-take n kept)

-- where rows may follow, all that were taken first are shown
pub unlimited : (limit : Option ℕ) (kept : List (List (List ℕ))) → (left_of limit (length kept) ≡ Some 0 → ⊥) → limited limit kept ≡ kept
unlimited None kept h = refl
unlimited (Some n) kept h =
    ⊎_elim (λ (l : length kept < n). take_all n kept (omega arith))
    (λ (l : n ≤ length kept). absurd (h (ap Some (let e : n - length kept ≡ 0 = omega arith in e)))) (cases_lt (length kept) n)

pub sniffed-shown : (settings : StreamSettings) (kept : List (List (List ℕ))) → (left_of settings.rows (length kept) ≡ Some 0 → ⊥)
    → length (sniffed settings kept) ≤ length (limited settings.rows kept)
sniffed-shown settings kept h =
    omega (arith, length-take (ahead settings) kept, ap length (unlimited settings.rows kept h))

-- ---- how many rows were taken

some-columns : (columns : Option ℕ) (measured : ℕ) → 0 < unwrap_or columns 0 → 0 < unwrap_or columns measured
some-columns None measured h = absurd (omega arith)
some-columns (Some n) measured h = h

some-limited : (limit : Option ℕ) (kept : List (List (List ℕ))) → (limit ≡ Some 0 → ⊥) → length kept ≤ 1 → length kept ≤ length (limited limit kept)
some-limited None kept h l = omega arith
some-limited (Some zero) kept h l = absurd (h refl)
some-limited (Some (suc n)) kept h l = omega (arith, length-take (suc n) kept)

shown-some : (settings : StreamSettings) (rows : List (List (List ℕ))) → 0 < column_count settings (sniffed settings rows)
    → shown_rows settings rows ≡ limited settings.rows rows
shown-some settings rows c = ap (λ b. if b then [] else limited settings.rows rows) (not-zero (column_count settings (sniffed settings rows)) c)

-- rows that were taken are the first ones
pub taken-first : {T : Type 0} (settings : StreamSettings) (text : T → List ℕ) (rows : List (List T)) (all : Bool) (count : ℕ)
    → length rows ≤ count → (all ≡ false → length rows ≡ count) → ahead settings ≤ count
    → (count ≡ ahead settings)
    ⊎ ((ahead settings ≡ 0) × (count ≡ 1) × (0 < unwrap_or settings.columns 0) × (settings.rows ≢ Some 0))
    → (count ≡ 0 → (unwrap_or settings.columns 0 ≡ 0) ⊎ (settings.rows ≡ Some 0)) → AreFirst settings (map (map text) rows) all
taken-first settings text rows all count most full enough needed none =
    let long = length-map rows (map text) in
    record {
      sniffed = λ opened. let e = full opened in omega arith;
      needed = ⊎_elim (λ (e : count ≡ ahead settings). inl (omega arith)) (λ h. let e = h.1 in inr (omega arith, h.2, h.3)) needed;
      none = λ opened l. let e = full opened in none (omega arith);
    }

read-by : (settings : StreamSettings) (kept more : List (List (List ℕ))) (whole all : Bool) → AreFirst settings kept all
    → AreFurther settings.rows (length kept) all (length more) whole
    → (sniffed settings (kept ++ more) ≡ sniffed settings kept) × AreSniffed settings (kept ++ more) whole
read-by settings kept more whole true f g = (sniffed-more settings kept more (inr (g.none refl).0), inl (g.none refl).1)
read-by settings kept more whole false f g =
    let l = f.sniffed refl in (sniffed-more settings kept more (inl l), inr (omega (arith, length-append kept more)))

module _ {settings : StreamSettings} {kept : List (List (List ℕ))} {all : Bool} (f : AreFirst settings kept all) where
  pub permitted-first : ArePermitted settings kept
  permitted-first =
      ⊎_elim (λ (l : length kept ≤ ahead settings). omega arith)
      (λ h.
      let shown = shown-some settings kept (some-columns settings.columns (longest (sniffed settings kept)) h.1) in
      let many = some-limited settings.rows kept h.2 h.0 in
      omega (arith, ap length shown)) f.needed

  pub few-first : length kept ≤ max (ahead settings) 1
  few-first = ⊎_elim (λ (l : length kept ≤ ahead settings). omega arith) (λ h. let l = h.0 in omega arith) f.needed

  module _ (more : List (List (List ℕ))) (whole : Bool) (g : AreFurther settings.rows (length kept) all (length more) whole) where
    -- the rows that are read ahead stay, and are all among those that were taken first
    pub read-more : (sniffed settings (kept ++ more) ≡ sniffed settings kept) × AreSniffed settings (kept ++ more) whole
    read-more = read-by settings kept more whole all f g

    pub permitted-more : 0 < column_count settings (sniffed settings kept) → ArePermitted settings (kept ++ more)
    permitted-more c =
        let same = read-more.0 in
        let shown = shown-some settings (kept ++ more) (subst (λ rows. 0 < column_count settings rows) (sym same) c) in
        let parts = limited-more settings.rows kept more g.permitted in
        let both = length-append kept more in
        let longer = length-append (limited settings.rows kept) more in
        ⊎_elim (λ (m : 0 < length more).
        let whole = all-limited settings.rows kept more g.permitted m in
        omega (arith, ap length shown, ap length parts))
        (λ (m : length more ≤ 0).
        ⊎_elim (λ (l : length kept ≤ ahead settings). omega arith)
        (λ h.
        let many = some-limited settings.rows kept h.2 h.0 in
        omega (arith, ap length shown, ap length parts)) f.needed) (cases_lt 0 (length more))

    pub few-more : length (kept ++ more) ≤ max (ahead settings) (max 1 (length (limited settings.rows kept ++ more)))
    few-more =
        let both = length-append kept more in
        let longer = length-append (limited settings.rows kept) more in
        ⊎_elim (λ (m : 0 < length more).
        let whole = all-limited settings.rows kept more g.permitted m in omega arith)
        (λ (m : length more ≤ 0). let few = few-first in omega arith) (cases_lt 0 (length more))

-- no more rows than are taken before the first byte
pub permitted-ahead : (settings : StreamSettings) (rows : List (List (List ℕ))) (most : ℕ) → length rows ≤ most
    → (most ≡ ahead settings) ⊎ ((ahead settings ≡ 0) × (most ≡ 1) × (0 < unwrap_or settings.columns 0) × (settings.rows ≡ Some 0 → ⊥))
    → ArePermitted settings rows
permitted-ahead settings rows most within needed =
    permitted-first {settings = settings} {kept = rows} {all = true} (record {
      sniffed = λ e. absurd (cc);
      needed = ⊎_elim (λ (e : most ≡ ahead settings). inl (omega arith)) (λ h. inr ((let one = h.1 in omega arith), h.2, h.3)) needed;
      none = λ e. absurd (cc);
    })

-- ---- a stream of which nothing is shown

-- the table of rows without cells
blank : StreamSettings → CompactConfig → List (List (List ℕ)) → List (List (List ℕ)) → Sheet
blank settings config ahead_rows rows = record {
  cells = map (λ _. []) rows;
  config = spanned_of_compact config;
  widths = stream_widths settings config ahead_rows;
  heights = map (λ k. stream_height settings config ahead_rows k (get_or rows k [])) (range_with_len 0 (length rows));
}

no-cells : (mark : Option ℕ) (content : ℕ → ℕ) (count : ℕ) (row : List (List ℕ)) → count ≡ 0 → IsMarkedRow mark content count row []
no-cells mark content count row h =
    let P : ℕ → Type 0 = λ n. IsMarkedRow mark content n row [] in
    subst P (sym h) (record { cut = []; as_many = omega arith; each = λ k b. absurd (omega arith); whole = refl })

blank-streamed : (settings : StreamSettings) (config : CompactConfig) (ahead_rows rows : List (List (List ℕ)))
    → (column_count settings ahead_rows ≡ 0) ⊎ (length rows ≡ 0) → IsStreamed settings config ahead_rows rows (blank settings config ahead_rows rows)
unfolding blank
blank-streamed settings config ahead_rows rows none =
    let C = IsMarkedRow settings.mark (content_width settings ahead_rows) (column_count settings ahead_rows) in
    record {
      as_many = length-map rows (λ _. []);
      cells = λ k b.
          subst (C (get_or rows k [])) (sym (get_or-map (λ _. []) rows k [] [] b))
          (⊎_elim (λ h. no-cells settings.mark (content_width settings ahead_rows) (column_count settings ahead_rows) (get_or rows k []) h)
          (λ (h : length rows ≡ 0). absurd (omega arith)) none);
      settings_of = refl;
      widths = refl;
      as_high = length-map-range_with_len (λ k. stream_height settings config ahead_rows k (get_or rows k [])) 0 (length rows);
      heights = λ k b. get_or-map-range_with_len (λ k. stream_height settings config ahead_rows k (get_or rows k [])) 0 (length rows) k k 0 b (omega arith);
    }

blank-empty : (settings : StreamSettings) (config : CompactConfig) (ahead_rows rows : List (List (List ℕ))) → picture (blank settings config ahead_rows rows) ≡ []
unfolding picture blank
blank-empty settings config ahead_rows [] = refl
blank-empty settings config ahead_rows (row ∷ rows) =
    let t = blank settings config ahead_rows (row ∷ rows) in
    ap (λ b. if b then [] else filled_picture t (filled_width t.config (columns t.cells) t.widths)) (or_right (length t.cells == 0) true refl)

longest-none : (n : ℕ) → longest (take n []) ≡ 0
longest-none zero = refl
longest-none (suc n) = refl

none-taken : (columns rows : Option ℕ) (kept : List (List (List ℕ))) (n : ℕ) → length kept ≡ 0 → (unwrap_or columns 0 ≡ 0) ⊎ (rows ≡ Some 0)
    → reaches rows (length kept) ⊎ (unwrap_or columns (longest (take n kept)) ≡ 0)
none-taken columns rows [] n z (inl h) = inr (ap (λ m. unwrap_or columns m) (longest-none n) ∙ h)
none-taken columns rows [] n z (inr h) = inl (subst (λ limit. reaches limit 0) (sym h) (omega arith))
none-taken columns rows (row ∷ kept) n z h = absurd (omega arith)

limited-none : (limit : Option ℕ) (kept : List (List (List ℕ))) → length (limited limit kept) ≡ 0 → reaches limit (length kept) ⊎ (length kept ≡ 0)
limited-none None kept h = inr h
limited-none (Some n) kept h =
    ⊎_elim (λ (l : length kept < n). inr (omega (arith, length-take n kept))) (λ (l : n ≤ length kept). inl l) (cases_lt (length kept) n)

pub unshown-enough : {settings : StreamSettings} {kept : List (List (List ℕ))} (all : Bool) → AreFirst settings kept all
    → (column_count settings (sniffed settings kept) ≡ 0) ⊎ (length (limited settings.rows kept) ≡ 0) → AreEnough settings kept all
unshown-enough true f none = inl refl
unshown-enough false f (inl h) = inr (f.sniffed refl, inr h)
unshown-enough {settings} {kept} false f (inr h) =
    inr (
      f.sniffed refl,
      ⊎_elim (λ r. inl r) (λ z. none-taken settings.columns settings.rows kept (ahead settings) z (f.none refl z)) (limited-none settings.rows kept h),
    )

-- what was read of a stream
abbrev pub read_of : StreamSettings → CompactConfig → List (List (List ℕ)) → Bool → StreamRead
read_of settings config rows whole = record { settings = settings; config = config; rows = rows; whole = whole }

pub unshown : (settings : StreamSettings) (config : CompactConfig) (rows : List (List (List ℕ))) (whole : Bool) (old : Sent) → AreEnough settings rows whole
    → (column_count settings (sniffed settings rows) ≡ 0) ⊎ (length (limited settings.rows rows) ≡ 0)
    → StreamSends (read_of settings config rows whole) old old
unshown settings config rows whole old enough none =
    let shown = limited settings.rows rows in
    let never : IsFilled settings rows → ⊥ =
    λ f. ⊎_elim (λ (h : column_count settings (sniffed settings rows) ≡ 0). let c = f.columns in absurd (omega arith))
    (λ (h : length shown ≡ 0). let s = f.shown in absurd (omega arith)) none in
    record {
      enough = enough;
      sheet = blank settings config (sniffed settings rows) shown;
      streamed = record {
        streamed = blank-streamed settings config (sniffed settings rows) shown none;
        heights = λ f. absurd (never f);
        width = λ f. absurd (never f);
      };
      sends = sends-along old old [] _ (sends-none old) (ap (join_with_byte 10) (sym (blank-empty settings config (sniffed settings rows) shown)));
    }
