-- The styles keep the texts of cells apart: their lines are plain, and each text has padding on its left.
use Rattle.tabled_c.proofs.Names.{Some, Style, StyleName, inl, inr, new_config, refl, style_of, subst, true, with_style, ℕ, ◌≡◌}
use Rattle.std.proofs.Common.{◌==◌, ◌&&◌, Bool, false, cond, Option, None, unwrap_or, lit<}
use Rattle.std.specs.Ordering.{is_eq, nat_cmp}
use Rattle.std.proofs.lemmas.Bool.{and_from, or_left, eq-eqb}
use Rattle.tabled_text.specs.FramedLines.{IsSeparatorColumn}
use Rattle.tabled_config.specs.Frame.{border_at, bottom_line, if_any, inner_line, top_line}
use Rattle.tabled_config.specs.Lines.{line_set}
use Rattle.tabled_config.specs.declared.borders.HorizontalLine.{HorizontalLine}
use Rattle.tabled_config.specs.Options.{lines_below}
use Rattle.tabled_config.specs.Settings.{in_place_of, rule_at, style_at}
use Rattle.tabled_config.specs.Styles.{ascii, ascii_rounded, blank, extended, line, markdown, modern, modern_rounded, no_style, psql, re_structured_text, rounded, sharp}
use Rattle.tabled_config.specs.StyleChanges.{without_horizontals}
use Rattle.tabled_config.specs.declared.alignment.AlignmentHorizontal.{AlignmentHorizontal}
use Rattle.tabled_config.specs.declared.spanned.SpannedConfig.{SpannedConfig}
use Rattle.tabled_entity.specs.Changes.{Changes, with_change}
use Rattle.tabled_base.specs.declared.position.Entity.TheVariants.{Column}
use Rattle.std.proofs.Common.{suc, List, [], ◌∷◌}
use Rattle.tabled_line.specs.Apart.{ArePaddedLeft, IsApartStyle}
use Rattle.tabled_line.specs.Additive.{IsAdditiveRule}
use Rattle.tabled_text.specs.Measure.{char_columns}
use Rattle.tabled_text.specs.Plain.{IsAdditiveColumn, has_plain_width, is_listed_or_drawn}
use Rattle.tabled_text.proofs.PlainLemmas.{is_simple-listed}
use Rattle.tabled_text.proofs.PlainLines.{plain_column-printable, plain_column-space}
use Rattle.unicode_width.proofs.Computing.{unicode_width}
use Rattle.unicode_width.proofs.Rules.{is_simple}
use Rattle.tabled.specs.Headline.{KeepsApart}
use Rattle.tabled_c.specs.Asked.{Ascii, Modern, Sharp, Rounded, ModernRounded, AsciiRounded, Extended, Markdown, Psql, ReStructuredText, Blank, Empty}
use Rattle.tabled_c.specs.Asked.{alignment_numbered, draws_header, headed, settings, with_alignments}

-- ---- horizontal lines that may be there

abbrev AreRules : Option HorizontalLine → Type 0
AreRules o = (l : HorizontalLine) → o ≡ Some l → IsAdditiveRule l

no_rule : AreRules None
no_rule l e = absurd (let no : None ≡ Some l = e in cc)

a_rule : (ruled : HorizontalLine) → IsAdditiveRule ruled → AreRules (Some ruled)
a_rule ruled p l e = let same : ruled ≡ l = cc in subst IsAdditiveRule same p

set_rules : (below : Option HorizontalLine) (i : ℕ) (border : Option HorizontalLine) → AreRules below → AreRules border
    → AreRules (in_place_of (line_set (lines_below below) i) border)
set_rules None i border h k = k
set_rules (Some ruled) i border h k = placed (is_eq (nat_cmp i 1))
  where
    placed : (b : Bool) → AreRules (in_place_of (cond b (Some ruled) None) border)
    placed true = h
    placed false = k

-- ---- what stands beside texts

separator-space : IsSeparatorColumn 32
separator-space = record { additive = plain_column-space; steady = refl }

style_apart : (style : Style) (row column : ℕ) → IsApartStyle (style_at (with_style new_config style) row column)
unfolding style_at new_config
style_apart style row column = record { left = separator-space; right = separator-space; top = separator-space; bottom = separator-space }

padded : (style : Style) (count row : ℕ) → ArePaddedLeft count (style_at (with_style new_config style) row)
unfolding style_at new_config
padded style count row c h = lit< tt

module _ (style : Style) (below : AreRules style.below_first) (top : AreRules (if_any (top_line style.borders)))
    (bottom : AreRules (if_any (bottom_line style.borders))) (inner : AreRules (if_any (inner_line style.borders))) where
  bordered : (a b : Bool)
      → AreRules (cond a (if_any (top_line style.borders)) (cond b (if_any (bottom_line style.borders)) (if_any (inner_line style.borders))))
  bordered true b = top
  bordered false true = bottom
  bordered false false = inner

  rules : (rows i : ℕ) → AreRules (rule_at (with_style new_config style) rows i)
  unfolding rule_at new_config
  rules rows i = set_rules style.below_first i (border_at style.borders rows i) below (bordered (i == 0) (i == rows))

  keeps_apart : IsAdditiveColumn (unwrap_or style.borders.vertical 32) → IsAdditiveColumn (unwrap_or style.borders.left 32)
      → IsAdditiveColumn (unwrap_or style.borders.right 32) → KeepsApart (with_style new_config style)
  unfolding new_config
  keeps_apart vertical left right rows count = record {
    margin_top = plain_column-space;
    margin_bottom = plain_column-space;
    rules = λ i b. rules rows i;
    cells = λ row h. record {
      styles = λ column k. style_apart style row column;
      bars = inr (padded style count row);
      gaps = inr (inl (padded style count row));
    };
    frame = record { inner = vertical; left = left; right = right; margin_left = separator-space; margin_right = separator-space };
  }

-- ---- the characters

plain : (c : ℕ) → is_listed_or_drawn c ≡ true → char_columns c ≡ 1 → IsAdditiveColumn c
plain c h one = record {
  character = and_from (is_listed_or_drawn c) (has_plain_width c && is_simple c) h
      (and_from (has_plain_width c) (is_simple c) (or_left (char_columns c == 1) (char_columns c == 2) (eq-eqb (char_columns c) 1 one)) (is_simple-listed c h));
  columns = one;
}

bar : IsAdditiveColumn 0x7c
bar = plain_column-printable 0x7c refl

dash : IsAdditiveColumn 0x2d
dash = plain_column-printable 0x2d refl

plus : IsAdditiveColumn 0x2b
plus = plain_column-printable 0x2b refl

-- a line of four characters, each of one column
drawn : (left main intersection right : ℕ) → IsAdditiveColumn left → IsAdditiveColumn main → IsAdditiveColumn intersection → IsAdditiveColumn right
    → AreRules (Some (line left main intersection right))
drawn left main intersection right l m i r = a_rule (line left main intersection right) (record { main = m; left = l; intersection = i; right = r })

-- and one of boxes
boxes : (left main intersection right : ℕ) → is_listed_or_drawn left ≡ true → is_listed_or_drawn main ≡ true → is_listed_or_drawn intersection ≡ true → is_listed_or_drawn right ≡ true
    → char_columns left ≡ 1 → char_columns main ≡ 1 → char_columns intersection ≡ 1 → char_columns right ≡ 1
    → AreRules (Some (line left main intersection right))
boxes left main intersection right l m i r cl cm ci cr =
    drawn left main intersection right (plain left l cl) (plain main m cm) (plain intersection i ci) (plain right r cr)

-- a line of = without ends
double : HorizontalLine
double = record { main = Some 0x3d; left = None; intersection = Some 0x20; right = None }

equals : AreRules (Some double)
unfolding double
equals = a_rule double (record { main = plain_column-printable 0x3d refl; left = plain_column-space; intersection = plain_column-space; right = plain_column-space })

-- with or without the line below the first row
either : (header : Bool) (style : Style) → AreRules style.below_first → AreRules (if_any (top_line style.borders)) → AreRules (if_any (bottom_line style.borders))
    → AreRules (if_any (inner_line style.borders)) → IsAdditiveColumn (unwrap_or style.borders.vertical 32) → IsAdditiveColumn (unwrap_or style.borders.left 32)
    → IsAdditiveColumn (unwrap_or style.borders.right 32) → KeepsApart (with_style new_config (headed header style))
either true style below top bottom inner vertical left right = keeps_apart style below top bottom inner vertical left right
either false style below top bottom inner vertical left right = keeps_apart (without_horizontals style) no_rule top bottom inner vertical left right

ascii_apart : (header : Bool) → KeepsApart (with_style new_config (headed header ascii))
ascii_apart header =
    let rule = drawn 0x2b 0x2d 0x2b 0x2b plus dash plus plus in
    either header ascii no_rule rule rule rule bar bar bar

-- horizontal lines of boxes
box_top : AreRules (Some (line 0x250c 0x2500 0x252c 0x2510))
unfolding unicode_width
box_top = boxes 0x250c 0x2500 0x252c 0x2510 refl refl refl refl refl refl refl refl

box_bottom : AreRules (Some (line 0x2514 0x2500 0x2534 0x2518))
unfolding unicode_width
box_bottom = boxes 0x2514 0x2500 0x2534 0x2518 refl refl refl refl refl refl refl refl

box_inner : AreRules (Some (line 0x251c 0x2500 0x253c 0x2524))
unfolding unicode_width
box_inner = boxes 0x251c 0x2500 0x253c 0x2524 refl refl refl refl refl refl refl refl

round_top : AreRules (Some (line 0x256d 0x2500 0x252c 0x256e))
unfolding unicode_width
round_top = boxes 0x256d 0x2500 0x252c 0x256e refl refl refl refl refl refl refl refl

round_bottom : AreRules (Some (line 0x2570 0x2500 0x2534 0x256f))
unfolding unicode_width
round_bottom = boxes 0x2570 0x2500 0x2534 0x256f refl refl refl refl refl refl refl refl

side : IsAdditiveColumn 0x2502
unfolding unicode_width
side = plain 0x2502 refl refl

modern_apart : (header : Bool) → KeepsApart (with_style new_config (headed header modern))
modern_apart header = either header modern no_rule box_top box_bottom box_inner side side side

sharp_apart : (header : Bool) → KeepsApart (with_style new_config (headed header sharp))
sharp_apart header = either header sharp box_inner box_top box_bottom no_rule side side side

rounded_apart : (header : Bool) → KeepsApart (with_style new_config (headed header rounded))
rounded_apart header = either header rounded box_inner round_top round_bottom no_rule side side side

modern_rounded_apart : (header : Bool) → KeepsApart (with_style new_config (headed header modern_rounded))
modern_rounded_apart header = either header modern_rounded no_rule round_top round_bottom box_inner side side side

ascii_rounded_apart : (header : Bool) → KeepsApart (with_style new_config (headed header ascii_rounded))
ascii_rounded_apart header =
    let dot = plain_column-printable 0x2e refl in
    let tick = plain_column-printable 0x27 refl in
    either header ascii_rounded no_rule (drawn 0x2e 0x2d 0x2d 0x2e dot dash dash dot) (drawn 0x27 0x2d 0x2d 0x27 tick dash dash tick) no_rule bar bar bar

extended_apart : (header : Bool) → KeepsApart (with_style new_config (headed header extended))
unfolding unicode_width
extended_apart header =
    let side = plain 0x2551 refl refl in
    either header extended no_rule (boxes 0x2554 0x2550 0x2566 0x2557 refl refl refl refl refl refl refl refl)
    (boxes 0x255a 0x2550 0x2569 0x255d refl refl refl refl refl refl refl refl) (boxes 0x2560 0x2550 0x256c 0x2563 refl refl refl refl refl refl refl refl)
    side side side

markdown_apart : (header : Bool) → KeepsApart (with_style new_config (headed header markdown))
markdown_apart header = either header markdown (drawn 0x7c 0x2d 0x7c 0x7c bar dash bar bar) no_rule no_rule no_rule bar bar bar

psql_apart : (header : Bool) → KeepsApart (with_style new_config (headed header psql))
psql_apart header =
    let ruled : HorizontalLine = record { main = Some 0x2d; left = None; intersection = Some 0x2b; right = None } in
    either header psql (a_rule ruled (record { main = dash; left = plain_column-space; intersection = plus; right = plain_column-space })) no_rule no_rule no_rule
    bar plain_column-space plain_column-space

re_structured_text_apart : (header : Bool) → KeepsApart (with_style new_config (headed header re_structured_text))
unfolding double
re_structured_text_apart header =
    either header re_structured_text equals equals equals no_rule plain_column-space plain_column-space plain_column-space

blank_apart : (header : Bool) → KeepsApart (with_style new_config (headed header blank))
blank_apart header = either header blank no_rule no_rule no_rule no_rule plain_column-space plain_column-space plain_column-space

empty_apart : (header : Bool) → KeepsApart (with_style new_config (headed header no_style))
empty_apart header = either header no_style no_rule no_rule no_rule no_rule plain_column-space plain_column-space plain_column-space

-- ---- alignments

-- where texts are placed in their cells doesn't matter
align_apart : (config : SpannedConfig) (style : Style) (alignments : Changes AlignmentHorizontal) → KeepsApart (with_style config style)
    → KeepsApart (with_style (record config { alignment_horizontal = alignments }) style)
unfolding style_at rule_at
align_apart config style alignments h rows count =
    let a = h rows count in
    record {
      margin_top = a.margin_top;
      margin_bottom = a.margin_bottom;
      rules = a.rules;
      cells = λ row b.
          let c = a.cells row b in
          record {
            styles = λ column k. let s = c.styles column k in record { left = s.left; right = s.right; top = s.top; bottom = s.bottom };
            bars = c.bars;
            gaps = c.gaps;
          };
      frame = a.frame;
    }

aligned_apart : (column : ℕ) (numbers : List ℕ) (config : SpannedConfig) (style : Style) → KeepsApart (with_style config style)
    → KeepsApart (with_style (with_alignments column numbers config) style)
aligned_apart column [] config style h = h
aligned_apart column (number ∷ numbers) config style h =
    let changed = with_change config.alignment_horizontal (Column column) (alignment_numbered number) in
    aligned_apart (suc column) numbers (record config { alignment_horizontal = changed }) style (align_apart config style changed h)

named_apart : (name : StyleName) (header : Bool) → KeepsApart (with_style new_config (headed header (style_of name)))
named_apart Ascii = ascii_apart
named_apart Modern = modern_apart
named_apart Sharp = sharp_apart
named_apart Rounded = rounded_apart
named_apart ModernRounded = modern_rounded_apart
named_apart AsciiRounded = ascii_rounded_apart
named_apart Extended = extended_apart
named_apart Markdown = markdown_apart
named_apart Psql = psql_apart
named_apart ReStructuredText = re_structured_text_apart
named_apart Blank = blank_apart
named_apart Empty = empty_apart

pub styles_apart : (name : StyleName) (header : Bool) (rows : ℕ) (alignments : List ℕ) → KeepsApart (settings (style_of name) header rows alignments)
styles_apart name header rows alignments =
    let below = draws_header header rows (style_of name) in
    aligned_apart 0 alignments new_config (headed below (style_of name)) (named_apart name below)
