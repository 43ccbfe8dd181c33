-- The line of a text of one line.
use Rattle.tabled_line.proofs.Names.{Some, ap, length, line_columns, lines_of, lines_of-one, slice_get, sym, text_columns-one, ℕ, ◌∙◌, ◌≡◌}
use Rattle.tabled_base.specs.Content.{content_text}
use Rattle.tabled_base.specs.declared.content.Content.{Content}
use Rattle.tabled_text.specs.LineEnds.{ended_text}

-- one line is printed as it stands
pub line-stands : (content : Content) → content.lines ≡ 1 → content.text.now ≡ content_text content
line-stands content one = sym (ap (λ ends. ended_text ends content.text.now) (content.one_is one))

pub only-line : (content : Content) → content.lines ≡ 1 → length (lines_of (content_text content)) ≡ 1
only-line content one = sym content.lines_are ∙ one

pub line-first : (content : Content) (k : ℕ) → content.lines ≡ 1 → k ≡ 0
    → Some content.text.now ≡ slice_get (lines_of (content_text content)) k
line-first content k one first =
    ap Some (line-stands content one)
    ∙ sym (ap (slice_get (lines_of (content_text content))) first ∙ ap (λ ls. slice_get ls 0) (lines_of-one (content_text content) (only-line content one)))

pub columns-one : (content : Content) → content.lines ≡ 1 → content.columns ≡ line_columns content.text.now
columns-one content one =
    content.columns_are ∙ text_columns-one (content_text content) (only-line content one) ∙ sym (ap line_columns (line-stands content one))
