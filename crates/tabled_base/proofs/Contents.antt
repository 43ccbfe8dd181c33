-- The measures of the text of a cell, by the text as it is printed, and its only line.
use Rattle.tabled_base.proofs.Names.{List, [], ap, length, sym, ℕ, ◌∙◌, ◌∷◌, ◌≡◌}
use Rattle.tabled_base.specs.Content.{content_text}
use Rattle.tabled_base.specs.declared.content.Content.{Content}
use Rattle.tabled_text.proofs.Bridge.{lines_of-one, text_columns-one}
use Rattle.tabled_text.specs.LineEnds.{ended_text}
use Rattle.tabled_text.specs.Measure.{line_columns, lines_of, text_columns}

pub content-columns : (content : Content) (text : List ℕ) → content_text content ≡ text → content.columns ≡ text_columns text
content-columns content text e = content.columns_are ∙ ap text_columns e

pub content-lines : (content : Content) (text : List ℕ) → content_text content ≡ text → content.lines ≡ length (lines_of text)
content-lines content text e = content.lines_are ∙ ap (λ t. length (lines_of t)) e

-- a text of one line stands as it is printed
pub only-text : (content : Content) → content.lines ≡ 1 → content_text content ≡ content.text.now
only-text content one = ap (λ ends. ended_text ends content.text.now) (content.one_is one)

pub only-line : (content : Content) → content.lines ≡ 1 → lines_of (content_text content) ≡ content.text.now ∷ []
only-line content one =
    lines_of-one (content_text content) (sym content.lines_are ∙ one) ∙ ap (λ text. text ∷ []) (only-text content one)

pub only-columns : (content : Content) → content.lines ≡ 1 → content.columns ≡ line_columns content.text.now
only-columns content one =
    content.columns_are ∙ text_columns-one (content_text content) (sym content.lines_are ∙ one) ∙ ap line_columns (only-text content one)
