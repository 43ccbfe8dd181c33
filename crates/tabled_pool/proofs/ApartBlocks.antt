-- The lines of a block of any text, which padding keeps apart from what is beside it.
use Rattle.tabled_pool.proofs.Names.{CellStyle, Closes, IsLine, IsSeparatorColumn, IsUtf8, List, [], arith, closes-append, closes-frame}
use Rattle.tabled_pool.proofs.Names.{closes-framed, coloured, fill, get_or, length, line-frame, lines_of, no_mark, pool_block, text_line, ℕ}
use Rattle.tabled_pool.proofs.Names.{◌<◌, ◌≤◌}
use Rattle.tabled_text.specs.FramedLines.{IsFrame}
use Rattle.tabled_text.proofs.Ends.{opens-append, opens-frame, Opens}
use Rattle.tabled_pool.proofs.Lines.{IsHeldText, cell, run, separator_lines, text-framed}
use Rattle.tabled_pool.proofs.PlainBlocks.{bare}
use Rattle.tabled_pool.proofs.PoolBlocks.{each_line}

-- a line of a block, which begins apart with a left padding, whatever follows, and ends apart with a right one
pub record IsBlockLine (s : CellStyle) (w : ℕ) (bs : List ℕ) : Type 0 where
  pub line : IsLine bs w
  pub opens : 0 < s.padding.left.size → Opens bs
  pub closes : 0 < s.padding.right.size → Closes bs

block-frame : (s : CellStyle) (w : ℕ) (bs : List ℕ) → s.padding.left.size ≤ w → IsFrame bs w → IsBlockLine s w bs
block-frame s w bs le p = record { line = line-frame p; opens = λ z. opens-frame p (omega arith); closes = λ _. closes-frame p }

held-text_line : (s : CellStyle) (w : ℕ) (text : List ℕ) (j : ℕ) → IsHeldText IsSeparatorColumn IsUtf8 s w text → j < length (lines_of text)
    → IsBlockLine s w (text_line s bare w text (get_or (lines_of text) j []))
held-text_line s w text j p l =
    let left = run separator_lines s.padding.left.fill s.padding.left.size p.style.left in
    let right = run separator_lines s.padding.right.fill s.padding.right.size p.style.right in
    record {
      line = text-framed separator_lines s w text j p l;
      opens = λ z. opens-append _ left.utf8 (opens-frame left z);
      closes = λ z. closes-append (line-frame left) (closes-frame left) (closes-framed (cell separator_lines s w text j p l) right z);
    }

pub held-block : (s : CellStyle) (w h k : ℕ) (text : List ℕ) → IsHeldText IsSeparatorColumn IsUtf8 s w text → k < h
    → IsBlockLine s w (get_or (pool_block s bare w h text) k [])
held-block s w h k text p n =
    let fits = p.fits in
    let le : s.padding.left.size ≤ w = omega arith in
    let end : (c : ℕ) → IsSeparatorColumn c → IsBlockLine s w (coloured no_mark (fill c w)) =
    λ c q. block-frame s w _ le (run separator_lines c w q) in
    each_line (IsBlockLine s w) s bare w h text k (block-frame s w _ le (separator_lines.fill 32 w separator_lines.space))
    (end s.padding.top.fill p.style.top) (end s.padding.bottom.fill p.style.bottom) (λ j l. held-text_line s w text j p l) n
